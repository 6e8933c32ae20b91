use Rattle.std.proofs.Common.{◌+◌, ◌%◌, ◌^◌, length, min, max, bit_and, bit_or, bit_xor, sym, ap, ◌∙◌, subst}
use Rattle.combine_core.specs.Cells.{message_word}
use Rattle.combine_core.specs.Encodings.{combiner_of}
use Rattle.combine_core.specs.Kept.{IsSetting}
use Rattle.combine_board.specs.Values.{Plan}
use Rattle.combine_board.proofs.Calls.{task_plan, Stands, hand_asks}
use Rattle.combine_board.proofs.Passes.{adds, ands, ors, xors, mins, maxes, lasts}
use Rattle.combine_board.proofs.board.Board.hand_over.Goals as goal

pub fetch_add-requires : goal.fetch_add-requires
fetch_add-requires g c =
    let k = c.self.inside.table.shared.key in
    let a : Plan = task_plan (g.C.Combine.combines k.combiner) k.slots.items k.home.items in
    let now : Plan = c.args.self.now.plan in
    let s : Stands c.self.inside.table.shared.table_id.words now a = record {
      same = sym (ap (λ b. b.plan) c.self.view_is) ∙ ap (λ t. task_plan (g.C.Combine.combines t.combiner) t.slots.items t.home.items) (sym c.self.invariant.0);
      setting = subst (λ (p : Plan). IsSetting p.slots p.home) (ap (λ b. b.plan) c.self.view_is) c.self.invariant.2;
      wide = c.self.invariant.1 ∙ ap (λ b. length b.plan.home + 1) c.self.view_is;
    } in
    let is = ap (λ b. (combiner_of b.plan.kind).0) (sym c.self.view_is) ∙ ap (λ r. r.0) (sym c.kind-combiner.ensures) ∙ c.in-Add.is in
    hand_asks c.self.inside.table.shared.table_id.words now a c.self.inside.table.shared.table_id.slots c.args.seat.now.id c.args.index c.args.seat.now.me c.args.message c.encode-value.result (λ n. (n + c.encode-value.result) % 2 ^ 64)
    (c.requires.table ∙ sym (ap (λ b. b.id) c.self.view_is)) s c.requires.live c.requires.plan c.requires.next c.requires.slot
    (c.encode-value.ensures ∙ ap (λ b. message_word b.plan.kind c.args.message) c.self.view_is)
    (λ n. adds now.kind is n c.encode-value.result)

pub fetch_and-requires : goal.fetch_and-requires
fetch_and-requires g c =
    let k = c.self.inside.table.shared.key in
    let a : Plan = task_plan (g.C.Combine.combines k.combiner) k.slots.items k.home.items in
    let now : Plan = c.args.self.now.plan in
    let s : Stands c.self.inside.table.shared.table_id.words now a = record {
      same = sym (ap (λ b. b.plan) c.self.view_is) ∙ ap (λ t. task_plan (g.C.Combine.combines t.combiner) t.slots.items t.home.items) (sym c.self.invariant.0);
      setting = subst (λ (p : Plan). IsSetting p.slots p.home) (ap (λ b. b.plan) c.self.view_is) c.self.invariant.2;
      wide = c.self.invariant.1 ∙ ap (λ b. length b.plan.home + 1) c.self.view_is;
    } in
    let is = ap (λ b. (combiner_of b.plan.kind).0) (sym c.self.view_is) ∙ ap (λ r. r.0) (sym c.kind-combiner.ensures) ∙ c.in-And.is in
    hand_asks c.self.inside.table.shared.table_id.words now a c.self.inside.table.shared.table_id.slots c.args.seat.now.id c.args.index c.args.seat.now.me c.args.message c.encode-value.result (λ n. bit_and n c.encode-value.result)
    (c.requires.table ∙ sym (ap (λ b. b.id) c.self.view_is)) s c.requires.live c.requires.plan c.requires.next c.requires.slot
    (c.encode-value.ensures ∙ ap (λ b. message_word b.plan.kind c.args.message) c.self.view_is)
    (λ n. ands now.kind is n c.encode-value.result)

pub fetch_or-requires : goal.fetch_or-requires
fetch_or-requires g c =
    let k = c.self.inside.table.shared.key in
    let a : Plan = task_plan (g.C.Combine.combines k.combiner) k.slots.items k.home.items in
    let now : Plan = c.args.self.now.plan in
    let s : Stands c.self.inside.table.shared.table_id.words now a = record {
      same = sym (ap (λ b. b.plan) c.self.view_is) ∙ ap (λ t. task_plan (g.C.Combine.combines t.combiner) t.slots.items t.home.items) (sym c.self.invariant.0);
      setting = subst (λ (p : Plan). IsSetting p.slots p.home) (ap (λ b. b.plan) c.self.view_is) c.self.invariant.2;
      wide = c.self.invariant.1 ∙ ap (λ b. length b.plan.home + 1) c.self.view_is;
    } in
    let is = ap (λ b. (combiner_of b.plan.kind).0) (sym c.self.view_is) ∙ ap (λ r. r.0) (sym c.kind-combiner.ensures) ∙ c.in-Or.is in
    hand_asks c.self.inside.table.shared.table_id.words now a c.self.inside.table.shared.table_id.slots c.args.seat.now.id c.args.index c.args.seat.now.me c.args.message c.encode-value.result (λ n. bit_or n c.encode-value.result)
    (c.requires.table ∙ sym (ap (λ b. b.id) c.self.view_is)) s c.requires.live c.requires.plan c.requires.next c.requires.slot
    (c.encode-value.ensures ∙ ap (λ b. message_word b.plan.kind c.args.message) c.self.view_is)
    (λ n. ors now.kind is n c.encode-value.result)

pub fetch_xor-requires : goal.fetch_xor-requires
fetch_xor-requires g c =
    let k = c.self.inside.table.shared.key in
    let a : Plan = task_plan (g.C.Combine.combines k.combiner) k.slots.items k.home.items in
    let now : Plan = c.args.self.now.plan in
    let s : Stands c.self.inside.table.shared.table_id.words now a = record {
      same = sym (ap (λ b. b.plan) c.self.view_is) ∙ ap (λ t. task_plan (g.C.Combine.combines t.combiner) t.slots.items t.home.items) (sym c.self.invariant.0);
      setting = subst (λ (p : Plan). IsSetting p.slots p.home) (ap (λ b. b.plan) c.self.view_is) c.self.invariant.2;
      wide = c.self.invariant.1 ∙ ap (λ b. length b.plan.home + 1) c.self.view_is;
    } in
    let is = ap (λ b. (combiner_of b.plan.kind).0) (sym c.self.view_is) ∙ ap (λ r. r.0) (sym c.kind-combiner.ensures) ∙ c.in-Xor.is in
    hand_asks c.self.inside.table.shared.table_id.words now a c.self.inside.table.shared.table_id.slots c.args.seat.now.id c.args.index c.args.seat.now.me c.args.message c.encode-value.result (λ n. bit_xor n c.encode-value.result)
    (c.requires.table ∙ sym (ap (λ b. b.id) c.self.view_is)) s c.requires.live c.requires.plan c.requires.next c.requires.slot
    (c.encode-value.ensures ∙ ap (λ b. message_word b.plan.kind c.args.message) c.self.view_is)
    (λ n. xors now.kind is n c.encode-value.result)

pub fetch_min-requires : goal.fetch_min-requires
fetch_min-requires g c =
    let k = c.self.inside.table.shared.key in
    let a : Plan = task_plan (g.C.Combine.combines k.combiner) k.slots.items k.home.items in
    let now : Plan = c.args.self.now.plan in
    let s : Stands c.self.inside.table.shared.table_id.words now a = record {
      same = sym (ap (λ b. b.plan) c.self.view_is) ∙ ap (λ t. task_plan (g.C.Combine.combines t.combiner) t.slots.items t.home.items) (sym c.self.invariant.0);
      setting = subst (λ (p : Plan). IsSetting p.slots p.home) (ap (λ b. b.plan) c.self.view_is) c.self.invariant.2;
      wide = c.self.invariant.1 ∙ ap (λ b. length b.plan.home + 1) c.self.view_is;
    } in
    let is = ap (λ b. (combiner_of b.plan.kind).0) (sym c.self.view_is) ∙ ap (λ r. r.0) (sym c.kind-combiner.ensures) ∙ c.in-Min.is in
    hand_asks c.self.inside.table.shared.table_id.words now a c.self.inside.table.shared.table_id.slots c.args.seat.now.id c.args.index c.args.seat.now.me c.args.message c.encode-value.result (λ n. min n c.encode-value.result)
    (c.requires.table ∙ sym (ap (λ b. b.id) c.self.view_is)) s c.requires.live c.requires.plan c.requires.next c.requires.slot
    (c.encode-value.ensures ∙ ap (λ b. message_word b.plan.kind c.args.message) c.self.view_is)
    (λ n. mins now.kind is n c.encode-value.result)

pub fetch_max-requires : goal.fetch_max-requires
fetch_max-requires g c =
    let k = c.self.inside.table.shared.key in
    let a : Plan = task_plan (g.C.Combine.combines k.combiner) k.slots.items k.home.items in
    let now : Plan = c.args.self.now.plan in
    let s : Stands c.self.inside.table.shared.table_id.words now a = record {
      same = sym (ap (λ b. b.plan) c.self.view_is) ∙ ap (λ t. task_plan (g.C.Combine.combines t.combiner) t.slots.items t.home.items) (sym c.self.invariant.0);
      setting = subst (λ (p : Plan). IsSetting p.slots p.home) (ap (λ b. b.plan) c.self.view_is) c.self.invariant.2;
      wide = c.self.invariant.1 ∙ ap (λ b. length b.plan.home + 1) c.self.view_is;
    } in
    let is = ap (λ b. (combiner_of b.plan.kind).0) (sym c.self.view_is) ∙ ap (λ r. r.0) (sym c.kind-combiner.ensures) ∙ c.in-Max.is in
    hand_asks c.self.inside.table.shared.table_id.words now a c.self.inside.table.shared.table_id.slots c.args.seat.now.id c.args.index c.args.seat.now.me c.args.message c.encode-value.result (λ n. max n c.encode-value.result)
    (c.requires.table ∙ sym (ap (λ b. b.id) c.self.view_is)) s c.requires.live c.requires.plan c.requires.next c.requires.slot
    (c.encode-value.ensures ∙ ap (λ b. message_word b.plan.kind c.args.message) c.self.view_is)
    (λ n. maxes now.kind is n c.encode-value.result)

pub fetch_max-requires-in-Last : goal.fetch_max-requires-in-Last
fetch_max-requires-in-Last g c =
    let k = c.self.inside.table.shared.key in
    let a : Plan = task_plan (g.C.Combine.combines k.combiner) k.slots.items k.home.items in
    let now : Plan = c.args.self.now.plan in
    let s : Stands c.self.inside.table.shared.table_id.words now a = record {
      same = sym (ap (λ b. b.plan) c.self.view_is) ∙ ap (λ t. task_plan (g.C.Combine.combines t.combiner) t.slots.items t.home.items) (sym c.self.invariant.0);
      setting = subst (λ (p : Plan). IsSetting p.slots p.home) (ap (λ b. b.plan) c.self.view_is) c.self.invariant.2;
      wide = c.self.invariant.1 ∙ ap (λ b. length b.plan.home + 1) c.self.view_is;
    } in
    let is = ap (λ b. (combiner_of b.plan.kind).0) (sym c.self.view_is) ∙ ap (λ r. r.0) (sym c.kind-combiner.ensures) ∙ c.in-Last.is in
    hand_asks c.self.inside.table.shared.table_id.words now a c.self.inside.table.shared.table_id.slots c.args.seat.now.id c.args.index c.args.seat.now.me c.args.message c.encode-value.result (λ n. max n c.encode-value.result)
    (c.requires.table ∙ sym (ap (λ b. b.id) c.self.view_is)) s c.requires.live c.requires.plan c.requires.next c.requires.slot
    (c.encode-value.ensures ∙ ap (λ b. message_word b.plan.kind c.args.message) c.self.view_is)
    (λ n. lasts now.kind is n c.encode-value.result)
