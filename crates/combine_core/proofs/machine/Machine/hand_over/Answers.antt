use Rattle.std.proofs.Common.{◌≡◌, ◌*◌, ◌<◌, ◌≤◌, length, get_or, None, IfSome, Option, sym, ap, ◌∙◌, subst, arith}
use Rattle.combine_core.specs.declared.worker.Worker.{Worker}
use Rattle.combine_core.specs.declared.worker.Held.{Held}
use Rattle.combine_core.specs.Machine.{State, worker_at, spent, deliver}
use Rattle.combine_core.proofs.Steps.{made, slot_read, target_of, slot_within, last_behind, read_default, deliver_is}
use Rattle.combine_core.proofs.machine.Machine.hand_over.Goals as goal

pub index-requires : goal.index-requires
index-requires g c =
    let b = slot_within c.args.self.now c.args.w c.args.index c.requires.kept c.requires.ahead in
    let e = ap (λ (s : State). length s.slots) c.self.view_is in
    omega (arith, c.self.inside.slots.ok.0)

pub unreachable-requires : goal.unreachable-requires
unreachable-requires g c =
    let e = ap (λ (s : State). s.slots) c.self.view_is in
    let r = slot_read c.args.self.now c.args.w c.args.index c.requires.kept c.requires.ahead c.index.result.now (c.index.ensures ∙ ap (λ xs. get_or xs c.args.index c.index.result.now) e) in
    c.in_default.not-Some r.message r.is

pub index-requires-2 : goal.index-requires-2
index-requires-2 g c =
    let e = ap (λ (s : State). s.slots) c.self.view_is in
    let b = target_of c.args.self.now c.args.w c.args.index c.requires.kept c.requires.ahead c.index.result.now (c.index.ensures ∙ ap (λ xs. get_or xs c.args.index c.index.result.now) e) c.in-Some.message c.in-Some.is in
    let f = ap (λ (s : State). length s.cells) c.self.view_is in
    omega (arith, c.self.inside.cells.ok.0)

pub index_mut-requires : goal.index_mut-requires
index_mut-requires g c =
    let e = ap (λ (s : State). s.slots) c.self.view_is in
    let b = target_of c.args.self.now c.args.w c.args.index c.requires.kept c.requires.ahead c.index.result.now (c.index.ensures ∙ ap (λ xs. get_or xs c.args.index c.index.result.now) e) c.in-Some.message c.in-Some.is in
    let f = ap (λ (s : State). length s.cells) c.self.view_is in
    omega (arith, c.self.inside.cells.ok.0)

pub pass-requires-clause-end : goal.pass-requires-clause-end
pass-requires-clause-end g c =
    let b = slot_within c.args.self.now c.args.w c.args.index c.requires.kept c.requires.ahead in
    let few = c.requires.kept.setting.few_slots in
    omega arith

pub pass-requires-clause-behind : goal.pass-requires-clause-behind
pass-requires-clause-behind g c =
    let here = read_default c.self.inside.workers.items c.args.w c.index_mut-2.result.now spent (made c.self.inside.workers.items c.args.w (ap (λ (s : State). (worker_at s c.args.w).live) c.self.view_is ∙ c.requires.live)) c.index_mut-2.ensures.value in
    let is : (worker_at c.args.self.now c.args.w).last ≡ c.index_mut-2.result.now.last = ap (λ (s : State). (worker_at s c.args.w).last) (sym c.self.view_is) ∙ ap (λ (v : Worker). v.last) here in
    subst (λ (o : Option Held). IfSome o (λ h. 512 * h.claim ≤ c.args.index)) is (last_behind c.args.self.now c.args.w c.args.index c.requires.kept c.requires.ahead)

pub returns : goal.returns
returns g c =
    let in_cells : c.in-Some.message.target < length c.self.inside.cells.items = (
    let e = ap (λ (s : State). s.slots) c.self.view_is in
    let b = target_of c.args.self.now c.args.w c.args.index c.requires.kept c.requires.ahead c.index.result.now (c.index.ensures ∙ ap (λ xs. get_or xs c.args.index c.index.result.now) e) c.in-Some.message c.in-Some.is in
    let f = ap (λ (s : State). length s.cells) c.self.view_is in
    omega arith) in
    let in_slots : c.args.index < length c.self.inside.slots.items = (
    let b = slot_within c.args.self.now c.args.w c.args.index c.requires.kept c.requires.ahead in
    let e = ap (λ (s : State). length s.slots) c.self.view_is in
    omega arith) in
    let slot = read_default c.self.inside.slots.items c.args.index c.index.result.now None in_slots c.index.ensures in
    let cell = read_default c.self.inside.cells.items c.in-Some.message.target c.index-2.result.now 0 in_cells c.index-2.ensures in
    let here = read_default c.self.inside.workers.items c.args.w c.index_mut-2.result.now spent (made c.self.inside.workers.items c.args.w (ap (λ (s : State). (worker_at s c.args.w).live) c.self.view_is ∙ c.requires.live)) c.index_mut-2.ensures.value in
    deliver_is _ c.args.w c.args.index c.in-Some.message c.join.result c.encode-word.result c.index-2.result.now c.index_mut-2.result.now c.pass.new.self (slot ∙ c.in-Some.is) c.encode-word.ensures (sym cell) c.join.ensures (sym here) c.pass.ensures
    ∙ ap (λ (s : State). deliver s c.args.w c.args.index) c.self.view_is
