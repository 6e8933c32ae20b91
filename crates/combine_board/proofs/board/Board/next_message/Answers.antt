use Rattle.std.proofs.Common.{◌≡◌, length, slice_get, Some, sym, ap, ◌∙◌, arith}
use Rattle.std.proofs.lemmas.Option.{get_or_from_slice_get, same_Some}
use Rattle.combine_core.specs.Machine.{ahead_of}
use Rattle.combine_board.proofs.Calls.{IsAhead, what_is_ahead, ahead_within}
use Rattle.combine_board.proofs.board.Board.next_message.Goals as goal

pub index-requires : goal.index-requires
index-requires g c =
    let v = c.pass.inside.seat.me.0 in
    let slots = ap (λ p. p.board.plan.slots) c.pass.view_is ∙ ap (λ b. b.plan.slots) c.requires.of in
    let ahead : ahead_of v.slots v.worker ≡ Some c.args.index = ap (λ p. ahead_of v.slots p.worker) c.pass.view_is ∙ ap (λ os. ahead_of os c.args.pass.now.worker) slots ∙ c.requires.next in
    let a : IsAhead v c.args.index = what_is_ahead v c.pass.invariant.1.told c.args.index ahead in
    let here = ap (λ b. b.plan.slots) c.self.view_is ∙ sym slots in
    let within = ahead_within v c.args.index a in
    let long = ap length here in
    omega (arith, c.self.inside.task.slots.ok.0)

pub unreachable-requires-in_default-index : goal.unreachable-requires-in_default-index
unreachable-requires-in_default-index g c =
    let v = c.pass.inside.seat.me.0 in
    let slots = ap (λ p. p.board.plan.slots) c.pass.view_is ∙ ap (λ b. b.plan.slots) c.requires.of in
    let ahead : ahead_of v.slots v.worker ≡ Some c.args.index = ap (λ p. ahead_of v.slots p.worker) c.pass.view_is ∙ ap (λ os. ahead_of os c.args.pass.now.worker) slots ∙ c.requires.next in
    let a : IsAhead v c.args.index = what_is_ahead v c.pass.invariant.1.told c.args.index ahead in
    let here = ap (λ b. b.plan.slots) c.self.view_is ∙ sym slots in
    c.in_default-index.not-Some a.next.message (c.index.ensures ∙ get_or_from_slice_get c.self.inside.task.slots.items c.args.index (Some a.next.message) _ (ap (λ os. slice_get os c.args.index) here ∙ a.next.there))

pub overflow_add-passed : goal.overflow_add-passed
overflow_add-passed g c =
    let v = c.pass.inside.seat.me.0 in
    let slots = ap (λ p. p.board.plan.slots) c.pass.view_is ∙ ap (λ b. b.plan.slots) c.requires.of in
    let ahead : ahead_of v.slots v.worker ≡ Some c.args.index = ap (λ p. ahead_of v.slots p.worker) c.pass.view_is ∙ ap (λ os. ahead_of os c.args.pass.now.worker) slots ∙ c.requires.next in
    let within = ahead_within v c.args.index (what_is_ahead v c.pass.invariant.1.told c.args.index ahead) in
    let few = c.pass.invariant.1.told.setting.few_slots in
    omega arith

pub overflow_sub-passed : goal.overflow_sub-passed
overflow_sub-passed g c =
    let v = c.pass.inside.seat.me.0 in
    let slots = ap (λ p. p.board.plan.slots) c.pass.view_is ∙ ap (λ b. b.plan.slots) c.requires.of in
    let ahead : ahead_of v.slots v.worker ≡ Some c.args.index = ap (λ p. ahead_of v.slots p.worker) c.pass.view_is ∙ ap (λ os. ahead_of os c.args.pass.now.worker) slots ∙ c.requires.next in
    let a : IsAhead v c.args.index = what_is_ahead v c.pass.invariant.1.told c.args.index ahead in
    let claim = ap (λ h. h.claim) (same_Some _ _ (sym c.in-Some.is ∙ c.pass.invariant.1.last_is ∙ a.is_last)) in
    let behind = a.next.behind in
    omega arith

pub returns-clause-slot : goal.returns-clause-slot
returns-clause-slot g c =
    let v = c.pass.inside.seat.me.0 in
    let slots = ap (λ p. p.board.plan.slots) c.pass.view_is ∙ ap (λ b. b.plan.slots) c.requires.of in
    let ahead : ahead_of v.slots v.worker ≡ Some c.args.index = ap (λ p. ahead_of v.slots p.worker) c.pass.view_is ∙ ap (λ os. ahead_of os c.args.pass.now.worker) slots ∙ c.requires.next in
    let a : IsAhead v c.args.index = what_is_ahead v c.pass.invariant.1.told c.args.index ahead in
    let here = ap (λ b. b.plan.slots) c.self.view_is ∙ sym slots in
    let read = c.index.ensures ∙ get_or_from_slice_get c.self.inside.task.slots.items c.args.index (Some a.next.message) _ (ap (λ os. slice_get os c.args.index) here ∙ a.next.there) in
    let same : Some a.next.message ≡ Some c.in-Some-index.message = sym read ∙ c.in-Some-index.is in
    ap (λ os. slice_get os c.args.index) (sym slots) ∙ a.next.there ∙ ap Some same

pub returns-clause-passed : goal.returns-clause-passed
returns-clause-passed g c =
    let v = c.pass.inside.seat.me.0 in
    let slots = ap (λ p. p.board.plan.slots) c.pass.view_is ∙ ap (λ b. b.plan.slots) c.requires.of in
    let ahead : ahead_of v.slots v.worker ≡ Some c.args.index = ap (λ p. ahead_of v.slots p.worker) c.pass.view_is ∙ ap (λ os. ahead_of os c.args.pass.now.worker) slots ∙ c.requires.next in
    let a : IsAhead v c.args.index = what_is_ahead v c.pass.invariant.1.told c.args.index ahead in
    let claim = ap (λ h. h.claim) (same_Some _ _ (sym c.in-Some.is ∙ c.pass.invariant.1.last_is ∙ a.is_last)) in
    let within = a.next.within in
    omega arith

pub returns-clause-within : goal.returns-clause-within
returns-clause-within g c =
    let v = c.pass.inside.seat.me.0 in
    let slots = ap (λ p. p.board.plan.slots) c.pass.view_is ∙ ap (λ b. b.plan.slots) c.requires.of in
    let ahead : ahead_of v.slots v.worker ≡ Some c.args.index = ap (λ p. ahead_of v.slots p.worker) c.pass.view_is ∙ ap (λ os. ahead_of os c.args.pass.now.worker) slots ∙ c.requires.next in
    let a : IsAhead v c.args.index = what_is_ahead v c.pass.invariant.1.told c.args.index ahead in
    let claim = ap (λ h. h.claim) (same_Some _ _ (sym c.in-Some.is ∙ c.pass.invariant.1.last_is ∙ a.is_last)) in
    let behind = a.next.behind in
    let within = ahead_within v c.args.index a in
    let long = ap length slots in
    omega arith
