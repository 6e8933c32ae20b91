use Rattle.std.proofs.Common.{◌≡◌, ◌+◌, ◌*◌, min, length, slice_get, Some, sym, ap, ◌∙◌, subst, arith}
use Rattle.std.proofs.lemmas.Option.{slice_get-get_or, get_or_from_slice_get}
use Rattle.combine_core.specs.Machine.{held, next_in, ahead_of}
use Rattle.combine_board.specs.Values.{Plan, with_last}
use Rattle.combine_board.specs.Rule.{view_with, IsTold}
use Rattle.combine_board.proofs.Rest.{rest_ahead, rest_delivered, rest_next, rest_empty}
use Rattle.combine_board.proofs.board.Board.hand_over_rest.Goals as goal
use Rattle.combine_board.proofs.board.Board.hand_over_rest.Goals.{in-Some, in_default}

pub hand_over-requires-clause-slot : goal.hand_over-requires-clause-slot
hand_over-requires-clause-slot g c =
    let here = c.as_slice-slots.ensures.value ∙ ap (λ b. b.plan.slots) c.self.view_is in
    ap (λ os. slice_get os c.slots.index) (sym here) ∙ slice_get-get_or c.as_slice-slots.result.now c.slots.index _ (omega arith) ∙ ap Some c.in-Some.is

pub hand_over-requires-clause-next : goal.hand_over-requires-clause-next
hand_over-requires-clause-next g c =
    let os = c.args.self.now.plan.slots in
    let here = c.as_slice-slots.ensures.value ∙ ap (λ b. b.plan.slots) c.self.view_is in
    let slot = ap (λ os. slice_get os c.slots.index) (sym here) ∙ slice_get-get_or c.as_slice-slots.result.now c.slots.index _ (omega arith) ∙ ap Some c.in-Some.is in
    ap (λ m. ahead_of os m.0.worker) c.slots.invariant.me ∙ c.slots.invariant.ahead
    ∙ rest_next os c.slots.index c.min-end.result c.in-Some.message c.slots-test.true (omega (arith, ap length here)) slot

pub slots-preserved : goal.slots-preserved
slots-preserved g c =
    let os = c.args.self.now.plan.slots in
    let i = c.slots.index in
    let v = c.args.seat.now.me.0 in
    let here = c.as_slice-slots.ensures.value ∙ ap (λ b. b.plan.slots) c.self.view_is in
    let end : c.min-end.result ≡ min (length os) (512 * c.args.held.claim + 512) = omega (arith, c.min-end.ensures, ap length here) in
    elim c.match-slots-index.branch [
      | in-Some w ↦
          let slot = ap (λ os. slice_get os i) (sym here) ∙ slice_get-get_or c.as_slice-slots.result.now i _ (omega arith) ∙ ap Some w.in-Some.is in
          let next = c.slots.invariant.ahead ∙ rest_next os i c.min-end.result w.in-Some.message c.slots-test.true (omega (arith, end)) slot in
          let own = ap (λ (p : Plan). next_in p.slots c.slots.last) c.requires.plan ∙ next in
          let new = ap (λ s. s.me) w.seat-is ∙ w.hand_over.ensures.told.0 in
          record {
            table = ap (λ s. s.table_id) w.seat-is ∙ w.hand_over.ensures.table ∙ c.slots.invariant.table;
            me = rest_delivered v c.args.seat.now.me.1 c.slots.seat.me c.match-slots-index.seat.me c.slots.last c.args.held.claim c.match-slots-index.last.passed i c.slots.invariant.me own new c.slots.invariant.claim (omega (arith, ap (λ h. h.passed) w.last-is))
                ∙ ap (λ n. (view_with v (with_last (held n c.match-slots-index.last.passed) v.worker), c.args.seat.now.me.1)) (sym (ap (λ h. h.claim) w.last-is));
            told = subst (λ m. IsTold m.0) (sym new) w.hand_over.ensures.told.1;
            claim = ap (λ h. h.claim) w.last-is;
            ahead = ap (next_in os) w.last-is ∙ rest_ahead os c.args.held.claim _ i c.min-end.result (omega arith) (omega arith) c.slots-test.true end;
          }
      | in_default w ↦
          let none = rest_empty os i c.min-end.result c.slots-test.true (omega (arith, end)) (λ m e. w.in_default.not-Some m (get_or_from_slice_get c.as_slice-slots.result.now i _ _ (ap (λ os. slice_get os i) here ∙ e))) in
          record {
            table = ap (λ s. s.table_id) w.seat-is ∙ c.slots.invariant.table;
            me = ap (λ s. s.me) w.seat-is ∙ c.slots.invariant.me ∙ ap (λ h. (view_with v (with_last h v.worker), c.args.seat.now.me.1)) (sym w.last-is);
            told = subst (λ s. IsTold s.me.0) (sym w.seat-is) c.slots.invariant.told;
            claim = ap (λ h. h.claim) w.last-is ∙ c.slots.invariant.claim;
            ahead = ap (next_in os) w.last-is ∙ c.slots.invariant.ahead ∙ none;
          }
    ]
