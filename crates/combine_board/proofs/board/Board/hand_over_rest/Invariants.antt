use Rattle.std.proofs.Common.{◌≡◌, ◌-◌, take, drop}
use Rattle.combine_core.specs.Machine.{first_message, next_in}
use Rattle.combine_board.specs.Values.{with_last}
use Rattle.combine_board.specs.Rule.{view_with, IsTold}
use Rattle.combine_board.proofs.board.Board.hand_over_rest.Given as goal

abbrev pub invariant-slots : goal.invariant-slots
invariant-slots g l = record {
  table : l.seat.table_id ≡ l.initial.seat.table_id;
  me : l.seat.me ≡ (view_with l.initial.seat.me.0 (with_last l.last l.initial.seat.me.0.worker), l.initial.seat.me.1);
  told : IsTold l.seat.me.0;
  claim : l.last.claim ≡ l.held.claim;
  ahead : next_in l.self.plan.slots l.last ≡ first_message l.index (take (l.end - l.index) (drop l.index l.self.plan.slots));
}
