use Rattle.std.proofs.Common.{◌≡◌, ◌≤◌, length, drop}
use Rattle.lower_base.specs.Drafts.{IsMade, draft}
use Rattle.lower_expr.specs.Steps.{pieces_printed}
use Rattle.lower_expr.proofs.steps.print_pieces.Given as goal

-- the pieces that are left, from here on, give the whole
abbrev pub invariant-loop-piece : goal.invariant-loop-piece
invariant-loop-piece l = record {
  in_range : l.next ≤ length l.values;
  made : IsMade (pieces_printed (drop l.piece-index l.pieces) (drop l.next l.values) (draft l.u));
  whole : pieces_printed (drop l.piece-index l.pieces) (drop l.next l.values) (draft l.u) ≡ pieces_printed l.pieces l.values (draft l.fn.u);
}
