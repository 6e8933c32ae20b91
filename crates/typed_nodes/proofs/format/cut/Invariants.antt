use Rattle.typed_nodes.proofs.Cuts.{IsCutTo}
use Rattle.typed_nodes.proofs.format.cut.Given as goal

abbrev pub invariant-loop-byte : goal.invariant-loop-byte
invariant-loop-byte l = IsCutTo l.text l.byte-index l.pieces.items l.literal.items l.after_percent l.conversions
