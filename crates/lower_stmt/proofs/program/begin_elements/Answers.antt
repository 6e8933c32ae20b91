use Rattle.std.proofs.Common.{arith}
use Rattle.lower_stmt.proofs.BegunElements.{begun_made}
use Rattle.lower_stmt.proofs.program.begin_elements.Goals as goal

pub field-requires : goal.field-requires
field-requires c = record { made = begun_made _ _ _ _ _ _ _ (omega arith) c.loop-element.invariant.made }
