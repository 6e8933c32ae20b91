use Rattle.std.proofs.Common.{length}
use Rattle.elementwise.proofs.columns.+addresses.Given as goal

abbrev pub decreases-addresses : goal.decreases-addresses
decreases-addresses l = length l.extents.now
