use Rattle.field_alloc.proofs.Chained.{callers_below}
use Rattle.field_alloc.proofs.laws.callers_lie_below.Goals as goal

pub returns : goal.returns
returns c = callers_below
