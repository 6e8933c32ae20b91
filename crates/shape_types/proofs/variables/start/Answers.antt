use Rattle.std.proofs.Common.{◌∙◌, sym}
use Rattle.shape_types.proofs.variables.start.Goals as goal

pub returns-in-Some-constant : goal.returns-in-Some-constant
returns-in-Some-constant c =
    rw (c.in-Some.is, c.in-Some-initial.is) (c.in-Some-value.value, c.in_ok-value.value.value, c.in-Some-value.is, rw c.in-Some-value.is at c.in_ok-value.ensures, rw c.deref.ensures at (sym c.constant.ensures.word ∙ c.in-Some-constant.is))
