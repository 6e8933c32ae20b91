-- The order of the positions of a line, in a direction along its axis.
use Rattle.std.specs.Prelude.{ℕ, ◌-◌}
use Rattle.cstar_base.specs.declared.operators.Direction.{Direction}
use Rattle.cstar_base.specs.declared.operators.Direction.TheVariants as D

-- how many coordinates of a line lie before one in the direction; and the coordinate before which
-- so many lie
abbrev pub steps_before : Direction → ℕ → ℕ → ℕ
steps_before D.Upward extent k = k
steps_before D.Downward extent k = extent - 1 - k
