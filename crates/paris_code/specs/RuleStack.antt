-- Image rule 3, stack: how calls may be nested.
use Rattle.std.specs.Prelude.{ℕ, ◌<◌}
use Rattle.paris_code.specs.declared.instr.Instr.{Instr}
use Rattle.paris_code.specs.declared.instr.Instr.TheVariants as I
use Rattle.paris_code.specs.declared.program.Image.{Image}
use Rattle.paris_code.specs.Units.{unit_of, Path}

-- a call lies on no cycle of calls, and each chain of calls from unit 0 that ends with it has at
-- most `depth` calls
abbrev pub KeepsStack : Image → ℕ → Instr → Type 0
KeepsStack image place (I.FrontCall unit) =
    ((calls : ℕ) → ¬ Path image calls unit (unit_of image place))
    × ((calls : ℕ) → Path image calls 0 (unit_of image place) → calls < image.depth)
KeepsStack image place _ = Unit {0}
