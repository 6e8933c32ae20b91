-- Image rule 1, target: units, jumps, calls and returns lead to instructions.
use Rattle.std.specs.Prelude.{◌≡◌, ◌≢◌, ℕ, ◌+◌, ◌<◌, List, [], ◌∷◌, length}
use Rattle.paris_code.specs.declared.instr.Instr.{Instr}
use Rattle.paris_code.specs.declared.instr.Instr.TheVariants as I
use Rattle.paris_code.specs.declared.program.Image.{Image}
use Rattle.paris_code.specs.Units.{starts_of, unit_of, IsInUnitOf}

-- starts in increasing order behind a first one, all below the end
abbrev pub AreOrdered : ℕ → List ℕ → ℕ → Type 0
AreOrdered first [] end = first < end
AreOrdered first (next ∷ starts) end = (first < next) × AreOrdered next starts end

-- there is a unit; the first starts at 0, and each has an instruction
abbrev pub AreStarts : List ℕ → ℕ → Type 0
AreStarts [] end = ⊥
AreStarts (first ∷ starts) end = (first ≡ 0) × AreOrdered first starts end

abbrev pub HasUnits : Image → Type 0
HasUnits image = AreStarts (starts_of image) (length image.code.items)

-- behind the instruction stands another one of its unit
abbrev pub GoesOn : Image → ℕ → Type 0
GoesOn image place = IsInUnitOf image (place + 1) place

-- jumps stay in their unit, called units exist, only returns, halts and jumps end a unit, and the
-- first unit has no return
abbrev pub KeepsTarget : Image → ℕ → Instr → Type 0
KeepsTarget image place (I.FrontJump target) = IsInUnitOf image target place
KeepsTarget image place (I.FrontJumpZero x target) = IsInUnitOf image target place × GoesOn image place
KeepsTarget image place (I.FrontJumpNonzero x target) = IsInUnitOf image target place × GoesOn image place
KeepsTarget image place (I.FrontCall unit) = (unit < length image.units.items) × GoesOn image place
KeepsTarget image place I.FrontReturn = unit_of image place ≢ 0
KeepsTarget image place I.FrontHalt = Unit {0}
KeepsTarget image place _ = GoesOn image place
