-- Image rule 4, back edge: each way back, and each call, costs a turn.
use Rattle.std.specs.Prelude.{◌≡◌, ◌≢◌, ℕ, ◌+◌, ◌≤◌, Some}
use Rattle.paris_code.specs.declared.instr.Instr.{Instr}
use Rattle.paris_code.specs.declared.instr.Instr.TheVariants as I
use Rattle.paris_code.specs.declared.program.Image.{Image}
use Rattle.paris_code.specs.Rows.{target_of}
use Rattle.paris_code.specs.Units.{unit_of, IsAt}

-- the instruction is no jump that leads to a place
abbrev pub IsNoJumpTo : ℕ → Instr → Type 0
IsNoJumpTo place instr = target_of instr ≢ Some place

-- no jump of the image leads to the place
abbrev pub IsNoTarget : Image → ℕ → Type 0
IsNoTarget image place = (from : ℕ) (jump : Instr) → IsAt image from jump → IsNoJumpTo place jump

-- directly before the place stands a turn of its unit
abbrev pub IsBehindTurn : Image → ℕ → Type 0
IsBehindTurn image place =
    (before : ℕ) × (before + 1 ≡ place) × IsAt image before I.FrontTurn × (unit_of image before ≡ unit_of image place)

-- a jump that does not lead forward leads to a turn
abbrev pub GoesBackToTurn : Image → ℕ → ℕ → Type 0
GoesBackToTurn image place target = target ≤ place → IsAt image target I.FrontTurn

abbrev pub KeepsBackEdge : Image → ℕ → Instr → Type 0
KeepsBackEdge image place (I.FrontJump target) = GoesBackToTurn image place target
KeepsBackEdge image place (I.FrontJumpZero x target) = GoesBackToTurn image place target
KeepsBackEdge image place (I.FrontJumpNonzero x target) = GoesBackToTurn image place target
KeepsBackEdge image place (I.FrontCall unit) = IsBehindTurn image place × IsNoTarget image place
KeepsBackEdge image place _ = Unit {0}
