-- How control goes through the code of a unit: where its jumps lead, what stands before a call, and with
-- what it ends.
use Rattle.std.specs.Prelude.{◌≡◌, ◌≢◌, ◌<◌, ◌≤◌, ◌==◌, ℕ, ◌+◌, Bool, true, false, List, length, slice_get, Option, Some, None}
use Rattle.cstar_tree.specs.declared.typed.Instance.{Instance}
use Rattle.cstar_tree.specs.declared.typed.Typed.{Typed}
use Rattle.paris_code.specs.declared.instr.Instr.TheVariants as I
use Rattle.paris_code.specs.Rows.{target_of}
use Rattle.lower_base.specs.Drafts.{Draft, Step, Plain}
use Rattle.lower_stmt.specs.Programs.{units_of}
use Rattle.code_lengths.specs.Ready.{IsCodable}
use Rattle.proper_code.specs.Loops.{BreaksStandInLoops}

-- where a step may lead instead of behind itself
unfoldable pub target_in : Step → Option ℕ
target_in (Plain instr) = target_of instr
target_in _ = None

-- a return or a halt
unfoldable pub ends_unit : Step → Bool
ends_unit (Plain I.FrontReturn) = true
ends_unit (Plain I.FrontHalt) = true
ends_unit _ = false

-- may control go on behind the step
unfoldable pub goes_on : Step → Bool
goes_on (Plain (I.FrontJump target)) = false
goes_on (Plain I.FrontReturn) = false
goes_on (Plain I.FrontHalt) = false
goes_on _ = true

-- the step at a place of the code
abbrev pub Stands : List Step → ℕ → Step → Type 0
Stands code place s = slice_get code place ≡ Some s

-- directly before the place stands a turn
abbrev pub IsBehindTurn : List Step → ℕ → Type 0
IsBehindTurn code place = (before : ℕ) × (before + 1 ≡ place) × Stands code before (Plain I.FrontTurn)

-- The code of a unit of a program that has so many: a jump leads to an instruction of the unit, and to a
-- turn where it does not lead forward; a call is of a unit, stands behind a turn, and no jump leads there;
-- what may go on has an instruction behind it; `main` alone halts, and all others return.
pub record KeepsControl (units : ℕ) (is_main : Bool) (code : List Step) : Type 0 where
  pub begins : 0 < length code
  pub jumps : (place target : ℕ) (s : Step) → Stands code place s → target_in s ≡ Some target →
      (target < length code) × (target ≤ place → Stands code target (Plain I.FrontTurn))
  pub calls : (place called : ℕ) → Stands code place (Plain (I.FrontCall called)) →
      (called < units) × IsBehindTurn code place × ((from : ℕ) (s : Step) → Stands code from s → target_in s ≢ Some place)
  pub ends : (place : ℕ) (s : Step) → Stands code place s → goes_on s ≡ true → place + 1 < length code
  pub returns : (place : ℕ) → Stands code place (Plain I.FrontReturn) → is_main ≡ false
  pub halts : (place : ℕ) → Stands code place (Plain I.FrontHalt) → is_main ≡ true

-- the unit of each instance does, in a program whose instances have code
abbrev pub UnitsKeepControl : Type 0
UnitsKeepControl =
    (t : Typed) (words : List ℕ) (regs number : ℕ) (instance : Instance) (unit : Draft) → IsCodable t → BreaksStandInLoops t →
    slice_get t.instances.items number ≡ Some instance → slice_get (units_of t words t.instances.items 0 regs) number ≡ Some unit →
    KeepsControl (length t.instances.items) (number == 0) unit.code
