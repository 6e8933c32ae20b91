-- A whole program: what each unit, each set and each final variable is.
use Rattle.std.specs.Prelude.{◌≡◌, ℕ, zero, suc, ◌+◌, ◌==◌, Bool, true, false, List, [], ◌∷◌, ◌++◌, length, Option, Some, None, slice_get, if◌then◌else◌, decimal}
use Rattle.cstar_tree.specs.declared.typed.Instance.{Instance}
use Rattle.cstar_tree.specs.declared.typed.ShapeInfo.{ShapeInfo}
use Rattle.cstar_tree.specs.declared.typed.Typed.{Typed}
use Rattle.cstar_tree.specs.declared.typed.VarInfo.{VarInfo}
use Rattle.cstar_tree.specs.declared.typed.Variable.TheVariants as V
use Rattle.paris_code.specs.declared.instr.Instr.TheVariants as I
use Rattle.paris_code.specs.declared.operands.Konst.TheVariants as K
use Rattle.paris_code.specs.declared.program.Final.{Final}
use Rattle.paris_code.specs.declared.program.Owner.TheVariants as W
use Rattle.paris_code.specs.declared.program.ShapeBits.{ShapeBits}
use Rattle.lower_base.specs.Drafts.{Draft, Made, Makes, Fails, IsMade, then_make, with_instr, an_entry}
use Rattle.lower_base.specs.Layouts.{Layout, layout_of, entries_of, register_of, field_of}
use Rattle.lower_stmt.specs.declared.statement.Frame.{Frame}
use Rattle.lower_stmt.specs.declared.statement.Outcome.{Outcome}
use Rattle.lower_stmt.specs.declared.statement.Outcome.TheVariants as R
use Rattle.lower_stmt.specs.Statements.{body_of, ended}

-- a unit that has nothing yet but its name, whose registers begin here
unfoldable pub blank : List ℕ → ℕ → Draft
blank name regs = record { name = name; code = []; regs = regs; fields = []; homes = [] }

-- a parallel parameter or result has a field of its own
unfoldable pub own_field_of : VarInfo → Draft → Made (Unit {0})
own_field_of info d = elim info.shape [ None ↦ Makes tt d | Some s ↦ then_make (an_entry s info.elem.bits W.Own d) (λ _ after. Makes tt after) ]

unfoldable pub own_fields_of : List VarInfo → Draft → Made (Unit {0})
own_fields_of [] d = Makes tt d
own_fields_of (info ∷ infos) d = then_make (own_field_of info d) (λ _ after. own_fields_of infos after)

unfoldable pub own_result_of : Option VarInfo → Draft → Made (Unit {0})
own_result_of None d = Makes tt d
own_result_of (Some info) d = own_field_of info d

-- what a function with such a result gives back
unfoldable pub outcome_of : Option VarInfo → Outcome
outcome_of None = R.Nothing
outcome_of (Some info) = elim info.shape [ None ↦ R.Scalar | Some s ↦ R.Parallel ]

-- so many elements of a variable of the file, from one on, take a value at every position
unfoldable pub elements_begun : Typed → Layout → ℕ → ℕ → ℕ → ℕ → Draft → Made (Unit {0})
elements_begun t l number value zero element d = Makes tt d
elements_begun t l number value (suc left) element d =
    then_make (field_of t l (V.File number) element d)
    (λ dest after. elements_begun t l number value left (element + 1) (with_instr (I.MoveConstant dest (K.Imm value)) after))

-- a scalar variable of the file takes its value in its type
unfoldable pub scalar_begun : Layout → VarInfo → ℕ → Draft → Draft
scalar_begun l info number d =
    let dest = register_of l (V.File number) in
    with_instr (I.FrontConvert dest dest info.elem) (with_instr (I.FrontConst dest info.start) d)

-- a variable of the file takes the value that it begins with, unless that is zero
unfoldable pub start_value_of : Typed → Layout → VarInfo → ℕ → Draft → Made (Unit {0})
start_value_of t l info number d =
    if info.start == 0 then Makes tt d else elim info.shape [
      | None ↦ Makes tt (scalar_begun l info number d)
      | Some s ↦ elements_begun t l number info.start (entries_of info) 0 d
    ]

-- the variables of the file from a number on
unfoldable pub start_values_of : Typed → Layout → List VarInfo → ℕ → Draft → Made (Unit {0})
start_values_of t l [] number d = Makes tt d
start_values_of t l (info ∷ infos) number d =
    then_make (start_value_of t l info number d) (λ _ after. start_values_of t l infos (number + 1) after)

-- constants put in registers, from this one on
unfoldable pub constants_put : List ℕ → ℕ → Draft → Draft
constants_put [] r d = d
constants_put (word ∷ words) r d = constants_put words (r + 1) (with_instr (I.FrontConst r word) d)

-- `main` begins with the constants, and with the values of the file's variables
unfoldable pub begun : Typed → Layout → Bool → Draft → Made (Unit {0})
begun t l true d = start_values_of t l t.vars.items 0 (constants_put l.constants l.end d)
begun t l false d = Makes tt d

-- where a body stands: in no loop, and no context is saved
unfoldable pub body_frame : Bool → Instance → Frame
body_frame is_main instance = record {
  is_main = is_main;
  outcome = outcome_of instance.result;
  after = 0;
  next = 0;
  saved = record { in_loop = 0; in_all = 0 };
}

-- the unit of an instance
unfoldable pub unit_of : Typed → Layout → Bool → ℕ → Instance → Made (Unit {0})
unit_of t l is_main regs instance =
    then_make (own_fields_of instance.params.items (blank instance.name regs)) (λ _ d. then_make (own_result_of instance.result d)
    (λ _ ready. then_make (begun t l is_main ready) (λ _ start. then_make (body_of t l (body_frame is_main instance) instance.body start)
    (λ _ end. Makes tt (ended is_main instance.body end)))))

-- There is code for each instance, whichever numbers stand in registers, and from whichever register
-- on those of its unit begin.
abbrev pub HasEveryUnit : Typed → Type 0
HasEveryUnit t =
    (words : List ℕ) (number regs : ℕ) (instance : Instance) → slice_get t.instances.items number ≡ Some instance →
    IsMade (unit_of t (layout_of t words number) (number == 0) regs instance)

-- a unit, and those that come behind it
unfoldable pub joined : Made (Unit {0}) → (Draft → List Draft) → List Draft
joined (Makes _ d) rest = d ∷ rest d
joined Fails rest = []

-- The units of instances, from a number and a register on. The first is `main`. The registers of
-- a unit begin behind those of the one before.
unfoldable pub units_of : Typed → List ℕ → List Instance → ℕ → ℕ → List Draft
units_of t words [] number regs = []
units_of t words (instance ∷ instances) number regs =
    joined (unit_of t (layout_of t words number) (number == 0) regs instance) (λ d. units_of t words instances (number + 1) d.regs)

-- the first register behind units
unfoldable pub slots_behind : ℕ → List Draft → ℕ
slots_behind regs [] = regs
slots_behind regs (u ∷ units) = slots_behind u.regs units

-- how many instructions units have together
unfoldable pub instructions_in : List Draft → ℕ
instructions_in [] = 0
instructions_in (u ∷ units) = length u.code + instructions_in units

-- a set: the extents of its shape, and the bits of each processor
pub record Space : Type 0 where
  pub extents : List ℕ
  pub bits : ℕ

unfoldable pub space : ShapeBits → Space
space s = record { extents = s.extents.items; bits = s.bits }

-- the sets of shapes, by the room that each needs
unfoldable pub spaces_of : List ShapeInfo → List ℕ → List Space
spaces_of [] needs = []
spaces_of (shape ∷ shapes) [] = []
spaces_of (shape ∷ shapes) (need ∷ needs) = record { extents = shape.extents.items; bits = need } ∷ spaces_of shapes needs

-- the name of a variable, and for an element of an array its number in square brackets
unfoldable pub final_name_of : VarInfo → ℕ → List ℕ
final_name_of info element = elim info.array [ None ↦ info.name | Some n ↦ info.name ++ 91 ∷ [] ++ decimal element ++ 93 ∷ [] ]

unfoldable pub final_of : VarInfo → ℕ → ℕ → ℕ → Final
final_of info set element number = record {
  name = final_name_of info element;
  elem = info.elem;
  field = record { set = set; offset = number; len = info.elem.bits };
}

-- so many elements of a variable, from one on and from a number of a field on
unfoldable pub element_finals : VarInfo → ℕ → ℕ → ℕ → ℕ → List Final
element_finals info set zero element number = []
element_finals info set (suc left) element number = final_of info set element number ∷ element_finals info set left (element + 1) (number + 1)

-- what a variable adds: its elements, where it is parallel
unfoldable pub variable_finals : VarInfo → ℕ → List Final
variable_finals info number = elim info.shape [ None ↦ [] | Some s ↦ element_finals info s (entries_of info) 0 number ]

-- the parallel variables of the file, whose fields are numbered from a number on
unfoldable pub finals_of : List VarInfo → ℕ → List Final
finals_of [] number = []
finals_of (info ∷ infos) number = variable_finals info number ++ finals_of infos (number + entries_of info)
