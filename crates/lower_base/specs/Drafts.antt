-- A unit as it grows. The code of a tree is a function from the draft that stood before to the one
-- that stands behind, so that jumps name their places from the start of the unit.
use Rattle.std.specs.Prelude.{ℕ, ◌+◌, List, [], ◌∷◌, ◌++◌, length, map, Option, Some, None}
use Rattle.cstar_base.specs.declared.operators.Place.{Place}
use Rattle.paris_code.specs.declared.instr.Instr.{Instr}
use Rattle.paris_code.specs.declared.instr.Instr.TheVariants as I
use Rattle.paris_code.specs.declared.operands.Coordinate.{Coordinate}
use Rattle.paris_code.specs.declared.operands.Field.{Field}
use Rattle.paris_code.specs.declared.operands.GridStep.{GridStep}
use Rattle.paris_code.specs.declared.operands.RegisterCoordinate.{RegisterCoordinate}
use Rattle.paris_code.specs.declared.operands.SignedCoordinate.{SignedCoordinate}
use Rattle.paris_code.specs.declared.program.Owner.{Owner}
use Rattle.paris_code.specs.declared.program.Owner.TheVariants as W
use Rattle.paris_code.specs.declared.program.Unit.{Unit}
use Rattle.paris_code.specs.declared.program.Virtual.{Virtual}
use Rattle.lower_base.specs.declared.emit.Operand.{Operand}
use Rattle.lower_base.specs.declared.emit.Operand.TheVariants as P
use Rattle.lower_base.specs.declared.emit.Out.{Out}
use Rattle.lower_base.specs.declared.emit.Out.TheVariants as O

-- An instruction, wherever its list of coordinates is kept: one with such a list has its items here.
pub data Step : Type 0 where
  Plain : Instr → Step
  MakesAddress : Field → ℕ → List Coordinate → Step
  ChecksTarget : ℕ → Place → List SignedCoordinate → Step
  ChecksGrid : ℕ → Place → List GridStep → Step
  FrontMakesAddress : ℕ → ℕ → List ℕ → Step
  FrontChecksTarget : ℕ → Place → List RegisterCoordinate → Step

unfoldable pub step : Instr → Step
step (I.MakeAddress dest set coordinates) = MakesAddress dest set coordinates.items
step (I.CheckTarget set place coordinates) = ChecksTarget set place coordinates.items
step (I.CheckGrid set place steps) = ChecksGrid set place steps.items
step (I.FrontMakeAddress dest set coordinates) = FrontMakesAddress dest set coordinates.items
step (I.FrontCheckTarget set place coordinates) = FrontChecksTarget set place coordinates.items
step instr = Plain instr

-- What a unit has so far: its name, its code, how many registers are taken, the entries of its
-- fields, and the first entry of each parallel variable that its blocks have declared.
pub record Draft : Type 0 where
  pub name : List ℕ
  pub code : List Step
  pub regs : ℕ
  pub fields : List Virtual
  pub homes : List ℕ

unfoldable pub draft : Unit → Draft
draft u = record {
  name = u.name;
  code = map step u.code.items;
  regs = u.regs;
  fields = u.fields.items;
  homes = u.homes.items;
}

-- what a piece of code answers, with the draft behind it, or that there is no such code
pub data Made (A : Type 0) : Type 0 where
  Makes : A → Draft → Made A
  Fails : Made A

-- there is such code
unfoldable pub IsMade : {A : Type 0} → Made A → Type 0
IsMade (Makes x d) = Prim.Unit {0}
IsMade Fails = ⊥

-- one piece, and then another that knows what the first answered
unfoldable pub then_make : {A B : Type 0} → Made A → (A → Draft → Made B) → Made B
then_make (Makes x d) next = next x d
then_make Fails next = Fails

-- what was looked up, where it is there
unfoldable pub from : {A B : Type 0} → Option A → (A → Made B) → Made B
from (Some x) next = next x
from None next = Fails

-- the place of the next instruction
unfoldable pub here : Draft → ℕ
here d = length d.code

-- one more instruction
unfoldable pub with_step : Step → Draft → Draft
with_step next d = record d { code = d.code ++ next ∷ [] }

unfoldable pub with_instr : Instr → Draft → Draft
with_instr instr d = with_step (step instr) d

-- a fresh register
unfoldable pub a_register : Draft → Made ℕ
a_register d = Makes d.regs (record d { regs = d.regs + 1 })

-- a fresh entry, as a field of its whole length
unfoldable pub an_entry : ℕ → ℕ → Owner → Draft → Made Field
an_entry set len owner d =
    Makes (record { set = set; offset = length d.fields; len = len })
    (record d { fields = d.fields ++ record { set = set; len = len; owner = owner } ∷ [] })

-- a fresh field of so many bits for a value, and one for a flag
abbrev pub a_field : ℕ → ℕ → Draft → Made Field
a_field set bits d = an_entry set bits W.Own d

abbrev pub a_flag : ℕ → Draft → Made Field
a_flag set d = an_entry set 1 W.Own d

-- a fresh field of so many bits for a value of a shape, or a fresh register for a scalar one
unfoldable pub fresh_for : Option ℕ → ℕ → Draft → Made Out
fresh_for None bits d = then_make (a_register d) (λ r after. Makes (O.Scalar r) after)
fresh_for (Some set) bits d = then_make (a_field set bits d) (λ f after. Makes (O.Field f) after)

-- the lowest bits of a field, and of a value that stands in one
unfoldable pub first_bits : ℕ → Field → Field
first_bits bits f = record f { len = bits }

unfoldable pub shortened : ℕ → Out → Out
shortened bits (O.Field f) = O.Field (first_bits bits f)
shortened bits out = out

-- an operand, as what an expression answers
abbrev pub out_of : Operand → Out
out_of (P.Register r) = O.Scalar r
out_of (P.Field f) = O.Field f

-- where a value stands: in a register, in a field, in either
unfoldable pub InRegister : Out → Type 0
InRegister (O.Scalar r) = Prim.Unit {0}
InRegister (O.Field f) = ⊥
InRegister O.Nothing = ⊥

unfoldable pub InField : Out → Type 0
InField (O.Scalar r) = ⊥
InField (O.Field f) = Prim.Unit {0}
InField O.Nothing = ⊥

unfoldable pub IsSomewhere : Out → Type 0
IsSomewhere (O.Scalar r) = Prim.Unit {0}
IsSomewhere (O.Field f) = Prim.Unit {0}
IsSomewhere O.Nothing = ⊥

-- the register that holds a value, and the field that does
unfoldable pub in_register : {B : Type 0} → Out → (ℕ → Made B) → Made B
in_register (O.Scalar r) next = next r
in_register _ next = Fails

unfoldable pub in_field : {B : Type 0} → Out → (Field → Made B) → Made B
in_field (O.Field f) next = next f
in_field _ next = Fails
