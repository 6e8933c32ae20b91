-- What the machine reads and writes at one position that scalar indexes name is what the language does.
use Rattle.std.specs.Prelude.{◌≡◌, ℕ, ◌<◌, ◌^◌, Bool, true, false, not, List, [], ◌∷◌, length, slice_index, Option, Some, None}
use Rattle.vp_sets.specs.Positions.{is_geometry}
use Rattle.cstar_base.specs.declared.elem.Elem.{Elem}
use Rattle.cstar_base.specs.Numbers.{converted}
use Rattle.cstar_tree.specs.declared.typed.Variable.{Variable}
use Rattle.lower_base.specs.Operators.{is_signed}
use Rattle.paris_code.specs.declared.instr.Instr.TheVariants as I
use Rattle.paris_code.specs.declared.operands.Field.{Field}
use Rattle.paris_code.specs.declared.operands.Konst.TheVariants as K
use Rattle.paris_code.specs.declared.operands.RegisterCoordinate.{RegisterCoordinate}
use Rattle.paris_code.specs.declared.program.Reply.TheVariants as R
use Rattle.paris_code.specs.Meaning.{after, reply_of}
use Rattle.paris_code.specs.Memory.{BitMemory, processors}
use Rattle.paris_code.specs.Scalar.{address_of, any_register_outside}
use Rattle.paris_code.specs.Shapes.{SetShape}
use Rattle.source_meaning.specs.Gets.{Operand, are_within, named_by}
use Rattle.source_meaning.specs.Reductions.{int_type}
use Rattle.source_meaning.specs.State.{State}
use Rattle.source_meaning.specs.Targets.{OfPosition, read, stored}
use Rattle.source_meaning.specs.Values.{Active, Scalar, Scope, at, failing, number}
use Rattle.communication_laws.specs.Holding.{HasVariable}
use Rattle.communication_laws.specs.Indexes.{index_word}

-- a register has a scalar index of its type
pub record RegisterHasIndex (registers : List ℕ) (r : ℕ) (index : Operand) : Type 0 where
  pub word : slice_index registers r ≡ index_word index 0
  pub small : at index.value 0 < 2 ^ index.elem.bits

-- and so of as many
abbrev pub RegistersHaveIndexes : List ℕ → List ℕ → List Operand → Type 0
RegistersHaveIndexes registers [] [] = Unit {0}
RegistersHaveIndexes registers (r ∷ rs) (index ∷ indexes) = RegisterHasIndex registers r index × RegistersHaveIndexes registers rs indexes
RegistersHaveIndexes registers _ _ = ⊥

-- The front end makes of them the number of the position that they name, where they lie within their extents.
abbrev pub ScalarAddressesAreTheLanguages : Type 0
ScalarAddressesAreTheLanguages =
    (extents registers rs : List ℕ) (indexes : List Operand)
    → is_geometry extents ≡ true → RegistersHaveIndexes registers rs indexes → are_within extents indexes 0 ≡ true
    → address_of extents rs registers ≡ named_by extents indexes 0

-- what is checked: each register by the sign of its index, that of a narrow type too
abbrev pub registers_with_signs : List Operand → List ℕ → List RegisterCoordinate
registers_with_signs [] rs = []
registers_with_signs (index ∷ indexes) [] = []
registers_with_signs (index ∷ indexes) (r ∷ rs) = record { register = r; signed = is_signed index.elem } ∷ registers_with_signs indexes rs

-- a scalar check fails at no position
abbrev pub failing_nowhere : Bool → Option (Option ℕ)
failing_nowhere true = Some None
failing_nowhere false = None

-- A check of scalar indexes fails where one of them does not lie within its extent.
abbrev pub ScalarChecksAreTheLanguages : Type 0
ScalarChecksAreTheLanguages =
    (scope : Scope) (active : Active) (of : ℕ) (registers rs : List ℕ) (indexes : List Operand)
    → length indexes ≡ length (scope.extents of) → RegistersHaveIndexes registers rs indexes
    → failing scope active None (λ p. not (are_within (scope.extents of) indexes p)) ≡ failing_nowhere (any_register_outside (scope.extents of) (registers_with_signs indexes rs) registers)

-- What is read of one position is its number, promoted where its type is narrow.
abbrev pub ReadsOfPositionsAreTheLanguages : Type 0
ReadsOfPositionsAreTheLanguages =
    (shapes : List SetShape) (m : BitMemory) (args : List ℕ) (r processor : ℕ) (a : Field) (st : State) (x : Variable) (elem : Elem) (q : ℕ)
    → a.len ≡ elem.bits → HasVariable shapes m a st x → q < processors shapes a.set
    → reply_of shapes (I.ReadFromProcessor elem.signed r processor a) (q ∷ args) m ≡ R.Value (converted int_type elem (number (read st (OfPosition x q))))

-- Behind a write to one position, of a number of the variable's type that is promoted where that is narrow, a field has
-- what the variable has, if it did before.
abbrev pub WritesOfPositionsStore : Type 0
WritesOfPositionsStore =
    (shapes : List SetShape) (m : BitMemory) (args : List ℕ) (d : Field) (processor r : ℕ) (st : State) (active : Active) (x : Variable) (elem : Elem) (q value : ℕ)
    → d.len ≡ elem.bits → HasVariable shapes m d st x → value < 2 ^ elem.bits
    → HasVariable shapes (after shapes (I.WriteToProcessor d processor (K.Reg r)) (q ∷ converted int_type elem value ∷ args) m) d (stored active (OfPosition x q) (Scalar value) st) x
