-- Places at which arrays are parallel: around the parts of an expression, and behind names that are no
-- arrays without a shape.
use Rattle.std.proofs.Common.{◌≡◌, ℕ, false, if◌then◌else◌, is_none, List, Option, Some, None, refl, ap, ◌∙◌, sym}
use Rattle.std.proofs.lemmas.Option.{none-some}
use Rattle.cstar_tree.specs.declared.syntax.Initializer.{Initializer}
use Rattle.cstar_tree.specs.declared.typed.ValueType.{ValueType}
use Rattle.cstar_tree.specs.declared.typed.Variable.{Variable}
use Rattle.cstar_tree.specs.BlockScopes.{block_place, in_loop}
use Rattle.cstar_tree.specs.Headers.{plain_type}
use Rattle.cstar_tree.specs.Scopes.{Here, Meaning, VariableType, a_function, a_shape, a_variable, as_whole, declared, index_place, meaning, part, stands_under, under}
use Rattle.cstar_tree.specs.StatementTypes.{IsDeclarable}
use Rattle.cstar_tree.specs.StatementTypes as S
use Rattle.code_lengths.specs.Shaped.{HasShape}
use Rattle.shaped_trees.specs.Places.{IsSound}
use Rattle.shaped_trees.proofs.Meanings.{declared_one}

-- a name that means this means no array, or a parallel one
abbrev pub MeansParallel : Meaning → Type 0
MeansParallel m = (v : Variable) (ty : ValueType) (length : ℕ) → m ≡ a_variable v (Some (record { value = ty; array = Some length })) → HasShape ty

-- the place of a part, and that of an index
pub in_part : (here : Here) → IsSound here → IsSound (part here)
in_part here s = record { arrays = s.arrays; dot = s.dot }

pub in_whole : (here : Here) → IsSound here → IsSound (as_whole here)
in_whole here s = record { arrays = s.arrays; dot = s.dot }

under_shape : (current : Option ℕ) (m : Option Meaning) (axis other : ℕ) → (if stands_under current m then Some axis else None) ≡ Some other → is_none current ≡ false
under_shape None m axis other is = elim (none-some _ is) [ ]
under_shape (Some s) m axis other is = refl

pub in_index : (here : Here) (word : List ℕ) (axis : ℕ) → IsSound here → IsSound (index_place here word axis)
unfolding index_place
in_index here word axis s = record { arrays = s.arrays; dot = λ other is. under_shape here.current (meaning here word) axis other is }

-- the scope of a block, and the body of a loop
pub in_block : (here : Here) → IsSound here → IsSound (block_place here)
in_block here s = record { arrays = s.arrays; dot = s.dot }

pub in_body : (here : Here) → IsSound here → IsSound (in_loop here)
in_body here s = record { arrays = s.arrays; dot = s.dot }

pub behind_it : (here : Here) (locals : ℕ) → IsSound here → IsSound (record here { locals = locals })
behind_it here locals s = record { arrays = s.arrays; dot = s.dot }

pub in_shape : (here : Here) (shape : ℕ) → IsSound here → IsSound (under here shape)
in_shape here shape s = record { arrays = s.arrays; dot = λ axis is. refl }

-- a name declared in the innermost scope
pub behind_name : (here : Here) (word : List ℕ) (m : Meaning) (locals : ℕ) → IsSound here → MeansParallel m → IsSound (record here { names = declared here.names word m; locals = locals })
behind_name here word m locals s new = record {
  arrays = λ other v ty length found. declared_one MeansParallel here.names word m (λ x u known w of long is. s.arrays x w of long (known ∙ ap (λ (n : Meaning). Some n) is)) new other _ found v ty length refl;
  dot = s.dot;
}

-- what is declarable is no array without a shape
type_meant : Meaning → Option VariableType
type_meant (a_shape s) = None
type_meant (a_function f) = None
type_meant (a_variable v ty) = ty

type_or : VariableType → Option VariableType → VariableType
type_or other None = other
type_or other (Some ty) = ty

pub of_type : (v : Variable) (known : Option VariableType) → ((ty : ValueType) (length : ℕ) → known ≡ Some (record { value = ty; array = Some length }) → HasShape ty) → MeansParallel (a_variable v known)
unfolding type_meant
of_type v known parallel w ty length is = parallel ty length (ap type_meant is)

pub declarable : {variable : VariableType} {initial : Option Initializer} → IsDeclarable variable initial → (ty : ValueType) (length : ℕ) → Some variable ≡ Some (record { value = ty; array = Some length }) → HasShape ty
unfolding type_or
declarable (S.plain {ty = given}) ty length is = elim (none-some length (ap (λ (o : Option VariableType). (type_or (record { value = given; array = None }) o).array) is)) [ ]
declarable (S.array {ty = given} {length = own} shape least most) ty length is =
    sym (ap (λ (o : Option VariableType). is_none (type_or (record { value = given; array = Some own }) o).value.shape) is) ∙ ap is_none shape

-- a parameter is no array
pub plain_is_parallel : (known : Option ValueType) (ty : ValueType) (length : ℕ) → plain_type known ≡ Some (record { value = ty; array = Some length }) → HasShape ty
unfolding type_or
plain_is_parallel None ty length is = elim (none-some _ is) [ ]
plain_is_parallel (Some given) ty length is = elim (none-some length (ap (λ (o : Option VariableType). (type_or (record { value = given; array = None }) o).array) is)) [ ]

-- a shape and a function are no arrays
pub shape_is_parallel : (number : ℕ) → MeansParallel (a_shape number)
unfolding type_meant
shape_is_parallel number v ty length is = elim (none-some _ (ap type_meant is)) [ ]

pub function_is_parallel : (number : ℕ) → MeansParallel (a_function number)
unfolding type_meant
function_is_parallel number v ty length is = elim (none-some _ (ap type_meant is)) [ ]
