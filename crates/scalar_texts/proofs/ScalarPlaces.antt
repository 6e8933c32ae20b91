-- Places of a file without shapes go on within a function, and no shape can be written there: what is typed there
-- is scalar.
use Rattle.std.proofs.Common.{◌≡◌, ℕ, ◌+◌, Bool, IfSome, List, ◌++◌, Option, Some, None, refl, ap, ◌∙◌, sym, subst}
use Rattle.std.proofs.lemmas.Option.{none-some, same_Some}
use Rattle.cstar_tree.specs.declared.syntax.Declarator.{Declarator}
use Rattle.cstar_tree.specs.declared.syntax.Expr.{Expr}
use Rattle.cstar_tree.specs.declared.syntax.Initializer.{Initializer}
use Rattle.cstar_tree.specs.declared.syntax.ShapeRef.{ShapeRef}
use Rattle.cstar_tree.specs.declared.syntax.ShapeRef.TheVariants as R
use Rattle.cstar_tree.specs.declared.syntax.TypeName.{TypeName}
use Rattle.cstar_tree.specs.declared.typed.LocalVar.{LocalVar}
use Rattle.cstar_tree.specs.declared.typed.ValueType.{ValueType}
use Rattle.cstar_tree.specs.declared.typed.Variable.{Variable}
use Rattle.cstar_tree.specs.declared.typed.Variable.TheVariants as V
use Rattle.cstar_tree.specs.BlockScopes.{behind_declarator, block_place, declared_type}
use Rattle.cstar_tree.specs.Headers.{Program}
use Rattle.cstar_tree.specs.Scopes.{Binding, Here, IsAtHand, Meaning, Names, VariableType, a_function, a_shape, a_variable, declared, find, meaning, of_shape, opened, of_written, shape_meant, shape_of, written_type}
use Rattle.cstar_tree.specs.Scopes as scopes
use Rattle.cstar_tree.specs.StatementTypes.{IsDeclarable, TypesLocal}
use Rattle.cstar_tree.specs.StatementTypes as Y
use Rattle.shaped_trees.proofs.Meanings.{AllMean, declared_one}
use Rattle.shaped_trees.proofs.NamedStatements.{same_value}
use Rattle.scalar_texts.specs.Places.{IsPlainType, IsScalarPlace, MeansScalar, NamesScalars}

-- what is declared with a scalar type is no array
pub declared_plain : (here : Here) (ty : ValueType) (length : Option Expr) {variable : VariableType} {initial : Option Initializer} → declared_type here (Some ty) length ≡ Some variable → IsDeclarable variable initial → ty.shape ≡ None → IsPlainType variable
declared_plain here ty length {variable = variable} is declarable scalar = plain declarable (ap (λ (ty : ValueType). ty.shape) (same_value here ty length variable is) ∙ scalar)
  where
    plain : {variable : VariableType} {initial : Option Initializer} → IsDeclarable variable initial → variable.value.shape ≡ None → IsPlainType variable
    plain Y.plain scalar = (scalar, refl)
    plain (Y.array {shape = shape} has least most) scalar = elim (none-some shape (sym scalar ∙ has)) [ ]

-- under no current shape what is at hand is scalar
pub at_hand_scalar : {current shape : Option ℕ} → IsAtHand current shape → current ≡ None → shape ≡ None
at_hand_scalar scopes.scalar none = refl
at_hand_scalar (scopes.of_current {shape = shape}) none = none

-- ---- places

module _ {shapes : List (List ℕ)} {around : ℕ} where
  with_names : {here : Here} (names : Names) (whole : Bool) (locals : ℕ) (loop : Bool) → AllMean MeansScalar (names.inner ++ names.outer) → IsScalarPlace shapes around here →
      IsScalarPlace shapes around (record here { names = names; whole = whole; locals = locals; loop = loop })
  unfolding meaning
  with_names names whole locals loop known s = record { its_shapes = s.its_shapes; its_function = s.its_function; current = s.current; dot = s.dot; means = known }

  -- the place of a part, a whole expression, the body of a loop and what is behind a statement
  pub goes_on : {here : Here} (whole : Bool) (locals : ℕ) (loop : Bool) → IsScalarPlace shapes around here → IsScalarPlace shapes around (record here { whole = whole; locals = locals; loop = loop })
  unfolding meaning
  goes_on {here = here} whole locals loop s = with_names here.names whole locals loop s.means s

  pub in_block : {here : Here} → IsScalarPlace shapes around here → IsScalarPlace shapes around (block_place here)
  unfolding meaning
  in_block {here = here} s = with_names (opened here.names) here.whole here.locals here.loop s.means s

  -- behind the name of a variable
  pub behind_name : {here : Here} (word : List ℕ) (v : Variable) (ty : Option VariableType) (locals : ℕ) → IfSome ty IsPlainType → IsScalarPlace shapes around here →
      IsScalarPlace shapes around (record here { names = declared here.names word (a_variable v ty); locals = locals })
  unfolding meaning
  behind_name {here = here} word v ty locals plain s = with_names (declared here.names word (a_variable v ty)) here.whole locals here.loop (declared_one MeansScalar here.names word (a_variable v ty) s.means plain) s

  pub behind_one : {program : Program} {here : Here} {ty : ValueType} {d : Declarator} {local : LocalVar} (typed : TypesLocal program here ty d local) → IsPlainType typed.variable → IsScalarPlace shapes around here → IsScalarPlace shapes around (behind_declarator here (Some ty) d)
  behind_one {here = here} {ty = ty} {d = d} typed plain s =
      behind_name d.name.word (V.Local here.locals) (declared_type here (Some ty) d.length) (here.locals + 1) (subst (λ (ty : Option VariableType). IfSome ty IsPlainType) (sym typed.its_type) plain) s

-- ---- what is written where names stand for scalars and no shape is current

pub no_shape : (here : Here) (written : ShapeRef) → NamesScalars here → here.current ≡ None → shape_of here written ≡ None
no_shape here (R.Named name) means none = by_meaning (meaning here name.word) refl
  where
    by_meaning : (m : Option Meaning) → meaning here name.word ≡ m → shape_meant m ≡ None
    by_meaning None is = refl
    by_meaning (Some (a_shape number)) is = absurd (means name.word (a_shape number) is)
    by_meaning (Some (a_function f)) is = refl
    by_meaning (Some (a_variable v ty)) is = refl
no_shape here (R.Current p) means none = none

pub written_scalar : (here : Here) (written : TypeName) {ty : ValueType} → NamesScalars here → here.current ≡ None → written_type here written ≡ Some ty → ty.shape ≡ None
written_scalar here written {ty = ty} means none is = by_shape written.shape is
  where
    by_shape : (shape : Option ShapeRef) → of_written here written shape ≡ Some ty → ty.shape ≡ None
    by_shape None is = sym (ap (λ (ty : ValueType). ty.shape) (same_Some (record { elem = written.elem; shape = None }) ty is))
    by_shape (Some named) is = elim (none-some ty (sym (ap (of_shape written) (no_shape here named means none)) ∙ is)) [ ]
