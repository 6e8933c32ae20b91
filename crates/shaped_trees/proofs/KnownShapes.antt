-- Places at which the shapes that names stand for are the program's: within a function they go on, and
-- so are the shapes that are written there.
use Rattle.std.proofs.Common.{◌≡◌, ℕ, ◌+◌, IfSome, List, [], ◌∷◌, Option, Some, None, refl, subst}
use Rattle.std.proofs.lemmas.Option.{none-some, same_Some}
use Rattle.cstar_tree.specs.declared.syntax.Declaration.{Declaration}
use Rattle.cstar_tree.specs.declared.syntax.Declarator.{Declarator}
use Rattle.cstar_tree.specs.declared.syntax.Parameter.{Parameter}
use Rattle.cstar_tree.specs.declared.syntax.ShapeRef.{ShapeRef}
use Rattle.cstar_tree.specs.declared.syntax.ShapeRef.TheVariants as R
use Rattle.cstar_tree.specs.declared.syntax.TypeName.{TypeName}
use Rattle.cstar_tree.specs.declared.typed.Typed.{Typed}
use Rattle.cstar_tree.specs.declared.typed.ValueType.{ValueType}
use Rattle.cstar_tree.specs.declared.typed.Variable.{Variable}
use Rattle.cstar_tree.specs.declared.typed.Variable.TheVariants as V
use Rattle.cstar_tree.specs.BlockScopes.{behind_declarations, behind_declarator, behind_declarators, block_place, declared_type}
use Rattle.cstar_tree.specs.Headers.{behind_parameter, behind_parameters, plain_type}
use Rattle.cstar_tree.specs.Scopes.{Binding, Here, Meaning, VariableType, a_function, a_shape, a_variable, declared, find, meaning, of_shape, of_written, shape_meant, shape_of, under, written_type}
use Rattle.code_lengths.specs.Naming.{HasItsShape}
use Rattle.shaped_trees.specs.Places.{IsShapeOf, KnowsShapes}
use Rattle.shaped_trees.proofs.Meanings.{AllMean, declared_one}

module _ (t : Typed) where
  -- a name that stands for a shape stands for one of the program's
  abbrev pub MeansShape : Meaning → Type 0
  MeansShape (a_shape number) = IsShapeOf t number
  MeansShape (a_function number) = Unit {0}
  MeansShape (a_variable v ty) = Unit {0}

  pub all_mean : (names : List Binding) → ((word : List ℕ) (number : ℕ) → find names word ≡ Some (a_shape number) → IsShapeOf t number) → AllMean MeansShape names
  all_mean names named word (a_shape number) found = named word number found
  all_mean names named word (a_function number) found = tt
  all_mean names named word (a_variable v ty) found = tt

  -- ---- places

  pub in_block : (here : Here) → KnowsShapes t here → KnowsShapes t (block_place here)
  unfolding meaning
  in_block here k = record { named = k.named; current = k.current }

  pub under_shape : (here : Here) (shape : ℕ) → IsShapeOf t shape → KnowsShapes t here → KnowsShapes t (under here shape)
  unfolding meaning
  under_shape here shape is k = record { named = k.named; current = is }

  pub behind_name : (here : Here) (word : List ℕ) (v : Variable) (ty : Option VariableType) (locals : ℕ) → KnowsShapes t here → KnowsShapes t (record here { names = declared here.names word (a_variable v ty); locals = locals })
  unfolding meaning
  behind_name here word v ty locals k = record {
    named = λ other number found. declared_one MeansShape here.names word (a_variable v ty) (all_mean _ k.named) tt other (a_shape number) found;
    current = k.current;
  }

  pub behind_all : (here : Here) (ty : Option ValueType) (ds : List Declarator) → KnowsShapes t here → KnowsShapes t (behind_declarators here ty ds)
  unfolding behind_declarators
  behind_all here ty [] k = k
  behind_all here ty (d ∷ ds) k = behind_all (behind_declarator here ty d) ty ds (behind_name here d.name.word (V.Local here.locals) (declared_type here ty d.length) (here.locals + 1) k)

  pub behind_each : (here : Here) (ds : List Declaration) → KnowsShapes t here → KnowsShapes t (behind_declarations here ds)
  unfolding behind_declarations
  behind_each here [] k = k
  behind_each here (d ∷ ds) k =
      let ty = written_type here d.type_name in
      behind_each (behind_declarators here ty d.variables.items) ds (behind_all here ty d.variables.items k)

  pub behind_header : (here : Here) (number : ℕ) (ps : List Parameter) → KnowsShapes t here → KnowsShapes t (behind_parameters here number ps)
  unfolding behind_parameters
  behind_header here number [] k = k
  behind_header here number (p ∷ ps) k =
      behind_header (behind_parameter here number p) (number + 1) ps (behind_name here p.name.word (V.Param number) (plain_type (written_type here p.type_name)) here.locals k)

  -- ---- what is written at a place

  pub shape_known : (here : Here) (written : ShapeRef) → KnowsShapes t here → IfSome (shape_of here written) (IsShapeOf t)
  shape_known here (R.Named name) k = by_meaning (meaning here name.word) refl
    where
      by_meaning : (m : Option Meaning) → meaning here name.word ≡ m → IfSome (shape_meant m) (IsShapeOf t)
      by_meaning None is = tt
      by_meaning (Some (a_shape number)) is = k.named name.word number is
      by_meaning (Some (a_function f)) is = tt
      by_meaning (Some (a_variable v ty)) is = tt
  shape_known here (R.Current p) k = k.current

  pub shape_there : (here : Here) (written : ShapeRef) (number : ℕ) → KnowsShapes t here → shape_of here written ≡ Some number → IsShapeOf t number
  shape_there here written number k is = subst (λ (shape : Option ℕ). IfSome shape (IsShapeOf t)) is (shape_known here written k)

  pub type_there : (here : Here) (written : TypeName) (ty : ValueType) → KnowsShapes t here → written_type here written ≡ Some ty → HasItsShape t ty
  type_there here written ty k is = by_shape written.shape is
    where
      of_known : (shape : Option ℕ) → IfSome shape (IsShapeOf t) → of_shape written shape ≡ Some ty → HasItsShape t ty
      of_known None known is = elim (none-some ty is) [ ]
      of_known (Some number) known is = subst (HasItsShape t) (same_Some (record { elem = written.elem; shape = Some number }) ty is) known

      by_shape : (shape : Option ShapeRef) → of_written here written shape ≡ Some ty → HasItsShape t ty
      by_shape None is = subst (HasItsShape t) (same_Some (record { elem = written.elem; shape = None }) ty is) tt
      by_shape (Some named) is = of_known (shape_of here named) (shape_known here named k) is
