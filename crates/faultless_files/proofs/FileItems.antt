-- Typed items of a file have no fault, where their names are new and their shapes are few.
use Rattle.std.proofs.Common.{◌≡◌, ◌≤◌, ◌+◌, ℕ, List, [], ◌∷◌, length, is_some, Option, Some, sym, subst, ◌∙◌, arith, length-append}
use Rattle.std.proofs.lemmas.Option.{none-some}
use Rattle.cstar_base.specs.declared.faults.Fault.{Fault}
use Rattle.cstar_base.specs.declared.operators.Place.{Place}
use Rattle.cstar_tree.specs.declared.syntax.Declarator.{Declarator}
use Rattle.cstar_tree.specs.declared.syntax.Function.{Function}
use Rattle.cstar_tree.specs.declared.syntax.Item.{Item}
use Rattle.cstar_tree.specs.declared.syntax.Item.TheVariants as I
use Rattle.cstar_tree.specs.declared.typed.ShapeInfo.{ShapeInfo}
use Rattle.cstar_tree.specs.declared.typed.ValueType.{ValueType}
use Rattle.cstar_tree.specs.declared.typed.VarInfo.{VarInfo}
use Rattle.cstar_tree.specs.FileFaults.{ItemsFault, VariablesFault}
use Rattle.cstar_tree.specs.FileFaults as W
use Rattle.cstar_tree.specs.BlockScopes.{declared_type}
use Rattle.cstar_tree.specs.FileScopes.{Known, behind_function, behind_item, behind_variable, behind_variables, file_place, with_name}
use Rattle.cstar_tree.specs.Headers.{Program}
use Rattle.cstar_tree.specs.ProgramTypes.{TypesItems, TypesShapes, TypesVariables}
use Rattle.cstar_tree.specs.ProgramTypes as Y
use Rattle.cstar_tree.specs.Scopes.{Binding, a_function, a_variable, find, written_type}
use Rattle.cstar_tree.specs.declared.typed.Variable.TheVariants as V
use Rattle.faultless_files.proofs.NewNames.{NewItems, NewVariables}
use Rattle.faultless_files.proofs.Declarations.{sound_type}
use Rattle.faultless_files.proofs.FileShapes.{either_most, more_shapes, sound_shapes}
use Rattle.faultless_files.proofs.FileVariables.{sound_variables}

-- ---- variables and functions add no shape

one_variable : (functions : List Binding) (ty : Option ValueType) (known : Known) (d : Declarator) → length (behind_variable functions ty known d).shapes ≤ length known.shapes
unfolding behind_variable
one_variable functions ty known d =
    either_most (is_some (find known.names d.name.word)) known
    (record {
      names = with_name known d.name.word (a_variable (V.File known.variables) (declared_type (file_place functions known) ty d.length));
      shapes = known.shapes;
      variables = known.variables + 1;
      functions = known.functions;
    })
    (length known.shapes) (omega arith) (omega arith)

no_more_shapes : (functions : List Binding) (ty : Option ValueType) (known : Known) (ds : List Declarator) → length (behind_variables functions ty known ds).shapes ≤ length known.shapes
unfolding behind_variables
no_more_shapes functions ty known [] = omega arith
no_more_shapes functions ty known (d ∷ ds) = omega (arith, one_variable functions ty known d, no_more_shapes functions ty (behind_variable functions ty known d) ds)

one_function : (known : Known) (f : Function) → length (behind_function known f).shapes ≤ length known.shapes
unfolding behind_function
one_function known f =
    either_most (is_some (find known.names f.name.word)) known
    (record {
      names = with_name known f.name.word (a_function known.functions);
      shapes = known.shapes;
      variables = known.variables;
      functions = known.functions + 1;
    })
    (length known.shapes) (omega arith) (omega arith)

module _ (program : Program) (functions : List Binding) where
  -- the first item of a file, as it is typed, with no more shapes than these
  abbrev FirstTyped : Known → List Item → ℕ → Type 0
  FirstTyped known [] number = Unit {0}
  FirstTyped known (I.Shapes p list ∷ items) number = (infos : List ShapeInfo) × TypesShapes functions known list.items infos × (length infos ≤ number)
  FirstTyped known (I.Variables d ∷ items) number =
      (ty : ValueType) × (written_type (file_place functions known) d.type_name ≡ Some ty) × ((vars : List VarInfo) × TypesVariables functions ty known d.variables.items vars)
  FirstTyped known (I.Function f ∷ items) number = Unit {0}

  first_typed : {known : Known} {items : List Item} {infos : List ShapeInfo} {vars : List VarInfo} → TypesItems functions known items infos vars → FirstTyped known items (length infos)
  first_typed Y.no_item = tt
  first_typed (Y.TypesItems.shapes {infos = infos} {rest = rest} typed more) = (infos, typed, omega (arith, length-append infos rest))
  first_typed (Y.TypesItems.variables {ty = ty} {vars = vars} is typed more) = (ty, is, (vars, typed))
  first_typed (Y.TypesItems.function more) = tt

  -- the items behind it
  record AreOthers (known : Known) (item : Item) (items : List Item) (number : ℕ) : Type 0 where
    infos : List ShapeInfo
    vars : List VarInfo
    typed : TypesItems functions (behind_item functions known item) items infos vars
    few : length (behind_item functions known item).shapes + length infos ≤ length known.shapes + number

  abbrev OthersTyped : Known → List Item → ℕ → Type 0
  OthersTyped known [] number = Unit {0}
  OthersTyped known (item ∷ items) number = AreOthers known item items number

  others_typed : {known : Known} {items : List Item} {infos : List ShapeInfo} {vars : List VarInfo} → TypesItems functions known items infos vars → OthersTyped known items (length infos)
  unfolding behind_item
  others_typed Y.no_item = tt
  others_typed (Y.TypesItems.shapes {infos = infos} {rest = rest} {vars = vars} typed more) =
      record { infos = rest; vars = vars; typed = more; few = omega (arith, length-append infos rest, more_shapes functions typed) }
  others_typed (Y.TypesItems.variables {known = known} {d = d} {infos = infos} {rest = rest} is typed more) =
      record { infos = infos; vars = rest; typed = more; few = omega (arith, no_more_shapes functions (written_type (file_place functions known) d.type_name) known d.variables.items) }
  others_typed (Y.TypesItems.function {known = known} {f = f} {infos = infos} {vars = vars} more) = record { infos = infos; vars = vars; typed = more; few = omega (arith, one_function known f) }

  pub sound_items : {known : Known} {items : List Item} {fault : Fault} {p : Place} → ItemsFault program functions known items fault p → (infos : List ShapeInfo) (vars : List VarInfo) → TypesItems functions known items infos vars
      → NewItems functions known items → length known.shapes + length infos ≤ 64 → ⊥
  unfolding NewItems
  sound_items (W.ItemsFault.shapes list f) infos vars typed new few =
      let it = first_typed typed in
      sound_shapes program functions f it.0 it.1 new.0 (omega (arith, few, it.2))
  sound_items (W.ItemsFault.written f) infos vars typed new few = let it = first_typed typed in sound_type f it.0 it.1
  sound_items {known = known} (W.ItemsFault.variables {d = d} {fault = fault} {p = p} f) infos vars typed new few =
      let it = first_typed typed in
      sound_variables program functions it.0
      (subst (λ (w : Option ValueType). VariablesFault program functions w known d.variables.items fault p) it.1 f)
      it.2.0 it.2.1
      (subst (λ (w : Option ValueType). NewVariables functions w known d.variables.items) it.1 new.0)
  sound_items (W.ItemsFault.redeclared {m = m} stands) infos vars typed new few = none-some m (sym new.0 ∙ stands)
  sound_items (W.ItemsFault.later f) infos vars typed new few =
      let others = others_typed typed in
      sound_items f others.infos others.vars others.typed new.1 (omega (arith, few, others.few))
