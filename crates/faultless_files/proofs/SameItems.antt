-- The typed programs that a file becomes have the same extents and the same variables.
use Rattle.std.proofs.Common.{◌≡◌, ℕ, List, [], ◌∷◌, ◌++◌, Option, Some, refl, sym, ap, ap₂, ◌∙◌, subst}
use Rattle.std.proofs.lemmas.Option.{same_Some}
use Rattle.std.specs.List.{AllZip}
use Rattle.cstar_tree.specs.declared.syntax.Declarator.{Declarator}
use Rattle.cstar_tree.specs.declared.syntax.Initializer.{Initializer}
use Rattle.cstar_tree.specs.declared.syntax.Item.{Item}
use Rattle.cstar_tree.specs.declared.syntax.ShapeDefinition.{ShapeDefinition}
use Rattle.cstar_tree.specs.declared.typed.ShapeInfo.{ShapeInfo}
use Rattle.cstar_tree.specs.declared.typed.ValueType.{ValueType}
use Rattle.cstar_tree.specs.declared.typed.VarInfo.{VarInfo}
use Rattle.cstar_base.specs.declared.elem.Elem.{Elem}
use Rattle.cstar_tree.specs.Constants.{Constant, cast_to}
use Rattle.cstar_tree.specs.FileScopes.{Known, behind_variable, file_place}
use Rattle.cstar_tree.specs.ProgramTypes.{IsBody, Starts, TypesFile, TypesInstance, TypesInstances, TypesItems, TypesParameters, TypesResult, TypesShapes, TypesVariables, plain_info}
use Rattle.cstar_tree.specs.ProgramTypes as Y
use Rattle.cstar_tree.specs.Scopes.{Binding, Here, VariableType}
use Rattle.cstar_tree.specs.StatementTypes.{variable_info}

-- ---- shapes and variables

abbrev pub SameExtents : ShapeInfo → ShapeInfo → Type 0
SameExtents a b = a.extents.items ≡ b.extents.items

shapes_append : (a b c d : List ShapeInfo) → AllZip SameExtents a b → AllZip SameExtents c d → AllZip SameExtents (a ++ c) (b ++ d)
shapes_append [] [] c d all more = more
shapes_append [] (y ∷ b) c d all more = absurd all
shapes_append (x ∷ a) [] c d all more = absurd all
shapes_append (x ∷ a) (y ∷ b) c d all more = (all.0, shapes_append a b c d all.1 more)

same_shapes : {functions : List Binding} {known : Known} {ss : List ShapeDefinition} {a b : List ShapeInfo} → TypesShapes functions known ss a → TypesShapes functions known ss b → AllZip SameExtents a b
same_shapes Y.no_shape Y.no_shape = tt
same_shapes (Y.next_shape {info = x} named is more) (Y.next_shape {info = y} named_too known others) = (same_Some x.extents.items y.extents.items (sym is ∙ known), same_shapes more others)

same_start : {here : Here} {elem : Elem} {i : Option Initializer} {n m : ℕ} → Starts here elem i n → Starts here elem i m → n ≡ m
same_start Y.at_zero Y.at_zero = refl
same_start {elem = elem} (Y.at_constant {k = k} {word = n} is cast) (Y.at_constant {k = l} {word = m} known cast_too) =
    let one : k ≡ l = same_Some k l (sym is ∙ known) in
    same_Some n m (sym cast ∙ (ap (λ (c : Constant). (cast_to elem c).word) one ∙ cast_too))

same_variables : {functions : List Binding} {ty : ValueType} {known : Known} {ds : List Declarator} {a b : List VarInfo} → TypesVariables functions ty known ds a → TypesVariables functions ty known ds b → a ≡ b
same_variables Y.no_variable Y.no_variable = refl
same_variables {functions = functions} {ty = ty} {known = known} (Y.next_variable {d = d} {variable = v} {start = n} is may starts more) (Y.next_variable {variable = w} {start = m} is_too may_too starts_too others) =
    let one : w ≡ v = same_Some w v (sym is_too ∙ is) in
    let start : n ≡ m = same_start starts (subst (λ (x : VariableType). Starts (file_place functions (behind_variable functions (Some ty) known d)) x.value.elem d.initial m) one starts_too) in
    ap₂ (λ (i : VarInfo) (is : List VarInfo). i ∷ is) (ap₂ (variable_info d.name.word) (sym one) start) (same_variables more others)

pub record SameItems (a b : List ShapeInfo) (v w : List VarInfo) : Type 0 where
  pub shapes : AllZip SameExtents a b
  pub variables : v ≡ w

pub same_items : {functions : List Binding} {known : Known} {items : List Item} {a b : List ShapeInfo} {v w : List VarInfo} → TypesItems functions known items a v → TypesItems functions known items b w → SameItems a b v w
same_items Y.no_item Y.no_item = record { shapes = tt; variables = refl }
same_items (Y.TypesItems.shapes {infos = a} {rest = c} typed more) (Y.TypesItems.shapes {infos = b} {rest = d} typed_too others) =
    let rest = same_items more others in
    record { shapes = shapes_append a b c d (same_shapes typed typed_too) rest.shapes; variables = rest.variables }
same_items {functions = functions} {known = known} (Y.TypesItems.variables {d = d} {ty = ty} is typed more) (Y.TypesItems.variables {ty = of} {vars = vars} is_too typed_too others) =
    let rest = same_items more others in
    let one : of ≡ ty = same_Some of ty (sym is_too ∙ is) in
    record {
      shapes = rest.shapes;
      variables = ap₂ (λ (xs ys : List VarInfo). xs ++ ys) (same_variables typed (subst (λ (t : ValueType). TypesVariables functions t known d.variables.items vars) one typed_too)) rest.variables;
    }
same_items (Y.TypesItems.function more) (Y.TypesItems.function others) = same_items more others
