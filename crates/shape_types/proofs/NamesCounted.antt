-- The names that a file knows are counted: so many as it has shapes, variables and functions.
use Rattle.std.proofs.Common.{◌≡◌, ℕ, suc, ◌+◌, List, [], ◌∷◌, ◌++◌, length, length-append, map, is_some, if◌then◌else◌, Bool, true, false, Option, refl, ap, arith}
use Rattle.cstar_tree.specs.declared.syntax.Declarator.{Declarator}
use Rattle.cstar_tree.specs.declared.syntax.Item.{Item}
use Rattle.cstar_tree.specs.declared.syntax.ShapeDefinition.{ShapeDefinition}
use Rattle.cstar_tree.specs.declared.typed.ShapeInfo.{ShapeInfo}
use Rattle.cstar_tree.specs.declared.typed.ValueType.{ValueType}
use Rattle.cstar_tree.specs.declared.typed.VarInfo.{VarInfo}
use Rattle.cstar_tree.specs.FileScopes.{Known, behind_shape, behind_shapes, behind_variable, behind_variables, file_place, kept_extents, words_of}
use Rattle.cstar_tree.specs.ProgramTypes.{TypesShapes, TypesVariables}
use Rattle.cstar_tree.specs.ProgramTypes as Y
use Rattle.cstar_tree.specs.Scopes.{Binding, find}
use Rattle.cstar_tree.specs.TypedParts.{concat}

-- ---- as many names more as shapes more, or variables

abbrev ShapesToo : Known → Known → Type 0
ShapesToo known more = length more.names + length known.shapes ≡ length known.names + length more.shapes

abbrev VariablesToo : Known → Known → Type 0
VariablesToo known more = length more.names + known.variables ≡ length known.names + more.variables

one_shape : (functions : List Binding) (known : Known) (s : ShapeDefinition) → ShapesToo known (behind_shape functions known s)
unfolding behind_shape
one_shape functions known s = by_name (is_some (find known.names s.name.word)) _ (let more = length-append known.shapes (kept_extents (file_place functions known) s.extents.items ∷ []) in omega (arith, more))
  where
    by_name : (b : Bool) (more : Known) → ShapesToo known more → ShapesToo known (if b then known else more)
    by_name true more same = refl
    by_name false more same = same

one_variable : (functions : List Binding) (ty : Option ValueType) (known : Known) (d : Declarator) → VariablesToo known (behind_variable functions ty known d)
unfolding behind_variable
one_variable functions ty known d = by_name (is_some (find known.names d.name.word)) _ (omega arith)
  where
    by_name : (b : Bool) (more : Known) → VariablesToo known more → VariablesToo known (if b then known else more)
    by_name true more same = refl
    by_name false more same = same

pub names_of_shapes : (functions : List Binding) (known : Known) (ss : List ShapeDefinition) → ShapesToo known (behind_shapes functions known ss)
unfolding behind_shapes
names_of_shapes functions known [] = refl
names_of_shapes functions known (s ∷ ss) =
    let first = one_shape functions known s in
    let rest = names_of_shapes functions (behind_shape functions known s) ss in
    omega (arith, first, rest)

pub names_of_variables : (functions : List Binding) (ty : Option ValueType) (known : Known) (ds : List Declarator) → VariablesToo known (behind_variables functions ty known ds)
unfolding behind_variables
names_of_variables functions ty known [] = refl
names_of_variables functions ty known (d ∷ ds) =
    let first = one_variable functions ty known d in
    let rest = names_of_variables functions ty (behind_variable functions ty known d) ds in
    omega (arith, first, rest)

-- ---- as many are typed as are declared

pub as_many_shapes : {functions : List Binding} {known : Known} {ss : List ShapeDefinition} {infos : List ShapeInfo} → TypesShapes functions known ss infos → length infos ≡ length ss
as_many_shapes Y.no_shape = refl
as_many_shapes (Y.next_shape named is more) = ap suc (as_many_shapes more)

pub as_many_variables : {functions : List Binding} {ty : ValueType} {known : Known} {ds : List Declarator} {vars : List VarInfo} → TypesVariables functions ty known ds vars → length vars ≡ length ds
as_many_variables Y.no_variable = refl
as_many_variables (Y.next_variable declared declarable starts more) = ap suc (as_many_variables more)

-- ---- the words of items

abbrev pub words_in : List Item → ℕ
words_in items = length (concat (map words_of items))

pub one_item_more : (items : List Item) (item : Item) → words_in (items ++ item ∷ []) ≡ words_in items + length (words_of item)
unfolding concat
one_item_more [] item =
    let own : length (words_of item ++ []) ≡ 0 + length (words_of item) = (let both = length-append (words_of item) [] in omega (arith, both)) in
    own
one_item_more (i ∷ items) item =
    let rest = one_item_more items item in
    let all = length-append (words_of i) (concat (map words_of (items ++ item ∷ []))) in
    let before = length-append (words_of i) (concat (map words_of items)) in
    omega (arith, rest, all, before)
