-- No two names of a file have one word, so the number of a word tells what it stands for.
use Rattle.std.proofs.Common.{◌≡◌, ℕ, ◌+◌, Bool, true, false, List, [], ◌∷◌, ◌++◌, map, Option, Some, None, refl, ap, subst, ◌∙◌}
use Rattle.std.proofs.lemmas.Slice.Eq.{bytes_eq-Decides}
use Rattle.std.specs.Option.{option_map, option_or}
use Rattle.std.specs.Prelude.{bytes_eq, reverse, if◌then◌else◌}
use Rattle.cstar_tree.specs.declared.syntax.Declarator.{Declarator}
use Rattle.cstar_tree.specs.declared.syntax.Function.{Function}
use Rattle.cstar_tree.specs.declared.syntax.Item.{Item}
use Rattle.cstar_tree.specs.declared.syntax.Item.TheVariants as I
use Rattle.cstar_tree.specs.declared.syntax.ShapeDefinition.{ShapeDefinition}
use Rattle.cstar_tree.specs.declared.syntax.Tree.{Tree}
use Rattle.cstar_tree.specs.declared.typed.ValueType.{ValueType}
use Rattle.cstar_tree.specs.FileScopes.{Known, behind_function, behind_item, behind_items, behind_shape, behind_shapes, behind_variable, behind_variables, file_known, functions_named, nothing_known}
use Rattle.cstar_tree.specs.Instances.{function_meant, main_of, main_word}
use Rattle.cstar_tree.specs.Scopes.{Binding, Meaning, a_function, a_shape, a_variable, find}
use Rattle.type_scopes.specs.declared.names.FileName.{FileName}
use Rattle.type_scopes.specs.FileBindings.{numbered}
use Rattle.type_scopes.proofs.FileLemmas.{turned_round}
use Rattle.file_names.specs.Numbers.{AreApart, declared_as, declared_function, in_text_order, name_of, named}
use Rattle.file_names.proofs.Steps.{one_more}

shape_apart : (functions : List Binding) (known : Known) (s : ShapeDefinition) → AreApart known.names → AreApart (behind_shape functions known s).names
unfolding behind_shape AreApart
shape_apart functions known s apart = by (find known.names s.name.word) refl
  where
    by : (m : Option Meaning) → find known.names s.name.word ≡ m → AreApart (behind_shape functions known s).names
    by (Some m) e = rw e apart
    by None e = rw e (e, apart)

variable_apart : (functions : List Binding) (ty : Option ValueType) (known : Known) (v : Declarator) → AreApart known.names → AreApart (behind_variable functions ty known v).names
unfolding behind_variable AreApart
variable_apart functions ty known v apart = by (find known.names v.name.word) refl
  where
    by : (m : Option Meaning) → find known.names v.name.word ≡ m → AreApart (behind_variable functions ty known v).names
    by (Some m) e = rw e apart
    by None e = rw e (e, apart)

function_apart : (known : Known) (f : Function) → AreApart known.names → AreApart (behind_function known f).names
unfolding behind_function AreApart
function_apart known f apart = by (find known.names f.name.word) refl
  where
    by : (m : Option Meaning) → find known.names f.name.word ≡ m → AreApart (behind_function known f).names
    by (Some m) e = rw e apart
    by None e = rw e (e, apart)

shapes_apart : (functions : List Binding) (known : Known) (shapes : List ShapeDefinition) → AreApart known.names → AreApart (behind_shapes functions known shapes).names
unfolding behind_shapes
shapes_apart functions known [] apart = apart
shapes_apart functions known (s ∷ ss) apart = shapes_apart functions (behind_shape functions known s) ss (shape_apart functions known s apart)

variables_apart : (functions : List Binding) (ty : Option ValueType) (known : Known) (variables : List Declarator) → AreApart known.names → AreApart (behind_variables functions ty known variables).names
unfolding behind_variables
variables_apart functions ty known [] apart = apart
variables_apart functions ty known (v ∷ vs) apart = variables_apart functions ty (behind_variable functions ty known v) vs (variable_apart functions ty known v apart)

item_apart : (functions : List Binding) (known : Known) (item : Item) → AreApart known.names → AreApart (behind_item functions known item).names
unfolding behind_item
item_apart functions known (I.Shapes p shapes) apart = shapes_apart functions known shapes.items apart
item_apart functions known (I.Variables d) apart = variables_apart functions _ known d.variables.items apart
item_apart functions known (I.Function f) apart = function_apart known f apart

items_apart : (functions : List Binding) (known : Known) (items : List Item) → AreApart known.names → AreApart (behind_items functions known items).names
unfolding behind_items
items_apart functions known [] apart = apart
items_apart functions known (i ∷ is) apart = items_apart functions (behind_item functions known i) is (item_apart functions known i apart)

pub file_apart : (tree : Tree) → AreApart (file_known tree).names
unfolding AreApart
file_apart tree = items_apart (functions_named tree) nothing_known tree.items.items tt

behind_others : (k : ℕ) (es : List (List ℕ × FileName)) (e : List ℕ × FileName) (word : List ℕ)
    → named (numbered k (es ++ e ∷ []) word) ≡ option_or (named (numbered k es word)) (if bytes_eq word e.0 then Some e.1 else None)
unfolding numbered
behind_others k [] e word = by (bytes_eq word e.0) refl
  where
    by : (b : Bool) → bytes_eq word e.0 ≡ b → named (numbered k (e ∷ []) word) ≡ (if bytes_eq word e.0 then Some e.1 else None)
    by true is = rw is refl
    by false is = rw is refl
behind_others k (x ∷ es) e word = by (bytes_eq word x.0) refl (behind_others (k + 1) es e word)
  where
    by : (b : Bool) → bytes_eq word x.0 ≡ b → named (numbered (k + 1) (es ++ e ∷ []) word) ≡ option_or (named (numbered (k + 1) es word)) (if bytes_eq word e.0 then Some e.1 else None)
        → named (numbered k (x ∷ es ++ e ∷ []) word) ≡ option_or (named (numbered k (x ∷ es) word)) (if bytes_eq word e.0 then Some e.1 else None)
    by true is rest = rw is refl
    by false is rest = rw is rest

or_none : (m : Option FileName) → option_or m None ≡ m
or_none None = refl
or_none (Some m) = refl

declared_there : (k : ℕ) (bs : List Binding) (word : List ℕ) → AreApart bs → named (numbered k (map name_of (reverse bs)) word) ≡ option_map declared_as (find bs word)
unfolding AreApart numbered find
declared_there k [] word apart = refl
declared_there k (b ∷ bs) word apart =
    ap (λ es. named (numbered k es word)) (one_more b bs) ∙ (behind_others k (map name_of (reverse bs)) (name_of b) word ∙ by (bytes_eq b.word word) refl (declared_there k bs word apart.1))
  where
    by : (is : Bool) → bytes_eq b.word word ≡ is → named (numbered k (map name_of (reverse bs)) word) ≡ option_map declared_as (find bs word)
        → option_or (named (numbered k (map name_of (reverse bs)) word)) (if bytes_eq word b.word then Some (declared_as b.meaning) else None) ≡ option_map declared_as (find (b ∷ bs) word)
    by true e rest =
        let same : b.word ≡ word = (bytes_eq-Decides b.word word).0 e in
        let none : find bs word ≡ None = subst (λ (w : List ℕ). find bs w ≡ None) same apart.0 in
        rw (rest, e, turned_round b.word word true e, none) refl
    by false e rest = rw (rest, e, turned_round b.word word false e) (or_none (option_map declared_as (find bs word)))

meant_function : (m : Option Meaning) → declared_function (option_map declared_as m) ≡ function_meant m
meant_function None = refl
meant_function (Some (a_shape s)) = refl
meant_function (Some (a_function f)) = refl
meant_function (Some (a_variable v t)) = refl

pub main_is : (tree : Tree) (names : List (List ℕ × FileName)) → names ≡ in_text_order (file_known tree) → declared_function (named (numbered 0 names main_word)) ≡ main_of tree
main_is tree names are =
    ap (λ es. declared_function (named (numbered 0 es main_word))) are ∙ (ap declared_function (declared_there 0 (file_known tree).names main_word (file_apart tree)) ∙ meant_function (find (file_known tree).names main_word))
