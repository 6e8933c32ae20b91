-- The functions of a file have names apart: a function is none whose name the file has before it.
use Rattle.std.proofs.Common.{◌≡◌, ℕ, Bool, true, false, bytes_eq, if◌then◌else◌, is_some, List, [], ◌∷◌, ◌++◌, length, Option, Some, None, refl, sym, ap, ◌∙◌, subst}
use Rattle.std.proofs.lemmas.Option.{none-some}
use Rattle.std.proofs.lemmas.Slice.Eq.{bytes_eq-Decides}
use Rattle.std.proofs.lemmas.List.Elements.{All-cons, All-nil, All-weaker}
use Rattle.std.specs.List.{All}
use Rattle.cstar_tree.specs.declared.syntax.Declarator.{Declarator}
use Rattle.cstar_tree.specs.declared.syntax.Function.{Function}
use Rattle.cstar_tree.specs.declared.syntax.Item.{Item}
use Rattle.cstar_tree.specs.declared.syntax.Item.TheVariants as I
use Rattle.cstar_tree.specs.declared.syntax.ShapeDefinition.{ShapeDefinition}
use Rattle.cstar_tree.specs.declared.syntax.Tree.{Tree}
use Rattle.cstar_tree.specs.declared.typed.ValueType.{ValueType}
use Rattle.cstar_tree.specs.declared.typed.Variable.TheVariants as V
use Rattle.cstar_tree.specs.BlockScopes.{declared_type}
use Rattle.cstar_tree.specs.FileScopes.{Known, behind_function, behind_item, behind_shape, behind_shapes, behind_variable, behind_variables, file_functions, file_place, functions_named, nothing_known, placed_from, with_name}
use Rattle.cstar_tree.specs.Headers.{Placed}
use Rattle.cstar_tree.specs.Scopes.{Binding, Meaning, a_function, a_shape, a_variable, find, written_type}
use Rattle.shape_types.proofs.FunctionNames.{function_behind}
use Rattle.scalar_texts.proofs.Apart.{AreApart, IsOther, none_apart, one_apart}

-- what is known behind a name that is new stands for what was known before, and for that name
missing_one : (known more : Known) (new word : List ℕ) (m : Meaning) (b : Bool) → more.names ≡ with_name known new m → find (if b then known else more).names word ≡ None → find known.names word ≡ None
unfolding find
missing_one known more new word m true same missing = missing
missing_one known more new word m false same missing = by_word (bytes_eq new word) (subst (λ (names : List Binding). find names word ≡ None) same missing)
  where
    by_word : (b : Bool) → (if b then Some m else find known.names word) ≡ None → find known.names word ≡ None
    by_word true is = elim (none-some m (sym is)) [ ]
    by_word false is = is

missing_shapes : (functions : List Binding) (known : Known) (shapes : List ShapeDefinition) (word : List ℕ) → find (behind_shapes functions known shapes).names word ≡ None → find known.names word ≡ None
unfolding behind_shapes behind_shape
missing_shapes functions known [] word missing = missing
missing_shapes functions known (s ∷ shapes) word missing =
    missing_one known _ s.name.word word (a_shape (length known.shapes)) (is_some (find known.names s.name.word)) refl (missing_shapes functions (behind_shape functions known s) shapes word missing)

missing_variables : (functions : List Binding) (ty : Option ValueType) (known : Known) (ds : List Declarator) (word : List ℕ) → find (behind_variables functions ty known ds).names word ≡ None → find known.names word ≡ None
unfolding behind_variables behind_variable
missing_variables functions ty known [] word missing = missing
missing_variables functions ty known (d ∷ ds) word missing =
    missing_one known _ d.name.word word (a_variable (V.File known.variables) (declared_type (file_place functions known) ty d.length)) (is_some (find known.names d.name.word)) refl (missing_variables functions ty (behind_variable functions ty known d) ds word missing)

-- what is missing behind an item is missing before it
missing_item : (functions : List Binding) (known : Known) (item : Item) (word : List ℕ) → find (behind_item functions known item).names word ≡ None → find known.names word ≡ None
unfolding behind_item behind_function
missing_item functions known (I.Shapes p shapes) word missing = missing_shapes functions known shapes.items word missing
missing_item functions known (I.Variables d) word missing = missing_variables functions (written_type (file_place functions known) d.type_name) known d.variables.items word missing
missing_item functions known (I.Function f) word missing = missing_one known _ f.name.word word (a_function known.functions) (is_some (find known.names f.name.word)) refl missing

-- behind a function that is new its name is known
named_behind : (known : Known) (f : Function) → find known.names f.name.word ≡ None → find (behind_function known f).names f.name.word ≡ None → ⊥
unfolding find
named_behind known f new missing =
    none-some (a_function known.functions)
    (sym (subst (λ (k : Known). find k.names f.name.word ≡ None) (function_behind known f new) missing)
    ∙ ap (λ (b : Bool). if b then Some (a_function known.functions) else find known.names f.name.word) ((bytes_eq-Decides f.name.word f.name.word).1 refl))

abbrev word_of : Placed → List ℕ
word_of placed = placed.function.name.word

abbrev IsMissing : Known → Placed → Type 0
IsMissing known placed = find known.names (word_of placed) ≡ None

module _ (functions : List Binding) where
  earlier : (known : Known) (item : Item) (list : List Placed) → All (IsMissing (behind_item functions known item)) list → All (IsMissing known) list
  earlier known item = All-weaker (IsMissing (behind_item functions known item)) (IsMissing known) (λ (placed : Placed). missing_item functions known item (word_of placed))

  -- the names of functions are missing before them, and so none stands twice
  placed_apart : (known : Known) (items : List Item) → All (IsMissing known) (placed_from functions known items) × AreApart word_of (placed_from functions known items)
  unfolding placed_from behind_item
  placed_apart known [] = (All-nil (IsMissing known), none_apart word_of)
  placed_apart known (I.Shapes p shapes ∷ items) =
      let behind = placed_apart (behind_item functions known (I.Shapes p shapes)) items in
      (earlier known (I.Shapes p shapes) _ behind.0, behind.1)
  placed_apart known (I.Variables d ∷ items) =
      let behind = placed_apart (behind_item functions known (I.Variables d)) items in
      (earlier known (I.Variables d) _ behind.0, behind.1)
  placed_apart known (I.Function f ∷ items) =
      let behind = placed_apart (behind_item functions known (I.Function f)) items in
      by_name (find known.names f.name.word) refl _ behind.0 behind.1
    where
      one : Placed
      one = record { function = f; known = known.names ++ functions }

      other : find known.names f.name.word ≡ None → (placed : Placed) → IsMissing (behind_function known f) placed → IsOther word_of one placed
      other is placed missing same = named_behind known f is (subst (λ (word : List ℕ). find (behind_function known f).names word ≡ None) (sym same) missing)

      by_name : (m : Option Meaning) → find known.names f.name.word ≡ m → (rest : List Placed) → All (IsMissing (behind_item functions known (I.Function f))) rest → AreApart word_of rest →
          All (IsMissing known) ((if is_some m then [] else one ∷ []) ++ rest) × AreApart word_of ((if is_some m then [] else one ∷ []) ++ rest)
      by_name (Some m) is rest missing apart = (earlier known (I.Function f) rest missing, apart)
      by_name None is rest missing apart =
          (All-cons (IsMissing known) one rest is (earlier known (I.Function f) rest missing), one_apart word_of one rest (All-weaker (IsMissing (behind_function known f)) (IsOther word_of one) (other is) rest missing) apart)

pub functions_apart : (tree : Tree) → AreApart word_of (file_functions tree)
functions_apart tree = let all = placed_apart (functions_named tree) nothing_known tree.items.items in all.1
