-- Looking a name up.
use Rattle.std.proofs.Common.{◌≡◌, ℕ, Bool, true, false, List, [], ◌∷◌, ◌++◌, None, map, nat_eq, refl, sym, ap, subst, ◌∙◌}
use Rattle.std.specs.Cmp.Lexicographic.{pointwise}
use Rattle.std.specs.Map.{lookup}
use Rattle.std.proofs.lemmas.List.{map_push}
use Rattle.indexmap.specs.IndexMap.{insert_entry}
use Rattle.indexmap.proofs.MapLemmas.{absent_from_lookup, insert_entry-absent}

-- a look-up in rows under another view
pub lookup_map : {K L X : Type 0} (view : K → L) (test : L → Bool) (rows : List (K × X)) → lookup test (map (λ row. (view row.0, row.1)) rows) ≡ lookup (λ key. test (view key)) rows
lookup_map view test [] = refl
lookup_map view test (row ∷ rows) = step (test (view row.0)) refl (lookup_map view test rows)
  where
    step : (b : Bool) → test (view row.0) ≡ b → lookup test (map (λ row. (view row.0, row.1)) rows) ≡ lookup (λ key. test (view key)) rows → lookup test (map (λ row. (view row.0, row.1)) (row ∷ rows)) ≡ lookup (λ key. test (view key)) (row ∷ rows)
    step true e same = rw e refl
    step false e same = rw e same

-- a new name stands last
pub defined_last : {V X : Type 0} (items : V → List ℕ) (key : V) (number : X) (rows new : List (V × X)) (name : List ℕ) → lookup (pointwise nat_eq name) (map {B = List ℕ × X} (λ row. (items row.0, row.1)) rows) ≡ None → items key ≡ name → new ≡ insert_entry (λ a b. pointwise nat_eq (items a) (items b)) rows key number → map {B = List ℕ × X} (λ row. (items row.0, row.1)) new ≡ map {B = List ℕ × X} (λ row. (items row.0, row.1)) rows ++ (name, number) ∷ []
defined_last {V} {X} items key number rows new name none is entries =
    let absent : lookup (λ k. pointwise nat_eq (items key) (items k)) rows ≡ None = subst (λ (n : List ℕ). lookup (λ k. pointwise nat_eq n (items k)) rows ≡ None) (sym is) (sym (lookup_map items (pointwise nat_eq name) rows) ∙ none) in
    let last = insert_entry-absent (λ a b. pointwise nat_eq (items a) (items b)) key number rows (absent_from_lookup (λ k. pointwise nat_eq (items key) (items k)) rows absent) in
    let view : V × X → List ℕ × X = λ row. (items row.0, row.1) in
    ap (λ (es : List (V × X)). map view es) (entries ∙ last) ∙ (map_push view rows (key, number) ∙ ap (λ (n : List ℕ). map view rows ++ (n, number) ∷ []) is)
