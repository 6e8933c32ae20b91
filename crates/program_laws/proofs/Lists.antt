-- Lists one behind the other.
use Rattle.std.proofs.Common.{◌≡◌, List, [], ◌∷◌, ◌++◌, append_assoc, map, refl, sym, ap, ◌∙◌}
use Rattle.cstar_tree.specs.TypedParts.{concat}

pub concat_both : {A B : Type 0} (f : A → List B) (xs ys : List A) → concat (map f (xs ++ ys)) ≡ concat (map f xs) ++ concat (map f ys)
unfolding concat
concat_both f [] ys = refl
concat_both f (x ∷ xs) ys = ap (λ (rest : List _). f x ++ rest) (concat_both f xs ys) ∙ sym (append_assoc (f x) (concat (map f xs)) (concat (map f ys)))
