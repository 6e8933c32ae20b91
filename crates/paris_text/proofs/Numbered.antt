-- The text of a list, item by item.
use Rattle.std.proofs.Common.{◌≡◌, ℕ, suc, ◌+◌, ◌<◌, List, [], ◌∷◌, ◌++◌, length, take, drop, get_or, map, flat_map, sym, ◌∙◌, ap, refl, append_assoc, append-nil, arith}
use Rattle.std.proofs.lemmas.List.{take_more, length-take-le, take-append-drop}
use Rattle.paris_code.specs.Listing.{numbered, spaced}

-- where the numbers play no part
pub unnumbered : {A : Type 0} (f : A → List ℕ) (first : ℕ) (xs : List A) → numbered (λ n x. f x) first xs ≡ flat_map f xs
unfolding numbered
unnumbered f first [] = refl
unnumbered f first (x ∷ xs) = ap (λ rest. f x ++ rest) (unnumbered f (first + 1) xs)

-- two lists, one behind the other
pub numbered-append : {A : Type 0} (f : ℕ → A → List ℕ) (first : ℕ) (xs ys : List A) → numbered f first (xs ++ ys) ≡ numbered f first xs ++ numbered f (first + length xs) ys
unfolding numbered
numbered-append f first [] ys = ap (λ n. numbered f n ys) (let e : first ≡ first + 0 = omega arith in e)
numbered-append f first (x ∷ xs) ys =
    ap (λ rest. f first x ++ rest) (numbered-append f (first + 1) xs ys)
    ∙ sym (append_assoc (f first x) (numbered f (first + 1) xs) (numbered f ((first + 1) + length xs) ys))
    ∙ ap (λ n. (f first x ++ numbered f (first + 1) xs) ++ numbered f n ys) (let e : (first + 1) + length xs ≡ first + suc (length xs) = omega arith in e)

-- the first items and one more
pub numbered_more : {A : Type 0} (f : ℕ → A → List ℕ) (xs : List A) (n : ℕ) (x : A) → n < length xs → x ≡ get_or xs n x → numbered f 0 (take (n + 1) xs) ≡ numbered f 0 (take n xs) ++ f n x
unfolding numbered
numbered_more f xs n x inside is =
    let count : length (take n xs) ≡ n = length-take-le n xs (omega arith) in
    let at : 0 + length (take n xs) ≡ n = omega arith in
    ap (numbered f 0) (take_more xs n x inside)
    ∙ numbered-append f 0 (take n xs) (get_or xs n x ∷ [])
    ∙ ap (λ rest. numbered f 0 (take n xs) ++ rest) (append-nil (f (0 + length (take n xs)) (get_or xs n x)))
    ∙ ap (λ i. numbered f 0 (take n xs) ++ f i (get_or xs n x)) at
    ∙ ap (λ y. numbered f 0 (take n xs) ++ f n y) (sym is)

-- the first items, one more, and the rest
pub numbered_split : {A : Type 0} (f : ℕ → A → List ℕ) (xs : List A) (n : ℕ) (x : A) → n < length xs → x ≡ get_or xs n x → (rest : List ℕ) × (numbered f 0 xs ≡ (numbered f 0 (take n xs) ++ f n x) ++ rest)
numbered_split f xs n x inside is =
    let front = take (n + 1) xs in
    let back = drop (n + 1) xs in (
      numbered f (0 + length front) back,
      ap (numbered f 0) (sym (take-append-drop (n + 1) xs))
          ∙ numbered-append f 0 front back
          ∙ ap (λ text. text ++ numbered f (0 + length front) back) (numbered_more f xs n x inside is),
    )

-- words, each behind a space
pub numbered_words : {A : Type 0} (f : A → List ℕ) (first : ℕ) (xs : List A) → numbered (λ n x. spaced (f x)) first xs ≡ flat_map spaced (map f xs)
unfolding numbered
numbered_words f first [] = refl
numbered_words f first (x ∷ xs) = ap (λ rest. spaced (f x) ++ rest) (numbered_words f (first + 1) xs)
