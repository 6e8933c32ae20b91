-- The text of a list, item by item.
use Rattle.std.proofs.Common.{◌≡◌, ℕ, ℤ, pos, ◌+◌, ◌<◌, List, [], ◌∷◌, ◌++◌, length, take, drop, get_or, flat_map, codes, sym, ◌∙◌, ap, append-nil, Result, Ok, Err, OnOk, OnErr, arith}
use Rattle.std.specs.Fmt.{signed_decimal}
use Rattle.std.specs.List.{range_with_len}
use Rattle.std.proofs.Math.Seq.{take-length}
use Rattle.std.proofs.lemmas.Grind.{flat_map-append}
use Rattle.std.proofs.lemmas.List.{take_more, take-append-drop}
use Rattle.std.proofs.lemmas.List.FromFn.{length-range_with_len, get_or-range_with_len}
use Rattle.cstar_base.specs.Numbers.{number_of, residue}
use Rattle.cstar_io.specs.Faults.{RisesBy}
use Rattle.cstar_io.specs.Output.{Takes, TakesPrefix}
use Rattle.paris_code.specs.declared.program.Final.{Final}
use Rattle.paris_code.specs.Memory.{BitMemory, field_number}
use Rattle.paris_text.specs.Puts.{Puts}
use Rattle.final_values.specs.Finals.{final_number, value_text}

-- the first items and one more
pub text_more : {A : Type 0} (f : A → List ℕ) (xs : List A) (n : ℕ) (x : A) → n < length xs → x ≡ get_or xs n x → flat_map f (take (n + 1) xs) ≡ flat_map f (take n xs) ++ f x
text_more f xs n x inside is =
    ap (flat_map f) (take_more xs n x inside)
    ∙ flat_map-append f (take n xs) (get_or xs n x ∷ [])
    ∙ ap (λ rest. flat_map f (take n xs) ++ rest) (append-nil (f (get_or xs n x)))
    ∙ ap (λ y. flat_map f (take n xs) ++ f y) (sym is)

-- the first items, one more, and the rest
pub text_split : {A : Type 0} (f : A → List ℕ) (xs : List A) (n : ℕ) (x : A) → n < length xs → x ≡ get_or xs n x → flat_map f xs ≡ (flat_map f (take n xs) ++ f x) ++ flat_map f (drop (n + 1) xs)
text_split f xs n x inside is =
    ap (flat_map f) (sym (take-append-drop (n + 1) xs))
    ∙ flat_map-append f (take (n + 1) xs) (drop (n + 1) xs)
    ∙ ap (λ text. text ++ flat_map f (drop (n + 1) xs)) (text_more f xs n x inside is)

-- all items
pub text_whole : {A : Type 0} (f : A → List ℕ) (xs : List A) (n : ℕ) → n ≡ length xs → flat_map f (take n xs) ≡ flat_map f xs
text_whole f xs n all = ap (λ (k : ℕ). flat_map f (take k xs)) all ∙ ap (flat_map f) (take-length xs)

-- a number stands at its own place among the first numbers
pub number_at : (n k : ℕ) → k < n → (k < length (range_with_len 0 n)) × (k ≡ get_or (range_with_len 0 n) k k)
number_at n k inside = (omega (arith, length-range_with_len 0 n), omega (arith, get_or-range_with_len 0 n k k inside))

-- the text of the value that was read
pub value_is : (m : BitMemory) (f : Final) (position bits : ℕ) (number : ℤ) → bits ≡ field_number m f.field position → number ≡ number_of f.elem.bits f.elem.signed (residue f.elem.bits (pos bits)) → codes " " ++ signed_decimal number ≡ value_text m f position
unfolding final_number
value_is m f position bits number read is =
    ap (λ (n : ℤ). codes " " ++ signed_decimal n) (is ∙ ap (λ (b : ℕ). number_of f.elem.bits f.elem.signed (residue f.elem.bits (pos b))) read)

-- what the clauses of a call of a sink say together
pub put_says : {S A E : Type 0} (agrees : S → List ℕ → Type 0) (faults : S → ℕ) (s t : S) (r : Result A E) (xs : List ℕ) → OnOk r (Takes agrees s t xs) → OnErr r (TakesPrefix agrees s t xs) → OnErr r (RisesBy (faults s) (faults t)) → OnOk r (faults t ≡ faults s) → Puts agrees faults s t r xs
put_says agrees faults s t (Ok x) xs taken part failed other = (taken, other)
put_says agrees faults s t (Err e) xs taken part failed other = (part, failed)
