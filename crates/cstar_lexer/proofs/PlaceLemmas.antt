-- Places along a text.
use Rattle.std.proofs.Common.{◌≡◌, ℕ, suc, ◌+◌, ◌<◌, eqb, false, List, [], ◌∷◌, ◌++◌, length, take, drop, get_or, arith, refl, sym, ap, ◌∙◌, subst}
use Rattle.std.specs.List.{fold}
use Rattle.std.proofs.lemmas.List.Sums.{fold-append, fold_more}
use Rattle.std.proofs.lemmas.Bool.{ne_eqb}
use Rattle.std.proofs.lemmas.List.{drop-take, take-append-drop, take-take}
use Rattle.cstar_base.specs.declared.operators.Place.{Place}
use Rattle.cstar_lexer.specs.Places.{behind, behind_byte, place_at, text_start}

pub behind_none : (place : Place) → behind place [] ≡ place
unfolding behind
behind_none place = refl

pub behind_more : (place : Place) (bytes : List ℕ) (i : ℕ) → i < length bytes → behind place (take (i + 1) bytes) ≡ behind_byte (behind place (take i bytes)) (get_or bytes i 0)
unfolding behind
behind_more place bytes i h = fold_more behind_byte place bytes i 0 h

-- bytes on one line
no_newline : (place : Place) (byte : ℕ) → (byte ≡ 10 → ⊥) → behind_byte place byte ≡ record { line = place.line; col = place.col + 1 }
unfolding behind_byte
no_newline place byte h = let e : eqb byte 10 ≡ false = ne_eqb byte 10 h in rw e refl

pub behind_line : (place : Place) (bytes : List ℕ) → ((k : ℕ) → k < length bytes → get_or bytes k 0 ≡ 10 → ⊥) → behind place bytes ≡ record { line = place.line; col = place.col + length bytes }
unfolding behind
behind_line place [] h = ap (λ (n : ℕ). record { line = place.line; col = n }) (omega arith)
behind_line place (x ∷ bytes) h =
    let one = no_newline place x (h 0 (omega arith)) in
    let next : Place = record { line = place.line; col = place.col + 1 } in
    let rest : behind next bytes ≡ record { line = next.line; col = next.col + length bytes } = behind_line next bytes (λ k l. h (suc k) (omega arith)) in
    ap (λ (p : Place). fold behind_byte p bytes) one ∙ (rest ∙ ap (λ (n : ℕ). record { line = place.line; col = n }) (omega arith))

take_plus : (bytes : List ℕ) (at n : ℕ) → take (at + n) bytes ≡ take at bytes ++ take n (drop at bytes)
take_plus bytes at n = sym (take-append-drop at (take (at + n) bytes)) ∙ (ap (λ (xs : List ℕ). xs ++ drop at (take (at + n) bytes)) (take-take at (at + n) bytes (omega arith)) ∙ ap (λ (xs : List ℕ). take at bytes ++ xs) (drop-take at n bytes))

-- the place behind a piece that begins at a place of the text
pub place_behind : (bytes : List ℕ) (at n : ℕ) → place_at bytes (at + n) ≡ behind (place_at bytes at) (take n (drop at bytes))
unfolding place_at behind
place_behind bytes at n = rw (take_plus bytes at n) (fold-append behind_byte text_start (take at bytes) (take n (drop at bytes)))

pub place_start : (bytes : List ℕ) (at : ℕ) → at ≡ 0 → text_start ≡ place_at bytes at
unfolding place_at behind
place_start bytes at e = subst (λ (i : ℕ). text_start ≡ place_at bytes i) (sym e) refl

pub place_next : (bytes : List ℕ) (at : ℕ) → at < length bytes → place_at bytes (at + 1) ≡ behind_byte (place_at bytes at) (get_or bytes at 0)
unfolding place_at
place_next bytes at h = behind_more text_start bytes at h
