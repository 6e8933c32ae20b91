-- The places of the tokens of a text rise.
use Rattle.std.proofs.Common.{◌≡◌, ℕ, zero, suc, ◌+◌, ◌-◌, ◌<◌, ◌≤◌, ◌==◌, ◌⊎◌, inl, inr, Bool, true, false, if◌then◌else◌, List, [], ◌∷◌, ◌++◌, length, take, drop, unwrap_or, Option, Some, arith, sym, ap, ◌∙◌, subst}
use Rattle.std.proofs.lemmas.List.Sums.{fold-append}
use Rattle.std.proofs.lemmas.List.{drop-take, take-append-drop, take-take}
use lib.Seq.{take_all}
use Rattle.std.proofs.lemmas.Bool.{cases_lt}
use Rattle.cstar_base.specs.declared.operators.Place.{Place}
use Rattle.cstar_lexer.specs.Places.{behind, behind_byte, place_at, text_start}
use Rattle.cstar_lexer.specs.Reading.{IsNext, IsText, Point, Reads, text_begin}
use Rattle.cstar_lexer.specs.Reading as R
use Rattle.cstar_tree.specs.declared.token.Token.{Token}
use Rattle.cstar_tree.specs.declared.token.Tokens.{Tokens}
use Rattle.cstar_tree.specs.Positions.{token_place}
use Rattle.tree_places.specs.Order.{NotBehind, Rise}
use Rattle.tree_places.proofs.Ordering.{later, same_place}

byte_later : (place : Place) (byte : ℕ) → NotBehind place (behind_byte place byte)
unfolding behind_byte
byte_later place byte = by (byte == 10) where
  by : (newline : Bool) → NotBehind place (if newline then record { line = place.line + 1; col = 1 } else record { line = place.line; col = place.col + 1 })
  by true = record { lines = omega arith; columns = λ e. omega arith }
  by false = record { lines = omega arith; columns = λ e. omega arith }

bytes_later : (place : Place) (bytes : List ℕ) → NotBehind place (behind place bytes)
unfolding behind
bytes_later place [] = same_place place
bytes_later place (byte ∷ bytes) = later (byte_later place byte) (bytes_later (behind_byte place byte) bytes)

take_plus : (bytes : List ℕ) (from n : ℕ) → take (from + n) bytes ≡ take from bytes ++ take n (drop from bytes)
take_plus bytes from n = sym (take-append-drop from (take (from + n) bytes)) ∙ (ap (λ (xs : List ℕ). xs ++ drop from (take (from + n) bytes)) (take-take from (from + n) bytes (omega arith)) ∙ ap (λ (xs : List ℕ). take from bytes ++ xs) (drop-take from n bytes))

offset_later : (bytes : List ℕ) (from n : ℕ) → NotBehind (place_at bytes from) (place_at bytes (from + n))
unfolding place_at behind
offset_later bytes from n =
    subst (NotBehind (behind text_start (take from bytes)))
    (sym (ap (behind text_start) (take_plus bytes from n) ∙ fold-append behind_byte text_start (take from bytes) (take n (drop from bytes))))
    (bytes_later (behind text_start (take from bytes)) (take n (drop from bytes)))

place_later : (bytes : List ℕ) (from to : ℕ) → from ≤ to → NotBehind (place_at bytes from) (place_at bytes to)
place_later bytes from to h = subst (λ (k : ℕ). NotBehind (place_at bytes from) (place_at bytes k)) (there from to h) (offset_later bytes from (to - from)) where
  there : (a b : ℕ) → a ≤ b → a + (b - a) ≡ b
  there a b h = omega arith

-- no offset is behind the end, since what is behind the bytes has the place of the end
past_end : (bytes : List ℕ) (n : ℕ) → length bytes ≤ n → place_at bytes n ≡ place_at bytes (length bytes)
unfolding place_at
past_end bytes n h = ap (behind text_start) (take_all n bytes h ∙ sym (take_all (length bytes) bytes (omega arith)))

-- tokens at offsets that rise, none of them before the first
Follow : List ℕ → ℕ → List Token → Type 0
Follow bytes from [] = Unit {0}
Follow bytes from (t ∷ rest) = (offset : ℕ) × (from ≤ offset) × (t.place ≡ place_at bytes offset) × Follow bytes offset rest

earlier : (bytes : List ℕ) (from to : ℕ) (tokens : List Token) → from ≤ to → Follow bytes to tokens → Follow bytes from tokens
unfolding Follow
earlier bytes from to [] h f = tt
earlier bytes from to (t ∷ rest) h f = let k = f.1 in (f.0, omega arith, f.2, f.3)

next_follows : {bytes : List ℕ} {from to : Point} {head : List Token} (rest : List Token) → IsNext bytes from to head → Follow bytes to.at rest → Follow bytes from.at (head ++ rest)
unfolding Follow
next_follows {bytes} {from} {to} rest (R.blank a b to_is none) f = rw none (let e = ap (λ (p : Point). p.at) to_is in earlier bytes from.at to.at rest (omega arith) f)
next_follows {bytes} {from} {to} rest (R.comment a to_is none) f = rw none (let e = ap (λ (p : Point). p.at) to_is in earlier bytes from.at to.at rest (omega arith) f)
next_follows {bytes} {from} {to} rest (R.line a b c to_is none) f = rw none (let e = ap (λ (p : Point). p.at) to_is in earlier bytes from.at to.at rest (omega arith) f)
next_follows {bytes} {from} {to} rest (R.token t a b c d place to_is one) f =
    rw one (let e = ap (λ (p : Point). p.at) to_is in (from.at, omega arith, place, earlier bytes from.at to.at rest (omega arith) f))

text_follows : {bytes : List ℕ} {from : Point} {tokens : List Token} → Reads bytes from tokens → Follow bytes from.at tokens
unfolding Follow
text_follows (R.ends e none) = rw none tt
text_follows {bytes} {from} (R.next {rest = rest} step text is) = subst (Follow bytes from.at) (sym is) (next_follows rest step (text_follows text))

some_same : {A : Type 0} {x y : A} → Some x ≡ Some y → y ≡ x
some_same {A} {x} {y} e = sym (ap (λ (o : Option A). unwrap_or o x) e)

-- a token of the list
there : (bytes : List ℕ) (from : ℕ) (tokens : List Token) (i : ℕ) (p : Place) → Follow bytes from tokens → token_place tokens i ≡ Some p → (offset : ℕ) × (from ≤ offset) × (p ≡ place_at bytes offset)
unfolding Follow token_place
there bytes from [] i p f s = absurd (cc)
there bytes from (t ∷ rest) zero p f s = (f.0, f.1, some_same s ∙ f.2)
there bytes from (t ∷ rest) (suc i) p f s = let k = f.1 in let x = there bytes f.0 rest i p f.3 s in let m = x.1 in (x.0, omega arith, x.2)

rising : (bytes : List ℕ) (from : ℕ) (tokens : List Token) → Follow bytes from tokens → (i j : ℕ) (p q : Place) → i ≤ j → token_place tokens i ≡ Some p → token_place tokens j ≡ Some q → NotBehind p q
unfolding Follow token_place
rising bytes from [] f i j p q h s s' = absurd (cc)
rising bytes from (t ∷ rest) f zero zero p q h s s' = subst (NotBehind p) (some_same s ∙ sym (some_same s')) (same_place p)
rising bytes from (t ∷ rest) f zero (suc j) p q h s s' =
    let x = there bytes f.0 rest j q f.3 s' in
    subst (λ (r : Place). NotBehind r q) (sym (some_same s ∙ f.2)) (subst (NotBehind (place_at bytes f.0)) (sym x.2) (place_later bytes f.0 x.0 x.1))
rising bytes from (t ∷ rest) f (suc i) zero p q h s s' = absurd (no i h) where
  no : (i : ℕ) → suc i ≤ 0 → ⊥
  no i h = omega arith
rising bytes from (t ∷ rest) f (suc i) (suc j) p q h s s' = rising bytes f.0 rest f.3 i j p q (omega arith) s s'

before_end : (bytes : List ℕ) (tokens : List Token) (i : ℕ) (p : Place) → Follow bytes 0 tokens → token_place tokens i ≡ Some p → NotBehind p (place_at bytes (length bytes))
before_end bytes tokens i p f s =
    let x = there bytes 0 tokens i p f s in
    subst (λ (r : Place). NotBehind r (place_at bytes (length bytes))) (sym x.2) (by x.0 (cases_lt x.0 (length bytes)))
  where
    by : (offset : ℕ) → (offset < length bytes) ⊎ (length bytes ≤ offset) → NotBehind (place_at bytes offset) (place_at bytes (length bytes))
    by offset (inl h) = place_later bytes offset (length bytes) (omega arith)
    by offset (inr h) = subst (NotBehind (place_at bytes offset)) (past_end bytes offset h) (same_place (place_at bytes offset))

pub text_rises : (bytes : List ℕ) (tokens : Tokens) → IsText bytes tokens.list.items → tokens.end ≡ place_at bytes (length bytes) → Rise tokens
text_rises bytes tokens text end =
    let f = text_follows text in
    record {
      rising = rising bytes 0 tokens.list.items f;
      ends = λ i p s. subst (NotBehind p) (sym end) (before_end bytes tokens.list.items i p f s);
    }
