-- A text that is being cut: the pieces so far, and what is left of it.
use Rattle.std.proofs.Common.{◌≡◌, ℕ, ◌+◌, ◌<◌, ◌≤◌, Bool, true, false, List, [], ◌∷◌, ◌++◌, length, get_or, drop, Option, Some, None, refl, sym, ap, ◌∙◌, arith, append_assoc, add-one, drop-cons, ne_eqb}
use Rattle.std.proofs.lemmas.List.{drop_all}
use Rattle.cstar_base.specs.declared.formats.NumberFormat.{NumberFormat}
use Rattle.cstar_tree.specs.declared.typed.Piece.{Piece}
use Rattle.cstar_tree.specs.declared.typed.Piece.TheVariants as P
use Rattle.cstar_tree.specs.Formats.{behind, conversions, form_behind, format_of, pieces_behind, pieces_of, run}

-- these pieces and then the others
pub after : List Piece → Option (List Piece) → Option (List Piece)
after pieces None = None
after pieces (Some others) = Some (pieces ++ others)

-- the pieces of what is left, behind a run of bytes and maybe a `%`
pub left : Bool → List ℕ → List ℕ → Option (List Piece)
left true bytes rest = form_behind bytes rest
left false bytes rest = pieces_behind bytes rest

pub record IsCutTo (text : List ℕ) (index : ℕ) (pieces : List Piece) (bytes : List ℕ) (percent : Bool) (count : ℕ) : Type 0 where
  pub pieces_are : pieces_of text ≡ after pieces (left percent bytes (drop index text))
  pub counted : count ≡ conversions pieces
  pub few : count ≤ index

after_none : (others : Option (List Piece)) → after [] others ≡ others
unfolding after
after_none None = refl
after_none (Some others) = refl

-- the two ways to go on at a byte
at_byte : (bytes : List ℕ) (b : ℕ) (rest : List ℕ) → (b ≡ 37 → ⊥) → left false bytes (b ∷ rest) ≡ left false (bytes ++ b ∷ []) rest
unfolding left pieces_behind
at_byte bytes b rest other = rw (ne_eqb b 37 other) refl

at_percent : (bytes : List ℕ) (b : ℕ) (rest : List ℕ) → b ≡ 37 → left false bytes (b ∷ rest) ≡ left true bytes rest
unfolding left pieces_behind form_behind
at_percent bytes b rest is = rw is refl

at_second : (bytes : List ℕ) (b : ℕ) (rest : List ℕ) → b ≡ 37 → left true bytes (b ∷ rest) ≡ left false (bytes ++ b ∷ []) rest
unfolding left pieces_behind form_behind
at_second bytes b rest is = rw is refl

at_form : (bytes : List ℕ) (b : ℕ) (rest : List ℕ) → (b ≡ 37 → ⊥) → left true bytes (b ∷ rest) ≡ behind bytes (format_of b) (left false [] rest)
unfolding left form_behind pieces_behind
at_form bytes b rest other = rw (ne_eqb b 37 other) refl

pub at_begin : (text : List ℕ) {pieces : List Piece} {bytes : List ℕ} → pieces ≡ [] → bytes ≡ [] → IsCutTo text 0 pieces bytes false 0
unfolding conversions left
at_begin text p b = record {
  pieces_are = rw (p, b) (sym (after_none _));
  counted = rw p refl;
  few = omega arith;
}

-- what is left at a place begins with the byte there
next : (text : List ℕ) (i : ℕ) → i < length text → drop i text ≡ get_or text i 0 ∷ drop (i + 1) text
next text i within = rw add-one (drop-cons text i 0 within)

pub percent : {text : List ℕ} {i count : ℕ} {pieces : List Piece} {bytes : List ℕ} {p : Bool} → IsCutTo text i pieces bytes p count → p ≡ false → i < length text → get_or text i 0 ≡ 37 → IsCutTo text (i + 1) pieces bytes true count
percent {text} {i} {pieces = pieces} {bytes} before off within sign = record {
  pieces_are = rw off at before.pieces_are ∙ ap (after pieces) (ap (left false bytes) (next text i within) ∙ at_percent bytes _ _ sign);
  counted = before.counted;
  few = let h = before.few in omega arith;
}

pub byte : {text : List ℕ} {i count : ℕ} {pieces : List Piece} {bytes more : List ℕ} {p : Bool} → IsCutTo text i pieces bytes p count → p ≡ false → i < length text → (get_or text i 0 ≡ 37 → ⊥) → more ≡ bytes ++ get_or text i 0 ∷ [] → IsCutTo text (i + 1) pieces more p count
byte {text} {i} {pieces = pieces} {bytes} before off within other more_is = record {
  pieces_are = rw (off, more_is) (rw off at before.pieces_are ∙ ap (after pieces) (ap (left false bytes) (next text i within) ∙ at_byte bytes _ _ other));
  counted = before.counted;
  few = let h = before.few in omega arith;
}

pub second_percent : {text : List ℕ} {i count : ℕ} {pieces : List Piece} {bytes more : List ℕ} {p : Bool} → IsCutTo text i pieces bytes p count → p ≡ true → i < length text → get_or text i 0 ≡ 37 → more ≡ bytes ++ get_or text i 0 ∷ [] → IsCutTo text (i + 1) pieces more false count
second_percent {text} {i} {pieces = pieces} {bytes} before on within sign more_is = record {
  pieces_are = rw more_is (rw on at before.pieces_are ∙ ap (after pieces) (ap (left true bytes) (next text i within) ∙ at_second bytes _ _ sign));
  counted = before.counted;
  few = let h = before.few in omega arith;
}

-- behind a `%` that is none of a run, the byte decides
formed : {text : List ℕ} {i count : ℕ} {pieces : List Piece} {bytes : List ℕ} {p : Bool} {named : Option NumberFormat} → IsCutTo text i pieces bytes p count → p ≡ true → i < length text → (get_or text i 0 ≡ 37 → ⊥) → named ≡ format_of (get_or text i 0) → pieces_of text ≡ after pieces (behind bytes named (left false [] (drop (i + 1) text)))
formed {text} {i} {pieces = pieces} {bytes} before on within other named =
    rw named (rw on at before.pieces_are ∙ ap (after pieces) (ap (left true bytes) (next text i within) ∙ at_form bytes _ _ other))

pub no_form : {text : List ℕ} {i count : ℕ} {pieces : List Piece} {bytes : List ℕ} {p : Bool} → IsCutTo text i pieces bytes p count → p ≡ true → i < length text → (get_or text i 0 ≡ 37 → ⊥) → None ≡ format_of (get_or text i 0) → pieces_of text ≡ None
unfolding after
no_form before on within other none = formed before on within other none

conversions_append : (a b : List Piece) → conversions (a ++ b) ≡ conversions a + conversions b
unfolding conversions
conversions_append [] b = omega arith
conversions_append (P.Bytes bytes ∷ a) b = conversions_append a b
conversions_append (P.Argument format ∷ a) b = let h = conversions_append a b in omega arith

conversions_run : (bytes : List ℕ) → conversions (run bytes) ≡ 0
unfolding conversions
conversions_run [] = refl
conversions_run (b ∷ bytes) = refl

-- a conversion is one piece behind the run
after_value : (pieces : List Piece) (bytes : List ℕ) (format : NumberFormat) (others : Option (List Piece)) → after pieces (behind bytes (Some format) others) ≡ after ((pieces ++ run bytes) ++ P.Argument format ∷ []) others
unfolding after
after_value pieces bytes format None = refl
after_value pieces bytes format (Some others) = simp append_assoc

pub value : {text : List ℕ} {i count : ℕ} {pieces more all : List Piece} {bytes none : List ℕ} {p : Bool} {format : NumberFormat} → IsCutTo text i pieces bytes p count → p ≡ true → i < length text → (get_or text i 0 ≡ 37 → ⊥) → Some format ≡ format_of (get_or text i 0) → more ≡ pieces ++ run bytes → all ≡ more ++ P.Argument format ∷ [] → none ≡ [] → IsCutTo text (i + 1) all none false (count + 1)
unfolding conversions
value {count = count} {pieces} {bytes = bytes} {format = format} before on within other named more_is all_is empty = rw (all_is, more_is, empty) (record {
  pieces_are = formed before on within other named ∙ after_value pieces bytes format _;
  counted =
      let h = conversions_append (pieces ++ run bytes) (P.Argument format ∷ []) in
      let k = conversions_append pieces (run bytes) in
      let r = conversions_run bytes in
      let c = before.counted in
      omega arith;
  few = let h = before.few in omega arith;
})

pub open_percent : {text : List ℕ} {i count : ℕ} {pieces : List Piece} {bytes : List ℕ} {p : Bool} → IsCutTo text i pieces bytes p count → p ≡ true → length text ≤ i → pieces_of text ≡ None
unfolding after left form_behind
open_percent {text} {i} {pieces = pieces} {bytes} before on over =
    rw on at before.pieces_are ∙ ap (λ rest. after pieces (left true bytes rest)) (drop_all i text over)

pub whole : {text : List ℕ} {i count : ℕ} {pieces all : List Piece} {bytes : List ℕ} {p : Bool} → IsCutTo text i pieces bytes p count → p ≡ false → length text ≤ i → all ≡ pieces ++ run bytes → (pieces_of text ≡ Some all) × (count ≡ conversions all)
unfolding after left pieces_behind
whole {text} {i} {count} {pieces} {bytes = bytes} before off over is =
    let h = conversions_append pieces (run bytes) in
    let r = conversions_run bytes in
    let c = before.counted in
    let counted : count ≡ conversions (pieces ++ run bytes) = omega arith in
    (rw off at before.pieces_are ∙ ap (λ rest. after pieces (left false bytes rest)) (drop_all i text over) ∙ ap Some (sym is), counted ∙ ap conversions (sym is))
