-- Blanks in directive lines.
use Rattle.std.proofs.Common.{◌≡◌, ℕ, suc, ◌+◌, ◌-◌, ◌<◌, ◌≤◌, ◌^◌, Bool, true, false, List, [], ◌∷◌, length, take, drop, length-take, refl, sym, ap, subst, ◌∙◌, arith, nat_eq}
use Rattle.std.specs.Prelude.{codes, IfNone, MatchOption, None, Option, Some, is_some, slice_index}
use Rattle.std.specs.List.{prefix_len}
use Rattle.std.specs.Cmp.Lexicographic.{bytes_decides, pointwise}
use Rattle.cstar_tree.specs.declared.token.Mark.{Mark}
use Rattle.cstar_lexer.specs.declared.number.Number.{Number}
use Rattle.cstar_lexer.specs.Bytes.{goes_on, is_figure, is_inner_blank, is_letter}
use Rattle.cstar_lexer.specs.Constants.{IsKept, IsLongestConstant, is_unsigned}
use Rattle.cstar_lexer.specs.Directives.{IsBehindBlanks, IsDefine, IsEmptyEnd, behind_blanks, behind_hash}
use Rattle.cstar_lexer.specs.Directives as D
use Rattle.cstar_lexer.specs.Marks.{word_bytes}
use Rattle.cstar_lexer.specs.Numbers.{IsNumberOf}

-- the blanks at the beginning, one after the other
pub past_blank : (x : ℕ) (xs : List ℕ) → is_inner_blank x ≡ true → behind_blanks (x ∷ xs) ≡ behind_blanks xs
unfolding behind_blanks
past_blank x xs h = rw h (let s : 1 + prefix_len is_inner_blank xs ≡ suc (prefix_len is_inner_blank xs) = omega arith in rw s refl)

pub at_once : (x : ℕ) (xs : List ℕ) → is_inner_blank x ≡ false → behind_blanks (x ∷ xs) ≡ x ∷ xs
unfolding behind_blanks
at_once x xs h = rw h refl

pub none_behind : behind_blanks [] ≡ []
unfolding behind_blanks
none_behind = refl

pub empty_behind : (bytes : List ℕ) → IsEmptyEnd (behind_blanks bytes) → IsEmptyEnd bytes
empty_behind [] h = D.nothing refl
empty_behind (x ∷ xs) h = step (is_inner_blank x) refl (empty_behind xs)
  where
    step : (b : Bool) → is_inner_blank x ≡ b → (IsEmptyEnd (behind_blanks xs) → IsEmptyEnd xs) → IsEmptyEnd (x ∷ xs)
    step true e more = D.blank e (more (subst (λ (ys : List ℕ). IsEmptyEnd ys) (past_blank x xs e) h))
    step false e more = subst (λ (ys : List ℕ). IsEmptyEnd ys) (at_once x xs e) h

none_of : (found : Option Mark) (name : List ℕ) → is_some found ≡ false → IfNone found ((mark : Mark) → word_bytes mark ≡ name → name ≡ []) → (mark : Mark) → word_bytes mark ≡ name → name ≡ []
none_of (Some mark) name e none = absurd (cc)
none_of None name e none = none

-- a name has a byte
pub letter_some : (bytes : List ℕ) → is_letter (slice_index bytes 0) ≡ true → 0 < length bytes
unfolding is_letter
letter_some [] h = absurd (cc)
letter_some (x ∷ bytes) h = omega arith

letter_goes_on : (x : ℕ) → is_letter x ≡ true → goes_on x ≡ true
unfolding goes_on
letter_goes_on x h = rw h refl

pub word_some : (bytes : List ℕ) → is_letter (slice_index bytes 0) ≡ true → 0 < prefix_len goes_on bytes
word_some [] h = absurd (omega (arith, letter_some [] h))
word_some (x ∷ bytes) h = let e : goes_on x ≡ true = letter_goes_on x h in rw e (omega arith)

pub word_long : (bytes : List ℕ) (n : ℕ) → is_letter (slice_index bytes 0) ≡ true → n ≡ prefix_len goes_on bytes → 0 < length (take n bytes)
word_long bytes n h is = omega (arith, word_some bytes h, length-take n bytes, letter_some bytes h)

pub define_is : (line words file named name rest valued : List ℕ) (len n at value : ℕ) (s : Bool) (found : Option Mark) → words ≡ behind_hash line → pointwise nat_eq (take 6 words) (codes "define") ≡ true → file ≡ drop 6 words → IsBehindBlanks file named → is_letter (slice_index named 0) ≡ true → len ≡ prefix_len goes_on named → name ≡ take len named → rest ≡ drop len named → is_some found ≡ false → IfNone found ((mark : Mark) → word_bytes mark ≡ name → name ≡ []) → IsBehindBlanks rest valued → is_figure (slice_index valued 0) ≡ true → IsLongestConstant valued n value s → IsEmptyEnd (drop n valued) → at ≡ length line - length valued → length valued ≤ length line → IsDefine line name at value s
define_is line words file named name rest valued len n at value s found words_is word file_is name_parted begins len_is name_is rest_is unreserved none value_parted figure constant ends place within =
    let word_is : take 6 words ≡ codes "define" = (bytes_decides (take 6 words) (codes "define")).0 word in
    let long : 0 < length name = subst (λ (xs : List ℕ). 0 < length xs) (sym name_is) (word_long named len begins len_is) in record {
      named = named;
      valued = valued;
      long = n;
      word = subst (λ (xs : List ℕ). take 6 xs ≡ codes "define") words_is word_is;
      name_parted = subst (λ (xs : List ℕ). IsBehindBlanks xs named) (file_is ∙ ap (λ (xs : List ℕ). drop 6 xs) words_is) name_parted;
      begins = begins;
      name_is = name_is ∙ ap (λ (i : ℕ). take i named) len_is;
      free = λ mark e. let empty = none_of found name unreserved none mark e in omega (arith, ap length empty);
      value_parted = subst (λ (xs : List ℕ). IsBehindBlanks xs valued) (rest_is ∙ ap (λ (i : ℕ). drop i named) len_is) value_parted;
      figure = figure;
      constant = constant;
      ends = ends;
      place = omega arith;
    }

-- the number of a constant whose value was kept
pub number_of_kept : (value kept : ℕ) (s : Bool) (found : Option Number) (number : Number) → IsKept value kept → found ≡ Some number → MatchOption found (2 ^ 32 ≤ kept) (λ n. (kept < 2 ^ 32) × (n.value ≡ kept) × (n.unsigned ≡ is_unsigned kept s)) → IsNumberOf value s number
number_of_kept value kept s found number cut is facts =
    let here = subst (λ (o : Option Number). MatchOption o (2 ^ 32 ≤ kept) (λ n. (kept < 2 ^ 32) × (n.value ≡ kept) × (n.unsigned ≡ is_unsigned kept s))) is facts in
    let same : kept ≡ value = omega (arith, here.0, cut) in
    (omega (arith, here.0, same), here.1 ∙ same, here.2 ∙ ap (λ (v : ℕ). is_unsigned v s) same)
