-- What can stand at a place, by its first byte.
use Rattle.std.proofs.Common.{◌≡◌, ℕ, suc, zero, ◌≤◌, ◌||◌, ◌==◌, inl, inr, Bool, true, false, List, [], ◌∷◌, arith, lit≤, refl, subst}
use Rattle.std.specs.Prelude.{slice_index, if◌then◌else◌}
use Rattle.std.proofs.lemmas.Bool.{eqb-true}
use Rattle.std.proofs.lemmas.Bool.Decides.{nat_tests}
use Rattle.std.proofs.lemmas.List.Sums.{prefix_len_passes}
use Rattle.cstar_base.specs.declared.faults.Fault.{Fault}
use Rattle.cstar_tree.specs.declared.token.Mark.{Mark}
use Rattle.cstar_tree.specs.declared.token.Mark.TheVariants as M
use Rattle.cstar_lexer.specs.Bytes.{is_figure, is_inner_blank, is_letter}
use Rattle.cstar_lexer.specs.Constants.{IsConstant, IsNumeral, digit_of, is_digit}
use Rattle.cstar_lexer.specs.Constants as C
use Rattle.cstar_lexer.specs.Marks.{IsMark, punctuator_bytes}
use Rattle.cstar_lexer.specs.Numbers.{NumberFault}
use Rattle.cstar_lexer.specs.Numbers as N
use Rattle.cstar_lexer.specs.Quoted.{CharacterFault}
use Rattle.cstar_lexer.specs.Quoted as Q
use Rattle.cstar_lexer.specs.Reading.{IsBlank}

-- 0 for a word, 1 a constant, 2 a character constant, 3 a text, 4 a blank, 5 a `#`, else 6
unfoldable pub class_of : ℕ → ℕ
class_of byte = if is_letter byte then 0 else (if is_figure byte then 1 else (if byte == 39 then 2 else (if byte == 34 then 3 else (if is_inner_blank byte || byte == 10 then 4 else (if byte == 35 then 5 else 6)))))

pub letter_class : (x : ℕ) → is_letter x ≡ true → class_of x ≡ 0
unfolding class_of
letter_class x h = rw h refl

figure_no_letter : (x : ℕ) → is_figure x ≡ true → is_letter x ≡ false
unfolding is_figure is_letter
figure_no_letter x h = grind (arith, nat_tests)

pub figure_class : (x : ℕ) → is_figure x ≡ true → class_of x ≡ 1
unfolding class_of
figure_class x h = let e = figure_no_letter x h in rw (e, h) refl

pub at_39 : (x : ℕ) → x ≡ 39 → class_of x ≡ 2
unfolding class_of is_letter is_figure
at_39 x h = rw h refl

pub at_34 : (x : ℕ) → x ≡ 34 → class_of x ≡ 3
unfolding class_of is_letter is_figure
at_34 x h = rw h refl

pub at_35 : (x : ℕ) → x ≡ 35 → class_of x ≡ 5
unfolding class_of is_letter is_figure is_inner_blank
at_35 x h = rw h refl

pub at_47 : (x : ℕ) → x ≡ 47 → class_of x ≡ 6
unfolding class_of is_letter is_figure is_inner_blank
at_47 x h = rw h refl

at_10 : (x : ℕ) → x ≡ 10 → class_of x ≡ 4
unfolding class_of is_letter is_figure is_inner_blank
at_10 x h = rw h refl

inner_class : (x : ℕ) → is_inner_blank x ≡ true → class_of x ≡ 4
unfolding class_of is_letter is_figure is_inner_blank
inner_class x h = grind (arith, nat_tests)

pub blank_class : {x : ℕ} → IsBlank x → class_of x ≡ 4
blank_class {x} (inl h) = inner_class x h
blank_class {x} (inr h) = at_10 x h

digit_figure : (r x : ℕ) → r ≤ 10 → is_digit r x ≡ true → is_figure x ≡ true
unfolding is_digit is_figure digit_of
digit_figure r x few h = grind (arith, nat_tests)

figure_48 : (x : ℕ) → x ≡ 48 → is_figure x ≡ true
unfolding is_figure
figure_48 x h = rw h refl

pub figure_first : {bytes : List ℕ} {n v : ℕ} → IsNumeral bytes n v → is_figure (slice_index bytes 0) ≡ true
figure_first {bytes} (C.decimal some all other is) = digit_figure 10 _ (lit≤ tt) (prefix_len_passes (is_digit 10) bytes 0 0 (omega arith))
figure_first {bytes} (C.octal some all z is) = figure_48 _ z
figure_first {bytes} (C.hexadecimal z x some all is long) = figure_48 _ z

pub numeral_class : {bytes : List ℕ} {n v : ℕ} → IsNumeral bytes n v → class_of (slice_index bytes 0) ≡ 1
numeral_class n = figure_class _ (figure_first n)

first_of : List ℕ → Bool
first_of [] = true
first_of (x ∷ xs) = class_of x == 6

marks_first : (mark : Mark) → first_of (punctuator_bytes mark) ≡ true
unfolding first_of class_of is_letter is_figure is_inner_blank
marks_first M.LeftBrace = refl
marks_first _ = refl

pub mark_class : (bytes : List ℕ) (n : ℕ) (mark : Mark) → IsMark bytes n mark → class_of (slice_index bytes 0) ≡ 6
unfolding first_of
mark_class [] n mark is = absurd (omega (arith, is.some, is.within))
mark_class (x ∷ bytes) zero mark is = absurd (omega (arith, is.some))
mark_class (x ∷ bytes) (suc n) mark is = eqb-true _ _ (subst (λ (xs : List ℕ). first_of xs ≡ true) is.spelled (marks_first mark))

pub number_fault_figure : {bytes : List ℕ} {fault : Fault} {offset : ℕ} → NumberFault bytes fault offset → is_figure (slice_index bytes 0) ≡ true
number_fault_figure (N.wide c large) = figure_first c.constant.numeral
number_fault_figure (N.glued c glued) = figure_first c.constant.numeral

pub number_fault_class : {bytes : List ℕ} {fault : Fault} {offset : ℕ} → NumberFault bytes fault offset → class_of (slice_index bytes 0) ≡ 1
number_fault_class f = figure_class _ (number_fault_figure f)

pub character_fault_quote : {bytes : List ℕ} {fault : Fault} {offset : ℕ} → CharacterFault bytes fault offset → slice_index bytes 0 ≡ 39
character_fault_quote (Q.ended q ends) = q
character_fault_quote (Q.cut q cut) = q
character_fault_quote (Q.unclosed q one ends) = q
character_fault_quote (Q.empty q same) = q
character_fault_quote (Q.bad q bad) = q
character_fault_quote (Q.wide q escape large) = q
character_fault_quote (Q.other q one on unclosed) = q

pub character_fault_class : {bytes : List ℕ} {fault : Fault} {offset : ℕ} → CharacterFault bytes fault offset → class_of (slice_index bytes 0) ≡ 2
character_fault_class f = at_39 _ (character_fault_quote f)
