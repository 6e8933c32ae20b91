-- Why a line that begins with a `#` is no accepted one, and which fault of a line is its first.
use Rattle.std.proofs.Common.{◌≡◌, ℕ, ◌<◌, ◌≤◌, ◌^◌, inl, inr, Bool, true, false, List, length, take, drop, length-drop, refl, sym, ap, subst, ◌∙◌, arith, lit≤, nat_eq}
use Rattle.std.specs.Prelude.{IfNone, IfSome, MatchOption, None, Option, Some, codes, is_some, slice_index}
use Rattle.std.proofs.lemmas.Bool.{cases_lt}
use Rattle.std.specs.Cmp.Lexicographic.{bytes_decides, pointwise}
use Rattle.std.specs.List.{prefix_len}
use Rattle.cstar_base.specs.Faults.{number_of}
use Rattle.cstar_base.specs.declared.faults.Fault.{Fault}
use Rattle.cstar_base.specs.declared.faults.Fault.TheVariants as F
use Rattle.cstar_tree.specs.declared.token.Mark.{Mark}
use Rattle.cstar_lexer.specs.Bytes.{goes_on, is_figure, is_inner_blank, is_letter}
use Rattle.cstar_lexer.specs.Constants.{IsKept, IsLongestConstant, is_unsigned}
use Rattle.cstar_lexer.specs.Directives.{IsBehindBlanks, IsDefine, IsEmptyEnd, IsInclude, IsUnknown, LineFault, behind_blanks, behind_hash}
use Rattle.cstar_lexer.specs.Directives as D
use Rattle.cstar_lexer.specs.Faults.{IsFirst}
use Rattle.cstar_lexer.specs.Marks.{word_bytes}
use Rattle.cstar_lexer.specs.Names.{Names, number_of_name}
use Rattle.cstar_lexer.specs.Numbers.{IsNumberOf}
use Rattle.cstar_lexer.specs.Reading.{IsLine}
use Rattle.cstar_lexer.specs.declared.number.Number.{Number}
use Rattle.cstar_lexer.proofs.LineLemmas.{include_no_define, named_is, named_part, one_define, one_number, valued_is, valued_part}
use Rattle.cstar_lexer.proofs.Longest.{one_constant}

abbrev pub NoDefine : List ℕ → Type 0
NoDefine line = (name : List ℕ) (at value : ℕ) (suffixed : Bool) → IsDefine line name at value suffixed → ⊥

other_word : (xs ys : List ℕ) → pointwise nat_eq xs ys ≡ false → xs ≡ ys → ⊥
other_word xs ys h e = let t : pointwise nat_eq xs ys ≡ true = (bytes_decides xs ys).1 e in cc

pub unknown_word : (line words : List ℕ) → words ≡ behind_hash line → pointwise nat_eq (take 7 words) (codes "include") ≡ false → NoDefine line → IsUnknown line
unknown_word line words is other none = (λ i. other_word _ _ other (subst (λ (xs : List ℕ). take 7 xs ≡ codes "include") (sym is) i.word), none)

pub unknown_header : {A : Type 0} (line words file : List ℕ) → words ≡ behind_hash line → pointwise nat_eq (take 7 words) (codes "include") ≡ true → file ≡ drop 7 words → (found : Option A) → IfNone found ((whole : List ℕ) → file ≡ drop 7 (behind_hash whole) → IsInclude whole → ⊥) → IfNone found (IsUnknown line)
unknown_header line words file is word rest (Some a) none = tt
unknown_header line words file is word rest None none =
    let included : take 7 (behind_hash line) ≡ codes "include" = subst (λ (xs : List ℕ). take 7 xs ≡ codes "include") is ((bytes_decides (take 7 words) (codes "include")).0 word) in
    (none line (rest ∙ ap (λ (xs : List ℕ). drop 7 xs) is), λ name at value suffixed d. include_no_define line included d.word)

pub no_word : (line words : List ℕ) → words ≡ behind_hash line → pointwise nat_eq (take 6 words) (codes "define") ≡ false → NoDefine line
no_word line words is other name at value suffixed d = other_word _ _ other (subst (λ (xs : List ℕ). take 6 xs ≡ codes "define") (sym is) d.word)

pub no_named : (line file : List ℕ) → file ≡ drop 6 (behind_hash line) → ((behind : List ℕ) → IsBehindBlanks file behind → ⊥) → NoDefine line
no_named line file is none name at value suffixed d = none d.named (subst (λ (xs : List ℕ). IsBehindBlanks xs d.named) (sym is) d.name_parted)

pub named_here : (line words file named : List ℕ) → words ≡ behind_hash line → file ≡ drop 6 words → IsBehindBlanks file named → named ≡ named_part line
named_here line words file named words_is file_is parted = parted.1 ∙ ap (λ (xs : List ℕ). behind_blanks xs) (file_is ∙ ap (λ (xs : List ℕ). drop 6 xs) words_is)

pub no_letter : (line named : List ℕ) → named ≡ named_part line → is_letter (slice_index named 0) ≡ false → NoDefine line
no_letter line named is none name at value suffixed d =
    let begins : is_letter (slice_index named 0) ≡ true = subst (λ (xs : List ℕ). is_letter (slice_index xs 0) ≡ true) (named_is d ∙ sym is) d.begins in cc

no_free : (line named name : List ℕ) (len : ℕ) (mark : Mark) → named ≡ named_part line → len ≡ prefix_len goes_on named → name ≡ take len named → word_bytes mark ≡ name → NoDefine line
no_free line named name len mark is run taken reserved word at value suffixed d =
    let same : d.named ≡ named = named_is d ∙ sym is in
    let whole : name ≡ word = taken ∙ (ap (λ (i : ℕ). take i named) run ∙ (ap (λ (xs : List ℕ). take (prefix_len goes_on xs) xs) (sym same) ∙ sym d.name_is)) in
    d.free mark (reserved ∙ whole)

pub no_reserved : (line named name : List ℕ) (len : ℕ) (found : Option Mark) → named ≡ named_part line → len ≡ prefix_len goes_on named → name ≡ take len named → is_some found ≡ true → IfSome found (λ mark. word_bytes mark ≡ name) → NoDefine line
no_reserved line named name len (Some mark) is run taken some reserved = no_free line named name len mark is run taken reserved
no_reserved line named name len None is run taken some reserved = absurd (cc)

pub no_valued : (line named rest : List ℕ) (len : ℕ) → named ≡ named_part line → len ≡ prefix_len goes_on named → rest ≡ drop len named → ((behind : List ℕ) → IsBehindBlanks rest behind → ⊥) → NoDefine line
no_valued line named rest len is run rest_is none name at value suffixed d =
    let same : d.named ≡ named = named_is d ∙ sym is in
    let there : drop (prefix_len goes_on d.named) d.named ≡ rest = ap (λ (xs : List ℕ). drop (prefix_len goes_on xs) xs) same ∙ (ap (λ (i : ℕ). drop i named) (sym run) ∙ sym rest_is) in
    none d.valued (subst (λ (xs : List ℕ). IsBehindBlanks xs d.valued) there d.value_parted)

pub valued_here : (line named rest valued : List ℕ) (len : ℕ) → named ≡ named_part line → len ≡ prefix_len goes_on named → rest ≡ drop len named → IsBehindBlanks rest valued → valued ≡ valued_part line
valued_here line named rest valued len is run rest_is parted =
    parted.1 ∙ ap (λ (xs : List ℕ). behind_blanks xs) (rest_is ∙ (ap (λ (i : ℕ). drop i named) run ∙ ap (λ (xs : List ℕ). drop (prefix_len goes_on xs) xs) is))

pub no_figure : (line valued : List ℕ) → valued ≡ valued_part line → is_figure (slice_index valued 0) ≡ false → NoDefine line
no_figure line valued is none name at value suffixed d =
    let figure : is_figure (slice_index valued 0) ≡ true = subst (λ (xs : List ℕ). is_figure (slice_index xs 0) ≡ true) (valued_is d ∙ sym is) d.figure in cc

pub no_end : (line valued : List ℕ) (n v : ℕ) (s : Bool) → valued ≡ valued_part line → IsLongestConstant valued n v s → (IsEmptyEnd (drop n valued) → ⊥) → NoDefine line
no_end line valued n v s is constant full name at value suffixed d =
    let same : d.valued ≡ valued = valued_is d ∙ sym is in
    let one = one_constant (subst (λ (xs : List ℕ). IsLongestConstant xs d.long value suffixed) same d.constant) constant in
    full (subst (λ (i : ℕ). IsEmptyEnd (drop i valued)) one.0 (subst (λ (xs : List ℕ). IsEmptyEnd (drop d.long xs)) same d.ends))

-- what the number of a constant is not
pub too_large : (value kept : ℕ) (s : Bool) (found : Option Number) → IsKept value kept → found ≡ None → MatchOption found (2 ^ 32 ≤ kept) (λ n. (kept < 2 ^ 32) × (n.value ≡ kept) × (n.unsigned ≡ is_unsigned kept s)) → 2 ^ 32 ≤ value
too_large value kept s found cut none facts =
    let large : 2 ^ 32 ≤ kept = subst (λ (o : Option Number). MatchOption o (2 ^ 32 ≤ kept) (λ n. (kept < 2 ^ 32) × (n.value ≡ kept) × (n.unsigned ≡ is_unsigned kept s))) none facts in omega (arith, cut)

pub other_number : (value : ℕ) (s : Bool) {number old : Number} → IsNumberOf value s number → (number ≡ old → ⊥) → IsNumberOf value s old → ⊥
other_number value s is different same = different (one_number refl refl is same)

pub line_is : (rest : List ℕ) (n : ℕ) → 0 < length rest → slice_index rest 0 ≡ 35 → n ≤ length rest → ((at : ℕ) → at < n → slice_index rest at ≡ 10 → ⊥) → (n < length rest → slice_index rest n ≡ 10) → IsLine rest n
line_is rest n some begins within one_line whole = record {
  begins = begins;
  some = elim (cases_lt 0 n) [
    | inl more ↦ more
    | inr none ↦ absurd (let zero_is : n ≡ 0 = omega arith in let ends : slice_index rest 0 ≡ 10 = rw zero_is at (whole (omega arith)) in omega arith)
  ];
  within = within;
  one_line = one_line;
  whole = whole;
}

-- which fault of a line is the first
pub first_unknown : {names : Names} {line : List ℕ} → IsUnknown line → IsFirst (LineFault names line) F.Directive 0
first_unknown {names} {line} u = record { stands = D.unknown u; first = λ other at f. omega arith; least = λ other at f e. least f }
  where
    least : {other : Fault} {at : ℕ} → LineFault names line other at → 4 ≤ number_of other
    least (D.unknown v) = lit≤ tt
    least (D.other d old different) = lit≤ tt
    least (D.wide d large) = absurd (u.1 _ _ _ _ d)

shorter : (xs : List ℕ) → length (behind_blanks xs) ≤ length xs
unfolding behind_blanks
shorter xs = omega (arith, length-drop (prefix_len is_inner_blank xs) xs)

constant_behind : {line name : List ℕ} {at value : ℕ} {s : Bool} → 0 < length line → IsDefine line name at value s → 0 < at
constant_behind {line} some d =
    let words = shorter (drop 1 line) in
    let named = shorter (drop 6 (behind_hash line)) in
    let valued = shorter (drop (prefix_len goes_on (named_part line)) (named_part line)) in
    omega (arith, d.place, ap length (valued_is d), words, named, valued, length-drop 1 line, length-drop 6 (behind_hash line), length-drop (prefix_len goes_on (named_part line)) (named_part line))

pub first_different : {names : Names} {line name : List ℕ} {at value : ℕ} {s : Bool} {number : Number} → 0 < length line → IsDefine line name at value s → number_of_name names name ≡ Some number → (IsNumberOf value s number → ⊥) → IsFirst (LineFault names line) F.Directive 0
first_different {names} {line} some d old different = record { stands = D.other d old different; first = λ other at f. omega arith; least = λ other at f e. least f e }
  where
    least : {other : Fault} {at : ℕ} → LineFault names line other at → at ≡ 0 → 4 ≤ number_of other
    least (D.unknown v) e = lit≤ tt
    least (D.other a b c) e = lit≤ tt
    least (D.wide a large) e = absurd (omega (arith, constant_behind some a))

pub first_large : {names : Names} {line name : List ℕ} {at value : ℕ} {s : Bool} → IsDefine line name at value s → number_of_name names name ≡ None → 2 ^ 32 ≤ value → IsFirst (LineFault names line) F.Wide at
first_large {names} {line} {name} {at} d new large = record { stands = D.wide d large; first = λ other i f. omega (arith, (only f).0); least = λ other i f e. (only f).1 }
  where
    only : {other : Fault} {i : ℕ} → LineFault names line other i → (i ≡ at) × (3 ≤ number_of other)
    only (D.unknown v) = absurd (v.1 _ _ _ _ d)
    only (D.other a old different) = absurd (cc (ap (λ (xs : List ℕ). number_of_name names xs) (one_define d a).0, new, old))
    only (D.wide a b) = (sym (one_define d a).1, lit≤ tt)
