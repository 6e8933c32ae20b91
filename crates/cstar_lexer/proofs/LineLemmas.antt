-- A directive line is one thing: an accepted line or a fault.
use Rattle.std.proofs.Common.{◌≡◌, ℕ, Bool, List, [], ◌∷◌, ◌++◌, length, take, drop, sym, ap, subst, ◌∙◌, arith, lit≤}
use Rattle.std.specs.Prelude.{codes, None, Some, slice_index}
use Rattle.std.specs.List.{prefix_len}
use Rattle.std.proofs.lemmas.List.{take-take}
use Rattle.cstar_base.specs.declared.faults.Fault.{Fault}
use Rattle.cstar_lexer.specs.declared.number.Number.{Number}
use Rattle.cstar_lexer.specs.Bytes.{goes_on}
use Rattle.cstar_lexer.specs.Constants.{IsLongestConstant, is_unsigned}
use Rattle.cstar_lexer.specs.Directives.{IsDefine, IsDirective, IsInclude, IsUnknown, LineFault, behind_blanks, behind_hash}
use Rattle.cstar_lexer.specs.Directives as D
use Rattle.cstar_lexer.specs.Names.{Names, number_of_name}
use Rattle.cstar_lexer.specs.Numbers.{IsNumberOf}
use Rattle.cstar_lexer.proofs.Longest.{one_constant}

-- the two words differ
pub include_no_define : (line : List ℕ) → take 7 (behind_hash line) ≡ codes "include" → take 6 (behind_hash line) ≡ codes "define" → ⊥
include_no_define line a b =
    let same : take 6 (take 7 (behind_hash line)) ≡ take 6 (behind_hash line) = take-take 6 7 (behind_hash line) (lit≤ tt) in
    let first : slice_index (take 6 (take 7 (behind_hash line))) 0 ≡ 105 = ap (λ (xs : List ℕ). slice_index (take 6 xs) 0) a in
    let other : slice_index (take 6 (behind_hash line)) 0 ≡ 100 = ap (λ (xs : List ℕ). slice_index xs 0) b in
    absurd (omega (arith, ap (λ (xs : List ℕ). slice_index xs 0) same))

-- the parts of a definition follow from its line
abbrev pub named_part : List ℕ → List ℕ
named_part line = behind_blanks (drop 6 (behind_hash line))

abbrev pub valued_part : List ℕ → List ℕ
valued_part line = behind_blanks (drop (prefix_len goes_on (named_part line)) (named_part line))

pub named_is : {line name : List ℕ} {at value : ℕ} {s : Bool} → (d : IsDefine line name at value s) → d.named ≡ named_part line
named_is d = d.name_parted.1

pub valued_is : {line name : List ℕ} {at value : ℕ} {s : Bool} → (d : IsDefine line name at value s) → d.valued ≡ valued_part line
valued_is d = d.value_parted.1 ∙ ap (λ (xs : List ℕ). behind_blanks (drop (prefix_len goes_on xs) xs)) (named_is d)

pub one_define : {line name other : List ℕ} {at place value number : ℕ} {s t : Bool} → IsDefine line name at value s → IsDefine line other place number t → (name ≡ other) × (at ≡ place) × (value ≡ number) × (s ≡ t)
one_define {line} {name} {other} {at} {place} {value} {number} {s} {t} d e =
    let named : d.named ≡ e.named = named_is d ∙ sym (named_is e) in
    let valued : d.valued ≡ e.valued = valued_is d ∙ sym (valued_is e) in
    let constant = one_constant d.constant (subst (λ (xs : List ℕ). IsLongestConstant xs e.long number t) (sym valued) e.constant) in
    let names : name ≡ other = d.name_is ∙ (ap (λ (xs : List ℕ). take (prefix_len goes_on xs) xs) named ∙ sym e.name_is) in
    (names, omega (arith, d.place, e.place, ap length valued), constant.1, constant.2)

same_number : {value other : ℕ} {s t : Bool} {number : Number} → value ≡ other → s ≡ t → IsNumberOf value s number → IsNumberOf other t number
same_number {value} {other} {s} {t} {number} a b n = subst (λ (i : ℕ). IsNumberOf i t number) a (subst (λ (u : Bool). IsNumberOf value u number) b n)

clash : (names : Names) {a b : List ℕ} {number : Number} {A : Type 0} → a ≡ b → number_of_name names a ≡ None → number_of_name names b ≡ Some number → A
clash names e none some = absurd (cc (ap (λ (xs : List ℕ). number_of_name names xs) e))

-- where an accepted line stands no fault does
pub no_line_fault : {old new : Names} {line : List ℕ} {fault : Fault} {at : ℕ} → IsDirective old line new → LineFault old line fault at → ⊥
no_line_fault (D.include i same) (D.unknown u) = u.0 i
no_line_fault {old} {new} {line} (D.include i same) (D.other d old_is not) = include_no_define line i.word d.word
no_line_fault {old} {new} {line} (D.include i same) (D.wide d large) = include_no_define line i.word d.word
no_line_fault (D.define d is none same) (D.unknown u) = u.1 _ _ _ _ d
no_line_fault {old} (D.define d is none same) (D.other e old_is not) = clash old (one_define d e).0 none old_is
no_line_fault (D.define d is none same) (D.wide e large) = let one = one_define d e in omega (arith, one.2, is.0)
no_line_fault (D.again d is found same) (D.unknown u) = u.1 _ _ _ _ d
no_line_fault {old} (D.again {number = number} d is found same) (D.other {value = value} {suffixed = s} {number = other} e old_is not) =
    let one = one_define d e in
    let numbers : number ≡ other = cc (found, old_is, ap (λ (xs : List ℕ). number_of_name old xs) one.0) in
    not (subst (λ (n : Number). IsNumberOf value s n) numbers (same_number one.2 one.3 is))
no_line_fault (D.again d is found same) (D.wide e large) = let one = one_define d e in omega (arith, one.2, is.0)

pub one_number : {value other : ℕ} {s t : Bool} {a b : Number} → value ≡ other → s ≡ t → IsNumberOf value s a → IsNumberOf other t b → a ≡ b
one_number {value} {other} {s} {t} {a} {b} e f x y = same_fields (x.1 ∙ (e ∙ sym y.1)) (x.2 ∙ (ap (λ (v : ℕ). is_unsigned v s) e ∙ (ap (λ (u : Bool). is_unsigned other u) f ∙ sym y.2)))
  where
    same_fields : a.value ≡ b.value → a.unsigned ≡ b.unsigned → a ≡ b
    same_fields v u = ap (λ (n : ℕ). record { value = n; unsigned = a.unsigned }) v ∙ ap (λ (u : Bool). record { value = b.value; unsigned = u }) u

-- the names behind a line are one list
pub one_directive : {old new other : Names} {line : List ℕ} → IsDirective old line new → IsDirective old line other → new ≡ other
one_directive (D.include i same) (D.include j is) = same ∙ sym is
one_directive {old} {new} {other} {line} (D.include i same) (D.define e is none so) = absurd (include_no_define line i.word e.word)
one_directive (D.include i same) (D.again e is found so) = same ∙ sym so
one_directive {old} {new} {other} {line} (D.define d is none same) (D.include j so) = absurd (include_no_define line j.word d.word)
one_directive {old} (D.define {name = name} {number = number} d is none same) (D.define {name = word} {number = value} e so nor next) =
    let one = one_define d e in
    let numbers : number ≡ value = one_number one.2 one.3 is so in
    same ∙ (ap (λ (w : List ℕ). old ++ (w, number) ∷ []) one.0 ∙ (ap (λ (v : Number). old ++ (word, v) ∷ []) numbers ∙ sym next))
one_directive {old} (D.define d is none same) (D.again e so found next) = clash old (one_define d e).0 none found
one_directive (D.again d is found same) (D.include j so) = same ∙ sym so
one_directive {old} (D.again d is found same) (D.define e so none next) = clash old (one_define e d).0 none found
one_directive (D.again d is found same) (D.again e so f next) = same ∙ sym next
