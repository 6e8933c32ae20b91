-- Folds of the numbers of a narrow type, at their own length.
use Rattle.std.proofs.Common.{◌≡◌, ℕ, zero, suc, ◌+◌, ◌<◌, ◌≤◌, ◌-◌, ◌^◌, ◌%◌, bit_and, bit_or, bit_xor, Bool, true, false, not, ◌&&◌, cond, Some, None, refl, sym, ◌∙◌, ap, subst, lit<, arith}
use Rattle.std.specs.Prelude.{if◌then◌else◌}
use Rattle.std.proofs.lemmas.Nat.{and_mod, or_mod, xor_mod}
use Rattle.std.proofs.lemmas.Bool.{ne_eqb}
use Rattle.std.proofs.Math.Nat.{mod-eq_of_lt, pow-le-pow_right}
use Rattle.cstar_base.specs.declared.elem.Elem.{Elem}
use Rattle.cstar_base.specs.Kinds.{is_kind}
use Rattle.cstar_base.specs.Folds.{fold_once, identity_of}
use Rattle.cstar_base.specs.Numbers.{converted, residue, number_of, truth_of}
use Rattle.cstar_base.specs.Orders.{fold_below}
use Rattle.cstar_base.proofs.NumberLaws.{kind_bits, number_in_lower, number_unsigned, residue_below, residue_of_number, residue_of_pos}
use Rattle.paris_code.specs.declared.operands.Reduction.{Reduction}
use Rattle.paris_code.specs.declared.operands.Reduction.TheVariants as F
use Rattle.paris_code.specs.Operators.{combiner_of}
use Rattle.paris_code.specs.Scalar.{rounded}
use Rattle.lower_base.specs.Kinds.{folded_bits, folded_kind, joins_bits}
use Rattle.lower_expr.specs.Kinds.{has_number}
use Rattle.phase_meaning.proofs.Widths.{cut_cut}
use Rattle.short_values.specs.Short.{Agrees, Each, field_fold, put_back, taken_word}
use Rattle.short_values.proofs.LowestBits.{low_bits_of_word}
use Rattle.short_values.proofs.NarrowTypes.{bool_unsigned, by_parts, holds, narrowed, narrowed_below, read_word, whole}
use Rattle.short_values.proofs.SignedWords.{Repeats, and_repeats, or_repeats, xor_repeats, zero_repeats, ones_repeat, sign_extended, number_repeats}

-- two folds are in a relation that their steps keep
folds_related : (R : ℕ → ℕ → Type 0) (f g : ℕ → ℕ → ℕ) (passes : ℕ → Bool) (x y : ℕ → ℕ) (a b n : ℕ) → R a b
    → ((i j p : ℕ) → p < n → passes p ≡ true → R i j → R (f i (x p)) (g j (y p)))
    → R (fold_below f passes x a n) (fold_below g passes y b n)
unfolding fold_below
folds_related R f g passes x y a b zero start step = start
folds_related R f g passes x y a b (suc n) start step =
    by (passes n) refl (folds_related R f g passes x y a b n start (λ i j p below h r. step i j p (omega arith) h r))
  where
    by : (t : Bool) → passes n ≡ t → R (fold_below f passes x a n) (fold_below g passes y b n)
        → R (if t then f (fold_below f passes x a n) (x n) else fold_below f passes x a n) (if t then g (fold_below g passes y b n) (y n) else fold_below g passes y b n)
    by true h r = step _ _ n (omega arith) h r
    by false h r = r

-- at how many bits a type is folded, by its bits and its sign
bits_folded : Reduction → ℕ → Bool → ℕ
bits_folded c bits signed =
    if joins_bits c then bits
    else if (combiner_of c).1 then (if signed then 32 else bits)
    else (if signed then bits else bits + 1)

-- a word that a type has is below 2 ^ 32, and that of an unsigned type below its modulus
word_below : (bits : ℕ) (signed : Bool) (word : ℕ) → holds bits signed word ≡ true → word < 2 ^ 32
word_below bits signed word h = subst (λ (w : ℕ). w < 2 ^ 32) (whole bits signed word h) (residue_below 32 (number_of bits signed (narrowed bits word)))

unsigned_below : (bits word : ℕ) → bits ≤ 32 → holds bits false word ≡ true → word < 2 ^ bits
unsigned_below bits word most h =
    let wide : 2 ^ bits ≤ 2 ^ 32 = pow-le-pow_right (lit< tt) most in
    let n : ℕ = narrowed bits word in
    let below : n < 2 ^ bits = narrowed_below bits word in
    let is : word ≡ n = sym (whole bits false word h) ∙ ap (residue 32) (number_unsigned bits n) ∙ residue_of_pos 32 n ∙ mod-eq_of_lt (omega arith) in
    omega arith

-- a number that is read with a sign: that of an unsigned type has one bit more
read_signed : (bits : ℕ) (signed : Bool) (n word : ℕ) → bits < 32 → holds bits signed word ≡ true
    → Agrees (if signed then bits else bits + 1) n word → residue 32 (number_of (if signed then bits else bits + 1) true n) ≡ word
read_signed bits true n word narrow h agrees = read_word bits true n word (omega arith) h agrees
read_signed bits false n word narrow h agrees =
    let low : word < 2 ^ bits = unsigned_below bits word (omega arith) h in
    let wider : 2 ^ bits ≤ 2 ^ (bits + 1) = pow-le-pow_right (lit< tt) (let e : bits ≤ bits + 1 = omega arith in e) in
    let half : 2 ^ (bits + 1 - 1) ≡ 2 ^ bits = ap (λ b. 2 ^ b) (let e : bits + 1 - 1 ≡ bits = omega arith in e) in
    let is : n ≡ word = agrees ∙ mod-eq_of_lt (omega arith) in
    ap (λ k. residue 32 (number_of (bits + 1) true k)) is ∙ ap (residue 32) (number_in_lower (bits + 1) word (omega arith))
    ∙ residue_of_pos 32 word ∙ mod-eq_of_lt (word_below bits false word h)

-- a number that is read without one: that of a type with a sign is a whole word
read_unsigned : (bits : ℕ) (signed : Bool) (n word : ℕ) → bits < 32 → holds bits signed word ≡ true
    → Agrees (if signed then 32 else bits) n word → residue 32 (number_of (if signed then 32 else bits) false n) ≡ word
read_unsigned bits true n word narrow h agrees =
    let below = word_below bits true word h in
    ap (λ k. residue 32 (number_of 32 false k)) (agrees ∙ mod-eq_of_lt below) ∙ residue_of_number 32 false word below
read_unsigned bits false n word narrow h agrees = read_word bits false n word (omega arith) h agrees

-- so each number is read as its word, but where bits of a type with a sign are joined
read : (c : Reduction) (bits : ℕ) (signed : Bool) (n word : ℕ) → bits < 32 → (joins_bits c && signed) ≡ false → holds bits signed word ≡ true
    → Agrees (bits_folded c bits signed) n word → taken_word c (bits_folded c bits signed) n ≡ word
unfolding joins_bits bits_folded
read F.SAdd bits signed n word narrow h = read_signed bits signed n word narrow
read F.SMin bits signed n word narrow h = read_signed bits signed n word narrow
read F.SMax bits signed n word narrow h = read_signed bits signed n word narrow
read F.UMin bits signed n word narrow h = read_unsigned bits signed n word narrow
read F.UMax bits signed n word narrow h = read_unsigned bits signed n word narrow
read F.Logand bits false n word narrow h = read_word bits false n word (omega arith)
read F.Logior bits false n word narrow h = read_word bits false n word (omega arith)
read F.Logxor bits false n word narrow h = read_word bits false n word (omega arith)
read F.Logand bits true n word narrow h = cc
read F.Logior bits true n word narrow h = cc
read F.Logxor bits true n word narrow h = cc

-- a word is read as itself
word_read : (c : Reduction) (word : ℕ) → word < 2 ^ 32 → taken_word c 32 word ≡ word
word_read c word h = residue_of_number 32 (not (combiner_of c).1) word h

-- the folds of what is read the same are the same
same_folds : (c : Reduction) (bits : ℕ) (signed : Bool) (passes : ℕ → Bool) (number word : ℕ → ℕ) (count : ℕ) → bits < 32 → (joins_bits c && signed) ≡ false
    → Each passes count (λ p. holds bits signed (word p) ≡ true) → Each passes count (λ p. Agrees (bits_folded c bits signed) (number p) (word p))
    → field_fold c (bits_folded c bits signed) passes number count ≡ field_fold c 32 passes word count
same_folds c bits signed passes number word count narrow h has agrees =
    folds_related (λ a b. a ≡ b) once once passes _ _ _ _ count refl (λ i j p below pass same.
    ap (λ a. once a (taken_word c (bits_folded c bits signed) (number p))) same
    ∙ ap (once j) (read c bits signed (number p) (word p) narrow h (has p below pass) (agrees p below pass)
    ∙ sym (word_read c (word p) (word_below bits signed (word p) (has p below pass)))))
  where
    once : ℕ → ℕ → ℕ
    once total n = fold_once (combiner_of c).0 (combiner_of c).1 total n

-- Where bits are joined, the fold of numbers without their sign has the lowest bits of the fold of the words,
-- whose bits repeat from the sign on.
abbrev Kept : ℕ → ℕ → ℕ → Type 0
Kept k low word = (low % 2 ^ suc k ≡ word % 2 ^ suc k) × Repeats k word

abbrev Lowest : (ℕ → ℕ → ℕ) → Type 0
Lowest f = (a b k : ℕ) → f a b % 2 ^ k ≡ f (a % 2 ^ k) (b % 2 ^ k)

abbrev Repeating : (ℕ → ℕ → ℕ) → Type 0
Repeating f = (k a b : ℕ) → Repeats k a → Repeats k b → Repeats k (f a b)

step_kept : (f : ℕ → ℕ → ℕ) → Lowest f → Repeating f → (k low word more other : ℕ) → Kept k low word → Kept k more other → Kept k (f low more) (f word other)
step_kept f lowest repeats k low word more other a b = (
  lowest low more (suc k) ∙ ap (λ x. f x (more % 2 ^ suc k)) a.0 ∙ ap (λ x. f (word % 2 ^ suc k) x) b.0 ∙ sym (lowest word other (suc k)),
  repeats k word other a.1 b.1,
)

-- a number without its sign
value_kept : (k n word : ℕ) → k < 31 → holds (suc k) true word ≡ true → Agrees (suc k) n word
    → Kept k (residue 32 (number_of (suc k) false n)) (residue 32 (number_of 32 false word))
value_kept k n word h has agrees =
    let below = word_below (suc k) true word has in
    let same : residue 32 (number_of 32 false word) ≡ word = residue_of_number 32 false word below in
    let read : residue 32 (number_of (suc k) false n) ≡ n % 2 ^ 32 = ap (residue 32) (number_unsigned (suc k) n) ∙ residue_of_pos 32 n in
    let most : suc k ≤ 32 = omega arith in (
      ap (λ x. x % 2 ^ suc k) read ∙ cut_cut n (suc k) 32 most ∙ ap (λ x. x % 2 ^ suc k) agrees ∙ cut_cut word (suc k) (suc k) (omega arith)
          ∙ sym (ap (λ x. x % 2 ^ suc k) same),
      subst (Repeats k) (whole (suc k) true word has ∙ sym same) (number_repeats k (narrowed (suc k) word) h (narrowed_below (suc k) word)),
    )

joined_kept : (f : ℕ → ℕ → ℕ) → Lowest f → Repeating f → (start k : ℕ) → (passes : ℕ → Bool) (number word : ℕ → ℕ) (count : ℕ) → k < 31
    → Repeats k start → Each passes count (λ p. holds (suc k) true (word p) ≡ true) → Each passes count (λ p. Agrees (suc k) (number p) (word p))
    → Kept k (fold_below f passes (λ p. residue 32 (number_of (suc k) false (number p))) start count) (fold_below f passes (λ p. residue 32 (number_of 32 false (word p))) start count)
joined_kept f lowest repeats start k passes number word count h begins has agrees =
    folds_related (Kept k) f f passes _ _ start start count (refl, begins) (λ i j p below pass kept.
    step_kept f lowest repeats k i j _ _ kept (value_kept k (number p) (word p) h (has p below pass) (agrees p below pass)))

-- the sign put back to what was folded without it
extended_again : (k low word : ℕ) → k < 31 → Kept k low word → residue 32 (number_of (suc k) true (residue (suc k) (number_of 32 true low))) ≡ word
extended_again k low word h kept =
    ap (λ n. residue 32 (number_of (suc k) true n)) (low_bits_of_word (suc k) low (omega arith) ∙ kept.0) ∙ sign_extended k word h kept.1

joined : (c : Reduction) (bits : ℕ) (passes : ℕ → Bool) (number word : ℕ → ℕ) (count : ℕ) → 0 < bits → bits < 32 → joins_bits c ≡ true
    → Each passes count (λ p. holds bits true (word p) ≡ true) → Each passes count (λ p. Agrees bits (number p) (word p))
    → residue 32 (number_of bits true (residue bits (number_of 32 true (field_fold c bits passes number count)))) ≡ field_fold c 32 passes word count
unfolding joins_bits fold_once identity_of
joined c zero passes number word count some narrow h has agrees = absurd (omega arith)
joined F.Logand (suc k) passes number word count some narrow h has agrees =
    extended_again k _ _ (omega arith) (joined_kept bit_and and_mod and_repeats (2 ^ 32 - 1) k passes number word count (omega arith) (ones_repeat k (omega arith)) has agrees)
joined F.Logior (suc k) passes number word count some narrow h has agrees =
    extended_again k _ _ (omega arith) (joined_kept bit_or or_mod or_repeats 0 k passes number word count (omega arith) (zero_repeats k) has agrees)
joined F.Logxor (suc k) passes number word count some narrow h has agrees =
    extended_again k _ _ (omega arith) (joined_kept bit_xor xor_mod xor_repeats 0 k passes number word count (omega arith) (zero_repeats k) has agrees)
joined _ bits passes number word count some narrow h has agrees = cc

-- the type of a word with a sign is not `bool`
converted_is : (bits x : ℕ) → is_kind bits true ≡ true → narrowed bits x ≡ residue bits (number_of 32 true x)
unfolding narrowed
converted_is bits x kind =
    ap (λ t. cond t (truth_of (number_of 32 true x)) (residue bits (number_of 32 true x))) (ne_eqb bits 1 (λ e. no (bool_unsigned bits true kind e)))
  where
    no : true ≡ false → ⊥
    no e = cc

both : (a b : Bool) → (a && b) ≡ true → (a ≡ true) × (b ≡ true)
both true true h = (refl, refl)
both true false h = cc
both false b h = cc

joined_bits : (c : Reduction) (bits : ℕ) (signed : Bool) → joins_bits c ≡ true → bits_folded c bits signed ≡ bits
unfolding bits_folded
joined_bits c bits signed h = ap (λ (t : Bool). if t then bits else if (combiner_of c).1 then (if signed then 32 else bits) else (if signed then bits else bits + 1)) h

put_back_signed : (c : Reduction) (kind : Elem) (passes : ℕ → Bool) (number word : ℕ → ℕ) (count : ℕ) → kind.bits < 32 → joins_bits c ≡ true → kind.signed ≡ true
    → Each passes count (λ p. holds kind.bits kind.signed (word p) ≡ true) → Each passes count (λ p. Agrees (bits_folded c kind.bits kind.signed) (number p) (word p))
    → rounded kind (field_fold c (bits_folded c kind.bits kind.signed) passes number count) ≡ field_fold c 32 passes word count
unfolding rounded converted narrowed
put_back_signed c kind passes number word count narrow h signed has agrees =
    let same = joined_bits c kind.bits kind.signed h in
    let x : ℕ = field_fold c kind.bits passes number count in
    ap (λ b. rounded kind (field_fold c b passes number count)) same
    ∙ ap (λ s. residue 32 (number_of kind.bits s (narrowed kind.bits x))) signed
    ∙ ap (λ m. residue 32 (number_of kind.bits true m)) (converted_is kind.bits x (ap (is_kind kind.bits) (sym signed) ∙ kind.kind))
    ∙ joined c kind.bits passes number word count (kind_bits kind.bits kind.signed kind.kind).0 narrow h
    (λ p below pass. ap (λ s. holds kind.bits s (word p)) (sym signed) ∙ has p below pass)
    (λ p below pass. agrees p below pass ∙ ap (λ b. word p % 2 ^ b) same)

pub short_folds : (c : Reduction) (kind : Elem) (passes : ℕ → Bool) (number word : ℕ → ℕ) (count : ℕ) → kind.bits < 32
    → Each passes count (λ p. has_number kind (word p) ≡ true) → Each passes count (λ p. Agrees (folded_bits c (Some kind)) (number p) (word p))
    → put_back (folded_kind c (Some kind)) (field_fold c (folded_bits c (Some kind)) passes number count) ≡ field_fold c 32 passes word count
unfolding folded_bits folded_kind put_back bits_folded
short_folds c kind passes number word count narrow has agrees = by (joins_bits c && kind.signed) refl
  where
    holding : Each passes count (λ p. holds kind.bits kind.signed (word p) ≡ true)
    holding p below pass = sym (by_parts kind (word p)) ∙ has p below pass

    by : (t : Bool) → (joins_bits c && kind.signed) ≡ t
        → put_back (if t then Some kind else None) (field_fold c (bits_folded c kind.bits kind.signed) passes number count) ≡ field_fold c 32 passes word count
    by false h = same_folds c kind.bits kind.signed passes number word count narrow h holding agrees
    by true h = put_back_signed c kind passes number word count narrow (both _ _ h).0 (both _ _ h).1 holding agrees
