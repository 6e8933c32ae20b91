-- What a field of few bits has of a word, what operators, comparisons and folds give on such fields, and
-- which words a narrow type has.
use Rattle.std.specs.Prelude.{◌≡◌, ℕ, Bool, true, false, not, ◌<◌, ◌≤◌, ◌-◌, ◌^◌, ◌%◌, ◌==◌, Option, Some, None, pos, neg_ℤ}
use Rattle.cstar_base.specs.declared.elem.Elem.{Elem}
use Rattle.cstar_base.specs.declared.operators.Op.{Op}
use Rattle.cstar_base.specs.declared.operators.Op.TheVariants as P
use Rattle.cstar_base.specs.Folds.{fold_once, identity_of}
use Rattle.cstar_base.specs.Numbers.{converted, residue, number_of}
use Rattle.cstar_base.specs.Operators.{outcome}
use Rattle.cstar_base.specs.Orders.{fold_below}
use Rattle.cstar_tree.specs.declared.typed.UnaryOp.TheVariants as Un
use Rattle.paris_code.specs.declared.operands.Reduction.{Reduction}
use Rattle.paris_code.specs.Operators.{combiner_of}
use Rattle.paris_code.specs.Scalar.{rounded}
use Rattle.source_meaning.specs.Reductions.{int_type}
use Rattle.source_meaning.specs.Values.{unary_of}
use Rattle.lower_base.specs.Kinds.{folded_bits, folded_kind, has_all}
use Rattle.lower_base.specs.Operators.{relates}
use Rattle.lower_expr.specs.Kinds.{is_modular, has_number}

-- The number of a field of so many bits agrees with a word: it is the lowest bits of the word. That is
-- all that a field has of a value.
abbrev pub Agrees : ℕ → ℕ → ℕ → Type 0
Agrees bits n word = n ≡ word % 2 ^ bits

-- the lowest bits of a field that agrees with a word agree with it
abbrev pub FewerBitsAgree : Type 0
FewerBitsAgree =
    (bits fewer n word : ℕ) → fewer ≤ bits → Agrees bits n word → Agrees fewer (n % 2 ^ fewer) word

-- The lowest bits of what a modular operator gives depend on the lowest bits of its operands alone: from
-- fields it gives what agrees with what it gives from words, however the fields and the words are read.
abbrev pub ModularOperatorsAgree : Type 0
ModularOperatorsAgree =
    (op : Op) (bits : ℕ) (unsigned word_unsigned : Bool) (m n x y : ℕ) → is_modular op ≡ true → bits ≤ 32 → x < 2 ^ 32 → y < 2 ^ 32
    → Agrees bits m x → Agrees bits n y → Agrees bits (outcome op bits unsigned m n) (outcome op 32 word_unsigned x y)

-- so do those of a shift to the left by fewer places than the field has bits
abbrev pub LeftShiftsAgree : Type 0
LeftShiftsAgree =
    (bits : ℕ) (unsigned word_unsigned : Bool) (n x places : ℕ) → bits ≤ 32 → places < bits
    → Agrees bits n x → Agrees bits (outcome P.Shl bits unsigned n places) (outcome P.Shl 32 word_unsigned x places)

-- so do those of the negative and of the complement, as the instructions give them of a field
abbrev pub NegativesAgree : Type 0
NegativesAgree =
    (bits n x : ℕ) → bits ≤ 32 → x < 2 ^ 32 → Agrees bits n x → Agrees bits (residue bits (neg_ℤ (pos n))) (unary_of Un.Minus x)

abbrev pub ComplementsAgree : Type 0
ComplementsAgree =
    (bits n x : ℕ) → bits ≤ 32 → x < 2 ^ 32 → Agrees bits n x → Agrees bits (2 ^ bits - 1 - n) (unary_of Un.Complement x)

-- A relation holds of two numbers of a narrow type, read as the type is, where it holds of the words that
-- they are converted to. The words are read signed if the type is, and else either way.
abbrev pub NarrowComparisonsAreWide : Type 0
NarrowComparisonsAreWide =
    (op : Op) (kind : Elem) (unsigned : Bool) (m n : ℕ) → relates op ≡ true → kind.bits < 32 → (kind.signed ≡ true → unsigned ≡ false)
    → m < 2 ^ kind.bits → n < 2 ^ kind.bits
    → outcome op kind.bits (not kind.signed) m n ≡ outcome op 32 unsigned (converted int_type kind m) (converted int_type kind n)

-- a field of a type's bits that agrees with a word which the type has: read as the type is, it is the word
abbrev pub NarrowNumbersAreWords : Type 0
NarrowNumbersAreWords =
    (kind : Elem) (n word : ℕ) → has_number kind word ≡ true → Agrees kind.bits n word → converted int_type kind n ≡ word

-- and it is 0 where the word is
abbrev pub ZeroTestsAgree : Type 0
ZeroTestsAgree = (kind : Elem) (n word : ℕ) → has_number kind word ≡ true → Agrees kind.bits n word → (n == 0) ≡ (word == 0)

-- so of a type of one bit the complement agrees with what `!` gives of the word
abbrev pub NegationsAgree : Type 0
NegationsAgree =
    (kind : Elem) (n word : ℕ) → kind.bits ≡ 1 → has_number kind word ≡ true → Agrees 1 n word → Agrees 1 (2 ^ 1 - 1 - n) (unary_of Un.Not word)

-- extended as the type is read, or cut, it agrees with the word at any number of bits
abbrev pub ExtendedNumbersAgree : Type 0
ExtendedNumbersAgree =
    (kind : Elem) (bits n word : ℕ) → bits ≤ 32 → has_number kind word ≡ true → Agrees kind.bits n word
    → Agrees bits (residue bits (number_of kind.bits kind.signed n)) word

-- a type that has all numbers of another one has every word that the other one has
abbrev pub WiderTypesHaveWords : Type 0
WiderTypesHaveWords =
    (elem kind : Elem) (word : ℕ) → has_all elem kind ≡ true → has_number kind word ≡ true → has_number elem word ≡ true

-- what holds at each place below a number that passes
abbrev pub Each : (ℕ → Bool) → ℕ → (ℕ → Type 0) → Type 0
Each passes count P = (p : ℕ) → p < count → passes p ≡ true → P p

-- the word that a fold takes of a number of a field, which is read with a sign where the combiner does so
abbrev pub taken_word : Reduction → ℕ → ℕ → ℕ
taken_word c bits n = residue 32 (number_of bits (not (combiner_of c).1) n)

-- the fold of the numbers of a field that pass, in rising order
abbrev pub field_fold : Reduction → ℕ → (ℕ → Bool) → (ℕ → ℕ) → ℕ → ℕ
field_fold c bits passes number count =
    fold_below (λ total n. fold_once (combiner_of c).0 (combiner_of c).1 total n) passes (λ p. taken_word c bits (number p))
    (identity_of (combiner_of c).0 (combiner_of c).1) count

-- a fold converted to a type, where that is to be done
unfoldable pub put_back : Option Elem → ℕ → ℕ
put_back None fold = fold
put_back (Some kind) fold = rounded kind fold

-- The fold of values of a narrow type at their own length, over any places, and none too: converted where that
-- is to be done, it is the fold of their words.
abbrev pub ShortFoldsAgree : Type 0
ShortFoldsAgree =
    (c : Reduction) (kind : Elem) (passes : ℕ → Bool) (number word : ℕ → ℕ) (count : ℕ) → kind.bits < 32
    → Each passes count (λ p. has_number kind (word p) ≡ true) → Each passes count (λ p. Agrees (folded_bits c (Some kind)) (number p) (word p))
    → put_back (folded_kind c (Some kind)) (field_fold c (folded_bits c (Some kind)) passes number count) ≡ field_fold c 32 passes word count
