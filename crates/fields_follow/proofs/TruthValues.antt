-- What is known of truth values, which are 0 or 1, and of conversions to `bool`.
use Rattle.std.proofs.Common.{◌≡◌, ◌≢◌, ◌∙◌, ℕ, ℤ, pos, zero, suc, ◌-◌, ◌<◌, ◌≤◌, ◌^◌, ◌==◌, ◌⊎◌, Bool, true, false, not, Some, None, refl, sym, ap, arith, inl, inr, lit<, if◌then◌else◌}
use Rattle.std.specs.Int.{from_bool}
use Rattle.std.specs.Prelude.{nat_le, negsuc}
use Rattle.std.proofs.lemmas.Nat.{pow_pos}
use Rattle.std.proofs.lemmas.Bool.{cases_eq, eqb-true}
use Rattle.std.proofs.lemmas.Bool.Decides.{nat_tests}
use Rattle.std.proofs.Math.Nat.{mod-eq_of_lt, pow-le-pow_right}
use Rattle.cstar_base.specs.declared.elem.Elem.{Elem}
use Rattle.cstar_base.specs.Numbers.{converted, number_of, residue, truth_of as truth_number}
use Rattle.cstar_base.proofs.NumberLaws.{kind_bits, number_in_lower, number_unsigned, residue_of_number, residue_of_pos}
use Rattle.cstar_tree.specs.declared.typed.TExpr.{TExpr}
use Rattle.cstar_tree.specs.declared.typed.TExpr as T
use Rattle.cstar_tree.specs.declared.typed.UnaryOp.{UnaryOp}
use Rattle.cstar_tree.specs.declared.typed.UnaryOp.TheVariants as U
use Rattle.lower_base.specs.Operators.{negates, relates}
use Rattle.lower_expr.specs.Joined.{joins}
use Rattle.lower_expr.specs.Operands.{is_plus}
use Rattle.lower_expr.specs.Steps.{word_of}
use Rattle.short_values.proofs.NarrowTypes.{bool_unsigned}
use Rattle.source_meaning.specs.State.{State}
use Rattle.source_meaning.specs.Values.{nonzero, unary_of}
use Rattle.code_follows.proofs.Numbers.{zero_converted}
use Rattle.cstar_tree.specs.Typed.{type_of}
use Rattle.fields_follow.specs.Fragment.{HasKnownKind, HasItsKind, IsOperation, IsPure, IsRelation, IsWide}
use Rattle.fields_follow.proofs.Instructions.{extents, place}
use Rattle.fields_follow.proofs.Meaning.{value_in}
use Rattle.fields_follow.proofs.TestFlags.{is_truth, truth_is}

-- a truth value is the same number of every type
one_number : (from : Elem) → number_of from.bits from.signed 1 ≡ pos 1
one_number from = by from.signed refl
  where
    some : 0 < from.bits
    some = (kind_bits from.bits from.signed from.kind).0

    by : (signed : Bool) → from.signed ≡ signed → number_of from.bits signed 1 ≡ pos 1
    by false plain = number_unsigned from.bits 1
    by true with_sign =
        let several : from.bits ≡ 1 → ⊥ = λ one. (let wrong = sym (bool_unsigned from.bits from.signed from.kind one) ∙ with_sign in cc) in
        let more : 1 ≤ from.bits - 1 = by_cases (cases_eq from.bits 1) several in
        number_in_lower from.bits 1 (let least : 2 ^ 1 ≤ 2 ^ (from.bits - 1) = pow-le-pow_right (lit< tt) more in omega (arith, least))
      where
        by_cases : (from.bits ≡ 1) ⊎ (from.bits ≢ 1) → (from.bits ≡ 1 → ⊥) → 1 ≤ from.bits - 1
        by_cases (inl one) no_one = absurd (no_one one)
        by_cases (inr other) no_one = grind (arith, nat_tests, some, other)

pub bit_converted : (to from : Elem) (b : Bool) → converted to from (from_bool b) ≡ from_bool b
unfolding converted truth_number
bit_converted to from false = zero_converted to from
bit_converted to from true =
    ap (λ (z : ℤ). if to.bits == 1 then truth_number z else residue to.bits z) (one_number from) ∙ by (to.bits == 1)
  where
    by : (b : Bool) → (if b then truth_number (pos 1) else residue to.bits (pos 1)) ≡ 1
    by true = refl
    by false = residue_of_pos to.bits 1 ∙ mod-eq_of_lt (let some = (kind_bits to.bits to.signed to.kind).0 in let least : 2 ^ 1 ≤ 2 ^ to.bits = pow-le-pow_right (lit< tt) some in omega (arith, least))

-- a conversion to `bool` gives 0 or 1, by whether a number is 0
pub bool_bit : (to from : Elem) (w : ℕ) → to.bits ≡ 1 → converted to from w ≡ from_bool (nonzero (converted to from w))
unfolding converted truth_number
bool_bit to from w one = is ∙ by (number_of from.bits from.signed w) ∙ ap (λ (n : ℕ). from_bool (nonzero n)) (sym is)
  where
    is : converted to from w ≡ truth_number (number_of from.bits from.signed w)
    is = ap (λ (n : ℕ). if n == 1 then truth_number (number_of from.bits from.signed w) else residue n (number_of from.bits from.signed w)) one

    by : (z : ℤ) → truth_number z ≡ from_bool (nonzero (truth_number z))
    by (pos zero) = refl
    by (pos (suc n)) = refl
    by (negsuc n) = refl

pub bool_nonzero : (to from : Elem) (w : ℕ) → to.bits ≡ 1 → w < 2 ^ from.bits → nonzero w ≡ nonzero (converted to from w)
unfolding converted truth_number
bool_nonzero to from w one few = by (w == 0) refl (number_of from.bits from.signed w) refl
  where
    is : converted to from w ≡ truth_number (number_of from.bits from.signed w)
    is = ap (λ (n : ℕ). if n == 1 then truth_number (number_of from.bits from.signed w) else residue n (number_of from.bits from.signed w)) one

    by : (b : Bool) → (w == 0) ≡ b → (z : ℤ) → number_of from.bits from.signed w ≡ z → nonzero w ≡ nonzero (converted to from w)
    by true none z number = let zero_so = eqb-true w 0 none in ap (λ (n : ℕ). nonzero n) zero_so ∙ sym (ap (λ (n : ℕ). nonzero n) (ap (λ (n : ℕ). converted to from n) zero_so ∙ zero_converted to from))
    by false some (pos zero) number =
        let none : w ≡ 0 = sym (residue_of_number from.bits from.signed w few) ∙ ap (λ (z : ℤ). residue from.bits z) number ∙ residue_of_pos from.bits 0 ∙ mod-eq_of_lt (pow_pos from.bits) in
        absurd (grind (arith, nat_tests, some, none))
    by false some (pos (suc n)) number = ap not some ∙ sym (ap (λ (m : ℕ). nonzero m) (is ∙ ap truth_number number))
    by false some (negsuc n) number = ap not some ∙ sym (ap (λ (m : ℕ). nonzero m) (is ∙ ap truth_number number))

-- A truth value that goes to so many bits: a relation, `!`, two values that are joined,
-- one of these behind `+` or converted to other types than `bool` that have so many, or a value that is converted to `bool`.
unfoldable pub IsTruth : ℕ → ℕ → TExpr → Type 0
IsTruth set bits (T.Brackets' ty p inner) = (ty ≡ type_of inner) × IsTruth set bits inner
IsTruth set bits (T.Convert' ty p operand) = (ty.shape ≡ Some set) × (((bits ≤ ty.elem.bits) × ((ty.elem.bits == 1) ≡ false) × IsTruth set bits operand) ⊎ ((ty.elem.bits ≡ 1) × HasItsKind set operand))
IsTruth set bits (T.Unary' ty op p operand) = IsWide set ty × (((is_plus op ≡ true) × IsTruth set bits operand) ⊎ ((negates op ≡ true) × HasItsKind set operand))
IsTruth set bits (T.LogicalOr' ty p left q right) = IsPure set (T.LogicalOr' ty p left q right) × (joins left right ≡ true)
IsTruth set bits (T.LogicalAnd' ty p left q right) = IsPure set (T.LogicalAnd' ty p left q right) × (joins left right ≡ true)
IsTruth set bits (T.Binary' ty place op p left q right) = (relates op ≡ true) × IsPure set (T.Binary' ty place op p left q right)
IsTruth set bits _ = ⊥

-- it is none
unfoldable pub IsPlain : ℕ → TExpr → Type 0
IsPlain bits (T.Brackets' ty p inner) = IsPlain bits inner
IsPlain bits (T.Convert' ty p operand) = ((ty.elem.bits == 1) ≡ false) × (nat_le bits ty.elem.bits ≡ true → IsPlain bits operand)
IsPlain bits (T.Unary' ty op p operand) = (negates op ≡ false) × (is_plus op ≡ true → IsPlain bits operand)
IsPlain bits (T.LogicalOr' ty p left q right) = joins left right ≡ false
IsPlain bits (T.LogicalAnd' ty p left q right) = joins left right ≡ false
IsPlain bits (T.Binary' ty place op p left q right) = relates op ≡ false
IsPlain bits _ = Unit {0}

pub by_case : {A : Type 0} (b : Bool) → (b ≡ true → A) → (b ≡ false → A) → A
by_case true one other = one refl
by_case false one other = other refl

-- so each value is one of them
pub truth_or_plain : (set bits : ℕ) (e : TExpr) → IsPure set e → IsTruth set bits e ⊎ IsPlain bits e
unfolding IsPure IsTruth IsPlain negates is_plus
truth_or_plain set bits (T.Brackets' ty p inner) is = by (truth_or_plain set bits inner is.1)
  where
    by : IsTruth set bits inner ⊎ IsPlain bits inner → IsTruth set bits (T.Brackets' ty p inner) ⊎ IsPlain bits (T.Brackets' ty p inner)
    by (inl truth) = inl (is.0, truth)
    by (inr plain) = inr plain
truth_or_plain set bits (T.Convert' ty p operand) is = by is.1 (truth_or_plain set bits operand is.2) (nat_le bits ty.elem.bits) refl
  where
    by : ((ty.elem.bits == 1) ≡ false) ⊎ ((ty.elem.bits ≡ 1) × HasKnownKind operand) → IsTruth set bits operand ⊎ IsPlain bits operand → (b : Bool) → nat_le bits ty.elem.bits ≡ b → IsTruth set bits (T.Convert' ty p operand) ⊎ IsPlain bits (T.Convert' ty p operand)
    by (inr bool) any b e = inl (is.0, inr (bool.0, (is.2, bool.1)))
    by (inl other) (inl truth) true e = inl (is.0, inl (grind (arith, nat_tests, e), other, truth))
    by (inl other) (inl truth) false e = inr (other, λ enough. let wrong = sym e ∙ enough in cc)
    by (inl other) (inr plain) b e = inr (other, λ enough. plain)
truth_or_plain set bits (T.Unary' ty op p operand) is = by op is.1 (truth_or_plain set bits operand is.2)
  where
    by : (op : UnaryOp) → ((negates op ≡ false) × IsWide set (type_of operand)) ⊎ ((negates op ≡ true) × HasKnownKind operand) → IsTruth set bits operand ⊎ IsPlain bits operand → IsTruth set bits (T.Unary' ty op p operand) ⊎ IsPlain bits (T.Unary' ty op p operand)
    by op (inr h) any = inl (is.0, inr (h.0, (is.2, h.1)))
    by U.Plus (inl h) (inl truth) = inl (is.0, inl (refl, truth))
    by U.Plus (inl h) (inr plain) = inr (refl, λ plus. plain)
    by U.Minus (inl h) any = inr (refl, λ plus. cc)
    by U.Complement (inl h) any = inr (refl, λ plus. cc)
    by U.Not (inl h) any = let wrong = h.0 in cc
truth_or_plain set bits (T.LogicalOr' ty p left q right) is = by_case (joins left right) (λ join. inl (is, join)) (λ apart. inr apart)
truth_or_plain set bits (T.LogicalAnd' ty p left q right) is = by_case (joins left right) (λ join. inl (is, join)) (λ apart. inr apart)
truth_or_plain set bits (T.Binary' ty place op p left q right) is = by is.1
  where
    by : IsOperation op right ⊎ IsRelation set op left right → IsTruth set bits (T.Binary' ty place op p left q right) ⊎ IsPlain bits (T.Binary' ty place op p left q right)
    by (inl operation) = inr operation.0
    by (inr relation) = inl (relation.0, is)
truth_or_plain set bits (T.Choice' ty p test q first r second) is = inr tt
truth_or_plain set bits (T.Variable ty x) is = inr tt
truth_or_plain set bits (T.ParallelCast' ty p operand) is = inr tt
truth_or_plain set bits (T.Pcoord ty axis) is = inr tt
truth_or_plain set bits (T.Dot ty axis) is = inr tt
truth_or_plain set bits (T.LeftIndex' ty place p indexes x of) is = inr tt
truth_or_plain set bits _ is = absurd is

-- it is 0 or 1
pub truth_bit : (extents : _) (st : State) (set bits : ℕ) (e : TExpr) (x : ℕ) → IsTruth set bits e → value_in extents st e x ≡ from_bool (nonzero (value_in extents st e x))
unfolding IsTruth value_in unary_of negates is_plus
truth_bit extents st set bits (T.Brackets' ty p inner) x is = truth_bit extents st set bits inner x is.1
truth_bit extents st set bits (T.Convert' ty p inner) x is = by is.1 (λ part. truth_bit extents st set bits inner x part)
  where
    v : ℕ
    v = value_in extents st inner x

    by : ((bits ≤ ty.elem.bits) × ((ty.elem.bits == 1) ≡ false) × IsTruth set bits inner) ⊎ ((ty.elem.bits ≡ 1) × HasItsKind set inner) → (IsTruth set bits inner → v ≡ from_bool (nonzero v)) → converted ty.elem (type_of inner).elem v ≡ from_bool (nonzero (converted ty.elem (type_of inner).elem v))
    by (inl part) bit_of =
        let bit = bit_of part.2 in
        ap (λ (w : ℕ). converted ty.elem (type_of inner).elem w) bit ∙ bit_converted ty.elem (type_of inner).elem (nonzero v) ∙ truth_is (nonzero v)
        ∙ ap (λ (w : ℕ). from_bool (nonzero w)) (sym (ap (λ (w : ℕ). converted ty.elem (type_of inner).elem w) bit ∙ bit_converted ty.elem (type_of inner).elem (nonzero v)))
    by (inr whole) bit_of = bool_bit ty.elem (type_of inner).elem v whole.0
truth_bit extents st set bits (T.Unary' ty op p operand) x is = by op is.1 (λ part. truth_bit extents st set bits operand x part)
  where
    by : (op : UnaryOp) → ((is_plus op ≡ true) × IsTruth set bits operand) ⊎ ((negates op ≡ true) × HasItsKind set operand) → (IsTruth set bits operand → value_in extents st operand x ≡ from_bool (nonzero (value_in extents st operand x)))
        → unary_of op (value_in extents st operand x) ≡ from_bool (nonzero (unary_of op (value_in extents st operand x)))
    by U.Plus (inl h) bit_of = bit_of h.1
    by U.Minus (inl h) bit_of = let wrong = h.0 in cc
    by U.Complement (inl h) bit_of = let wrong = h.0 in cc
    by U.Not any bit_of = truth_is _
    by U.Plus (inr h) bit_of = let wrong = h.0 in cc
    by U.Minus (inr h) bit_of = let wrong = h.0 in cc
    by U.Complement (inr h) bit_of = let wrong = h.0 in cc
truth_bit extents st set bits (T.LogicalOr' ty p left q right) x is = truth_is _
truth_bit extents st set bits (T.LogicalAnd' ty p left q right) x is = truth_is _
truth_bit extents st set bits (T.Binary' ty place op p left q right) x is = is_truth op 32 _ _ _ is.0
truth_bit extents st set bits _ x is = absurd is

-- a conversion leaves it
pub truth_converted : (extents : _) (st : State) (set bits : ℕ) (to : Elem) (e : TExpr) (x : ℕ) → IsTruth set bits e → converted to (type_of e).elem (value_in extents st e x) ≡ value_in extents st e x
truth_converted extents st set bits to e x is =
    let bit = truth_bit extents st set bits e x is in ap (λ (w : ℕ). converted to (type_of e).elem w) bit ∙ bit_converted to (type_of e).elem (nonzero (value_in extents st e x)) ∙ sym bit

-- it is no constant
pub truth_word : (set bits : ℕ) (e : TExpr) → IsTruth set bits e → word_of e ≡ None
unfolding IsTruth word_of
truth_word set bits (T.Brackets' ty p inner) is = truth_word set bits inner is.1
truth_word set bits (T.Convert' ty p inner) is = refl
truth_word set bits (T.Unary' ty op p operand) is = refl
truth_word set bits (T.LogicalOr' ty p left q right) is = refl
truth_word set bits (T.LogicalAnd' ty p left q right) is = refl
truth_word set bits (T.Binary' ty place op p left q right) is = refl
truth_word set bits _ is = absurd is
