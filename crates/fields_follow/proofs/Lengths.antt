-- Values as words, of which a field has the lowest bits, and the operations that keep that.
use Rattle.std.proofs.Common.{◌≡◌, ◌∙◌, ℕ, zero, suc, ◌<◌, ◌≤◌, ◌^◌, ◌%◌, ◌==◌, ℤ, ◌||◌, Bool, true, false, not, Option, Some, None, refl, sym, ap, subst, arith, if◌then◌else◌}
use Rattle.std.specs.Prelude.{nat_lt}
use Rattle.std.proofs.lemmas.Bool.{eq-eqb}
use Rattle.std.proofs.lemmas.Bool.Decides.{nat_tests}
use Rattle.std.proofs.lemmas.Nat.{pow_pos}
use Rattle.std.proofs.Math.Nat.{mod-eq_of_lt, pow-suc}
use Rattle.cstar_base.specs.declared.elem.Elem.{Elem}
use Rattle.cstar_base.specs.declared.operators.Op.{Op}
use Rattle.cstar_base.specs.declared.operators.Op.TheVariants as P
use Rattle.cstar_base.specs.Numbers.{converted, number_of, residue, truth_of}
use Rattle.cstar_base.specs.Operators.{divides, outcome}
use Rattle.cstar_base.proofs.NumberLaws.{kind_bits, residue_below, residue_of_number}
use Rattle.source_meaning.specs.Reductions.{int_type}
use Rattle.lower_base.specs.Kinds.{is_bitwise}
use Rattle.lower_base.specs.Operators.{operation_of, relates}
use Rattle.cstar_tree.specs.declared.typed.TExpr.{TExpr}
use Rattle.lower_expr.specs.Kinds.{has_number, is_modular, operation_bits, shifts_within}
use Rattle.lower_expr.specs.Steps.{word_of}
use Rattle.paris_code.specs.Operators.{operator_of}
use Rattle.phase_meaning.proofs.Widths.{cut_cut, residue_cut}
use Rattle.short_values.specs.Short.{Agrees}
use Rattle.short_values.proofs.LowestBits.{modular, shift}
use Rattle.code_follows.proofs.Following.{held}
use Rattle.code_follows.proofs.Numbers.{number_same, word_converted}
use Rattle.code_follows.proofs.Words.{held_wide, wide_converted}

-- a number of a type has the lowest bits of its word
pub held_first : (elem : Elem) (x bits : ℕ) → x < 2 ^ elem.bits → bits ≤ elem.bits → held elem x % 2 ^ bits ≡ x % 2 ^ bits
held_first elem x bits few less =
    sym (cut_cut (held elem x) bits elem.bits less)
    ∙ ap (λ (n : ℕ). n % 2 ^ elem.bits % 2 ^ bits) (wide_converted int_type elem x refl)
    ∙ ap (λ (n : ℕ). n % 2 ^ bits) (residue_cut elem.bits (number_of elem.bits elem.signed x) (kind_bits elem.bits elem.signed elem.kind).1 ∙ residue_of_number elem.bits elem.signed x few)

-- and its type has the word
pub held_has : (elem : Elem) (x : ℕ) → x < 2 ^ elem.bits → has_number elem (held elem x) ≡ true
unfolding has_number
held_has elem x few = eq-eqb _ _ (ap (converted int_type elem) (word_converted elem elem x few ∙ number_same elem x few))

-- a conversion to a type that is not `bool` leaves the lowest bits of the word that the type has
pub converted_first : (to from : Elem) (x bits : ℕ) → (to.bits == 1) ≡ false → bits ≤ to.bits → held to (converted to from x) % 2 ^ bits ≡ held from x % 2 ^ bits
unfolding converted
converted_first to from x bits no_truth less =
    let z : ℤ = number_of from.bits from.signed x in
    let most = (kind_bits to.bits to.signed to.kind).1 in
    let is : converted to from x ≡ residue to.bits z = ap (λ (b : Bool). if b then truth_of z else residue to.bits z) no_truth in
    ap (λ (n : ℕ). held to n % 2 ^ bits) is
    ∙ held_first to (residue to.bits z) bits (residue_below to.bits z) less
    ∙ ap (λ (n : ℕ). n % 2 ^ bits) (sym (residue_cut to.bits z most)) ∙ cut_cut (residue 32 z) bits to.bits less
    ∙ ap (λ (n : ℕ). n % 2 ^ bits) (sym (wide_converted int_type from x refl))

-- of a value of 32 bits it takes the lowest
pub cut_converted : (to from : Elem) (x : ℕ) → (to.bits == 1) ≡ false → from.bits ≡ 32 → x < 2 ^ 32 → converted to from x ≡ x % 2 ^ to.bits
unfolding converted
cut_converted to from x no_truth wide few =
    let z : ℤ = number_of from.bits from.signed x in
    ap (λ (b : Bool). if b then truth_of z else residue to.bits z) no_truth
    ∙ sym (residue_cut to.bits z (kind_bits to.bits to.signed to.kind).1)
    ∙ ap (λ (n : ℕ). n % 2 ^ to.bits) (sym (wide_converted int_type from x refl) ∙ held_wide from x wide few)

-- The operation of an operator at so many bits gives the lowest bits of what the operator gives of words, the right one
-- of which is this.
abbrev pub Keeps : Op → Bool → ℕ → ℕ → Type 0
Keeps op signed bits y =
    (m n x : ℕ) → x < 2 ^ 32 → y < 2 ^ 32 → Agrees bits m x → Agrees bits n y → Agrees bits (outcome (operator_of (operation_of op signed)).0 bits (operator_of (operation_of op signed)).1 m n) (outcome op 32 (not signed) x y)

pub modular_keeps : (op : Op) (signed : Bool) (bits y : ℕ) → is_modular op ≡ true → bits ≤ 32 → Keeps op signed bits y
unfolding is_modular is_bitwise operation_of
modular_keeps P.Add signed bits y is most m n x few small p q = modular P.Add bits false (not signed) m n x y refl most few small p q
modular_keeps P.Sub signed bits y is most m n x few small p q = modular P.Sub bits false (not signed) m n x y refl most few small p q
modular_keeps P.Mul signed bits y is most m n x few small p q = modular P.Mul bits false (not signed) m n x y refl most few small p q
modular_keeps P.And signed bits y is most m n x few small p q = modular P.And bits true (not signed) m n x y refl most few small p q
modular_keeps P.Or signed bits y is most m n x few small p q = modular P.Or bits true (not signed) m n x y refl most few small p q
modular_keeps P.Xor signed bits y is most m n x few small p q = modular P.Xor bits true (not signed) m n x y refl most few small p q
modular_keeps _ signed bits y is most m n x few small p q = cc

pub shift_keeps : (signed : Bool) (bits y : ℕ) → bits ≤ 32 → y < bits → Keeps P.Shl signed bits y
unfolding operation_of
shift_keeps signed bits y most less m n x few small p q =
    ap (λ (k : ℕ). outcome P.Shl bits true m k) (q ∙ mod-eq_of_lt (fits bits y less)) ∙ shift bits true (not signed) m x y most less p
  where
    power_above : (n : ℕ) → n < 2 ^ n
    power_above zero = omega arith
    power_above (suc n) = let h = power_above n in let twice = pow-suc 2 n in let some = pow_pos n in omega (arith, h, twice, some)

    fits : (bits y : ℕ) → y < bits → y < 2 ^ bits
    fits bits y less = let h = power_above bits in omega (arith, less, h)

-- at so many bits an operator other than a relation works of whose result so many are wanted
pub operation_most : (bits : ℕ) (op : Op) (right : TExpr) → bits ≤ 32 → (bits ≤ operation_bits bits op right) × (operation_bits bits op right ≤ 32)
unfolding operation_bits
operation_most bits op right most = by (is_modular op || shifts_within bits op right)
  where
    by : (b : Bool) → (bits ≤ (if b then bits else 32)) × ((if b then bits else 32) ≤ 32)
    by true = (omega arith, most)
    by false = (most, omega arith)

-- a relation divides nothing
pub relates_plainly : (op : Op) → relates op ≡ true → divides op ≡ false
unfolding relates divides
relates_plainly P.Div e = cc
relates_plainly P.Rem e = cc
relates_plainly P.Mod e = cc
relates_plainly _ e = refl

-- a quotient is one of 32 bits
pub divides_wide : (bits : ℕ) (op : Op) (right : TExpr) → divides op ≡ true → operation_bits bits op right ≡ 32
unfolding operation_bits is_modular is_bitwise shifts_within divides
divides_wide bits P.Div right e = refl
divides_wide bits P.Rem right e = refl
divides_wide bits P.Mod right e = refl
divides_wide bits _ right e = cc

-- a shift to the left by fewer places than there are bits
shift_within : (bits : ℕ) (op : Op) (signed : Bool) (right : TExpr) (y : ℕ) → bits ≤ 32 → ((word : ℕ) → word_of right ≡ Some word → y ≡ word) → shifts_within bits op right ≡ true → Keeps op signed bits y
unfolding shifts_within
shift_within bits P.Shl signed right y most word_is within = by (word_of right) refl within
  where
    by : (o : Option ℕ) → word_of right ≡ o → (elim o as (λ _. Bool) [ Some word ↦ nat_lt word bits | None ↦ false ]) ≡ true → Keeps P.Shl signed bits y
    by (Some word) is less = shift_keeps signed bits y most (let same = word_is word is in grind (arith, nat_tests, same, less))
    by None is less = cc
shift_within bits _ signed right y most word_is within = cc

-- and there it keeps them
pub operation_keeps : (bits : ℕ) (op : Op) (signed : Bool) (right : TExpr) (y : ℕ) → bits ≤ 32 → ((word : ℕ) → word_of right ≡ Some word → y ≡ word) → Keeps op signed 32 y → Keeps op signed (operation_bits bits op right) y
unfolding operation_bits
operation_keeps bits op signed right y most word_is whole = by (is_modular op) (shifts_within bits op right) refl refl
  where
    at : (b c : Bool) → is_modular op ≡ b → shifts_within bits op right ≡ c → operation_bits bits op right ≡ (if b || c then bits else 32)
    at b c is also = ap (λ (x : Bool). if x || shifts_within bits op right then bits else 32) is ∙ ap (λ (x : Bool). if b || x then bits else 32) also

    by : (b c : Bool) → is_modular op ≡ b → shifts_within bits op right ≡ c → Keeps op signed (operation_bits bits op right) y
    by true c is also = subst (λ (n : ℕ). Keeps op signed n y) (sym (at true c is also)) (modular_keeps op signed bits y is most)
    by false true is also = subst (λ (n : ℕ). Keeps op signed n y) (sym (at false true is also)) (shift_within bits op signed right y most word_is also)
    by false false is also = subst (λ (n : ℕ). Keeps op signed n y) (sym (at false false is also)) whole
