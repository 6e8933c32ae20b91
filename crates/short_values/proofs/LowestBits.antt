-- The lowest bits of what operators give.
use Rattle.std.proofs.Common.{◌≡◌, ℕ, ◌+◌, ◌*◌, ◌/◌, ◌<◌, ◌≤◌, ◌-◌, ◌^◌, ◌%◌, bit_and, bit_or, bit_xor, cond, Bool, true, not, pos, neg_ℤ, ◌*ℤ◌, ◌-ℤ◌, sym, ◌∙◌, ap, subst, inl, inr, arith, add-mul}
use Rattle.std.proofs.lemmas.Int.{ints}
use Rattle.std.proofs.lemmas.Nat.{pow_pos, pow-add, mod_below, mul-mod, mul-mod_first, and_mod, or_mod, xor_mod, div_below, div-add-mod'}
use Rattle.std.proofs.lemmas.Bool.{cases_lt, lt-ltb}
use Rattle.std.proofs.Math.Nat.{add-mod, add-mul-mod_self_right, mod-eq_of_lt}
use Rattle.cstar_base.specs.declared.operators.Op.{Op}
use Rattle.cstar_base.specs.declared.operators.Op.TheVariants as P
use Rattle.cstar_base.specs.Numbers.{residue, number_of}
use Rattle.cstar_base.specs.Operators.{operand, outcome, product_of, difference_of, shifted_left}
use Rattle.cstar_base.proofs.NumberLaws.{number_in_lower, number_in_upper, number_unsigned, residue_below, residue_is, residue_of_number, residue_of_pos}
use Rattle.cstar_base.proofs.OperatorLaws.{sum_by_residues, difference_by_residues, product_by_residues}
use Rattle.cstar_tree.specs.declared.typed.UnaryOp.TheVariants as Un
use Rattle.source_meaning.specs.Values.{unary_of}
use Rattle.lower_base.specs.Kinds.{is_bitwise}
use Rattle.lower_expr.specs.Kinds.{is_modular}
use Rattle.phase_meaning.proofs.Operations.{word}
use Rattle.phase_meaning.proofs.Widths.{cut_cut, residue_cut, number_in_word}
use Rattle.short_values.specs.Short.{Agrees}

pub fewer_bits : (bits fewer n word : ℕ) → fewer ≤ bits → Agrees bits n word → Agrees fewer (n % 2 ^ fewer) word
fewer_bits bits fewer n word h agrees = ap (λ k. k % 2 ^ fewer) agrees ∙ cut_cut word fewer bits h

-- a field that agrees with a word has a number of its bits
agrees_below : (bits n x : ℕ) → Agrees bits n x → n < 2 ^ bits
agrees_below bits n x e = omega (arith, mod_below x (2 ^ bits) (pow_pos bits))

-- a word is some times the modulus, and the field
rest : (bits x : ℕ) → x / 2 ^ bits * 2 ^ bits + x % 2 ^ bits ≡ x
rest bits x = div-add-mod' x (2 ^ bits)

-- 2 ^ 32 is some times the modulus
abbrev pub times : ℕ → ℕ
times bits = 2 ^ (32 - bits)

pub whole_word : (bits : ℕ) → bits ≤ 32 → times bits * 2 ^ bits ≡ 2 ^ 32
whole_word bits h = sym (pow-add 2 (32 - bits) bits) ∙ ap (λ k. 2 ^ k) (let e : 32 - bits + bits ≡ 32 = omega arith in e)

sum : (bits : ℕ) (u w : Bool) (m n x y : ℕ) → bits ≤ 32 → Agrees bits m x → Agrees bits n y → Agrees bits (outcome P.Add bits u m n) (outcome P.Add 32 w x y)
unfolding outcome
sum bits u w m n x y h p q =
    sum_by_residues bits u m n
    ∙ ap (λ k. (k + n) % 2 ^ bits) p ∙ ap (λ k. (x % 2 ^ bits + k) % 2 ^ bits) q
    ∙ sym (ap (λ k. k % 2 ^ bits) (sum_by_residues 32 w x y) ∙ cut_cut (x + y) bits 32 h ∙ add-mod x y (2 ^ bits))

-- what a word lacks of 2 ^ 32 is some times the modulus, and what the field lacks of that
lacking : (bits y : ℕ) → bits ≤ 32 → y < 2 ^ 32 → 2 ^ 32 - y ≡ 2 ^ bits - y % 2 ^ bits + (times bits - y / 2 ^ bits - 1) * 2 ^ bits
lacking bits y h b =
    let more : y / 2 ^ bits < times bits = div_below y (2 ^ bits) (times bits) (pow_pos bits) (omega (arith, whole_word bits h)) in
    let split : times bits ≡ y / 2 ^ bits + 1 + (times bits - y / 2 ^ bits - 1) = omega arith in
    let part = add-mul (y / 2 ^ bits + 1) (times bits - y / 2 ^ bits - 1) (2 ^ bits) in
    let first = add-mul (y / 2 ^ bits) 1 (2 ^ bits) in
    let product : times bits * 2 ^ bits ≡ (y / 2 ^ bits + 1 + (times bits - y / 2 ^ bits - 1)) * 2 ^ bits = ap (λ k. k * 2 ^ bits) split in
    let low = mod_below y (2 ^ bits) (pow_pos bits) in
    omega (arith, whole_word bits h, rest bits y)

difference : (bits : ℕ) (u w : Bool) (m n x y : ℕ) → bits ≤ 32 → y < 2 ^ 32 → Agrees bits m x → Agrees bits n y
    → Agrees bits (difference_of bits u m n) (difference_of 32 w x y)
difference bits u w m n x y h b p q =
    let low = agrees_below bits n y q in
    let less : ℕ = times bits - y / 2 ^ bits - 1 in
    difference_by_residues bits u m n (omega arith)
    ∙ ap (λ k. (m + (2 ^ bits - k)) % 2 ^ bits) q
    ∙ ap (λ k. (k + (2 ^ bits - y % 2 ^ bits)) % 2 ^ bits) p
    ∙ sym (ap (λ k. k % 2 ^ bits) (difference_by_residues 32 w x y (omega arith)) ∙ cut_cut (x + (2 ^ 32 - y)) bits 32 h
    ∙ ap (λ k. k % 2 ^ bits) (let e : x + (2 ^ 32 - y) ≡ x % 2 ^ bits + (2 ^ bits - y % 2 ^ bits) + (x / 2 ^ bits * 2 ^ bits + less * 2 ^ bits) = omega (arith, rest bits x, lacking bits y h b) in e)
    ∙ ap (λ k. (x % 2 ^ bits + (2 ^ bits - y % 2 ^ bits) + k) % 2 ^ bits) (sym (add-mul (x / 2 ^ bits) less (2 ^ bits)))
    ∙ add-mul-mod_self_right (x % 2 ^ bits + (2 ^ bits - y % 2 ^ bits)) (x / 2 ^ bits + less) (2 ^ bits))

-- the lowest bits of a word that is read with a sign
pub low_bits_of_word : (bits x : ℕ) → bits ≤ 32 → residue bits (number_of 32 true x) ≡ x % 2 ^ bits
low_bits_of_word bits x h = elim (cases_lt x (2 ^ 31)) [
  | inl low ↦ ap (residue bits) (number_in_lower 32 x low) ∙ residue_of_pos bits x
  | inr high ↦ ap (residue bits) (number_in_upper 32 x high) ∙ residue_is bits (pos x -ℤ pos (2 ^ 32)) (times bits) x (omega (arith, ints, whole_word bits h))
]

-- a field's number is the lowest bits of its word
lowest_of_word : (bits : ℕ) (signed : Bool) (n : ℕ) → bits ≤ 32 → n < 2 ^ bits → word bits signed n % 2 ^ bits ≡ n
lowest_of_word bits signed n most h = residue_cut bits (number_of bits signed n) most ∙ residue_of_number bits signed n h

-- a product does not depend on how its operands are read, at any number of bits: it is that of their words
product_is : (bits : ℕ) (u : Bool) (m n : ℕ) → 1 ≤ bits → bits ≤ 32 → m < 2 ^ bits → n < 2 ^ bits → product_of bits u m n ≡ (m * n) % 2 ^ bits
unfolding product_of operand
product_is bits u m n some most p q =
    let a = word bits (not u) m in
    let b = word bits (not u) n in
    sym (residue_cut bits (number_of bits (not u) m *ℤ number_of bits (not u) n) most)
    ∙ ap (λ z. residue 32 (z *ℤ number_of bits (not u) n) % 2 ^ bits) (sym (number_in_word bits (not u) m some most p))
    ∙ ap (λ z. residue 32 (number_of 32 (not u) a *ℤ z) % 2 ^ bits) (sym (number_in_word bits (not u) n some most q))
    ∙ ap (λ k. k % 2 ^ bits) (product_by_residues u a b (residue_below 32 (number_of bits (not u) m)) (residue_below 32 (number_of bits (not u) n)))
    ∙ cut_cut (a * b) bits 32 most ∙ mul-mod a b (2 ^ bits)
    ∙ ap (λ k. k * (b % 2 ^ bits) % 2 ^ bits) (lowest_of_word bits (not u) m most p) ∙ ap (λ k. m * k % 2 ^ bits) (lowest_of_word bits (not u) n most q)

-- of a field of no bits there is one number
product_of_none : (u : Bool) (m n word : ℕ) → Agrees 0 (product_of 0 u m n) word
unfolding product_of
product_of_none u m n word = omega (arith, residue_below 0 (operand 0 u m *ℤ operand 0 u n))

product : (bits : ℕ) (u w : Bool) (m n x y : ℕ) → bits ≤ 32 → x < 2 ^ 32 → y < 2 ^ 32 → Agrees bits m x → Agrees bits n y
    → Agrees bits (product_of bits u m n) (product_of 32 w x y)
product bits u w m n x y most a b p q = elim (cases_lt 0 bits) [
  | inl some ↦
      product_is bits u m n some most (agrees_below bits m x p) (agrees_below bits n y q)
      ∙ ap (λ k. k * n % 2 ^ bits) p ∙ ap (λ k. x % 2 ^ bits * k % 2 ^ bits) q
      ∙ sym (ap (λ k. k % 2 ^ bits) (product_by_residues w x y a b) ∙ cut_cut (x * y) bits 32 most ∙ mul-mod x y (2 ^ bits))
  | inr none ↦
      let e : bits ≡ 0 = omega arith in
      subst (λ (b : ℕ). Agrees b (product_of b u m n) (product_of 32 w x y)) (sym e) (product_of_none u m n (product_of 32 w x y))
]

pub modular : (op : Op) (bits : ℕ) (u w : Bool) (m n x y : ℕ) → is_modular op ≡ true → bits ≤ 32 → x < 2 ^ 32 → y < 2 ^ 32
    → Agrees bits m x → Agrees bits n y → Agrees bits (outcome op bits u m n) (outcome op 32 w x y)
unfolding outcome is_modular is_bitwise
modular P.Add bits u w m n x y h most a b p q = sum bits u w m n x y most p q
modular P.Sub bits u w m n x y h most a b p q = difference bits u w m n x y most b p q
modular P.Mul bits u w m n x y h most a b p q = product bits u w m n x y most a b p q
modular P.And bits u w m n x y h most a b p q = ap (λ k. bit_and k n) p ∙ ap (λ k. bit_and (x % 2 ^ bits) k) q ∙ sym (and_mod x y bits)
modular P.Or bits u w m n x y h most a b p q = ap (λ k. bit_or k n) p ∙ ap (λ k. bit_or (x % 2 ^ bits) k) q ∙ sym (or_mod x y bits)
modular P.Xor bits u w m n x y h most a b p q = ap (λ k. bit_xor k n) p ∙ ap (λ k. bit_xor (x % 2 ^ bits) k) q ∙ sym (xor_mod x y bits)
modular _ bits u w m n x y h most a b p q = cc

-- a shift by fewer places than there are bits is a product
shift_is : (bits n places : ℕ) → places < bits → shifted_left bits n places ≡ (n * 2 ^ places) % 2 ^ bits
unfolding shifted_left
shift_is bits n places h = ap (λ t. cond t ((n * 2 ^ places) % 2 ^ bits) 0) (lt-ltb places bits h)

pub shift : (bits : ℕ) (u w : Bool) (n x places : ℕ) → bits ≤ 32 → places < bits → Agrees bits n x
    → Agrees bits (outcome P.Shl bits u n places) (outcome P.Shl 32 w x places)
unfolding outcome
shift bits u w n x places most h p =
    shift_is bits n places h ∙ ap (λ k. (k * 2 ^ places) % 2 ^ bits) p ∙ mul-mod_first x (2 ^ places) (2 ^ bits)
    ∙ sym (ap (λ k. k % 2 ^ bits) (shift_is 32 x places (omega (arith, most))) ∙ cut_cut (x * 2 ^ places) bits 32 most)

-- the negative is the difference to 0
from_zero : (bits n : ℕ) → residue bits (neg_ℤ (pos n)) ≡ difference_of bits true 0 n
unfolding difference_of operand
from_zero bits n = rw (number_unsigned bits 0, number_unsigned bits n) (ap (residue bits) (omega (arith, ints)))

pub negative : (bits n x : ℕ) → bits ≤ 32 → x < 2 ^ 32 → Agrees bits n x → Agrees bits (residue bits (neg_ℤ (pos n))) (unary_of Un.Minus x)
unfolding unary_of
negative bits n x most b p = from_zero bits n ∙ difference bits true true 0 n 0 x most b (sym (mod-eq_of_lt (pow_pos bits))) p

pub complement : (bits n x : ℕ) → bits ≤ 32 → x < 2 ^ 32 → Agrees bits n x → Agrees bits (2 ^ bits - 1 - n) (unary_of Un.Complement x)
unfolding unary_of
complement bits n x most b p =
    let low = mod_below x (2 ^ bits) (pow_pos bits) in
    let less : ℕ = times bits - x / 2 ^ bits - 1 in
    let e : 2 ^ 32 - 1 - x ≡ 2 ^ bits - 1 - x % 2 ^ bits + less * 2 ^ bits = omega (arith, lacking bits x most b) in
    ap (λ k. 2 ^ bits - 1 - k) p
    ∙ sym (ap (λ k. k % 2 ^ bits) e ∙ add-mul-mod_self_right (2 ^ bits - 1 - x % 2 ^ bits) less (2 ^ bits) ∙ mod-eq_of_lt (omega arith))
