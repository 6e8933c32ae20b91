-- Numbers of one bit.
use Rattle.std.proofs.Common.{◌≡◌, ℕ, zero, suc, ◌<◌, ◌+◌, ◌%◌, min, max, cond, Bool, true, false, List, refl, ◌∙◌, arith}
use Rattle.std.specs.Prelude.{bit_and, bit_or, bit_xor}
use Rattle.std.specs.Int.{bit_at}
use Rattle.bit_planes.specs.declared.plane.Plane.{Plane}
use Rattle.lane_kernels.specs.declared.target.Operand.{Operand}
use Rattle.lane_kernels.specs.Kernels.{operand_bit, operand_of}
use Rattle.lane_kernels.specs.Numbers.{difference_of, product_of, negative_of, least_of, greatest_of}
use Rattle.lane_kernels.proofs.Lifted.{operand_bit_is, operand_of-lt}

-- such a number is its bit
pub bit_at_itself : (b : ℕ) → b < 2 → bit_at b 0 ≡ b
bit_at_itself b h = omega arith

-- so is an operand
pub operand_is_bit : (a : Operand) (planes : List Plane) (i : ℕ) → operand_bit a planes 0 i ≡ operand_of a planes 1 i
operand_is_bit a planes i = operand_bit_is a planes 1 0 i (omega arith) ∙ bit_at_itself (operand_of a planes 1 i) (operand_of-lt a planes 1 i)

-- on bits each operation is a move or a gate
pub negative_bit : (x : ℕ) → x < 2 → x ≡ negative_of 1 x
negative_bit zero xb = refl
negative_bit (suc zero) xb = refl
negative_bit (suc (suc x)) xb = absurd (omega arith)

pub difference_bit : (x y : ℕ) → x < 2 → y < 2 → (x + y) % 2 ≡ difference_of 1 x y
difference_bit zero zero xb yb = refl
difference_bit zero (suc zero) xb yb = refl
difference_bit (suc zero) zero xb yb = refl
difference_bit (suc zero) (suc zero) xb yb = refl
difference_bit (suc (suc x)) y xb yb = absurd (omega arith)
difference_bit zero (suc (suc y)) xb yb = absurd (omega arith)
difference_bit (suc zero) (suc (suc y)) xb yb = absurd (omega arith)

pub product_bit : (x y : ℕ) → x < 2 → y < 2 → min x y ≡ product_of 1 x y
product_bit zero zero xb yb = refl
product_bit zero (suc zero) xb yb = refl
product_bit (suc zero) zero xb yb = refl
product_bit (suc zero) (suc zero) xb yb = refl
product_bit (suc (suc x)) y xb yb = absurd (omega arith)
product_bit zero (suc (suc y)) xb yb = absurd (omega arith)
product_bit (suc zero) (suc (suc y)) xb yb = absurd (omega arith)

pub and_bit : (x y : ℕ) → x < 2 → y < 2 → min x y ≡ bit_and x y
and_bit zero zero xb yb = refl
and_bit zero (suc zero) xb yb = refl
and_bit (suc zero) zero xb yb = refl
and_bit (suc zero) (suc zero) xb yb = refl
and_bit (suc (suc x)) y xb yb = absurd (omega arith)
and_bit zero (suc (suc y)) xb yb = absurd (omega arith)
and_bit (suc zero) (suc (suc y)) xb yb = absurd (omega arith)

pub or_bit : (x y : ℕ) → x < 2 → y < 2 → max x y ≡ bit_or x y
or_bit zero zero xb yb = refl
or_bit zero (suc zero) xb yb = refl
or_bit (suc zero) zero xb yb = refl
or_bit (suc zero) (suc zero) xb yb = refl
or_bit (suc (suc x)) y xb yb = absurd (omega arith)
or_bit zero (suc (suc y)) xb yb = absurd (omega arith)
or_bit (suc zero) (suc (suc y)) xb yb = absurd (omega arith)

pub xor_bit : (x y : ℕ) → x < 2 → y < 2 → (x + y) % 2 ≡ bit_xor x y
xor_bit zero zero xb yb = refl
xor_bit zero (suc zero) xb yb = refl
xor_bit (suc zero) zero xb yb = refl
xor_bit (suc zero) (suc zero) xb yb = refl
xor_bit (suc (suc x)) y xb yb = absurd (omega arith)
xor_bit zero (suc (suc y)) xb yb = absurd (omega arith)
xor_bit (suc zero) (suc (suc y)) xb yb = absurd (omega arith)

least_unsigned : (x y : ℕ) → x < 2 → y < 2 → min x y ≡ least_of true 1 x y
least_unsigned zero zero xb yb = refl
least_unsigned zero (suc zero) xb yb = refl
least_unsigned (suc zero) zero xb yb = refl
least_unsigned (suc zero) (suc zero) xb yb = refl
least_unsigned (suc (suc x)) y xb yb = absurd (omega arith)
least_unsigned zero (suc (suc y)) xb yb = absurd (omega arith)
least_unsigned (suc zero) (suc (suc y)) xb yb = absurd (omega arith)

least_signed : (x y : ℕ) → x < 2 → y < 2 → max x y ≡ least_of false 1 x y
least_signed zero zero xb yb = refl
least_signed zero (suc zero) xb yb = refl
least_signed (suc zero) zero xb yb = refl
least_signed (suc zero) (suc zero) xb yb = refl
least_signed (suc (suc x)) y xb yb = absurd (omega arith)
least_signed zero (suc (suc y)) xb yb = absurd (omega arith)
least_signed (suc zero) (suc (suc y)) xb yb = absurd (omega arith)

greatest_unsigned : (x y : ℕ) → x < 2 → y < 2 → max x y ≡ greatest_of true 1 x y
greatest_unsigned zero zero xb yb = refl
greatest_unsigned zero (suc zero) xb yb = refl
greatest_unsigned (suc zero) zero xb yb = refl
greatest_unsigned (suc zero) (suc zero) xb yb = refl
greatest_unsigned (suc (suc x)) y xb yb = absurd (omega arith)
greatest_unsigned zero (suc (suc y)) xb yb = absurd (omega arith)
greatest_unsigned (suc zero) (suc (suc y)) xb yb = absurd (omega arith)

greatest_signed : (x y : ℕ) → x < 2 → y < 2 → min x y ≡ greatest_of false 1 x y
greatest_signed zero zero xb yb = refl
greatest_signed zero (suc zero) xb yb = refl
greatest_signed (suc zero) zero xb yb = refl
greatest_signed (suc zero) (suc zero) xb yb = refl
greatest_signed (suc (suc x)) y xb yb = absurd (omega arith)
greatest_signed zero (suc (suc y)) xb yb = absurd (omega arith)
greatest_signed (suc zero) (suc (suc y)) xb yb = absurd (omega arith)

pub least_bit : (u : Bool) (x y : ℕ) → x < 2 → y < 2 → cond u (min x y) (max x y) ≡ least_of u 1 x y
least_bit true x y xb yb = least_unsigned x y xb yb
least_bit false x y xb yb = least_signed x y xb yb

pub greatest_bit : (u : Bool) (x y : ℕ) → x < 2 → y < 2 → cond u (max x y) (min x y) ≡ greatest_of u 1 x y
greatest_bit true x y xb yb = greatest_unsigned x y xb yb
greatest_bit false x y xb yb = greatest_signed x y xb yb
