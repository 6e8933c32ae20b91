-- A number that gets one more, bit by bit, where a plane has 1.
use Rattle.std.proofs.Common.{◌≡◌, ℕ, ◌+◌, ◌/◌, ◌%◌, ◌^◌, ◌<◌, min, List, sym, ◌∙◌, ap, arith}
use Rattle.std.specs.Int.{bit_at}
use Rattle.bit_planes.specs.declared.plane.Plane.{Plane}
use Rattle.bit_planes.specs.Bits.{bit}
use Rattle.bit_planes.proofs.Words.{bit-lt}
use Rattle.lane_kernels.specs.declared.target.Target.{Target}
use Rattle.lane_kernels.specs.Changes.{Writes}
use Rattle.lane_kernels.proofs.Arithmetic.{plus_bit_is, plus_carry_is}
use Rattle.lane_kernels.proofs.Lifted.{Becoming, one_up}

-- the bits below j are written, and the carry is what they leave
pub record Raising (to : Target) (numbers : ℕ → ℕ) (more : List ℕ) (j : ℕ) (carry : List ℕ) (old mid : List Plane) : Type 0 where
  pub written : Becoming to 0 j (λ i. numbers i + bit more i) old mid
  pub carried : (i : ℕ) → i < 512 → bit carry i ≡ (numbers i % 2 ^ j + bit more i) / 2 ^ j

pub raised : (to : Target) (numbers : ℕ → ℕ) (more : List ℕ) (j : ℕ) (carry value sum next : List ℕ) (old mid new : List Plane)
    → Raising to numbers more j carry old mid
    → ((i : ℕ) → i < 512 → bit value i ≡ bit_at (numbers i) j)
    → ((i : ℕ) → i < 512 → bit sum i ≡ (bit value i + bit carry i) % 2)
    → ((i : ℕ) → i < 512 → bit next i ≡ min (bit value i) (bit carry i))
    → Writes (to.offset + j) sum to.lanes mid new → Raising to numbers more (j + 1) next old new
raised to numbers more j carry value sum next old mid new before value_is sum_is next_is now = record {
  written = one_up to j (λ i. numbers i + bit more i) old mid new sum before.written now (λ i ib _.
      sum_is i ib ∙ ap (λ n. (n + bit carry i) % 2) (value_is i ib) ∙ ap (λ n. (bit_at (numbers i) j + n) % 2) (before.carried i ib)
      ∙ sym (plus_bit_is (numbers i) (bit more i) j));
  carried = λ i ib.
      next_is i ib ∙ (let e : min (bit value i) (bit carry i) ≡ (bit value i + bit carry i) / 2 = omega (arith, bit-lt value i, bit-lt carry i) in e)
      ∙ ap (λ n. (n + bit carry i) / 2) (value_is i ib) ∙ ap (λ n. (bit_at (numbers i) j + n) / 2) (before.carried i ib)
      ∙ sym (plus_carry_is (numbers i) (bit more i) j);
}
