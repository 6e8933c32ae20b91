-- A sum that is made bit by bit.
use Rattle.std.proofs.Common.{◌≡◌, ℕ, ◌+◌, ◌/◌, ◌%◌, ◌^◌, ◌<◌, cond, Bool, List, sym, ◌∙◌, ap}
use Rattle.std.specs.Int.{bit_at}
use Rattle.bit_planes.specs.declared.plane.Plane.{Plane}
use Rattle.bit_planes.specs.Bits.{bit}
use Rattle.lane_kernels.specs.declared.target.Target.{Target}
use Rattle.lane_kernels.specs.declared.target.Operand.{Operand}
use Rattle.lane_kernels.specs.Changes.{Writes}
use Rattle.lane_kernels.specs.Numbers.{addend}
use Rattle.lane_kernels.specs.Kernels.{operand_bit, operand_of, IsReadable, Becomes}
use Rattle.lane_kernels.proofs.Arithmetic.{added, added_bits, added_whole, sum_bit_is, carry_is}
use Rattle.lane_kernels.proofs.Lifted.{Becoming, one_up, all_written, same_change, operand_kept, operand_of-lt}

-- the sum before it is cut
abbrev pub whole_sum : Target → Operand → Operand → Bool → List Plane → ℕ → ℕ
whole_sum to a b inverted old i = operand_of a old to.len i + added inverted to.len (operand_of b old to.len i) + cond inverted 1 0

-- the bits below j are written, and the carry is what they leave
pub record Rippling (to : Target) (a b : Operand) (inverted : Bool) (j : ℕ) (carry : List ℕ) (old mid : List Plane) : Type 0 where
  pub written : Becoming to 0 j (whole_sum to a b inverted old) old mid
  pub carried : (i : ℕ) → i < 512
      → bit carry i ≡ (operand_of a old to.len i % 2 ^ j + added inverted to.len (operand_of b old to.len i) % 2 ^ j + cond inverted 1 0) / 2 ^ j

pub rippled : (to : Target) (a b : Operand) (inverted : Bool) (j : ℕ) (carry flip x raw y sum next : List ℕ) (old mid new : List Plane) → j < to.len → IsReadable a to old → IsReadable b to old
    → ((i : ℕ) → i < 512 → bit flip i ≡ cond inverted 1 0) → Rippling to a b inverted j carry old mid
    → ((i : ℕ) → i < 512 → bit x i ≡ operand_bit a mid j i) → ((i : ℕ) → i < 512 → bit raw i ≡ operand_bit b mid j i)
    → ((i : ℕ) → i < 512 → bit y i ≡ (bit raw i + bit flip i) % 2)
    → ((i : ℕ) → i < 512 → bit sum i ≡ (bit x i + bit y i + bit carry i) % 2)
    → ((i : ℕ) → i < 512 → bit next i ≡ (bit x i + bit y i + bit carry i) / 2)
    → Writes (to.offset + j) sum to.lanes mid new → Rippling to a b inverted (j + 1) next old new
rippled to a b inverted j carry flip x raw y sum next old mid new jb ra rb flip_is before x_is raw_is y_is sum_is next_is now =
    let p : (i : ℕ) → i < 512 → bit x i ≡ bit_at (operand_of a old to.len i) j =
    λ i ib. x_is i ib ∙ operand_kept a to j i (whole_sum to a b inverted old) old mid jb ra before.written in
    let q : (i : ℕ) → i < 512 → bit y i ≡ bit_at (added inverted to.len (operand_of b old to.len i)) j =
    λ i ib. y_is i ib ∙ ap (λ n. (n + bit flip i) % 2) (raw_is i ib ∙ operand_kept b to j i (whole_sum to a b inverted old) old mid jb rb before.written)
    ∙ ap (λ n. (bit_at (operand_of b old to.len i) j + n) % 2) (flip_is i ib) ∙ added_bits inverted to.len (operand_of b old to.len i) j (operand_of-lt b old to.len i) jb in
    record {
      written = one_up to j (whole_sum to a b inverted old) old mid new sum before.written now (λ i ib _.
          sum_is i ib ∙ ap (λ n. (n + bit y i + bit carry i) % 2) (p i ib) ∙ ap (λ n. (bit_at (operand_of a old to.len i) j + n + bit carry i) % 2) (q i ib)
          ∙ ap (λ n. (bit_at (operand_of a old to.len i) j + bit_at (added inverted to.len (operand_of b old to.len i)) j + n) % 2) (before.carried i ib)
          ∙ sym (sum_bit_is (operand_of a old to.len i) (added inverted to.len (operand_of b old to.len i)) (cond inverted 1 0) j));
      carried = λ i ib.
          next_is i ib ∙ ap (λ n. (n + bit y i + bit carry i) / 2) (p i ib) ∙ ap (λ n. (bit_at (operand_of a old to.len i) j + n + bit carry i) / 2) (q i ib)
          ∙ ap (λ n. (bit_at (operand_of a old to.len i) j + bit_at (added inverted to.len (operand_of b old to.len i)) j + n) / 2) (before.carried i ib)
          ∙ sym (carry_is (operand_of a old to.len i) (added inverted to.len (operand_of b old to.len i)) (cond inverted 1 0) j);
    }

pub summed : (to : Target) (a b : Operand) (inverted : Bool) (j : ℕ) (carry : List ℕ) (old new : List Plane) → j ≡ to.len → Rippling to a b inverted j carry old new
    → Becomes to (λ i. (operand_of a old to.len i + addend inverted to.len (operand_of b old to.len i)) % 2 ^ to.len) old new
summed to a b inverted j carry old new e done =
    same_change to (λ i. whole_sum to a b inverted old i % 2 ^ to.len) (λ i. (operand_of a old to.len i + addend inverted to.len (operand_of b old to.len i)) % 2 ^ to.len) old new
    (λ i _. added_whole inverted to.len (operand_of a old to.len i) (operand_of b old to.len i) (operand_of-lt b old to.len i))
    (all_written to j (whole_sum to a b inverted old) old new e done.written)
