-- Columns as fields of planes.
use Rattle.std.proofs.Common.{◌≡◌, ℕ, ◌+◌, ◌<◌, ◌≤◌, List, length, sym, ◌∙◌, ap, zero-add, arith}
use Rattle.bit_planes.specs.declared.plane.Plane.{Plane}
use Rattle.bit_planes.specs.declared.lanes.Lanes.{Lanes}
use Rattle.bit_planes.specs.Bits.{bit}
use Rattle.bit_planes.specs.Planes.{plane_at, number}
use Rattle.bit_planes.proofs.Planes.{number-same}
use Rattle.lane_kernels.specs.declared.target.Target.{Target}
use Rattle.lane_kernels.specs.Kernels.{Becomes}
use Rattle.lane_kernels.specs.Columns.{value_at, HasNumbers, IsBeside, IsWhole}

-- the planes before j of both columns are copied
pub record BesideBefore (j : ℕ) (a b planes : List Plane) : Type 0 where
  pub long : length planes ≡ 64
  pub first : (k : ℕ) → k < j → plane_at planes k ≡ plane_at a k
  pub second : (k : ℕ) → k < j → plane_at planes (32 + k) ≡ plane_at b k

-- the numbers of planes that are alike
same_planes : (xs ys : List Plane) (at to n i : ℕ) → ((j : ℕ) → j < n → plane_at xs (at + j) ≡ plane_at ys (to + j)) → number xs at n i ≡ number ys to n i
same_planes xs ys at to n i e = number-same xs ys at to n i (λ j h. ap (λ q. bit q i) (e j h))

pub first_numbers : (a b : Lanes) (planes : List Plane) (n i : ℕ) → n ≤ 32 → IsBeside a b planes → number planes 0 n i ≡ number a.planes 0 n i
first_numbers a b planes n i nb beside = same_planes planes a.planes 0 0 n i (λ j h. ap (plane_at planes) (zero-add j) ∙ beside.first j (omega arith) ∙ ap (plane_at a.planes) (sym (zero-add j)))

pub second_numbers : (a b : Lanes) (planes : List Plane) (n i : ℕ) → n ≤ 32 → IsBeside a b planes → number planes 32 n i ≡ number b.planes 0 n i
second_numbers a b planes n i nb beside = same_planes planes b.planes 32 0 n i (λ j h. beside.second j (omega arith) ∙ ap (plane_at b.planes) (sym (zero-add j)))

-- a target of whole columns leaves the numbers in the result's column
pub column_has : (n : ℕ) (to : Target) (f g : ℕ → ℕ) (old new : List Plane) (result : Lanes) → n ≤ 32 → IsWhole n to → Becomes to f old new
    → result.len ≡ n → ((j : ℕ) → j < 32 → plane_at result.planes j ≡ plane_at new j) → ((i : ℕ) → i < 512 → f i ≡ g i) → HasNumbers result n g
column_has n to f g old new result nb whole done len planes e = record {
  len = len;
  values = λ i ib.
      ap (λ m. number result.planes 0 m i) len
      ∙ same_planes result.planes new 0 0 n i (λ j h. ap (plane_at result.planes) (zero-add j) ∙ planes j (omega arith) ∙ ap (plane_at new) (sym (zero-add j)))
      ∙ ap (λ m. number new 0 m i) (sym whole.len) ∙ ap (λ m. number new m to.len i) (sym whole.offset) ∙ done.written i ib (whole.lanes i ib) ∙ e i ib;
}

-- the same where the numbers are those of two columns of one length, through f
pub columns_have : (f : ℕ → ℕ → ℕ → ℕ → ℕ) (a b : Lanes) (to : Target) (planes new : List Plane) (result : Lanes) → a.len ≤ 32 → b.len ≡ a.len → IsBeside a b planes → IsWhole a.len to
    → Becomes to (λ i. f i to.len (number planes 0 to.len i) (number planes 32 to.len i)) planes new
    → result.len ≡ a.len → ((j : ℕ) → j < 32 → plane_at result.planes j ≡ plane_at new j) → HasNumbers result a.len (λ i. f i a.len (value_at a i) (value_at b i))
columns_have f a b to planes new result nb same beside whole done len copied =
    column_has a.len to (λ i. f i to.len (number planes 0 to.len i) (number planes 32 to.len i)) (λ i. f i a.len (value_at a i) (value_at b i)) planes new result nb whole done len copied (λ i ib.
    ap (λ m. f i m (number planes 0 m i) (number planes 32 m i)) whole.len
    ∙ ap (λ x. f i a.len x (number planes 32 a.len i)) (first_numbers a b planes a.len i nb beside)
    ∙ ap (λ y. f i a.len (value_at a i) y) (second_numbers a b planes a.len i nb beside ∙ ap (λ m. number b.planes 0 m i) (sym same)))
