-- The steps of the kernels' loops.
use Rattle.std.proofs.Common.{◌≡◌, ℕ, ◌+◌, ◌-◌, ◌*◌, ◌/◌, ◌%◌, ◌^◌, ◌<◌, ◌≤◌, cond, nat_lt, Bool, List, sym, ◌∙◌, ap, subst, inl, inr, arith}
use Rattle.std.specs.Int.{bit_at}
use Rattle.bit_planes.specs.declared.plane.Plane.{Plane}
use Rattle.bit_planes.specs.Bits.{bit}
use Rattle.bit_planes.specs.Planes.{plane_at, number}
use Rattle.cstar_base.proofs.BitCuts.{bit_at-shr}
use Rattle.bit_planes.proofs.Words.{bit_at-shl_low, bit_at-shl_high}
use Rattle.bit_planes.proofs.Planes.{number-lt, number-bits}
use Rattle.std.proofs.lemmas.Nat.{pow_pos}
use Rattle.std.proofs.lemmas.Bool.{cases_lt, lt-ltb, le-ltb}
use Rattle.lane_kernels.specs.declared.target.Target.{Target}
use Rattle.lane_kernels.specs.declared.target.Operand.{Operand}
use Rattle.lane_kernels.specs.Changes.{Writes}
use Rattle.lane_kernels.specs.Numbers.{extended}
use Rattle.lane_kernels.specs.Kernels.{operand_bit, operand_of, IsReadable, IsFieldReadable, IsReadableDown, Becomes}
use Rattle.lane_kernels.proofs.Arithmetic.{extended_bits, mod_small}
use Rattle.lane_kernels.proofs.Lifted.{Becoming, one_up, one_down, all_written, same_change, operand_kept}

-- the numbers are written, and they have no more bits than the target
pub all_small : (to : Target) (n : ℕ) (numbers : ℕ → ℕ) (old new : List Plane) → n ≡ to.len → ((i : ℕ) → numbers i < 2 ^ to.len) → Becoming to 0 n numbers old new → Becomes to numbers old new
all_small to n numbers old new e small done = same_change to (λ i. numbers i % 2 ^ to.len) numbers old new (λ i _. mod_small (numbers i) (2 ^ to.len) (small i)) (all_written to n numbers old new e done)

-- two operands whose bits are combined by f, as their numbers are
pub combined : (to : Target) (a b : Operand) (j : ℕ) (f : ℕ → ℕ → ℕ → ℕ) (numbers : ℕ → ℕ) (x y value : List ℕ) (old mid new : List Plane) → j < to.len → IsReadable a to old → IsReadable b to old
    → ((i : ℕ) → i < 512 → f i (bit_at (operand_of a old to.len i) j) (bit_at (operand_of b old to.len i) j) ≡ bit_at (numbers i) j)
    → Becoming to 0 j numbers old mid
    → ((i : ℕ) → i < 512 → bit x i ≡ operand_bit a mid j i) → ((i : ℕ) → i < 512 → bit y i ≡ operand_bit b mid j i)
    → ((i : ℕ) → i < 512 → bit value i ≡ f i (bit x i) (bit y i)) → Writes (to.offset + j) value to.lanes mid new → Becoming to 0 (j + 1) numbers old new
combined to a b j f numbers x y value old mid new jb ra rb bits before x_is y_is value_is now = one_up to j numbers old mid new value before now (λ i ib _.
    value_is i ib ∙ ap (λ n. f i n (bit y i)) (x_is i ib ∙ operand_kept a to j i numbers old mid jb ra before)
    ∙ ap (f i (bit_at (operand_of a old to.len i) j)) (y_is i ib ∙ operand_kept b to j i numbers old mid jb rb before) ∙ bits i ib)

-- a plane of a field that is read while the target is written from its lowest bit up
pub field_kept : (offset n : ℕ) (to : Target) (j at i : ℕ) (numbers : ℕ → ℕ) (old mid : List Plane) → j ≤ at → at < n → IsFieldReadable offset n to old → Becoming to 0 j numbers old mid
    → bit (plane_at mid (offset + at)) i ≡ bit_at (number old offset n i) at
field_kept offset n to j at i numbers old mid ja an readable before =
    ap (λ q. bit q i) (before.outside (offset + at) (elim readable.1 [ inl l ↦ inr (omega arith) | inr g ↦ inl (omega arith) ]))
    ∙ sym (number-bits old offset n i at an)

-- one bit of a field from bit k on, as it is read while the target is written from its lowest bit up
pub taken_bit : (to : Target) (offset n j k : ℕ) (unsigned : Bool) (sign value : List ℕ) (numbers : ℕ → ℕ) (old mid : List Plane) → 1 ≤ n → j < to.len → IsFieldReadable offset n to old
    → ((i : ℕ) → i < 512 → bit sign i ≡ cond unsigned 0 (bit (plane_at old (offset + (n - 1))) i))
    → ((i : ℕ) → i < 512 → bit value i ≡ cond (nat_lt (j + k) n) (bit (plane_at mid (offset + (j + k))) i) (bit sign i))
    → Becoming to 0 j numbers old mid → (i : ℕ) → i < 512 → bit value i ≡ bit_at (extended unsigned n (to.len + k) (number old offset n i) / 2 ^ k) j
taken_bit to offset n j k unsigned sign value numbers old mid nb jb readable sign_is value_is before i ib =
    let x : ℕ = number old offset n i in
    let s : bit sign i ≡ cond unsigned 0 (bit_at x (n - 1)) = sign_is i ib ∙ ap (cond unsigned 0) (sym (number-bits old offset n i (n - 1) (omega arith))) in
    value_is i ib ∙ ap (cond (nat_lt (j + k) n) (bit (plane_at mid (offset + (j + k))) i)) s
    ∙ (let e : cond (nat_lt (j + k) n) (bit (plane_at mid (offset + (j + k))) i) (cond unsigned 0 (bit_at x (n - 1))) ≡ cond (nat_lt (j + k) n) (bit_at x (j + k)) (cond unsigned 0 (bit_at x (n - 1))) =
    elim (cases_lt (j + k) n) [
      | inl l ↦ ap (λ b. cond (nat_lt (j + k) n) b (cond unsigned 0 (bit_at x (n - 1)))) (field_kept offset n to j (j + k) i numbers old mid (omega arith) l readable before)
      | inr g ↦ ap (λ t. cond t (bit (plane_at mid (offset + (j + k))) i) (cond unsigned 0 (bit_at x (n - 1)))) (le-ltb (j + k) n g)
          ∙ sym (ap (λ t. cond t (bit_at x (j + k)) (cond unsigned 0 (bit_at x (n - 1)))) (le-ltb (j + k) n g))
    ] in e)
    ∙ sym (extended_bits unsigned n (to.len + k) x (j + k) nb (number-lt old offset n i) (omega arith))
    ∙ ap (bit_at (extended unsigned n (to.len + k) x)) (let e : j + k ≡ k + j = omega arith in e)
    ∙ sym (bit_at-shr (extended unsigned n (to.len + k) x) k j)

-- the same written
pub taken : (to : Target) (offset n j k : ℕ) (unsigned : Bool) (sign value : List ℕ) (old mid new : List Plane) → 1 ≤ n → j < to.len → IsFieldReadable offset n to old
    → ((i : ℕ) → i < 512 → bit sign i ≡ cond unsigned 0 (bit (plane_at old (offset + (n - 1))) i))
    → ((i : ℕ) → i < 512 → bit value i ≡ cond (nat_lt (j + k) n) (bit (plane_at mid (offset + (j + k))) i) (bit sign i))
    → Becoming to 0 j (λ i. extended unsigned n (to.len + k) (number old offset n i) / 2 ^ k) old mid → Writes (to.offset + j) value to.lanes mid new
    → Becoming to 0 (j + 1) (λ i. extended unsigned n (to.len + k) (number old offset n i) / 2 ^ k) old new
taken to offset n j k unsigned sign value old mid new nb jb readable sign_is value_is before now =
    let f : ℕ → ℕ = λ i. extended unsigned n (to.len + k) (number old offset n i) / 2 ^ k in
    one_up to j f old mid new value before now (λ i ib _. taken_bit to offset n j k unsigned sign value f old mid nb jb readable sign_is value_is before i ib)

-- one bit of a field that is shifted left, from the highest down
pub lifted : (to : Target) (offset m j k : ℕ) (value : List ℕ) (old mid new : List Plane) → j < to.len → IsReadableDown offset to old
    → ((i : ℕ) → i < 512 → bit value i ≡ cond (nat_lt j k) 0 (bit (plane_at mid (offset + (j - k))) i))
    → m ≡ j + 1 → Becoming to m to.len (λ i. number old offset to.len i * 2 ^ k) old mid → Writes (to.offset + j) value to.lanes mid new
    → Becoming to j to.len (λ i. number old offset to.len i * 2 ^ k) old new
lifted to offset m j k value old mid new jb readable value_is e started now =
    let before : Becoming to (j + 1) to.len (λ i. number old offset to.len i * 2 ^ k) old mid = subst (λ t. Becoming to t to.len (λ i. number old offset to.len i * 2 ^ k) old mid) e started in
    one_down to j to.len (λ i. number old offset to.len i * 2 ^ k) old mid new value jb before now (λ i ib _.
    let x : ℕ = number old offset to.len i in
    value_is i ib ∙ elim (cases_lt j k) [
      | inl l ↦ ap (λ t. cond t 0 (bit (plane_at mid (offset + (j - k))) i)) (lt-ltb j k l) ∙ sym (bit_at-shl_low x k j l)
      | inr g ↦ ap (λ t. cond t 0 (bit (plane_at mid (offset + (j - k))) i)) (le-ltb j k g)
          ∙ ap (λ q. bit q i) (before.outside (offset + (j - k)) (elim readable.1 [ inl l ↦ inl (omega arith) | inr r ↦ inr (omega arith) ]))
          ∙ sym (number-bits old offset to.len i (j - k) (omega arith)) ∙ sym (bit_at-shl_high x k j (pow_pos k) g)
    ])
