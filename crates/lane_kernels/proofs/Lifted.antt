-- From one bit to numbers, and from one lane to all.
use Rattle.std.proofs.Common.{◌≡◌, ℕ, ◌+◌, ◌%◌, ◌^◌, ◌<◌, ◌≤◌, ◌⊎◌, List, length, sym, ◌∙◌, ap, inl, inr, arith}
use Rattle.std.specs.Int.{bit_at}
use Rattle.std.proofs.lemmas.Nat.{mod_below, pow_pos}
use Rattle.std.proofs.lemmas.Bool.{cases_lt, cases_eq}
use Rattle.bit_planes.specs.declared.plane.Plane.{Plane}
use Rattle.bit_planes.specs.Bits.{bit}
use Rattle.bit_planes.specs.Planes.{plane_at}
use Rattle.cstar_base.proofs.BitCuts.{bit_at-cut}
use Rattle.bit_planes.proofs.Planes.{number_is, number-lt, number-bits}
use Rattle.lane_kernels.specs.declared.target.Target.{Target}
use Rattle.lane_kernels.specs.declared.target.Operand.{Operand}
use Rattle.lane_kernels.specs.declared.target.Operand.TheVariants.{Field, Constant}
use Rattle.lane_kernels.specs.Changes.{Writes}
use Rattle.lane_kernels.specs.Kernels.{operand_bit, operand_of, IsReadable, Becomes}

pub operand_of-lt : (a : Operand) (planes : List Plane) (n i : ℕ) → operand_of a planes n i < 2 ^ n
operand_of-lt (Field offset) planes n i = number-lt planes offset n i
operand_of-lt (Constant k) planes n i = mod_below k (2 ^ n) (pow_pos n)

-- a bit of the operand is that of its number
pub operand_bit_is : (a : Operand) (planes : List Plane) (n j i : ℕ) → j < n → operand_bit a planes j i ≡ bit_at (operand_of a planes n i) j
operand_bit_is (Field offset) planes n j i h = sym (number-bits planes offset n i j h)
operand_bit_is (Constant k) planes n j i h = sym (bit_at-cut k n j h)

-- in the target's lanes, bits lo to hi of its field have become those of the numbers; all else is as it was
pub record Becoming (to : Target) (lo hi : ℕ) (numbers : ℕ → ℕ) (old new : List Plane) : Type 0 where
  pub long : length new ≡ length old
  pub written : (j i : ℕ) → lo ≤ j → j < hi → i < 512 → bit to.lanes i ≡ 1 → bit (plane_at new (to.offset + j)) i ≡ bit_at (numbers i) j
  pub kept : (j i : ℕ) → i < 512 → bit to.lanes i ≡ 0 → bit (plane_at new j) i ≡ bit (plane_at old j) i
  pub outside : (j : ℕ) → (j < to.offset + lo) ⊎ (to.offset + hi ≤ j) → plane_at new j ≡ plane_at old j

-- one more bit, above or below those before
pub one_more : (to : Target) (lo hi k from til : ℕ) (numbers : ℕ → ℕ) (old mid new : List Plane) (value : List ℕ)
    → ((m : ℕ) → from ≤ m → m < til → (m ≡ k) ⊎ ((lo ≤ m) × (m < hi))) → from ≤ k → k < til → from ≤ lo → hi ≤ til
    → Becoming to lo hi numbers old mid → Writes (to.offset + k) value to.lanes mid new
    → ((i : ℕ) → i < 512 → bit to.lanes i ≡ 1 → bit value i ≡ bit_at (numbers i) k) → Becoming to from til numbers old new
one_more to lo hi k from til numbers old mid new value covers f t l h before now is = record {
  long = now.long ∙ before.long;
  written = λ j i fj jt ib one. elim (covers j fj jt) [
    | inl e ↦ ap (λ m. bit (plane_at new (to.offset + m)) i) e ∙ now.written i ib one ∙ is i ib one ∙ ap (bit_at (numbers i)) (sym e)
    | inr r ↦ elim (cases_eq j k) [
      | inl e ↦ ap (λ m. bit (plane_at new (to.offset + m)) i) e ∙ now.written i ib one ∙ is i ib one ∙ ap (bit_at (numbers i)) (sym e)
      | inr n ↦ ap (λ q. bit q i) (now.others (to.offset + j) (λ e. n (omega arith))) ∙ before.written j i r.0 r.1 ib one
    ]
  ];
  kept = λ j i ib none. elim (cases_eq j (to.offset + k)) [
    | inl e ↦ ap (λ m. bit (plane_at new m) i) e ∙ now.kept i ib none ∙ ap (λ m. bit (plane_at mid m) i) (sym e) ∙ before.kept j i ib none
    | inr n ↦ ap (λ q. bit q i) (now.others j n) ∙ before.kept j i ib none
  ];
  outside = λ j o. now.others j (λ e. elim o [ inl a ↦ absurd (omega arith) | inr a ↦ absurd (omega arith) ])
      ∙ before.outside j (elim o [ inl a ↦ inl (omega arith) | inr a ↦ inr (omega arith) ]);
}

pub one_up : (to : Target) (k : ℕ) (numbers : ℕ → ℕ) (old mid new : List Plane) (value : List ℕ)
    → Becoming to 0 k numbers old mid → Writes (to.offset + k) value to.lanes mid new
    → ((i : ℕ) → i < 512 → bit to.lanes i ≡ 1 → bit value i ≡ bit_at (numbers i) k) → Becoming to 0 (k + 1) numbers old new
one_up to k numbers old mid new value = one_more to 0 k k 0 (k + 1) numbers old mid new value
    (λ m _ h. elim (cases_lt m k) [ inl l ↦ inr (omega arith, l) | inr g ↦ inl (omega arith) ]) (omega arith) (omega arith) (omega arith) (omega arith)

pub one_down : (to : Target) (k n : ℕ) (numbers : ℕ → ℕ) (old mid new : List Plane) (value : List ℕ) → k < n
    → Becoming to (k + 1) n numbers old mid → Writes (to.offset + k) value to.lanes mid new
    → ((i : ℕ) → i < 512 → bit to.lanes i ≡ 1 → bit value i ≡ bit_at (numbers i) k) → Becoming to k n numbers old new
one_down to k n numbers old mid new value kn = one_more to (k + 1) n k k n numbers old mid new value
    (λ m f h. elim (cases_eq m k) [ inl e ↦ inl e | inr ne ↦ inr (omega arith, h) ]) (omega arith) kn (omega arith) (omega arith)

-- when all bits are written, the field has the numbers, cut to its length
pub all_written : (to : Target) (n : ℕ) (numbers : ℕ → ℕ) (old new : List Plane) → n ≡ to.len → Becoming to 0 n numbers old new → Becomes to (λ i. numbers i % 2 ^ to.len) old new
all_written to n numbers old new e done = record {
  long = done.long;
  written = λ i ib one. number_is new to.offset to.len i (numbers i) (λ j h. done.written j i (omega arith) (omega arith) ib one);
  kept = done.kept;
  outside = λ j o. done.outside j (elim o [ inl a ↦ inl (omega arith) | inr a ↦ inr (omega arith) ]);
}

-- the same change, by other words for the numbers
pub same_change : (to : Target) (f g : ℕ → ℕ) (old new : List Plane) → ((i : ℕ) → i < 512 → f i ≡ g i) → Becomes to f old new → Becomes to g old new
same_change to f g old new e done = record {
  long = done.long;
  written = λ i ib one. done.written i ib one ∙ e i ib;
  kept = done.kept;
  outside = done.outside;
}

-- an operand that is read while the target is written
pub operand_kept : (a : Operand) (to : Target) (k i : ℕ) (numbers : ℕ → ℕ) (old mid : List Plane) → k < to.len → IsReadable a to old → Becoming to 0 k numbers old mid
    → operand_bit a mid k i ≡ bit_at (operand_of a old to.len i) k
operand_kept (Field offset) to k i numbers old mid h readable before =
    ap (λ q. bit q i) (before.outside (offset + k) (elim readable.1 [ inl l ↦ inr (omega arith) | inr g ↦ inl (omega arith) ]))
    ∙ operand_bit_is (Field offset) old to.len k i h
operand_kept (Constant n) to k i numbers old mid h readable before = operand_bit_is (Constant n) old to.len k i h
