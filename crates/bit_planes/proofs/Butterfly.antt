-- The exchange of bits between two planes, lane by lane.
use Rattle.std.proofs.Common.{◌≡◌, ℕ, suc, zero, ◌+◌, ◌-◌, ◌*◌, ◌/◌, ◌%◌, ◌<◌, ◌≤◌, ◌⊎◌, min, max, cond, nat_lt, nat_eq, Bool, true, false, List, length, refl, sym, ◌∙◌, ap, subst, inl, inr, arith}
use Rattle.std.specs.Int.{bit_at}
use Rattle.std.proofs.lemmas.Bool.{cases_lt, lt-ltb, le-ltb, eqb-true}
use Rattle.std.proofs.Math.Bool.{◌&&◌}
use Rattle.std.proofs.Math.ListN.{set, length-set}
use Rattle.bit_planes.proofs.Planes.{plane-set_same, plane-set_other}
use Rattle.bit_planes.proofs.Words.{bit-lt}
use Rattle.bit_planes.specs.Bits.{bit}
use Rattle.bit_planes.specs.Planes.{plane_at}
use Rattle.bit_planes.specs.Steps.{IsStep, PairExchanged}
use Rattle.bit_planes.specs.declared.plane.Plane.{Plane}

-- what holds of the five steps holds of each step
pub by_step : (P : ℕ → Type 0) → P 16 → P 8 → P 4 → P 2 → P 1 → (s : ℕ) → IsStep s → P s
by_step P p16 p8 p4 p2 p1 s h = elim h [
  | inl e ↦ subst P (sym e) p16
  | inr h8 ↦ elim h8 [
    | inl e ↦ subst P (sym e) p8
    | inr h4 ↦ elim h4 [
      | inl e ↦ subst P (sym e) p4
      | inr h2 ↦ elim h2 [ inl e ↦ subst P (sym e) p2 | inr e ↦ subst P (sym e) p1 ]
    ]
  ]
]

pub step_pos : (s : ℕ) → IsStep s → 0 < s
step_pos = by_step (λ s. 0 < s) (omega arith) (omega arith) (omega arith) (omega arith) (omega arith)

-- where a lane stands at an even or an odd multiple of the step
pub at_even : (s : ℕ) → IsStep s → (i : ℕ) → i < 512 → i / s % 2 ≡ 0
    → (i % 64 + s < 64) × (i + s < 512) × ((i % 64 < s) ⊎ ((s ≤ i % 64) × ((i - s) / s % 2 ≡ 1)))
at_even = by_step (λ s. (i : ℕ) → i < 512 → i / s % 2 ≡ 0
    → (i % 64 + s < 64) × (i + s < 512) × ((i % 64 < s) ⊎ ((s ≤ i % 64) × ((i - s) / s % 2 ≡ 1))))
    (λ i b e. (omega arith, omega arith, elim (cases_lt (i % 64) 16) [ inl l ↦ inl l | inr g ↦ inr (g, omega arith) ]))
    (λ i b e. (omega arith, omega arith, elim (cases_lt (i % 64) 8) [ inl l ↦ inl l | inr g ↦ inr (g, omega arith) ]))
    (λ i b e. (omega arith, omega arith, elim (cases_lt (i % 64) 4) [ inl l ↦ inl l | inr g ↦ inr (g, omega arith) ]))
    (λ i b e. (omega arith, omega arith, elim (cases_lt (i % 64) 2) [ inl l ↦ inl l | inr g ↦ inr (g, omega arith) ]))
    (λ i b e. (omega arith, omega arith, elim (cases_lt (i % 64) 1) [ inl l ↦ inl l | inr g ↦ inr (g, omega arith) ]))

pub at_odd : (s : ℕ) → IsStep s → (i : ℕ) → i < 512 → i / s % 2 ≡ 1
    → (s ≤ i % 64) × ((i - s) / s % 2 ≡ 0) × ((i - s) % 64 + s < 64) × (i - s + s ≡ i)
at_odd = by_step (λ s. (i : ℕ) → i < 512 → i / s % 2 ≡ 1
    → (s ≤ i % 64) × ((i - s) / s % 2 ≡ 0) × ((i - s) % 64 + s < 64) × (i - s + s ≡ i))
    (λ i b e. (omega arith, omega arith, omega arith, omega arith))
    (λ i b e. (omega arith, omega arith, omega arith, omega arith))
    (λ i b e. (omega arith, omega arith, omega arith, omega arith))
    (λ i b e. (omega arith, omega arith, omega arith, omega arith))
    (λ i b e. (omega arith, omega arith, omega arith, omega arith))

parity : (n : ℕ) → (n % 2 ≡ 0) ⊎ (n % 2 ≡ 1)
parity n = elim (cases_lt (n % 2) 1) [ inl l ↦ inl (omega arith) | inr g ↦ inr (omega arith) ]

-- a bit of the first plane where the lane is even, and else one of the second: by a mask that is 1 at even lanes
picked : (s i x y even odd from_even from_odd : ℕ) → x < 2 → y < 2 → even ≡ 1 - i / s % 2 → odd ≡ 1 - even
    → (i / s % 2 ≡ 0 → from_even ≡ x) → (i / s % 2 ≡ 1 → from_odd ≡ y)
    → max (min from_even even) (min from_odd odd) ≡ cond (nat_eq (i / s % 2) 0) x y
picked s i x y even odd from_even from_odd xb yb even_is odd_is at_x at_y = elim (parity (i / s)) [
  | inl e ↦
      let k : max (min from_even even) (min from_odd odd) ≡ x = omega (arith, at_x e, even_is, odd_is, e, xb) in
      k ∙ sym (ap (λ n. cond (nat_eq n 0) x y) e)
  | inr e ↦
      let k : max (min from_even even) (min from_odd odd) ≡ y = omega (arith, at_y e, even_is, odd_is, e, yb) in
      k ∙ sym (ap (λ n. cond (nat_eq n 0) x y) e)
]

-- the bits of the two planes after the exchange
module _ (first second even odd down up : List ℕ) (s : ℕ) (step : IsStep s)
    (even_is : (i : ℕ) → i < 512 → bit even i ≡ 1 - i / s % 2)
    (odd_is : (i : ℕ) → i < 512 → bit odd i ≡ 1 - bit even i)
    (down_is : (i : ℕ) → i < 512 → bit down i ≡ cond (nat_lt (i % 64 + s) 64) (bit first (i + s)) 0)
    (up_is : (i : ℕ) → i < 512 → bit up i ≡ cond (nat_lt (i % 64) s) 0 (bit second (i - s))) where
  pub swapped_first : (i : ℕ) → i < 512 → max (min (bit first i) (bit even i)) (min (bit up i) (bit odd i)) ≡ cond (nat_eq (i / s % 2) 0) (bit first i) (bit second (i - s))
  swapped_first i b = picked s i (bit first i) (bit second (i - s)) (bit even i) (bit odd i) (bit first i) (bit up i) (bit-lt first i) (bit-lt second (i - s)) (even_is i b) (odd_is i b)
      (λ e. refl)
      (λ e. up_is i b ∙ ap (λ t. cond t 0 (bit second (i - s))) (le-ltb (i % 64) s (at_odd s step i b e).0))

  pub swapped_second : (i : ℕ) → i < 512 → max (min (bit down i) (bit even i)) (min (bit second i) (bit odd i)) ≡ cond (nat_eq (i / s % 2) 0) (bit first (i + s)) (bit second i)
  swapped_second i b = picked s i (bit first (i + s)) (bit second i) (bit even i) (bit odd i) (bit down i) (bit second i) (bit-lt first (i + s)) (bit-lt second i) (even_is i b) (odd_is i b)
      (λ e. down_is i b ∙ ap (λ t. cond t (bit first (i + s)) 0) (lt-ltb (i % 64 + s) 64 (at_even s step i b e).0))
      (λ e. refl)

-- the pair of planes to which a plane belongs
abbrev pub pair_of : ℕ → ℕ → ℕ
pair_of s r = r / (2 * s) * s + r % s

-- the pairs before this one have exchanged their bits, and the others are as they were
pub record PairsDone (s pair : ℕ) (old new : List Plane) : Type 0 where
  pub done : (r i : ℕ) → r < 32 → i < 512 → pair_of s r < pair
      → bit (plane_at new r) i ≡ bit (plane_at old (r - s * (r / s % 2) + s * (i / s % 2))) (i - s * (i / s % 2) + s * (r / s % 2))
  pub rest : (r : ℕ) → r < 32 → pair ≤ pair_of s r → plane_at new r ≡ plane_at old r

-- the pair that the loop takes, and the planes that belong to it
pub at_pair : (s : ℕ) → IsStep s → (pair : ℕ) → pair < 16
    → (pair_of s (pair + pair / s * s) ≡ pair) × (pair_of s (pair + pair / s * s + s) ≡ pair) × ((pair + pair / s * s) / s % 2 ≡ 0) × ((pair + pair / s * s + s) / s % 2 ≡ 1)
    × (pair + pair / s * s + s < 32) × ((r : ℕ) → r < 32 → pair_of s r ≡ pair → (r ≡ pair + pair / s * s) ⊎ (r ≡ pair + pair / s * s + s))
at_pair = by_step (λ s. (pair : ℕ) → pair < 16
    → (pair_of s (pair + pair / s * s) ≡ pair) × (pair_of s (pair + pair / s * s + s) ≡ pair) × ((pair + pair / s * s) / s % 2 ≡ 0) × ((pair + pair / s * s + s) / s % 2 ≡ 1)
    × (pair + pair / s * s + s < 32) × ((r : ℕ) → r < 32 → pair_of s r ≡ pair → (r ≡ pair + pair / s * s) ⊎ (r ≡ pair + pair / s * s + s)))
    (λ p b. (omega arith, omega arith, omega arith, omega arith, omega arith, λ r rb e. elim (parity (r / 16)) [ inl z ↦ inl (omega arith) | inr o ↦ inr (omega arith) ]))
    (λ p b. (omega arith, omega arith, omega arith, omega arith, omega arith, λ r rb e. elim (parity (r / 8)) [ inl z ↦ inl (omega arith) | inr o ↦ inr (omega arith) ]))
    (λ p b. (omega arith, omega arith, omega arith, omega arith, omega arith, λ r rb e. elim (parity (r / 4)) [ inl z ↦ inl (omega arith) | inr o ↦ inr (omega arith) ]))
    (λ p b. (omega arith, omega arith, omega arith, omega arith, omega arith, λ r rb e. elim (parity (r / 2)) [ inl z ↦ inl (omega arith) | inr o ↦ inr (omega arith) ]))
    (λ p b. (omega arith, omega arith, omega arith, omega arith, omega arith, λ r rb e. elim (parity (r / 1)) [ inl z ↦ inl (omega arith) | inr o ↦ inr (omega arith) ]))

-- where the bit of plane r and lane i comes from, by the parities of both
from : (old : List Plane) (s r i a b x y : ℕ) → r / s % 2 ≡ a → i / s % 2 ≡ b → x ≡ r - s * a + s * b → y ≡ i - s * b + s * a
    → bit (plane_at old x) y ≡ bit (plane_at old (r - s * (r / s % 2) + s * (i / s % 2))) (i - s * (i / s % 2) + s * (r / s % 2))
from old s r i a b x y ra ib ex ey =
    ap (λ n. bit (plane_at old n) y) ex ∙ ap (λ n. bit (plane_at old (r - s * a + s * b)) n) ey
    ∙ ap (λ n. bit (plane_at old (r - s * n + s * b)) (i - s * b + s * n)) (sym ra)
    ∙ ap (λ n. bit (plane_at old (r - s * (r / s % 2) + s * n)) (i - s * n + s * (r / s % 2))) (sym ib)

pub pairs_more : (s : ℕ) → IsStep s → (pair : ℕ) → pair < 16 → (old mid new : List Plane) → PairsDone s pair old mid → PairExchanged s (pair + pair / s * s) mid new → PairsDone s (pair + 1) old new
pairs_more s step pair pb old mid new before now =
    let f : ℕ = pair + pair / s * s in
    let at : (pair_of s f ≡ pair) × (pair_of s (f + s) ≡ pair) × (f / s % 2 ≡ 0) × ((f + s) / s % 2 ≡ 1) × (f + s < 32) × ((r : ℕ) → r < 32 → pair_of s r ≡ pair → (r ≡ f) ⊎ (r ≡ f + s)) = at_pair s step pair pb in
    let low_is : plane_at mid f ≡ plane_at old f = before.rest f (omega (arith, at.4)) (omega (arith, at.0)) in
    let high_is : plane_at mid (f + s) ≡ plane_at old (f + s) = before.rest (f + s) at.4 (omega (arith, at.1)) in
    record {
      done = λ r i rb ib h. elim (cases_lt (pair_of s r) pair) [
        | inl l ↦ ap (λ p. bit p i) (now.rest r (λ e. absurd (omega (arith, ap (pair_of s) e, at.0))) (λ e. absurd (omega (arith, ap (pair_of s) e, at.1)))) ∙ before.done r i rb ib l
        | inr g ↦ elim (at.5 r rb (omega arith)) [
          | inl e ↦
              let ra : r / s % 2 ≡ 0 = ap (λ n. n / s % 2) e ∙ at.2 in
              ap (λ n. bit (plane_at new n) i) e ∙ now.low i ib ∙ elim (parity (i / s)) [
                | inl z ↦ ap (λ n. cond (nat_eq n 0) (bit (plane_at mid f) i) (bit (plane_at mid (f + s)) (i - s))) z
                    ∙ ap (λ p. bit p i) low_is ∙ from old s r i 0 0 f i ra z (omega arith) (omega arith)
                | inr o ↦ ap (λ n. cond (nat_eq n 0) (bit (plane_at mid f) i) (bit (plane_at mid (f + s)) (i - s))) o
                    ∙ ap (λ p. bit p (i - s)) high_is ∙ from old s r i 0 1 (f + s) (i - s) ra o (omega arith) (omega arith)
              ]
          | inr e ↦
              let ra : r / s % 2 ≡ 1 = ap (λ n. n / s % 2) e ∙ at.3 in
              ap (λ n. bit (plane_at new n) i) e ∙ now.high i ib ∙ elim (parity (i / s)) [
                | inl z ↦ ap (λ n. cond (nat_eq n 0) (bit (plane_at mid f) (i + s)) (bit (plane_at mid (f + s)) i)) z
                    ∙ ap (λ p. bit p (i + s)) low_is ∙ from old s r i 1 0 f (i + s) ra z (omega arith) (omega arith)
                | inr o ↦ ap (λ n. cond (nat_eq n 0) (bit (plane_at mid f) (i + s)) (bit (plane_at mid (f + s)) i)) o
                    ∙ ap (λ p. bit p i) high_is ∙ from old s r i 1 1 (f + s) i ra o (omega arith) (omega (arith, (at_odd s step i ib o).3))
              ]
        ]
      ];
      rest = λ r rb h. now.rest r (λ e. absurd (omega (arith, ap (pair_of s) e, at.0))) (λ e. absurd (omega (arith, ap (pair_of s) e, at.1))) ∙ before.rest r rb (omega arith);
    }

-- a mask has a 1 in each even multiple of the step, by a test that computes
mask_agrees : ℕ → ℕ → ℕ → Bool
mask_agrees m s zero = true
mask_agrees m s (suc n) = nat_eq (bit_at m n) (1 - n / s % 2) && mask_agrees m s n

and_both : (a b : Bool) → (a && b) ≡ true → (a ≡ true) × (b ≡ true)
and_both true b e = (refl, e)
and_both false b e = cc

mask_from_test : (m s n : ℕ) → mask_agrees m s n ≡ true → (j : ℕ) → j < n → bit_at m j ≡ 1 - j / s % 2
unfolding mask_agrees
mask_from_test m s zero e j h = absurd (omega arith)
mask_from_test m s (suc n) e j h =
    let both : (nat_eq (bit_at m n) (1 - n / s % 2) ≡ true) × (mask_agrees m s n ≡ true) = and_both (nat_eq (bit_at m n) (1 - n / s % 2)) (mask_agrees m s n) e in
    elim (cases_lt j n) [
      | inl l ↦ mask_from_test m s n both.1 j l
      | inr g ↦ let k : j ≡ n = omega arith in subst (λ t. bit_at m t ≡ 1 - t / s % 2) (sym k) (eqb-true (bit_at m n) (1 - n / s % 2) both.0)
    ]

pub mask_16 : (j : ℕ) → j < 64 → bit_at 0x0000_FFFF_0000_FFFF j ≡ 1 - j / 16 % 2
unfolding mask_agrees
mask_16 = mask_from_test 0x0000_FFFF_0000_FFFF 16 64 refl

pub mask_8 : (j : ℕ) → j < 64 → bit_at 0x00FF_00FF_00FF_00FF j ≡ 1 - j / 8 % 2
unfolding mask_agrees
mask_8 = mask_from_test 0x00FF_00FF_00FF_00FF 8 64 refl

pub mask_4 : (j : ℕ) → j < 64 → bit_at 0x0F0F_0F0F_0F0F_0F0F j ≡ 1 - j / 4 % 2
unfolding mask_agrees
mask_4 = mask_from_test 0x0F0F_0F0F_0F0F_0F0F 4 64 refl

pub mask_2 : (j : ℕ) → j < 64 → bit_at 0x3333_3333_3333_3333 j ≡ 1 - j / 2 % 2
unfolding mask_agrees
mask_2 = mask_from_test 0x3333_3333_3333_3333 2 64 refl

pub mask_1 : (j : ℕ) → j < 64 → bit_at 0x5555_5555_5555_5555 j ≡ 1 - j / 1 % 2
unfolding mask_agrees
mask_1 = mask_from_test 0x5555_5555_5555_5555 1 64 refl

-- what the writes of the two planes leave
pub pair_written : (s first : ℕ) → 0 < s → (old : List Plane) (low high : List ℕ) → first + s < length old
    → ((i : ℕ) → i < 512 → bit low i ≡ cond (nat_eq (i / s % 2) 0) (bit (plane_at old first) i) (bit (plane_at old (first + s)) (i - s)))
    → ((i : ℕ) → i < 512 → bit high i ≡ cond (nat_eq (i / s % 2) 0) (bit (plane_at old first) (i + s)) (bit (plane_at old (first + s)) i))
    → PairExchanged s first old (set (set old first (record { bits = low })) (first + s) (record { bits = high }))
pair_written s first p old low high within l h = record {
  low = λ i b. ap (λ q. bit q i) (plane-set_other (set old first (record { bits = low })) (first + s) first (record { bits = high }) (λ e. absurd (omega arith)) ∙ plane-set_same old first low (omega arith)) ∙ l i b;
  high = λ i b. ap (λ q. bit q i) (plane-set_same (set old first (record { bits = low })) (first + s) high (omega (arith, length-set old first (record { bits = low })))) ∙ h i b;
  rest = λ r n m. plane-set_other (set old first (record { bits = low })) (first + s) r (record { bits = high }) m ∙ plane-set_other old first r (record { bits = low }) n;
}
