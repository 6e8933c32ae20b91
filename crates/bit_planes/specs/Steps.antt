-- The transposition of blocks of 32 planes and 32 lanes, in five steps.
use Rattle.std.specs.Prelude.{ℕ, ◌≡◌, ◌≢◌, ◌⊎◌, ◌+◌, ◌*◌, ◌-◌, ◌/◌, ◌%◌, ◌<◌, List, nat_eq, if◌then◌else◌}
use Rattle.bit_planes.specs.declared.plane.Plane.{Plane}
use Rattle.bit_planes.specs.Bits.{bit}
use Rattle.bit_planes.specs.Planes.{plane_at}

-- one of the five distances of planes that exchange bits
abbrev pub IsStep : ℕ → Type 0
IsStep s = (s ≡ 16) ⊎ (s ≡ 8) ⊎ (s ≡ 4) ⊎ (s ≡ 2) ⊎ (s ≡ 1)

-- the first plane and the one a step behind it have exchanged the bits of its odd lanes and the other's even ones
pub record PairExchanged (s first : ℕ) (old new : List Plane) : Type 0 where
  pub low : (i : ℕ) → i < 512 → bit (plane_at new first) i ≡ (if nat_eq (i / s % 2) 0 then bit (plane_at old first) i else bit (plane_at old (first + s)) (i - s))
  pub high : (i : ℕ) → i < 512 → bit (plane_at new (first + s)) i ≡ (if nat_eq (i / s % 2) 0 then bit (plane_at old first) (i + s) else bit (plane_at old (first + s)) i)
  pub rest : (r : ℕ) → r ≢ first → r ≢ first + s → plane_at new r ≡ plane_at old r

-- in the numbers of plane and lane, the parities at this step have changed places
abbrev pub Exchanged : ℕ → List Plane → List Plane → Type 0
Exchanged s old new = (r i : ℕ) → r < 32 → i < 512
    → bit (plane_at new r) i ≡ bit (plane_at old (r - s * (r / s % 2) + s * (i / s % 2))) (i - s * (i / s % 2) + s * (r / s % 2))

-- within each 32 lanes, planes and lanes have changed places
abbrev pub Transposed : List Plane → List Plane → Type 0
Transposed old new = (r i : ℕ) → r < 32 → i < 512 → bit (plane_at new r) i ≡ bit (plane_at old (i % 32)) (i - i % 32 + r)
