-- Columns of coordinates and of addresses.
use Rattle.std.proofs.Common.{◌≡◌, ℕ, suc, ◌+◌, ◌-◌, ◌*◌, ◌/◌, ◌%◌, ◌<◌, ◌≤◌, true, List, All, drop, length, get_or, sym, ◌∙◌, ap, subst, arith}
use Rattle.std.proofs.lemmas.Nat.{div-mul-add, mod-mul-add, mod_below}
use Rattle.std.proofs.Math.Nat.{mod-eq_of_lt, div-add-mod, mod-add-mod, mod_self, mul_comm, mod-lt}
use Rattle.std.specs.Prelude.{slice_index}
use Rattle.vp_sets.specs.Positions.{are_positive, coordinate, position_count}
use Rattle.vp_sets.proofs.PositionLaws.{coordinate_by_stride, extent_positive}
use Rattle.bit_planes.specs.declared.plane.Plane.{Plane}
use Rattle.paris_code.specs.declared.operands.Coordinate.{Coordinate}
use Rattle.paris_code.specs.declared.operands.Coordinate.TheVariants as C
use Rattle.paris_code.specs.declared.operands.SignedCoordinate.{SignedCoordinate}
use Rattle.paris_code.specs.Operands.{coordinate_of}
use Rattle.paris_code.specs.Shapes.{SetShape, bits_at}
use Rattle.phase_elements.specs.Reads.{IsCoordinateIn}
use Rattle.elementwise.specs.Columns.{Counts, IsCoordinateWithin}

-- the planes of a block have the bits of this set
abbrev pub HasBits : List SetShape → List Plane → ℕ → Type 0
HasBits shapes planes set = bits_at shapes set + 2 ≤ length planes

pub within : (shapes : List SetShape) (planes : List Plane) (c : Coordinate) → IsCoordinateIn shapes (HasBits shapes planes) c → IsCoordinateWithin planes c
within shapes planes (C.Field f) at = (at.0.1, at.0.2, omega (arith, at.0.3, at.1))
within shapes planes (C.Reg r) at = tt

pub checked_within : (shapes : List SetShape) (planes : List Plane) (cs : List SignedCoordinate) → All (λ c. IsCoordinateIn shapes (HasBits shapes planes) (coordinate_of c)) cs → All (λ c. IsCoordinateWithin planes (coordinate_of c)) cs
checked_within shapes planes cs at = λ k e b. within shapes planes (coordinate_of (get_or cs k e)) (at k e b)

-- a position and the next one, by their places between neighbours along an axis
parts : (n s : ℕ) → n ≡ n / s * s + n % s
parts n s = sym (ap (λ m. m + n % s) (mul_comm (n / s) s) ∙ div-add-mod n s)

same_place : (n s : ℕ) → n % s + 1 < s → ((n + 1) / s ≡ n / s) × ((n + 1) % s ≡ n % s + 1)
same_place n s h =
    let e : n + 1 ≡ n / s * s + (n % s + 1) = omega (arith, parts n s) in
    (ap (λ m. m / s) e ∙ div-mul-add (n / s) s (n % s + 1) h, ap (λ m. m % s) e ∙ mod-mul-add (n / s) s (n % s + 1) h)

next_place : (n s : ℕ) → n % s + 1 ≡ s → 0 < s → ((n + 1) / s ≡ n / s + 1) × ((n + 1) % s ≡ 0)
next_place n s h some =
    let one : (n / s + 1) * s ≡ n / s * s + s = grind arith in
    let e : n + 1 ≡ (n / s + 1) * s + 0 = omega (arith, parts n s, h, one) in
    (ap (λ m. m / s) e ∙ div-mul-add (n / s + 1) s 0 some, ap (λ m. m % s) e ∙ mod-mul-add (n / s + 1) s 0 some)

-- the next coordinate
pub counts_on : (s e n own rest : ℕ) → 0 < s → 1 < rest → Counts s e n own rest → Counts s e (n + 1) own (rest - 1)
counts_on s e n own rest some more counts =
    let next = same_place n s (omega (arith, more, counts.until)) in record {
      is = counts.is ∙ sym (ap (λ q. q % e) next.0);
      until = omega (arith, counts.until, next.1);
    }

pub counts_up : (s e n own rest : ℕ) → 0 < s → rest ≤ 1 → own + 1 < e → Counts s e n own rest → Counts s e (n + 1) (own + 1) s
counts_up s e n own rest some last room counts =
    let next = next_place n s (omega (arith, last, counts.until, mod-lt n some)) some in record {
      is = sym (ap (λ q. q % e) next.0 ∙ sym (mod-add-mod (n / s) e 1) ∙ ap (λ q. (q + 1) % e) (sym counts.is) ∙ mod-eq_of_lt room);
      until = omega (arith, next.1);
    }

pub counts_round : (s e n own rest : ℕ) → 0 < s → rest ≤ 1 → own < e → e ≤ own + 1 → Counts s e n own rest → Counts s e (n + 1) 0 s
counts_round s e n own rest some last inside full counts =
    let next = next_place n s (omega (arith, last, counts.until, mod-lt n some)) some in
    let whole : own + 1 ≡ e = omega (arith, inside, full) in record {
      is = sym (ap (λ q. q % e) next.0 ∙ sym (mod-add-mod (n / s) e 1) ∙ ap (λ q. (q + 1) % e) (sym counts.is) ∙ ap (λ q. q % e) whole ∙ mod_self e);
      until = omega (arith, next.1);
    }

-- a coordinate is below its extent
pub coordinate_inside : (xs : List ℕ) (n axis : ℕ) → are_positive xs ≡ true → axis < length xs → coordinate xs n axis < slice_index xs axis
coordinate_inside xs n axis positive there =
    subst (λ c. c < slice_index xs axis) (sym (coordinate_by_stride xs n axis there)) (mod_below (n / position_count (drop (suc axis) xs)) (slice_index xs axis) (extent_positive xs axis positive there))
