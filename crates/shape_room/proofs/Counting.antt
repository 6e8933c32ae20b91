-- Sums and greatest ones of numbers that are counted.
use Rattle.std.proofs.Common.{◌≡◌, ◌==◌, inl, inr, ℕ, zero, suc, ◌+◌, ◌*◌, ◌-◌, ◌^◌, ◌<◌, Bool, false, true, min, max, ap, refl, sym, ◌∙◌, arith, if◌then◌else◌, Option, Some, None, [], ◌∷◌, unwrap_or}
use Rattle.std.proofs.lemmas.Bool.{eq-eqb, ne_eqb}
use Rattle.std.proofs.lemmas.Bool.Decides.{eqb_tells, nat_tests}
use Rattle.cstar_tree.specs.Room.{beside, greatest, of_shape, times_length}
use Rattle.cstar_tree.specs.Scopes.{is_shape}
use Rattle.shape_room.specs.Counted.{counted}

pub sum : (x y : ℕ) {a b r : ℕ} → a ≡ counted x → b ≡ counted y → r ≡ min (a + b) (2 ^ 64 - 1) → r ≡ counted (x + y)
sum x y p q is = omega arith

pub greater : (x y : ℕ) {a b r : ℕ} → a ≡ counted x → b ≡ counted y → r ≡ max a b → r ≡ counted (max x y)
greater x y p q is = omega arith

beside_some : (number room : ℕ) → beside number (suc room) ≡ 33 * number + suc room
unfolding beside
beside_some number room = grind (arith, nat_tests)

beside_none : (number : ℕ) → beside number 0 ≡ 0
unfolding beside
beside_none number = refl

pub beside_by : (number room : ℕ) → 0 < room → beside number room ≡ 33 * number + room
beside_by number zero some = absurd (omega arith)
beside_by number (suc room) some = beside_some number room

-- a part by what is counted of its number and of its room
pub part : (number room : ℕ) {n a p : ℕ} → n ≡ counted number → a ≡ counted room → p ≡ counted (beside n a) → p ≡ counted (beside number room)
part number zero {n = n} {a = a} number_is room_is is =
    let none : a ≡ 0 = omega arith in
    is ∙ ap (λ (k : ℕ). counted (beside n k)) none ∙ ap counted (beside_none n ∙ sym (beside_none number))
part number (suc room) {n = n} {a = a} number_is room_is is = omega (arith, beside_by n a (omega arith), beside_some number room)

pub pair : (x y : ℕ) {a b p r : ℕ} → a ≡ counted x → b ≡ counted y → p ≡ counted (beside 1 b) → r ≡ max a p → r ≡ counted (max x (beside 1 y))
pair x y first second beside_is is = greater x (beside 1 y) first (part 1 y refl second beside_is) is

if_counted : (b : Bool) (n : ℕ) → (if b then counted n else 0) ≡ counted (if b then n else 0)
if_counted false n = refl
if_counted true n = refl

pub of_shape_counted : (shape : ℕ) (at : Option ℕ) (n : ℕ) → of_shape shape at (counted n) ≡ counted (of_shape shape at n)
unfolding of_shape
of_shape_counted shape at n = if_counted (is_shape shape at) n

either_way : (a b : ℕ) → (a == b) ≡ (b == a)
either_way a b = elim (eqb_tells a b) [
  | inl same ↦ same.0 ∙ sym (eq-eqb b a (sym same.1))
  | inr other ↦ other.0 ∙ sym (ne_eqb b a (λ is. other.1 (sym is)))
]

-- bits of a context, whose shape is the current one
pub of_current : (shape current bits : ℕ) → (if current == shape then bits else 0) ≡ of_shape shape (Some current) bits
unfolding of_shape
of_current shape current bits = ap (λ (b : Bool). if b then bits else 0) (either_way current shape)

-- what is counted of a number that 64 bits hold is the number
pub whole : {a x : ℕ} → a ≡ x → a < 2 ^ 64 → a ≡ counted x
whole is small = omega arith

-- the greatest of the numbers so far and of the rest is that of all, as far as it is counted
abbrev pub IsGreatest : ℕ → ℕ → ℕ → Type 0
IsGreatest so_far rest all = (so_far < 2 ^ 64) × (counted (max so_far rest) ≡ counted all)

pub greatest_more : (so_far first rest all : ℕ) {a new left : ℕ} → IsGreatest so_far left all → left ≡ max first rest → a ≡ counted first → new ≡ max so_far a → IsGreatest new rest all
greatest_more so_far first rest all before left_is first_is is = (omega (arith, before.0), omega (arith, before.1))

pub greatest_of_all : (so_far all : ℕ) {left : ℕ} → IsGreatest so_far left all → left ≡ 0 → so_far ≡ counted all
greatest_of_all so_far all before none = omega (arith, before.0, before.1)

-- the same of a sum
abbrev pub IsSum : ℕ → ℕ → ℕ → Type 0
IsSum so_far rest all = (so_far < 2 ^ 64) × (counted (so_far + rest) ≡ counted all)

pub sum_more : (so_far first rest all : ℕ) {a new left : ℕ} → IsSum so_far left all → left ≡ first + rest → a ≡ counted first → new ≡ min (so_far + a) (2 ^ 64 - 1) → IsSum new rest all
sum_more so_far first rest all before left_is first_is is = (omega arith, omega (arith, before.1))

pub sum_of_all : (so_far all : ℕ) {left : ℕ} → IsSum so_far left all → left ≡ 0 → so_far ≡ counted all
sum_of_all so_far all before none = omega (arith, before.0, before.1)

pub greatest_alone : (n : ℕ) → greatest (n ∷ []) ≡ n
unfolding greatest
greatest_alone n = omega arith

-- the bits of so many elements, or of one
pub times : (bits : ℕ) (array : Option ℕ) → bits * unwrap_or array 1 ≡ times_length bits array
times bits None = omega arith
times bits (Some length) = refl
