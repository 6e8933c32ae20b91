-- What the kernels compute, on numbers of n bits.
use Rattle.std.specs.Prelude.{ℕ, zero, suc, ◌+◌, ◌-◌, ◌*◌, ◌/◌, ◌%◌, ◌^◌, Bool, nat_lt, if◌then◌else◌, List}
use Rattle.bit_planes.specs.Bits.{bit}

-- what is added for a number, or to take it away
abbrev pub addend : Bool → ℕ → ℕ → ℕ
addend inverted n y = if inverted then 2 ^ n - y else y

abbrev pub sum_of : ℕ → ℕ → ℕ → ℕ
sum_of n x y = (x + y) % 2 ^ n

abbrev pub difference_of : ℕ → ℕ → ℕ → ℕ
difference_of n x y = (x + (2 ^ n - y)) % 2 ^ n

abbrev pub product_of : ℕ → ℕ → ℕ → ℕ
product_of n x y = x * y % 2 ^ n

abbrev pub negative_of : ℕ → ℕ → ℕ
negative_of n x = (2 ^ n - x) % 2 ^ n

abbrev pub complement_of : ℕ → ℕ → ℕ
complement_of n x = 2 ^ n - 1 - x

-- the place of a number in order: as it stands, or in two's complement, where the upper half comes before the lower
abbrev pub place_of : Bool → ℕ → ℕ → ℕ
place_of unsigned n x = if unsigned then x else (x + 2 ^ (n - 1)) % 2 ^ n

abbrev pub is_less : Bool → ℕ → ℕ → ℕ → Bool
is_less unsigned n x y = nat_lt (place_of unsigned n x) (place_of unsigned n y)

abbrev pub least_of : Bool → ℕ → ℕ → ℕ → ℕ
least_of unsigned n x y = if is_less unsigned n y x then y else x

abbrev pub greatest_of : Bool → ℕ → ℕ → ℕ → ℕ
greatest_of unsigned n x y = if is_less unsigned n x y then y else x

-- the number of n bits with so many more bits in front, each like its sign, or 0
abbrev pub extended : Bool → ℕ → ℕ → ℕ → ℕ
extended unsigned n more x = if unsigned then x else (if nat_lt x (2 ^ (n - 1)) then x else x + (2 ^ more - 1) * 2 ^ n)

abbrev pub resized : Bool → ℕ → ℕ → ℕ → ℕ
resized unsigned n to x = extended unsigned n to x % 2 ^ to

abbrev pub shifted_left : ℕ → ℕ → ℕ → ℕ
shifted_left n k x = x * 2 ^ k % 2 ^ n

abbrev pub shifted_right : Bool → ℕ → ℕ → ℕ → ℕ
shifted_right unsigned n k x = extended unsigned n (n + k) x / 2 ^ k % 2 ^ n

-- how many of the first lanes have a 1
unfoldable pub ones_before : List ℕ → ℕ → ℕ
ones_before plane zero = 0
ones_before plane (suc i) = ones_before plane i + bit plane i
