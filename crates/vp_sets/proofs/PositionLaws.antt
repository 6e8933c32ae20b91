-- Laws of positions: numbers and coordinates determine each other.
use Rattle.std.proofs.Common.{ℕ, zero, suc, ◌≡◌, ◌≢◌, ◌<◌, ◌≤◌, ◌+◌, ◌-◌, ◌*◌, ◌/◌, ◌^◌, ◌%◌, Bool, true, false, List, [], ◌∷◌, length, take, drop, refl, sym, ap, ◌∙◌, arith}
use Rattle.std.specs.Prelude.{slice_index, slice_set, Option, Some, None, MatchOption, IfSome, is_some}
use Rattle.std.proofs.lemmas.Bool.{false≢true}
use Rattle.std.proofs.lemmas.Bool.Decides.{nat_tests}
use Rattle.std.proofs.lemmas.Nat.{div-mul-add, mul-add-lt, mod_below, div-add-mod'}
use Rattle.std.proofs.Math.Nat.{mod-eq_of_lt, mod-le, mul-le-mul_right, add-mul-mod_self_right, add-mul-div_right}
use Rattle.std.proofs.Math.Seq.{take-length}
use Rattle.std.proofs.lemmas.List.{length-drop}
use Rattle.std.proofs.Math.Arith.{mod-mul}
use Rattle.vp_sets.specs.Blocks.{block_count}
use Rattle.vp_sets.specs.Positions.{position_count, are_positive, is_geometry, coordinates, coordinate, number_at, are_inside, rank_fits, positions_fit}

first_positive : (x : ℕ) (xs : List ℕ) → are_positive (x ∷ xs) ≡ true → 0 < x
unfolding are_positive
first_positive x xs h = grind (arith, nat_tests)

rest_positive : (x : ℕ) (xs : List ℕ) → are_positive (x ∷ xs) ≡ true → are_positive xs ≡ true
unfolding are_positive
rest_positive x xs h = grind (arith, nat_tests)

-- where no extent is 0 there is a position
pub count_positive : (xs : List ℕ) → are_positive xs ≡ true → 0 < position_count xs
unfolding position_count
count_positive [] h = omega arith
count_positive (x ∷ xs) h = mul_positive x (position_count xs) (first_positive x xs h) (count_positive xs (rest_positive x xs h))
  where
    mul_positive : (a b : ℕ) → 0 < a → 0 < b → 0 < a * b
    mul_positive zero b p q = elim p [ ]
    mul_positive (suc a) zero p q = elim q [ ]
    mul_positive (suc a) (suc b) p q = omega arith

first_inside : (x : ℕ) (xs : List ℕ) (c : ℕ) (cs : List ℕ) → are_inside (x ∷ xs) (c ∷ cs) ≡ true → c < x
unfolding are_inside
first_inside x xs c cs h = grind (arith, nat_tests)

rest_inside : (x : ℕ) (xs : List ℕ) (c : ℕ) (cs : List ℕ) → are_inside (x ∷ xs) (c ∷ cs) ≡ true → are_inside xs cs ≡ true
unfolding are_inside
rest_inside x xs c cs h = grind (arith, nat_tests)

none_inside : (x : ℕ) (xs : List ℕ) → are_inside (x ∷ xs) [] ≡ true → ⊥
unfolding are_inside
none_inside x xs h = absurd (false≢true h)

too_many_inside : (c : ℕ) (cs : List ℕ) → are_inside [] (c ∷ cs) ≡ true → ⊥
unfolding are_inside
too_many_inside c cs h = absurd (false≢true h)

-- the number of coordinates that are inside is the number of a position
pub number_below : (xs cs : List ℕ) → are_inside xs cs ≡ true → number_at xs cs < position_count xs
unfolding number_at position_count
number_below [] cs h = omega arith
number_below (x ∷ xs) [] h = absurd (none_inside x xs h)
number_below (x ∷ xs) (c ∷ cs) h =
    let first : c < x = first_inside x xs c cs h in
    let rest : number_at xs cs < position_count xs = number_below xs cs (rest_inside x xs c cs h) in
    grind (arith, mul-add-lt c (position_count xs) (number_at xs cs) x first rest)

-- whole turns of all the axes do not change the coordinates
pub coordinates_repeat : (xs : List ℕ) (k m : ℕ) → are_positive xs ≡ true → coordinates xs (m + k * position_count xs) ≡ coordinates xs m
unfolding coordinates position_count
coordinates_repeat [] k m h = refl
coordinates_repeat (x ∷ xs) k m h =
    let p : 0 < position_count xs = count_positive xs (rest_positive x xs h) in
    let e : k * (x * position_count xs) ≡ (k * x) * position_count xs = grind arith in
    let first : (m + k * (x * position_count xs)) / position_count xs % x ≡ m / position_count xs % x =
    ap (λ t. (m + t) / position_count xs % x) e ∙ ap (λ t. t % x) (add-mul-div_right m (k * x) p) ∙ add-mul-mod_self_right (m / position_count xs) k x in
    let rest : coordinates xs (m + k * (x * position_count xs)) ≡ coordinates xs m =
    ap (λ t. coordinates xs (m + t)) e ∙ coordinates_repeat xs (k * x) m (rest_positive x xs h) in
    cc

-- the coordinates of the number of some coordinates are these
pub coordinates_of_number : (xs cs : List ℕ) → are_positive xs ≡ true → are_inside xs cs ≡ true → coordinates xs (number_at xs cs) ≡ cs
unfolding coordinates number_at are_inside
coordinates_of_number [] [] h i = refl
coordinates_of_number [] (c ∷ cs) h i = absurd (too_many_inside c cs i)
coordinates_of_number (x ∷ xs) [] h i = absurd (none_inside x xs i)
coordinates_of_number (x ∷ xs) (c ∷ cs) h i =
    let below : number_at xs cs < position_count xs = number_below xs cs (rest_inside x xs c cs i) in
    let first : (c * position_count xs + number_at xs cs) / position_count xs % x ≡ c =
    ap (λ t. t % x) (div-mul-add c (position_count xs) (number_at xs cs) below) ∙ mod-eq_of_lt (first_inside x xs c cs i) in
    let turn : c * position_count xs + number_at xs cs ≡ number_at xs cs + c * position_count xs = omega arith in
    let rest : coordinates xs (c * position_count xs + number_at xs cs) ≡ cs =
    ap (coordinates xs) turn ∙ coordinates_repeat xs c (number_at xs cs) (rest_positive x xs h) ∙ coordinates_of_number xs cs (rest_positive x xs h) (rest_inside x xs c cs i) in
    cc

number_of_coordinates_modulo : (xs : List ℕ) (n : ℕ) → are_positive xs ≡ true → number_at xs (coordinates xs n) ≡ n % position_count xs
unfolding coordinates number_at position_count
number_of_coordinates_modulo [] n h = grind arith
number_of_coordinates_modulo (x ∷ xs) n h =
    ap (λ t. n / position_count xs % x * position_count xs + t) (number_of_coordinates_modulo xs n (rest_positive x xs h))
    ∙ sym (mod-mul n (first_positive x xs h) (count_positive xs (rest_positive x xs h)))

-- the number of the coordinates of a position is the position's
pub number_of_coordinates : (xs : List ℕ) (n : ℕ) → are_positive xs ≡ true → n < position_count xs → number_at xs (coordinates xs n) ≡ n
number_of_coordinates xs n h r = number_of_coordinates_modulo xs n h ∙ mod-eq_of_lt r

-- the extents of a set: their parts
pub geometry_parts : (xs : List ℕ) → is_geometry xs ≡ true → (1 ≤ length xs) × (length xs ≤ 4) × (are_positive xs ≡ true) × (position_count xs ≤ 2 ^ 20)
unfolding is_geometry rank_fits positions_fit
geometry_parts xs h = grind (arith, nat_tests)

-- the later axes have no more positions, and none of their extents is 0
pub later_positive : (k : ℕ) (xs : List ℕ) → are_positive xs ≡ true → are_positive (drop k xs) ≡ true
later_positive zero xs h = h
later_positive (suc k) [] h = h
later_positive (suc k) (x ∷ xs) h = later_positive k xs (rest_positive x xs h)

count_of_rest : (x : ℕ) (xs : List ℕ) → are_positive (x ∷ xs) ≡ true → position_count xs ≤ position_count (x ∷ xs)
unfolding position_count
count_of_rest x xs h = at_least x (position_count xs) (first_positive x xs h)
  where
    at_least : (a b : ℕ) → 0 < a → b ≤ a * b
    at_least zero b p = elim p [ ]
    at_least (suc a) b p = omega arith

pub later_count : (k : ℕ) (xs : List ℕ) → are_positive xs ≡ true → position_count (drop k xs) ≤ position_count xs
later_count zero xs h = omega arith
later_count (suc k) [] h = omega arith
later_count (suc k) (x ∷ xs) h =
    let rest : position_count (drop k xs) ≤ position_count xs = later_count k xs (rest_positive x xs h) in
    omega (arith, count_of_rest x xs h)

-- an extent is above 0
pub extent_positive : (xs : List ℕ) (axis : ℕ) → are_positive xs ≡ true → axis < length xs → 0 < slice_index xs axis
extent_positive [] axis h r = elim r [ ]
extent_positive (x ∷ xs) zero h r = first_positive x xs h
extent_positive (x ∷ xs) (suc axis) h r = extent_positive xs axis (rest_positive x xs h) (omega arith)

-- the positions of one axis and the later ones are among all
pub axis_count : (xs : List ℕ) (axis : ℕ) → are_positive xs ≡ true → axis < length xs → slice_index xs axis * position_count (drop (suc axis) xs) ≤ position_count xs
unfolding position_count
axis_count [] axis h r = elim r [ ]
axis_count (x ∷ xs) zero h r = omega arith
axis_count (x ∷ xs) (suc axis) h r =
    let rest : slice_index xs axis * position_count (drop (suc axis) xs) ≤ position_count xs = axis_count xs axis (rest_positive x xs h) (omega arith) in
    omega (arith, count_of_rest x xs h)

-- a coordinate by the distance of neighbours along its axis
pub coordinate_by_stride : (xs : List ℕ) (n axis : ℕ) → axis < length xs → coordinate xs n axis ≡ n / position_count (drop (suc axis) xs) % slice_index xs axis
unfolding coordinate coordinates
coordinate_by_stride [] n axis r = elim r [ ]
coordinate_by_stride (x ∷ xs) n zero r = refl
coordinate_by_stride (x ∷ xs) n (suc axis) r = coordinate_by_stride xs n axis (omega arith)

pub length-coordinates : (xs : List ℕ) (n : ℕ) → length (coordinates xs n) ≡ length xs
unfolding coordinates
length-coordinates [] n = refl
length-coordinates (x ∷ xs) n = ap suc (length-coordinates xs n)

inside_both : (x : ℕ) (xs : List ℕ) (c : ℕ) (cs : List ℕ) → c < x → are_inside xs cs ≡ true → are_inside (x ∷ xs) (c ∷ cs) ≡ true
unfolding are_inside
inside_both x xs c cs h i = grind (arith, nat_tests)

-- the coordinates of every number are inside
pub coordinates_inside : (xs : List ℕ) (n : ℕ) → are_positive xs ≡ true → are_inside xs (coordinates xs n) ≡ true
unfolding coordinates are_inside
coordinates_inside [] n h = refl
coordinates_inside (x ∷ xs) n h =
    inside_both x xs (n / position_count xs % x) (coordinates xs n) (mod_below (n / position_count xs) x (first_positive x xs h)) (coordinates_inside xs n (rest_positive x xs h))

-- one coordinate may be replaced by another below the extent
pub inside_after_set : (xs cs : List ℕ) (axis c : ℕ) → are_inside xs cs ≡ true → axis < length xs → c < slice_index xs axis → are_inside xs (slice_set cs axis c) ≡ true
inside_after_set [] cs axis c h r b = elim r [ ]
inside_after_set (x ∷ xs) [] axis c h r b = absurd (none_inside x xs h)
inside_after_set (x ∷ xs) (d ∷ cs) zero c h r b = inside_both x xs c cs b (rest_inside x xs d cs h)
inside_after_set (x ∷ xs) (d ∷ cs) (suc axis) c h r b =
    inside_both x xs d (slice_set cs axis c) (first_inside x xs d cs h) (inside_after_set xs cs axis c (rest_inside x xs d cs h) (omega arith) b)

-- a step along an axis moves the number by so many times the distance of neighbours
pub number_after_set : (xs cs : List ℕ) (axis c : ℕ) → axis < length xs → axis < length cs →
    number_at xs (slice_set cs axis c) + slice_index cs axis * position_count (drop (suc axis) xs) ≡ number_at xs cs + c * position_count (drop (suc axis) xs)
unfolding number_at
number_after_set [] cs axis c r s = elim r [ ]
number_after_set (x ∷ xs) [] axis c r s = elim s [ ]
number_after_set (x ∷ xs) (d ∷ cs) zero c r s = omega arith
number_after_set (x ∷ xs) (d ∷ cs) (suc axis) c r s = omega (arith, number_after_set xs cs axis c (omega arith) (omega arith))

-- what is known of a list of extents from its first and its later ones
pub record FirstOf (xs : List ℕ) (x : ℕ) (later : List ℕ) : Type 0 where
  pub first : 0 < x
  pub positive : are_positive later ≡ true
  pub count : position_count xs ≡ x * position_count later
  pub fewer : position_count later ≤ position_count xs

pub first_of : (xs : List ℕ) (x : ℕ) (later : List ℕ) → xs ≡ x ∷ later → are_positive xs ≡ true → FirstOf xs x later
unfolding position_count
first_of [] x later e h = absurd (omega (arith, ap length e))
first_of (y ∷ ys) x later e h =
    let same : y ∷ ys ≡ x ∷ later = e in
    let positive : are_positive (x ∷ later) ≡ true = ap are_positive (sym e) ∙ h in
    record {
      first = first_positive x later positive;
      positive = rest_positive x later positive;
      count = ap position_count e;
      fewer = omega (arith, count_of_rest x later positive, ap position_count e);
    }

refuted : (b : Bool) → (b ≡ true → ⊥) → b ≡ false
refuted true h = absurd (h refl)
refuted false h = refl

fit_parts : (xs : List ℕ) → positions_fit xs ≡ true → (are_positive xs ≡ true) × (position_count xs ≤ 2 ^ 20)
unfolding positions_fit
fit_parts xs h = grind (arith, nat_tests)

fit_of_parts : (xs : List ℕ) → are_positive xs ≡ true → position_count xs ≤ 2 ^ 20 → positions_fit xs ≡ true
unfolding positions_fit
fit_of_parts xs p b = grind (arith, nat_tests)

both_positive : (x : ℕ) (later : List ℕ) → 0 < x → are_positive later ≡ true → are_positive (x ∷ later) ≡ true
unfolding are_positive
both_positive x later p q = grind (arith, nat_tests)

-- no extent at all makes one position
pub fit_none : (xs : List ℕ) → length xs ≡ 0 → (positions_fit xs ≡ true) × (1 ≡ position_count xs)
unfolding positions_fit are_positive position_count
fit_none [] e = (refl, refl)
fit_none (x ∷ xs) e = absurd (omega arith)

-- extents fit if the later ones do and the product is neither 0 nor too large
pub unfit_later : (xs : List ℕ) (x : ℕ) (later : List ℕ) → xs ≡ x ∷ later → positions_fit later ≡ false → positions_fit xs ≡ false
unfit_later xs x later e h = refuted (positions_fit xs) (λ t.
    let parts : FirstOf xs x later = first_of xs x later e (fit_parts xs t).0 in
    false≢true (sym h ∙ fit_of_parts later parts.positive (omega (arith, parts.fewer, (fit_parts xs t).1))))

pub unfit_zero : (xs : List ℕ) (x : ℕ) (later : List ℕ) → xs ≡ x ∷ later → x * position_count later ≡ 0 → positions_fit xs ≡ false
unfit_zero xs x later e h = refuted (positions_fit xs) (λ t.
    let parts : FirstOf xs x later = first_of xs x later e (fit_parts xs t).0 in
    absurd (omega (arith, parts.count, count_positive xs (fit_parts xs t).0)))

pub unfit_above : (xs : List ℕ) (x : ℕ) (later : List ℕ) → xs ≡ x ∷ later → 2 ^ 20 < x * position_count later → positions_fit xs ≡ false
unfit_above xs x later e h = refuted (positions_fit xs) (λ t.
    let parts : FirstOf xs x later = first_of xs x later e (fit_parts xs t).0 in
    absurd (omega (arith, parts.count, (fit_parts xs t).1)))

pub count_of_first : (xs : List ℕ) (x : ℕ) (later : List ℕ) → xs ≡ x ∷ later → position_count xs ≡ x * position_count later
unfolding position_count
count_of_first xs x later e = ap position_count e

pub fit_first : (xs : List ℕ) (x : ℕ) (later : List ℕ) → xs ≡ x ∷ later → positions_fit later ≡ true → x * position_count later ≢ 0 → x * position_count later ≤ 2 ^ 20 → positions_fit xs ≡ true
fit_first xs zero later e h p b = absurd (p (omega arith))
fit_first xs (suc x) later e h p b =
    fit_of_parts xs (ap are_positive e ∙ both_positive (suc x) later (omega arith) (fit_parts later h).0) (omega (arith, count_of_first xs (suc x) later e))

-- the tests of the rank
pub geometry_by_positions : (xs : List ℕ) (b : Bool) → length xs ≢ 0 → length xs ≤ 4 → b ≡ positions_fit xs → b ≡ is_geometry xs
unfolding is_geometry rank_fits
geometry_by_positions xs b p q h = grind (arith, nat_tests)

pub no_axes : (xs : List ℕ) → length xs ≡ 0 → false ≡ is_geometry xs
unfolding is_geometry rank_fits
no_axes xs h = grind (arith, nat_tests)

pub too_many_axes : (xs : List ℕ) → 4 < length xs → false ≡ is_geometry xs
unfolding is_geometry rank_fits
too_many_axes xs h = grind (arith, nat_tests)

pub count_of_none : (xs : List ℕ) → length xs ≡ 0 → 1 ≡ position_count xs
count_of_none xs h = (fit_none xs h).1

pub extent_bound : (xs : List ℕ) (axis : ℕ) → are_positive xs ≡ true → axis < length xs → slice_index xs axis ≤ position_count xs
unfolding position_count
extent_bound [] axis h r = elim r [ ]
extent_bound (x ∷ xs) zero h r = at_least x (position_count xs) (count_positive xs (rest_positive x xs h))
  where
    at_least : (a b : ℕ) → 0 < b → a ≤ a * b
    at_least a zero p = elim p [ ]
    at_least a (suc b) p = omega arith
extent_bound (x ∷ xs) (suc axis) h r =
    let rest : slice_index xs axis ≤ position_count xs = extent_bound xs axis (rest_positive x xs h) (omega arith) in
    omega (arith, count_of_rest x xs h)

-- the first number of a block is that of a position
pub block_start_below : (xs : List ℕ) (b : ℕ) → b < block_count xs → b * 512 < position_count xs
unfolding block_count
block_start_below xs b h = omega arith

-- what lies past the first k of a list
pub tail_of : (k : ℕ) (xs : List ℕ) → take (length xs - k) (drop k xs) ≡ drop k xs
tail_of k xs = ap (λ n. take n (drop k xs)) (sym (length-drop k xs)) ∙ take-length (drop k xs)

-- coordinates and extents, one by one
pub none_needed : (xs cs : List ℕ) → length xs ≡ 0 → length cs ≡ 0 → (are_inside xs cs ≡ true) × (0 ≡ number_at xs cs)
unfolding are_inside number_at
none_needed [] [] e f = (refl, refl)
none_needed [] (d ∷ cs) e f = absurd (omega arith)
none_needed (x ∷ xs) cs e f = absurd (omega arith)

pub inside_first : (xs : List ℕ) (x : ℕ) (later : List ℕ) (cs : List ℕ) (d : ℕ) (others : List ℕ) → xs ≡ x ∷ later → cs ≡ d ∷ others → d < x → are_inside later others ≡ true → are_inside xs cs ≡ true
inside_first xs x later cs d others e f b h = ap (λ l. are_inside l cs) e ∙ ap (are_inside (x ∷ later)) f ∙ inside_both x later d others b h

pub number_first : (xs : List ℕ) (x : ℕ) (later : List ℕ) (cs : List ℕ) (d : ℕ) (others : List ℕ) → xs ≡ x ∷ later → cs ≡ d ∷ others → d * position_count later + number_at later others ≡ number_at xs cs
unfolding number_at
number_first xs x later cs d others e f = sym (ap (λ l. number_at l cs) e ∙ ap (number_at (x ∷ later)) f)

pub outside_later : (xs : List ℕ) (x : ℕ) (later : List ℕ) (cs : List ℕ) (d : ℕ) (others : List ℕ) → xs ≡ x ∷ later → cs ≡ d ∷ others → are_inside later others ≡ false → are_inside xs cs ≡ false
outside_later xs x later cs d others e f h = refuted (are_inside xs cs) (λ t.
    false≢true (sym h ∙ rest_inside x later d others (sym (ap (λ l. are_inside l cs) e ∙ ap (are_inside (x ∷ later)) f) ∙ t)))

pub outside_first : (xs : List ℕ) (x : ℕ) (later : List ℕ) (cs : List ℕ) (d : ℕ) (others : List ℕ) → xs ≡ x ∷ later → cs ≡ d ∷ others → x ≤ d → are_inside xs cs ≡ false
outside_first xs x later cs d others e f h = refuted (are_inside xs cs) (λ t.
    absurd (omega (arith, first_inside x later d others (sym (ap (λ l. are_inside l cs) e ∙ ap (are_inside (x ∷ later)) f) ∙ t))))

pub outside_many : (xs : List ℕ) (cs : List ℕ) (d : ℕ) (others : List ℕ) → length xs ≡ 0 → cs ≡ d ∷ others → are_inside xs cs ≡ false
unfolding are_inside
outside_many [] cs d others e f = ap (are_inside []) f
outside_many (x ∷ xs) cs d others e f = absurd (omega arith)

pub outside_few : (xs : List ℕ) (x : ℕ) (later : List ℕ) (cs : List ℕ) → xs ≡ x ∷ later → length cs ≡ 0 → are_inside xs cs ≡ false
unfolding are_inside
outside_few xs x later [] e f = ap (λ l. are_inside l []) e
outside_few xs x later (d ∷ cs) e f = absurd (omega arith)

-- a step along an axis, by the distance of neighbours
pub record Step (xs : List ℕ) (n axis own there apart : ℕ) : Type 0 where
  pub part : own * apart ≤ n
  pub room : there * apart ≤ position_count xs
  pub value : n - own * apart + there * apart ≡ number_at xs (slice_set (coordinates xs n) axis there)
  pub bound : number_at xs (slice_set (coordinates xs n) axis there) < position_count xs
  pub coords : coordinates xs (number_at xs (slice_set (coordinates xs n) axis there)) ≡ slice_set (coordinates xs n) axis there

own_part : (n s x : ℕ) → 0 < x → n / s % x * s ≤ n
own_part n s x p =
    let a : n / s % x ≤ n / s = mod-le (n / s) x in
    let b : n / s % x * s ≤ n / s * s = mul-le-mul_right s a in
    omega (arith, div-add-mod' n s)

pub step_of : (xs : List ℕ) (n axis own there apart : ℕ) → are_positive xs ≡ true → n < position_count xs → axis < length xs →
    own ≡ coordinate xs n axis → apart ≡ position_count (drop (suc axis) xs) → there < slice_index xs axis → Step xs n axis own there apart
unfolding coordinate
step_of xs n axis own there apart h r a o s t =
    let long : axis < length (coordinates xs n) = omega (arith, length-coordinates xs n) in
    let part : own * apart ≤ n =
    rw (o ∙ coordinate_by_stride xs n axis a, s) (own_part n (position_count (drop (suc axis) xs)) (slice_index xs axis) (extent_positive xs axis h a)) in
    let room : there * apart ≤ slice_index xs axis * apart = mul-le-mul_right apart (omega arith) in
    let whole : slice_index xs axis * apart ≡ slice_index xs axis * position_count (drop (suc axis) xs) = ap (λ z. slice_index xs axis * z) s in
    let after : number_at xs (slice_set (coordinates xs n) axis there) + own * apart ≡ n + there * apart =
    rw (o, s) (number_after_set xs (coordinates xs n) axis there a long ∙ ap (λ z. z + there * position_count (drop (suc axis) xs)) (number_of_coordinates xs n h r)) in
    let inside : are_inside xs (slice_set (coordinates xs n) axis there) ≡ true =
    inside_after_set xs (coordinates xs n) axis there (coordinates_inside xs n h) a t in
    record {
      part = part;
      room = omega (arith, axis_count xs axis h a);
      value = omega arith;
      bound = number_below xs (slice_set (coordinates xs n) axis there) inside;
      coords = coordinates_of_number xs (slice_set (coordinates xs n) axis there) h inside;
    }

-- an answer that is there exactly where a test is true
pub answered : (P : ℕ → Type 0) (o : Option ℕ) (b : Bool) → MatchOption o (b ≡ false) (λ n. (b ≡ true) × P n) → is_some o ≡ b
answered P None b h = sym h
answered P (Some n) b h = sym h.0

-- a number that is found is that of a position with these coordinates
pub found : (xs cs : List ℕ) (o : Option ℕ) → are_positive xs ≡ true → MatchOption o (are_inside xs cs ≡ false) (λ n. (are_inside xs cs ≡ true) × (n ≡ number_at xs cs)) →
    IfSome o (λ n. n < position_count xs) × IfSome o (λ n. coordinates xs n ≡ cs)
found xs cs None h m = (tt, tt)
found xs cs (Some n) h m = (omega (arith, m.1, number_below xs cs m.0), ap (coordinates xs) m.1 ∙ coordinates_of_number xs cs h m.0)
