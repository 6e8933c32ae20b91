-- What bytes begin with is told by their front: the parts of a point, one behind the other.
use Rattle.std.proofs.Common.{◌≡◌, ◌++◌, ◌+◌, ◌*◌, ◌^◌, ◌<◌, ◌≤◌, ℕ, List, [], ◌∷◌, length, take, drop, get_or, zero, suc, lit<, refl, sym, ◌∙◌, ap, append_assoc, arith}
use Rattle.std.proofs.lemmas.List.{flat_map_more, length-append, length-take, take-append-drop}
use Rattle.std.specs.List.{flat_map}
use Rattle.checkpoint.specs.Bytes.{AreWords, counted, eight_bytes, four_bytes, measured}
use Rattle.checkpoint.proofs.Numbers.{eight_length, eight_same, four_length, four_same}

-- two lists that are cut at the same length
pub record SameSplit (u v a b : List ℕ) : Type 0 where
  pub fronts : u ≡ v
  pub rests : a ≡ b

pub same_split : (u v a b : List ℕ) → length u ≡ length v → u ++ a ≡ v ++ b → SameSplit u v a b
same_split [] [] a b l e = record { fronts = refl; rests = e }
same_split [] (y ∷ v) a b l e = absurd (omega arith)
same_split (x ∷ u) [] a b l e = absurd (omega arith)
same_split (x ∷ u) (y ∷ v) a b l e =
    let tails : u ++ a ≡ v ++ b = cc in
    let heads : x ≡ y = cc in
    let rest : SameSplit u v a b = same_split u v a b (omega arith) tails in
    let us : u ≡ v = rest.fronts in
    record { fronts = cc; rests = rest.rests }

-- a list that is too short to begin with so many
pub too_short : (s front rest : List ℕ) (k : ℕ) → length front ≡ k → length s < k → s ≡ front ++ rest → ⊥
too_short s front rest k l short e = omega (arith, ap length e, length-append front rest)

pub numbers_length : (xs : List ℕ) → length (flat_map four_bytes xs) ≡ 4 * length xs
numbers_length [] = refl
numbers_length (x ∷ xs) =
    length-append (four_bytes x) (flat_map four_bytes xs) ∙ omega (arith, four_length x, numbers_length xs)

pub counted_length : (xs : List ℕ) → length (counted xs) ≡ 4 + 4 * length xs
unfolding counted
counted_length xs =
    length-append (four_bytes (length xs)) (flat_map four_bytes xs) ∙ omega (arith, four_length (length xs), numbers_length xs)

pub measured_length : (xs : List ℕ) → length (measured xs) ≡ 8 + length xs
unfolding measured
measured_length xs = length-append (eight_bytes (length xs)) xs ∙ omega (arith, eight_length (length xs))

-- what a count tells of a list that stands behind it
pub record CountTells (count : ℕ) (xs rest behind : List ℕ) : Type 0 where
  pub count_is : count ≡ length xs
  pub behind_is : behind ≡ flat_map four_bytes xs ++ rest

pub count_tells : (count : ℕ) (s behind xs rest : List ℕ) → count < 2 ^ 32 → length xs < 2 ^ 32 → s ≡ four_bytes count ++ behind
    → s ≡ counted xs ++ rest → CountTells count xs rest behind
unfolding counted
count_tells count s behind xs rest small few e f =
    let split : SameSplit (four_bytes count) (four_bytes (length xs)) behind (flat_map four_bytes xs ++ rest) =
    same_split _ _ _ _ (four_length count ∙ sym (four_length (length xs))) (sym e ∙ f ∙ append_assoc (four_bytes (length xs)) (flat_map four_bytes xs) rest) in
    record { count_is = four_same _ _ small few split.fronts; behind_is = split.rests }

pub record LengthTells (count : ℕ) (xs rest behind : List ℕ) : Type 0 where
  pub count_is : count ≡ length xs
  pub behind_is : behind ≡ xs ++ rest

pub length_tells : (count : ℕ) (s behind xs rest : List ℕ) → count < 2 ^ 64 → length xs < 2 ^ 64 → s ≡ eight_bytes count ++ behind
    → s ≡ measured xs ++ rest → LengthTells count xs rest behind
unfolding measured
length_tells count s behind xs rest small few e f =
    let split : SameSplit (eight_bytes count) (eight_bytes (length xs)) behind (xs ++ rest) =
    same_split _ _ _ _ (eight_length count ∙ sym (eight_length (length xs))) (sym e ∙ f ∙ append_assoc (eight_bytes (length xs)) xs rest) in
    record { count_is = eight_same _ _ small few split.fronts; behind_is = split.rests }

-- a list without its count
pub no_count : (s xs rest : List ℕ) → length s < 4 → s ≡ counted xs ++ rest → ⊥
no_count s xs rest short e = omega (arith, ap length e, length-append (counted xs) rest, counted_length xs)

-- a list whose numbers end too early
pub numbers_short : (count i : ℕ) (s behind list left xs rest : List ℕ) → count < 2 ^ 32 → length xs < 2 ^ 32
    → s ≡ four_bytes count ++ behind → behind ≡ flat_map four_bytes list ++ left → length list ≡ i → i < count → length left < 4
    → s ≡ counted xs ++ rest → ⊥
numbers_short count i s behind list left xs rest small few e f l more short g =
    let tells : CountTells count xs rest behind = count_tells count s behind xs rest small few e g in
    omega (
      arith,
      ap length f,
      ap length tells.behind_is,
      tells.count_is,
      length-append (flat_map four_bytes list) left,
      length-append (flat_map four_bytes xs) rest,
      numbers_length list,
      numbers_length xs,
    )

pub numbers_read : (count : ℕ) (s behind list left : List ℕ) → s ≡ four_bytes count ++ behind
    → behind ≡ flat_map four_bytes list ++ left → length list ≡ count → s ≡ counted list ++ left
unfolding counted
numbers_read count s behind list left e f l =
    e ∙ (ap (λ (t : List ℕ). four_bytes count ++ t) f ∙ (ap (λ (n : ℕ). four_bytes n ++ (flat_map four_bytes list ++ left)) (sym l)
    ∙ sym (append_assoc (four_bytes (length list)) (flat_map four_bytes list) left)))

-- bytes without their length
pub no_length : (s xs rest : List ℕ) → length s < 8 → s ≡ measured xs ++ rest → ⊥
no_length s xs rest short e = omega (arith, ap length e, length-append (measured xs) rest, measured_length xs)

-- bytes that end too early
pub word_short : (count : ℕ) (s behind xs rest : List ℕ) → count < 2 ^ 64 → length xs < 2 ^ 64 → s ≡ eight_bytes count ++ behind
    → length behind < count → s ≡ measured xs ++ rest → ⊥
word_short count s behind xs rest small few e short f =
    let tells : LengthTells count xs rest behind = length_tells count s behind xs rest small few e f in
    omega (arith, ap length tells.behind_is, tells.count_is, length-append xs rest)

pub word_read : (count : ℕ) (s behind xs left : List ℕ) → s ≡ eight_bytes count ++ behind → behind ≡ xs ++ left → length xs ≡ count
    → s ≡ measured xs ++ left
unfolding measured
word_read count s behind xs left e f l =
    e ∙ (ap (λ (t : List ℕ). eight_bytes count ++ t) f ∙ (ap (λ (n : ℕ). eight_bytes n ++ (xs ++ left)) (sym l)
    ∙ sym (append_assoc (eight_bytes (length xs)) xs left)))

-- what stands behind a part is told by the part's length
pub behind_four : (m n : ℕ) (s left x rest : List ℕ) → s ≡ four_bytes m ++ left → s ≡ four_bytes n ++ (x ++ rest) → left ≡ x ++ rest
behind_four m n s left x rest e f =
    let split : SameSplit (four_bytes m) (four_bytes n) left (x ++ rest) = same_split _ _ _ _ (four_length m ∙ sym (four_length n)) (sym e ∙ f) in
    split.rests

pub behind_counted : (xs ys s left x rest : List ℕ) → length xs < 2 ^ 32 → length ys < 2 ^ 32 → s ≡ counted xs ++ left
    → s ≡ counted ys ++ (x ++ rest) → left ≡ x ++ rest
unfolding counted
behind_counted xs ys s left x rest small few e f =
    let tells : CountTells (length xs) ys (x ++ rest) (flat_map four_bytes xs ++ left) =
    count_tells (length xs) s _ ys (x ++ rest) small few (e ∙ append_assoc (four_bytes (length xs)) (flat_map four_bytes xs) left) f in
    let same : length (flat_map four_bytes xs) ≡ length (flat_map four_bytes ys) =
    omega (arith, numbers_length xs, numbers_length ys, tells.count_is) in
    let split : SameSplit (flat_map four_bytes xs) (flat_map four_bytes ys) left (x ++ rest) = same_split _ _ _ _ same tells.behind_is in
    split.rests

pub behind_measured : (xs ys s left x rest : List ℕ) → length xs < 2 ^ 64 → length ys < 2 ^ 64 → s ≡ measured xs ++ left
    → s ≡ measured ys ++ (x ++ rest) → left ≡ x ++ rest
unfolding measured
behind_measured xs ys s left x rest small few e f =
    let tells : LengthTells (length xs) ys (x ++ rest) (xs ++ left) =
    length_tells (length xs) s _ ys (x ++ rest) small few (e ∙ append_assoc (eight_bytes (length xs)) xs left) f in
    let split : SameSplit xs ys left (x ++ rest) = same_split _ _ _ _ tells.count_is tells.behind_is in
    split.rests

pub one_more_number : (behind list new left after : List ℕ) (n : ℕ) → new ≡ list ++ n ∷ [] → behind ≡ flat_map four_bytes list ++ left
    → left ≡ four_bytes n ++ after → behind ≡ flat_map four_bytes new ++ after
one_more_number behind list new left after n g e f =
    e ∙ (ap (λ (t : List ℕ). flat_map four_bytes list ++ t) f
    ∙ (sym (append_assoc (flat_map four_bytes list) (four_bytes n) after)
    ∙ (ap (λ (t : List ℕ). t ++ after) (flat_map_more four_bytes [] list n)
    ∙ ap (λ (t : List ℕ). flat_map four_bytes t ++ after) (sym g))))

pub one_more_counted : (list new : List ℕ) (n counter : ℕ) → new ≡ list ++ n ∷ [] → length list ≡ counter → length new ≡ counter + 1
one_more_counted list new n counter g l = omega (arith, ap length g, length-append list (n ∷ []))

appended_word : (list : List ℕ) (n : ℕ) → AreWords list → n < 2 ^ 32 → (k : ℕ) → get_or (list ++ n ∷ []) k 0 < 2 ^ 32
appended_word [] n words small zero = small
appended_word [] n words small (suc k) = lit< tt
appended_word (x ∷ list) n words small zero = words 0
appended_word (x ∷ list) n words small (suc k) = appended_word list n (λ i. words (suc i)) small k

pub one_more_word : (list new : List ℕ) (n : ℕ) → new ≡ list ++ n ∷ [] → AreWords list → n < 2 ^ 32 → AreWords new
one_more_word list new n g words small k = rw g (appended_word list n words small k)

pub word_cut : (count : ℕ) (s front back : List ℕ) → front ≡ take count s → back ≡ drop count s → s ≡ front ++ back
word_cut count s front back f g = rw (f, g) (sym (take-append-drop count s))

pub word_length : (count : ℕ) (s front : List ℕ) → front ≡ take count s → count ≤ length s → length front ≡ count
word_length count s front f within = ap length f ∙ (length-take count s ∙ omega arith)
