-- Units that begin at or before a place, and instructions of units.
use Rattle.std.proofs.Common.{◌≡◌, ℕ, zero, suc, ◌+◌, ◌<◌, ◌≤◌, List, [], ◌∷◌, length, map, get_or, refl, sym, ap, ◌∙◌, inl, inr, arith, below_more}
use Rattle.std.specs.Prelude.{true, false, nat_le}
use Rattle.std.proofs.lemmas.Bool.{lt-leb, le-leb, cases_lt}
use Rattle.std.proofs.lemmas.Bool.Decides.{nat_tests}
use Rattle.std.specs.List.{slice_index}
use Rattle.paris_code.specs.Units.{start_of, starts_of, started, unit_of}
use Rattle.paris_code.specs.declared.program.Entry.{Entry}
use Rattle.paris_code.specs.declared.program.Image.{Image}
use Rattle.std.proofs.lemmas.List.{get_or-map, length-map}
use Rattle.image_check.specs.Tables.{AreBegun}

started-stop : (start : ℕ) (starts : List ℕ) (place : ℕ) → place < start → started (start ∷ starts) place ≡ 0
unfolding started
started-stop start starts place after =
    let test : nat_le start place ≡ false = lt-leb start place after in
    first_of (rw test, grind (arith, nat_tests))

started-more : (start : ℕ) (starts : List ℕ) (place : ℕ) → start ≤ place → started (start ∷ starts) place ≡ suc (started starts place)
unfolding started
started-more start starts place before =
    let test : nat_le start place ≡ true = le-leb start place before in
    first_of (rw test, grind (arith, nat_tests))

started-none : (place : ℕ) → started [] place ≡ 0
unfolding started
started-none place = refl

-- where so many units begin at or before the place, and the next one behind it, this is their number
pub started-is : (starts : List ℕ) (place count : ℕ) → AreBegun starts count place →
    (count < length starts → place < slice_index starts count) → started starts place ≡ count
started-is [] place zero begun after = started-none place
started-is [] place (suc count) begun after = absurd (omega (arith, begun.0))
started-is (start ∷ starts) place zero begun after =
    started-stop start starts place (after (omega arith))
started-is (start ∷ starts) place (suc count) begun after =
    started-more start starts place (begun.1 0 (omega arith))
    ∙ ap (λ (n : ℕ). suc n) (started-is starts place count
    (omega (arith, begun.0), (λ unit below. begun.1 (suc unit) (omega (arith, below))))
    (λ inside. after (omega (arith, inside))))

-- where the unit of a number begins
read_start : (units : List Entry) (unit : ℕ) (entry : Entry) → unit < length units →
    slice_index (map start_of units) unit ≡ start_of (get_or units unit entry)
read_start units unit entry inside = get_or-map start_of units unit entry 0 inside

-- a unit that begins behind the place stops the count
pub counted : (units : List Entry) (place count : ℕ) (entry : Entry) → count < length units →
    place < start_of (get_or units count entry) → AreBegun (map start_of units) count place →
    count ≡ started (map start_of units) place
counted units place count entry inside behind begun =
    let start : slice_index (map start_of units) count ≡ start_of (get_or units count entry) = read_start units count entry inside in
    sym (started-is (map start_of units) place count begun (λ there. omega (arith, start, behind)))

-- the end of the units stops it
pub all_counted : (units : List Entry) (place count : ℕ) → length units ≤ count →
    AreBegun (map start_of units) count place → count ≡ started (map start_of units) place
all_counted units place count past begun =
    let same : length (map start_of units) ≡ length units = length-map units start_of in
    sym (started-is (map start_of units) place count begun (λ there. absurd (omega (arith, same, there, past))))

-- one more unit begins at or before the place
pub begun_more : (units : List Entry) (place count : ℕ) (entry : Entry) → count < length units →
    start_of (get_or units count entry) ≤ place → AreBegun (map start_of units) count place →
    AreBegun (map start_of units) (count + 1) place
begun_more units place count entry inside before begun =
    let same : length (map start_of units) ≡ length units = length-map units start_of in
    let start : slice_index (map start_of units) count ≡ start_of (get_or units count entry) = read_start units count entry inside in
    let P : ℕ → Type 0 = λ unit. slice_index (map start_of units) unit ≤ place in
    (omega (arith, same, inside), below_more P count begun.1 (omega (arith, start, before)))

started-le : (starts : List ℕ) (place : ℕ) → started starts place ≤ length starts
started-le [] place = omega (arith, started-none place)
started-le (start ∷ starts) place =
    elim (cases_lt place start) [
      | inl h ↦ omega (arith, started-stop start starts place h)
      | inr h ↦ omega (arith, started-more start starts place h, started-le starts place)
    ]

-- an instruction stands in a unit of the image
pub unit_inside : (image : Image) (place : ℕ) → 0 < length image.units.items → unit_of image place < length image.units.items
unit_inside image place some = omega (arith, some, started-le (starts_of image) place, length-map image.units.items start_of)
