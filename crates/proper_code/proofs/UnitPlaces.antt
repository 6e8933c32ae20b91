-- Where the units of a linked program stand, and which unit has a place.
use Rattle.std.proofs.Common.{◌≡◌, ℕ, zero, suc, ◌+◌, ◌<◌, ◌≤◌, ◌⊎◌, inl, inr, Bool, List, [], ◌∷◌, ◌++◌, length, map, slice_get, Some, refl, sym, ap, ◌∙◌, subst, arith, if◌then◌else◌, length-append}
use Rattle.std.proofs.lemmas.Bool.{le-leb, lt-leb}
use Rattle.std.proofs.lemmas.List.{length-map}
use Rattle.std.proofs.lemmas.Option.{same_Some, slice_get-map, slice_get_within}
use Rattle.std.specs.Prelude.{option_map}
use Rattle.paris_code.specs.declared.instr.Instr.{Instr}
use Rattle.paris_code.specs.declared.program.Unit.{Unit as CodeUnit}
use Rattle.paris_code.specs.RuleTarget.{AreOrdered}
use Rattle.paris_code.specs.Units.{start_of, started}
use Rattle.cstar_link.specs.Linked.{code_from, entries_from, moved_by}
use Rattle.proper_code.proofs.Stretches.{at_behind, at_first, side}

-- how long a unit is, and where the unit of a number begins, the first of which begins at a place
abbrev pub long : CodeUnit → ℕ
long u = length u.code.items

pub begin_of : ℕ → List CodeUnit → ℕ → ℕ
begin_of start [] number = start
begin_of start (u ∷ us) zero = start
begin_of start (u ∷ us) (suc number) = begin_of (start + long u) us number

-- each of the units has an instruction
unfoldable pub AllLong : List CodeUnit → Type 0
AllLong [] = Unit {0}
AllLong (u ∷ us) = (0 < long u) × AllLong us

-- an instruction of a unit in the code of all, as it was before it was moved
pub record IsOf (start : ℕ) (us : List CodeUnit) (place : ℕ) (instr : Instr) : Type 0 where
  pub number : ℕ
  pub unit : CodeUnit
  pub at : ℕ
  pub own : Instr
  pub is_unit : slice_get us number ≡ Some unit
  pub stands : slice_get unit.code.items at ≡ Some own
  pub moved : instr ≡ moved_by (begin_of start us number) own
  pub is : place ≡ begin_of start us number + at

moved_back : (start : ℕ) (code : List Instr) (k : ℕ) (instr : Instr) → slice_get (map (moved_by start) code) k ≡ Some instr → (own : Instr) × (slice_get code k ≡ Some own) × (instr ≡ moved_by start own)
moved_back start [] k instr is = let no : ⊥ = cc in absurd no
moved_back start (own ∷ code) zero instr is = (own, refl, sym (same_Some _ _ is))
moved_back start (own ∷ code) (suc k) instr is = moved_back start code k instr is

pub located : (start : ℕ) (us : List CodeUnit) (k : ℕ) (instr : Instr) → slice_get (code_from start us) k ≡ Some instr → IsOf start us (start + k) instr
unfolding code_from begin_of
located start [] k instr is = let no : ⊥ = cc in absurd no
located start (u ∷ us) k instr is = by (λ j stands. located (start + long u) us j instr stands) (side (map (moved_by start) u.code.items) k)
  where
    same : length (map (moved_by start) u.code.items) ≡ long u
    same = length-map u.code.items (moved_by start)

    further : (j : ℕ) → k ≡ length (map (moved_by start) u.code.items) + j → IsOf (start + long u) us ((start + long u) + j) instr → IsOf start (u ∷ us) (start + k) instr
    further j e o = record {
      number = suc o.number;
      unit = o.unit;
      at = o.at;
      own = o.own;
      is_unit = o.is_unit;
      stands = o.stands;
      moved = o.moved;
      is = let h = o.is in omega (arith, same, e, h);
    }

    by : ((j : ℕ) → slice_get (code_from (start + long u) us) j ≡ Some instr → IsOf (start + long u) us ((start + long u) + j) instr) → (k < length (map (moved_by start) u.code.items)) ⊎ ((j : ℕ) × (k ≡ length (map (moved_by start) u.code.items) + j)) → IsOf start (u ∷ us) (start + k) instr
    by rest (inl below) =
        let own = moved_back start u.code.items k instr (sym (at_first (map (moved_by start) u.code.items) (code_from (start + long u) us) k below) ∙ is) in
        record { number = 0; unit = u; at = k; own = own.0; is_unit = refl; stands = own.1; moved = own.2; is = refl }
    by rest (inr past) =
        further past.0 past.1 (rest past.0
        (sym (at_behind (map (moved_by start) u.code.items) (code_from (start + long u) us) past.0) ∙ ap (λ (n : ℕ). slice_get (map (moved_by start) u.code.items ++ code_from (start + long u) us) n) (sym past.1) ∙ is))

-- an instruction of a unit, where it is in the code of all
pub placed : (start : ℕ) (us : List CodeUnit) (number : ℕ) (unit : CodeUnit) (at : ℕ) (own : Instr) → slice_get us number ≡ Some unit → slice_get unit.code.items at ≡ Some own →
    (k : ℕ) × (start + k ≡ begin_of start us number + at) × (slice_get (code_from start us) k ≡ Some (moved_by (begin_of start us number) own))
unfolding code_from begin_of
placed start [] number unit at own is stands = let no : ⊥ = cc in absurd no
placed start (u ∷ us) zero unit at own is stands =
    let same : u ≡ unit = same_Some _ _ is in
    let here : slice_get u.code.items at ≡ Some own = ap (λ (v : CodeUnit). slice_get v.code.items at) same ∙ stands in
    let all : slice_get (map (moved_by start) u.code.items) at ≡ Some (moved_by start own) = slice_get-map (moved_by start) u.code.items at ∙ ap (option_map (moved_by start)) here in
    (at, refl, at_first (map (moved_by start) u.code.items) (code_from (start + long u) us) at (slice_get_within _ at _ all) ∙ all)
placed start (u ∷ us) (suc number) unit at own is stands =
    let rest = placed (start + long u) us number unit at own is stands in
    let same = length-map u.code.items (moved_by start) in
    let e = rest.1 in
    (length (map (moved_by start) u.code.items) + rest.0, omega (arith, same, e), at_behind (map (moved_by start) u.code.items) (code_from (start + long u) us) rest.0 ∙ rest.2)

-- no unit begins at or before a place that lies before all
none_begun : (start : ℕ) (us : List CodeUnit) (place : ℕ) → place < start → started (map start_of (entries_from start us)) place ≡ 0
unfolding started entries_from
none_begun start [] place h = refl
none_begun start (u ∷ us) place h = ap (λ (b : Bool). if b then suc (started (map start_of (entries_from (start + long u) us)) place) else 0) (lt-leb start place h)

begins_behind : (start : ℕ) (us : List CodeUnit) (number : ℕ) → start ≤ begin_of start us number
unfolding begin_of
begins_behind start [] number = omega arith
begins_behind start (u ∷ us) zero = omega arith
begins_behind start (u ∷ us) (suc number) = let h = begins_behind (start + long u) us number in omega (arith, h)

-- as many have begun at a place of a unit as its number says
pub begun_at : (start : ℕ) (us : List CodeUnit) (number : ℕ) (unit : CodeUnit) (at : ℕ) → slice_get us number ≡ Some unit → at < long unit → started (map start_of (entries_from start us)) (begin_of start us number + at) ≡ suc number
unfolding started entries_from begin_of
begun_at start [] number unit at is h = let no : ⊥ = cc in absurd no
begun_at start (u ∷ us) zero unit at is h =
    let same : u ≡ unit = same_Some _ _ is in
    let within : at < long u = subst (λ (v : CodeUnit). at < long v) (sym same) h in
    ap (λ (b : Bool). if b then suc (started (map start_of (entries_from (start + long u) us)) (start + at)) else 0) (le-leb start (start + at) (omega arith))
    ∙ ap suc (none_begun (start + long u) us (start + at) (omega (arith, within)))
begun_at start (u ∷ us) (suc number) unit at is h =
    let low = begins_behind (start + long u) us number in
    ap (λ (b : Bool). if b then suc (started (map start_of (entries_from (start + long u) us)) (begin_of (start + long u) us number + at)) else 0) (le-leb start (begin_of (start + long u) us number + at) (omega (arith, low)))
    ∙ ap suc (begun_at (start + long u) us number unit at is h)

all_long : (start : ℕ) (u : CodeUnit) (us : List CodeUnit) → start + length (map (moved_by start) u.code.items ++ code_from (start + long u) us) ≡ (start + long u) + length (code_from (start + long u) us)
all_long start u us = let a = length-append (map (moved_by start) u.code.items) (code_from (start + long u) us) in let b = length-map u.code.items (moved_by start) in omega (arith, a, b)

-- the units begin in order, before the end of their code
pub in_order : (start : ℕ) (u : CodeUnit) (us : List CodeUnit) → AllLong (u ∷ us) → AreOrdered start (map start_of (entries_from (start + long u) us)) (start + length (code_from start (u ∷ us)))
unfolding AllLong entries_from code_from
in_order start u [] all = let some = all.0 in let e = all_long start u [] in omega (arith, some, e)
in_order start u (v ∷ vs) all =
    let some = all.0 in
    let e = all_long start u (v ∷ vs) in
    (omega (arith, some), subst (λ (end : ℕ). AreOrdered (start + long u) (map start_of (entries_from ((start + long u) + long v) vs)) end) (sym e) (in_order (start + long u) v vs all.1))
