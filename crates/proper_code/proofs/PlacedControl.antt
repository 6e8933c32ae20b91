-- Placing leaves where control goes as it is, so that compiled images keep the rules on it.
use Rattle.std.proofs.Common.{◌≡◌, ℕ, zero, suc, ◌+◌, ◌<◌, ◌==◌, Bool, true, false, List, [], ◌∷◌, length, map, slice_get, Some, refl, sym, ap, ◌∙◌, subst, arith}
use Rattle.std.specs.Prelude.{option_map}
use Rattle.std.specs.List.{AllZip, slice_index_or}
use Rattle.std.proofs.lemmas.List.{length-map}
use Rattle.std.proofs.lemmas.Option.{same_Some, slice_get-map, slice_get_within}
use Rattle.cstar_tree.specs.declared.typed.Typed.{Typed}
use Rattle.paris_code.specs.declared.instr.Instr.{Instr}
use Rattle.paris_code.specs.declared.instr.Instr.TheVariants as I
use Rattle.paris_code.specs.declared.program.Image.{Image}
use Rattle.paris_code.specs.declared.program.Unit.{Unit as CodeUnit}
use Rattle.paris_code.specs.Moving.{IsMoved, moved_instr}
use Rattle.cstar_compile.specs.Compiled.{IsCompiled}
use Rattle.field_alloc.specs.Placed.{ArePlacedUnits, IsPlacedUnit}
use Rattle.lower_base.specs.Constants.{first_free}
use Rattle.lower_base.specs.Drafts.{Draft, Step, Plain, draft, step}
use Rattle.lower_base.specs.Layouts.{layout_of}
use Rattle.lower_stmt.specs.Programs.{units_of}
use Rattle.code_lengths.specs.Ready.{IsCodable}
use Rattle.code_lengths.proofs.Declaring.{found}
use Rattle.code_lengths.proofs.UnitLengths.{programs}
use Rattle.proper_code.specs.Control.{KeepsControl, Stands, goes_on, target_in}
use Rattle.proper_code.specs.Links.{CompiledKeepWays, UnitsKeep}
use Rattle.proper_code.specs.Loops.{BreaksStandInLoops}
use Rattle.proper_code.proofs.LinkedControl.{links_keep}
use Rattle.proper_code.proofs.UnitControl.{units_keep}

-- ---- what of a step is about control: all others are as one

directs : Step → Bool
directs (Plain (I.FrontJump target)) = true
directs (Plain (I.FrontJumpZero x target)) = true
directs (Plain (I.FrontJumpNonzero x target)) = true
directs (Plain I.FrontTurn) = true
directs (Plain (I.FrontCall unit)) = true
directs (Plain I.FrontReturn) = true
directs (Plain I.FrontHalt) = true
directs _ = false

bare : Step → Step
bare (Plain (I.FrontJump target)) = Plain (I.FrontJump target)
bare (Plain (I.FrontJumpZero x target)) = Plain (I.FrontJumpZero x target)
bare (Plain (I.FrontJumpNonzero x target)) = Plain (I.FrontJumpNonzero x target)
bare (Plain I.FrontTurn) = Plain I.FrontTurn
bare (Plain (I.FrontCall unit)) = Plain (I.FrontCall unit)
bare (Plain I.FrontReturn) = Plain I.FrontReturn
bare (Plain I.FrontHalt) = Plain I.FrontHalt
bare _ = Plain (I.FrontGetByte 0)

bare_directs : (s : Step) → directs (bare s) ≡ directs s
unfolding directs bare
bare_directs (Plain (I.FrontJump target)) = refl
bare_directs (Plain (I.FrontJumpZero x target)) = refl
bare_directs (Plain (I.FrontJumpNonzero x target)) = refl
bare_directs (Plain I.FrontTurn) = refl
bare_directs (Plain (I.FrontCall unit)) = refl
bare_directs (Plain I.FrontReturn) = refl
bare_directs (Plain I.FrontHalt) = refl
bare_directs _ = refl

bare_is : (s : Step) → directs s ≡ true → bare s ≡ s
unfolding directs bare
bare_is (Plain (I.FrontJump target)) h = refl
bare_is (Plain (I.FrontJumpZero x target)) h = refl
bare_is (Plain (I.FrontJumpNonzero x target)) h = refl
bare_is (Plain I.FrontTurn) h = refl
bare_is (Plain (I.FrontCall unit)) h = refl
bare_is (Plain I.FrontReturn) h = refl
bare_is (Plain I.FrontHalt) h = refl
bare_is _ h = cc

bare_goes : (s : Step) → goes_on (bare s) ≡ goes_on s
unfolding bare goes_on
bare_goes (Plain (I.FrontJump target)) = refl
bare_goes (Plain (I.FrontJumpZero x target)) = refl
bare_goes (Plain (I.FrontJumpNonzero x target)) = refl
bare_goes (Plain I.FrontTurn) = refl
bare_goes (Plain (I.FrontCall unit)) = refl
bare_goes (Plain I.FrontReturn) = refl
bare_goes (Plain I.FrontHalt) = refl
bare_goes _ = refl

jumps_direct : (s : Step) (target : ℕ) → target_in s ≡ Some target → directs s ≡ true
unfolding directs target_in
jumps_direct (Plain (I.FrontJump _)) target h = refl
jumps_direct (Plain (I.FrontJumpZero _ _)) target h = refl
jumps_direct (Plain (I.FrontJumpNonzero _ _)) target h = refl
jumps_direct (Plain I.FrontTurn) target h = refl
jumps_direct (Plain (I.FrontCall _)) target h = refl
jumps_direct (Plain I.FrontReturn) target h = refl
jumps_direct (Plain I.FrontHalt) target h = refl
jumps_direct _ target h = cc

these_direct : (unit : ℕ) → (directs (Plain I.FrontTurn) ≡ true) × (directs (Plain (I.FrontCall unit)) ≡ true) × (directs (Plain I.FrontReturn) ≡ true) × (directs (Plain I.FrontHalt) ≡ true)
unfolding directs
these_direct unit = (refl, refl, refl, refl)

moved_bare : (p : List ℕ) (instr : Instr) → bare (step (moved_instr p instr)) ≡ bare (step instr)
unfolding bare step
moved_bare p (I.Move signed d a) = refl
moved_bare p _ = refl

placed_bare : (p : List ℕ) (instr over : Instr) → IsMoved p instr over → bare (step over) ≡ bare (step instr)
unfolding bare step
placed_bare p (I.MakeAddress d set coordinates) (I.MakeAddress e t over) h = refl
placed_bare p (I.MakeAddress d set coordinates) over h = absurd h
placed_bare p (I.CheckTarget set place coordinates) (I.CheckTarget t at over) h = refl
placed_bare p (I.CheckTarget set place coordinates) over h = absurd h
placed_bare p instr over h = ap (λ (i : Instr). bare (step i)) h ∙ moved_bare p instr

-- ---- code that is the same about control keeps it as the other does

bare_there : (xs ys : List Step) (k : ℕ) (s : Step) → map bare ys ≡ map bare xs → Stands ys k s → (x : Step) × Stands xs k x × (bare x ≡ bare s)
bare_there xs ys k s same is =
    find xs k (ap (λ (zs : List Step). slice_get zs k) (sym same) ∙ slice_get-map bare ys k ∙ ap (option_map bare) is)
  where
    find : (xs : List Step) (k : ℕ) → slice_get (map bare xs) k ≡ Some (bare s) → (x : Step) × Stands xs k x × (bare x ≡ bare s)
    find [] k e = let no : ⊥ = cc in absurd no
    find (x ∷ xs) zero e = (x, refl, same_Some _ _ e)
    find (x ∷ xs) (suc k) e = find xs k e

direct_there : (xs ys : List Step) (k : ℕ) (s : Step) → map bare ys ≡ map bare xs → directs s ≡ true → Stands ys k s → Stands xs k s
direct_there xs ys k s same direct is =
    let x = bare_there xs ys k s same is in
    let also : directs x.0 ≡ true = sym (bare_directs x.0) ∙ ap directs x.2 ∙ bare_directs s ∙ direct in
    x.1 ∙ ap (λ (y : Step). Some y) (sym (bare_is x.0 also) ∙ x.2 ∙ bare_is s direct)

keeps_alike : (units : ℕ) (is_main : Bool) (xs ys : List Step) → map bare ys ≡ map bare xs → KeepsControl units is_main xs → KeepsControl units is_main ys
keeps_alike units is_main xs ys same x =
    let direct = these_direct 0 in
    let many : length ys ≡ length xs = sym (length-map ys bare) ∙ ap length same ∙ length-map xs bare in
    let some = x.begins in
    record {
      begins = omega (arith, some, many);
      jumps = λ place target s is leads.
          let j = x.jumps place target s (direct_there xs ys place s same (jumps_direct s target leads) is) leads in
          let below = j.0 in
          (omega (arith, below, many), λ back. direct_there ys xs target (Plain I.FrontTurn) (sym same) direct.0 (j.1 back));
      calls = λ place called is.
          let c = x.calls place called (direct_there xs ys place _ same (these_direct called).1 is) in
          (c.0, (c.1.0, c.1.1, direct_there ys xs c.1.0 (Plain I.FrontTurn) (sym same) direct.0 c.1.2), λ from s at leads. c.2 from s (direct_there xs ys from s same (jumps_direct s place leads) at) leads);
      ends = λ place s is on.
          let other = bare_there xs ys place s same is in
          let below = x.ends place other.0 other.1 (sym (bare_goes other.0) ∙ ap goes_on other.2 ∙ bare_goes s ∙ on) in
          omega (arith, below, many);
      returns = λ place is. x.returns place (direct_there xs ys place _ same direct.2 is);
      halts = λ place is. x.halts place (direct_there xs ys place _ same direct.3 is);
    }

-- ---- placed units

code_bare : (p : List ℕ) (xs ys : List Instr) → AllZip (IsMoved p) xs ys → map bare (map step ys) ≡ map bare (map step xs)
code_bare p [] [] h = refl
code_bare p [] (y ∷ ys) h = absurd h
code_bare p (x ∷ xs) [] h = absurd h
code_bare p (x ∷ xs) (y ∷ ys) h =
    ap (λ (s : Step). s ∷ map bare (map step ys)) (placed_bare p x y h.0) ∙ ap (λ (rest : List Step). bare (step x) ∷ rest) (code_bare p xs ys h.1)

-- a unit that was placed
record IsPlacedFrom (us : List CodeUnit) (number : ℕ) (over : CodeUnit) : Type 0 where
  unit : CodeUnit
  found_unit : slice_get us number ≡ Some unit
  places : List ℕ
  is_placed : IsPlacedUnit places unit over

placed_from : (places : List (List ℕ)) (first : ℕ) (us os : List CodeUnit) (number : ℕ) (over : CodeUnit) → ArePlacedUnits places first us os → slice_get os number ≡ Some over → IsPlacedFrom us number over
unfolding ArePlacedUnits
placed_from places first [] [] number over h is = let no : ⊥ = cc in absurd no
placed_from places first [] (o ∷ os) number over h is = absurd h
placed_from places first (u ∷ us) [] number over h is = absurd h
placed_from places first (u ∷ us) (o ∷ os) zero over h is =
    record { unit = u; found_unit = refl; places = slice_index_or places first []; is_placed = subst (λ (v : CodeUnit). IsPlacedUnit (slice_index_or places first []) u v) (same_Some _ _ is) h.0 }
placed_from places first (u ∷ us) (o ∷ os) (suc number) over h is =
    let rest = placed_from places (first + 1) us os number over h.1 is in
    record { unit = rest.unit; found_unit = rest.found_unit; places = rest.places; is_placed = rest.is_placed }

as_many_placed : (places : List (List ℕ)) (first : ℕ) (us os : List CodeUnit) → ArePlacedUnits places first us os → length os ≡ length us
unfolding ArePlacedUnits
as_many_placed places first [] [] h = refl
as_many_placed places first [] (o ∷ os) h = absurd h
as_many_placed places first (u ∷ us) [] h = absurd h
as_many_placed places first (u ∷ us) (o ∷ os) h = ap suc (as_many_placed places (first + 1) us os h.1)

draft_code : (u : CodeUnit) → (draft u).code ≡ map step u.code.items
unfolding draft
draft_code u = refl

compiled_units : (t : Typed) (image : Image) (c : IsCompiled t image) → IsCodable t → BreaksStandInLoops t → 0 < length t.instances.items → UnitsKeep c.after
compiled_units t image c codable leaves some = record {
  some = omega (arith, some, all, here);
  each = each;
}
  where
    drafts : map draft c.before.units.items ≡ units_of t c.lowered.words t.instances.items 0 (first_free (layout_of t c.lowered.words 0))
    drafts = c.lowered.as_described.units

    here : length c.after.units.items ≡ length c.before.units.items
    here = as_many_placed c.placed.placed.places 0 c.before.units.items c.after.units.items c.placed.placed.units

    all : length c.before.units.items ≡ length t.instances.items
    all = sym (length-map c.before.units.items draft) ∙ ap length drafts ∙ (programs t c.lowered.words (first_free (layout_of t c.lowered.words 0)) codable).all

    each : (number : ℕ) (over : CodeUnit) → slice_get c.after.units.items number ≡ Some over → KeepsControl (length c.after.units.items) (number == 0) (map step over.code.items)
    each number over is =
        let from = placed_from c.placed.placed.places 0 c.before.units.items c.after.units.items number over c.placed.placed.units is in
        let below = slice_get_within c.before.units.items number from.unit from.found_unit in
        let instance = found t.instances.items number (omega (arith, below, all)) in
        let stands = ap (λ (units : List Draft). slice_get units number) (sym drafts) ∙ slice_get-map draft c.before.units.items number ∙ ap (option_map draft) from.found_unit in
        let keeps = units_keep t c.lowered.words (first_free (layout_of t c.lowered.words 0)) number instance.0 (draft from.unit) codable leaves instance.1 stands in
        keeps_alike (length c.after.units.items) (number == 0) (map step from.unit.code.items) (map step over.code.items) (code_bare from.places from.unit.code.items over.code.items from.is_placed.code)
        (subst (λ (many : ℕ). KeepsControl many (number == 0) (map step from.unit.code.items)) (sym (here ∙ all)) (subst (λ (code : List Step). KeepsControl (length t.instances.items) (number == 0) code) (draft_code from.unit) keeps))

pub compiled_keep : CompiledKeepWays
compiled_keep t image c codable leaves some = links_keep c.after image c.linked (compiled_units t image c codable leaves some)
