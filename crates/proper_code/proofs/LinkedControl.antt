-- An image of units that keep control keeps the image rules on targets and on ways back.
use Rattle.std.proofs.Common.{◌≡◌, ℕ, zero, suc, ◌+◌, ◌-◌, ◌<◌, ◌≤◌, ◌==◌, Bool, true, false, List, [], ◌∷◌, length, map, slice_get, Option, Some, None, refl, sym, ap, ◌∙◌, subst, arith}
use Rattle.std.specs.Prelude.{option_map}
use Rattle.std.proofs.lemmas.List.{length-map}
use Rattle.std.proofs.lemmas.Option.{same_Some, slice_get-map, slice_get_within}
use Rattle.paris_code.specs.declared.instr.Instr.{Instr}
use Rattle.paris_code.specs.declared.instr.Instr.TheVariants as I
use Rattle.paris_code.specs.declared.program.Entry.{Entry}
use Rattle.paris_code.specs.declared.program.Image.{Image}
use Rattle.paris_code.specs.declared.program.Program.{Program}
use Rattle.paris_code.specs.declared.program.Unit.{Unit as CodeUnit}
use Rattle.paris_code.specs.RuleBackEdge.{IsBehindTurn, IsNoTarget, KeepsBackEdge}
use Rattle.paris_code.specs.RuleTarget.{AreOrdered, AreStarts, GoesOn, HasUnits, KeepsTarget}
use Rattle.paris_code.specs.Rows.{target_of}
use Rattle.paris_code.specs.Units.{IsAt, IsInUnitOf, start_of, started, unit_of}
use Rattle.cstar_link.specs.Linked.{IsLinked, code_from, entries_from, moved_by}
use Rattle.cstar_link.proofs.Targets.{targets_move}
use Rattle.lower_base.specs.Drafts.{Step, Plain, step}
use Rattle.code_lengths.proofs.Declaring.{found}
use Rattle.proper_code.specs.Control.{KeepsControl, Stands, goes_on, target_in}
use Rattle.proper_code.specs.Links.{KeepsWays, LinksKeepWays, UnitsKeep}
use Rattle.proper_code.proofs.UnitPlaces.{AllLong, IsOf, begin_of, begun_at, in_order, located, long, placed}

-- where a jump leads is so of it as a step
steps_lead : (instr : Instr) → target_in (step instr) ≡ target_of instr
unfolding target_in step
steps_lead (I.FrontJump target) = refl
steps_lead (I.FrontJumpZero x target) = refl
steps_lead (I.FrontJumpNonzero x target) = refl
steps_lead _ = refl

step_stands : (code : List Instr) (k : ℕ) (instr : Instr) → slice_get code k ≡ Some instr → Stands (map step code) k (step instr)
step_stands code k instr is = slice_get-map step code k ∙ ap (option_map step) is

-- a turn among the steps is one among the instructions
is_turn : Step → Bool
is_turn (Plain I.FrontTurn) = true
is_turn _ = false

turn_of : (instr : Instr) → step instr ≡ Plain I.FrontTurn → instr ≡ I.FrontTurn
unfolding step is_turn
turn_of I.FrontTurn is = refl
turn_of _ is = let x = ap is_turn is in cc

some_instr : (code : List Instr) (k : ℕ) (s : Step) → Stands (map step code) k s → (instr : Instr) × (slice_get code k ≡ Some instr) × (step instr ≡ s)
some_instr [] k s is = let no : ⊥ = cc in absurd no
some_instr (instr ∷ code) zero s is = (instr, refl, same_Some _ _ is)
some_instr (instr ∷ code) (suc k) s is = some_instr code k s is

all_units_long : (units : ℕ) (is_main : ℕ → Bool) (us : List CodeUnit) → ((number : ℕ) (unit : CodeUnit) → slice_get us number ≡ Some unit → KeepsControl units (is_main number) (map step unit.code.items)) → AllLong us
unfolding AllLong
all_units_long units is_main [] keeps = tt
all_units_long units is_main (u ∷ us) keeps =
    let first = (keeps 0 u refl).begins in
    let same = length-map u.code.items step in
    (omega (arith, first, same), all_units_long units (λ number. is_main (suc number)) us (λ number unit is. keeps (suc number) unit is))

as_many_entries : (start : ℕ) (us : List CodeUnit) → length (entries_from start us) ≡ length us
unfolding entries_from
as_many_entries start [] = refl
as_many_entries start (u ∷ us) = ap suc (as_many_entries (start + long u) us)

nothing_before : (n : ℕ) → 0 + n ≡ n
nothing_before n = omega arith

starts_right : (us : List CodeUnit) → 0 < length us → AllLong us → AreStarts (map start_of (entries_from 0 us)) (length (code_from 0 us))
unfolding entries_from
starts_right [] some all = let no : ⊥ = omega (arith, some) in absurd no
starts_right (u ∷ us) some all = (refl, subst (λ (end : ℕ). AreOrdered 0 (map start_of (entries_from (0 + long u) us)) end) (nothing_before (length (code_from 0 (u ∷ us)))) (in_order 0 u us all))

not_first : (n : ℕ) → n ≡ 0 → (n == 0) ≡ false → ⊥
not_first n e h = let z : (0 == 0) ≡ false = subst (λ (k : ℕ). (k == 0) ≡ false) e h in cc

-- what moved to a place was before it
moved_from : (o : Option ℕ) (begin place : ℕ) → option_map (λ target. target + begin) o ≡ Some place → (target : ℕ) × (o ≡ Some target) × (target + begin ≡ place)
moved_from None begin place is = let no : ⊥ = cc in absurd no
moved_from (Some target) begin place is = (target, refl, same_Some _ _ is)

module _ (p : Program) (image : Image) (linked : IsLinked p image) (keep : UnitsKeep p) where
  -- the place of an instruction of a unit
  unit_at : (number : ℕ) (unit : CodeUnit) (at : ℕ) → slice_get p.units.items number ≡ Some unit → at < long unit → unit_of image (begin_of 0 p.units.items number + at) ≡ number
  unit_at number unit at is below =
      let e = ap (λ (entries : List Entry). started (map start_of entries) (begin_of 0 p.units.items number + at)) linked.units ∙ begun_at 0 p.units.items number unit at is below in
      ap (λ (n : ℕ). n - 1) e ∙ less number
    where
      less : (n : ℕ) → suc n - 1 ≡ n
      less n = omega arith

  there : (number : ℕ) (unit : CodeUnit) (at : ℕ) (own : Instr) → slice_get p.units.items number ≡ Some unit → slice_get unit.code.items at ≡ Some own → IsAt image (begin_of 0 p.units.items number + at) (moved_by (begin_of 0 p.units.items number) own)
  there number unit at own is stands =
      let x = placed 0 p.units.items number unit at own is stands in
      let e = x.1 in
      let same : begin_of 0 p.units.items number + at ≡ x.0 = omega (arith, e) in
      ap (λ (code : List Instr). slice_get code (begin_of 0 p.units.items number + at)) linked.code ∙ ap (λ (n : ℕ). slice_get (code_from 0 p.units.items) n) same ∙ x.2

  -- another place of the same unit
  same_unit : (number : ℕ) (unit : CodeUnit) (at other : ℕ) → slice_get p.units.items number ≡ Some unit → at < long unit → other < long unit → IsInUnitOf image (begin_of 0 p.units.items number + other) (begin_of 0 p.units.items number + at)
  same_unit number unit at other is a b =
      let own = found unit.code.items other b in
      (slice_get_within image.code.items _ _ (there number unit other own.0 is own.1), unit_at number unit other is b ∙ sym (unit_at number unit at is a))

  within : (unit : CodeUnit) (k : ℕ) → k < length (map step unit.code.items) → k < long unit
  within unit k h = let same = length-map unit.code.items step in omega (arith, h, same)

  -- where a jump of a unit leads
  jump_lands : (number : ℕ) (unit : CodeUnit) (at : ℕ) (own : Instr) (target : ℕ) → slice_get p.units.items number ≡ Some unit → slice_get unit.code.items at ≡ Some own → target_of own ≡ Some target →
      IsInUnitOf image (target + begin_of 0 p.units.items number) (begin_of 0 p.units.items number + at) × (target + begin_of 0 p.units.items number ≤ begin_of 0 p.units.items number + at → IsAt image (target + begin_of 0 p.units.items number) I.FrontTurn) × (target < long unit)
  jump_lands number unit at own target is stands leads =
      let control = keep.each number unit is in
      let j = control.jumps at target (step own) (step_stands unit.code.items at own stands) (steps_lead own ∙ leads) in
      let below : target < long unit = within unit target j.0 in
      let begin : ℕ = begin_of 0 p.units.items number in
      let place : begin + target ≡ target + begin = turned begin target in (
        subst (λ (k : ℕ). IsInUnitOf image k (begin + at)) place (same_unit number unit at target is (slice_get_within unit.code.items at own stands) below),
        (λ back. let t = some_instr unit.code.items target (Plain I.FrontTurn) (j.1 (omega (arith, back))) in
            subst (λ (k : ℕ). IsAt image k I.FrontTurn) place (subst (λ (instr : Instr). IsAt image (begin + target) (moved_by begin instr)) (turn_of t.0 t.2) (there number unit target t.0 is t.1))),
        below,
      )
    where
      turned : (a b : ℕ) → a + b ≡ b + a
      turned a b = omega arith

  goes : (number : ℕ) (unit : CodeUnit) (at : ℕ) (own : Instr) → slice_get p.units.items number ≡ Some unit → slice_get unit.code.items at ≡ Some own → goes_on (step own) ≡ true → GoesOn image (begin_of 0 p.units.items number + at)
  goes number unit at own is stands on =
      let control = keep.each number unit is in
      let more = within unit (at + 1) (control.ends at (step own) (step_stands unit.code.items at own stands) on) in
      subst (λ (k : ℕ). IsInUnitOf image k (begin_of 0 p.units.items number + at)) (one (begin_of 0 p.units.items number) at) (same_unit number unit at (at + 1) is (slice_get_within unit.code.items at own stands) more)
    where
      one : (a b : ℕ) → a + (b + 1) ≡ (a + b) + 1
      one a b = omega arith

  target_kept : (number : ℕ) (unit : CodeUnit) (at : ℕ) (own : Instr) → slice_get p.units.items number ≡ Some unit → slice_get unit.code.items at ≡ Some own → KeepsTarget image (begin_of 0 p.units.items number + at) (moved_by (begin_of 0 p.units.items number) own)
  unfolding goes_on step
  target_kept number unit at (I.FrontJump target) is stands = (jump_lands number unit at (I.FrontJump target) target is stands refl).0
  target_kept number unit at (I.FrontJumpZero x target) is stands = ((jump_lands number unit at (I.FrontJumpZero x target) target is stands refl).0, goes number unit at (I.FrontJumpZero x target) is stands refl)
  target_kept number unit at (I.FrontJumpNonzero x target) is stands = ((jump_lands number unit at (I.FrontJumpNonzero x target) target is stands refl).0, goes number unit at (I.FrontJumpNonzero x target) is stands refl)
  target_kept number unit at (I.FrontCall called) is stands =
      let c = (keep.each number unit is).calls at called (step_stands unit.code.items at (I.FrontCall called) stands) in
      let below = c.0 in
      let many = ap length linked.units ∙ as_many_entries 0 p.units.items in
      (omega (arith, below, many), goes number unit at (I.FrontCall called) is stands refl)
  target_kept number unit at I.FrontReturn is stands =
      λ first. not_first number (sym (unit_at number unit at is (slice_get_within unit.code.items at I.FrontReturn stands)) ∙ first) ((keep.each number unit is).returns at (step_stands unit.code.items at I.FrontReturn stands))
  target_kept number unit at I.FrontHalt is stands = tt
  target_kept number unit at own is stands = goes number unit at own is stands refl

  -- no jump of a unit leads to a call
  no_target : (number : ℕ) (unit : CodeUnit) (at called : ℕ) → slice_get p.units.items number ≡ Some unit → slice_get unit.code.items at ≡ Some (I.FrontCall called) → IsNoTarget image (begin_of 0 p.units.items number + at)
  unfolding step
  no_target number unit at called is stands from jump stands_there leads =
      let o = located 0 p.units.items from jump (ap (λ (code : List Instr). slice_get code from) (sym linked.code) ∙ stands_there) in
      let t = moved_from (target_of o.own) (begin_of 0 p.units.items o.number) (begin_of 0 p.units.items number + at) (sym (targets_move (begin_of 0 p.units.items o.number) o.own) ∙ ap target_of (sym o.moved) ∙ leads) in
      let lands = jump_lands o.number o.unit o.at o.own t.0 o.is_unit o.stands t.1 in
      let e = t.2 in
      let same : o.number ≡ number =
      sym (unit_at o.number o.unit t.0 o.is_unit lands.2) ∙ ap (λ (k : ℕ). unit_of image k) (omega (arith, e)) ∙ unit_at number unit at is (slice_get_within unit.code.items at _ stands) in
      let alike : o.unit ≡ unit = same_Some _ _ (sym o.is_unit ∙ ap (λ (k : ℕ). slice_get p.units.items k) same ∙ is) in
      let begins : begin_of 0 p.units.items o.number ≡ begin_of 0 p.units.items number = ap (λ (k : ℕ). begin_of 0 p.units.items k) same in
      let there' : slice_get unit.code.items o.at ≡ Some o.own = ap (λ (u : CodeUnit). slice_get u.code.items o.at) (sym alike) ∙ o.stands in
      let target : t.0 ≡ at = omega (arith, e, begins) in
      ((keep.each number unit is).calls at called (step_stands unit.code.items at (I.FrontCall called) stands)).2 o.at (step o.own) (step_stands unit.code.items o.at o.own there') (steps_lead o.own ∙ t.1 ∙ ap (λ (k : ℕ). Some k) target)

  behind_turn : (number : ℕ) (unit : CodeUnit) (at called : ℕ) → slice_get p.units.items number ≡ Some unit → slice_get unit.code.items at ≡ Some (I.FrontCall called) → IsBehindTurn image (begin_of 0 p.units.items number + at)
  unfolding step
  behind_turn number unit at called is stands =
      let begin : ℕ = begin_of 0 p.units.items number in
      let c = ((keep.each number unit is).calls at called (step_stands unit.code.items at (I.FrontCall called) stands)).1 in
      let t = some_instr unit.code.items c.0 (Plain I.FrontTurn) c.2 in
      let next = c.1 in (
        begin + c.0,
        omega (arith, next),
        subst (λ (instr : Instr). IsAt image (begin + c.0) (moved_by begin instr)) (turn_of t.0 t.2) (there number unit c.0 t.0 is t.1),
        unit_at number unit c.0 is (slice_get_within unit.code.items c.0 t.0 t.1) ∙ sym (unit_at number unit at is (slice_get_within unit.code.items at _ stands)),
      )

  back_edge_kept : (number : ℕ) (unit : CodeUnit) (at : ℕ) (own : Instr) → slice_get p.units.items number ≡ Some unit → slice_get unit.code.items at ≡ Some own → KeepsBackEdge image (begin_of 0 p.units.items number + at) (moved_by (begin_of 0 p.units.items number) own)
  back_edge_kept number unit at (I.FrontJump target) is stands = (jump_lands number unit at (I.FrontJump target) target is stands refl).1
  back_edge_kept number unit at (I.FrontJumpZero x target) is stands = (jump_lands number unit at (I.FrontJumpZero x target) target is stands refl).1
  back_edge_kept number unit at (I.FrontJumpNonzero x target) is stands = (jump_lands number unit at (I.FrontJumpNonzero x target) target is stands refl).1
  back_edge_kept number unit at (I.FrontCall called) is stands = (behind_turn number unit at called is stands, no_target number unit at called is stands)
  back_edge_kept number unit at own is stands = tt

  ways : KeepsWays image
  ways = record { units = units; target = target; back_edge = back_edge }
    where
      units : HasUnits image
      units =
          let long = all_units_long (length p.units.items) (λ number. number == 0) p.units.items keep.each in
          let right = starts_right p.units.items keep.some long in
          subst (λ (entries : List Entry). AreStarts (map start_of entries) (length image.code.items)) (sym linked.units)
          (subst (λ (code : List Instr). AreStarts (map start_of (entries_from 0 p.units.items)) (length code)) (sym linked.code) right)

      by : (place : ℕ) (instr : Instr) → IsAt image place instr → IsOf 0 p.units.items place instr
      by place instr is = subst (λ (k : ℕ). IsOf 0 p.units.items k instr) (nothing_before place) (located 0 p.units.items place instr (ap (λ (code : List Instr). slice_get code place) (sym linked.code) ∙ is))

      target : (place : ℕ) (instr : Instr) → IsAt image place instr → KeepsTarget image place instr
      target place instr is =
          let o = by place instr is in
          subst (λ (k : ℕ). KeepsTarget image k instr) (sym o.is) (subst (λ (i : Instr). KeepsTarget image (begin_of 0 p.units.items o.number + o.at) i) (sym o.moved) (target_kept o.number o.unit o.at o.own o.is_unit o.stands))

      back_edge : (place : ℕ) (instr : Instr) → IsAt image place instr → KeepsBackEdge image place instr
      back_edge place instr is =
          let o = by place instr is in
          subst (λ (k : ℕ). KeepsBackEdge image k instr) (sym o.is) (subst (λ (i : Instr). KeepsBackEdge image (begin_of 0 p.units.items o.number + o.at) i) (sym o.moved) (back_edge_kept o.number o.unit o.at o.own o.is_unit o.stands))

pub links_keep : LinksKeepWays
links_keep p image linked keep = ways p image linked keep
