-- A program is placed where its units are, at the places that their entries' owners have.
use Rattle.std.proofs.Common.{◌≡◌, ℕ, ◌+◌, ◌<◌, List, [], length, sym, ap, ◌∙◌, subst, arith}
use Rattle.std.specs.List.{AllZip, slice_index, slice_index_or}
use Rattle.paris_code.specs.declared.program.Final.{Final}
use Rattle.paris_code.specs.declared.program.Owner.{Owner}
use Rattle.paris_code.specs.declared.program.Owner.TheVariants as O
use Rattle.paris_code.specs.declared.program.Program.{Program}
use Rattle.paris_code.specs.declared.program.Unit.{Unit as CodeUnit}
use Rattle.paris_code.specs.declared.program.Virtual.{Virtual}
use Rattle.paris_code.specs.Proper.{IsUnit, IsEntry}
use Rattle.field_alloc.specs.Placed.{ArePlacedUnits, IsPlaced, IsPlacedFinal, begins}
use Rattle.field_alloc.specs.Named.{AreAllAbove, AreAllApart, AreApart, AreStackedUnits}
use Rattle.field_alloc.specs.Files.{AreFilesStacked, AreFilesUnder}
use Rattle.field_alloc.specs.Places.{begin_of, final_offset, units_from}
use Rattle.field_alloc.proofs.Rows.{entry_begins, unit_begins}

-- an entry begins where its owner says
begins_by_owner : (finals : List Final) (own : List (List ℕ)) (program : Program) (number entry : ℕ) (unit : CodeUnit) (virtual : Virtual) → IsUnit program number unit → IsEntry unit entry virtual → begins (units_from finals own 0 program.units.items) number entry ≡ begin_of finals own number entry virtual.owner
begins_by_owner finals own program number entry unit virtual is_unit is_entry =
    let n : 0 + number ≡ number = omega arith in
    let e : 0 + entry ≡ entry = omega arith in
    ap (λ (l : List ℕ). slice_index l entry) (unit_begins finals own 0 program.units.items number unit is_unit)
    ∙ entry_begins finals own (0 + number) 0 unit.fields.items entry virtual is_entry
    ∙ ap (λ k. begin_of finals own k (0 + entry) virtual.owner) n
    ∙ ap (λ k. begin_of finals own number k virtual.owner) e

pub is_placed : (before after : Program) (own places : List (List ℕ)) → places ≡ units_from after.finals.items own 0 before.units.items → ArePlacedUnits places 0 before.units.items after.units.items → AllZip IsPlacedFinal before.finals.items after.finals.items → AreAllApart before.units.items (length before.shapes.items) own → (ends : List ℕ) → length ends ≡ length before.shapes.items → AreAllAbove before.units.items ends own → AreFilesUnder after.finals.items ends → AreFilesStacked (length ends) after.finals.items → AreStackedUnits before.units.items (length ends) own → IsPlaced before after
is_placed before after own places are units finals_are own_apart ends sets own_above files_under files_stacked stacked =
    let finals = after.finals.items in
    let rows = units_from finals own 0 before.units.items in
    record {
      places = rows;
      units = subst (λ (l : List (List ℕ)). ArePlacedUnits l 0 before.units.items after.units.items) are units;
      borrowed = λ number entry other index unit owner virtual mine is_unit is_entry is_of is_owner is_mine is_own.
          begins_by_owner finals own before number entry unit virtual is_unit is_entry
          ∙ ap (λ (o : Owner). begin_of finals own number entry o) is_of
          ∙ sym (ap (λ (o : Owner). begin_of finals own other index o) is_own)
          ∙ sym (begins_by_owner finals own before other index owner mine is_owner is_mine);
      files = λ number entry file unit virtual last is_unit is_entry is_file is_last.
          begins_by_owner finals own before number entry unit virtual is_unit is_entry
          ∙ ap (λ (o : Owner). begin_of finals own number entry o) is_file
          ∙ ap final_offset is_last;
      finals = finals_are;
      apart = λ number one other set len over at unit is_unit differ in_sets is_one is_other in_code named named_too.
          let e = begins_by_owner finals own before number one unit (record { set = set; len = len; owner = O.Own }) is_unit is_one in
          let f = begins_by_owner finals own before number other unit (record { set = set; len = over; owner = O.Own }) is_unit is_other in
          subst (λ n. AreApart n len (begins rows number other) over) (sym e)
          (subst (λ n. AreApart (slice_index (slice_index_or own number []) one) len n over) (sym f)
          (own_apart number unit is_unit one other set len over at differ in_sets is_one is_other in_code named named_too));
      finals_apart = subst (λ n. AreFilesStacked n finals) sets files_stacked;
      files_apart = λ number entry file set len unit last is_unit is_entry in_sets is_last same.
          let own_entry : Virtual = record { set = set; len = len; owner = O.Own } in
          let e = begins_by_owner finals own before number entry unit own_entry is_unit is_entry in
          let in_ends : set < length ends = omega arith in
          let last_in : last.field.set < length ends = omega arith in
          let u = files_under file last is_last last_in in
          let h = own_above number unit is_unit entry own_entry is_entry in_ends in
          let q = ap (slice_index ends) same in
          omega arith;
      bases = stacked.bases;
      tops = stacked.tops;
      under = λ number entry set len at unit is_unit in_sets is_entry in_code named.
          let e = begins_by_owner finals own before number entry unit (record { set = set; len = len; owner = O.Own }) is_unit is_entry in
          let u = (stacked.based number unit is_unit).under entry set len at (omega arith) is_entry in_code named in
          omega arith;
      above = λ number entry set len unit is_unit in_sets is_entry.
          let e = begins_by_owner finals own before number entry unit (record { set = set; len = len; owner = O.Own }) is_unit is_entry in
          let u = (stacked.based number unit is_unit).above entry set len is_entry in
          omega arith;
      behind = λ caller called at set unit is_unit is_call in_sets.
          let b = stacked.behind caller unit is_unit at called is_call set (omega arith) in
          omega arith;
    }
