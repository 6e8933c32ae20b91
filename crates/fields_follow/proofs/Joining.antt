-- Where the fields of a unit of a translated program stand, in the words in which the code of its expressions asks it.
use Rattle.std.proofs.Common.{◌≡◌, ◌∙◌, ℕ, ◌+◌, Option, Some, refl, sym, ap, subst, arith}
use Rattle.std.specs.Option.{option_map}
use Rattle.std.proofs.lemmas.Option.{slice_get-map}
use Rattle.cstar_base.specs.declared.operators.Direction.{Direction}
use Rattle.cstar_base.specs.declared.operators.Inclusion.{Inclusion}
use Rattle.cstar_base.specs.declared.operators.SegmentMode.{SegmentMode}
use Rattle.lower_base.specs.Drafts.{Plain, step as step_of}
use Rattle.paris_code.specs.declared.instr.Instr.{Instr}
use Rattle.paris_code.specs.declared.instr.Instr.TheVariants as I
use Rattle.paris_code.specs.declared.operands.Field.{Field}
use Rattle.paris_code.specs.declared.operands.Reduction.{Reduction}
use Rattle.paris_code.specs.declared.program.Owner.TheVariants as W
use Rattle.paris_code.specs.Proper.{IsEntry}
use Rattle.paris_code.specs.Spans.{StandsAt}
use Rattle.code_follows.proofs.Settings.{Setting, start}
use Rattle.fields_follow.specs.Fields.{file_number}
use Rattle.fields_follow.proofs.FileFields as Files
use Rattle.fields_follow.proofs.FileFields.{IsTranslated, apart_back, extents_are, few_coordinates, file_ends, file_exists, grid_fits, grid_geometry}
use Rattle.fields_follow.proofs.Listed.{address_fits}
use Rattle.fields_follow.proofs.Placing as Placing
use Rattle.fields_follow.proofs.Placing.{IsThere, at_bits, file_and_below, file_moved, own_and_below, own_and_file, apart_at, own_below_called, written_apart}
use Rattle.fields_follow.proofs.Places.{IsOwnField, PlacesFields}

module _ (g : Setting) (made : IsTranslated g.typed g.words g.before g.after g.image) where
  stands_there : (at : ℕ) (i : Instr) → StandsAt g.unit at i → step_of i ≡ Plain i → IsThere g made i at
  stands_there at i stands plain = slice_get-map step_of g.unit.code.items at ∙ ap (option_map step_of) stands ∙ ap Some plain

  scan_plain : {combiner : Reduction} {d a : Field} {axis : ℕ} {direction : Direction} {mode : SegmentMode} {bit : Option Field} {within : Inclusion} → step_of (I.Scan combiner d a axis direction mode bit within) ≡ Plain (I.Scan combiner d a axis direction mode bit within)
  unfolding step_of
  scan_plain = refl

  own_field : (f : Field) → IsOwnField g f → Placing.IsOwnField g made f
  own_field f own = record { whole = f.len; own = own; fits = omega arith }

  pub places_fields : PlacesFields g
  places_fields = record {
    ends = λ at i f others stands plain simple names. Placing.ends g made i at f others (stands_there at i stands plain) simple names;
    scans = λ at combiner d a axis direction mode bit within stands. Placing.scans g made combiner d a axis direction mode bit within at (stands_there at (I.Scan combiner d a axis direction mode bit within) stands scan_plain);
    exists = λ k element set info is. file_exists g.typed g.words g.before g.after g.image made k info set element is;
    files_end = λ k element set info is. file_ends g.typed g.words g.before g.after g.image made k info set element is;
    file = λ k element info f is word own.
        file_moved g made f k info element (record { element = is; entry = subst (λ (len : ℕ). IsEntry g.unit f.offset (record { set = f.set; len = len; owner = W.File (file_number g.typed k element) })) (sym word) own; is = sym word });
    files_apart = λ k element set j other t info of one two differ. Files.files_apart g.typed g.words g.before g.after g.image made k info set element j of t other one two differ;
    own_file = λ k element set info f is own. own_and_file g made f k info set element (own_field f own) is;
    owns_apart = λ f h first at last later differ own other exists named again low high here behind more.
        apart_back (at_bits g made h) (at_bits g made f) (written_apart g made at first last later f h (own_field f own) (own_field h other) differ exists named again low high here behind more);
    owns_apart_at = λ f h first at differ own other exists begins early late here. apart_at g made at first f h (own_field f own) (own_field h other) differ exists begins early late here;
    own_and_below = λ f below own there. own_and_below g made f below (own_field f own) there;
    file_and_below = λ k element set info below is there. file_and_below g made k info set element below is there;
    own_below_called = λ f first at index own exists ends before early late stands. own_below_called g made f first at index (own_field f own) exists ends before early late stands;
    few = few_coordinates g.typed g.words g.before g.after g.image made;
    address_ends = λ at d set over there. address_fits g.image (start g + at) (at_bits g made d) set over (made.sound.each (start g + at) (I.MakeAddress (at_bits g made d) set over) there);
    geometry = λ set exists. grid_geometry g.typed g.words g.before g.after g.image made set exists;
    grids = λ set exists. (sym (extents_are g.typed g.words g.before g.after g.image made set exists), grid_fits g.typed g.words g.before g.after g.image made set exists);
  }
