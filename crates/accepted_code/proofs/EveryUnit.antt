-- The units of an image are those of the program of its text, control stays within them, and scalar code means it.
use Rattle.std.proofs.Common.{◌≡◌, ℕ, suc, ◌+◌, ◌<◌, List, [], ◌∷◌, length, map, refl, sym, ap, ◌∙◌, subst, arith}
use Rattle.std.proofs.lemmas.List.{length-map}
use Rattle.lower_base.specs.Drafts.{draft}
use Rattle.cstar_tree.specs.declared.typed.Typed.{Typed}
use Rattle.paris_code.specs.declared.program.Image.{Image}
use Rattle.paris_code.specs.declared.program.Unit.{Unit}
use Rattle.plain_texts.proofs.PlainTrees.{tree_is_plain}
use Rattle.plain_texts.proofs.Words.{text_has_words}
use Rattle.cstar_link.specs.Linked.{entries_from}
use Rattle.field_alloc.specs.Placed.{ArePlacedUnits}
use Rattle.lower_base.specs.Layouts.{layout_of}
use Rattle.lower_base.specs.Constants.{first_free}
use Rattle.code_lengths.specs.Ready.{IsCodable}
use Rattle.code_lengths.proofs.UnitLengths.{programs}
use Rattle.cstar_top.specs.Accepted.{IsProgramOf}
use Rattle.shaped_trees.proofs.NamedFiles.{file_code}
use Rattle.shaped_trees.proofs.SpelledCasts.{spelled}
use Rattle.code_follows.proofs.Programs.{means_source}
use Rattle.scalar_texts.proofs.WholeFiles.{files_are_scalar}
use Rattle.proper_code.proofs.PlacedControl.{compiled_keep}
use Rattle.proper_code.proofs.TypedLoops.{files_stay}
use Rattle.accepted_code.specs.Laws.{AcceptedImagesKeepWays, AcceptedProgramsHaveCode, ImagesHaveEveryUnit, ScalarImagesMeanTheirText}

-- each function of the program of a text has code
pub codable : (text : List ℕ) (typed : Typed) → IsProgramOf text typed → IsCodable typed
codable text typed is = file_code is.tree typed (spelled is.tokens is.tree is.spelled) is.new.variables is.new.shapes is.types

pub accepted : AcceptedProgramsHaveCode
accepted text typed words regs is = programs typed words regs (codable text typed is)

-- as many stand in the list of entries, and over bits
entries_long : (start : ℕ) (units : List Unit) → length (entries_from start units) ≡ length units
unfolding entries_from
entries_long start [] = refl
entries_long start (u ∷ us) = ap suc (entries_long (start + length u.code.items) us)

placed_long : (places : List (List ℕ)) (number : ℕ) (units over : List Unit) → ArePlacedUnits places number units over → length over ≡ length units
unfolding ArePlacedUnits
placed_long places number [] [] h = refl
placed_long places number (u ∷ us) (o ∷ os) h = ap suc (placed_long places (number + 1) us os h.1)
placed_long places number [] (o ∷ os) h = absurd h
placed_long places number (u ∷ us) [] h = absurd h

pub every_unit : ImagesHaveEveryUnit
every_unit text typed image is compiled =
    let words = compiled.lowered.words in
    let own = accepted text typed words (first_free (layout_of typed words 0)) is in
    ap length compiled.linked.units ∙ entries_long 0 compiled.after.units.items
    ∙ placed_long compiled.placed.placed.places 0 compiled.before.units.items compiled.after.units.items compiled.placed.placed.units
    ∙ sym (length-map compiled.before.units.items draft) ∙ ap length compiled.lowered.as_described.units ∙ own.all

-- and goes where it may
pub keeps_ways : AcceptedImagesKeepWays
keeps_ways text typed image is compiled = compiled_keep typed image compiled (codable text typed is) (files_stay is.tree typed is.types) is.is_typed.main

pub scalar_means : ScalarImagesMeanTheirText
scalar_means text typed image short is none compiled =
    let named = spelled is.tokens is.tree is.spelled in
    let plain = tree_is_plain is.tokens is.tree (text_has_words text is.tokens.list.items short is.read) is.spelled in
    means_source typed image (files_are_scalar is.tree typed named plain is.types is.is_typed.main none) (codable text typed is) compiled
