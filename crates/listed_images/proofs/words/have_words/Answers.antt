use Rattle.std.proofs.Common.{All, List, subst}
use Rattle.paris_code.specs.declared.instr.Instr.{Instr}
use Rattle.paris_code.specs.declared.program.Entry.{Entry}
use Rattle.paris_code.specs.declared.program.Final.{Final}
use Rattle.paris_code.specs.declared.program.ShapeBits.{ShapeBits}
use Rattle.plain_listings.specs.Contents.{EntryHasWords, FinalHasWords, InstrHasWords, ShapeHasWords}
use Rattle.listed_images.proofs.words.have_words.Goals as goal

pub returns : goal.returns
returns c = record {
  numbered = (c.requires.shapes, c.requires.units, c.requires.code);
  shapes = subst (λ (xs : List ShapeBits). All ShapeHasWords xs) c.as_slice.ensures.value c.in_shapes.ensures;
  slots = c.in_head.ensures.0;
  depth = c.in_head.ensures.1;
  finals = subst (λ (xs : List Final). All FinalHasWords xs) c.as_slice-2.ensures.value c.in_finals.ensures;
  units = subst (λ (xs : List Entry). All EntryHasWords xs) c.as_slice-3.ensures.value c.in_units.ensures;
  code = subst (λ (xs : List Instr). All InstrHasWords xs) c.as_slice-4.ensures.value c.in_code.ensures;
}
