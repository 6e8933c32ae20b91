use Rattle.std.proofs.Common.{◌≡◌, ◌%◌, sym, ◌∙◌, subst, arith}
use Rattle.std.specs.Prelude.{slice_index}
use Rattle.paris_code.specs.declared.operands.Coordinate.{Coordinate}
use Rattle.paris_code.specs.Arguments.{coordinate_number}
use Rattle.elementwise.specs.Blocks.{block_memory}
use Rattle.elementwise.proofs.Kernels.{field_number_is}
use Rattle.elementwise.proofs.columns.coordinate_words.Goals as goal

pub returns-in-Field : goal.returns-in-Field
returns-in-Field c = λ p.
    let planes = c.args.block.now.planes.items in
    subst (λ (k : Coordinate). slice_index c.words_of.result (p % 512) ≡ coordinate_number (block_memory planes) k c.args.args.now p) (sym c.in-Field.is)
    (c.words_of.ensures (p % 512) (omega arith) ∙ field_number_is planes c.in-Field.f p)
