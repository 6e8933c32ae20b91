use Rattle.std.proofs.Common.{◌+◌, ◌*◌, ◌∙◌, sym, ap}
use Rattle.cstar_base.specs.declared.operators.Inclusion.{Inclusion}
use Rattle.reduce_scan.specs.Across.{taken_at}
use Rattle.reduce_scan.proofs.CellWords.{word_of}
use Rattle.reduce_scan.proofs.across.taken.Goals as goal

pub returns-in-Inclusive : goal.returns-in-Inclusive
unfolding taken_at
returns-in-Inclusive c = λ i b.
    word_of c.args.room.now.cells.items c.args.k i c.index.result.now c.requires.block.1 b c.index.ensures
    ∙ ap (λ (n : Inclusion). taken_at c.args.scan.now.combiner n c.args.lines.now c.args.room.now.cells.items (512 * c.args.k + i)) (sym c.in-Inclusive.is)
