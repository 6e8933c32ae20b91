use Rattle.reduce_scan.proofs.CellWords.{word_set}
use Rattle.reduce_scan.proofs.across.set_word.Goals as goal

pub returns : goal.returns
returns c =
    word_set c.args.room.now.cells.items c.args.position c.args.number c.index_mut.result.now c.put.new.cell c.requires c.index_mut.ensures.value c.put.ensures.here c.put.ensures.others c.put.ensures.cuts
