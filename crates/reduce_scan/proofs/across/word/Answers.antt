use Rattle.std.proofs.Common.{◌%◌, ◌∙◌, ap}
use Rattle.std.specs.Prelude.{slice_index}
use Rattle.block_store.specs.declared.set.Cell.{Cell}
use Rattle.block_store.proofs.Fetches.{word_read}
use Rattle.reduce_scan.proofs.across.word.Goals as goal

pub returns : goal.returns
returns c =
    let p = c.args.position in
    ap (λ (x : Cell). slice_index x.words (p % 512)) c.index.ensures ∙ word_read c.args.room.now.cells.items p c.index.result.now c.requires
