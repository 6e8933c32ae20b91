use Rattle.std.proofs.Common.{◌∙◌, [], arith}
use Rattle.phase_meaning.proofs.Tests.{less}
use Rattle.block_store.specs.Stored.{word_at}
use Rattle.block_store.proofs.Fetches.{word_read}
use Rattle.block_store.proofs.words.word_or_zero.Goals as goal

pub returns-then-position-count : goal.returns-then-position-count
returns-then-position-count c =
    word_read c.args.cells.now c.args.position (record { words = []; cuts = record { bits = [] } }) (omega (arith, c.requires, c.if-position-count.true)) ∙ less c.args.position c.args.count (word_at c.args.cells.now c.args.position) 0 c.if-position-count.true
