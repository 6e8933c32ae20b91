use Rattle.std.proofs.Common.{◌<◌, length, arith}
use Rattle.std.proofs.lemmas.Grind.{common_steps}
use Rattle.std.proofs.lemmas.List.{at_drop_more}
use Rattle.lower_base.specs.Layouts.{layout}
use Rattle.lower_stmt.proofs.LengthRows.{listed_length, block_length}
use Rattle.lower_stmt.proofs.length.+statement_length.Goals as goal

pub statement_length-loop-inner-init : goal.statement_length-loop-inner-init
statement_length-loop-inner-init t c = grind (arith, common_steps, block_length c.args.view.now.typed.now (layout c.args.view.now.names) c.args.has_result c.args.saved c.in-Block.locals c.in-Block.statements)

pub statement_length-loop-inner-preserved : goal.statement_length-loop-inner-preserved
unfolding listed_length
statement_length-loop-inner-preserved t c =
    let below : c.loop-inner.inner-index < length c.deref-inner-items.result.now = omega arith in
    let more = at_drop_more (listed_length c.args.view.now.typed.now (layout c.args.view.now.names) c.args.has_result c.args.saved) c.deref-inner-items.result.now c.loop-inner.inner-index c.inner-item.result below in
    let item = c.inner-item.is in
    grind (arith, common_steps, more, item)

pub statement_length-returns-after-loop-inner : goal.statement_length-returns-after-loop-inner
unfolding listed_length
statement_length-returns-after-loop-inner t c = grind (arith, common_steps)
