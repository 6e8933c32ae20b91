use Rattle.std.proofs.Common.{◌<◌, ◌∙◌, length, arith}
use Rattle.std.proofs.lemmas.Grind.{common_steps}
use Rattle.std.proofs.lemmas.List.{at_drop_more}
use Rattle.std.proofs.lemmas.Result.{on_ok_weaker}
use Rattle.lower_base.proofs.Made.{made_too}
use Rattle.lower_base.specs.Drafts.{draft, then_make}
use Rattle.lower_base.specs.Layouts.{layout}
use Rattle.lower_stmt.specs.Statements.{listed}
use Rattle.lower_stmt.proofs.statement.Body.+statement.Goals as goal

pub statements-loop-inner-preserved : goal.statements-loop-inner-preserved
unfolding listed then_make
statements-loop-inner-preserved t c =
    let below : c.loop-inner.inner-index < length c.args.statements.now = omega arith in
    let more =
    at_drop_more
    (λ statements. listed c.args.view.now.typed.now (layout c.args.view.now.names) statements c.args.f c.loop-inner.self.contexts.items c.loop-inner.self.declared (draft c.loop-inner.self.unit))
    c.args.statements.now c.loop-inner.inner-index c.inner-item.result below
    in
    let item = c.inner-item.is in
    record {
      made = made_too _ _ (grind (arith, common_steps, more, item)) c.requires.made;
      whole = grind (arith, common_steps, more, item);
      same = grind (arith, common_steps);
    }

pub statement-returns-in-Block-clause-draft : goal.statement-returns-in-Block-clause-draft
statement-returns-in-Block-clause-draft t c = on_ok_weaker c.block.result (λ listed. c.block_is_made.ensures.code ∙ listed) c.block.ensures.draft
