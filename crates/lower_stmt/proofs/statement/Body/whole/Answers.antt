use Rattle.std.proofs.Common.{◌∙◌, sym}
use Rattle.std.proofs.lemmas.Result.{on_ok_weaker}
use Rattle.lower_base.proofs.Made.{made_too}
use Rattle.lower_stmt.proofs.StatementRows.{body_listed}
use Rattle.lower_stmt.proofs.statement.Body.whole.Goals as goal

pub block-requires : goal.block-requires
block-requires c =
    let code = body_listed _ _ _ _ _ _ _ _ _ _ _ c.requires.contexts c.requires.declared c.in-Block.is c.deref.ensures.value c.deref-in-Block.ensures.value in
    record { made = made_too _ _ (sym code) c.requires.made }

pub returns-in-Block : goal.returns-in-Block
returns-in-Block c =
    let code = body_listed _ _ _ _ _ _ _ _ _ _ _ c.requires.contexts c.requires.declared c.in-Block.is c.deref.ensures.value c.deref-in-Block.ensures.value in
    record { draft = on_ok_weaker c.block.result (λ listed. code ∙ listed) c.block.ensures.draft }
