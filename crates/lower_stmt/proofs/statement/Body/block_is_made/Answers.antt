use Rattle.std.proofs.Common.{sym}
use Rattle.lower_base.proofs.Made.{made_too}
use Rattle.lower_stmt.proofs.StatementRows.{block_listed}
use Rattle.lower_stmt.proofs.statement.Body.block_is_made.Goals as goal

pub returns : goal.returns
returns c =
    let code = block_listed _ _ _ _ _ _ _ _ _ _ _ c.requires.whole c.requires.locals c.requires.list in
    record { code = code; made = made_too _ _ (sym code) c.requires.made }
