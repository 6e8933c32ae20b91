use Rattle.std.proofs.Common.{◌∙◌, sym}
use Rattle.type_scopes.proofs.FileLemmas.{not_numbered, numbered_at}
use Rattle.type_scopes.proofs.names.FileNames.find_bytes.Goals as goal

pub returns-in_err-number-clause-found : goal.returns-in_err-number-clause-found
returns-in_err-number-clause-found c = c.from_residual.ensures ∙ sym (not_numbered c.args.self.now.names.entries c.args.bytes.now (sym c.in_err-number.ensures.index))

pub returns-clause-found : goal.returns-clause-found
returns-clause-found c = sym (numbered_at c.args.self.now.names.entries c.args.bytes.now c.in_ok-number.number c.index.result.now (sym c.in_ok-number.ensures.index) c.index.ensures)
