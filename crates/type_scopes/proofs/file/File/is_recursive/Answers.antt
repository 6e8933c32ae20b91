use Rattle.std.proofs.Common.{sym}
use Rattle.type_scopes.proofs.FileLemmas.{same_number}
use Rattle.type_scopes.proofs.file.File.is_recursive.Goals as goal

pub returns-in-Some : goal.returns-in-Some
returns-in-Some c = rw (c.in-Some.is, sym c.group.ensures, sym c.group-in-Some.ensures) (same_number c.group.result c.group-in-Some.result c.eq.result c.eq.ensures)
