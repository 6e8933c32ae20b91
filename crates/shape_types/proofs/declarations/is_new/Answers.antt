use Rattle.std.proofs.Common.{◌∙◌, sym}
use Rattle.std.proofs.lemmas.Bool.{eqb-true}
use Rattle.shape_types.proofs.FileLoops.{new_name}
use Rattle.shape_types.proofs.declarations.is_new.Goals as goal

pub returns-in-Some : goal.returns-in-Some
returns-in-Some c start k knows new = new_name start k c.args.file.now c.args.known c.args.name.now.word c.in-Some.number _ knows (sym c.find.ensures.found ∙ c.in-Some.is) (eqb-true c.in-Some.number c.args.known new)
