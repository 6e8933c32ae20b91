use Rattle.std.proofs.Common.{◌∙◌, ap}
use Rattle.file_names.specs.Numbers.{declared_function, named}
use Rattle.file_names.proofs.Apart.{main_is}
use Rattle.file_names.proofs.main_function.Goals as goal

pub returns : goal.returns
returns c names = c.declared_function.ensures ∙ (ap (λ n. declared_function (named n)) c.find_bytes.ensures.found ∙ main_is c.args.file.now.tree.now _ names)
