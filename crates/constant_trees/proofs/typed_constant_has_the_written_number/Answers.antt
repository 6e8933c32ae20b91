use Rattle.cstar_tree.specs.Constants.{constant}
use Rattle.constant_trees.proofs.Written.{number_read, written}
use Rattle.constant_trees.proofs.typed_constant_has_the_written_number.Goals as goal

pub returns : goal.returns
returns c program here e t has_value few words typed = number_read (constant here e) t (written program typed few words)
