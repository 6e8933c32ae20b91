use Rattle.constant_trees.proofs.Written.{written}
use Rattle.constant_trees.proofs.typed_constant_is_the_written_one.Goals as goal

pub returns : goal.returns
returns c program here e t has_value few words typed = written program typed few words
