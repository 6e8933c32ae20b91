use Rattle.cstar_top.proofs.Compiled.{program_of_text}
use Rattle.cstar_top.proofs.compile.read_text.Goals as goal

pub returns-in-Ok-typed_of-clause-program : goal.returns-in-Ok-typed_of-clause-program
returns-in-Ok-typed_of-clause-program c =
    program_of_text c.args.text.now c.in-Ok.tokens c.in-Ok-tree_of.tree c.in-Ok-typed_of.typed c.if-text.false c.in-Ok.ensures.read c.in-Ok-tree_of.ensures.spelled c.in-Ok-typed_of.ensures.exact c.in-Ok-typed_of.ensures.new c.in-Ok-typed_of.ensures.room c.in-Ok-typed_of.ensures.accepted c.in-Ok-typed_of.ensures.typed
