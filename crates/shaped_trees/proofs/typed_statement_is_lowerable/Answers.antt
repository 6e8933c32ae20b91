use Rattle.shaped_trees.proofs.LowerableStatements.{statement_lowerable}
use Rattle.shaped_trees.proofs.typed_statement_is_lowerable.Goals as goal

pub returns : goal.returns
returns c program typed gives word result here s t sound inside not_whole outcome names is =
    statement_lowerable program typed outcome is (record { sound = sound; inside = inside; not_whole = not_whole }) names
