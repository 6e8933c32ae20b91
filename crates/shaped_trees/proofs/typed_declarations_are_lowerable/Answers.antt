use Rattle.shaped_trees.proofs.LowerableStatements.{declarations_lowerable}
use Rattle.shaped_trees.proofs.typed_declarations_are_lowerable.Goals as goal

pub returns : goal.returns
returns c program typed here list locals sound inside not_whole names is =
    declarations_lowerable program typed is (record { sound = sound; inside = inside; not_whole = not_whole }) names
