use Rattle.plain_texts.proofs.PlainTrees.{tree_is_plain}
use Rattle.plain_texts.proofs.trees_of_words_are_plain.Goals as goal

pub returns : goal.returns
returns c = tree_is_plain
