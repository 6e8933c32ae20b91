use Rattle.plain_texts.proofs.FewNames.{few_names}
use Rattle.plain_texts.proofs.trees_of_words_have_few_names.Goals as goal

pub returns : goal.returns
returns c = few_names
