use Rattle.plain_texts.proofs.Words.{text_has_words}
use Rattle.plain_texts.proofs.texts_have_words.Goals as goal

pub returns : goal.returns
returns c = text_has_words
