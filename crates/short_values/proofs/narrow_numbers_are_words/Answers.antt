use Rattle.short_values.proofs.NarrowTypes.{is_word}
use Rattle.short_values.proofs.narrow_numbers_are_words.Goals as goal

pub returns : goal.returns
returns c = is_word
