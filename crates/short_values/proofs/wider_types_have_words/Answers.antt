use Rattle.short_values.proofs.NarrowTypes.{wider_has}
use Rattle.short_values.proofs.wider_types_have_words.Goals as goal

pub returns : goal.returns
returns c = wider_has
