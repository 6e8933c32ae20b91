use Rattle.std.proofs.Common.{refl}
use Rattle.bounded_texts.proofs.spelled_text_is_not_hopeless.Goals as goal

pub returns : goal.returns
returns c = λ tokens list items token first. first.none (record { whole = tokens; begins = refl; items = list; spelled = items })
