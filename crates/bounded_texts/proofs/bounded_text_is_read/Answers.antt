use Rattle.bounded_texts.proofs.FlowItems.{bounded_is_read}
use Rattle.bounded_texts.proofs.bounded_text_is_read.Goals as goal

pub returns : goal.returns
returns c = λ tokens tree items bounded. bounded_is_read tokens tree items bounded
