use Rattle.grammar_parts.specs.Verdicts.{read}
use Rattle.grammar_parts.proofs.Right.{is_right}
use Rattle.bounded_texts.proofs.FlowItems.{bounded_is_read}
use Rattle.bounded_texts.proofs.bounded_text_is_not_too_deep.Goals as goal

pub returns : goal.returns
returns c = λ heap tokens tree few items bounded. is_right heap tokens read few (bounded_is_read tokens tree items bounded)
