use Rattle.grammar_parts.proofs.ReadItems.{read_text}
use Rattle.grammar_parts.proofs.spelled_text_is_read.Goals as goal

pub returns : goal.returns
returns c = λ tokens list items. read_text tokens items
