use Rattle.std.proofs.Common.{refl}
use Rattle.grammar_parts.specs.Verdicts.{verdict_on}
use Rattle.grammar_parts.proofs.Right.{is_right}
use Rattle.grammar_parts.proofs.verdict_is_right.Goals as goal

pub returns : goal.returns
returns c = λ heap tokens few. is_right heap tokens (verdict_on tokens) few refl
