use Rattle.std.proofs.Common.{sym}
use Rattle.source_meaning.proofs.ConstantLaws.{constant_given}
use Rattle.source_meaning.proofs.constant.Goals as goal

pub returns-then-is_constant-clause-value : goal.returns-then-is_constant-clause-value
returns-then-is_constant-clause-value c = constant_given _ _ (sym c.if-is_constant.ensures) c.value.ensures.value
