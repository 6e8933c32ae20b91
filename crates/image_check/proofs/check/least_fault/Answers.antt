use Rattle.image_check.proofs.FaultLaws.{unsound, answer_first}
use Rattle.image_check.proofs.check.least_fault.Goals as goal

pub returns-in-Some : goal.returns-in-Some
returns-in-Some c = (
  unsound c.args.image.now c.in-Some.fault.rule c.in-Some.fault.at c.in-Some.ensures,
  answer_first c.args.image.now c.in-Some.fault.rule c.in-Some.fault.at c.requires.units c.in-Some.ensures,
)
