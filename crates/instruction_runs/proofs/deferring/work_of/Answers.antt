use Rattle.std.proofs.Common.{map, sym}
use Rattle.block_store.specs.Stored.{shape_of_plan}
use Rattle.instruction_runs.proofs.Deferrals.{news_lies, shift_is}
use Rattle.instruction_runs.proofs.deferring.work_of.Goals as goal

pub step_of-step-requires-clause-set : goal.step_of-step-requires-clause-set
step_of-step-requires-clause-set c = (news_lies c.args.plans.now c.args.instr.now c.in-Some.news c.requires.can (sym c.in-Some.ensures)).0

pub step_of-step-requires-clause-axis : goal.step_of-step-requires-clause-axis
step_of-step-requires-clause-axis c = (news_lies c.args.plans.now c.args.instr.now c.in-Some.news c.requires.can (sym c.in-Some.ensures)).1

pub returns-in-Some : goal.returns-in-Some
returns-in-Some c = shift_is (map shape_of_plan c.args.plans.now) c.args.instr.now c.in-Some.news c.step_of-step.result c.requires.can (sym c.in-Some.ensures) c.step_of-step.ensures
