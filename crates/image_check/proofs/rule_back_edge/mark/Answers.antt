use Rattle.std.proofs.Common.{◌∙◌, sym}
use Rattle.image_check.proofs.JumpMarks.{leads_nowhere, leads_to, mark_told}
use Rattle.image_check.proofs.rule_back_edge.mark.Goals as goal

pub returns-in-Some-clause-marked : goal.returns-in-Some-clause-marked
returns-in-Some-clause-marked c =
    λ place inside.
    mark_told c.args.marks.now.items c.set_mark.new.marks.items c.in-Some.target place c.args.instr.now c.set_mark.ensures.kept
    c.set_mark.ensures.marked c.set_mark.ensures.only inside (leads_to c.args.instr.now c.in-Some.target place (sym c.target.ensures ∙ c.in-Some.is))

pub returns-in-None-clause-marked : goal.returns-in-None-clause-marked
returns-in-None-clause-marked c = λ place inside. ((λ clear. (clear, leads_nowhere c.args.instr.now place (sym c.target.ensures ∙ c.in-None.is))), (λ both. both.0))
