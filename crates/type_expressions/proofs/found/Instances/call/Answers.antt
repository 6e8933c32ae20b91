use Rattle.std.proofs.Common.{ap, not, sym, ◌∙◌}
use Rattle.type_expressions.proofs.CalledFunctions.{met_more, told_met}
use Rattle.type_expressions.proofs.found.Instances.call.Goals as goal

pub returns-clause-is_new : goal.returns-clause-is_new
returns-clause-is_new c = c.in_ok-number.ensures.added ∙ ap not (sym (told_met c.args.reached c.args.self.now.reached.keys))

pub returns-clause-met : goal.returns-clause-met
returns-clause-met c = met_more c.args.reached c.args.self.now.reached.keys c.insert_full.new.self.keys c.in_ok-number.ensures.keys
