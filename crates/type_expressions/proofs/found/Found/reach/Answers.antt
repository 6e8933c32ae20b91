use Rattle.type_expressions.specs.Instances.{instance_of}
use Rattle.type_expressions.proofs.KeptHeaders.{grows_by_instance}
use Rattle.type_expressions.proofs.found.Found.reach.Goals as goal

pub returns-in-Some-clause-grows : goal.returns-in-Some-clause-grows
returns-in-Some-clause-grows c =
    grows_by_instance c.args.file.now c.args.self.now.instances c.prepare.new.self c.call.new.self (instance_of c.args.reached) c.in_ok-prepare.ensures.grows c.call.ensures.headers c.in_ok-number.ensures.met

pub returns-else-is_new-clause-grows : goal.returns-else-is_new-clause-grows
returns-else-is_new-clause-grows c =
    grows_by_instance c.args.file.now c.args.self.now.instances c.prepare.new.self c.call.new.self (instance_of c.args.reached) c.in_ok-prepare.ensures.grows c.call.ensures.headers c.in_ok-number.ensures.met
