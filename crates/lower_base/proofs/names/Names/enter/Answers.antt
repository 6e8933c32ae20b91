use Rattle.lower_base.proofs.Numbering.{entered_from}
use Rattle.lower_base.proofs.names.Names.enter.Goals as goal

pub returns-clause-layout : goal.returns-clause-layout
returns-clause-layout c words k h = entered_from c.args.t.now words c.args.number k _ _ h c.in_ok-see_as.ensures.layout
