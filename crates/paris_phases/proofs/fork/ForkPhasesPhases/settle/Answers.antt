use Rattle.paris_phases.proofs.fork.ForkPhasesPhases.settle.Goals as goal

pub returns-clause-settled : goal.returns-clause-settled
returns-clause-settled g c = ((c.requires.able.2 _ c.requires.able.0).1 _ _ c.settle.ensures).settled

pub returns-clause-shapes : goal.returns-clause-shapes
returns-clause-shapes g c = ((c.requires.able.2 _ c.requires.able.0).1 _ _ c.settle.ensures).shapes

pub returns-clause-memory : goal.returns-clause-memory
returns-clause-memory g c = ((c.requires.able.2 _ c.requires.able.0).1 _ _ c.settle.ensures).memory c.args.self.now.winner

pub returns-clause-able : goal.returns-clause-able
returns-clause-able g c = (((c.requires.able.2 _ c.requires.able.0).1 _ _ c.settle.ensures).ready, c.requires.able.1, c.requires.able.2)
