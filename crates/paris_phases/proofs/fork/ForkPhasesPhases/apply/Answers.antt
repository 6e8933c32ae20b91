use Rattle.paris_phases.proofs.fork.ForkPhasesPhases.apply.Goals as goal

pub returns-clause-reply : goal.returns-clause-reply
returns-clause-reply g c = ((c.requires.able.1 _ _ _ _ (record { ready = c.requires.able.0; can = c.requires.can })).1 _ _ c.phase.ensures).fits

pub returns-clause-shapes : goal.returns-clause-shapes
returns-clause-shapes g c = ((c.requires.able.1 _ _ _ _ (record { ready = c.requires.able.0; can = c.requires.can })).1 _ _ c.phase.ensures).shapes

pub returns-clause-meaning : goal.returns-clause-meaning
returns-clause-meaning g c = ((c.requires.able.1 _ _ _ _ (record { ready = c.requires.able.0; can = c.requires.can })).1 _ _ c.phase.ensures).meaning

pub returns-clause-able : goal.returns-clause-able
returns-clause-able g c =
    (((c.requires.able.1 _ _ _ _ (record { ready = c.requires.able.0; can = c.requires.can })).1 _ _ c.phase.ensures).ready, c.requires.able.1, c.requires.able.2)
