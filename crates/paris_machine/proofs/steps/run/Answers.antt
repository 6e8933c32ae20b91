use Rattle.paris_machine.specs.Runs.{kept_state}
use Rattle.paris_machine.proofs.Following.{runs_open}
use Rattle.paris_machine.proofs.steps.run.Goals as goal

pub returns-in-Ok-clause-meaning : goal.returns-in-Ok-clause-meaning
returns-in-Ok-clause-meaning g c = λ some.
    let ran = c.resume.ensures.meaning some in
    let opens = c.in-Ok.ensures.opens in (
      c.resume.result.1.ended,
      (
        c.resume.result.1,
        (
          ran.0,
          (
            ran.1.0,
            c.resume.ensures.empty opens.3,
            ran.1.1,
            ran.1.2,
            runs_open c.args.sound.now c.in-Ok.kept c.args.turns (g.P.Phases.memory c.args.p.now) c.resume.result.0.end c.resume.result.0.steps (λ rest. kept_state c.resume.result.1 c.resume.result.0.turns_left (g.P.Phases.memory c.resume.new.p) rest ran.1.0) c.resume.result.1.ended ran.0 opens.0 opens.1 opens.2 ran.1.4,
          ),
        ),
      ),
    )
