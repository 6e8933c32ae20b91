use Rattle.std.proofs.Common.{[], sym, ap}
use Rattle.front_end.specs.declared.kept.Kept.{Kept}
use Rattle.front_end.specs.Front.{state_of}
use Rattle.paris_machine.specs.Runs.{kept_state}
use Rattle.paris_machine.proofs.CutRuns.{stopped_at_turn}
use Rattle.paris_machine.proofs.Following.{runs_kept}
use Rattle.paris_machine.proofs.steps.resume.Goals as goal

pub returns-clause-meaning : goal.returns-clause-meaning
returns-clause-meaning g c = λ some.
    let ran = c.drive-end.ensures.meaning in
    let from = c.in-Ok.ensures.front in
    let stopped : Kept = record { at = c.into_kept-kept.result.at; regs = c.into_kept-kept.result.regs; returns = c.into_kept-kept.result.returns; ended = c.drive-end.new.ended } in (
      ran.0,
      (
        ran.1.0,
        ran.1.1,
        ran.1.2,
        ran.1.3,
        runs_kept c.args.sound.now (state_of c.in-Ok.front) (state_of c.drive-end.new.front) c.args.kept stopped c.args.turns c.turns_left.result (g.P.Phases.memory c.args.p.now) (g.P.Phases.memory c.drive-end.new.p)
            c.drive-end.result.0 c.drive-end.result.1 ran.1.0 c.drive-end.new.ended ran.0 from.at from.registers from.returns from.turns_left
            (sym (ap (λ (k : Kept). k.at) c.into_kept-kept.ensures)) (sym (ap (λ (k : Kept). k.regs) c.into_kept-kept.ensures)) (sym (ap (λ (k : Kept). k.returns) c.into_kept-kept.ensures)) (sym c.turns_left.ensures) ran.1.4,
      ),
    )

pub returns-clause-stopped : goal.returns-clause-stopped
returns-clause-stopped g c =
    let ran = c.drive-end.ensures.meaning in
    let from = c.in-Ok.ensures.front in
    let stopped : Kept = record { at = c.into_kept-kept.result.at; regs = c.into_kept-kept.result.regs; returns = c.into_kept-kept.result.returns; ended = c.drive-end.new.ended } in
    stopped_at_turn c.args.sound.now (λ rest. kept_state c.args.kept c.args.turns (g.P.Phases.memory c.args.p.now) rest []) c.drive-end.result.0 c.drive-end.result.1 stopped c.turns_left.result (g.P.Phases.memory c.drive-end.new.p) ran.1.0 ran.0 c.drive-end.new.ended
    (runs_kept c.args.sound.now (state_of c.in-Ok.front) (state_of c.drive-end.new.front) c.args.kept stopped c.args.turns c.turns_left.result (g.P.Phases.memory c.args.p.now) (g.P.Phases.memory c.drive-end.new.p)
    c.drive-end.result.0 c.drive-end.result.1 ran.1.0 c.drive-end.new.ended ran.0 from.at from.registers from.returns from.turns_left
    (sym (ap (λ (k : Kept). k.at) c.into_kept-kept.ensures)) (sym (ap (λ (k : Kept). k.regs) c.into_kept-kept.ensures)) (sym (ap (λ (k : Kept). k.returns) c.into_kept-kept.ensures)) (sym c.turns_left.ensures) ran.1.4)
