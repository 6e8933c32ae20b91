use Rattle.std.proofs.Common.{◌+◌, ◌≡◌, ◌≤◌, [], ◌++◌, Some, None, refl, sym, ◌∙◌, subst, arith}
use Rattle.std.specs.Prelude.{IfNone, IfSome, Option}
use Rattle.front_end.specs.Front.{state_of, joined}
use Rattle.paris_machine.specs.Bound.{most_left}
use Rattle.paris_machine.specs.Ends.{Tells, input_broke_in, output_broke_in}
use Rattle.paris_machine.specs.declared.outcome.End.{End as RunEnd}
use Rattle.paris_machine.proofs.Bound.{left_most}
use Rattle.paris_machine.proofs.Following.{Moves, took_none, takes_none, took_more, takes_more, puts_more, reaches_more, runs_end, empty_more, stays_more, exhausted, numbered_end}
use Rattle.paris_machine.proofs.Same.{runs_code}
use Rattle.paris_machine.proofs.steps.drive.Goals as goal

pub steps-init : goal.steps-init
steps-init g c = record {
  most = omega arith;
  fits = c.requires.fits;
  ready = c.requires.ready;
  shapes = c.requires.shapes;
  able = c.requires.able;
  input = refl;
  output = refl;
  over = λ e. (e, refl);
  empty = λ e f. cc;
  left = omega (arith, left_most c.args.sound.now c.args.front.now.at c.args.front.now.returns.items c.args.front.now.turns c.requires.fits.place.0);
  taken = [];
  printed = [];
  took = took_none (g.I.Source.left c.args.input.now);
  takes = takes_none g.O.Sink.agrees c.args.out.now;
  unread = λ e. (e, refl, refl);
  reaches = λ later left. refl;
}

pub returns-in-Some-clause-meaning : goal.returns-in-Some-clause-meaning
returns-in-Some-clause-meaning g c =
    let kept = c.steps.invariant in
    let moved = subst (λ (result : Option RunEnd). Moves g.I.Source.left g.O.Sink.agrees c.args.sound.now c.steps.input c.advance-end.new.input c.steps.out c.advance-end.new.out c.advance-end.result.1 (state_of c.steps.front) (g.P.Phases.memory c.steps.p) c.steps.ended result (state_of c.advance-end.new.front) (g.P.Phases.memory c.advance-end.new.p) c.advance-end.new.ended) c.in-Some.is c.advance-end.ensures.meaning in (
      kept.taken ++ moved.0,
      (
        kept.printed ++ moved.1.0,
        took_more (g.I.Source.left c.args.input.now) (g.I.Source.left c.steps.input) (g.I.Source.left c.advance-end.new.input) kept.taken moved.0 kept.took moved.1.1,
        puts_more c.in-Some.end g.O.Sink.agrees c.args.out.now c.steps.out c.advance-end.new.out kept.printed moved.1.0 kept.takes moved.1.2,
        stays_more c.args.ended.now c.steps.ended c.advance-end.new.ended (Some c.in-Some.end) kept.taken moved.0 kept.unread moved.1.3,
        runs_code c.args.sound.now c.image-image.ensures.sound (λ rest. joined (state_of c.args.front.now) (g.P.Phases.memory c.args.p.now) rest []) c.in-Some.end (c.steps.begun + c.advance-end.result.1) (λ rest. joined (state_of c.advance-end.new.front) (g.P.Phases.memory c.advance-end.new.p) rest (kept.printed ++ moved.1.0)) c.advance-end.new.ended (kept.taken ++ moved.0) (
            runs_end c.args.sound.now (state_of c.args.front.now) (state_of c.steps.front) (state_of c.advance-end.new.front) (g.P.Phases.memory c.args.p.now) (g.P.Phases.memory c.steps.p) (g.P.Phases.memory c.advance-end.new.p)
            c.steps.begun c.advance-end.result.1 c.steps.ended c.advance-end.new.ended c.in-Some.end kept.taken moved.0 kept.printed moved.1.0 kept.reaches moved.1.3 moved.1.4),
      ),
    )

pub steps-preserved : goal.steps-preserved
steps-preserved g c =
    let kept = c.steps.invariant in
    let moved = subst (λ (result : Option RunEnd). Moves g.I.Source.left g.O.Sink.agrees c.args.sound.now c.steps.input c.advance-end.new.input c.steps.out c.advance-end.new.out c.advance-end.result.1 (state_of c.steps.front) (g.P.Phases.memory c.steps.p) c.steps.ended result (state_of c.advance-end.new.front) (g.P.Phases.memory c.advance-end.new.p) c.advance-end.new.ended) c.in-None.is c.advance-end.ensures.meaning in
    record {
      most = omega (arith, c.advance-end.ensures.most, c.steps-test.true, kept.most);
      fits = c.advance-end.ensures.fits;
      ready = subst (λ (result : Option RunEnd). IfNone result (c.advance-end.new.front.wanted ≡ None)) c.in-None.is c.advance-end.ensures.ready;
      shapes = c.advance-end.ensures.shapes;
      able = c.advance-end.ensures.able;
      input = subst (λ (result : Option RunEnd). Tells (input_broke_in result) (g.I.Source.faults c.steps.input) (g.I.Source.faults c.advance-end.new.input)) c.in-None.is c.advance-end.ensures.input ∙ kept.input;
      output = subst (λ (result : Option RunEnd). Tells (output_broke_in result) (g.O.Sink.faults c.steps.out) (g.O.Sink.faults c.advance-end.new.out)) c.in-None.is c.advance-end.ensures.output ∙ kept.output;
      over = λ e. (let was = kept.over e in let is = c.advance-end.ensures.over was.0 in (is.0, is.1 ∙ was.1));
      empty = empty_more c.args.ended.now c.steps.ended c.advance-end.new.ended (IfSome (g.I.Source.left c.steps.input) (λ rest. rest ≡ [])) (IfSome (g.I.Source.left c.advance-end.new.input) (λ rest. rest ≡ []))
          kept.empty (λ e here. subst (λ x. IfSome (g.I.Source.left x) (λ rest. rest ≡ [])) (sym (c.advance-end.ensures.over e).1) here) c.advance-end.ensures.empty;
      left = omega (
        arith,
        kept.left,
        subst (λ (result : Option RunEnd). IfNone result (most_left c.args.sound.now c.advance-end.new.front.at c.advance-end.new.front.returns.items c.advance-end.new.front.turns + c.advance-end.result.1 ≤ most_left c.args.sound.now c.steps.front.at c.steps.front.returns.items c.steps.front.turns)) c.in-None.is c.advance-end.ensures.falls,
      );
      taken = kept.taken ++ moved.0;
      printed = kept.printed ++ moved.1.0;
      took = took_more (g.I.Source.left c.args.input.now) (g.I.Source.left c.steps.input) (g.I.Source.left c.advance-end.new.input) kept.taken moved.0 kept.took moved.1.1;
      takes = takes_more g.O.Sink.agrees c.args.out.now c.steps.out c.advance-end.new.out kept.printed moved.1.0 kept.takes moved.1.2;
      unread = stays_more c.args.ended.now c.steps.ended c.advance-end.new.ended None kept.taken moved.0 kept.unread moved.1.3;
      reaches = reaches_more c.args.sound.now (state_of c.args.front.now) (state_of c.steps.front) (state_of c.advance-end.new.front) (g.P.Phases.memory c.args.p.now) (g.P.Phases.memory c.steps.p) (g.P.Phases.memory c.advance-end.new.p)
          c.steps.begun c.advance-end.result.1 c.steps.ended c.advance-end.new.ended kept.taken moved.0 kept.printed moved.1.0 kept.reaches moved.1.3 moved.1.4;
    }

pub returns-clause-some : goal.returns-clause-some
returns-clause-some g c = absurd (
    exhausted c.args.sound.now c.steps.front.at c.steps.front.returns.items c.steps.front.turns c.steps.begun c.args.front.now.turns c.turns_left.result c.most_steps-most.result
    c.steps.invariant.fits.place.0 c.steps.invariant.left c.turns_left.ensures c.most_steps-most.ensures c.steps-test.false)

pub returns-clause-meaning : goal.returns-clause-meaning
returns-clause-meaning g c = absurd (
    exhausted c.args.sound.now c.steps.front.at c.steps.front.returns.items c.steps.front.turns c.steps.begun c.args.front.now.turns c.turns_left.result c.most_steps-most.result
    c.steps.invariant.fits.place.0 c.steps.invariant.left c.turns_left.ensures c.most_steps-most.ensures c.steps-test.false)

pub returns-in-Some-clause-numbered : goal.returns-in-Some-clause-numbered
returns-in-Some-clause-numbered g c =
    let moved = subst (λ (result : Option RunEnd). Moves g.I.Source.left g.O.Sink.agrees c.args.sound.now c.steps.input c.advance-end.new.input c.steps.out c.advance-end.new.out c.advance-end.result.1 (state_of c.steps.front) (g.P.Phases.memory c.steps.p) c.steps.ended result (state_of c.advance-end.new.front) (g.P.Phases.memory c.advance-end.new.p) c.advance-end.new.ended) c.in-Some.is c.advance-end.ensures.meaning in
    numbered_end c.args.sound.now moved.1.4.2.0 (g.P.Phases.memory c.steps.p) c.in-Some.end (state_of c.advance-end.new.front) (g.P.Phases.memory c.advance-end.new.p)
    c.advance-end.new.ended moved.0 moved.1.0 moved.1.4.2.2
