use Rattle.std.proofs.Common.{◌≡◌, ◌∙◌, List, inl, inr, ap, refl, subst, arith}
use Rattle.std.proofs.lemmas.Bool.{cases_lt}
use Rattle.paris_code.specs.Listing.{listing}
use Rattle.paris_code.specs.Memory.{SameBits}
use Rattle.paris_code.specs.Shapes.{SetShape}
use Rattle.paris_machine.specs.declared.outcome.End.{End}
use Rattle.paris_machine.specs.Ends.{output_broke}
use Rattle.point_runs.specs.Courses.{Course}
use Rattle.point_runs.specs.Starts.{Origin}
use Rattle.cstar_top.specs.Answers.{status_of}
use Rattle.cstar_top.specs.Courses.{answer_to_end, closing_text, where_asked}
use Rattle.cstar_top.proofs.Courses.{nothing_behind, run_part, run_reported, settled_course, unbroken}
use Rattle.cstar_top.proofs.run.run_on.Goals as goal

pub returns-clause-report : goal.returns-clause-report
returns-clause-report g c other more =
    let image = c.args.sound.now in
    let options = c.args.options.now in
    let memory = g.P.Phases.memory c.settle.new.self in
    let from : Origin = record { image = image; kept = c.args.kept; memory = g.P.Phases.memory c.args.phases.now } in
    let ran = c.resume-kept.result.0 in
    let answer = c.finish.result in
    let own = c.finish.ensures.own other in
    elim (cases_lt 0 ran.steps) [
      | inl some ↦ let m = c.resume-kept.ensures.meaning some in
          let facts = m.1 in
          let course : Course = record { end = ran.end; steps = ran.steps; left = ran.turns_left; taken = m.0; printed = m.1.0; stopped = c.resume-kept.result.1; memory = memory } in
          let same = subst (λ (shapes : List SetShape). SameBits shapes memory (g.P.Phases.memory c.resume-kept.new.p)) c.resume-kept.ensures.shapes c.settle.ensures.memory in
          run_reported g.O.Sink.agrees c.args.out.now c.put_listing.new.out c.resume-kept.new.out c.finish.new.out (g.I.Source.left c.args.input.now) (g.I.Source.left c.resume-kept.new.input) options from course answer
          (λ (ended : Course). (ended.stopped ≡ c.resume-kept.result.1) × (ended.memory ≡ memory))
          (settled_course from options.turns (g.P.Phases.memory c.resume-kept.new.p) course facts.4 same facts.3)
          (facts.1, c.resume-kept.ensures.empty)
          c.in-Ok.ensures.0
          facts.2
          (unbroken (output_broke ran.end) (status_of answer) (λ broke. (c.finish.ensures.silent broke).1) other)
          own
          (c.finish.ensures.taken other)
          (refl, refl)
      | inr none ↦ let zero : ran.steps ≡ 0 = omega arith in
          absurd (more (ap status_of own ∙ ap (λ (e : End). status_of (answer_to_end options.turns e)) (c.resume-kept.ensures.none zero).0))
    ]

pub returns-clause-part : goal.returns-clause-part
returns-clause-part g c =
    let image = c.args.sound.now in
    let options = c.args.options.now in
    let memory = g.P.Phases.memory c.settle.new.self in
    let from : Origin = record { image = image; kept = c.args.kept; memory = g.P.Phases.memory c.args.phases.now } in
    let ran = c.resume-kept.result.0 in
    elim (cases_lt 0 ran.steps) [
      | inl some ↦ let m = c.resume-kept.ensures.meaning some in
          let facts = m.1 in
          let course : Course = record { end = ran.end; steps = ran.steps; left = ran.turns_left; taken = m.0; printed = m.1.0; stopped = c.resume-kept.result.1; memory = memory } in
          let same = subst (λ (shapes : List SetShape). SameBits shapes memory (g.P.Phases.memory c.resume-kept.new.p)) c.resume-kept.ensures.shapes c.settle.ensures.memory in
          run_part g.O.Sink.agrees c.args.out.now c.put_listing.new.out c.resume-kept.new.out c.finish.new.out (g.I.Source.left c.args.input.now) (g.I.Source.left c.resume-kept.new.input) options from course
          (settled_course from options.turns (g.P.Phases.memory c.resume-kept.new.p) course facts.4 same facts.3)
          (facts.1, c.resume-kept.ensures.empty)
          c.in-Ok.ensures.0
          facts.2
          (λ broke. (c.finish.ensures.silent broke).0)
          c.finish.ensures.part
      | inr none ↦ let zero : ran.steps ≡ 0 = omega arith in
          let nothing = c.resume-kept.ensures.none zero in
          let listed = where_asked options.listing (listing image) in
          inl (nothing_behind g.O.Sink.agrees c.args.out.now c.resume-kept.new.out c.finish.new.out ran.end listed (closing_text options image ran.steps memory) nothing.0
          (rw nothing.5 c.in-Ok.ensures.0) c.finish.ensures.part)
    ]
