use Rattle.std.proofs.Common.{rules, ◌≡◌, ◌∙◌, ℕ, List, [], drop, Option, Some, None, inl, inr, ap, sym, subst, refl, arith}
use Rattle.std.proofs.lemmas.Bool.{cases_lt}
use Rattle.cstar_io.specs.declared.sink.SureSink.{SureSink}
use Rattle.cstar_io.specs.Input.{Took}
use Rattle.paris_code.specs.Memory.{SameBits}
use Rattle.paris_code.specs.Shapes.{SetShape, shapes_of}
use Rattle.paris_machine.specs.declared.outcome.End.{End}
use Rattle.paris_machine.specs.declared.outcome.End.TheVariants as E
use Rattle.paris_machine.specs.Ends.{output_broke}
use Rattle.paris_phases.specs.Machines.{memory_of}
use Rattle.point_runs.specs.Courses.{Course}
use Rattle.cstar_top.specs.Drills.{drill_line}
use Rattle.cstar_top.proofs.Courses.{chosen, printed_whole}
use Rattle.cstar_top.proofs.Drills.{counts, done_not_memory, of_run}
use Rattle.cstar_top.proofs.drill.drill_image.Goals as goal

pub run-outcome-requires-clause-able : goal.run-outcome-requires-clause-able
run-outcome-requires-clause-able g c =
    c.choose.ensures.able (c.in-Ok.ensures.ready, search rules, search rules)

pub returns-in-Done-clause-line : goal.returns-in-Done-clause-line
returns-in-Done-clause-line g c done =
    let ran = c.run-outcome.result in
    elim (cases_lt 0 ran.steps) [
      | inl some ↦ let m = c.run-outcome.ensures.meaning some in
          let facts = m.1.1.1 in
          let image = c.args.sound.now in
          let course : Course = record { end = ran.end; steps = ran.steps; left = ran.turns_left; taken = m.1.1.0; printed = m.1.1.1.0; stopped = record { at = m.1.0.at; regs = m.1.0.regs; returns = m.1.0.returns; ended = m.0 }; memory = memory_of c.run-outcome.new.p.machine c.run-outcome.new.p.winner } in
          let put = subst (λ (shapes : List SetShape). SameBits shapes (memory_of c.choose.new.self.machine c.choose.new.self.winner) (record { bit = (memory_of c.in-Ok.phases.machine c.in-Ok.phases.winner).bit; winner = c.args.winner })) c.in-Ok.ensures.shapes c.choose.ensures.memory in
          let new = chosen (shapes_of image) (memory_of c.choose.new.self.machine c.choose.new.self.winner) (memory_of c.in-Ok.phases.machine c.in-Ok.phases.winner) c.args.winner None put (λ w. record { bits = c.in-Ok.ensures.fresh.bits; winner = refl }) in
          let rest = Some (drop c.run-outcome.new.input.at c.run-outcome.new.input.bytes.items) in
          let fed = subst (λ (left : Option (List ℕ)). Took left m.1.1.0 rest) (c.new-input.ensures ∙ ap (λ (bytes : List ℕ). Some bytes) c.new-2.ensures.items) facts.2 in
          let taken = printed_whole ran.end counts c.new-printed.result c.run-outcome.new.out m.1.1.1.0 (ap (λ (e : End). output_broke e) c.in-Done.is) facts.3 in
          let told = taken [] (sym (ap (λ (s : SureSink). s.count) c.new-printed.ensures), sym (ap (λ (s : SureSink). s.sum) c.new-printed.ensures)) in
          let line = of_run image c.args.winner c.args.tokens c.saturating_sub-turns.result c.count.result c.sum.result course rest
          (record { begun = memory_of c.choose.new.self.machine c.choose.new.self.winner; same = new; ran = facts.4; over = λ past. cc })
          (fed, λ going. facts.1) c.in-Done.is c.saturating_sub-turns.ensures (told.0 ∙ sym c.count.ensures) (told.1 ∙ sym c.sum.ensures) in
          (drill_line c.args.tokens c.saturating_sub-turns.result c.count.result c.sum.result, line, c.report.ensures.line done)
      | inr none ↦ let zero : ran.steps ≡ 0 = omega arith in
          let over : ran.end ≡ E.Memory = (c.run-outcome.ensures.none zero).0 in
          absurd (done_not_memory ran.end c.in-Done.is over)
    ]

pub returns-in-Done-clause-part : goal.returns-in-Done-clause-part
returns-in-Done-clause-part g c =
    let ran = c.run-outcome.result in
    elim (cases_lt 0 ran.steps) [
      | inl some ↦ let m = c.run-outcome.ensures.meaning some in
          let facts = m.1.1.1 in
          let image = c.args.sound.now in
          let course : Course = record { end = ran.end; steps = ran.steps; left = ran.turns_left; taken = m.1.1.0; printed = m.1.1.1.0; stopped = record { at = m.1.0.at; regs = m.1.0.regs; returns = m.1.0.returns; ended = m.0 }; memory = memory_of c.run-outcome.new.p.machine c.run-outcome.new.p.winner } in
          let put = subst (λ (shapes : List SetShape). SameBits shapes (memory_of c.choose.new.self.machine c.choose.new.self.winner) (record { bit = (memory_of c.in-Ok.phases.machine c.in-Ok.phases.winner).bit; winner = c.args.winner })) c.in-Ok.ensures.shapes c.choose.ensures.memory in
          let new = chosen (shapes_of image) (memory_of c.choose.new.self.machine c.choose.new.self.winner) (memory_of c.in-Ok.phases.machine c.in-Ok.phases.winner) c.args.winner None put (λ w. record { bits = c.in-Ok.ensures.fresh.bits; winner = refl }) in
          let rest = Some (drop c.run-outcome.new.input.at c.run-outcome.new.input.bytes.items) in
          let fed = subst (λ (left : Option (List ℕ)). Took left m.1.1.0 rest) (c.new-input.ensures ∙ ap (λ (bytes : List ℕ). Some bytes) c.new-2.ensures.items) facts.2 in
          let taken = printed_whole ran.end counts c.new-printed.result c.run-outcome.new.out m.1.1.1.0 (ap (λ (e : End). output_broke e) c.in-Done.is) facts.3 in
          let told = taken [] (sym (ap (λ (s : SureSink). s.count) c.new-printed.ensures), sym (ap (λ (s : SureSink). s.sum) c.new-printed.ensures)) in
          let line = of_run image c.args.winner c.args.tokens c.saturating_sub-turns.result c.count.result c.sum.result course rest
          (record { begun = memory_of c.choose.new.self.machine c.choose.new.self.winner; same = new; ran = facts.4; over = λ past. cc })
          (fed, λ going. facts.1) c.in-Done.is c.saturating_sub-turns.ensures (told.0 ∙ sym c.count.ensures) (told.1 ∙ sym c.sum.ensures) in
          inr (drill_line c.args.tokens c.saturating_sub-turns.result c.count.result c.sum.result, line, c.report.ensures.part)
      | inr none ↦ let zero : ran.steps ≡ 0 = omega arith in
          let over : ran.end ≡ E.Memory = (c.run-outcome.ensures.none zero).0 in
          absurd (done_not_memory ran.end c.in-Done.is over)
    ]
