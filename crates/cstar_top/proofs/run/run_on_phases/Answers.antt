use Rattle.std.proofs.Common.{◌≡◌, ◌∙◌, List, ap, subst}
use Rattle.std.specs.Prelude.{is_some}
use Rattle.block_store.specs.Stored.{AreWhole, stored}
use Rattle.checkpoint.specs.declared.point.Point.{Point}
use Rattle.cstar_base.specs.declared.operators.Winner.{Winner}
use Rattle.paris_code.specs.Memory.{SameBits}
use Rattle.paris_code.specs.Shapes.{SetShape, shapes_of}
use Rattle.paris_phases.specs.Machines.{memory_of}
use Rattle.point_runs.specs.Courses.{Course}
use Rattle.point_runs.specs.Points.{point_with}
use Rattle.point_runs.specs.Starts.{Origin, memory_from}
use Rattle.cstar_top.specs.Answers.{status_of}
use Rattle.cstar_top.specs.Saved.{ComesWith}
use Rattle.cstar_top.proofs.Courses.{chosen, part_elsewhere, reported_elsewhere}
use Rattle.cstar_top.proofs.Stopping.{comes_elsewhere, comes_of_sets, point_saved, reports_as, same_answer}
use Rattle.cstar_top.proofs.run.run_on_phases.Goals as goal

pub with_point-requires-clause-sets : goal.with_point-requires-clause-sets
with_point-requires-clause-sets g c =
    subst (λ (shapes : List SetShape). AreWhole shapes c.into_sets.result.items) (c.run_on-answer.ensures.shapes ∙ c.choose.ensures.shapes ∙ c.in-Ok.ensures.shapes) c.into_sets.ensures.whole

pub returns-clause-report : goal.returns-clause-report
returns-clause-report g c other more =
    let start = c.args.start in
    let image = start.sound in
    let options = c.args.options.now in
    let phases = c.in-Ok.phases in
    let memory = memory_of c.choose.new.self.machine c.choose.new.self.winner in
    let from : Origin = record { image = image; kept = start.kept; memory = memory } in
    let begun = memory_from (shapes_of image) start.winner start.bits in
    let put = subst (λ (shapes : List SetShape). SameBits shapes memory (record { bit = (memory_of phases.machine phases.winner).bit; winner = start.winner })) c.in-Ok.ensures.shapes c.choose.ensures.memory in
    let same = chosen (shapes_of image) memory (memory_of phases.machine phases.winner) start.winner start.bits put c.in-Ok.ensures.memory in
    let behind = c.run_on-answer.new.phases in
    let left = memory_of behind.machine behind.winner in
    let kept = c.run_on-answer.result.1 in
    let answer = c.run_on-answer.result.0 in
    let told = c.with_point.result.answer in
    let point = c.with_point.result.point in
    let asked = is_some options.save in
    let is = same_answer told answer more c.with_point.ensures.own in
    let ran = c.run_on-answer.ensures.report (λ six. other (ap status_of is ∙ six)) (λ eight. more (ap status_of is ∙ eight)) in
    let said = reports_as g.O.Sink.agrees c.args.out.now c.run_on-answer.new.out (g.I.Source.left c.args.input.now) (g.I.Source.left c.run_on-answer.new.input) options from answer told
    (λ (course : Course). (course.stopped ≡ kept) × (course.memory ≡ left)) (ComesWith asked from point)
    (comes_of_sets asked from kept left point options.turns told answer start.winner behind.winner c.into_sets.result.items put.winner is c.run_on-answer.ensures.own c.into_sets.ensures.memory c.with_point.ensures.point c.with_point.ensures.none) ran in
    reported_elsewhere g.O.Sink.agrees c.args.out.now c.run_on-answer.new.out (g.I.Source.left c.args.input.now) (g.I.Source.left c.run_on-answer.new.input) options from begun told
    (ComesWith asked from point) (ComesWith asked (record { image = image; kept = start.kept; memory = begun }) point)
    same (λ course. comes_elsewhere asked from begun point course same.winner) said

pub returns-clause-part : goal.returns-clause-part
returns-clause-part g c =
    let start = c.args.start in
    let image = start.sound in
    let options = c.args.options.now in
    let phases = c.in-Ok.phases in
    let memory = memory_of c.choose.new.self.machine c.choose.new.self.winner in
    let from : Origin = record { image = image; kept = start.kept; memory = memory } in
    let begun = memory_from (shapes_of image) start.winner start.bits in
    let put = subst (λ (shapes : List SetShape). SameBits shapes memory (record { bit = (memory_of phases.machine phases.winner).bit; winner = start.winner })) c.in-Ok.ensures.shapes c.choose.ensures.memory in
    let same = chosen (shapes_of image) memory (memory_of phases.machine phases.winner) start.winner start.bits put c.in-Ok.ensures.memory in
    part_elsewhere g.O.Sink.agrees c.args.out.now c.run_on-answer.new.out (g.I.Source.left c.args.input.now) (g.I.Source.left c.run_on-answer.new.input) options from begun same c.run_on-answer.ensures.part

pub returns-clause-saved : goal.returns-clause-saved
returns-clause-saved g c =
    point_saved c.with_point.result.point c.with_point.result.answer c.run_on-answer.result.0
    (λ (p : Point). (w : Winner) → p ≡ point_with c.args.start.sound c.run_on-answer.result.1 c.args.start.winner (stored c.into_sets.result.items w)) c.with_point.ensures.point
