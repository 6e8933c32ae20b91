use Rattle.std.proofs.Common.{inl, inr, sym, subst}
use Rattle.cstar_top.specs.declared.answer.Answer.{Answer}
use Rattle.cstar_top.specs.Outcomes.{CanAnswer}
use Rattle.cstar_top.specs.Refusals.{AnswersWhy, RefusesRun}
use Rattle.point_runs.specs.Starts.{origin_of}
use Rattle.cstar_top.proofs.Keeping.{report_saved}
use Rattle.cstar_top.proofs.Outcomes.{can_run, refusal_why, run_answers, run_refused}
use Rattle.cstar_top.proofs.top.run_text.Goals as goal

pub returns-in-Ok-clause-can : goal.returns-in-Ok-clause-can
returns-in-Ok-clause-can g c =
    can_run c.args.options.now.mode c.args.options.now.turns c.run_image.result c.requires c.run_image.ensures.end

pub returns-in-Ok-clause-why : goal.returns-in-Ok-clause-why
returns-in-Ok-clause-why g c =
    run_answers (RefusesRun c.args.options.now.mode c.args.text.items) c.args.options.now.turns c.run_image.result c.run_image.ensures.end

pub returns-in-Ok-clause-report : goal.returns-in-Ok-clause-report
returns-in-Ok-clause-report g c three six eight = (
  origin_of c.in-Ok.start,
  c.in-Ok.ensures.begins,
  report_saved g.O.Sink.agrees c.args.out.now c.run_image.new.out (g.I.Source.left c.args.input.now) (g.I.Source.left c.run_image.new.input) g.S.Shelf.tells g.S.Shelf.file c.args.shelf.now c.run_image.new.shelf c.args.options.now c.args.text.items (origin_of c.in-Ok.start) c.run_image.result c.in-Ok.ensures.begins (c.run_image.ensures.report six eight),
)

pub returns-in-Ok-clause-part : goal.returns-in-Ok-clause-part
returns-in-Ok-clause-part g c =
    inr (origin_of c.in-Ok.start, c.in-Ok.ensures.begins, c.run_image.ensures.part)

pub returns-in-Ok-clause-files : goal.returns-in-Ok-clause-files
returns-in-Ok-clause-files g c =
    elim c.run_image.ensures.files [
      | inl stay ↦ inl stay
      | inr saves ↦ inr (origin_of c.in-Ok.start, c.in-Ok.ensures.begins, saves)
    ]

pub returns-in-Err-clause-can : goal.returns-in-Err-clause-can
returns-in-Err-clause-can g c =
    let mode = c.args.options.now.mode in
    let turns = c.args.options.now.turns in
    subst (λ (answer : Answer). CanAnswer mode turns answer) (sym c.refusal.ensures.own) (run_refused mode turns c.args.text.items c.in-Err.no_image c.in-Err.ensures.refused)

pub returns-in-Err-clause-why : goal.returns-in-Err-clause-why
returns-in-Err-clause-why g c =
    let Why = RefusesRun c.args.options.now.mode c.args.text.items in
    subst (λ (answer : Answer). AnswersWhy Why answer) (sym c.refusal.ensures.own) (refusal_why Why c.in-Err.no_image c.in-Err.ensures.refused)
