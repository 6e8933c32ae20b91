use Rattle.std.proofs.Common.{◌≡◌, ◌<◌, ◌∙◌, ℕ, List, Bool, inl, inr, ap, sym, subst, refl, length, arith}
use Rattle.std.specs.Prelude.{IsTrue}
use Rattle.cstar_io.specs.Faults.{RisesBy}
use Rattle.cstar_io.specs.Output.{TakesNothing}
use Rattle.cstar_top.specs.declared.answer.Answer.{Answer}
use Rattle.cstar_top.specs.Answers.{status_of}
use Rattle.cstar_top.specs.Listings.{TakesListing, TakesPartOfListing}
use Rattle.cstar_top.specs.Modes.{budget, limit_of}
use Rattle.cstar_top.specs.Outcomes.{CanAnswer}
use Rattle.cstar_top.specs.Refusals.{AnswersWhy, RefusesRun}
use Rattle.cstar_top.specs.Reported.{Begins, ReportsText, ReportsTextPart}
use Rattle.cstar_top.specs.Saved.{IsSaved}
use Rattle.cstar_top.proofs.Refusals.{budget_is, check_not_run, cut_is_long, held_or_long, left_not_run, list_not_run, long_why, text_limit}
use Rattle.cstar_top.proofs.Listings.{refused_not_done}
use Rattle.cstar_top.proofs.Reported.{reported_as}
use Rattle.cstar_top.proofs.top.answer.Goals as goal

pub returns-then-runs_image-clause-can : goal.returns-then-runs_image-clause-can
returns-then-runs_image-clause-can g c =
    let mode = c.args.options.now.mode in
    let runs = sym c.runs_image.ensures ∙ c.if-runs_image.true in
    subst (λ (turns : ℕ). CanAnswer mode turns c.run_text.result) (sym (budget_is mode c.args.options.now.turns runs)) c.run_text.ensures.can

pub returns-then-runs_image-clause-too_long : goal.returns-then-runs_image-clause-too_long
returns-then-runs_image-clause-too_long g c reads long =
    let mode = c.args.options.now.mode in
    let held = g.S.Shelf.file c.args.shelf.now c.args.options.now.file.now in
    let at : c.limit.result ≡ limit_of mode = c.limit.ensures in
    let more : c.limit.result < length long.1.0 = omega (arith, at, long.1.2) in
    let cut : c.limit.result < length c.in-Ok.text.items = cut_is_long c.limit.result held long.1.0 c.in-Ok.text.items long.1.1 (c.in-Ok.ensures.bytes long.0) more in
    inl (c.run_text.ensures.too_long (omega (arith, at, cut)))

pub returns-else-runs_image-clause-too_long : goal.returns-else-runs_image-clause-too_long
returns-else-runs_image-clause-too_long g c reads long =
    let mode = c.args.options.now.mode in
    let held = g.S.Shelf.file c.args.shelf.now c.args.options.now.file.now in
    let at : c.limit.result ≡ limit_of mode = c.limit.ensures in
    let same : limit_of mode ≡ 1048576 = text_limit mode (sym c.runs_image.ensures ∙ c.if-runs_image.false) in
    let more : c.limit.result < length long.1.0 = omega (arith, at, long.1.2) in
    let cut : c.limit.result < length c.in-Ok.text.items = cut_is_long c.limit.result held long.1.0 c.in-Ok.text.items long.1.1 (c.in-Ok.ensures.bytes long.0) more in
    let slice : length c.as_slice.result.now ≡ length c.in-Ok.text.items = ap (λ (xs : List ℕ). length xs) c.as_slice.ensures.value in
    inl (c.compile_text.ensures.too_long (omega (arith, at, same, cut, slice)))

pub returns-then-runs_image-clause-report : goal.returns-then-runs_image-clause-report
returns-then-runs_image-clause-report g c runs three five six eight =
    let options = c.args.options.now in
    let file = g.S.Shelf.file c.args.shelf.now options.file.now in
    let status = status_of c.run_text.result in
    let held = held_or_long (g.S.Shelf.tells c.args.shelf.now) c.limit.result file c.in-Ok.text.items c.in-Ok.ensures.bytes in
    let at : c.limit.result ≡ limit_of options.mode = c.limit.ensures in
    elim held.2 [
      | inl same ↦ (
        held.0,
        held.1,
        subst (λ (text : List ℕ). ReportsText g.O.Sink.agrees c.args.out.now c.run_text.new.out (g.I.Source.left c.args.input.now) (g.I.Source.left c.run_text.new.input) options text c.run_text.result (IsSaved g.S.Shelf.tells g.S.Shelf.file c.args.shelf.now c.run_text.new.shelf options text status)) (sym same)
            (reported_as g.O.Sink.agrees c.args.out.now c.run_text.new.out (g.I.Source.left c.args.input.now) (g.I.Source.left c.run_text.new.input) options c.in-Ok.text.items c.run_text.result
            (IsSaved g.S.Shelf.tells g.S.Shelf.file c.fetch.new.self c.run_text.new.shelf options c.in-Ok.text.items status) (IsSaved g.S.Shelf.tells g.S.Shelf.file c.args.shelf.now c.run_text.new.shelf options c.in-Ok.text.items status)
            (λ from course saved. ((λ four name is. let held = saved.0 four name is in (held.0, held.1, λ told. held.2 (subst (λ (t : Bool). IsTrue t) (sym c.in-Ok.ensures.tells) told))), saved.1))
            (c.run_text.ensures.report three six eight)),
      )
      | inr long ↦ let cut : limit_of options.mode < length c.in-Ok.text.items = omega (arith, at, long.1) in
          absurd (three (ap status_of (c.run_text.ensures.too_long cut)))
    ]

pub returns-then-runs_image-clause-part_of_report : goal.returns-then-runs_image-clause-part_of_report
returns-then-runs_image-clause-part_of_report g c runs =
    let options = c.args.options.now in
    let file = g.S.Shelf.file c.args.shelf.now options.file.now in
    let held = held_or_long (g.S.Shelf.tells c.args.shelf.now) c.limit.result file c.in-Ok.text.items c.in-Ok.ensures.bytes in
    let at : c.limit.result ≡ limit_of options.mode = c.limit.ensures in
    elim c.run_text.ensures.part [
      | inl nothing ↦ inl nothing
      | inr part ↦ elim held.2 [
        | inl same ↦ inr (
          held.0,
          held.1,
          subst (λ (text : List ℕ). ReportsTextPart g.O.Sink.agrees c.args.out.now c.run_text.new.out (g.I.Source.left c.args.input.now) (g.I.Source.left c.run_text.new.input) options text) (sym same) part,
        )
        | inr long ↦ let cut : limit_of options.mode < length c.in-Ok.text.items = omega (arith, at, long.1) in
            let refused = c.run_text.ensures.refused (ap status_of (c.run_text.ensures.too_long cut)) in
            inl (subst (λ out. TakesNothing g.O.Sink.agrees c.args.out.now out) (sym refused.0) (λ before is. is))
      ]
    ]

pub returns-then-runs_image-clause-why : goal.returns-then-runs_image-clause-why
returns-then-runs_image-clause-why g c runs three =
    let options = c.args.options.now in
    let file = g.S.Shelf.file c.args.shelf.now options.file.now in
    let held = held_or_long (g.S.Shelf.tells c.args.shelf.now) c.limit.result file c.in-Ok.text.items c.in-Ok.ensures.bytes in
    let at : c.limit.result ≡ limit_of options.mode = c.limit.ensures in
    elim held.2 [
      | inl same ↦ (held.0, held.1, subst (λ (text : List ℕ). AnswersWhy (RefusesRun options.mode text) c.run_text.result) (sym same) c.run_text.ensures.why)
      | inr long ↦ let cut : limit_of options.mode < length c.in-Ok.text.items = omega (arith, at, long.1) in
          let whole : limit_of options.mode < length held.0 = omega (arith, at, long.0) in
          (held.0, held.1, subst (λ (answer : Answer). AnswersWhy (RefusesRun options.mode held.0) answer) (sym (c.run_text.ensures.too_long cut)) (long_why options.mode held.0 runs whole))
    ]

pub returns-then-runs_image-clause-files : goal.returns-then-runs_image-clause-files
returns-then-runs_image-clause-files g c =
    let options = c.args.options.now in
    let runs = sym c.runs_image.ensures ∙ c.if-runs_image.true in
    let file = g.S.Shelf.file c.args.shelf.now options.file.now in
    let held = held_or_long (g.S.Shelf.tells c.args.shelf.now) c.limit.result file c.in-Ok.text.items c.in-Ok.ensures.bytes in
    let at : c.limit.result ≡ limit_of options.mode = c.limit.ensures in
    elim c.run_text.ensures.files [
      | inl stay ↦ inl (λ name. stay name ∙ c.in-Ok.ensures.files name)
      | inr saved ↦ elim held.2 [
        | inl same ↦ inr (
          runs,
          (
            held.0,
            held.1,
            (
              saved.0,
              subst (λ (text : List ℕ). Begins options.mode options.winner text saved.0) (sym same) saved.1,
              (saved.2.0, saved.2.1, (λ other else. saved.2.2 other else ∙ c.in-Ok.ensures.files other), saved.2.3),
            ),
          ),
        )
        | inr long ↦ let cut : limit_of options.mode < length c.in-Ok.text.items = omega (arith, at, long.1) in
            let three = ap status_of (c.run_text.ensures.too_long cut) in
            inl (λ name. c.run_text.ensures.stay (λ four. omega arith) (λ eight. omega arith) (λ nine. omega arith) name ∙ c.in-Ok.ensures.files name)
      ]
    ]

pub returns-then-runs_image-clause-stay : goal.returns-then-runs_image-clause-stay
returns-then-runs_image-clause-stay g c four eight nine = λ name. c.run_text.ensures.stay four eight nine name ∙ c.in-Ok.ensures.files name

pub returns-then-runs_image-clause-cannot_save : goal.returns-then-runs_image-clause-cannot_save
returns-then-runs_image-clause-cannot_save g c nine =
    let failed = c.run_text.ensures.cannot_save nine in
    (failed.0, failed.1, (subst (λ (count : ℕ). RisesBy count (g.S.Shelf.faults c.run_text.new.shelf)) (c.in-Ok.ensures.other refl) failed.2.0, failed.2.1))

pub returns-then-runs_image-clause-shelf_count : goal.returns-then-runs_image-clause-shelf_count
returns-then-runs_image-clause-shelf_count g c five nine = c.run_text.ensures.shelf_count nine ∙ c.in-Ok.ensures.other refl

pub returns-then-runs_image-clause-unreadable : goal.returns-then-runs_image-clause-unreadable
returns-then-runs_image-clause-unreadable g c five = absurd (c.run_text.ensures.readable five)

pub returns-then-runs_image-clause-listed : goal.returns-then-runs_image-clause-listed
returns-then-runs_image-clause-listed g c asks none = absurd (list_not_run c.args.options.now.mode (sym c.runs_image.ensures ∙ c.if-runs_image.true) asks)

pub returns-then-runs_image-clause-part : goal.returns-then-runs_image-clause-part
returns-then-runs_image-clause-part g c asks = absurd (list_not_run c.args.options.now.mode (sym c.runs_image.ensures ∙ c.if-runs_image.true) asks)

pub returns-then-runs_image-clause-silent : goal.returns-then-runs_image-clause-silent
returns-then-runs_image-clause-silent g c asks = absurd (check_not_run c.args.options.now.mode (sym c.runs_image.ensures ∙ c.if-runs_image.true) asks)

pub returns-then-runs_image-clause-unread : goal.returns-then-runs_image-clause-unread
returns-then-runs_image-clause-unread g c leaves = absurd (left_not_run c.args.options.now.mode (sym c.runs_image.ensures ∙ c.if-runs_image.true) leaves)

pub returns-else-runs_image-clause-can : goal.returns-else-runs_image-clause-can
returns-else-runs_image-clause-can g c = c.compile_text.ensures.can (budget c.args.options.now.mode c.args.options.now.turns)

pub returns-else-runs_image-clause-shelf_count : goal.returns-else-runs_image-clause-shelf_count
returns-else-runs_image-clause-shelf_count g c five nine = c.in-Ok.ensures.other refl

pub returns-else-runs_image-clause-files : goal.returns-else-runs_image-clause-files
returns-else-runs_image-clause-files g c = inl (λ name. c.in-Ok.ensures.files name)

pub returns-else-runs_image-clause-stay : goal.returns-else-runs_image-clause-stay
returns-else-runs_image-clause-stay g c four eight nine = λ name. c.in-Ok.ensures.files name

pub returns-else-runs_image-clause-listed : goal.returns-else-runs_image-clause-listed
returns-else-runs_image-clause-listed g c asks done =
    let options = c.args.options.now in
    let file = g.S.Shelf.file c.args.shelf.now options.file.now in
    let held = held_or_long (g.S.Shelf.tells c.args.shelf.now) c.limit.result file c.in-Ok.text.items c.in-Ok.ensures.bytes in
    let at : c.limit.result ≡ limit_of options.mode = c.limit.ensures in
    let same : limit_of options.mode ≡ 1048576 = text_limit options.mode (sym c.runs_image.ensures ∙ c.if-runs_image.false) in
    let slice : length c.as_slice.result.now ≡ length c.in-Ok.text.items = ap (λ (xs : List ℕ). length xs) c.as_slice.ensures.value in
    elim held.2 [
      | inl is ↦ (
        held.0,
        held.1,
        subst (λ (text : List ℕ). TakesListing g.O.Sink.agrees c.args.out.now c.compile_text.new.out text) (c.as_slice.ensures.value ∙ sym is) (c.compile_text.ensures.listed asks done),
      )
      | inr long ↦ let cut = c.compile_text.ensures.too_long (omega (arith, at, same, slice, long.1)) in
          absurd (refused_not_done c.compile_text.result cut done)
    ]

pub returns-else-runs_image-clause-part : goal.returns-else-runs_image-clause-part
returns-else-runs_image-clause-part g c asks =
    let options = c.args.options.now in
    let file = g.S.Shelf.file c.args.shelf.now options.file.now in
    let held = held_or_long (g.S.Shelf.tells c.args.shelf.now) c.limit.result file c.in-Ok.text.items c.in-Ok.ensures.bytes in
    let at : c.limit.result ≡ limit_of options.mode = c.limit.ensures in
    let same : limit_of options.mode ≡ 1048576 = text_limit options.mode (sym c.runs_image.ensures ∙ c.if-runs_image.false) in
    let slice : length c.as_slice.result.now ≡ length c.in-Ok.text.items = ap (λ (xs : List ℕ). length xs) c.as_slice.ensures.value in
    elim (c.compile_text.ensures.part asks) [
      | inl nothing ↦ inl nothing
      | inr part ↦ elim held.2 [
        | inl is ↦ inr (
          held.0,
          held.1,
          subst (λ (text : List ℕ). TakesPartOfListing g.O.Sink.agrees c.args.out.now c.compile_text.new.out text) (c.as_slice.ensures.value ∙ sym is) part,
        )
        | inr long ↦ let cut = c.compile_text.ensures.too_long (omega (arith, at, same, slice, long.1)) in
            inl (subst (λ out. TakesNothing g.O.Sink.agrees c.args.out.now out) (sym (c.compile_text.ensures.refused (ap status_of cut))) (λ before is. is))
      ]
    ]
