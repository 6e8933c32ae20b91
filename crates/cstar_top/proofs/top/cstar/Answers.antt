use Rattle.std.proofs.Common.{◌∙◌, List, ℕ, inl, inr, map, subst, sym, ap, arith, lit<, refl}
use Rattle.std.specs.String.{string_bytes}
use Rattle.cstar_io.specs.Output.{Takes}
use Rattle.cstar_words.specs.declared.options.Mode.{Mode}
use Rattle.cstar_top.specs.declared.answer.Answer.TheVariants as A
use Rattle.cstar_top.specs.Answers.{line_of, status_of}
use Rattle.cstar_top.specs.Modes.{budget, leaves_input, limit_of, named, reads_file, runs_image}
use Rattle.cstar_top.specs.Refusals.{AnswersWhy, HoldsLong, RefusesLong, RefusesRun}
use Rattle.cstar_top.specs.Reported.{Holds}
use Rattle.cstar_top.specs.Saved.{IsSaved}
use Rattle.cstar_top.proofs.Asked.{budget_is, few_workers, mode_is, named_is, told_named, told_of_long, told_of_refusal}
use Rattle.cstar_top.proofs.Lines.{status_is}
use Rattle.cstar_top.proofs.Listings.{nothing_taken}
use Rattle.cstar_top.proofs.Outcomes.{answer_told, can_follow, no_usage, part_told, refusal_told, told_is}
use Rattle.cstar_top.proofs.Refusals.{refused_long}
use Rattle.cstar_top.proofs.Reported.{reported_as, whole_is, whole_not}
use Rattle.cstar_top.proofs.top.cstar.Goals as goal

pub new-crew-requires : goal.new-crew-requires
new-crew-requires g c = few_workers (map string_bytes c.args.words.now) c.in-Ok.options c.in-Ok.ensures.reads

pub returns-in-Ok-clause-line : goal.returns-in-Ok-clause-line
returns-in-Ok-clause-line g c other =
    let words = map string_bytes c.args.words.now in
    let options = c.in-Ok.options in
    let name = c.told_name.ensures ∙ told_named words options c.answer-answer.result c.in-Ok.ensures.reads in
    let can = can_follow words options.mode (budget options.mode options.turns) c.answer-answer.result c.in-Ok.ensures.command c.in-Ok.ensures.reads.mode (budget_is words options c.in-Ok.ensures.reads) c.answer-answer.ensures.can in
    answer_told g.E.Sink.agrees c.args.err.now c.report.new.err words c.told_name.result.now c.report.result c.answer-answer.result can name c.report.ensures.status c.report.ensures.own c.report.ensures.memory other

pub returns-in-Ok-clause-part : goal.returns-in-Ok-clause-part
returns-in-Ok-clause-part g c six =
    let words = map string_bytes c.args.words.now in
    let options = c.in-Ok.options in
    let name = c.told_name.ensures ∙ told_named words options c.answer-answer.result c.in-Ok.ensures.reads in
    let can = can_follow words options.mode (budget options.mode options.turns) c.answer-answer.result c.in-Ok.ensures.command c.in-Ok.ensures.reads.mode (budget_is words options c.in-Ok.ensures.reads) c.answer-answer.ensures.can in
    part_told g.E.Sink.agrees c.args.err.now c.report.new.err words c.told_name.result.now c.answer-answer.result can name (c.report.ensures.part six)

pub returns-in-Ok-clause-usage : goal.returns-in-Ok-clause-usage
returns-in-Ok-clause-usage g c two =
    absurd (no_usage c.in-Ok.options.mode (budget c.in-Ok.options.mode c.in-Ok.options.turns) c.answer-answer.result c.answer-answer.ensures.can (status_is 2 c.report.result (status_of c.answer-answer.result) (lit< tt) c.report.ensures.status two))

pub returns-in-Ok-clause-counts : goal.returns-in-Ok-clause-counts
returns-in-Ok-clause-counts g c other =
    (c.answer-answer.ensures.count (λ six. other (c.report.ensures.kept six)), c.report.ensures.other other)

pub returns-in-Ok-clause-input_count : goal.returns-in-Ok-clause-input_count
returns-in-Ok-clause-input_count g c six seven eight =
    let same = told_is c.report.result (status_of c.answer-answer.result) six eight c.report.ensures.status in
    c.answer-answer.ensures.input_count (λ is. six (same ∙ is)) (λ is. seven (same ∙ is))

pub returns-in-Ok-clause-shelf_count : goal.returns-in-Ok-clause-shelf_count
returns-in-Ok-clause-shelf_count g c five six eight nine =
    let same = told_is c.report.result (status_of c.answer-answer.result) six eight c.report.ensures.status in
    c.answer-answer.ensures.shelf_count (λ is. five (same ∙ is)) (λ is. nine (same ∙ is))

pub returns-in-Ok-clause-cannot_save : goal.returns-in-Ok-clause-cannot_save
returns-in-Ok-clause-cannot_save g c nine =
    let status = sym (told_is c.report.result (status_of c.answer-answer.result) (λ six. omega arith) (λ eight. omega arith) c.report.ensures.status) ∙ nine in
    let failed = c.answer-answer.ensures.cannot_save status in
    (failed.0, sym c.in-Ok.ensures.reads.save ∙ failed.1, failed.2)

pub returns-in-Ok-clause-files : goal.returns-in-Ok-clause-files
returns-in-Ok-clause-files g c =
    let options = c.in-Ok.options in
    elim c.answer-answer.ensures.files [
      | inl stay ↦ inl stay
      | inr saved ↦ inr ((options.mode, c.in-Ok.ensures.reads.mode, saved.0), (options, c.in-Ok.ensures.reads, (saved.1.0, saved.1.1, saved.1.2)))
    ]

pub returns-in-Ok-clause-stay : goal.returns-in-Ok-clause-stay
returns-in-Ok-clause-stay g c four six eight nine =
    let same = told_is c.report.result (status_of c.answer-answer.result) six eight c.report.ensures.status in
    c.answer-answer.ensures.stay (λ is. four (same ∙ is)) (λ is. eight (same ∙ is)) (λ is. nine (same ∙ is))

pub returns-in-Ok-clause-silent : goal.returns-in-Ok-clause-silent
returns-in-Ok-clause-silent g c asks =
    c.answer-answer.ensures.silent (mode_is _ c.in-Ok.options _ c.in-Ok.ensures.reads asks)

pub returns-in-Ok-clause-unread : goal.returns-in-Ok-clause-unread
returns-in-Ok-clause-unread g c leaves =
    c.answer-answer.ensures.unread (ap leaves_input (mode_is _ c.in-Ok.options leaves.0 c.in-Ok.ensures.reads leaves.1) ∙ leaves.2)

pub returns-in-Ok-clause-listing : goal.returns-in-Ok-clause-listing
returns-in-Ok-clause-listing g c asks none =
    let name = named_is (map string_bytes c.args.words.now) c.in-Ok.options c.in-Ok.ensures.reads in
    let listed =
    c.answer-answer.ensures.listed
    (mode_is _ c.in-Ok.options _ c.in-Ok.ensures.reads asks)
    (status_is 0 c.report.result (status_of c.answer-answer.result) (lit< tt) c.report.ensures.status none) in
    (listed.0, subst (λ (file : List ℕ). Holds g.S.Shelf.tells g.S.Shelf.file c.args.shelf.now file listed.0) (sym name) listed.1, listed.2)

pub returns-in-Ok-clause-part_of_listing : goal.returns-in-Ok-clause-part_of_listing
returns-in-Ok-clause-part_of_listing g c asks =
    let name = named_is (map string_bytes c.args.words.now) c.in-Ok.options c.in-Ok.ensures.reads in
    elim (c.answer-answer.ensures.part (mode_is _ c.in-Ok.options _ c.in-Ok.ensures.reads asks)) [
      | inl nothing ↦ inl nothing
      | inr part ↦ inr (part.0, subst (λ (file : List ℕ). Holds g.S.Shelf.tells g.S.Shelf.file c.args.shelf.now file part.0) (sym name) part.1, part.2)
    ]

pub returns-in-Ok-clause-drill : goal.returns-in-Ok-clause-drill
returns-in-Ok-clause-drill g c asks none = (
  c.in-Ok.options,
  c.in-Ok.ensures.reads,
  c.answer-answer.ensures.drill
      (mode_is _ c.in-Ok.options _ c.in-Ok.ensures.reads asks)
      (status_is 0 c.report.result (status_of c.answer-answer.result) (lit< tt) c.report.ensures.status none),
)

pub returns-in-Ok-clause-part_of_drill : goal.returns-in-Ok-clause-part_of_drill
returns-in-Ok-clause-part_of_drill g c asks =
    elim (c.answer-answer.ensures.part_of_drill (mode_is _ c.in-Ok.options _ c.in-Ok.ensures.reads asks)) [
      | inl nothing ↦ inl nothing
      | inr part ↦ inr (c.in-Ok.options, c.in-Ok.ensures.reads, part)
    ]

pub returns-in-Ok-clause-silent_drill : goal.returns-in-Ok-clause-silent_drill
returns-in-Ok-clause-silent_drill g c asks none six eight =
    let same = told_is c.report.result (status_of c.answer-answer.result) six eight c.report.ensures.status in
    c.answer-answer.ensures.silent_drill (mode_is _ c.in-Ok.options _ c.in-Ok.ensures.reads asks) (λ is. none (same ∙ is)) (λ is. six (same ∙ is))

pub returns-in-Ok-clause-why : goal.returns-in-Ok-clause-why
returns-in-Ok-clause-why g c mode asks runs three =
    let words = map string_bytes c.args.words.now in
    let options = c.in-Ok.options in
    let is = mode_is _ options mode c.in-Ok.ensures.reads asks in
    let name = named_is words options c.in-Ok.ensures.reads in
    let status = status_is 3 c.report.result (status_of c.answer-answer.result) (lit< tt) c.report.ensures.status three in
    let why = c.answer-answer.ensures.why (ap runs_image is ∙ runs) status in
    let own = c.report.ensures.own (three ∙ sym status) (λ six. omega arith) (λ eight. omega arith) in
    let told = c.told_name.ensures ∙ told_of_refusal options c.answer-answer.result status ∙ sym name in
    let line = subst (λ (file : List ℕ). Takes g.E.Sink.agrees c.args.err.now c.report.new.err (line_of file c.answer-answer.result)) told own in (
      why.0,
      subst (λ (file : List ℕ). Holds g.S.Shelf.tells g.S.Shelf.file c.args.shelf.now file why.0) (sym name) why.1,
      refusal_told g.E.Sink.agrees c.args.err.now c.report.new.err (named words) (RefusesRun mode why.0) c.answer-answer.result status
          (subst (λ (m : Mode). AnswersWhy (RefusesRun m why.0) c.answer-answer.result) is why.2) line,
    )

pub returns-in-Ok-clause-report : goal.returns-in-Ok-clause-report
returns-in-Ok-clause-report g c asks whole =
    let options = c.in-Ok.options in
    let answer = c.answer-answer.result in
    let same = whole_is c.report.result (status_of answer) whole c.report.ensures.status in
    let others = whole_not c.report.result whole in
    let runs = ap runs_image (mode_is _ options asks.0 c.in-Ok.ensures.reads asks.1) ∙ asks.2 in
    let own = c.report.ensures.own same others.3 others.4 in
    let reported = c.answer-answer.ensures.report runs (λ is. others.1 (same ∙ is)) (λ is. others.2 (same ∙ is)) (λ is. others.3 (same ∙ is)) (λ is. others.4 (same ∙ is)) in (
      options,
      c.in-Ok.ensures.reads,
      (
        reported.0,
        reported.1,
        (
          answer,
          sym same,
          subst (λ (name : List ℕ). Takes g.E.Sink.agrees c.args.err.now c.report.new.err (line_of name answer)) c.told_name.ensures own,
          reported_as g.O.Sink.agrees c.args.out.now c.answer-answer.new.out (g.I.Source.left c.args.input.now) (g.I.Source.left c.answer-answer.new.input) options reported.0 answer
              (IsSaved g.S.Shelf.tells g.S.Shelf.file c.args.shelf.now c.answer-answer.new.shelf options reported.0 (status_of answer)) (IsSaved g.S.Shelf.tells g.S.Shelf.file c.args.shelf.now c.answer-answer.new.shelf options reported.0 c.report.result)
              (λ from course saved. ((λ four. saved.0 (sym same ∙ four)), saved.1)) reported.2,
        ),
      ),
    )

pub returns-in-Ok-clause-part_of_report : goal.returns-in-Ok-clause-part_of_report
returns-in-Ok-clause-part_of_report g c asks =
    let options = c.in-Ok.options in
    let runs = ap runs_image (mode_is _ options asks.0 c.in-Ok.ensures.reads asks.1) ∙ asks.2 in
    elim (c.answer-answer.ensures.part_of_report runs) [
      | inl nothing ↦ inl nothing
      | inr part ↦ inr (options, c.in-Ok.ensures.reads, (part.0, part.1, part.2))
    ]

pub returns-in-Ok-clause-too_long : goal.returns-in-Ok-clause-too_long
returns-in-Ok-clause-too_long g c command mode asks reads long =
    let words = map string_bytes c.args.words.now in
    let options = c.in-Ok.options in
    let name = named_is words options c.in-Ok.ensures.reads in
    let is = mode_is words options mode c.in-Ok.ensures.reads asks in
    let told = subst (λ (file : List ℕ). HoldsLong g.S.Shelf.tells g.S.Shelf.file c.args.shelf.now (limit_of options.mode) file) name
    (subst (λ (m : Mode). HoldsLong g.S.Shelf.tells g.S.Shelf.file c.args.shelf.now (limit_of m) (named words)) (sym is) long) in
    let refused = c.answer-answer.ensures.too_long (ap reads_file is ∙ reads) told in
    subst (λ (file : List ℕ). RefusesLong g.E.Sink.agrees c.args.err.now c.report.new.err file c.report.result) (sym name)
    (refused_long g.E.Sink.agrees c.args.err.now c.report.new.err options.file.now c.report.result c.answer-answer.result refused c.report.ensures.status
    (λ own six eight. subst (λ (file : List ℕ). Takes g.E.Sink.agrees c.args.err.now c.report.new.err (line_of file c.answer-answer.result)) (c.told_name.ensures ∙ told_of_long options c.answer-answer.result refused) (c.report.ensures.own own six eight)))

pub returns-in-Err-Usage-clause-part_of_listing : goal.returns-in-Err-Usage-clause-part_of_listing
returns-in-Err-Usage-clause-part_of_listing g c asks = nothing_taken g.O.Sink.agrees c.args.out.now

pub returns-in-Err-Memory-clause-part_of_listing : goal.returns-in-Err-Memory-clause-part_of_listing
returns-in-Err-Memory-clause-part_of_listing g c asks = nothing_taken g.O.Sink.agrees c.args.out.now

pub returns-in-Err-Usage-clause-line : goal.returns-in-Err-Usage-clause-line
unfolding line_of
returns-in-Err-Usage-clause-line g c other =
    let words = map string_bytes c.args.words.now in
    let told = answer_told g.E.Sink.agrees c.args.err.now c.report-in-Err-Usage.new.err words (named words) c.report-in-Err-Usage.result A.Usage (c.in-Err-Usage.ensures.refused c.in-Err-Usage.field-0-is) refl c.report-in-Err-Usage.ensures.status c.report-in-Err-Usage.ensures.own c.report-in-Err-Usage.ensures.memory other in
    told

pub returns-in-Err-Usage-clause-part : goal.returns-in-Err-Usage-clause-part
unfolding line_of
returns-in-Err-Usage-clause-part g c six =
    let words = map string_bytes c.args.words.now in
    part_told g.E.Sink.agrees c.args.err.now c.report-in-Err-Usage.new.err words (named words) A.Usage (c.in-Err-Usage.ensures.refused c.in-Err-Usage.field-0-is) refl (c.report-in-Err-Usage.ensures.part six)

pub returns-in-Err-Memory-clause-line : goal.returns-in-Err-Memory-clause-line
unfolding line_of
returns-in-Err-Memory-clause-line g c other =
    let words = map string_bytes c.args.words.now in
    answer_told g.E.Sink.agrees c.args.err.now c.report-in-Err-Memory.new.err words (named words) c.report-in-Err-Memory.result A.Memory tt refl c.report-in-Err-Memory.ensures.status c.report-in-Err-Memory.ensures.own c.report-in-Err-Memory.ensures.memory other

pub returns-in-Err-Memory-clause-part : goal.returns-in-Err-Memory-clause-part
unfolding line_of
returns-in-Err-Memory-clause-part g c six =
    let words = map string_bytes c.args.words.now in
    part_told g.E.Sink.agrees c.args.err.now c.report-in-Err-Memory.new.err words (named words) A.Memory tt refl (c.report-in-Err-Memory.ensures.part six)
