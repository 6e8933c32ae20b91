use Rattle.std.proofs.Common.{◌≡◌, ◌≢◌, ◌∙◌, ℕ, List, [], Option, Some, ap, arith, drop, inl, inr, map, sym, subst, true, true≢false}
use Rattle.std.specs.String.{string_bytes}
use Rattle.cstar_words.specs.Reading.{is_command}
use Rattle.cstar_words.specs.declared.options.Options.{Options}
use Rattle.cstar_top.specs.Saved.{IsSaved}
use Rattle.batch_jobs.specs.declared.one_file.OneFile.{OneFile}
use Rattle.batch_jobs.specs.Answering.{AnswersJob, ReportsRefusal, words_of_job}
use Rattle.batch_jobs.specs.declared.page.Page.{Page}
use Rattle.batch_jobs.proofs.Reporting.{Held, IsEmpty, LongOf, PartOf, WholeOf, kinds, never_rises, over_told, refusal_told, run_told}
use Rattle.batch_jobs.proofs.Words.{is_job_command}
use Rattle.batch_jobs.proofs.report.job.Goals as goal

pub returns-then-status-eq-WRITE_FAULT : goal.returns-then-status-eq-WRITE_FAULT
returns-then-status-eq-WRITE_FAULT g c =
    let out : Held = record { faults = c.new-out.result.faults; over = c.new-out.result.over; bytes = c.new-out.result.bytes.items } in
    let new = c.cstar-status.new.out in
    let out' : Held = record { faults = new.faults; over = new.over; bytes = new.bytes.items } in
    let input = c.new-input.result in
    let read = c.cstar-status.new.input in
    let words = map string_bytes c.as_slice.result.now in
    let asked : words ≡ words_of_job c.args.name.now = ap (map string_bytes) c.as_slice.ensures.value ∙ c.in_ok-words.ensures in
    over_told c.args.name.now c.args.file.now words out out' (Some (drop input.at input.bytes.items)) (Some (drop read.at read.bytes.items)) c.too_much.result asked
    (c.new-input.ensures ∙ ap (λ (xs : List ℕ). Some xs) c.new.ensures.items)
    (record { faults = c.new-out.ensures.faults; within = c.new-out.ensures.over; none = c.new-out.ensures.bytes })
    c.too_much.ensures.over c.too_much.ensures.own
    (subst (λ (file : List ℕ). PartOf words out out' (Some (drop input.at input.bytes.items)) (Some (drop read.at read.bytes.items)) file) c.new-shelf.ensures c.cstar-status.ensures.part_of_report)

pub returns : goal.returns
returns g c =
    let status = c.cstar-status.result in
    let name = c.args.name.now in
    let file = c.args.file.now in
    let out : Held = record { faults = c.new-out.result.faults; over = c.new-out.result.over; bytes = c.new-out.result.bytes.items } in
    let err : Held = record { faults = c.new-err.result.faults; over = c.new-err.result.over; bytes = c.new-err.result.bytes.items } in
    let new = c.cstar-status.new.out in
    let out' : Held = record { faults = new.faults; over = new.over; bytes = new.bytes.items } in
    let line = c.cstar-status.new.err in
    let err' : Held = record { faults = line.faults; over = line.over; bytes = line.bytes.items } in
    let input = c.new-input.result in
    let read = c.cstar-status.new.input in
    let words = map string_bytes c.as_slice.result.now in
    let asked : words ≡ words_of_job name = ap (map string_bytes) c.as_slice.ensures.value ∙ c.in_ok-words.ensures in
    let none = c.new-input.ensures ∙ ap (λ (xs : List ℕ). Some xs) c.new.ensures.items in
    let empty : IsEmpty out = record { faults = c.new-out.ensures.faults; within = c.new-out.ensures.over; none = c.new-out.ensures.bytes } in
    let silent : IsEmpty err = record { faults = c.new-err.ensures.faults; within = c.new-err.ensures.over; none = c.new-err.ensures.bytes } in
    let six : status ≢ 6 = λ is. omega (arith, c.if-status-eq-WRITE_FAULT.false, is) in
    let eight : status ≢ 8 = λ is. omega (arith, c.if-status-eq-NO_MEMORY.false, is) in
    let seven : status ≢ 7 = λ is. never_rises (c.cstar-status.ensures.input_fault is) in
    let five : status ≢ 5 = λ is. never_rises (c.cstar-status.ensures.unreadable is).2.0 in
    let More = λ (options : Options) (text : List ℕ). IsSaved {S = OneFile} (λ shelf. true) (λ shelf under. Some shelf.text.now) c.new-shelf.result c.cstar-status.new.shelf options text status in
    let nine : status ≢ 9 = λ is. never_rises (c.cstar-status.ensures.cannot_save is).2.0 in
    let two : status ≢ 2 = λ is. true≢false (sym (ap is_command asked ∙ is_job_command name) ∙ (c.cstar-status.ensures.usage is).0) in
    let counts = c.cstar-status.ensures.counts six in
    let whole = counts.0 ∙ c.new-out.ensures.faults in
    let told = counts.1 ∙ c.new-err.ensures.faults in
    let left = Some (drop input.at input.bytes.items) in
    let rest = Some (drop read.at read.bytes.items) in
    let answers : AnswersJob name file (record { status = status; out = new.bytes.items; err = line.bytes.items }) = elim (kinds status c.cstar-status.ensures.listed two five six seven eight nine) [
      | inl three ↦ let same = ap (λ (p : Page 1048576). p.bytes.items) (c.cstar-status.ensures.refused three).0 in
          inr (inl (subst (λ (xs : List ℕ). ReportsRefusal name file (record { status = status; out = xs; err = line.bytes.items })) (sym same)
          (refusal_told name file words status 18446744073709551615 out err err' asked three empty silent told (c.cstar-status.ensures.line six)
          (subst (λ (text : List ℕ). LongOf words status 18446744073709551615 err err' text) c.new-shelf.ensures c.cstar-status.ensures.too_long))))
      | inr is ↦ inl (run_told name file words status 18446744073709551615 out out' err err' left rest More asked none is seven nine empty silent whole told (omega (arith, new.bytes.ok, new.within))
          (subst (λ (text : List ℕ). WholeOf words status 18446744073709551615 out out' err err' left rest text More) c.new-shelf.ensures c.cstar-status.ensures.report))
    ] in
    subst (λ (xs : List ℕ). AnswersJob name file (record { status = status; out = xs; err = c.into_word-2.result })) (sym c.into_word.ensures)
    (subst (λ (xs : List ℕ). AnswersJob name file (record { status = status; out = new.bytes.items; err = xs })) (sym c.into_word-2.ensures) answers)
