use Rattle.std.proofs.Common.{◌<◌, map, sym, ap, ◌∙◌, arith}
use Rattle.std.specs.String.{string_bytes}
use Rattle.job_callers.proofs.Growing.{answers_well, named_at, section_part, section_taken}
use Rattle.job_callers.proofs.batch.Batch.put_section.Goals as goal

pub returns-in-Some-clause-whole : goal.returns-in-Some-clause-whole
returns-in-Some-clause-whole g c =
    section_taken g.O.Sink.agrees g.J.Judge.answers (map string_bytes c.args.self.now.names.now) c.args.number c.args.out.now c.put_text.new.out c.as_bytes-name.result.now c.in-Some.report.now
    (named_at string_bytes c.args.self.now.names.now c.args.number c.index-self-number.result c.as_bytes-name.result.now c.requires.named c.index-self-number.is (c.as_bytes-name.ensures.value ∙ ap string_bytes (sym c.index-self-number.is)))
    c.in-Some.ensures.answers c.put_text.result c.put_text.ensures.whole

pub returns-in-Some-clause-part : goal.returns-in-Some-clause-part
returns-in-Some-clause-part g c =
    section_part g.O.Sink.agrees g.J.Judge.answers (map string_bytes c.args.self.now.names.now) c.args.number c.args.out.now c.put_text.new.out c.as_bytes-name.result.now c.in-Some.report.now
    (named_at string_bytes c.args.self.now.names.now c.args.number c.index-self-number.result c.as_bytes-name.result.now c.requires.named c.index-self-number.is (c.as_bytes-name.ensures.value ∙ ap string_bytes (sym c.index-self-number.is)))
    c.in-Some.ensures.answers c.put_text.result c.put_text.ensures.part

pub returns-in_ok-work-in-None-clause-whole : goal.returns-in_ok-work-in-None-clause-whole
returns-in_ok-work-in-None-clause-whole g c =
    let within : c.args.number < g.J.Judge.jobs = omega (arith, c.requires.named, c.requires.count) in
    let report = c.in_ok-work-in-None.field-0 in
    let answered = answers_well g.J.Judge.answers c.args.number c.work.result report (c.requires.answers c.args.number c.work.result within c.work.ensures) c.in_ok-work-in-None.was in
    section_taken g.O.Sink.agrees g.J.Judge.answers (map string_bytes c.args.self.now.names.now) c.args.number c.args.out.now c.put_text-in-None.new.out c.as_bytes-name.result.now report
    (named_at string_bytes c.args.self.now.names.now c.args.number c.index-self-number.result c.as_bytes-name.result.now c.requires.named c.index-self-number.is (c.as_bytes-name.ensures.value ∙ ap string_bytes (sym c.index-self-number.is)))
    answered c.put_text-in-None.result c.put_text-in-None.ensures.whole

pub returns-in_ok-work-in-None-clause-part : goal.returns-in_ok-work-in-None-clause-part
returns-in_ok-work-in-None-clause-part g c =
    let within : c.args.number < g.J.Judge.jobs = omega (arith, c.requires.named, c.requires.count) in
    let report = c.in_ok-work-in-None.field-0 in
    let answered = answers_well g.J.Judge.answers c.args.number c.work.result report (c.requires.answers c.args.number c.work.result within c.work.ensures) c.in_ok-work-in-None.was in
    section_part g.O.Sink.agrees g.J.Judge.answers (map string_bytes c.args.self.now.names.now) c.args.number c.args.out.now c.put_text-in-None.new.out c.as_bytes-name.result.now report
    (named_at string_bytes c.args.self.now.names.now c.args.number c.index-self-number.result c.as_bytes-name.result.now c.requires.named c.index-self-number.is (c.as_bytes-name.ensures.value ∙ ap string_bytes (sym c.index-self-number.is)))
    answered c.put_text-in-None.result c.put_text-in-None.ensures.part
