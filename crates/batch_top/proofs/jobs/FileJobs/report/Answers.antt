use Rattle.std.proofs.Common.{◌<◌, ◌∙◌, ap, arith, length, map, sym}
use Rattle.std.specs.String.{string_bytes}
use Rattle.batch_top.proofs.Fetching.{answers_number}
use Rattle.batch_top.proofs.Naming.{here_at, said_at}
use Rattle.batch_top.proofs.jobs.FileJobs.report.Goals as goal

pub returns : goal.returns
returns g c =
    let jobs = c.args.self.now in
    let inside : c.args.number < length jobs.texts.now = omega (arith, c.requires.named, c.requires.each) in
    answers_number c.job.result (map string_bytes jobs.names.now) jobs.texts.now c.args.number c.as_str.result.now c.bytes.result.now
    (said_at string_bytes jobs.names.now c.args.number c.index-self-number.result c.requires.named c.index-self-number.is ∙ sym (c.as_str.ensures.value ∙ ap string_bytes (sym c.index-self-number.is)))
    (here_at jobs.texts.now c.args.number c.index-self-number-2.result inside c.index-self-number-2.is ∙ sym (c.bytes.ensures ∙ sym c.index-self-number-2.is))
    c.job.ensures
