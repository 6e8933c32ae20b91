use Rattle.std.proofs.Common.{length, map}
use Rattle.std.specs.String.{string_bytes}
use Rattle.batch_top.specs.Batches.{AnswersNumber}
use Rattle.batch_top.proofs.batch.put_reports.Given as goal

-- a job for each name, which is answered by the report of what stands under that name
abbrev pub ghosts-put : goal.ghosts-put
ghosts-put g a = record {
  jobs = length a.self.now.names.now;
  answers = AnswersNumber (map string_bytes a.self.now.names.now) a.self.now.texts.now;
}
