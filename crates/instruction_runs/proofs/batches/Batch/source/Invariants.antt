use Rattle.std.proofs.Common.{◌≡◌, drop}
use Rattle.instruction_runs.specs.Waiting.{source_of_all}
use Rattle.instruction_runs.proofs.batches.Batch.source.Given as goal

abbrev pub invariant-waiting : goal.invariant-waiting
invariant-waiting l = source_of_all l.fn.self.deferred.items ≡ source_of_all (drop l.d-index l.fn.self.deferred.items)
