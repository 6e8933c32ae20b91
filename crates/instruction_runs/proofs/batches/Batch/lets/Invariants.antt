use Rattle.std.proofs.Common.{◌≡◌, drop}
use Rattle.instruction_runs.specs.Waiting.{all_let}
use Rattle.instruction_runs.proofs.batches.Batch.lets.Given as goal

abbrev pub invariant-waiting : goal.invariant-waiting
invariant-waiting l = all_let l.fn.self.deferred.items l.source ≡ all_let (drop l.d-index l.fn.self.deferred.items) l.source
