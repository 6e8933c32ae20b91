use Rattle.std.proofs.Common.{◌≡◌, map}
use Rattle.std.specs.String.{string_bytes}
use Rattle.job_callers.specs.Sections.{TakesSections}
use Rattle.job_callers.proofs.batch.Batch.put.Given as goal

abbrev pub invariant-names : goal.invariant-names
invariant-names g l =
    TakesSections g.O.Sink.agrees l.fn.out l.out g.J.Judge.answers (map string_bytes l.self.names.now) l.number
    × (g.O.Sink.faults l.out ≡ g.O.Sink.faults l.fn.out)
