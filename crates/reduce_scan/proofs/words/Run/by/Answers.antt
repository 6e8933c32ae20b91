use Rattle.std.proofs.Common.{sym, ◌∙◌}
use Rattle.reduce_scan.proofs.WordRuns.{none_before}
use Rattle.reduce_scan.proofs.words.Run.by.Goals as goal

pub walk-requires-clause-steady : goal.walk-requires-clause-steady
walk-requires-clause-steady g c = λ e. none_before c.args.self.now.cuts 512 (sym c.count.ensures ∙ c.if-count-eq0.true)
