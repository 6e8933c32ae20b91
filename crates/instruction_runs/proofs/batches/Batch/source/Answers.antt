use Rattle.std.proofs.Common.{◌≡◌, ◌+◌, ◌<◌, Option, List, drop, get_or, length, sym, ◌∙◌, ap, arith}
use Rattle.paris_code.specs.declared.operands.Field.{Field}
use Rattle.instruction_runs.specs.declared.deferring.Deferred.{Deferred}
use Rattle.instruction_runs.specs.Waiting.{or_source, source_of_all}
use Rattle.instruction_runs.proofs.Deferrals.{source_from}
use Rattle.instruction_runs.proofs.batches.Batch.source.Goals as goal

pub waiting-preserved : goal.waiting-preserved
waiting-preserved c =
    let ds = c.args.self.now.deferred.items in
    let j = c.waiting.d-index in
    let d = c.d-item.result in
    let read = c.as_slice-d-items.ensures in
    let b : j < length ds = omega (arith, ap length read) in
    let at : d ≡ get_or ds j d = c.d-item.is ∙ ap (λ (es : List Deferred). get_or es j d) read in
    c.waiting.invariant ∙ source_from ds j d b at ∙ ap (λ (o : Option Field). or_source o (source_of_all (drop (j + 1) ds))) (sym c.source.ensures ∙ c.in_default.is)
