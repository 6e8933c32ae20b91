use Rattle.std.proofs.Common.{◌≡◌, true, ◌&&◌, ◌+◌, ◌<◌, List, drop, get_or, length, sym, ◌∙◌, ap, rules, arith}
use Rattle.instruction_runs.specs.declared.deferring.Deferred.{Deferred}
use Rattle.instruction_runs.specs.Passing.{can_pass}
use Rattle.instruction_runs.proofs.Deferrals.{pass_from}
use Rattle.instruction_runs.proofs.batches.Batch.lets_pass.Goals as goal

pub waiting-preserved : goal.waiting-preserved
waiting-preserved c =
    let ds = c.args.self.now.deferred.items in
    let j = c.waiting.d-index in
    let d = c.d-item.result in
    let instr = c.args.instr.now in
    let read = c.as_slice-d-items.ensures in
    let b : j < length ds = omega (arith, ap length read) in
    let at : d ≡ get_or ds j d = c.d-item.is ∙ ap (λ (es : List Deferred). get_or es j d) read in
    let on : c.lets_pass.result ≡ true = search rules in
    c.waiting.invariant ∙ pass_from ds j d instr b at ∙ ap (λ t. t && can_pass (drop (j + 1) ds) instr) (sym c.lets_pass.ensures ∙ on)
