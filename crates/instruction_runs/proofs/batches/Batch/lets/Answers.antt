use Rattle.std.proofs.Common.{◌≡◌, true, ◌&&◌, ◌+◌, ◌<◌, List, drop, get_or, length, sym, ◌∙◌, ap, rules, arith}
use Rattle.instruction_runs.specs.declared.deferring.Deferred.{Deferred}
use Rattle.instruction_runs.specs.Waiting.{all_let}
use Rattle.instruction_runs.proofs.Deferrals.{let_from, none_let}
use Rattle.instruction_runs.proofs.batches.Batch.lets.Goals as goal

pub waiting-preserved : goal.waiting-preserved
waiting-preserved c =
    let ds = c.args.self.now.deferred.items in
    let j = c.waiting.d-index in
    let d = c.d-item.result in
    let source = c.args.source in
    let read = c.as_slice-d-items.ensures in
    let b : j < length ds = omega (arith, ap length read) in
    let at : d ≡ get_or ds j d = c.d-item.is ∙ ap (λ (es : List Deferred). get_or es j d) read in
    let on : c.lets.result ≡ true = search rules in
    c.waiting.invariant ∙ let_from ds j d source b at ∙ ap (λ t. t && all_let (drop (j + 1) ds) source) (sym c.lets.ensures ∙ on)

pub returns-in_default : goal.returns-in_default
returns-in_default c = sym (none_let c.args.self.now.deferred.items c.args.source c.in_default.is)
