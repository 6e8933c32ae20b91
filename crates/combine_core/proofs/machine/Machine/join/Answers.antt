use Rattle.std.proofs.Common.{sym, ap, ◌∙◌, arith}
use Rattle.combine_core.specs.Machine.{State, worker_at}
use Rattle.combine_core.proofs.Steps.{two_fit}
use Rattle.combine_core.proofs.machine.Machine.join.Goals as goal

pub merge-requires-clause-misses : goal.merge-requires-clause-misses
merge-requires-clause-misses g c =
    let fit = two_fit c.args.self.now c.requires c.args.into c.args.from (sym c.is_live.ensures ∙ c.if-not-is_live.false) (sym c.is_live-else-not-is_live.ensures ∙ c.if-not-is_live-2.false) c.if-into-from.false in
    let a = ap (λ (s : State). (worker_at s c.args.into).misses) c.self.view_is in
    let b = ap (λ (s : State). (worker_at s c.args.from).misses) c.self.view_is in
    omega (arith, fit.0)

pub merge-requires-clause-draws : goal.merge-requires-clause-draws
merge-requires-clause-draws g c =
    let fit = two_fit c.args.self.now c.requires c.args.into c.args.from (sym c.is_live.ensures ∙ c.if-not-is_live.false) (sym c.is_live-else-not-is_live.ensures ∙ c.if-not-is_live-2.false) c.if-into-from.false in
    let a = ap (λ (s : State). (worker_at s c.args.into).draws) c.self.view_is in
    let b = ap (λ (s : State). (worker_at s c.args.from).draws) c.self.view_is in
    omega (arith, fit.1)
