use Rattle.std.proofs.Common.{◌+◌, get_or, refl, subst, arith, rules}
use Rattle.std.specs.Fn.{FnReturns}
use Rattle.std.proofs.lemmas.Result.{IfOk-weaker}
use Rattle.worker_forks.proofs.Calls.{gives_only}
use Rattle.worker_forks.proofs.map_indices.Goals as goal

pub returns : goal.returns
returns g c =
    record {
      len = IfOk-weaker c.calls_from.result _ _ (λ v h. search rules) c.calls_from.ensures;
      each = IfOk-weaker c.calls_from.result _ _ (λ v h i d l. (refl, subst (λ k. FnReturns g.F.Fn c.args.f.now (k, tt) (get_or v.items i d)) {x = 0 + i} (omega arith) (h.each i d l))) c.calls_from.ensures;
    }

pub returns-then-n-eq1-clause-each : goal.returns-then-n-eq1-clause-each
returns-then-n-eq1-clause-each g c i d l =
    let given = gives_only g.F.Fn c.args.f.now 0 c.f.result (search rules) c.args.n c.push.new.self.items c.if-n-eq1.true (search rules) in
    (refl, subst (λ k. FnReturns g.F.Fn c.args.f.now (k, tt) (get_or c.push.new.self.items i d)) {x = 0 + i} (omega arith) (given.each i d l))
