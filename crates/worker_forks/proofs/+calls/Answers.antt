use Rattle.std.proofs.Common.{refl, arith}
use Rattle.std.proofs.lemmas.Fn.{says}
use Rattle.std.proofs.lemmas.Result.{IfOk-at_ok}
use Rattle.std.specs.Fork.Halves.{GivesFrom}
use Rattle.worker_forks.proofs.Calls.{gives_first}
use Rattle.worker_forks.proofs.+calls.Goals as goal

pub returns : goal.returns
returns g t c =
    gives_first g.F.Fn c.args.f.now c.args.from c.join-first.result.0 (says g.F.Fn c.join-first.ensures.first refl) _ c.args.count _ _ (omega arith) c.in_ok-insert.ensures.items
    (IfOk-at_ok (λ v. GivesFrom g.F.Fn c.args.f.now _ _ v.items) c.in_ok-all.was c.join-first.ensures.second)
