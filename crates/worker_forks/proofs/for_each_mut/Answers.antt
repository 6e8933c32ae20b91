use Rattle.std.proofs.Common.{refl}
use Rattle.worker_forks.proofs.Joining.{changes_from_first}
use Rattle.worker_forks.proofs.for_each_mut.Goals as goal

pub returns-then-threads-eq1 : goal.returns-then-threads-eq1
returns-then-threads-eq1 g c i d less = (refl, changes_from_first g.F.Fn c.args.f.now _ _ c.in_turn.ensures i d less)

pub returns-then-not-is_empty : goal.returns-then-not-is_empty
returns-then-not-is_empty g c i d less = (refl, changes_from_first g.F.Fn c.args.f.now _ _ c.from_place.ensures i d less)
