use Rattle.worker_forks.proofs.Joining.{accepts_behind, changes_both}
use Rattle.worker_forks.proofs.+parts.Goals as goal

pub from_place-part_and_rest-requires-clause-rest : goal.from_place-part_and_rest-requires-clause-rest
from_place-part_and_rest-requires-clause-rest g t c κs within =
    let cut = c.split_at_mut-part in
    accepts_behind g.F.Fn c.args.f.now c.args.base c.min-taken.result _ _ _ cut.ensures.value cut.ensures.front_len c.requires.accepts

pub from_place-returns : goal.from_place-returns
from_place-returns g t c =
    let cut = c.split_at_mut-part in
    changes_both g.F.Fn c.args.f.now c.args.base c.min-taken.result _ _ _ _ _ cut.ensures.value cut.ensures.front_len c.part_and_rest.auto.part c.part_and_rest.ensures.part c.part_and_rest.ensures.rest
