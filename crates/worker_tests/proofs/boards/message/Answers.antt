use Rattle.std.proofs.Common.{refl}
use Rattle.worker_tests.proofs.boards.message.Goals as goal

pub returns : goal.returns
returns c = (_, refl, refl, refl)
