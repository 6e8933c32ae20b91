use Rattle.bit_planes.proofs.Butterfly.{mask_16, mask_8, mask_4, mask_2, mask_1}
use Rattle.bit_planes.proofs.transpose.transpose.Goals as goal

pub exchange-requires-clause-even : goal.exchange-requires-clause-even
exchange-requires-clause-even c = mask_16

pub exchange-requires-2-clause-even : goal.exchange-requires-2-clause-even
exchange-requires-2-clause-even c = mask_8

pub exchange-requires-3-clause-even : goal.exchange-requires-3-clause-even
exchange-requires-3-clause-even c = mask_4

pub exchange-requires-4-clause-even : goal.exchange-requires-4-clause-even
exchange-requires-4-clause-even c = mask_2

pub exchange-requires-5-clause-even : goal.exchange-requires-5-clause-even
exchange-requires-5-clause-even c = mask_1
