use Rattle.communication_laws.proofs.OnePosition.{writes_of_positions_store}
use Rattle.communication_laws.proofs.writes_of_positions_store.Goals as goal

pub returns : goal.returns
returns c = writes_of_positions_store
