use Rattle.communication_laws.proofs.StoringSends.{overwriting_sends_store}
use Rattle.communication_laws.proofs.overwriting_sends_store.Goals as goal

pub returns : goal.returns
returns c = overwriting_sends_store
