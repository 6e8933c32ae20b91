use Rattle.communication_laws.proofs.StoringSends.{combining_sends_store}
use Rattle.communication_laws.proofs.combining_sends_store.Goals as goal

pub returns : goal.returns
returns c = combining_sends_store
