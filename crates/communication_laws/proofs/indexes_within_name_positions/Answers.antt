use Rattle.communication_laws.proofs.Indexes.{indexes_within_name_positions}
use Rattle.communication_laws.proofs.indexes_within_name_positions.Goals as goal

pub returns : goal.returns
returns c = indexes_within_name_positions
