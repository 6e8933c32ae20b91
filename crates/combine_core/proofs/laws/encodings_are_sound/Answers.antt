use Rattle.combine_core.proofs.Joins.{joined_assoc, joined_comm}
use Rattle.combine_core.proofs.Folds.{decoded_folded}
use Rattle.combine_core.proofs.laws.encodings_are_sound.Goals as goal

pub returns-clause-associative : goal.returns-clause-associative
returns-clause-associative c = joined_assoc

pub returns-clause-commutative : goal.returns-clause-commutative
returns-clause-commutative c = joined_comm

pub returns-clause-folded : goal.returns-clause-folded
returns-clause-folded c = decoded_folded
