use Rattle.combine_board.proofs.Steps.{claim_is_event, deliver_is_event, split_is_event, join_is_event}
use Rattle.combine_board.proofs.laws.steps_are_events.Goals as goal

pub returns-clause-claim : goal.returns-clause-claim
returns-clause-claim c = claim_is_event

pub returns-clause-deliver : goal.returns-clause-deliver
returns-clause-deliver c = deliver_is_event

pub returns-clause-split : goal.returns-clause-split
returns-clause-split c = split_is_event

pub returns-clause-join : goal.returns-clause-join
returns-clause-join c = join_is_event
