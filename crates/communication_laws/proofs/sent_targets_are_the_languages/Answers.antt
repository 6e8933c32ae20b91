use Rattle.communication_laws.proofs.Sends.{sent_targets}
use Rattle.communication_laws.proofs.sent_targets_are_the_languages.Goals as goal

pub returns : goal.returns
returns c = sent_targets
