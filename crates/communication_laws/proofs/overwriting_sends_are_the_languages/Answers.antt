use Rattle.communication_laws.proofs.Sends.{overwriting_sends}
use Rattle.communication_laws.proofs.overwriting_sends_are_the_languages.Goals as goal

pub returns : goal.returns
returns c = overwriting_sends
