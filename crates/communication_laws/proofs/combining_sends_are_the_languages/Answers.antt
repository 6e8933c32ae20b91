use Rattle.communication_laws.proofs.Sends.{combining_sends}
use Rattle.communication_laws.proofs.combining_sends_are_the_languages.Goals as goal

pub returns : goal.returns
returns c = combining_sends
