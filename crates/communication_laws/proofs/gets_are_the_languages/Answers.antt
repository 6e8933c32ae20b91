use Rattle.communication_laws.proofs.Gets.{gets}
use Rattle.communication_laws.proofs.gets_are_the_languages.Goals as goal

pub returns : goal.returns
returns c = gets
