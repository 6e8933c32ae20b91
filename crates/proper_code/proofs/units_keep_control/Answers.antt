use Rattle.proper_code.proofs.UnitControl.{units_keep}
use Rattle.proper_code.proofs.units_keep_control.Goals as goal

pub returns : goal.returns
returns c = units_keep
