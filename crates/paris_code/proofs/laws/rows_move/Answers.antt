use Rattle.paris_code.proofs.Moves.{fields_moved}
use Rattle.paris_code.proofs.laws.rows_move.Goals as goal

pub returns : goal.returns
returns c = fields_moved
