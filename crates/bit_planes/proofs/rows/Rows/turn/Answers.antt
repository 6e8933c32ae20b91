use Rattle.bit_planes.proofs.Numbers.{column_of_rows}
use Rattle.bit_planes.proofs.rows.Rows.turn.Goals as goal

pub returns : goal.returns
returns c = λ len i b ib. column_of_rows c.args.self.now.planes c.transpose.new.planes len b c.transpose.ensures i ib
