use Rattle.bit_planes.proofs.Numbers.{rows_of_field}
use Rattle.bit_planes.proofs.rows.Rows.read.Goals as goal

pub returns : goal.returns
returns c = rows_of_field c.args.planes.now c.copy_field.new.to c.transpose.new.planes c.args.offset c.args.len c.requires.len.1 c.copy_field.ensures.inside c.copy_field.ensures.above c.transpose.ensures
