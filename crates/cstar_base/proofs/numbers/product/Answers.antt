use Rattle.std.proofs.Common.{sym, arith}
use Rattle.cstar_base.proofs.OperatorLaws.{product_by_residues}
use Rattle.cstar_base.proofs.numbers.product.Goals as goal

pub returns : goal.returns
returns c = sym (product_by_residues c.args.unsigned c.args.a c.args.b (omega arith) (omega arith))
