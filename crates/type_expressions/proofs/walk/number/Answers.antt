use Rattle.std.proofs.Common.{refl}
use Rattle.cstar_tree.specs.Conversions.{int, unsigned}
use Rattle.typed_nodes.proofs.Elems.{same_parts}
use Rattle.type_expressions.proofs.Walking.{number_types}
use Rattle.type_expressions.proofs.walk.number.Goals as goal

pub returns-then-unsigned : goal.returns-then-unsigned
returns-then-unsigned c program here place = number_types c.args.unsigned _ (rw c.if-unsigned.true (same_parts _ unsigned refl refl))

pub returns : goal.returns
returns c program here place = number_types c.args.unsigned _ (rw c.if-unsigned.false (same_parts _ int refl refl))
