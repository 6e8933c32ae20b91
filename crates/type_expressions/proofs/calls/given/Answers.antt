use Rattle.std.proofs.Common.{refl}
use Rattle.cstar_tree.specs.Conversions.{int}
use Rattle.typed_nodes.proofs.Elems.{same_parts}
use Rattle.type_expressions.proofs.CalledFunctions.{nothing_given, unknown_given, value_given}
use Rattle.type_expressions.proofs.calls.given.Goals as goal

pub returns-in-Nothing-clause-given : goal.returns-in-Nothing-clause-given
returns-in-Nothing-clause-given c = rw c.in-Nothing.is (nothing_given c.args.is_inside _ (same_parts _ int refl refl))

pub returns-in-Value-clause-given : goal.returns-in-Value-clause-given
returns-in-Value-clause-given c = rw c.in-Value.is (value_given c.args.is_inside c.in-Value.ty)

pub returns-else-is_inside-clause-given : goal.returns-else-is_inside-clause-given
returns-else-is_inside-clause-given c = rw c.in-Unknown.is (unknown_given c.args.is_inside _ c.if-is_inside.false (same_parts _ int refl refl))
