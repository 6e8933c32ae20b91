use Rattle.std.proofs.Common.{◌∙◌, ap, Some}
use Rattle.cstar_base.specs.declared.faults.Fault.TheVariants as Faults
use Rattle.cstar_base.specs.declared.operators.Place.{Place}
use Rattle.cstar_tree.specs.ExpressionFaults as F
use Rattle.type_expressions.proofs.OnOperands.{cast_types, innermost_is, shape_is, tells_or_memory}
use Rattle.type_expressions.proofs.operators.casts.Goals as goal

pub returns-in-Some : goal.returns-in-Some
returns-in-Some c program here chain e chain_is place_is h =
    tells_or_memory c.fault.result (c.fault.ensures ∙ ap (λ (p : Place). Some (Faults.ScalarWanted, p)) (innermost_is c.innermost.ensures chain_is place_is)) (F.parallel_cast chain e h (shape_is c.args.operand.value c.ty.ensures c.deref.ensures c.in-Some.is))

pub returns-in_ok-cast_chain-in-None : goal.returns-in_ok-cast_chain-in-None
returns-in_ok-cast_chain-in-None c program here chain e chain_is place_is h =
    cast_types chain c.args.operand e chain_is c.in_ok-cast_chain-in-None.ensures (shape_is c.args.operand.value c.ty.ensures c.deref.ensures c.in-None.is) h
