use Rattle.std.proofs.Common.{ap, sym, Some, ◌∙◌}
use Rattle.std.proofs.lemmas.Result.{MatchResult-weaker}
use Rattle.cstar_base.specs.declared.faults.Fault.TheVariants as Faults
use Rattle.cstar_base.specs.declared.operators.Place.{Place}
use Rattle.cstar_tree.specs.ExpressionFaults as F
use Rattle.type_expressions.proofs.AlongAxes.{goes_by, is_bit, mismatch, not_unknown}
use Rattle.type_expressions.proofs.OnOperands.{tells}
use Rattle.type_expressions.proofs.intrinsics.fitting_axis.Goals as goal

pub returns-then-goes_with : goal.returns-then-goes_with
returns-then-goes_with c program here e along written shape ready place current a named =
    let fit = is_bit c.args.mode named (sym c.goes_with.ensures ∙ c.if-goes_with.true) in
    MatchResult-weaker c.known_axis.result c.known_axis.ensures (λ n is. goes_by a is current fit) (λ u is. absurd (not_unknown a is current))

pub returns-else-goes_with : goal.returns-else-goes_with
returns-else-goes_with c program here e along written shape ready place current a named =
    tells c.fault.result (c.fault.ensures ∙ ap (λ (p : Place). Some (Faults.Arguments, p)) (sym place)) (F.mode_mismatch ready (mismatch c.args.mode named (sym c.goes_with.ensures ∙ c.if-goes_with.false)))
