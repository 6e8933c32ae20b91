use Rattle.std.proofs.Common.{arith, ◌∙◌}
use Rattle.lower_base.proofs.Made.{made_too}
use Rattle.lower_expr.proofs.Elements.{is_storable, one_stored}
use Rattle.lower_expr.proofs.spots.store_elements.Goals as goal

pub store_field-requires : goal.store_field-requires
store_field-requires c = record { made = is_storable _ _ _ _ _ _ _ _ _ _ (omega arith) c.in_ok-skip_unless.ensures.draft c.loop-element.invariant.made }

pub loop-element-preserved : goal.loop-element-preserved
loop-element-preserved c =
    let left = one_stored _ _ _ _ _ _ _ _ _ _ _ _ (omega arith) c.in_ok-skip_unless.ensures.draft c.in_ok-store_field.ensures.draft in
    record { made = made_too _ _ left c.loop-element.invariant.made; whole = left ∙ c.loop-element.invariant.whole }
