use Rattle.std.proofs.Common.{arith, ◌∙◌}
use Rattle.lower_base.proofs.Made.{made_too}
use Rattle.lower_expr.proofs.Elements.{is_loadable, one_loaded}
use Rattle.lower_expr.proofs.spots.load_elements.Goals as goal

pub load_field-requires : goal.load_field-requires
load_field-requires c = record { made = is_loadable _ _ _ _ _ _ _ _ _ _ _ (omega arith) c.in_ok-skip_unless.ensures.draft c.loop-element.invariant.made }

pub loop-element-preserved : goal.loop-element-preserved
loop-element-preserved c =
    let left = one_loaded _ _ _ _ _ _ _ _ _ _ _ _ _ (omega arith) c.in_ok-skip_unless.ensures.draft c.in_ok-load_field.ensures.draft in
    record { made = made_too _ _ left c.loop-element.invariant.made; whole = left ∙ c.loop-element.invariant.whole }
