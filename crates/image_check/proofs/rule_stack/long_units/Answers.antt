use Rattle.std.proofs.Common.{length}
use Rattle.std.proofs.lemmas.Result.{IfOk-weaker}
use Rattle.image_check.specs.Calls.{AreMarks, IsBehind, AreLong}
use Rattle.image_check.proofs.CallLaws.{long_marks}
use Rattle.image_check.proofs.rule_stack.long_units.Goals as goal

pub returns : goal.returns
returns c =
    IfOk-weaker c.after_calls.result
    (λ marks. AreMarks (length c.in_ok-all.all.items) marks.items (IsBehind c.args.calls.now c.in_ok-all.all.items c.args.units))
    (λ marks. AreLong c.args.units c.args.calls.now marks.items)
    (λ marks behind.
    long_marks c.args.units c.args.calls.now c.in_ok-all.all.items marks.items c.requires
    (c.in_ok-all.ensures.items_if_clones_equal (λ y same. same)) behind)
    c.after_calls.ensures
