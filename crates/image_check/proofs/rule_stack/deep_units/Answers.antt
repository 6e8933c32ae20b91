use Rattle.std.proofs.Common.{length}
use Rattle.std.proofs.lemmas.Result.{IfOk-weaker}
use Rattle.image_check.specs.Calls.{AreMarks, IsBehind, IsDeep}
use Rattle.image_check.proofs.CallLaws.{deep_marks}
use Rattle.image_check.proofs.rule_stack.deep_units.Goals as goal

pub returns : goal.returns
returns c =
    IfOk-weaker c.after_calls.result
    (λ marks. AreMarks (length c.in_ok-reached.reached.items) marks.items (IsBehind c.args.calls.now c.in_ok-reached.reached.items c.args.depth))
    (λ marks. AreMarks c.args.units marks.items (IsDeep c.args.calls.now c.args.depth))
    (λ marks behind.
    deep_marks c.args.units c.args.depth c.args.calls.now c.in_ok-reached.reached.items marks.items c.requires c.in_ok-reached.ensures behind)
    c.after_calls.ensures
