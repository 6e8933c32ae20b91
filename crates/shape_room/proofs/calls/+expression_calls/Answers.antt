use Rattle.std.proofs.Common.{◌∙◌, ◌+◌, List, ◌∷◌, ap, drop, map, sym}
use Rattle.std.proofs.lemmas.List.{at_drop_all, at_drop_more}
use Rattle.std.proofs.lemmas.Result.{IfOk-weaker}
use Rattle.cstar_tree.specs.declared.typed.TExpr.{TExpr}
use Rattle.cstar_tree.specs.TypedParts.{calls_in, concat}
use Rattle.shape_room.proofs.AddedCalls.{all_added, begun_more, both_added, none_added, one_added, part_added, three_added}
use Rattle.shape_room.proofs.CallsInParts.{assign_calls, brackets_calls, choice_calls, leaf_calls, operand_calls, pair_calls, step_calls}
use Rattle.shape_room.proofs.calls.+expression_calls.Goals as goal

pub each_expression-loop-e-preserved : goal.each_expression-loop-e-preserved
unfolding concat
each_expression-loop-e-preserved t c =
    let left = λ (es : List TExpr). concat (map calls_in es) in
    let rest = drop (c.loop-e.e-index + 1) c.args.parts.now in
    let next = at_drop_more left c.args.parts.now c.loop-e.e-index c.e-item.result c.loop-e-test.true ∙ ap (λ (e : TExpr). left (e ∷ rest)) (sym c.e-item.is) in
    begun_more _ _ _ c.loop-e.invariant next c.in_ok-expression.ensures

pub each_expression-returns : goal.each_expression-returns
unfolding concat
each_expression-returns t c = all_added _ _ c.loop-e.invariant (at_drop_all (λ (es : List TExpr). concat (map calls_in es)) c.args.parts.now c.loop-e.e-index c.loop-e-test.false)

pub expression-returns-in_ok-expression-in-Choice-2 : goal.expression-returns-in_ok-expression-in-Choice-2
expression-returns-in_ok-expression-in-Choice-2 t c =
    IfOk-weaker c.expression-in-Choice-2.result _ _
    (λ _ last. three_added _ _ _ _ (part_added calls_in _ c.deref-in-Choice.ensures c.in_ok-expression-in-Choice.ensures) (part_added calls_in _ c.deref-in-Choice-2.ensures c.in_ok-expression-in-Choice-2.ensures) (part_added calls_in _ c.deref-in-Choice-3.ensures last)
    (choice_calls c.args.e.now _ _ _ _ c.in-Choice.is))
    c.expression-in-Choice-2.ensures

pub expression-returns-in_ok-expression-in-Assign : goal.expression-returns-in_ok-expression-in-Assign
expression-returns-in_ok-expression-in-Assign t c =
    IfOk-weaker c.expression-in-Assign-2.result _ _
    (λ _ last. both_added _ _ _ (part_added calls_in _ c.deref-in-Assign.ensures c.in_ok-expression-in-Assign.ensures) (part_added calls_in _ c.deref-in-Assign-2.ensures last) (assign_calls c.args.e.now _ _ _ _ _ c.in-Assign.is))
    c.expression-in-Assign-2.ensures

pub expression-returns-in_ok-expression-in-LogicalOr : goal.expression-returns-in_ok-expression-in-LogicalOr
expression-returns-in_ok-expression-in-LogicalOr t c =
    IfOk-weaker c.expression-in-LogicalOr-2.result _ _
    (λ _ last. both_added _ _ _ (part_added calls_in _ c.deref-in-LogicalOr.ensures c.in_ok-expression-in-LogicalOr.ensures) (part_added calls_in _ c.deref-in-LogicalOr-2.ensures last) (pair_calls c.args.e.now _ _ c.in-LogicalOr.is))
    c.expression-in-LogicalOr-2.ensures

pub expression-returns-in-Step : goal.expression-returns-in-Step
expression-returns-in-Step t c =
    IfOk-weaker c.expression-in-Step.result _ _ (λ _ last. one_added _ (part_added calls_in _ c.deref-in-Step.ensures last) (step_calls c.args.e.now _ _ _ _ c.in-Step.is)) c.expression-in-Step.ensures

pub expression-returns-in-Brackets : goal.expression-returns-in-Brackets
expression-returns-in-Brackets t c =
    IfOk-weaker c.expression-in-Brackets.result _ _ (λ _ last. one_added _ (part_added calls_in _ c.deref-in-Brackets.ensures last) (brackets_calls c.args.e.now _ _ c.in-Brackets.is)) c.expression-in-Brackets.ensures

pub expression-returns-in-Unary : goal.expression-returns-in-Unary
expression-returns-in-Unary t c =
    IfOk-weaker c.expression-in-Unary.result _ _ (λ _ last. one_added _ (part_added calls_in _ c.deref-in-Unary.ensures last) (operand_calls c.args.e.now _ c.in-Unary.is)) c.expression-in-Unary.ensures

pub expression-returns-in-Variable : goal.expression-returns-in-Variable
expression-returns-in-Variable t c = none_added _ (leaf_calls c.args.e.now c.in-Variable.is)

pub expression-returns-in-Variable-2 : goal.expression-returns-in-Variable-2
expression-returns-in-Variable-2 t c = none_added _ (leaf_calls c.args.e.now c.in-Variable.is)

pub expression-returns-in-Variable-3 : goal.expression-returns-in-Variable-3
expression-returns-in-Variable-3 t c = none_added _ (leaf_calls c.args.e.now c.in-Variable.is)

pub expression-returns-in-Variable-4 : goal.expression-returns-in-Variable-4
expression-returns-in-Variable-4 t c = none_added _ (leaf_calls c.args.e.now c.in-Variable.is)

pub expression-returns-in-Variable-5 : goal.expression-returns-in-Variable-5
expression-returns-in-Variable-5 t c = none_added _ (leaf_calls c.args.e.now c.in-Variable.is)

pub expression-returns-in-Variable-6 : goal.expression-returns-in-Variable-6
expression-returns-in-Variable-6 t c = none_added _ (leaf_calls c.args.e.now c.in-Variable.is)

pub expression-returns-in-Variable-7 : goal.expression-returns-in-Variable-7
expression-returns-in-Variable-7 t c = none_added _ (leaf_calls c.args.e.now c.in-Variable.is)

pub expression-returns-in-Variable-8 : goal.expression-returns-in-Variable-8
expression-returns-in-Variable-8 t c = none_added _ (leaf_calls c.args.e.now c.in-Variable.is)

pub expression-returns-in-Variable-9 : goal.expression-returns-in-Variable-9
expression-returns-in-Variable-9 t c = none_added _ (leaf_calls c.args.e.now c.in-Variable.is)
