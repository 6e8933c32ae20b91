use Rattle.std.proofs.Common.{◌∙◌, ◌+◌, List, ◌∷◌, ap, append-nil, drop, map, refl, sym}
use Rattle.std.proofs.lemmas.List.{at_drop_all, at_drop_more}
use Rattle.std.proofs.lemmas.Result.{IfOk-weaker}
use Rattle.cstar_tree.specs.declared.typed.LocalVar.{LocalVar}
use Rattle.cstar_tree.specs.declared.typed.TStmt.{TStmt}
use Rattle.cstar_tree.specs.TypedParts.{calls_in, calls_within, concat, optional, optional_box}
use Rattle.shape_room.proofs.AddedCalls.{all_added, begun_more, both_added, none_added, one_added, part_added, three_added}
use Rattle.shape_room.proofs.CallsInParts.{block_calls, body_calls, branching_calls, expression_calls, for_calls, loop_calls, plain_calls, return_calls}
use Rattle.shape_room.proofs.calls.+statement_calls.Goals as goal

pub each_statement-loop-s-preserved : goal.each_statement-loop-s-preserved
unfolding concat
each_statement-loop-s-preserved t c =
    let left = λ (ss : List TStmt). concat (map calls_within ss) in
    let rest = drop (c.loop-s.s-index + 1) c.args.statements.now in
    let next = at_drop_more left c.args.statements.now c.loop-s.s-index c.s-item.result c.loop-s-test.true ∙ ap (λ (s : TStmt). left (s ∷ rest)) (sym c.s-item.is) in
    begun_more _ _ _ c.loop-s.invariant next c.in_ok-statement.ensures

pub each_statement-returns : goal.each_statement-returns
unfolding concat
each_statement-returns t c = all_added _ _ c.loop-s.invariant (at_drop_all (λ (ss : List TStmt). concat (map calls_within ss)) c.args.statements.now c.loop-s.s-index c.loop-s-test.false)

pub optional_statement-returns-in-Some : goal.optional_statement-returns-in-Some
unfolding concat
optional_statement-returns-in-Some t c =
    IfOk-weaker c.statement.result _ _
    (λ _ last. one_added _ (part_added calls_within _ c.deref.ensures last) (ap (λ s. concat (map calls_within (optional_box s))) c.in-Some.is ∙ append-nil (calls_within c.in-Some.s.value)))
    c.statement.ensures

pub optional_statement-returns-in-None : goal.optional_statement-returns-in-None
unfolding concat
optional_statement-returns-in-None t c = none_added _ (ap (λ s. concat (map calls_within (optional_box s))) c.in-None.is)

pub statement-returns-in_ok-initials-in-Block : goal.statement-returns-in_ok-initials-in-Block
statement-returns-in_ok-initials-in-Block t c =
    let declared = λ (ls : List LocalVar). concat (map calls_in (concat (map (λ (l : LocalVar). optional l.initial) ls))) in
    let each = λ (ss : List TStmt). concat (map calls_within ss) in
    IfOk-weaker c.each_statement.result _ _
    (λ _ last. both_added c.args.called.now.items (declared c.in-Block.locals.items) (each c.in-Block.statements.items) (part_added declared _ c.deref.ensures.value c.in_ok-initials-in-Block.ensures) (part_added each _ c.deref-in-Block.ensures.value last) (block_calls c.args.s.now _ _ c.in-Block.is))
    c.each_statement.ensures

pub statement-returns-in-Expression : goal.statement-returns-in-Expression
statement-returns-in-Expression t c = IfOk-weaker c.expression.result _ _ (λ _ last. one_added _ last (expression_calls c.args.s.now _ c.in-Expression.is)) c.expression.ensures

pub statement-returns-in_ok-statement-in-If : goal.statement-returns-in_ok-statement-in-If
statement-returns-in_ok-statement-in-If t c =
    IfOk-weaker c.optional_statement.result _ _
    (λ _ last. three_added _ _ _ _ c.in_ok-expression-in-If.ensures (part_added calls_within _ c.deref-in-If.ensures c.in_ok-statement-in-If.ensures) last (branching_calls c.args.s.now _ _ _ c.in-If.is))
    c.optional_statement.ensures

pub statement-returns-in_ok-expression-in-While : goal.statement-returns-in_ok-expression-in-While
statement-returns-in_ok-expression-in-While t c =
    IfOk-weaker c.statement-in-While.result _ _
    (λ _ last. both_added _ _ _ c.in_ok-expression-in-While.ensures (part_added calls_within _ c.deref-in-While.ensures last) (loop_calls c.args.s.now _ _ c.in-While.is))
    c.statement-in-While.ensures

pub statement-returns-in_ok-optional_expression-in-For-3 : goal.statement-returns-in_ok-optional_expression-in-For-3
statement-returns-in_ok-optional_expression-in-For-3 t c =
    IfOk-weaker c.statement.result _ _
    (λ _ last. three_added _ _ _ _ c.in_ok-optional_expression-in-For.ensures c.in_ok-optional_expression-in-For-2.ensures
    (both_added _ _ _ c.in_ok-optional_expression-in-For-3.ensures (part_added calls_within _ c.deref-in-For.ensures last) refl)
    (for_calls c.args.s.now _ _ _ _ c.in-For.is))
    c.statement.ensures

pub statement-returns-in-With : goal.statement-returns-in-With
statement-returns-in-With t c =
    IfOk-weaker c.statement-in-With.result _ _ (λ _ last. one_added _ (part_added calls_within _ c.deref-in-With.ensures last) (body_calls c.args.s.now _ c.in-With.is)) c.statement-in-With.ensures

pub statement-returns-in-Return : goal.statement-returns-in-Return
statement-returns-in-Return t c = IfOk-weaker c.optional_expression-in-Return.result _ _ (λ _ last. one_added _ last (return_calls c.args.s.now _ c.in-Return.is)) c.optional_expression-in-Return.ensures

pub statement-returns-in-Empty : goal.statement-returns-in-Empty
statement-returns-in-Empty t c = none_added _ (plain_calls c.args.s.now c.in-Empty.is)

pub statement-returns-in-Empty-2 : goal.statement-returns-in-Empty-2
statement-returns-in-Empty-2 t c = none_added _ (plain_calls c.args.s.now c.in-Empty.is)

pub statement-returns-in-Empty-3 : goal.statement-returns-in-Empty-3
statement-returns-in-Empty-3 t c = none_added _ (plain_calls c.args.s.now c.in-Empty.is)
