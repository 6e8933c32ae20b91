use Rattle.std.proofs.Common.{refl, ap, ◌∙◌, ◌++◌, subst}
use Rattle.std.proofs.lemmas.Result.{IfOk-weaker}
use Rattle.cstar_tree.specs.declared.syntax.Stmt as S
use Rattle.cstar_tree.specs.Calls.{calls_in, calls_in_each, calls_in_statement}
use Rattle.cstar_tree.specs.TypedParts.{optional}
use Rattle.call_groups.proofs.Declared.{take_all}
use Rattle.call_groups.proofs.Statements.{BlockWalk, block_adds, block_begins, block_has, block_next, break_has, continue_has, do_has, empty_has, everywhere_has, expression_has, for_has, if_alone_has, if_else_has, return_has, stmt_none, stmt_of, stmt_same, then_adds, where_alone_has, where_else_has, while_has, with_adds, with_has}
use Rattle.call_groups.proofs.calls.Calls.+calls.Goals as goal

pub block_in-loop-statement-init : goal.block_in-loop-statement-init
block_in-loop-statement-init t c =
    block_begins c.args.scope c.args.self.now c.declarations.new.self c.args.block.now c.in_ok-declarations.ensures

pub block_in-loop-statement-preserved : goal.block_in-loop-statement-preserved
block_in-loop-statement-preserved t c =
    block_next c.args.scope c.args.self.now c.loop-statement.self c.statement.new.self c.args.block.now c.deref-statement-items.result.now c.loop-statement.statement-index c.statement-item.result c.loop-statement-test.true c.statement-item.is c.loop-statement.invariant c.in_ok-statement.ensures

pub block_in-returns : goal.block_in-returns
block_in-returns t c =
    subst (λ ss. BlockWalk c.args.scope c.args.self.now c.loop-statement.self c.args.block.now ss)
    (take_all c.deref-statement-items.result.now c.loop-statement.statement-index c.loop-statement-test.false ∙ c.deref-statement-items.ensures.value)
    c.loop-statement.invariant

pub statement-returns-in_ok-block_in-in-Block : goal.statement-returns-in_ok-block_in-in-Block
statement-returns-in_ok-block_in-in-Block t c =
    stmt_same _ (block_has c.in-Block.block c.in-Block.is) (block_adds c.args.self.now c.block_in.new.self _ c.open-scope.result c.in-Block.block _ c.open-scope.ensures c.in_ok-block_in-in-Block.ensures c.close.ensures refl refl refl)

pub statement-returns-in-Expression : goal.statement-returns-in-Expression
statement-returns-in-Expression t c =
    IfOk-weaker c.expr.result _ _ (λ _ last. stmt_same _ (expression_has c.in-Expression.is) last) c.expr.ensures

pub statement-returns-in-Some : goal.statement-returns-in-Some
statement-returns-in-Some t c =
    IfOk-weaker c.statement-in-Some.result _ _
    (λ _ last. stmt_same _ (if_else_has (c.in-If.is ∙ ap (λ o. S.If c.in-If.place c.in-If.test c.in-If.then o) c.in-Some.is))
    (then_adds (λ here. calls_in here c.in-If.test) (λ here. calls_in_statement c.in-If.then.value here ++ calls_in_statement c.in-Some.otherwise.value here) c.in_ok-expr-in-If.ensures
    (then_adds (calls_in_statement c.in-If.then.value) (calls_in_statement c.in-Some.otherwise.value) (stmt_of c.deref.ensures c.in_ok-statement-in-If.ensures) (stmt_of c.deref-in-Some.ensures last))))
    c.statement-in-Some.ensures

pub statement-returns-in-None : goal.statement-returns-in-None
statement-returns-in-None t c =
    stmt_same _ (if_alone_has (c.in-If.is ∙ ap (λ o. S.If c.in-If.place c.in-If.test c.in-If.then o) c.in-None.is))
    (then_adds (λ here. calls_in here c.in-If.test) (calls_in_statement c.in-If.then.value) c.in_ok-expr-in-If.ensures (stmt_of c.deref.ensures c.in_ok-statement-in-If.ensures))

pub statement-returns-in-Some-otherwise : goal.statement-returns-in-Some-otherwise
statement-returns-in-Some-otherwise t c =
    IfOk-weaker c.statement-in-Some-otherwise.result _ _
    (λ _ last. stmt_same _ (where_else_has (c.in-Where.is ∙ ap (λ o. S.Where c.in-Where.place c.in-Where.test c.in-Where.then o) c.in-Some-otherwise.is))
    (then_adds (λ here. calls_in here c.in-Where.test) (λ here. calls_in_statement c.in-Where.then.value here ++ calls_in_statement c.in-Some-otherwise.otherwise.value here) c.in_ok-expr-in-Where.ensures
    (then_adds (calls_in_statement c.in-Where.then.value) (calls_in_statement c.in-Some-otherwise.otherwise.value) (stmt_of c.deref-in-Where.ensures c.in_ok-statement-in-Where.ensures) (stmt_of c.deref-in-Some-otherwise.ensures last))))
    c.statement-in-Some-otherwise.ensures

pub statement-returns-in-None-otherwise : goal.statement-returns-in-None-otherwise
statement-returns-in-None-otherwise t c =
    stmt_same _ (where_alone_has (c.in-Where.is ∙ ap (λ o. S.Where c.in-Where.place c.in-Where.test c.in-Where.then o) c.in-None-otherwise.is))
    (then_adds (λ here. calls_in here c.in-Where.test) (calls_in_statement c.in-Where.then.value) c.in_ok-expr-in-Where.ensures (stmt_of c.deref-in-Where.ensures c.in_ok-statement-in-Where.ensures))

pub statement-returns-in_ok-expr-in-While : goal.statement-returns-in_ok-expr-in-While
statement-returns-in_ok-expr-in-While t c =
    IfOk-weaker c.statement-in-While.result _ _
    (λ _ last. stmt_same _ (while_has c.in-While.is) (then_adds (λ here. calls_in here c.in-While.test) (calls_in_statement c.in-While.body.value) c.in_ok-expr-in-While.ensures (stmt_of c.deref-in-While.ensures last)))
    c.statement-in-While.ensures

pub statement-returns-in_ok-statement-in-Do : goal.statement-returns-in_ok-statement-in-Do
statement-returns-in_ok-statement-in-Do t c =
    IfOk-weaker c.expr-in-Do.result _ _
    (λ _ last. stmt_same _ (do_has c.in-Do.is) (then_adds (calls_in_statement c.in-Do.body.value) (λ here. calls_in here c.in-Do.test) (stmt_of c.deref-in-Do.ensures c.in_ok-statement-in-Do.ensures) last))
    c.expr-in-Do.ensures

pub statement-returns-in_ok-optional-in-For-3 : goal.statement-returns-in_ok-optional-in-For-3
statement-returns-in_ok-optional-in-For-3 t c =
    IfOk-weaker c.statement-in-For.result _ _
    (λ _ last. stmt_same _ (for_has c.in-For.is)
    (then_adds (λ here. calls_in_each here (optional c.in-For.first)) (λ here. calls_in_each here (optional c.in-For.test) ++ (calls_in_each here (optional c.in-For.step) ++ calls_in_statement c.in-For.body.value here)) c.in_ok-optional-in-For.ensures
    (then_adds (λ here. calls_in_each here (optional c.in-For.test)) (λ here. calls_in_each here (optional c.in-For.step) ++ calls_in_statement c.in-For.body.value here) c.in_ok-optional-in-For-2.ensures
    (then_adds (λ here. calls_in_each here (optional c.in-For.step)) (calls_in_statement c.in-For.body.value) c.in_ok-optional-in-For-3.ensures (stmt_of c.deref-in-For.ensures last)))))
    c.statement-in-For.ensures

pub statement-returns-in-Return : goal.statement-returns-in-Return
statement-returns-in-Return t c =
    IfOk-weaker c.optional-in-Return.result _ _ (λ _ last. stmt_same _ (return_has c.in-Return.is) last) c.optional-in-Return.ensures

pub statement-returns-in-With : goal.statement-returns-in-With
statement-returns-in-With t c =
    IfOk-weaker c.statement-in-With.result _ _ (λ _ last. stmt_same _ (with_has c.in-With.is) (with_adds c.in-With.body.value c.in-With.shape (stmt_of c.deref-in-With.ensures last))) c.statement-in-With.ensures

pub statement-returns-in-Everywhere : goal.statement-returns-in-Everywhere
statement-returns-in-Everywhere t c =
    IfOk-weaker c.statement-in-Everywhere.result _ _ (λ _ last. stmt_same _ (everywhere_has c.in-Everywhere.is) (stmt_of c.deref-in-Everywhere.ensures last)) c.statement-in-Everywhere.ensures

pub statement-returns-in-Empty : goal.statement-returns-in-Empty
statement-returns-in-Empty t c =
    stmt_none (empty_has c.in-Empty.is)

pub statement-returns-in-Break : goal.statement-returns-in-Break
statement-returns-in-Break t c =
    stmt_none (break_has c.in-Break.is)

pub statement-returns-in-Continue : goal.statement-returns-in-Continue
statement-returns-in-Continue t c =
    stmt_none (continue_has c.in-Continue.is)
