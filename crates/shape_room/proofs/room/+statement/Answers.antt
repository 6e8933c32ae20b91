use Rattle.std.proofs.Common.{◌∙◌, ◌+◌, List, ◌∷◌, drop, map, refl, ap, sym}
use Rattle.std.proofs.lemmas.List.{at_drop_all, at_drop_more}
use Rattle.cstar_tree.specs.declared.typed.LocalVar.{LocalVar}
use Rattle.cstar_tree.specs.declared.typed.TStmt.{TStmt}
use Rattle.cstar_tree.specs.Room.{bits_of, expression_room, greatest, statement_room}
use Rattle.cstar_tree.specs.TypedParts.{concat, optional, total}
use Rattle.shape_room.proofs.ByRules.{value_by_rules}
use Rattle.shape_room.proofs.Counting.{greater, greatest_alone, greatest_more, greatest_of_all, sum, whole}
use Rattle.shape_room.proofs.StatementRooms.{block_room, branch_rooms, everywhere_room, expression_statement, for_room, if_room, loop_room, plain_room, return_room, where_room, with_room}
use Rattle.shape_room.specs.Counted.{counted}
use Rattle.shape_room.proofs.room.+statement.Goals as goal

pub statement-returns-in-Block : goal.statement-returns-in-Block
statement-returns-in-Block t c =
    let own = c.declared.ensures ∙ ap (λ (ls : List LocalVar). counted (total (map (λ (l : LocalVar). bits_of c.args.shape l.info) ls))) c.deref-in-Block-2.ensures.value in
    let initial = c.initials.ensures ∙ ap (λ (ls : List LocalVar). counted (greatest (map (expression_room c.args.shape) (concat (map (λ (l : LocalVar). optional l.initial) ls))))) c.deref.ensures.value in
    let inner = c.greatest_statement.ensures ∙ ap (λ (ss : List TStmt). counted (greatest (map (statement_room c.args.shape) ss))) c.deref-in-Block.ensures.value in
    sum _ _ own (greater _ _ initial inner c.max-parts.ensures) c.saturating_add.ensures
    ∙ ap counted (sym (block_room c.args.shape c.args.s.now _ _ c.in-Block.is))

pub statement-returns-in-Expression : goal.statement-returns-in-Expression
statement-returns-in-Expression t c = value_by_rules c.args.shape c.in-Expression.e c.expression.ensures ∙ ap counted (sym (expression_statement c.args.shape c.args.s.now _ c.in-Expression.is))

pub statement-returns-in-If : goal.statement-returns-in-If
statement-returns-in-If t c =
    let then = c.statement.ensures ∙ ap (λ s. counted (statement_room c.args.shape s)) c.deref-in-If.ensures in
    greater _ _ (greater _ _ (value_by_rules c.args.shape c.in-If.test c.expression-in-If.ensures) then c.max.ensures) c.optional_statement.ensures c.max-in-If.ensures
    ∙ ap counted (branch_rooms c.args.shape c.in-If.test c.in-If.then.value c.in-If.otherwise ∙ sym (if_room c.args.shape c.args.s.now _ _ _ c.in-If.is))

pub statement-returns-in-Where : goal.statement-returns-in-Where
statement-returns-in-Where t c =
    let then = c.statement-in-Where.ensures ∙ ap (λ s. counted (statement_room c.args.shape s)) c.deref-in-Where.ensures in
    let parts = greater _ _ (greater _ _ (value_by_rules c.args.shape c.in-Where.test c.expression-in-Where.ensures) then c.max-in-Where.ensures) c.optional_statement-in-Where.ensures c.max-parts-in-Where.ensures
    ∙ ap counted (branch_rooms c.args.shape c.in-Where.test c.in-Where.then.value c.in-Where.otherwise) in
    sum _ _ (whole c.on_shape.ensures c.on_shape.type_inv) parts c.saturating_add-in-Where.ensures
    ∙ ap counted (sym (where_room c.args.shape c.args.s.now _ _ _ _ c.in-Where.is))

pub statement-returns-in-Everywhere : goal.statement-returns-in-Everywhere
statement-returns-in-Everywhere t c =
    let body = c.statement-in-Everywhere.ensures ∙ ap (λ s. counted (statement_room c.args.shape s)) c.deref-in-Everywhere.ensures in
    sum _ _ (whole c.on_shape-in-Everywhere.ensures c.on_shape-in-Everywhere.type_inv) body c.saturating_add-in-Everywhere.ensures
    ∙ ap counted (sym (everywhere_room c.args.shape c.args.s.now _ _ c.in-Everywhere.is))

pub statement-returns-in-While : goal.statement-returns-in-While
statement-returns-in-While t c =
    let body = c.statement-in-While.ensures ∙ ap (λ s. counted (statement_room c.args.shape s)) c.deref-in-While.ensures in
    greater _ _ (value_by_rules c.args.shape c.in-While.test c.expression-in-While.ensures) body c.max-in-While.ensures
    ∙ ap counted (sym (loop_room c.args.shape c.args.s.now _ _ c.in-While.is))

pub statement-returns-in-For : goal.statement-returns-in-For
statement-returns-in-For t c =
    let body = c.statement-in-For.ensures ∙ ap (λ s. counted (statement_room c.args.shape s)) c.deref-in-For.ensures in
    let heads = greater _ _ (greater _ _ c.optional_expression-first.ensures c.optional_expression-test.ensures c.max-in-For.ensures) c.optional_expression-step.ensures c.max-in-For-2.ensures in
    greater _ _ heads body c.max-in-For-3.ensures
    ∙ ap counted (sym (for_room c.args.shape c.args.s.now _ _ _ _ c.in-For.is))

pub statement-returns-in-With : goal.statement-returns-in-With
statement-returns-in-With t c =
    c.statement-in-With.ensures ∙ ap (λ s. counted (statement_room c.args.shape s)) c.deref-in-With.ensures
    ∙ ap counted (sym (with_room c.args.shape c.args.s.now _ _ c.in-With.is))

pub statement-returns-in-Return : goal.statement-returns-in-Return
statement-returns-in-Return t c = c.optional_expression.ensures ∙ ap counted (sym (return_room c.args.shape c.args.s.now _ c.in-Return.is))

pub statement-returns-in-Empty : goal.statement-returns-in-Empty
statement-returns-in-Empty t c = ap counted (sym (plain_room c.args.shape c.args.s.now c.in-Empty.is))

pub statement-returns-in-Empty-2 : goal.statement-returns-in-Empty-2
statement-returns-in-Empty-2 t c = ap counted (sym (plain_room c.args.shape c.args.s.now c.in-Empty.is))

pub statement-returns-in-Empty-3 : goal.statement-returns-in-Empty-3
statement-returns-in-Empty-3 t c = ap counted (sym (plain_room c.args.shape c.args.s.now c.in-Empty.is))

pub greatest_statement-loop-s-preserved : goal.greatest_statement-loop-s-preserved
unfolding greatest
greatest_statement-loop-s-preserved t c =
    let left = λ (ss : List TStmt). greatest (map (statement_room c.args.shape) ss) in
    let rest = drop (c.loop-s.s-index + 1) c.args.statements.now in
    let next = at_drop_more left c.args.statements.now c.loop-s.s-index c.s-item.result c.loop-s-test.true ∙ ap (λ (s : TStmt). left (s ∷ rest)) (sym c.s-item.is) in
    greatest_more _ _ _ _ c.loop-s.invariant next c.statement.ensures c.max-greatest.ensures

pub greatest_statement-returns : goal.greatest_statement-returns
unfolding greatest
greatest_statement-returns t c =
    greatest_of_all _ _ c.loop-s.invariant (at_drop_all (λ (ss : List TStmt). greatest (map (statement_room c.args.shape) ss)) c.args.statements.now c.loop-s.s-index c.loop-s-test.false)

pub optional_statement-returns-in-Some : goal.optional_statement-returns-in-Some
unfolding greatest
optional_statement-returns-in-Some t c =
    rw c.in-Some.is (c.statement.ensures ∙ ap (λ s. counted (statement_room c.args.shape s)) c.deref.ensures ∙ ap counted (sym (greatest_alone (statement_room c.args.shape c.in-Some.s.value))))

pub optional_statement-returns-in-None : goal.optional_statement-returns-in-None
unfolding greatest
optional_statement-returns-in-None t c = rw c.in-None.is refl
