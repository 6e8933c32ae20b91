use Rattle.std.proofs.Common.{refl}
use Rattle.std.proofs.lemmas.Result.{IfOk-weaker}
use Rattle.cstar_tree.specs.TypedParts.{concat}
use Rattle.call_groups.proofs.Adding.{none_added}
use Rattle.call_groups.proofs.Parts as parts
use Rattle.call_groups.proofs.Parts.{adds_all, adds_call, adds_next, adds_none, adds_one, adds_three, adds_two}
use Rattle.call_groups.proofs.calls.Calls.+expr.Goals as goal

pub arguments-init : goal.arguments-init
unfolding concat
arguments-init t c = none_added c.args.self.now _ (λ here. refl)

pub indexes-init : goal.indexes-init
unfolding concat
indexes-init t c = none_added c.args.self.now _ (λ here. refl)

pub printed-init : goal.printed-init
unfolding concat
printed-init t c = none_added c.args.self.now _ (λ here. refl)

pub arguments-preserved : goal.arguments-preserved
arguments-preserved t c = adds_next c.deref-argument-items.result.now c.arguments.argument-index c.arguments-test.true c.argument-item.is c.arguments.invariant c.in_ok-expr-in-Call.ensures

pub indexes-preserved : goal.indexes-preserved
indexes-preserved t c = adds_next c.deref-index-items.result.now c.indexes.index-index c.indexes-test.true c.index-item.is c.indexes.invariant c.in_ok-expr-in-LeftIndex.ensures

pub printed-preserved : goal.printed-preserved
printed-preserved t c = adds_next c.deref-argument-items-in-Printf.result.now c.printed.argument-index c.printed-test.true c.argument-item-in-printed.is c.printed.invariant c.in_ok-expr-in-Printf.ensures

pub returns-after-arguments : goal.returns-after-arguments
returns-after-arguments t c = IfOk-weaker c.call.result _ _ (λ _ call. adds_call c.deref-argument-items.result.now c.arguments.argument-index c.in-Call.name c.deref-argument-items.ensures.value c.arguments-test.false c.arguments.invariant call (parts.call c.in-Call.arguments c.in-Call.is)) c.call.ensures

pub returns-after-indexes : goal.returns-after-indexes
returns-after-indexes t c = adds_all c.deref-index-items.result.now c.indexes.index-index c.deref-index-items.ensures.value c.indexes-test.false c.indexes.invariant (parts.left_index c.in-LeftIndex.indexes c.in-LeftIndex.is)

pub returns-after-printed : goal.returns-after-printed
returns-after-printed t c = adds_all c.deref-argument-items-in-Printf.result.now c.printed.argument-index c.deref-argument-items-in-Printf.ensures.value c.printed-test.false c.printed.invariant (parts.printf c.in-Printf.arguments c.in-Printf.is)

pub returns-in_ok-expr-in-Choice-2 : goal.returns-in_ok-expr-in-Choice-2
returns-in_ok-expr-in-Choice-2 t c = IfOk-weaker c.expr-in-Choice-3.result _ _ (λ _ last. adds_three c.deref.ensures c.deref-in-Choice.ensures c.deref-in-Choice-2.ensures c.in_ok-expr-in-Choice.ensures c.in_ok-expr-in-Choice-2.ensures last (parts.choice c.in-Choice.is)) c.expr-in-Choice-3.ensures

pub returns-in_ok-expr-in-Assign : goal.returns-in_ok-expr-in-Assign
returns-in_ok-expr-in-Assign t c = IfOk-weaker c.expr-in-Assign-2.result _ _ (λ _ last. adds_two c.deref-in-Assign.ensures c.deref-in-Assign-2.ensures c.in_ok-expr-in-Assign.ensures last (parts.assign c.in-Assign.is)) c.expr-in-Assign-2.ensures

pub returns-in_ok-expr-in-Binary : goal.returns-in_ok-expr-in-Binary
returns-in_ok-expr-in-Binary t c = IfOk-weaker c.expr-in-Binary-2.result _ _ (λ _ last. adds_two c.deref-in-Binary.ensures c.deref-in-Binary-2.ensures c.in_ok-expr-in-Binary.ensures last (parts.binary c.in-Binary.is)) c.expr-in-Binary-2.ensures

pub returns-in_ok-expr-in-Scan : goal.returns-in_ok-expr-in-Scan
returns-in_ok-expr-in-Scan t c = IfOk-weaker c.expr-in-Scan-2.result _ _ (λ _ last. adds_two c.deref-in-Scan.ensures c.deref-in-Scan-2.ensures c.in_ok-expr-in-Scan.ensures last (parts.scan c.in-Scan.is)) c.expr-in-Scan-2.ensures

pub returns-in-Prefix : goal.returns-in-Prefix
returns-in-Prefix t c = IfOk-weaker c.expr-in-Prefix.result _ _ (λ _ last. adds_one c.deref-in-Prefix.ensures last (parts.prefix c.in-Prefix.is)) c.expr-in-Prefix.ensures

pub returns-in-Casts : goal.returns-in-Casts
returns-in-Casts t c = IfOk-weaker c.expr-in-Casts.result _ _ (λ _ last. adds_one c.deref-in-Casts.ensures last (parts.casts c.in-Casts.is)) c.expr-in-Casts.ensures

pub returns-in-ParallelCast : goal.returns-in-ParallelCast
returns-in-ParallelCast t c = IfOk-weaker c.expr-in-ParallelCast.result _ _ (λ _ last. adds_one c.deref-in-ParallelCast.ensures last (parts.parallel_cast c.in-ParallelCast.is)) c.expr-in-ParallelCast.ensures

pub returns-in-Postfix : goal.returns-in-Postfix
returns-in-Postfix t c = IfOk-weaker c.expr-in-Postfix.result _ _ (λ _ last. adds_one c.deref-in-Postfix.ensures last (parts.postfix c.in-Postfix.is)) c.expr-in-Postfix.ensures

pub returns-in-Element : goal.returns-in-Element
returns-in-Element t c = IfOk-weaker c.expr-in-Element.result _ _ (λ _ last. adds_one c.deref-in-Element.ensures last (parts.element c.in-Element.is)) c.expr-in-Element.ensures

pub returns-in-Brackets : goal.returns-in-Brackets
returns-in-Brackets t c = IfOk-weaker c.expr-in-Brackets.result _ _ (λ _ last. adds_one c.deref-in-Brackets.ensures last (parts.brackets c.in-Brackets.is)) c.expr-in-Brackets.ensures

pub returns-in-Pcoord : goal.returns-in-Pcoord
returns-in-Pcoord t c = IfOk-weaker c.expr-in-Pcoord.result _ _ (λ _ last. adds_one c.deref-in-Pcoord.ensures last (parts.pcoord c.in-Pcoord.is)) c.expr-in-Pcoord.ensures

pub returns-in-DimOf : goal.returns-in-DimOf
returns-in-DimOf t c = IfOk-weaker c.expr-in-DimOf.result _ _ (λ _ last. adds_one c.deref-in-DimOf.ensures last (parts.dim_of c.in-DimOf.is)) c.expr-in-DimOf.ensures

pub returns-in-Enumerate : goal.returns-in-Enumerate
returns-in-Enumerate t c = IfOk-weaker c.expr-in-Enumerate.result _ _ (λ _ last. adds_one c.deref-in-Enumerate.ensures last (parts.enumerate c.in-Enumerate.is)) c.expr-in-Enumerate.ensures

pub returns-in-Name : goal.returns-in-Name
returns-in-Name t c = adds_none (parts.name c.in-Name.is)

pub returns-in-Number : goal.returns-in-Number
returns-in-Number t c = adds_none (parts.number c.in-Number.is)

pub returns-in-Dot : goal.returns-in-Dot
returns-in-Dot t c = adds_none (parts.dot c.in-Dot.is)

pub returns-in-PositionsOf : goal.returns-in-PositionsOf
returns-in-PositionsOf t c = adds_none (parts.positions_of c.in-PositionsOf.is)

pub returns-in-RankOf : goal.returns-in-RankOf
returns-in-RankOf t c = adds_none (parts.rank_of c.in-RankOf.is)

pub returns-in-GetChar : goal.returns-in-GetChar
returns-in-GetChar t c = adds_none (parts.getchar c.in-GetChar.is)
