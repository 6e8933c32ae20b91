use Rattle.std.proofs.Common.{◌≡◌, None, arith, inl, inr, length, refl, sym, true}
use Rattle.std.specs.Option.{is_some}
use Rattle.std.proofs.lemmas.Result.{IfOk-weaker, on_ok_weaker}
use Rattle.type_expressions.proofs.CallsWithin.{begins_answer, begins_before, begins_both, begins_same}
use Rattle.type_expressions.proofs.Listing.{call_listed, indexes_listed, listed_more, listed_to_later, none_listed, printed_listed, told_left}
use Rattle.type_expressions.proofs.Meetings.{all_met, at_answer, meets_as, meets_both, meets_from, meets_none, meets_part, none_met, one_met}
use Rattle.type_expressions.proofs.NodeCalls.{calls_of_axis, calls_of_brackets, calls_of_leaf, calls_of_list, calls_of_operand, calls_of_operands, list_of_call, list_of_index, list_of_printf, no_list, no_operands, no_source, operands_of_assign, operands_of_binary, operands_of_choice, source_of_scan}
use Rattle.cstar_tree.specs.declared.syntax.Expr as E
use Rattle.type_expressions.proofs.OtherKinds.{sourceless, without_list, without_operands}
use Rattle.type_expressions.proofs.Recording.{both_ok}
use Rattle.type_expressions.proofs.WalkListing.{HasAxis, IsListOf, dim_axis, dim_whole, enumerate_axis, enumerate_whole, listed_finds, more_finds, none_found, nowhere_finds, of_leaf, of_list, of_operands, pcoord_axis, pcoord_whole, scan_axis, scan_whole}
use Rattle.type_expressions.proofs.WalkRecording.{assign_finds, binary_finds, brackets_find, cast_finds, casts_finds, choice_finds, finds_from, finds_later, finds_part, index_finds, leaf_finds, list_finds, postfix_finds, prefix_finds, source_part, value_expected, value_finds, value_found_later}
use Rattle.type_expressions.proofs.Walking.{assigned_typed, at_index_typed, both_typed, brackets_typed, casts_typed, dim_typed, enumerate_typed, list_typed, parallel_cast_typed, pcoord_typed, postfix_typed, prefix_typed, scan_typed, three_typed, value_later, value_typed}
use Rattle.type_expressions.proofs.walk.+expression.Goals as goal
use Rattle.type_expressions.proofs.walk.+expression.Goals.{list-in-LeftIndex, list-in-Call2}

pub list-loop-part-init : goal.list-loop-part-init
list-loop-part-init t c = (
  none_listed c.args.found.now.instances c.args.file.now c.args.locals.now c.args.site c.args.e.now c.match-e.indexed.1 c.deref-part-items.result.now c.new.result c.new.ensures.items,
  omega arith,
  elim c.match-e.branch [
    | list-in-LeftIndex w ↦ rw w.indexed-is (told_left c.args.file.now c.args.locals.now c.args.site c.args.e.now w.in-LeftIndex.place w.in-LeftIndex.indexes w.in-LeftIndex.name w.is_of_current.result w.in-LeftIndex.is w.is_of_current.ensures)
    | list-in-Call2 w ↦ rw w.indexed-is tt
  ],
  begins_same refl,
  none_met c.deref-part-items.result.now refl,
  none_found _ c.args.file.now c.args.locals.now c.args.site c.args.e.now true _ _ refl refl,
)

pub list-loop-part-preserved : goal.list-loop-part-preserved
list-loop-part-preserved t c =
    let before = c.loop-part.invariant in
    let begins = c.in_ok-part.ensures.met in
    let list : IsListOf c.args.file.now c.args.locals.now c.args.site c.args.e.now c.deref-part-items.result.now c.match-e.indexed.1 = elim c.match-e.branch [
      | list-in-LeftIndex w ↦ inr (inr (w.in-LeftIndex.place, w.in-LeftIndex.indexes, w.in-LeftIndex.name, w.is_of_current.result, w.in-LeftIndex.is, rw w.indexed-is at c.deref-part-items.ensures.value, rw w.indexed-is refl, w.is_of_current.ensures))
      | list-in-Call2 w ↦ elim w.in-Call.is [
        | inl k ↦ inl (k.0, w.in-Call.arguments, k.1, rw w.indexed-is at c.deref-part-items.ensures.value, rw w.indexed-is refl)
        | inr k ↦ inr (inl (k.0, k.1, w.in-Call.arguments, k.2, rw w.indexed-is at c.deref-part-items.ensures.value, rw w.indexed-is refl))
      ]
    ] in
    let listed = listed_to_later c.args.file.now c.args.locals.now c.args.site c.args.e.now c.match-e.indexed.1 c.deref-part-items.result.now c.loop-part.part-index c.loop-part.typed begins before.0 in (
      listed_more c.typed_value.new.found.instances c.args.file.now c.args.locals.now c.args.site c.args.e.now c.match-e.indexed.1 c.deref-part-items.result.now c.loop-part.part-index c.loop-part.axis c.part-item.result c.in_ok-part.part c.loop-part.typed c.in_ok-typed.typed c.loop-part-test.true c.part-item.is before.1 before.2 (rw c.dot_at-dot.ensures at c.in_ok-part.ensures.typed) c.in_ok-typed.ensures.more listed,
      omega (arith, before.1, c.saturating_add-axis.ensures),
      before.2,
      begins_both before.3 begins,
      one_met c.deref-part-items.result.now c.loop-part.part-index c.part-item.result c.dot_at-dot.result c.loop-part-test.true c.part-item.is before.4 c.in_ok-part.ensures.calls,
      more_finds _ c.args.file.now c.args.locals.now c.args.site c.args.e.now _ _ _ _ _ _ (finds_later c.args.file.now c.args.locals.now c.args.site c.args.e.now _ _ _ begins before.5) (listed_finds _ c.args.file.now c.args.locals.now c.args.site c.args.e.now c.deref-part-items.result.now c.match-e.indexed.1 c.loop-part.part-index c.loop-part.axis c.part-item.result _ _ _ list c.loop-part-test.true c.part-item.is before.1 (rw c.dot_at-dot.ensures at c.in_ok-part.ensures.faults)) c.in_ok-typed.ensures.wanting,
    )

pub list-returns-clause-typed : goal.list-returns-clause-typed
list-returns-clause-typed t c =
    let end : c.loop-part.part-index ≡ length c.deref-part-items.result.now = omega (arith, c.loop-part-test.false, c.loop-part.auto.part-index-end) in
    let whole = rw end at c.loop-part.invariant.0 in
    let listed = rw c.deref-part-items.ensures.value at whole in
    elim c.match-e.branch [
      | list-in-LeftIndex w ↦
          let here = rw w.indexed-is at listed in
          rw w.in-LeftIndex.is (indexes_listed _ c.args.file.now c.args.locals.now c.args.site w.in-LeftIndex.place w.in-LeftIndex.indexes w.in-LeftIndex.name w.is_of_current.result c.loop-part.typed (rw w.in-LeftIndex.is at here))
      | list-in-Call2 w ↦
          let here = rw w.indexed-is at listed in
          elim w.in-Call.is [
            | inl k ↦ rw k.1 (call_listed _ c.args.file.now c.args.locals.now c.args.site k.0 w.in-Call.arguments c.loop-part.typed (rw k.1 at here))
            | inr k ↦ rw k.2 (printed_listed _ c.args.file.now c.args.locals.now c.args.site k.0 k.1 w.in-Call.arguments c.loop-part.typed (rw k.2 at here))
          ]
    ]

pub operands-returns-in_ok-value-in-Assign-clause-typed : goal.operands-returns-in_ok-value-in-Assign-clause-typed
operands-returns-in_ok-value-in-Assign-clause-typed t c =
    let target = value_later c.args.file.now c.args.locals.now c.args.site c.in-Assign.target.value c.in_ok-target-in-Assign.target c.in_ok-value-in-Assign.ensures.met (rw c.deref.ensures at c.in_ok-target-in-Assign.ensures.typed) in
    rw c.in-Assign.is (IfOk-weaker c.assigned.result _ _ (λ r m. assigned_typed _ c.args.file.now c.args.locals.now c.args.site c.in-Assign.place c.in-Assign.op c.in-Assign.target c.in-Assign.value c.in_ok-target-in-Assign.target c.in_ok-value-in-Assign.value _ _ r target (rw c.deref-in-Assign.ensures at c.in_ok-value-in-Assign.ensures.typed) m) c.assigned.ensures)

pub operands-returns-in_ok-otherwise-in-Choice-clause-typed : goal.operands-returns-in_ok-otherwise-in-Choice-clause-typed
operands-returns-in_ok-otherwise-in-Choice-clause-typed t c =
    let test = value_later c.args.file.now c.args.locals.now c.args.site c.in-Choice.test.value c.in_ok-test-in-Choice.test (begins_both c.in_ok-then-in-Choice.ensures.met c.in_ok-otherwise-in-Choice.ensures.met) (rw c.deref-in-Choice.ensures at c.in_ok-test-in-Choice.ensures.typed) in
    let second = value_later c.args.file.now c.args.locals.now c.args.site c.in-Choice.then.value c.in_ok-then-in-Choice.then c.in_ok-otherwise-in-Choice.ensures.met (rw c.deref-in-Choice-2.ensures at c.in_ok-then-in-Choice.ensures.typed) in
    rw c.in-Choice.is (IfOk-weaker c.chosen.result _ _ (λ r m. three_typed _ c.args.file.now c.args.locals.now c.args.site c.in-Choice.place c.in-Choice.test c.in-Choice.then c.in-Choice.otherwise c.in_ok-test-in-Choice.test c.in_ok-then-in-Choice.then c.in_ok-otherwise-in-Choice.otherwise r test second (rw c.deref-in-Choice-3.ensures at c.in_ok-otherwise-in-Choice.ensures.typed) m) (c.chosen.ensures.typed c.in-Choice.place))

pub operands-returns-in_ok-right-in-Binary-clause-typed : goal.operands-returns-in_ok-right-in-Binary-clause-typed
operands-returns-in_ok-right-in-Binary-clause-typed t c =
    let left = value_later c.args.file.now c.args.locals.now c.args.site c.in-Binary.left.value c.in_ok-left-in-Binary.left c.in_ok-right-in-Binary.ensures.met (rw c.deref-in-Binary.ensures at c.in_ok-left-in-Binary.ensures.typed) in
    rw c.in-Binary.is (IfOk-weaker c.combined.result _ _ (λ r m. both_typed _ c.args.file.now c.args.locals.now c.args.site c.in-Binary.place c.in-Binary.op c.in-Binary.left c.in-Binary.right c.in_ok-left-in-Binary.left c.in_ok-right-in-Binary.right r left (rw c.deref-in-Binary-2.ensures at c.in_ok-right-in-Binary.ensures.typed) m) c.combined.ensures.typed)

pub typed_expr-returns-in_ok-inner-in-Brackets-clause-typed : goal.typed_expr-returns-in_ok-inner-in-Brackets-clause-typed
typed_expr-returns-in_ok-inner-in-Brackets-clause-typed t c =
    rw c.in-Brackets.is (IfOk-weaker c.bracketed.result _ _ (λ r m. brackets_typed _ c.args.file.now c.args.locals.now c.args.site c.in-Brackets.place c.in-Brackets.inner c.in_ok-inner-in-Brackets.inner r (rw c.deref.ensures at c.in_ok-inner-in-Brackets.ensures.typed) m) c.bracketed.ensures)

pub typed_expr-returns-in-Some-clause-typed : goal.typed_expr-returns-in-Some-clause-typed
typed_expr-returns-in-Some-clause-typed t c =
    let v = rw c.deref-in-Pcoord.ensures at c.in_ok-axis-in-Pcoord.ensures.typed in
    let typed = c.with_axis.ensures.typed c.args.locals.now in
    elim c.in-Pcoord.is [
      | inl k ↦ rw k.1 (IfOk-weaker c.with_axis.result _ _ (λ r m. pcoord_typed _ c.args.file.now c.args.locals.now c.args.site k.0 c.in-Pcoord.axis c.in_ok-axis-in-Pcoord.axis c.in_ok-along-in-Pcoord.along c.in-Some.along c.in_ok-source-in-Pcoord.source r v (rw k.1 at c.in_ok-along-in-Pcoord.ensures.along) c.in-Some.is tt m) (rw k.1 at typed))
      | inr a ↦ elim a [
        | inl k ↦ rw k.2 (IfOk-weaker c.with_axis.result _ _ (λ r m. dim_typed _ c.args.file.now c.args.locals.now c.args.site k.0 k.1 c.in-Pcoord.axis c.in_ok-axis-in-Pcoord.axis c.in_ok-along-in-Pcoord.along c.in-Some.along c.in_ok-source-in-Pcoord.source r v (rw k.2 at c.in_ok-along-in-Pcoord.ensures.along) c.in-Some.is tt m) (rw k.2 at typed))
        | inr b ↦ elim b [
          | inl k ↦ rw k.7 (IfOk-weaker c.with_axis.result _ _ (λ r m. scan_typed _ c.args.file.now c.args.locals.now c.args.site k.0 k.1 c.in-Pcoord.axis k.2 k.3 k.4 k.5 k.6 c.in_ok-axis-in-Pcoord.axis c.in_ok-along-in-Pcoord.along c.in-Some.along c.in_ok-source-in-Pcoord.source r v (rw k.7 at c.in_ok-along-in-Pcoord.ensures.along) c.in-Some.is (value_later c.args.file.now c.args.locals.now c.args.site k.1.value c.in_ok-source-in-Pcoord.source c.in_ok-axis-in-Pcoord.ensures.met (rw k.7 at c.in_ok-source-in-Pcoord.ensures.typed)) m) (rw k.7 at typed))
          | inr k ↦ rw k.5 (IfOk-weaker c.with_axis.result _ _ (λ r m. enumerate_typed _ c.args.file.now c.args.locals.now c.args.site k.0 c.in-Pcoord.axis k.1 k.2 k.3 k.4 c.in_ok-axis-in-Pcoord.axis c.in_ok-along-in-Pcoord.along c.in-Some.along c.in_ok-source-in-Pcoord.source r v (rw k.5 at c.in_ok-along-in-Pcoord.ensures.along) c.in-Some.is tt m) (rw k.5 at typed))
        ]
      ]
    ]

pub typed_expr-returns-in_ok-part-in-Prefix-clause-typed : goal.typed_expr-returns-in_ok-part-in-Prefix-clause-typed
typed_expr-returns-in_ok-part-in-Prefix-clause-typed t c =
    let v = rw c.deref-in-Prefix.ensures at c.in_ok-part-in-Prefix.ensures.typed in
    let typed = c.with_operand.ensures.typed in
    elim c.in-Prefix.is [
      | inl k ↦ rw k.2 (IfOk-weaker c.with_operand.result _ _ (λ r m. prefix_typed _ c.args.file.now c.args.locals.now c.args.site k.0 k.1 c.in-Prefix.part c.in_ok-part-in-Prefix.part r v m) (rw k.2 at typed))
      | inr a ↦ elim a [
        | inl k ↦ rw k.1 (IfOk-weaker c.with_operand.result _ _ (λ r m. casts_typed _ c.args.file.now c.args.locals.now c.args.site k.0 c.in-Prefix.part c.in_ok-part-in-Prefix.part r v m) (rw k.1 at typed))
        | inr b ↦ elim b [
          | inl k ↦ rw k.2 (IfOk-weaker c.with_operand.result _ _ (λ r m. parallel_cast_typed _ c.args.file.now c.args.locals.now c.args.site k.0 k.1 c.in-Prefix.part c.in_ok-part-in-Prefix.part r v m) (rw k.2 at typed))
          | inr d ↦ elim d [
            | inl k ↦ rw k.2 (IfOk-weaker c.with_operand.result _ _ (λ r m. postfix_typed _ c.args.file.now c.args.locals.now c.args.site k.0 k.1 c.in-Prefix.part c.in_ok-part-in-Prefix.part r v m) (rw k.2 at typed))
            | inr k ↦ rw k.2 (IfOk-weaker c.with_operand.result _ _ (λ r m. at_index_typed _ c.args.file.now c.args.locals.now c.args.site k.0 k.1 c.in-Prefix.part c.in_ok-part-in-Prefix.part r v m) (rw k.2 at typed))
          ]
        ]
      ]
    ]

pub typed_expr-returns-in_ok-parts-in-Call-clause-typed : goal.typed_expr-returns-in_ok-parts-in-Call-clause-typed
typed_expr-returns-in_ok-parts-in-Call-clause-typed t c =
    list_typed c.list.new.found.instances c.with_list.new.found.instances c.args.file.now c.args.locals.now c.args.site c.args.e.now c.in_ok-parts-in-Call.parts c.with_list.result c.in_ok-parts-in-Call.ensures.typed c.with_list.ensures.met c.with_list.ensures.typed

pub typed_value-returns-clause-typed : goal.typed_value-returns-clause-typed
typed_value-returns-clause-typed t c =
    IfOk-weaker c.settle.result _ _ (λ r m. value_typed _ c.args.file.now c.args.locals.now c.args.site c.part.result c.args.e.now c.in_ok-typed.typed c.valued.result r c.part.ensures c.in_ok-typed.ensures.typed c.valued.ensures.typed m) c.settle.ensures.part

pub operands-returns-in_ok-value-in-Assign-clause-met : goal.operands-returns-in_ok-value-in-Assign-clause-met
operands-returns-in_ok-value-in-Assign-clause-met t c =
    begins_answer c.assigned.result (begins_both c.in_ok-target-in-Assign.ensures.met c.in_ok-value-in-Assign.ensures.met)

pub operands-returns-in_ok-otherwise-in-Choice-clause-met : goal.operands-returns-in_ok-otherwise-in-Choice-clause-met
operands-returns-in_ok-otherwise-in-Choice-clause-met t c =
    begins_answer c.chosen.result (begins_both c.in_ok-test-in-Choice.ensures.met (begins_both c.in_ok-then-in-Choice.ensures.met c.in_ok-otherwise-in-Choice.ensures.met))

pub operands-returns-in_ok-right-in-Binary-clause-met : goal.operands-returns-in_ok-right-in-Binary-clause-met
operands-returns-in_ok-right-in-Binary-clause-met t c =
    begins_answer c.combined.result (begins_both c.in_ok-left-in-Binary.ensures.met c.in_ok-right-in-Binary.ensures.met)

pub typed_expr-returns-in-Name-clause-met : goal.typed_expr-returns-in-Name-clause-met
typed_expr-returns-in-Name-clause-met t c = begins_answer c.outcome.result (begins_same c.count.ensures.instances)

pub typed_expr-returns-in_ok-parts-in-Call-clause-met : goal.typed_expr-returns-in_ok-parts-in-Call-clause-met
typed_expr-returns-in_ok-parts-in-Call-clause-met t c =
    begins_before c.with_list.result c.with_list.new.found.instances (begins_both (begins_same c.count.ensures.instances) c.in_ok-parts-in-Call.ensures.met) c.with_list.ensures.met

pub typed_expr-returns-in-Some-clause-met : goal.typed_expr-returns-in-Some-clause-met
typed_expr-returns-in-Some-clause-met t c =
    begins_answer c.with_axis.result (begins_both (begins_same c.count.ensures.instances) (begins_both c.in_ok-source-in-Pcoord.ensures.met c.in_ok-axis-in-Pcoord.ensures.met))

pub typed_expr-returns-in-None-clause-met : goal.typed_expr-returns-in-None-clause-met
typed_expr-returns-in-None-clause-met t c =
    begins_both (begins_same c.count.ensures.instances) (begins_both c.in_ok-source-in-Pcoord.ensures.met c.in_ok-axis-in-Pcoord.ensures.met)

-- ---- what is met

pub list-returns-clause-calls : goal.list-returns-clause-calls
list-returns-clause-calls t c =
    let end : c.loop-part.part-index ≡ length c.deref-part-items.result.now = omega (arith, c.loop-part-test.false, c.loop-part.auto.part-index-end) in
    let whole = rw end at c.loop-part.invariant.4 in
    let met = rw c.deref-part-items.ensures.value at whole in
    elim c.match-e.branch [
      | list-in-LeftIndex w ↦ all_met w.in-LeftIndex.indexes.items (λ here. list_of_index here w.in-LeftIndex.place w.in-LeftIndex.indexes w.in-LeftIndex.name w.in-LeftIndex.is) (rw w.indexed-is at met)
      | list-in-Call2 w ↦
          let parts = rw w.indexed-is at met in
          elim w.in-Call.is [
            | inl k ↦ all_met w.in-Call.arguments.items (λ here. list_of_call here k.0 w.in-Call.arguments k.1) parts
            | inr k ↦ all_met w.in-Call.arguments.items (λ here. list_of_printf here k.0 k.1 w.in-Call.arguments k.2) parts
          ]
    ]

pub list-returns-in_default-clause-calls : goal.list-returns-in_default-clause-calls
list-returns-in_default-clause-calls t c = meets_none refl (λ here. no_list here c.args.e.now c.in_default.not-Call c.in_default.not-Printf c.in_default.not-LeftIndex)

pub operands-returns-in_ok-value-in-Assign-clause-calls : goal.operands-returns-in_ok-value-in-Assign-clause-calls
operands-returns-in_ok-value-in-Assign-clause-calls t c =
    at_answer c.assigned.result (meets_as (λ here. sym (operands_of_assign here c.in-Assign.place c.in-Assign.op c.in-Assign.target c.in-Assign.value c.in-Assign.is)) (meets_both (rw c.deref.ensures at c.in_ok-target-in-Assign.ensures.calls) (rw c.deref-in-Assign.ensures at c.in_ok-value-in-Assign.ensures.calls)))

pub operands-returns-in_ok-otherwise-in-Choice-clause-calls : goal.operands-returns-in_ok-otherwise-in-Choice-clause-calls
operands-returns-in_ok-otherwise-in-Choice-clause-calls t c =
    at_answer c.chosen.result (meets_as (λ here. sym (operands_of_choice here c.in-Choice.place c.in-Choice.test c.in-Choice.then c.in-Choice.otherwise c.in-Choice.is)) (meets_both (rw c.deref-in-Choice.ensures at c.in_ok-test-in-Choice.ensures.calls) (meets_both (rw c.deref-in-Choice-2.ensures at c.in_ok-then-in-Choice.ensures.calls) (rw c.deref-in-Choice-3.ensures at c.in_ok-otherwise-in-Choice.ensures.calls))))

pub operands-returns-in_ok-right-in-Binary-clause-calls : goal.operands-returns-in_ok-right-in-Binary-clause-calls
operands-returns-in_ok-right-in-Binary-clause-calls t c =
    at_answer c.combined.result (meets_as (λ here. sym (operands_of_binary here c.in-Binary.place c.in-Binary.op c.in-Binary.left c.in-Binary.right c.in-Binary.is)) (meets_both (rw c.deref-in-Binary.ensures at c.in_ok-left-in-Binary.ensures.calls) (rw c.deref-in-Binary-2.ensures at c.in_ok-right-in-Binary.ensures.calls)))

pub operands-returns-in_default-clause-calls : goal.operands-returns-in_default-clause-calls
operands-returns-in_default-clause-calls t c = meets_none refl (λ here. no_operands here c.args.e.now c.in_default.not-Assign c.in_default.not-Choice c.in_default.not-Binary)

pub source_value-returns-in-Scan-clause-calls : goal.source_value-returns-in-Scan-clause-calls
source_value-returns-in-Scan-clause-calls t c =
    on_ok_weaker c.typed_value.result (λ m. meets_as (λ here. sym (source_of_scan here c.in-Scan.place c.in-Scan.source c.in-Scan.axis c.in-Scan.combiner c.in-Scan.direction c.in-Scan.mode c.in-Scan.bit c.in-Scan.inclusion c.in-Scan.is)) (rw c.deref.ensures at m)) c.typed_value.ensures.calls

pub source_value-returns-in_default-clause-calls : goal.source_value-returns-in_default-clause-calls
source_value-returns-in_default-clause-calls t c = meets_none refl (λ here. no_source here c.args.e.now c.in_default.not-Scan)

pub typed_expr-returns-in_ok-inner-in-Brackets-clause-calls : goal.typed_expr-returns-in_ok-inner-in-Brackets-clause-calls
typed_expr-returns-in_ok-inner-in-Brackets-clause-calls t c =
    at_answer c.bracketed.result (meets_from c.count.ensures.instances (meets_as (λ here. sym (calls_of_brackets here c.in-Brackets.place c.in-Brackets.inner c.in-Brackets.is)) (rw c.deref.ensures at c.in_ok-inner-in-Brackets.ensures.calls)))

pub typed_expr-returns-in-Assign-clause-calls : goal.typed_expr-returns-in-Assign-clause-calls
typed_expr-returns-in-Assign-clause-calls t c =
    on_ok_weaker c.operands.result (λ m. meets_from c.count.ensures.instances (meets_as (λ here. sym (calls_of_operands here c.in-Assign.is)) m)) c.operands.ensures.calls

pub typed_expr-returns-in_ok-part-in-Prefix-clause-calls : goal.typed_expr-returns-in_ok-part-in-Prefix-clause-calls
typed_expr-returns-in_ok-part-in-Prefix-clause-calls t c =
    at_answer c.with_operand.result (meets_from c.count.ensures.instances (meets_as (λ here. sym (calls_of_operand here c.in-Prefix.part c.in-Prefix.is)) (rw c.deref-in-Prefix.ensures at c.in_ok-part-in-Prefix.ensures.calls)))

pub typed_expr-returns-in_ok-parts-in-Call-clause-calls : goal.typed_expr-returns-in_ok-parts-in-Call-clause-calls
typed_expr-returns-in_ok-parts-in-Call-clause-calls t c =
    on_ok_weaker c.with_list.result (λ m. meets_as (λ here. sym (calls_of_list here c.in-Call.is)) (meets_both (meets_from c.count.ensures.instances c.in_ok-parts-in-Call.ensures.calls) m)) c.with_list.ensures.calls

pub typed_expr-returns-in-Some-clause-calls : goal.typed_expr-returns-in-Some-clause-calls
typed_expr-returns-in-Some-clause-calls t c =
    at_answer c.with_axis.result (meets_from c.count.ensures.instances (meets_as (λ here. sym (calls_of_axis here c.in-Pcoord.axis c.in-Pcoord.is)) (meets_both c.in_ok-source-in-Pcoord.ensures.calls (rw c.deref-in-Pcoord.ensures at c.in_ok-axis-in-Pcoord.ensures.calls))))

pub typed_expr-returns-in-None-clause-calls : goal.typed_expr-returns-in-None-clause-calls
typed_expr-returns-in-None-clause-calls t c =
    meets_from c.count.ensures.instances (meets_as (λ here. sym (calls_of_axis here c.in-Pcoord.axis c.in-Pcoord.is)) (meets_both c.in_ok-source-in-Pcoord.ensures.calls (rw c.deref-in-Pcoord.ensures at c.in_ok-axis-in-Pcoord.ensures.calls)))

pub typed_expr-returns-in-Name-clause-calls : goal.typed_expr-returns-in-Name-clause-calls
typed_expr-returns-in-Name-clause-calls t c = at_answer c.outcome.result (meets_none c.count.ensures.instances (λ here. calls_of_leaf here c.in-Name.is))

pub typed_value-returns-clause-calls : goal.typed_value-returns-clause-calls
typed_value-returns-clause-calls t c = at_answer c.settle.result (meets_part c.args.e.now c.part.ensures c.in_ok-typed.ensures.calls)

-- ---- what is recorded

pub list-returns-clause-faults : goal.list-returns-clause-faults
list-returns-clause-faults t c list = c.loop-part.invariant.5

pub list-returns-in_default-clause-faults : goal.list-returns-in_default-clause-faults
list-returns-in_default-clause-faults t c list = absurd (without_list c.args.e.now c.in_default.not-Call c.in_default.not-Printf c.in_default.not-LeftIndex list)

pub operands-returns-in_default-clause-faults : goal.operands-returns-in_default-clause-faults
operands-returns-in_default-clause-faults t c kind = absurd (without_operands c.args.e.now c.in_default.not-Assign c.in_default.not-Choice c.in_default.not-Binary kind)

pub operands-returns-in_ok-value-in-Assign-clause-faults : goal.operands-returns-in_ok-value-in-Assign-clause-faults
operands-returns-in_ok-value-in-Assign-clause-faults t c kind =
    let begins = c.in_ok-value-in-Assign.ensures.met in
    let target = value_later c.args.file.now c.args.locals.now c.args.site c.in-Assign.target.value c.in_ok-target-in-Assign.target begins (rw c.deref.ensures at c.in_ok-target-in-Assign.ensures.typed) in
    let found = value_found_later c.args.file.now c.args.locals.now c.args.site c.in-Assign.target.value _ _ _ begins (rw c.deref.ensures at c.in_ok-target-in-Assign.ensures.faults) in
    rw c.in-Assign.is (IfOk-weaker c.assigned.result _ _ (λ r m. assign_finds _ c.args.file.now c.args.locals.now c.args.site c.in-Assign.place c.in-Assign.op c.in-Assign.target c.in-Assign.value c.in_ok-target-in-Assign.target c.in_ok-value-in-Assign.value r _ _ _ _ target (rw c.deref-in-Assign.ensures at c.in_ok-value-in-Assign.ensures.typed) found (rw c.deref-in-Assign.ensures at c.in_ok-value-in-Assign.ensures.faults) m) c.assigned.ensures)

pub operands-returns-in_ok-otherwise-in-Choice-clause-faults : goal.operands-returns-in_ok-otherwise-in-Choice-clause-faults
operands-returns-in_ok-otherwise-in-Choice-clause-faults t c kind =
    let test = value_found_later c.args.file.now c.args.locals.now c.args.site c.in-Choice.test.value _ _ _ (begins_both c.in_ok-then-in-Choice.ensures.met c.in_ok-otherwise-in-Choice.ensures.met) (rw c.deref-in-Choice.ensures at c.in_ok-test-in-Choice.ensures.faults) in
    let second = value_found_later c.args.file.now c.args.locals.now c.args.site c.in-Choice.then.value _ _ _ c.in_ok-otherwise-in-Choice.ensures.met (rw c.deref-in-Choice-2.ensures at c.in_ok-then-in-Choice.ensures.faults) in
    rw c.in-Choice.is (both_ok c.chosen.result _ _ (λ r m same. choice_finds _ c.args.file.now c.args.locals.now c.args.site c.in-Choice.place c.in-Choice.test c.in-Choice.then c.in-Choice.otherwise c.in_ok-test-in-Choice.test c.in_ok-then-in-Choice.then c.in_ok-otherwise-in-Choice.otherwise r _ _ _ _ _ test second (rw c.deref-in-Choice-3.ensures at c.in_ok-otherwise-in-Choice.ensures.faults) m same) (c.chosen.ensures.typed c.in-Choice.place) c.chosen.ensures.faults)

pub operands-returns-in_ok-right-in-Binary-clause-faults : goal.operands-returns-in_ok-right-in-Binary-clause-faults
operands-returns-in_ok-right-in-Binary-clause-faults t c kind =
    let left = value_found_later c.args.file.now c.args.locals.now c.args.site c.in-Binary.left.value _ _ _ c.in_ok-right-in-Binary.ensures.met (rw c.deref-in-Binary.ensures at c.in_ok-left-in-Binary.ensures.faults) in
    rw c.in-Binary.is (both_ok c.combined.result _ _ (λ r m same. binary_finds _ c.args.file.now c.args.locals.now c.args.site c.in-Binary.place c.in-Binary.op c.in-Binary.left c.in-Binary.right c.in_ok-left-in-Binary.left c.in_ok-right-in-Binary.right r _ _ _ _ left (rw c.deref-in-Binary-2.ensures at c.in_ok-right-in-Binary.ensures.faults) m same) c.combined.ensures.typed c.combined.ensures.faults)

pub source_value-returns-in-Scan-clause-faults : goal.source_value-returns-in-Scan-clause-faults
source_value-returns-in-Scan-clause-faults t c =
    rw c.in-Scan.is (IfOk-weaker c.typed_value.result _ _ (λ r m. finds_part _ c.args.file.now c.args.locals.now c.args.site (E.Scan c.in-Scan.place c.in-Scan.source c.in-Scan.axis c.in-Scan.combiner c.in-Scan.direction c.in-Scan.mode c.in-Scan.bit c.in-Scan.inclusion) c.in-Scan.source.value (is_some r) _ _ (source_part c.in-Scan.place c.in-Scan.source c.in-Scan.axis c.in-Scan.combiner c.in-Scan.direction c.in-Scan.mode c.in-Scan.bit c.in-Scan.inclusion) (rw c.deref.ensures at m)) c.typed_value.ensures.faults)

pub source_value-returns-in_default-clause-faults : goal.source_value-returns-in_default-clause-faults
source_value-returns-in_default-clause-faults t c = none_found _ c.args.file.now c.args.locals.now c.args.site c.args.e.now _ _ _ (sourceless None c.args.e.now c.in_default.not-Scan) refl

pub typed_value-returns-clause-faults : goal.typed_value-returns-clause-faults
typed_value-returns-clause-faults t c =
    both_ok c.settle.result _ _ (λ r is settled. value_finds _ c.args.file.now c.args.locals.now c.args.site c.part.result c.args.e.now c.in_ok-typed.typed c.place.result c.valued.result r _ _ _ c.part.ensures c.in_ok-typed.ensures.faults c.in_ok-typed.ensures.typed c.valued.ensures.refused c.place.ensures is settled) c.settle.ensures.part c.settle.ensures.least

pub axis_value-returns-clause-faults : goal.axis_value-returns-clause-faults
axis_value-returns-clause-faults t c =
    rw c.expect_constant.ensures.instances (value_expected _ c.args.file.now c.args.locals.now c.args.site c.args.axis.now _ c.place.result _ _ _ _ _ c.set_aside-earlier.ensures.faults.0 c.set_aside-earlier.ensures.faults.1 c.in_ok-typed.ensures.faults c.expect_constant.ensures.faults)

pub typed_expr-returns-in_ok-inner-in-Brackets-clause-faults : goal.typed_expr-returns-in_ok-inner-in-Brackets-clause-faults
typed_expr-returns-in_ok-inner-in-Brackets-clause-faults t c =
    let inner = finds_from _ c.args.file.now c.args.locals.now c.args.site c.in-Brackets.inner.value _ _ _ _ c.count.ensures.faults (rw c.deref.ensures at c.in_ok-inner-in-Brackets.ensures.faults) in
    rw c.in-Brackets.is (IfOk-weaker c.bracketed.result _ _ (λ r m. brackets_find _ c.args.file.now c.args.locals.now c.args.site c.in-Brackets.place c.in-Brackets.inner c.in_ok-inner-in-Brackets.inner r _ _ inner m) c.bracketed.ensures)

pub typed_expr-returns-in-Assign-clause-faults : goal.typed_expr-returns-in-Assign-clause-faults
typed_expr-returns-in-Assign-clause-faults t c =
    IfOk-weaker c.operands.result _ _ (λ r m. finds_from _ c.args.file.now c.args.locals.now c.args.site c.args.e.now (is_some r) _ _ _ c.count.ensures.faults m) (c.operands.ensures.faults (of_operands c.in-Assign.is))

pub typed_expr-returns-in_ok-part-in-Prefix-clause-faults : goal.typed_expr-returns-in_ok-part-in-Prefix-clause-faults
typed_expr-returns-in_ok-part-in-Prefix-clause-faults t c =
    let v = rw c.deref-in-Prefix.ensures at c.in_ok-part-in-Prefix.ensures.typed in
    let w = rw c.deref-in-Prefix.ensures at c.in_ok-part-in-Prefix.ensures.faults in
    let own = c.with_operand.ensures.faults in
    elim c.in-Prefix.is [
      | inl k ↦ rw k.2 (IfOk-weaker c.with_operand.result _ _ (λ r m. finds_from _ c.args.file.now c.args.locals.now c.args.site _ (is_some r) _ _ _ c.count.ensures.faults (prefix_finds _ c.args.file.now c.args.locals.now c.args.site k.0 k.1 c.in-Prefix.part c.in_ok-part-in-Prefix.part (is_some r) _ _ _ v w m)) (rw k.2 at own))
      | inr a ↦ elim a [
        | inl k ↦ rw k.1 (IfOk-weaker c.with_operand.result _ _ (λ r m. finds_from _ c.args.file.now c.args.locals.now c.args.site _ (is_some r) _ _ _ c.count.ensures.faults (casts_finds _ c.args.file.now c.args.locals.now c.args.site k.0 c.in-Prefix.part c.in_ok-part-in-Prefix.part (is_some r) _ _ _ v w m)) (rw k.1 at own))
        | inr b ↦ elim b [
          | inl k ↦ rw k.2 (IfOk-weaker c.with_operand.result _ _ (λ r m. finds_from _ c.args.file.now c.args.locals.now c.args.site _ (is_some r) _ _ _ c.count.ensures.faults (cast_finds _ c.args.file.now c.args.locals.now c.args.site k.0 k.1 c.in-Prefix.part c.in_ok-part-in-Prefix.part (is_some r) _ _ _ v w m)) (rw k.2 at own))
          | inr d ↦ elim d [
            | inl k ↦ rw k.2 (IfOk-weaker c.with_operand.result _ _ (λ r m. finds_from _ c.args.file.now c.args.locals.now c.args.site _ (is_some r) _ _ _ c.count.ensures.faults (postfix_finds _ c.args.file.now c.args.locals.now c.args.site k.0 k.1 c.in-Prefix.part c.in_ok-part-in-Prefix.part (is_some r) _ _ _ v w m)) (rw k.2 at own))
            | inr k ↦ rw k.2 (IfOk-weaker c.with_operand.result _ _ (λ r m. finds_from _ c.args.file.now c.args.locals.now c.args.site _ (is_some r) _ _ _ c.count.ensures.faults (index_finds _ c.args.file.now c.args.locals.now c.args.site k.0 k.1 c.in-Prefix.part c.in_ok-part-in-Prefix.part (is_some r) _ _ _ v w m)) (rw k.2 at own))
          ]
        ]
      ]
    ]

pub typed_expr-returns-in_ok-parts-in-Call-clause-faults : goal.typed_expr-returns-in_ok-parts-in-Call-clause-faults
typed_expr-returns-in_ok-parts-in-Call-clause-faults t c =
    let parts = finds_from _ c.args.file.now c.args.locals.now c.args.site c.args.e.now _ _ _ _ c.count.ensures.faults (c.in_ok-parts-in-Call.ensures.faults (of_list c.in-Call.is)) in
    list_finds c.list.new.found.instances c.with_list.new.found.instances c.args.file.now c.args.locals.now c.args.site c.args.e.now c.in_ok-parts-in-Call.parts c.with_list.result _ _ _ c.in_ok-parts-in-Call.ensures.typed parts c.with_list.ensures.met c.with_list.ensures.faults

pub typed_expr-returns-in-Some-clause-faults : goal.typed_expr-returns-in-Some-clause-faults
typed_expr-returns-in-Some-clause-faults t c =
    let v = rw c.deref-in-Pcoord.ensures at c.in_ok-axis-in-Pcoord.ensures.typed in
    let w = rw c.deref-in-Pcoord.ensures at c.in_ok-axis-in-Pcoord.ensures.faults in
    let goes = c.in_ok-along-in-Pcoord.ensures.along in
    let f = c.in_ok-along-in-Pcoord.ensures.faults in
    let s = finds_later c.args.file.now c.args.locals.now c.args.site c.args.e.now _ _ _ c.in_ok-axis-in-Pcoord.ensures.met (finds_from _ c.args.file.now c.args.locals.now c.args.site c.args.e.now _ _ _ _ c.count.ensures.faults c.in_ok-source-in-Pcoord.ensures.faults) in
    let own = c.with_axis.ensures.faults c.args.locals.now in
    elim c.in-Pcoord.is [
      | inl k ↦ rw k.1 (IfOk-weaker c.with_axis.result _ _ (λ r m. pcoord_whole _ c.args.file.now c.args.locals.now c.args.site k.0 c.in-Pcoord.axis c.in_ok-source-in-Pcoord.source c.in_ok-axis-in-Pcoord.axis c.in_ok-along-in-Pcoord.along c.in-Some.along r _ _ _ _ _ (rw k.1 at s) v w (rw k.1 at f) (rw k.1 at goes) c.in-Some.is m) (rw k.1 at own))
      | inr a ↦ elim a [
        | inl k ↦ rw k.2 (IfOk-weaker c.with_axis.result _ _ (λ r m. dim_whole _ c.args.file.now c.args.locals.now c.args.site k.0 k.1 c.in-Pcoord.axis c.in_ok-source-in-Pcoord.source c.in_ok-axis-in-Pcoord.axis c.in_ok-along-in-Pcoord.along c.in-Some.along r _ _ _ _ _ (rw k.2 at s) v w (rw k.2 at f) (rw k.2 at goes) c.in-Some.is m) (rw k.2 at own))
        | inr b ↦ elim b [
          | inl k ↦ rw k.7 (IfOk-weaker c.with_axis.result _ _ (λ r m. scan_whole _ c.args.file.now c.args.locals.now c.args.site k.0 k.1 c.in-Pcoord.axis k.2 k.3 k.4 k.5 k.6 c.in_ok-source-in-Pcoord.source c.in_ok-axis-in-Pcoord.axis c.in_ok-along-in-Pcoord.along c.in-Some.along r _ _ _ _ _ (value_later c.args.file.now c.args.locals.now c.args.site k.1.value c.in_ok-source-in-Pcoord.source c.in_ok-axis-in-Pcoord.ensures.met (rw k.7 at c.in_ok-source-in-Pcoord.ensures.typed)) (rw k.7 at s) v w (rw k.7 at f) (rw k.7 at goes) c.in-Some.is m) (rw k.7 at own))
          | inr k ↦ rw k.5 (IfOk-weaker c.with_axis.result _ _ (λ r m. enumerate_whole _ c.args.file.now c.args.locals.now c.args.site k.0 c.in-Pcoord.axis k.1 k.2 k.3 k.4 c.in_ok-source-in-Pcoord.source c.in_ok-axis-in-Pcoord.axis c.in_ok-along-in-Pcoord.along c.in-Some.along r _ _ _ _ _ (rw k.5 at s) v w (rw k.5 at f) (rw k.5 at goes) c.in-Some.is m) (rw k.5 at own))
        ]
      ]
    ]

pub typed_expr-returns-in-None-clause-faults : goal.typed_expr-returns-in-None-clause-faults
typed_expr-returns-in-None-clause-faults t c =
    let v = rw c.deref-in-Pcoord.ensures at c.in_ok-axis-in-Pcoord.ensures.typed in
    let w = rw c.deref-in-Pcoord.ensures at c.in_ok-axis-in-Pcoord.ensures.faults in
    let s = finds_later c.args.file.now c.args.locals.now c.args.site c.args.e.now _ _ _ c.in_ok-axis-in-Pcoord.ensures.met (finds_from _ c.args.file.now c.args.locals.now c.args.site c.args.e.now _ _ _ _ c.count.ensures.faults c.in_ok-source-in-Pcoord.ensures.faults) in
    let axis : HasAxis c.args.e.now c.in-Pcoord.axis = elim c.in-Pcoord.is [
      | inl k ↦ rw k.1 (pcoord_axis k.0 c.in-Pcoord.axis)
      | inr a ↦ elim a [
        | inl k ↦ rw k.2 (dim_axis k.0 k.1 c.in-Pcoord.axis)
        | inr b ↦ elim b [
          | inl k ↦ rw k.7 (scan_axis k.0 k.1 c.in-Pcoord.axis k.2 k.3 k.4 k.5 k.6)
          | inr k ↦ rw k.5 (enumerate_axis k.0 c.in-Pcoord.axis k.1 k.2 k.3 k.4)
        ]
      ]
    ] in
    nowhere_finds _ c.args.file.now c.args.locals.now c.args.site c.args.e.now c.in-Pcoord.axis c.in_ok-source-in-Pcoord.source c.in_ok-axis-in-Pcoord.axis c.in_ok-along-in-Pcoord.along _ _ _ _ axis s v w c.in_ok-along-in-Pcoord.ensures.faults c.in-None.is

pub typed_expr-returns-in-Name-clause-faults : goal.typed_expr-returns-in-Name-clause-faults
typed_expr-returns-in-Name-clause-faults t c =
    IfOk-weaker c.outcome.result _ _ (λ r m. finds_from _ c.args.file.now c.args.locals.now c.args.site c.args.e.now (is_some r) _ _ _ c.count.ensures.faults (leaf_finds _ c.args.file.now c.args.locals.now c.args.site c.args.e.now c.leaf.result r _ _ (of_leaf c.in-Name.is) c.leaf.ensures.refused m)) c.outcome.ensures
