use Rattle.std.proofs.Common.{◌≡◌, arith, inl, inr, length, refl, ◌∙◌}
use Rattle.std.proofs.lemmas.Result.{IfOk-weaker}
use Rattle.type_expressions.specs.Instances.{Grows}
use Rattle.type_statements.proofs.Declared.{settled_local}
use Rattle.type_statements.proofs.Listed.{no_statements, statement_more}
use Rattle.type_statements.proofs.Meetings.{no_statements_met, some_calls, statement_met_more}
use Rattle.type_statements.proofs.MetForms.{IsElseMet, block_meets, do_meets, else_met, everywhere_meets, for_meets, if_meets, met_of, none_else, where_meets, while_meets, whole_block_meets, with_meets}
use Rattle.type_expressions.proofs.CallsWithin.{begins_both, begins_same}
use Rattle.type_statements.proofs.Walking.{AreTypedBranches, IsElseTyped, an_else, block_typed, chosen_typed, do_typed, everywhere_typed, for_typed, if_parts, no_else, where_parts, while_typed, whole_typed, with_typed}
use Rattle.type_statements.proofs.statements.+statement.Goals as goal
use Rattle.type_statements.proofs.statements.+statement.Goals.{block_in-in-Some+in_ok-push-in-Some, block_in-in-None, chosen-in-If, chosen-in-If-2, chosen-in-Some+in_ok-statement-in-Some, chosen-in-None}

pub block-returns-clause-typed : goal.block-returns-clause-typed
block-returns-clause-typed t c = block_typed _ c.args.file.now c.args.scopes.now _ _ c.args.site c.open-scope.result c.args.block.now c.in_ok-typed.typed c.open-scope.ensures refl c.in_ok-typed.ensures.typed

pub block_in-loop-s-init : goal.block_in-loop-s-init
block_in-loop-s-init t c = (refl, λ complete. rw c.new-statements.ensures.items (no_statements c.args.file.now c.declarations.new.scopes c.args.site c.deref-s-items.result.now), refl, begins_same refl, λ complete. no_statements_met c.declarations.new.found.instances c.args.file.now c.declarations.new.scopes c.args.site c.deref-s-items.result.now)

pub block_in-loop-s-preserved : goal.block_in-loop-s-preserved
block_in-loop-s-preserved t c =
    let before = c.loop-s.invariant in (
      c.in_ok-typed.ensures.kept ∙ before.0,
      elim c.match-branch-3.branch [
        | block_in-in-Some+in_ok-push-in-Some w ↦ rw (w.statements-is, w.complete-is) (λ complete. statement_more c.args.file.now c.declarations.new.scopes c.loop-s.scopes _ c.args.site c.deref-s-items.result.now c.loop-s.s-index c.loop-s.statements.items _ c.s-item.result w.in-Some.typed.value c.loop-s-test.true c.s-item.is (rw w.into_inner.ensures at w.in_ok-push-in-Some.ensures.items) before.0 c.in_ok-typed.ensures.met (before.1 complete) (rw w.in-Some.is at c.in_ok-typed.ensures.typed))
        | block_in-in-None w ↦ rw w.complete-is (λ complete. absurd (cc))
      ],
      before.2,
      begins_both before.3 c.in_ok-typed.ensures.met,
      elim c.match-branch-3.branch [
        | block_in-in-Some+in_ok-push-in-Some w ↦ rw w.complete-is (λ complete. statement_met_more c.declarations.new.found.instances c.args.file.now c.declarations.new.scopes c.loop-s.scopes c.args.site c.deref-s-items.result.now c.loop-s.s-index c.loop-s.statements.items c.s-item.result c.loop-s-test.true c.s-item.is before.0 c.in_ok-typed.ensures.met (before.1 complete) (before.4 complete) (rw w.in-Some.is at c.in_ok-typed.ensures.calls))
        | block_in-in-None w ↦ rw w.complete-is (λ complete. absurd (cc))
      ],
    )

pub block_in-returns-then-complete-clause-typed : goal.block_in-returns-then-complete-clause-typed
block_in-returns-then-complete-clause-typed t c =
    let end : c.loop-s.s-index ≡ length c.deref-s-items.result.now = omega (arith, c.loop-s-test.false, c.loop-s.auto.s-index-end) in
    let typed = rw c.deref-s-items.ensures.value at (c.loop-s.invariant.1 c.if-complete.true) in
    IfOk-weaker c.whole_block.result _ _ (λ r m. whole_typed c.args.file.now c.args.scopes.now c.declarations.new.scopes _ c.args.site c.args.scope c.args.block.now c.loop-s.s-index c.in_ok-locals.locals c.loop-s.statements r (rw c.deref-s-items.ensures.value at end) c.loop-s.invariant.3 (rw c.deref.ensures.value at c.in_ok-locals.ensures.typed) typed (rw c.loop-s.invariant.2 at m)) c.whole_block.ensures

pub block_in-returns-then-complete-clause-met : goal.block_in-returns-then-complete-clause-met
block_in-returns-then-complete-clause-met t c = settled_local c.whole_block.result (begins_both (begins_same c.count.ensures.instances) (begins_both c.in_ok-locals.ensures.met c.loop-s.invariant.3))

pub chosen-returns-in-Some-branches-clause-typed : goal.chosen-returns-in-Some-branches-clause-typed
chosen-returns-in-Some-branches-clause-typed t c =
    let later : Grows c.args.file.now c.statement.new.found.instances c.match-otherwise.found.instances = elim c.match-otherwise.branch [
      | chosen-in-Some+in_ok-statement-in-Some w ↦ rw w.found-is w.in_ok-statement-in-Some.ensures.met
      | chosen-in-None w ↦ rw w.found-is (begins_same refl)
    ] in
    let other : IsElseTyped c.match-otherwise.found.instances c.args.file.now c.statement.new.scopes c.match-otherwise.scopes c.args.site c.match-s.otherwise.now c.match-otherwise.otherwise = elim c.match-otherwise.branch [
      | chosen-in-Some+in_ok-statement-in-Some w ↦ rw (w.found-is, w.scopes-is, w.otherwise-is, w.in-Some.is) (an_else w.in-Some.otherwise (rw w.deref-in-Some.ensures at w.in_ok-statement-in-Some.ensures.typed))
      | chosen-in-None w ↦ rw (w.scopes-is, w.otherwise-is, w.in-None.is) (no_else refl)
    ] in
    let parts : AreTypedBranches c.match-otherwise.found.instances c.args.file.now c.args.scopes.now c.match-otherwise.scopes c.args.site c.args.s.now c.in-Some-branches.parts = elim c.match-s.branch [
      | chosen-in-If w ↦ elim w.in-If.is [
        | inl k ↦ rw k.1 (if_parts _ _ _ c.args.file.now c.args.scopes.now c.statement.new.scopes c.match-otherwise.scopes c.args.site k.0 w.in-If.test w.in-If.then w.in-If.otherwise c.in_ok-test.test c.in_ok-then.then c.match-otherwise.otherwise c.in-Some-branches.parts c.in_ok-then.ensures.met later (rw w.test-is at c.in_ok-test.ensures.typed) (rw (c.deref.ensures, w.then-is) at c.in_ok-then.ensures.typed) c.in_ok-then.ensures.kept (rw w.otherwise-is at other) c.in-Some-branches.ensures)
        | inr k ↦ rw k.1 (where_parts _ _ _ c.args.file.now c.args.scopes.now c.statement.new.scopes c.match-otherwise.scopes c.args.site k.0 w.in-If.test w.in-If.then w.in-If.otherwise c.in_ok-test.test c.in_ok-then.then c.match-otherwise.otherwise c.in-Some-branches.parts c.in_ok-then.ensures.met later (rw w.test-is at c.in_ok-test.ensures.typed) (rw (c.deref.ensures, w.then-is) at c.in_ok-then.ensures.typed) c.in_ok-then.ensures.kept (rw w.otherwise-is at other) c.in-Some-branches.ensures)
      ]
      | chosen-in-If-2 w ↦ elim w.in-If.is [
        | inl k ↦ rw k.1 (if_parts _ _ _ c.args.file.now c.args.scopes.now c.statement.new.scopes c.match-otherwise.scopes c.args.site k.0 w.in-If.test w.in-If.then w.in-If.otherwise c.in_ok-test.test c.in_ok-then.then c.match-otherwise.otherwise c.in-Some-branches.parts c.in_ok-then.ensures.met later (rw w.test-is at c.in_ok-test.ensures.typed) (rw (c.deref.ensures, w.then-is) at c.in_ok-then.ensures.typed) c.in_ok-then.ensures.kept (rw w.otherwise-is at other) c.in-Some-branches.ensures)
        | inr k ↦ rw k.1 (where_parts _ _ _ c.args.file.now c.args.scopes.now c.statement.new.scopes c.match-otherwise.scopes c.args.site k.0 w.in-If.test w.in-If.then w.in-If.otherwise c.in_ok-test.test c.in_ok-then.then c.match-otherwise.otherwise c.in-Some-branches.parts c.in_ok-then.ensures.met later (rw w.test-is at c.in_ok-test.ensures.typed) (rw (c.deref.ensures, w.then-is) at c.in_ok-then.ensures.typed) c.in_ok-then.ensures.kept (rw w.otherwise-is at other) c.in-Some-branches.ensures)
      ]
    ] in
    IfOk-weaker c.outcome.result _ _ (λ r m. chosen_typed _ c.args.file.now c.args.scopes.now c.match-otherwise.scopes c.args.site c.args.s.now c.in-Some-branches.parts c.choosing.result _ _ r parts c.choosing.ensures m) c.outcome.ensures

pub repeated-returns-in-Some-Some-clause-typed : goal.repeated-returns-in-Some-Some-clause-typed
repeated-returns-in-Some-Some-clause-typed t c =
    rw c.in-While.is (IfOk-weaker c.outcome.result _ _ (λ r m. while_typed _ _ c.args.file.now c.args.scopes.now c.statement.new.scopes c.args.site c.in-While.place c.in-While.test c.in-While.body c.in_ok-test-in-While.test c.in_ok-body-in-While.body c.in-Some-Some.test c.in-Some-Some.body c.while_statement-typed.result _ _ r c.in_ok-body-in-While.ensures.met c.in_ok-test-in-While.ensures.typed c.in-Some-Some.is-0 (rw (c.body.ensures, c.deref.ensures) at c.in_ok-body-in-While.ensures.typed) c.in-Some-Some.is-1 c.while_statement-typed.ensures m) c.outcome.ensures)

pub repeated-returns-in-Some-Some-2-clause-typed : goal.repeated-returns-in-Some-Some-2-clause-typed
repeated-returns-in-Some-Some-2-clause-typed t c =
    rw c.in-Do.is (IfOk-weaker c.outcome-in-Do.result _ _ (λ r m. do_typed _ _ c.args.file.now c.args.scopes.now c.statement-in-Do.new.scopes c.args.site c.in-Do.place c.in-Do.body c.in-Do.test c.in_ok-body-in-Do.body c.in_ok-test-in-Do.test c.in-Some-Some-2.body c.in-Some-Some-2.test c.do_statement.result _ _ r c.in_ok-test-in-Do.ensures.met (rw (c.body-in-Do.ensures, c.deref-in-Do.ensures) at c.in_ok-body-in-Do.ensures.typed) c.in-Some-Some-2.is-0 c.in_ok-body-in-Do.ensures.kept c.in_ok-test-in-Do.ensures.typed c.in-Some-Some-2.is-1 c.do_statement.ensures m) c.outcome-in-Do.ensures)

pub repeated-returns-in-Some-Some-3-clause-typed : goal.repeated-returns-in-Some-Some-3-clause-typed
repeated-returns-in-Some-Some-3-clause-typed t c =
    rw c.in-For.is (IfOk-weaker c.outcome-in-For.result _ _ (λ r m. for_typed _ _ c.args.file.now c.args.scopes.now c.statement-in-For.new.scopes c.args.site c.in-For.place c.in-For.first c.in-For.test c.in-For.step c.in-For.body c.in_ok-heading-in-For.heading c.in_ok-body-in-For.body c.in-Some-Some-3.heading c.in-Some-Some-3.body c.for_statement-typed.result _ _ r c.in_ok-body-in-For.ensures.met (rw c.in-For.is at c.in_ok-heading-in-For.ensures.typed) c.in-Some-Some-3.is-0 (rw (c.body-in-For.ensures, c.deref-in-For.ensures) at c.in_ok-body-in-For.ensures.typed) c.in-Some-Some-3.is-1 c.for_statement-typed.ensures m) c.outcome-in-For.ensures)

pub under-returns-in_ok-body-in-With-clause-typed : goal.under-returns-in_ok-body-in-With-clause-typed
under-returns-in_ok-body-in-With-clause-typed t c =
    rw c.in-With.is (IfOk-weaker c.under_shape.result _ _ (λ r m. with_typed _ c.args.file.now c.args.scopes.now c.statement.new.scopes c.args.site c.in-With.place c.in-With.shape c.in-With.body c.shape-shape.result c.in_ok-shape-in-With.field-0 c.in-Some.shape c.in_ok-body-in-With.body r c.shape-shape.ensures c.in_ok-shape-in-With.ensures.part c.in-Some.is (rw c.deref.ensures at c.in_ok-body-in-With.ensures.typed) m) c.under_shape.ensures)

pub under-returns-in_ok-body-in-Everywhere-clause-typed : goal.under-returns-in_ok-body-in-Everywhere-clause-typed
under-returns-in_ok-body-in-Everywhere-clause-typed t c =
    rw c.in-Everywhere.is (IfOk-weaker c.everywhere.result _ _ (λ r m. everywhere_typed _ c.args.file.now c.args.scopes.now _ c.args.site c.in-Everywhere.place c.in-Everywhere.body c.in_ok-body-in-Everywhere.body r _ _ (rw c.deref-in-Everywhere.ensures at c.in_ok-body-in-Everywhere.ensures.typed) m) c.everywhere.ensures)

pub block_in-returns-else-complete-clause-met : goal.block_in-returns-else-complete-clause-met
block_in-returns-else-complete-clause-met t c = begins_both (begins_same c.count.ensures.instances) (begins_both c.in_ok-locals.ensures.met c.loop-s.invariant.3)

pub chosen-returns-in_default : goal.chosen-returns-in_default
chosen-returns-in_default t c = record { kept = refl; typed = tt; met = begins_same c.count.ensures.instances; calls = tt }

pub chosen-returns-in-Some-branches-clause-met : goal.chosen-returns-in-Some-branches-clause-met
chosen-returns-in-Some-branches-clause-met t c =
    let later : Grows c.args.file.now c.statement.new.found.instances c.match-otherwise.found.instances = elim c.match-otherwise.branch [
      | chosen-in-Some+in_ok-statement-in-Some w ↦ rw w.found-is w.in_ok-statement-in-Some.ensures.met
      | chosen-in-None w ↦ rw w.found-is (begins_same refl)
    ] in
    settled_local c.outcome.result (begins_both (begins_same c.count.ensures.instances) (begins_both c.in_ok-test.ensures.met (begins_both c.in_ok-then.ensures.met later)))

pub chosen-returns-in-None-branches-clause-met : goal.chosen-returns-in-None-branches-clause-met
chosen-returns-in-None-branches-clause-met t c =
    let later : Grows c.args.file.now c.statement.new.found.instances c.match-otherwise.found.instances = elim c.match-otherwise.branch [
      | chosen-in-Some+in_ok-statement-in-Some w ↦ rw w.found-is w.in_ok-statement-in-Some.ensures.met
      | chosen-in-None w ↦ rw w.found-is (begins_same refl)
    ] in
    begins_both (begins_same c.count.ensures.instances) (begins_both c.in_ok-test.ensures.met (begins_both c.in_ok-then.ensures.met later))

pub repeated-returns-in_default : goal.repeated-returns-in_default
repeated-returns-in_default t c = record { kept = refl; typed = tt; met = begins_same c.count.ensures.instances; calls = tt }

pub repeated-returns-in_default-2-clause-met : goal.repeated-returns-in_default-2-clause-met
repeated-returns-in_default-2-clause-met t c = begins_both (begins_same c.count.ensures.instances) (begins_both c.in_ok-test-in-While.ensures.met c.in_ok-body-in-While.ensures.met)

pub repeated-returns-in_default-3-clause-met : goal.repeated-returns-in_default-3-clause-met
repeated-returns-in_default-3-clause-met t c = begins_both (begins_same c.count.ensures.instances) (begins_both c.in_ok-body-in-Do.ensures.met c.in_ok-test-in-Do.ensures.met)

pub repeated-returns-in_default-4-clause-met : goal.repeated-returns-in_default-4-clause-met
repeated-returns-in_default-4-clause-met t c = begins_both (begins_same c.count.ensures.instances) (begins_both c.in_ok-heading-in-For.ensures.met c.in_ok-body-in-For.ensures.met)

pub repeated-returns-in-Some-Some-clause-met : goal.repeated-returns-in-Some-Some-clause-met
repeated-returns-in-Some-Some-clause-met t c = settled_local c.outcome.result (begins_both (begins_same c.count.ensures.instances) (begins_both c.in_ok-test-in-While.ensures.met c.in_ok-body-in-While.ensures.met))

pub repeated-returns-in-Some-Some-2-clause-met : goal.repeated-returns-in-Some-Some-2-clause-met
repeated-returns-in-Some-Some-2-clause-met t c = settled_local c.outcome-in-Do.result (begins_both (begins_same c.count.ensures.instances) (begins_both c.in_ok-body-in-Do.ensures.met c.in_ok-test-in-Do.ensures.met))

pub repeated-returns-in-Some-Some-3-clause-met : goal.repeated-returns-in-Some-Some-3-clause-met
repeated-returns-in-Some-Some-3-clause-met t c = settled_local c.outcome-in-For.result (begins_both (begins_same c.count.ensures.instances) (begins_both c.in_ok-heading-in-For.ensures.met c.in_ok-body-in-For.ensures.met))

pub under-returns-in_default : goal.under-returns-in_default
under-returns-in_default t c = record { kept = refl; typed = tt; met = begins_same c.count.ensures.instances; calls = tt }

pub under-returns-in_default-2-clause-met : goal.under-returns-in_default-2-clause-met
under-returns-in_default-2-clause-met t c = begins_same c.count.ensures.instances

pub block-returns-clause-calls : goal.block-returns-clause-calls
block-returns-clause-calls t c = block_meets c.args.found.now.instances c.block_in.new.found.instances c.args.file.now c.args.scopes.now c.args.site c.open-scope.result c.args.block.now c.in_ok-typed.typed c.open-scope.ensures c.in_ok-typed.ensures.calls

pub block_in-returns-then-complete-clause-calls : goal.block_in-returns-then-complete-clause-calls
block_in-returns-then-complete-clause-calls t c =
    let end : c.loop-s.s-index ≡ length c.deref-s-items.result.now = omega (arith, c.loop-s-test.false, c.loop-s.auto.s-index-end) in
    let met = rw c.deref-s-items.ensures.value at (c.loop-s.invariant.4 c.if-complete.true) in
    IfOk-weaker c.whole_block.result _ _ (λ r m. whole_block_meets c.args.found.now.instances c.args.file.now c.args.scopes.now c.declarations.new.scopes c.args.site c.args.scope c.args.block.now c.loop-s.s-index c.in_ok-locals.locals c.loop-s.statements r (rw c.deref-s-items.ensures.value at end) c.loop-s.invariant.3 (rw c.deref.ensures.value at c.in_ok-locals.ensures.typed) (rw (c.count.ensures.instances, c.deref.ensures.value) at c.in_ok-locals.ensures.calls) met (rw c.loop-s.invariant.2 at m)) c.whole_block.ensures

pub chosen-returns-in-Some-branches-clause-calls : goal.chosen-returns-in-Some-branches-clause-calls
chosen-returns-in-Some-branches-clause-calls t c =
    let later : Grows c.args.file.now c.statement.new.found.instances c.match-otherwise.found.instances = elim c.match-otherwise.branch [
      | chosen-in-Some+in_ok-statement-in-Some w ↦ rw w.found-is w.in_ok-statement-in-Some.ensures.met
      | chosen-in-None w ↦ rw w.found-is (begins_same refl)
    ] in
    let other : IsElseMet c.statement.new.found.instances c.match-otherwise.found.instances c.args.file.now c.statement.new.scopes c.args.site c.match-s.otherwise.now c.match-otherwise.otherwise = elim c.match-otherwise.branch [
      | chosen-in-Some+in_ok-statement-in-Some w ↦ rw (w.found-is, w.otherwise-is, w.in-Some.is) (else_met w.in-Some.otherwise (rw w.deref-in-Some.ensures at w.in_ok-statement-in-Some.ensures.calls))
      | chosen-in-None w ↦ rw (w.found-is, w.otherwise-is, w.in-None.is) (none_else refl)
    ] in
    let test = rw c.count.ensures.instances at c.in_ok-test.ensures.calls in
    some_calls c.outcome.result (elim c.match-s.branch [
      | chosen-in-If w ↦ elim w.in-If.is [
        | inl k ↦ rw k.1 (if_meets c.args.file.now c.args.scopes.now c.statement.new.scopes c.args.site k.0 w.in-If.test w.in-If.then w.in-If.otherwise c.in_ok-test.test c.in_ok-then.then c.match-otherwise.otherwise c.in-Some-branches.parts later (rw w.test-is at test) (rw (c.deref.ensures, w.then-is) at c.in_ok-then.ensures.typed) (rw (c.deref.ensures, w.then-is) at c.in_ok-then.ensures.calls) c.in_ok-then.ensures.kept (rw w.otherwise-is at other) c.in-Some-branches.ensures)
        | inr k ↦ rw k.1 (where_meets c.args.file.now c.args.scopes.now c.statement.new.scopes c.args.site k.0 w.in-If.test w.in-If.then w.in-If.otherwise c.in_ok-test.test c.in_ok-then.then c.match-otherwise.otherwise c.in-Some-branches.parts later (rw w.test-is at test) (rw (c.deref.ensures, w.then-is) at c.in_ok-then.ensures.typed) (rw (c.deref.ensures, w.then-is) at c.in_ok-then.ensures.calls) c.in_ok-then.ensures.kept (rw w.otherwise-is at other) c.in-Some-branches.ensures)
      ]
      | chosen-in-If-2 w ↦ elim w.in-If.is [
        | inl k ↦ rw k.1 (if_meets c.args.file.now c.args.scopes.now c.statement.new.scopes c.args.site k.0 w.in-If.test w.in-If.then w.in-If.otherwise c.in_ok-test.test c.in_ok-then.then c.match-otherwise.otherwise c.in-Some-branches.parts later (rw w.test-is at test) (rw (c.deref.ensures, w.then-is) at c.in_ok-then.ensures.typed) (rw (c.deref.ensures, w.then-is) at c.in_ok-then.ensures.calls) c.in_ok-then.ensures.kept (rw w.otherwise-is at other) c.in-Some-branches.ensures)
        | inr k ↦ rw k.1 (where_meets c.args.file.now c.args.scopes.now c.statement.new.scopes c.args.site k.0 w.in-If.test w.in-If.then w.in-If.otherwise c.in_ok-test.test c.in_ok-then.then c.match-otherwise.otherwise c.in-Some-branches.parts later (rw w.test-is at test) (rw (c.deref.ensures, w.then-is) at c.in_ok-then.ensures.typed) (rw (c.deref.ensures, w.then-is) at c.in_ok-then.ensures.calls) c.in_ok-then.ensures.kept (rw w.otherwise-is at other) c.in-Some-branches.ensures)
      ]
    ])

pub repeated-returns-in-Some-Some-clause-calls : goal.repeated-returns-in-Some-Some-clause-calls
repeated-returns-in-Some-Some-clause-calls t c =
    rw c.in-While.is (some_calls c.outcome.result (while_meets c.statement.new.found.instances c.args.file.now c.args.scopes.now c.args.site c.in-While.place c.in-While.test c.in-While.body c.in_ok-body-in-While.body (rw c.count.ensures.instances at c.in_ok-test-in-While.ensures.calls) (rw (c.body.ensures, c.deref.ensures) at c.in_ok-body-in-While.ensures.calls) c.in-Some-Some.is-1))

pub repeated-returns-in-Some-Some-2-clause-calls : goal.repeated-returns-in-Some-Some-2-clause-calls
repeated-returns-in-Some-Some-2-clause-calls t c =
    rw c.in-Do.is (some_calls c.outcome-in-Do.result (do_meets c.args.found.now.instances c.args.file.now c.args.scopes.now c.statement-in-Do.new.scopes c.args.site c.in-Do.place c.in-Do.body c.in-Do.test c.in_ok-body-in-Do.body c.in_ok-test-in-Do.ensures.met (rw (c.count.ensures.instances, c.body-in-Do.ensures, c.deref-in-Do.ensures) at c.in_ok-body-in-Do.ensures.calls) c.in-Some-Some-2.is-0 c.in_ok-body-in-Do.ensures.kept c.in_ok-test-in-Do.ensures.calls))

pub repeated-returns-in-Some-Some-3-clause-calls : goal.repeated-returns-in-Some-Some-3-clause-calls
repeated-returns-in-Some-Some-3-clause-calls t c =
    rw c.in-For.is (some_calls c.outcome-in-For.result (for_meets c.statement-in-For.new.found.instances c.args.file.now c.args.scopes.now c.args.site c.in-For.place c.in-For.first c.in-For.test c.in-For.step c.in-For.body c.in_ok-body-in-For.body (met_of c.in_ok-heading-in-For.heading (rw (c.count.ensures.instances, c.in-For.is) at c.in_ok-heading-in-For.ensures.calls) c.in-Some-Some-3.is-0) (rw (c.body-in-For.ensures, c.deref-in-For.ensures) at c.in_ok-body-in-For.ensures.calls) c.in-Some-Some-3.is-1))

pub under-returns-in_ok-body-in-With-clause-calls : goal.under-returns-in_ok-body-in-With-clause-calls
under-returns-in_ok-body-in-With-clause-calls t c =
    rw c.in-With.is (IfOk-weaker c.under_shape.result _ _ (λ r m. with_meets c.args.found.now.instances c.statement.new.found.instances c.args.file.now c.args.scopes.now c.args.site c.in-With.place c.in-With.shape c.in-With.body c.shape-shape.result c.in_ok-shape-in-With.field-0 c.in-Some.shape c.in_ok-body-in-With.body r c.shape-shape.ensures c.in_ok-shape-in-With.ensures.part c.in-Some.is (rw (c.count.ensures.instances, c.deref.ensures) at c.in_ok-body-in-With.ensures.calls) m) c.under_shape.ensures)

pub under-returns-in_ok-body-in-Everywhere-clause-calls : goal.under-returns-in_ok-body-in-Everywhere-clause-calls
under-returns-in_ok-body-in-Everywhere-clause-calls t c =
    rw c.in-Everywhere.is (IfOk-weaker c.everywhere.result _ _ (λ r m. everywhere_meets c.args.found.now.instances c.statement-in-Everywhere.new.found.instances c.args.file.now c.args.scopes.now c.args.site c.in-Everywhere.place c.in-Everywhere.body c.in_ok-body-in-Everywhere.body r _ _ (rw (c.count.ensures.instances, c.deref-in-Everywhere.ensures) at c.in_ok-body-in-Everywhere.ensures.calls) m) c.everywhere.ensures)
