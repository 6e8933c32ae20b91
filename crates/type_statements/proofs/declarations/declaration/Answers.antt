use Rattle.std.proofs.Common.{◌≡◌, arith, length, refl}
use Rattle.type_statements.proofs.Declared.{type_written}
use Rattle.type_statements.proofs.Listed.{declaration_typed, first_locals, local_more, more_grown, none_grown}
use Rattle.type_statements.proofs.Meetings.{declaration_meets, local_met_more, no_locals_met}
use Rattle.type_expressions.proofs.CallsWithin.{begins_both, begins_same}
use Rattle.type_statements.proofs.declarations.declaration.Goals as goal
use Rattle.type_statements.proofs.declarations.declaration.Goals.{in-Some+in_ok-push-in-Some, in-None}

pub loop-declarator-init : goal.loop-declarator-init
loop-declarator-init c =
    (none_grown _, first_locals c.args.file.now c.args.scopes.now c.args.site c.args.scope c.in_ok-ty.ty c.deref-declarator-items.result.now c.args.locals.now.items c.is_some-complete.result c.is_some-complete.ensures, begins_same refl, λ complete. no_locals_met c.args.found.now.instances c.args.file.now c.args.scopes.now c.args.site c.args.scope c.in_ok-ty.ty c.deref-declarator-items.result.now)

pub loop-declarator-preserved : goal.loop-declarator-preserved
loop-declarator-preserved c =
    let before = c.loop-declarator.invariant in (
      more_grown before.0 c.in_ok-local.ensures.grown,
      elim c.match-branch-3.branch [
        | in-Some+in_ok-push-in-Some w ↦ rw (w.locals-is, w.complete-is) (λ complete. local_more c.args.file.now c.args.scopes.now c.loop-declarator.scopes _ c.args.site c.args.scope c.in_ok-ty.ty c.deref-declarator-items.result.now c.loop-declarator.declarator-index c.args.locals.now.items c.loop-declarator.locals.items _ c.declarator-item.result w.in-Some.local c.loop-declarator-test.true c.declarator-item.is w.in_ok-push-in-Some.ensures.items c.in_ok-local.ensures.met (before.1 complete) (rw w.in-Some.is at c.in_ok-local.ensures.typed))
        | in-None w ↦ rw w.complete-is (λ complete. absurd (cc))
      ],
      begins_both before.2 c.in_ok-local.ensures.met,
      elim c.match-branch-3.branch [
        | in-Some+in_ok-push-in-Some w ↦ rw w.complete-is (λ complete. local_met_more c.args.found.now.instances c.args.file.now c.args.scopes.now c.loop-declarator.scopes c.args.site c.args.scope c.in_ok-ty.ty c.deref-declarator-items.result.now c.loop-declarator.declarator-index c.args.locals.now.items c.loop-declarator.locals.items c.declarator-item.result c.loop-declarator-test.true c.declarator-item.is c.in_ok-local.ensures.met (before.1 complete) (before.3 complete) (rw w.in-Some.is at c.in_ok-local.ensures.calls))
        | in-None w ↦ rw w.complete-is (λ complete. absurd (cc))
      ],
    )

pub returns-clause-typed : goal.returns-clause-typed
returns-clause-typed c = λ complete.
    let end : c.loop-declarator.declarator-index ≡ length c.deref-declarator-items.result.now = omega (arith, c.loop-declarator-test.false, c.loop-declarator.auto.declarator-index-end) in
    declaration_typed c.args.file.now c.args.scopes.now c.loop-declarator.scopes c.args.site c.args.scope c.in_ok-ty.ty c.args.written.now c.loop-declarator.declarator-index c.args.locals.now.items c.loop-declarator.locals.items (rw c.deref-declarator-items.ensures.value at end) (rw c.deref-declarator-items.ensures.value at (c.loop-declarator.invariant.1 complete))
    (λ here place of is. type_written c.args.file.now c.args.scopes.now.locals c.args.site here c.args.written.now.type_name c.value_type-ty.result c.in_ok-ty.ty of place.around c.value_type-ty.ensures c.in_ok-ty.ensures.part is)

pub returns-clause-calls : goal.returns-clause-calls
returns-clause-calls c = λ complete.
    let end : c.loop-declarator.declarator-index ≡ length c.deref-declarator-items.result.now = omega (arith, c.loop-declarator-test.false, c.loop-declarator.auto.declarator-index-end) in
    declaration_meets c.args.found.now.instances c.args.file.now c.args.scopes.now c.loop-declarator.scopes c.args.site c.args.scope c.in_ok-ty.ty c.args.written.now c.loop-declarator.declarator-index c.args.locals.now.items c.loop-declarator.locals.items (rw c.deref-declarator-items.ensures.value at end) (rw c.deref-declarator-items.ensures.value at (c.loop-declarator.invariant.1 complete)) (rw c.deref-declarator-items.ensures.value at (c.loop-declarator.invariant.3 complete))
    (λ here place of is. type_written c.args.file.now c.args.scopes.now.locals c.args.site here c.args.written.now.type_name c.value_type-ty.result c.in_ok-ty.ty of place.around c.value_type-ty.ensures c.in_ok-ty.ensures.part is)
