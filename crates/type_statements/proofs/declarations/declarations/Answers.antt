use Rattle.std.proofs.Common.{◌≡◌, arith, length, refl}
use Rattle.type_statements.proofs.Listed.{all_declared, declaration_more, more_grown, none_declared, none_grown}
use Rattle.type_statements.proofs.Meetings.{all_declared_met, declaration_met_more, none_declared_met}
use Rattle.type_expressions.proofs.CallsWithin.{begins_both, begins_same}
use Rattle.type_statements.proofs.declarations.declarations.Goals as goal
use Rattle.type_statements.proofs.declarations.declarations.Goals.{then-complete, else-complete, then-complete-2, else-complete-2}

pub loop-written-init : goal.loop-written-init
loop-written-init c = (none_grown _, λ complete. rw c.new-locals.ensures.items (none_declared c.args.file.now c.args.scopes.now c.args.site c.args.scope c.args.declarations.now), begins_same refl, λ complete. none_declared_met c.args.found.now.instances c.args.file.now c.args.scopes.now c.args.site c.args.scope c.args.declarations.now)

pub loop-written-preserved : goal.loop-written-preserved
loop-written-preserved c =
    let before = c.loop-written.invariant in (
      more_grown before.0 c.in_ok-typed.ensures.grown,
      elim c.if-complete.branch [
        | then-complete w ↦ rw w.complete-is (λ typed. declaration_more c.args.file.now c.args.scopes.now c.loop-written.scopes _ c.args.site c.args.scope c.args.declarations.now c.loop-written.written-index c.loop-written.locals.items _ c.written-item.result c.loop-written-test.true c.written-item.is c.in_ok-typed.ensures.met (before.1 w.if-complete.true) (c.in_ok-typed.ensures.typed typed))
        | else-complete w ↦ rw w.complete-is (λ typed. absurd (cc))
      ],
      begins_both before.2 c.in_ok-typed.ensures.met,
      elim c.if-complete.branch [
        | then-complete w ↦ rw w.complete-is (λ typed. declaration_met_more c.args.found.now.instances c.args.file.now c.args.scopes.now c.loop-written.scopes c.args.site c.args.scope c.args.declarations.now c.loop-written.written-index c.loop-written.locals.items c.written-item.result c.loop-written-test.true c.written-item.is c.in_ok-typed.ensures.met (before.1 w.if-complete.true) (before.3 w.if-complete.true) (c.in_ok-typed.ensures.calls typed))
        | else-complete w ↦ rw w.complete-is (λ typed. absurd (cc))
      ],
    )

pub returns-clause-typed : goal.returns-clause-typed
returns-clause-typed c =
    let end : c.loop-written.written-index ≡ length c.args.declarations.now = omega (arith, c.loop-written-test.false, c.loop-written.auto.written-index-end) in
    elim c.if-complete-2.branch [
      | then-complete-2 w ↦ rw w.result-is (all_declared c.args.file.now c.args.scopes.now c.loop-written.scopes c.args.site c.args.scope c.args.declarations.now c.loop-written.written-index c.loop-written.locals.items end (c.loop-written.invariant.1 w.if-complete-2.true))
      | else-complete-2 w ↦ rw w.result-is tt
    ]

pub returns-clause-calls : goal.returns-clause-calls
returns-clause-calls c =
    let end : c.loop-written.written-index ≡ length c.args.declarations.now = omega (arith, c.loop-written-test.false, c.loop-written.auto.written-index-end) in
    elim c.if-complete-2.branch [
      | then-complete-2 w ↦ rw w.result-is (all_declared_met c.args.found.now.instances c.loop-written.found.instances c.args.file.now c.args.scopes.now c.args.site c.args.scope c.args.declarations.now c.loop-written.written-index end (c.loop-written.invariant.3 w.if-complete-2.true))
      | else-complete-2 w ↦ rw w.result-is tt
    ]
