use Rattle.std.proofs.Common.{◌∙◌, [], List, arith, refl, sym, subst}
use Rattle.std.specs.List.{All}
use Rattle.std.proofs.lemmas.Bool.{ltb-true}
use Rattle.std.proofs.lemmas.List.{take_all}
use Rattle.std.proofs.lemmas.List.Elements.{All-get_or}
use Rattle.cstar_tree.specs.declared.syntax.Expr.{Expr}
use Rattle.type_expressions.specs.Walks.{IsPlain}
use Rattle.shape_types.specs.FileWalk.{Knows, place_in}
use Rattle.shape_types.proofs.FileLoops.{both_parts, next_extent, not_both}
use Rattle.shape_types.proofs.FileSteps.{AreExtents, no_extents, shape_is_defined}
use Rattle.shape_types.proofs.declarations.shape_definition.Goals as goal
use Rattle.shape_types.proofs.declarations.shape_definition.Goals.{then-fits, else-fits, then-size-gt0, else-size-gt0}

pub loop-extent-init : goal.loop-extent-init
loop-extent-init c = (λ start k knows plain whole fits. subst (AreExtents (place_in start k) []) (sym c.new-extents.ensures.items) (no_extents (place_in start k)), λ w. w, refl, refl)

pub loop-extent-preserved : goal.loop-extent-preserved
loop-extent-preserved c =
    let before = c.loop-extent.invariant in
    let step = c.in_ok-size.ensures in (
      λ start k knows plain whole fits.
          elim c.if-size-gt0.branch [
            | then-size-gt0 w ↦
                let own = subst IsPlain (sym c.extent-item.is) (All-get_or IsPlain c.as_slice-extent-items.result.now c.loop-extent.extent-index c.extent-item.result c.loop-extent-test.true plain) in
                next_extent (place_in start k) c.as_slice-extent-items.result.now c.loop-extent.extent-index c.extent-item.result c.loop-extent.extents.items c.push.new.self.items c.in_ok-size.size c.loop-extent-test.true c.extent-item.is
                (before.0 start k knows plain (step.whole whole) (sym w.fits-is ∙ fits)) (step.typed start k (subst (Knows start k c.args.file.now) (sym before.2) knows) own whole) w.if-size-gt0.true step.small c.in_ok-push.ensures.items
            | else-size-gt0 w ↦ absurd (let some = ltb-true 0 c.in_ok-size.size (sym w.fits-is ∙ fits) in let none = w.if-size-gt0.false in omega (arith, some, none))
          ],
      λ whole. before.1 (step.whole whole),
      step.known ∙ before.2,
      step.vars ∙ before.3,
    )

pub returns-clause-typed : goal.returns-clause-typed
returns-clause-typed c start k knows plain whole =
    let parts = both_parts c.loop-extent.declared.is_whole c.if-fits.fits (sym c.require.ensures.whole ∙ whole) in
    let items = c.as_slice-extent-items.ensures.value in
    let all = take_all c.loop-extent.extent-index c.as_slice-extent-items.result.now c.loop-extent-test.false ∙ items in
    elim c.if-fits.branch [
      | then-fits w ↦
          let small = w.is_small-fits.ensures (sym w.fits-is ∙ parts.1) in
          let are = c.loop-extent.invariant.0 start k knows (subst (All IsPlain) (sym items) plain) parts.0 w.if-fits.true in
          shape_is_defined (place_in start k) c.args.definition.now _ c.in_ok-copied.ensures (subst (λ (es : List Expr). AreExtents (place_in start k) es c.loop-extent.extents.items) all are) small.0 small.1
      | else-fits w ↦ absurd (not_both c.loop-extent.fits (sym w.fits-is ∙ parts.1) w.if-fits.false)
    ]
