use Rattle.std.proofs.Common.{◌∙◌, ◌+◌, ◌-◌, ◌^◌, ap, refl, sym}
use Rattle.std.specs.Int.{from_bool}
use Rattle.std.specs.Prelude.{min}
use Rattle.shape_types.proofs.FileLoops.{both_parts, next_shapes, no_shapes}
use Rattle.shape_types.proofs.FileSteps.{all_defined}
use Rattle.shape_types.proofs.declarations.shape_definitions.Goals as goal
use Rattle.shape_types.proofs.declarations.shape_definitions.Goals.{then-new+in_ok-push, else-new}

pub loop-definition-init : goal.loop-definition-init
loop-definition-init c = (no_shapes c.args.file.now c.args.declared.now c.args.definitions.now, λ w. w, refl, refl, refl, refl)

pub loop-definition-preserved : goal.loop-definition-preserved
loop-definition-preserved c =
    let before = c.loop-definition.invariant in
    let step = c.in_ok-info.ensures in
    elim c.if-new.branch [
      | then-new+in_ok-push w ↦ rw (w.file-is, w.declared-is) (
        next_shapes c.args.file.now c.args.declared.now c.loop-definition.file c.loop-definition.declared c.shape_definition.new.declared w.keep_shape.new.self c.args.definitions.now c.loop-definition.definition-index c.definition-item.result c.in_ok-info.info w.push.new.self c.is_new-new.result
            before.0 c.loop-definition-test.true c.definition-item.is (λ start k knows is. c.is_new-new.ensures start k knows is) (λ start k knows own whole. step.typed start k knows own whole) step.known step.whole
            (λ whole. (both_parts c.shape_definition.new.declared.is_whole c.is_new-new.result (sym c.declare.ensures.whole ∙ w.keep_shape.ensures.whole whole)).0) w.if-new.true
            (w.keep_shape.ensures.known ∙ (c.declare.ensures.known ∙ ap (λ b. min (c.shape_definition.new.declared.known + from_bool b) (2 ^ 64 - 1)) w.if-new.true)) w.in_ok-push.ensures.items,
        λ whole. before.1 (step.whole (both_parts c.shape_definition.new.declared.is_whole c.is_new-new.result (sym c.declare.ensures.whole ∙ w.keep_shape.ensures.whole whole)).0),
        w.keep_shape.ensures.vars ∙ (c.declare.ensures.vars ∙ (step.vars ∙ before.2)),
        before.3,
        before.4,
        before.5,
      )
      | else-new w ↦ rw (w.file-is, w.declared-is) (
        λ start k knows plain first whole. absurd (let other = sym (both_parts c.shape_definition.new.declared.is_whole c.is_new-new.result (sym c.declare.ensures.whole ∙ whole)).1 ∙ w.if-new.false in cc),
        λ whole. absurd (let other = sym (both_parts c.shape_definition.new.declared.is_whole c.is_new-new.result (sym c.declare.ensures.whole ∙ whole)).1 ∙ w.if-new.false in cc),
        c.declare.ensures.vars ∙ (step.vars ∙ before.2),
        before.3,
        before.4,
        before.5,
      )
    ]

pub returns-clause-typed : goal.returns-clause-typed
returns-clause-typed c start k knows plain first whole =
    all_defined start k c.loop-definition.file c.loop-definition.declared.known c.loop-definition.definition-index c.args.definitions.now c.args.file.now.shapes.items c.loop-definition-test.false (c.loop-definition.invariant.0 start k knows plain first whole)
