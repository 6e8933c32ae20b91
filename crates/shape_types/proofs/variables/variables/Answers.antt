use Rattle.std.proofs.Common.{◌∙◌, List, Some, ap, refl, subst, sym}
use Rattle.std.specs.List.{All}
use Rattle.std.proofs.lemmas.List.{take_all}
use Rattle.cstar_tree.specs.declared.syntax.Declarator.{Declarator}
use Rattle.cstar_tree.specs.FileScopes.{behind_item, behind_variables, file_known, functions_named}
use Rattle.shape_types.specs.FileWalk.{AreFirst, AreVariables, Knows}
use Rattle.shape_types.specs.Plain.{IsPlainDeclarator}
use Rattle.shape_types.proofs.FileLoops.{both_parts, found_type, next_variables, no_variables}
use Rattle.shape_types.proofs.variables.variables.Goals as goal

pub loop-declarator-init : goal.loop-declarator-init
loop-declarator-init c = (
  λ start k of knows plain first ty_is of_shape whole.
      no_variables start k of c.as_slice-declarator-items.result.now c.args.file.now c.require.new.self c.args.declared.now.vars.items (ap (λ v. v.items) c.require.ensures.vars) (subst (Knows start k c.args.file.now) (sym c.require.ensures.known) knows),
  λ w. w,
  refl,
  refl,
  refl,
  refl,
)

pub loop-declarator-preserved : goal.loop-declarator-preserved
loop-declarator-preserved c =
    let before = c.loop-declarator.invariant in
    let step = c.in_ok-variable.ensures in (
      λ start k of knows plain first ty_is of_shape whole.
          next_variables start k of c.as_slice-declarator-items.result.now c.loop-declarator.declarator-index c.declarator-item.result c.args.declared.now.vars.items c.loop-declarator.file c.variable.new.file c.loop-declarator.declared c.variable.new.declared
          (before.0 start k of knows plain first ty_is of_shape (step.whole whole)) c.loop-declarator-test.true c.declarator-item.is plain first of_shape
          (λ there known own names shaped. (step.typed start there of known own names ty_is shaped whole, step.knows start there of known own names ty_is shaped whole)),
      λ w. before.1 (step.whole w),
      step.shapes ∙ before.2,
      step.functions ∙ before.3,
      step.names ∙ before.4,
      step.tree ∙ before.5,
    )

pub returns-clause-typed : goal.returns-clause-typed
unfolding behind_item
returns-clause-typed c start k knows plain first whole =
    let after = c.loop-declarator.invariant in
    let has = both_parts _ _ (sym c.require.ensures.whole ∙ after.1 whole) in
    let ty = found_type start k c.args.file.now c.args.declared.now.known c.new-none.result c.file.result c.args.declaration.now.type_name c.value_type-ty.result c.in_ok-ty.ty knows c.new-none.ensures c.file.ensures c.value_type-ty.ensures c.in_ok-ty.ensures.part (sym c.is_some.ensures ∙ has.1) in
    let items = c.as_slice-declarator-items.ensures.value in
    let names = subst (λ o. AreFirst (behind_variables (functions_named start.tree.now) o k c.args.declaration.now.variables.items).names (file_known start.tree.now).names) ty.2 first in
    let so = after.0 start k ty.0 knows (subst (All IsPlainDeclarator) (sym items) plain) (subst (λ (ds : List Declarator). AreFirst (behind_variables (functions_named start.tree.now) (Some ty.0) k ds).names (file_known start.tree.now).names) (sym items) names) ty.1 ty.3 whole in
    let all = take_all c.loop-declarator.declarator-index c.as_slice-declarator-items.result.now c.loop-declarator-test.false ∙ items in
    record {
      ty = ty.0;
      written = ty.2;
      variables = subst (λ (ds : List Declarator). AreVariables start k ty.0 ds c.args.declared.now.vars.items c.loop-declarator.declared.vars.items) all so.typed;
    }

pub returns-clause-knows : goal.returns-clause-knows
unfolding behind_item
returns-clause-knows c start k knows plain first whole =
    let after = c.loop-declarator.invariant in
    let has = both_parts _ _ (sym c.require.ensures.whole ∙ after.1 whole) in
    let ty = found_type start k c.args.file.now c.args.declared.now.known c.new-none.result c.file.result c.args.declaration.now.type_name c.value_type-ty.result c.in_ok-ty.ty knows c.new-none.ensures c.file.ensures c.value_type-ty.ensures c.in_ok-ty.ensures.part (sym c.is_some.ensures ∙ has.1) in
    let items = c.as_slice-declarator-items.ensures.value in
    let names = subst (λ o. AreFirst (behind_variables (functions_named start.tree.now) o k c.args.declaration.now.variables.items).names (file_known start.tree.now).names) ty.2 first in
    let so = after.0 start k ty.0 knows (subst (All IsPlainDeclarator) (sym items) plain) (subst (λ (ds : List Declarator). AreFirst (behind_variables (functions_named start.tree.now) (Some ty.0) k ds).names (file_known start.tree.now).names) (sym items) names) ty.1 ty.3 whole in
    let all = take_all c.loop-declarator.declarator-index c.as_slice-declarator-items.result.now c.loop-declarator-test.false ∙ items in
    subst (λ o. Knows start (behind_variables (functions_named start.tree.now) o k c.args.declaration.now.variables.items) c.loop-declarator.file c.loop-declarator.declared.known) (sym ty.2)
    (subst (λ (ds : List Declarator). Knows start (behind_variables (functions_named start.tree.now) (Some ty.0) k ds) c.loop-declarator.file c.loop-declarator.declared.known) all so.knows)
