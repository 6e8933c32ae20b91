use Rattle.std.proofs.Common.{◌∙◌, ◌++◌, [], ◌∷◌, ℕ, ap, get_or, refl}
use Rattle.type_scopes.specs.declared.file.FunctionInfo.{FunctionInfo}
use Rattle.shape_types.proofs.Numbered.{all_grouped, one_more_grouped}
use Rattle.shape_types.proofs.in_groups.Goals as goal

pub loop-number-preserved : goal.loop-number-preserved
loop-number-preserved c =
    let nothing : FunctionInfo = record { item = 0; known = 0; group = 0 } in
    let info : FunctionInfo = get_or c.args.functions.now c.loop-number.number nothing in
    one_more_grouped c.args.functions.now c.args.groups.now c.loop-number.number c.loop-number.all.items c.push.new.self.items info nothing c.loop-number-test.true refl (c.in_ok-push.ensures.items ∙ ap (λ (g : ℕ). c.loop-number.all.items ++ record info { group = g } ∷ []) c.group_at-group.ensures) c.loop-number.invariant

pub returns : goal.returns
returns c = all_grouped c.args.functions.now c.args.groups.now c.loop-number.number c.loop-number.all.items c.loop-number-test.false c.loop-number.invariant
