use Rattle.std.proofs.Common.{◌∙◌, sym}
use Rattle.type_expressions.proofs.Walking.{found_of}
use Rattle.type_statements.specs.Declarators.{FitsArray}
use Rattle.shape_types.proofs.FileConstants.{type_settled}
use Rattle.shape_types.proofs.FileLoops.{both_parts}
use Rattle.shape_types.proofs.variables.variable_type.Goals as goal

pub returns-clause-typed : goal.returns-clause-typed
returns-clause-typed c start k of knows plain ty_is whole =
    let second = both_parts _ _ (sym c.require-2.ensures.whole ∙ whole) in
    let first = both_parts _ _ (sym c.require.ensures.whole ∙ second.0) in
    type_settled start k c.args.file.now c.args.declared.now.known c.new-none.result c.file-site.result knows c.new-none.ensures c.file-site.ensures _ _ (c.begin_constant.ensures first.0) c.in_ok-length.ensures.met
    of c.args.declarator.now c.in_ok-length.length c.args.ty c.in_ok-fits.fits c.variable-ty.result ty_is plain c.in_ok-length.ensures.typed
    (λ u is. found_of (λ v. FitsArray c.args.ty c.in_ok-length.length c.args.declarator.now.initial) _ c.array_fits.result c.in_ok-fits.fits u c.array_fits.ensures c.in_ok-fits.ensures.part is)
    (sym c.is_some.ensures ∙ first.1) c.variable-ty.ensures (sym c.is_some-2.ensures ∙ second.1)
