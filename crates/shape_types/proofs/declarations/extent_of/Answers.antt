use Rattle.std.proofs.Common.{◌≡◌, ◌∙◌, Some, sym, subst, w64}
use Rattle.std.proofs.lemmas.Int.{to_z-of_z}
use Rattle.cstar_tree.specs.Constants.{constant_number}
use Rattle.shape_types.specs.FileWalk.{place_in}
use Rattle.shape_types.proofs.FileConstants.{extent_fits, extent_settled}
use Rattle.shape_types.proofs.FileLoops.{both_parts}
use Rattle.shape_types.proofs.declarations.extent_of.Goals as goal

pub returns-clause-typed : goal.returns-clause-typed
returns-clause-typed c start k knows plain whole some =
    let parts = both_parts _ _ (sym c.require.ensures.whole ∙ whole) in
    let has = sym c.is_some.ensures ∙ parts.1 in
    let fits = extent_fits c.constant_number-number.result c.in_ok-number.number c.constant_number-number.ensures.fits c.in_ok-number.ensures.part has in
    subst (λ z. constant_number (place_in start k) c.args.extent.now ≡ Some z) (c.size_of.ensures some)
    (rw (c.unwrap_or.ensures, to_z-of_z w64 _ fits)
    (extent_settled start k c.args.file.now c.args.declared.now.known c.new-none.result c.file.result knows c.new-none.ensures c.file.ensures _ _ (c.begin_constant.ensures parts.0) c.in_ok-typed.ensures.met
    c.args.extent.now c.place.result c.in_ok-typed.typed c.constant_number-number.result c.in_ok-number.number plain c.in_ok-typed.ensures.typed c.constant_number-number.ensures.number c.in_ok-number.ensures.part has))
