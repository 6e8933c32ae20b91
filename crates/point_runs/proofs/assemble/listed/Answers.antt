use Rattle.std.proofs.Common.{◌<◌, List, sym, subst, refl}
use Rattle.paris_code.specs.declared.program.ShapeBits.{ShapeBits}
use Rattle.point_runs.specs.declared.refusal.NoImage.{NoImage}
use Rattle.point_runs.specs.Assembled.{RefusesSets, bits_of_sets}
use Rattle.point_runs.specs.Refusals.{TellsWhy}
use Rattle.point_runs.proofs.assemble.listed.Goals as goal

pub returns-else-has_room-clause-refused : goal.returns-else-has_room-clause-refused
returns-else-has_room-clause-refused c =
    let over = subst (λ (shapes : List ShapeBits). 1073741824 < bits_of_sets shapes) c.as_slice.ensures.value (c.if-has_room.ensures.full refl) in
    subst (λ (none : NoImage). TellsWhy (RefusesSets c.args.text.now) none) (sym c.refused.ensures) (refl, (c.in-Ok.image, c.in-Ok.ensures.listed, over))
