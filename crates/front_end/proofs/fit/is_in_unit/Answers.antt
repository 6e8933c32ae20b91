use Rattle.std.proofs.Common.{arith}
use Rattle.std.proofs.lemmas.Bool.{le-leb, leb-true, lt-ltb, ltb-true}
use Rattle.front_end.proofs.FitLemmas.{tells_unit}
use Rattle.front_end.proofs.fit.is_in_unit.Goals as goal

pub returns-then-start-place : goal.returns-then-start-place
returns-then-start-place c =
    let both = tells_unit c.args.sound.now c.args.unit c.args.place c.start_of-start.result c.end_of-end.result c.image-image.ensures.sound.units c.requires c.start_of-start.ensures c.end_of-end.ensures in
    (λ below. both.0 (c.if-start-place.true, ltb-true _ _ below), λ inside. lt-ltb _ _ (both.1 inside).1)

pub returns-else-start-place : goal.returns-else-start-place
returns-else-start-place c =
    let both = tells_unit c.args.sound.now c.args.unit c.args.place c.start_of-start.result c.end_of-end.result c.image-image.ensures.sound.units c.requires c.start_of-start.ensures c.end_of-end.ensures in
    (λ above. absurd (omega (arith, c.if-start-place.false, leb-true _ _ above)), λ inside. le-leb _ _ (both.1 inside).0)
