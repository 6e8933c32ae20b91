use Rattle.std.proofs.Common.{refl}
use Rattle.front_end.proofs.FitLemmas.{chain_onward, chain_first, some_unit}
use Rattle.front_end.proofs.fit.is_place.Goals as goal

pub returns-init : goal.returns-init
returns-init c = record { unit = some_unit c.args.sound.now c.image-image.ensures.sound.units; chain = (λ h. h, λ h. h) }

pub returns-preserved : goal.returns-preserved
returns-preserved c =
    let kept = c.returns.invariant in
    let behind = c.in-Some.ensures.some in
    let inside = c.if-not-is_in_unit.ensures.0 refl in
    let on = chain_onward c.args.sound.now c.returns.unit c.args.returns.now c.returns.place-index c.args.at c.in-Some.called c.returns-test.true inside.1 behind.0 in
    record { unit = behind.1; chain = (λ h. on.0 (kept.chain.0 h), λ h. kept.chain.1 (on.1 h)) }

pub returns-in-None : goal.returns-in-None
returns-in-None c = (
  λ never. cc,
  λ place.
      let first = chain_first c.args.sound.now c.returns.unit c.args.returns.now c.returns.place-index c.args.at c.returns-test.true (c.returns.invariant.chain.0 place.1) in
      absurd (c.in-None.ensures.none first.1.0 first.1.1),
)
