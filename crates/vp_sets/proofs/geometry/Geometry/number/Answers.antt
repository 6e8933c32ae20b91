use Rattle.std.proofs.Common.{◌<◌, ◌≡◌, subst, ℕ, List}
use Rattle.std.specs.Prelude.{IfSome}
use Rattle.vp_sets.specs.Positions.{position_count, coordinates}
use Rattle.vp_sets.proofs.PositionLaws.{found}
use Rattle.vp_sets.proofs.geometry.Geometry.number.Goals as goal

pub returns-clause-bound : goal.returns-clause-bound
returns-clause-bound c =
    subst (λ (xs : List ℕ). IfSome c.position.result (λ n. n < position_count xs)) c.extents.ensures.value
    (found c.extents.result.now c.args.coords.now c.position.result c.extents.ensures.positive c.position.ensures).0

pub returns-clause-coords : goal.returns-clause-coords
returns-clause-coords c =
    subst (λ (xs : List ℕ). IfSome c.position.result (λ n. coordinates xs n ≡ c.args.coords.now)) c.extents.ensures.value
    (found c.extents.result.now c.args.coords.now c.position.result c.extents.ensures.positive c.position.ensures).1
