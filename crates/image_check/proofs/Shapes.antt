-- Sets that do not exist, and lists of shapes.
use Rattle.std.proofs.Common.{◌≡◌, ℕ, ◌<◌, ◌≤◌, List, length, map, ap, subst, arith}
use Rattle.std.specs.Prelude.{All}
use Rattle.std.proofs.lemmas.List.{get_or_past, length-map}
use Rattle.std.proofs.Math.ListN.{get_or-map}
use Rattle.paris_code.specs.declared.program.ShapeBits.{ShapeBits}
use Rattle.paris_code.specs.Shapes.{SetShape, no_shape, shape_of, rank_at}
use Rattle.paris_code.specs.RuleSet.{IsAxis}
use Rattle.paris_code.specs.Sound.{IsShape}

-- a set that does not exist has no axis
pub no_axis : (shapes : List SetShape) (set axis : ℕ) → length shapes ≤ set → IsAxis shapes set axis → ⊥
no_axis shapes set axis past is =
    let rank : SetShape → ℕ = λ s. length s.extents in
    let none : rank_at shapes set ≡ 0 = ap rank (get_or_past shapes set no_shape past) in
    omega (arith, none, is)

-- what holds of each shape of a list holds of each of its declarations
pub each_shape : (shapes : List ShapeBits) → All IsShape (map shape_of shapes) → All (λ s. IsShape (shape_of s)) shapes
each_shape shapes all k d inside =
    let there : k < length (map shape_of shapes) = omega (arith, length-map shapes shape_of) in
    subst IsShape (get_or-map shape_of shapes k d) (all k (shape_of d) there)
