-- The shapes of a checked image.
use Rattle.std.proofs.Common.{◌≡◌, ◌<◌, ℕ, List, length, map, sym, subst, get_or}
use Rattle.std.proofs.lemmas.List.{get_or-map, length-map}
use Rattle.std.specs.Prelude.{All}
use Rattle.paris_code.specs.declared.program.ShapeBits.{ShapeBits}
use Rattle.paris_code.specs.Shapes.{SetShape, no_shape, shape_of}
use Rattle.paris_code.specs.Sound.{IsShape}

-- each shape of a list of grids is one
pub shape_kept : (shapes : List ShapeBits) (k : ℕ) (shape : ShapeBits) → All IsShape (map shape_of shapes) → k < length shapes → shape ≡ get_or shapes k shape → IsShape (shape_of shape)
shape_kept shapes k shape all within is =
    let family : SetShape → Type 0 = λ s. IsShape s in
    let at : ShapeBits → Type 0 = λ s. IsShape (shape_of s) in
    subst at (sym is) (subst family (get_or-map shape_of shapes k shape no_shape within) (all k no_shape (rw length-map within)))
