use Rattle.std.proofs.Common.{arith}
use Rattle.std.proofs.lemmas.List.{length-map}
use Rattle.std.proofs.lemmas.List.Elements.{All-map}
use Rattle.paris_code.specs.Shapes.{shape_of}
use Rattle.paris_code.specs.Sound.{IsShape}
use Rattle.image_check.proofs.Shapes.{each_shape}
use Rattle.image_check.proofs.parts.keeps_shapes.Goals as goal

pub returns-then-shapes-le-MOST_SHAPES : goal.returns-then-shapes-le-MOST_SHAPES
returns-then-shapes-le-MOST_SHAPES c = (
  (λ t. (omega (arith, length-map c.args.shapes.now shape_of), All-map IsShape shape_of c.args.shapes.now (c.all_are_shapes.ensures.0 t))),
  (λ keeps. c.all_are_shapes.ensures.1 (each_shape c.args.shapes.now keeps.1)),
)
