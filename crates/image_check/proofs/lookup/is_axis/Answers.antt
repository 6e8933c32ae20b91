use Rattle.std.proofs.Common.{map}
use Rattle.std.proofs.lemmas.Bool.{false≢true}
use Rattle.paris_code.specs.Shapes.{shape_of}
use Rattle.image_check.proofs.Shapes.{no_axis}
use Rattle.image_check.proofs.lookup.is_axis.Goals as goal

pub returns-in-None : goal.returns-in-None
returns-in-None c =
    ((λ t. absurd (false≢true t)), (λ h. absurd (no_axis (map shape_of c.args.shapes.now) c.args.set c.args.axis c.in-None.ensures h)))
