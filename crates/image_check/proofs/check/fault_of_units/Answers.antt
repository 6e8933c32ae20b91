use Rattle.std.proofs.Common.{refl, arith}
use Rattle.image_check.proofs.check.fault_of_units.Goals as goal

pub returns : goal.returns
returns c =
    record {
      first = λ has. absurd (c.requires.units has);
      units = λ none. (refl, omega (arith, c.len.ensures, c.args.image.now.code.ok.0));
    }
