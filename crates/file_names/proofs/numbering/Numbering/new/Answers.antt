use Rattle.std.proofs.Common.{refl}
use Rattle.file_names.specs.Numbers.{AreApart}
use Rattle.file_names.proofs.numbering.Numbering.new.Goals as goal

pub returns : goal.returns
unfolding AreApart
returns c few = record { names = c.new.ensures; apart = tt; all = refl; shapes = refl; functions = refl; variables = refl; kinds = refl }
