use Rattle.std.proofs.Common.{◌≡◌, [], length, arith}
use Rattle.std.proofs.lemmas.Grind.{common_steps}
use Rattle.front_end.proofs.FitLemmas.{place_open}
use Rattle.front_end.proofs.kept.Kept.new.Goals as goal

pub returns-clause-fits : goal.returns-clause-fits
returns-clause-fits c =
    let none : c.of-2.result ≡ [] = grind (arith, common_steps) in
    let all : length c.of.result ≡ c.args.sound.now.slots = grind (arith, common_steps) in
    (place_open c.args.sound.now c.of-2.result c.image.ensures.sound.units none, all)
