use Rattle.front_end.proofs.FitLemmas.{place_moved}
use Rattle.front_end.proofs.front.Front.go_to.Goals as goal

pub returns-clause-fits : goal.returns-clause-fits
returns-clause-fits c = record {
  place = place_moved c.args.sound.now c.args.self.now.at c.args.target c.args.self.now.returns.items c.requires.fits.place c.requires.inside;
  registers = c.requires.fits.registers;
  calls = c.requires.fits.calls;
  some = c.requires.fits.some;
  arguments = c.requires.fits.arguments;
  wanted = c.requires.fits.wanted;
}
