use Rattle.std.proofs.Common.{◌≡◌, [], ◌∷◌, ◌++◌}
use Rattle.front_end.proofs.FitLemmas.{place_returned}
use Rattle.front_end.proofs.Steps.{last_of}
use Rattle.front_end.proofs.front.Front.give_back.Goals as goal

popped : (c : goal.After-self-1) → c.args.self.now.returns.items ≡ c.pop.new.self.items ++ c.unwrap-self.result ∷ []
popped c = rw c.unwrap-self.ensures at c.pop.ensures.items

pub returns-clause-state : goal.returns-clause-state
returns-clause-state c =
    let last = last_of c.args.self.now.returns.items c.pop.new.self.items c.unwrap-self.result (popped c) in
    let at = last.0 in
    let before = last.1 in
    cc

pub returns-clause-fits : goal.returns-clause-fits
returns-clause-fits c = record {
  place = place_returned c.args.sound.now c.args.self.now.at c.unwrap-self.result c.args.self.now.returns.items c.pop.new.self.items c.requires.fits.place (popped c);
  registers = c.requires.fits.registers;
  calls = c.requires.fits.calls;
  some = c.requires.fits.some;
  arguments = c.requires.fits.arguments;
  wanted = c.requires.fits.wanted;
}
