use Rattle.std.proofs.Common.{◌≡◌, ◌+◌, ◌<◌, List, ℕ, [], ◌∷◌, ◌++◌, length, subst, sym, arith}
use Rattle.std.proofs.lemmas.Grind.{common_steps}
use Rattle.paris_code.specs.Units.{start_at}
use Rattle.front_end.specs.Fit.{IsPlace}
use Rattle.front_end.proofs.FitLemmas.{place_called, room_for_call, start_of_unit}
use Rattle.front_end.proofs.front.Front.call.Goals as goal

pushed : (c : goal.After-self-1) → c.push-room.new.self.items ≡ c.args.self.now.returns.items ++ (c.args.self.now.at + 1) ∷ []
pushed c =
    let room : length c.args.self.now.returns.items < c.args.sound.now.depth = room_for_call c.args.sound.now c.args.self.now.at c.args.unit c.args.self.now.returns.items c.requires.fits.place c.requires.keeps.stack in
    grind (arith, common_steps)

pub returns-clause-state : goal.returns-clause-state
returns-clause-state c = let items = pushed c in cc

pub returns-clause-fits : goal.returns-clause-fits
returns-clause-fits c =
    let start = start_of_unit c.args.sound.now c.args.unit c.image-image.ensures.sound.units c.requires.keeps.target.0 in
    let there : IsPlace c.args.sound.now (start_at c.args.sound.now c.args.unit) (c.args.self.now.returns.items ++ (c.args.self.now.at + 1) ∷ []) =
    place_called c.args.sound.now c.args.self.now.at c.args.unit (start_at c.args.sound.now c.args.unit) c.args.self.now.returns.items c.requires.fits.place c.requires.here c.requires.keeps.target.1 start in
    let at_start : ℕ → Type 0 = λ at. IsPlace c.args.sound.now at (c.args.self.now.returns.items ++ (c.args.self.now.at + 1) ∷ []) in
    let with_room : List ℕ → Type 0 = λ returns. IsPlace c.args.sound.now c.start_of-start.result returns in
    record {
      place = subst with_room (sym (pushed c)) (subst at_start (sym c.start_of-start.ensures) there);
      registers = c.requires.fits.registers;
      calls = c.requires.fits.calls;
      some = c.requires.fits.some;
      arguments = c.requires.fits.arguments;
      wanted = c.requires.fits.wanted;
    }
