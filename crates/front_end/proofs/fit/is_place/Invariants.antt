use Rattle.std.proofs.Common.{◌<◌, ◌↔◌, length, drop}
use Rattle.front_end.specs.Fit.{IsChain}
use Rattle.front_end.proofs.fit.is_place.Given as goal

abbrev pub invariant-returns : goal.invariant-returns
invariant-returns l = record {
  unit : l.unit < length l.sound.units.items;
  chain : IsChain l.sound 0 l.returns l.at ↔ IsChain l.sound l.unit (drop l.place-index l.returns) l.at;
}
