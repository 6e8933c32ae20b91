use Rattle.std.proofs.Common.{◌≡◌, None}
use Rattle.front_end.specs.Front.{state_of, Fits, RunsWhole}
use Rattle.front_end.proofs.front.Front.run.Given as goal

abbrev pub invariant-instructions : goal.invariant-instructions
invariant-instructions l = record {
  fits : Fits l.sound (state_of l.self);
  ready : l.self.wanted ≡ None;
  whole : RunsWhole l.sound (state_of l.initial.self) l.begun (state_of l.self);
}
