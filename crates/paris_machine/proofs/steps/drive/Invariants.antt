use Rattle.std.proofs.Common.{◌≡◌, ◌+◌, ◌-◌, ◌*◌, ◌≤◌, None, true, false, List, ℕ, [], length}
use Rattle.std.specs.Prelude.{IfSome}
use Rattle.paris_code.specs.Code.{Rest}
use Rattle.paris_code.specs.Shapes.{shapes_of}
use Rattle.cstar_io.specs.Input.{Took}
use Rattle.cstar_io.specs.Output.{Takes}
use Rattle.front_end.specs.Front.{state_of, Fits, joined}
use Rattle.paris_machine.specs.Bound.{most_left}
use Rattle.paris_machine.specs.Runs.{IsLeft, StaysOver, before}
use Rattle.paris_machine.proofs.Following.{Reaches}
use Rattle.paris_machine.proofs.steps.drive.Given as goal

abbrev pub invariant-steps : goal.invariant-steps
invariant-steps g l = record {
  most : l.begun ≤ l.most;
  fits : Fits l.sound (state_of l.front);
  ready : l.front.wanted ≡ None;
  shapes : g.P.Phases.shapes l.p ≡ shapes_of l.sound;
  able : g.P.Phases.able l.p;
  input : g.I.Source.faults l.input ≡ g.I.Source.faults l.initial.input;
  output : g.O.Sink.faults l.out ≡ g.O.Sink.faults l.initial.out;
  over : l.initial.ended ≡ true → (l.ended ≡ true) × (l.input ≡ l.initial.input);
  empty : l.initial.ended ≡ false → l.ended ≡ true → IfSome (g.I.Source.left l.input) (λ rest. rest ≡ []);
  left : l.begun + most_left l.sound l.front.at l.front.returns.items l.front.turns ≤ (l.initial.front.turns + 1) * length l.sound.code.items;
  taken : List ℕ;
  printed : List ℕ;
  took : Took (g.I.Source.left l.initial.input) taken (g.I.Source.left l.input);
  takes : Takes g.O.Sink.agrees l.initial.out l.out printed;
  unread : StaysOver l.initial.ended None l.ended taken;
  reaches : (later : Rest) → IsLeft l.ended None later → Reaches l.sound (joined (state_of l.initial.front) (g.P.Phases.memory l.initial.p) (before taken later) []) l.begun (joined (state_of l.front) (g.P.Phases.memory l.p) later printed);
}

abbrev pub decreases-steps : goal.decreases-steps
decreases-steps g l = l.most - l.begun
