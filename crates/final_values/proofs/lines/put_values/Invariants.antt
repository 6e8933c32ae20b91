use Rattle.std.proofs.Common.{◌≡◌, flat_map, take}
use Rattle.std.specs.List.{range_with_len}
use Rattle.cstar_io.specs.Output.{Takes}
use Rattle.final_values.specs.Finals.{value_text}
use Rattle.final_values.proofs.lines.put_values.Given as goal

abbrev pub invariant-positions : goal.invariant-positions
invariant-positions g l =
    Takes g.O.Sink.agrees l.fn.out l.out (flat_map (value_text (g.P.Phases.memory l.phases) l.last) (take l.position (range_with_len 0 l.position-end)))
    × (g.O.Sink.faults l.out ≡ g.O.Sink.faults l.fn.out)
