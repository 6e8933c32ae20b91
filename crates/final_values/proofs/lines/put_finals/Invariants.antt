use Rattle.std.proofs.Common.{◌≡◌, flat_map, take}
use Rattle.cstar_io.specs.Output.{Takes}
use Rattle.paris_code.specs.Shapes.{shapes_of}
use Rattle.final_values.specs.Finals.{values_line}
use Rattle.final_values.proofs.lines.put_finals.Given as goal

abbrev pub invariant-finals : goal.invariant-finals
invariant-finals g l =
    Takes g.O.Sink.agrees l.fn.out l.out (flat_map (values_line (shapes_of l.sound) (g.P.Phases.memory l.phases)) (take l.last-index l.last-items))
    × (g.O.Sink.faults l.out ≡ g.O.Sink.faults l.fn.out)
