use Rattle.std.proofs.Common.{◌≡◌, map, take}
use Rattle.paris_code.specs.Memory.{SameBits, fresh_memory}
use Rattle.paris_code.specs.Shapes.{shape_of}
use Rattle.phase_gate.specs.Rows.{shape_of_rows, rows_memory}
use Rattle.phase_gate.proofs.row_phases.RowPhases.new.Given as goal

abbrev pub invariant-shapes : goal.invariant-shapes
invariant-shapes l =
    (map shape_of_rows l.sets.items ≡ map shape_of (take l.shape-index l.shape-items))
    × SameBits (map shape_of_rows l.sets.items) (rows_memory l.sets.items) (fresh_memory (map shape_of_rows l.sets.items))
