use Rattle.std.proofs.Common.{◌≡◌, ap, sym, subst, List, map, arith}
use Rattle.std.proofs.lemmas.Grind.{common_steps}
use Rattle.paris_code.specs.Memory.{SameBits, fresh_memory}
use Rattle.paris_code.specs.Shapes.{SetShape, shapes_of}
use Rattle.phase_gate.specs.declared.rows.Rows.{Rows}
use Rattle.phase_gate.specs.Rows.{shape_of_rows, rows_memory, memory_of}
use Rattle.phase_gate.proofs.Memories.{fresh_none, fresh_push}
use Rattle.phase_gate.proofs.row_phases.RowPhases.new.Goals as goal

abbrev AreFresh : List Rows → Type 0
AreFresh sets = SameBits (map shape_of_rows sets) (rows_memory sets) (fresh_memory (map shape_of_rows sets))

pub shapes-init : goal.shapes-init
shapes-init c = (ap (map shape_of_rows) c.new-sets.ensures.items, subst AreFresh (sym c.new-sets.ensures.items) fresh_none)

pub shapes-preserved : goal.shapes-preserved
shapes-preserved c = (grind (arith, common_steps), subst AreFresh (sym c.in_ok-push.ensures.items) (fresh_push c.shapes.sets.items c.in_ok-rows_of.field-0 c.shapes.invariant.1 c.in_ok-rows_of.ensures.fresh))

pub returns-clause-fresh : goal.returns-clause-fresh
unfolding memory_of rows_memory
returns-clause-fresh c =
    let same : map shape_of_rows c.shapes.sets.items ≡ shapes_of c.args.sound.now = grind (arith, common_steps) in
    subst (λ (shapes : List SetShape). SameBits shapes (rows_memory c.shapes.sets.items) (fresh_memory shapes)) same c.shapes.invariant.1
