use Rattle.std.proofs.Common.{◌≡◌}
use Rattle.cstar_base.specs.Folds.{fold_once, identity_of}
use Rattle.paris_code.specs.Fetching.{folded_word}
use Rattle.paris_code.specs.Memory.{is_active}
use Rattle.paris_code.specs.Operators.{combiner_of}
use Rattle.cstar_base.specs.Orders.{fold_below}
use Rattle.phase_gate.specs.Rows.{sets_of, memory_of}
use Rattle.phase_gate.proofs.row_phases.RowPhases.reduce.Given as goal

abbrev pub invariant-positions : goal.invariant-positions
invariant-positions l =
    let c = combiner_of l.fn.combiner in
    l.total ≡ fold_below (λ total n. fold_once c.0 c.1 total n) (λ p. is_active (sets_of l.self) (memory_of l.self) l.source.set p) (λ p. folded_word l.fn.combiner (memory_of l.self) l.source p)
    (identity_of c.0 c.1) l.position
