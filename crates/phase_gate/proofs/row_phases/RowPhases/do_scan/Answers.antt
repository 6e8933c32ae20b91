use Rattle.std.proofs.Common.{None, ◌∙◌, refl, sym, ap, arith}
use Rattle.std.specs.Bool.{then_some}
use Rattle.paris_code.specs.Fetching.{at_active}
use Rattle.paris_code.specs.Memory.{is_active, processors}
use Rattle.paris_code.specs.Scanning.{scanned}
use Rattle.phase_gate.specs.Rows.{sets_of, memory_of, room_of}
use Rattle.phase_gate.specs.Scans.{scan_of}
use Rattle.phase_meaning.proofs.Stepwise.{held_words}
use Rattle.phase_gate.proofs.row_phases.RowPhases.do_scan.Goals as goal

pub returns-clause-memory : goal.returns-clause-memory
returns-clause-memory c =
    let now = sets_of c.args.self.now in
    let old = memory_of c.args.self.now in
    let d = c.args.dest in
    let scan = scan_of c.args.scan.now in
    let mid = c.gather_scan.new.self in
    held_words now (sets_of mid) old (memory_of mid) (memory_of c.write_gathered.new.self) (at_active now old d (λ p. scanned now old scan p)) None (room_of mid d.set) (scanned now old scan)
    c.gather_scan.ensures.sets c.gather_scan.ensures.memory (λ p. refl)
    (λ p b. ap (λ s. room_of mid s p) c.requires.together ∙ c.gather_scan.ensures.words p (omega (arith, b, ap (processors now) c.requires.together))
    ∙ ap (λ s. then_some (is_active now old s p) (scanned now old scan p)) (sym c.requires.together))
    c.write_gathered.ensures.memory
