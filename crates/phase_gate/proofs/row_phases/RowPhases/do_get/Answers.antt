use Rattle.std.proofs.Common.{false, None, ◌∙◌, refl, sym, ap, arith}
use Rattle.std.specs.Bool.{then_some}
use Rattle.paris_code.specs.Fetching.{of_named}
use Rattle.paris_code.specs.Memory.{is_active, processors}
use Rattle.phase_meaning.specs.Gathered.{gathered}
use Rattle.phase_gate.specs.Rows.{sets_of, memory_of, room_of}
use Rattle.phase_meaning.proofs.Stepwise.{held_words}
use Rattle.phase_gate.proofs.row_phases.RowPhases.do_get.Goals as goal

pub returns-clause-memory : goal.returns-clause-memory
returns-clause-memory c =
    let now = sets_of c.args.self.now in
    let old = memory_of c.args.self.now in
    let d = c.args.dest in
    let mid = c.gather_named.new.self in
    held_words now (sets_of mid) old (memory_of mid) (memory_of c.write_gathered.new.self) (gathered now old d false (of_named now old c.args.address c.args.source)) None (room_of mid d.set) (of_named now old c.args.address c.args.source)
    c.gather_named.ensures.sets c.gather_named.ensures.memory (λ p. refl)
    (λ p b. ap (λ s. room_of mid s p) c.requires.together ∙ c.gather_named.ensures.words p (omega (arith, b, ap (processors now) c.requires.together))
    ∙ ap (λ s. then_some (is_active now old s p) (of_named now old c.args.address c.args.source p)) (sym c.requires.together))
    c.write_gathered.ensures.memory
