use Rattle.std.proofs.Common.{ℤ, ◌||◌, None, ◌∙◌, refl, sym, ap, arith, rules}
use Rattle.std.specs.Bool.{then_some}
use Rattle.std.proofs.lemmas.Int.{to_z-of_z}
use Rattle.vp_sets.specs.Positions.{shifted}
use Rattle.paris_code.specs.Fetching.{of_neighbour}
use Rattle.paris_code.specs.Memory.{field_number, is_active, processors}
use Rattle.paris_code.specs.Shapes.{extents_at}
use Rattle.phase_meaning.specs.Gathered.{gathered}
use Rattle.phase_gate.specs.Rows.{sets_of, memory_of, room_of}
use Rattle.phase_meaning.proofs.Stepwise.{held_words}
use Rattle.phase_gate.proofs.row_phases.RowPhases.do_shift.Goals as goal

pub returns-clause-memory : goal.returns-clause-memory
unfolding of_neighbour
returns-clause-memory c =
    let now = sets_of c.args.self.now in
    let old = memory_of c.args.self.now in
    let d = c.args.dest in
    let a = c.args.source in
    let mid = c.gather_shift.new.self in
    held_words now (sets_of mid) old (memory_of mid) (memory_of c.write_gathered.new.self) (gathered now old d c.args.always (of_neighbour now old a c.args.axis c.args.by)) None (room_of mid d.set) (of_neighbour now old a c.args.axis c.args.by)
    c.gather_shift.ensures.sets c.gather_shift.ensures.memory (λ p. refl)
    (λ p b.
    ap (λ s. room_of mid s p) c.requires.together
    ∙ c.gather_shift.ensures.words p (omega (arith, b, ap (processors now) c.requires.together))
    ∙ ap (λ (k : ℤ). then_some (c.args.always || is_active now old a.set p) (field_number old a (shifted (extents_at now a.set) p c.args.axis k))) ((search (rules, to_z-of_z)) ∙ c.signed.ensures)
    ∙ ap (λ s. then_some (c.args.always || is_active now old s p) (of_neighbour now old a c.args.axis c.args.by p)) (sym c.requires.together))
    c.write_gathered.ensures.memory
