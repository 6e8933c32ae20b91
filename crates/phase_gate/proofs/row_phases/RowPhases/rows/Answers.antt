use Rattle.std.proofs.Common.{map, get_or, ap, ◌∙◌, arith}
use Rattle.std.proofs.lemmas.List.{length-map}
use Rattle.phase_gate.specs.Rows.{row_bit, room_word, memory_of, room_of, no_bits, no_words, shape_of_rows}
use Rattle.phase_meaning.proofs.Entries.{entry}
use Rattle.phase_gate.proofs.row_phases.RowPhases.rows.Goals as goal

pub returns-clause-cells : goal.returns-clause-cells
unfolding memory_of
returns-clause-cells c =
    let sets = c.args.self.now.sets.items in
    entry row_bit sets c.from.result c.index.result.now no_bits (omega (arith, c.requires, length-map sets shape_of_rows)) c.index.ensures
    ∙ ap (λ k. get_or (map row_bit sets) k no_bits) c.from.ensures

pub returns-clause-room : goal.returns-clause-room
unfolding room_of
returns-clause-room c =
    let sets = c.args.self.now.sets.items in
    entry room_word sets c.from.result c.index.result.now no_words (omega (arith, c.requires, length-map sets shape_of_rows)) c.index.ensures
    ∙ ap (λ k. get_or (map room_word sets) k no_words) c.from.ensures
