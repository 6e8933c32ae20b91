use Rattle.std.proofs.Common.{◌≡◌, ℕ, List, length, map, get_or, ap, sym, ◌∙◌, ◌<◌, inl, inr, arith}
use Rattle.std.proofs.Math.ListN.{set}
use Rattle.std.proofs.Math.Seq.{map-set_same}
use Rattle.std.proofs.lemmas.Bool.{cases_eq}
use Rattle.std.proofs.lemmas.List.{length-map}
use Rattle.paris_code.specs.Memory.{BitMemory}
use Rattle.phase_gate.specs.Rows.{row_bit, room_word, memory_of, room_of, no_bits, no_words, shape_of_rows}
use Rattle.phase_meaning.proofs.Entries.{entry, entry_new, entry_other}
use Rattle.phase_gate.proofs.row_phases.RowPhases.gather.Goals as goal

pub returns-clause-memory : goal.returns-clause-memory
unfolding memory_of
returns-clause-memory c =
    let of_bits : List (ℕ → ℕ → ℕ) → BitMemory = λ bits. record { bit = λ set. get_or bits set no_bits; winner = c.args.self.now.winner } in
    ap of_bits (map-set_same row_bit c.args.self.now.sets.items c.from.result c.gather.new.self c.index_mut.result.now (c.gather.ensures.bits ∙ ap row_bit c.index_mut.ensures.value))

pub returns-clause-held : goal.returns-clause-held
unfolding room_of
returns-clause-held c =
    let sets = c.args.self.now.sets.items in
    ap (λ k. get_or (map room_word (set sets k c.gather.new.self)) c.args.set no_words c.args.position) c.from.ensures
    ∙ ap (λ words. words c.args.position) (entry_new room_word sets c.args.set c.gather.new.self no_words (omega (arith, c.requires.0, length-map sets shape_of_rows)))
    ∙ c.gather.ensures.held

pub returns-clause-others : goal.returns-clause-others
unfolding room_of
returns-clause-others c = λ s p apart.
    let sets = c.args.self.now.sets.items in
    let within : c.args.set < length sets = omega (arith, c.requires.0, length-map sets shape_of_rows) in
    let old : room_word c.index_mut.result.now ≡ get_or (map room_word sets) c.args.set no_words =
    entry room_word sets c.from.result c.index_mut.result.now no_words (omega arith) c.index_mut.ensures.value ∙ ap (λ k. get_or (map room_word sets) k no_words) c.from.ensures in
    ap (λ k. get_or (map room_word (set sets k c.gather.new.self)) s no_words p) c.from.ensures
    ∙ elim (cases_eq s c.args.set) [
      | inr n ↦ ap (λ words. words p) (entry_other room_word sets c.args.set c.gather.new.self no_words s n)
      | inl e ↦
          ap (λ k. get_or (map room_word (set sets c.args.set c.gather.new.self)) k no_words p) e
          ∙ ap (λ words. words p) (entry_new room_word sets c.args.set c.gather.new.self no_words within)
          ∙ c.gather.ensures.others p (elim apart [ inl n ↦ absurd (n e) | inr n ↦ n ])
          ∙ ap (λ words. words p) old ∙ ap (λ k. get_or (map room_word sets) k no_words p) (sym e)
    ]
