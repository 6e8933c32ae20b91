use Rattle.std.proofs.Common.{◌≡◌, ℕ, ◌+◌, ◌<◌, List, Option, length, map, get_or, ap, refl, subst, ◌∙◌, arith}
use Rattle.std.proofs.Math.ListN.{set}
use Rattle.std.proofs.Math.Seq.{map-set_same}
use Rattle.std.proofs.lemmas.List.{length-map}
use Rattle.paris_code.specs.Shapes.{bits_at}
use Rattle.paris_code.specs.Writes.{written}
use Rattle.phase_gate.specs.Rows.{row_bit, room_word, memory_of, room_of, no_bits, no_words, shape_of_rows, sets_of}
use Rattle.phase_gate.proofs.RowSets.{bits_of_rows}
use Rattle.phase_meaning.proofs.Entries.{entry, entry_new, entry_other}
use Rattle.phase_meaning.proofs.RunWrites.{set_written}
use Rattle.phase_gate.proofs.row_phases.RowPhases.write.Goals as goal

pub returns-clause-bits : goal.returns-clause-bits
unfolding memory_of written
returns-clause-bits c =
    let sets = c.args.self.now.sets.items in
    let run = c.args.run in
    let new = c.set_number.new.self in
    let within : run.set < length sets = omega (arith, c.requires.position.0, length-map sets shape_of_rows) in
    let is : c.index_mut.result.now ≡ get_or sets run.set c.index_mut.result.now = c.index_mut.ensures.value ∙ ap (λ k. get_or sets k c.index_mut.result.now) c.from.ensures in
    let old : row_bit c.index_mut.result.now ≡ get_or (map row_bit sets) run.set no_bits = entry row_bit sets run.set c.index_mut.result.now no_bits within is in
    let here : get_or (map row_bit (set sets run.set new)) run.set no_bits ≡ row_bit new = entry_new row_bit sets run.set new no_bits within in
    let most : c.index_mut.result.now.bits ≡ bits_at (sets_of c.args.self.now) run.set = bits_of_rows sets run.set c.index_mut.result.now within is in
    record {
      bits = λ s p i in_sets in_set bound.
          ap (λ k. get_or (map row_bit (set sets k new)) s no_bits p i) c.from.ensures
          ∙ set_written (λ k. get_or (map row_bit sets) k no_bits) (λ k. get_or (map row_bit (set sets run.set new)) k no_bits) run c.args.position c.args.n (bits_at (sets_of c.args.self.now) run.set + 2)
          (λ j q b n. ap (λ bits. bits q b) (entry_other row_bit sets run.set new no_bits j n))
          (λ j l h. ap (λ bits. bits c.args.position j) here ∙ c.set_number.ensures.inside j l h)
          (λ q j b apart. ap (λ bits. bits q j) here ∙ c.set_number.ensures.outside q j (omega arith) apart ∙ ap (λ bits. bits q j) old)
          s p i (λ e. subst (λ k. i < bits_at (sets_of c.args.self.now) k + 2) e bound);
      winner = refl;
    }

pub returns-clause-room : goal.returns-clause-room
unfolding room_of
returns-clause-room c =
    let of_words : List (ℕ → Option ℕ) → ℕ → ℕ → Option ℕ = λ words set. get_or words set no_words in
    ap of_words (map-set_same room_word c.args.self.now.sets.items c.from.result c.set_number.new.self c.index_mut.result.now (c.set_number.ensures.room ∙ ap room_word c.index_mut.ensures.value))
