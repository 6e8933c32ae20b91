use Rattle.std.proofs.Common.{◌≡◌, ℕ, ◌<◌, ◌≤◌, length}
use Rattle.std.specs.Prelude.{slice_index}
use Rattle.bit_planes.specs.Planes.{number}
use Rattle.cstar_base.specs.Numbers.{residue, number_of}
use Rattle.combine_send.proofs.home.extended_words.Given as goal

abbrev pub invariant-loop-i : goal.invariant-loop-i
invariant-loop-i l =
    (length l.words ≡ 512)
    × ((k : ℕ) → k < l.i → slice_index l.words k ≡ residue 32 (number_of l.field.len l.signed (number l.block.planes.items l.field.offset l.field.len k)))
    × ((k : ℕ) → l.i ≤ k → k < 512 → slice_index l.words k ≡ number l.block.planes.items l.field.offset l.field.len k)
