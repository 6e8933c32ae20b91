use Rattle.std.proofs.Common.{◌≡◌, ℕ, ◌*◌, ◌<◌, min, length}
use Rattle.std.specs.Prelude.{slice_index}
use Rattle.vp_sets.specs.Positions.{position_count}
use Rattle.cstar_base.specs.declared.operators.Winner.{Winner}
use Rattle.cstar_base.specs.Numbers.{residue}
use Rattle.paris_code.specs.Memory.{whole_number}
use Rattle.block_store.specs.Stored.{memory_in}
use Rattle.combine_send.proofs.home.home_words.Given as goal

-- the words of the blocks so far are held
abbrev pub invariant-loop-k : goal.invariant-loop-k
invariant-loop-k l =
    (length l.home.items ≡ min (512 * l.k) (position_count l.geometry))
    × ((w : Winner) (t : ℕ) → t < length l.home.items → slice_index l.home.items t ≡ residue 32 (whole_number (memory_in l.store w) l.signed l.field t))
