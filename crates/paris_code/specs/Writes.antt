-- A write: a run of bits of some processors takes a number at each.
use Rattle.std.specs.Prelude.{ℕ, Bool, ◌+◌, ◌-◌, ◌==◌, ◌&&◌, nat_le, nat_lt, if◌then◌else◌, Option, Some, None}
use Rattle.std.specs.Int.{bit_at}
use Rattle.paris_code.specs.declared.operands.Field.{Field}
use Rattle.paris_code.specs.Memory.{BitMemory}

-- the bits that are written, the processors at which they are, and the number that each of these
-- bit runs becomes, modulo 2 to its length
pub record Write : Type 0 where
  pub run : Field
  pub writes : ℕ → Bool
  pub value : ℕ → ℕ

-- a bit of a set lies in a run
unfoldable pub covers : Field → ℕ → ℕ → Bool
covers f set index = set == f.set && (nat_le f.offset index && nat_lt index (f.offset + f.len))

-- the memory behind a write; every other bit stays, and so does the winner
unfoldable pub written : Write → BitMemory → BitMemory
written w m = record {
  bit = λ set position index. if covers w.run set index && w.writes position then bit_at (w.value position) (index - w.run.offset) else m.bit set position index;
  winner = m.winner;
}

abbrev pub written_if : Option Write → BitMemory → BitMemory
written_if None m = m
written_if (Some w) m = written w m
