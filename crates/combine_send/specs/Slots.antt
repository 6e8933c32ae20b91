-- The slots of a send: one for each sender, with its message where it is active and names a processor.
use Rattle.std.specs.Prelude.{◌≡◌, ℕ, ◌+◌, ◌<◌, slice_index_or, true, false, ◌&&◌, nat_lt, List, length, Option, Some, None}
use Rattle.cstar_base.specs.declared.operators.Winner.{Winner}
use Rattle.cstar_base.specs.declared.operators.Winner.TheVariants as W
use Rattle.combine_core.specs.declared.message.Message.{Message}
use Rattle.combine_core.specs.declared.kind.Kind.{Kind}
use Rattle.combine_core.specs.declared.kind.Kind.TheVariants as K
use Rattle.paris_code.specs.declared.operands.Field.{Field}
use Rattle.paris_code.specs.declared.operands.Reduction.{Reduction}
use Rattle.paris_code.specs.declared.operands.Reduction.TheVariants as R
use Rattle.paris_code.specs.Memory.{BitMemory, field_number, is_active}
use Rattle.paris_code.specs.Shapes.{SetShape}

-- a sender's slot
abbrev pub IsSlot : List SetShape → BitMemory → Field → Field → ℕ → ℕ → Option Message → Type 0
IsSlot shapes m address source count s None = (is_active shapes m address.set s && nat_lt (field_number m address s) count) ≡ false
IsSlot shapes m address source count s (Some message) =
    (is_active shapes m address.set s ≡ true) × (message.sender ≡ s) × (message.target ≡ field_number m address s) × (message.value ≡ field_number m source s) × (message.target < count)

-- the slots of the senders from one on
abbrev pub AreSlotsFrom : List SetShape → BitMemory → Field → Field → ℕ → ℕ → List (Option Message) → Type 0
AreSlotsFrom shapes m address source count from slots = (k : ℕ) → k < length slots → IsSlot shapes m address source count (from + k) (slice_index_or slots k None)

-- the kind of board that a combiner asks for
abbrev pub kind_of : Reduction → Kind
kind_of R.SAdd = K.Add
kind_of R.Logand = K.And
kind_of R.Logior = K.Or
kind_of R.Logxor = K.Xor
kind_of R.SMin = K.Min true
kind_of R.UMin = K.Min false
kind_of R.SMax = K.Max true
kind_of R.UMax = K.Max false

-- the kind of board that a send asks for: where it has no combiner, one that keeps the winner's message
abbrev pub kind_for : Option Reduction → Winner → Kind
kind_for (Some c) winner = kind_of c
kind_for None W.High = K.Last
kind_for None W.Low = K.First
