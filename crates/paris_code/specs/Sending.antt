-- The sends: each processor that an active sender names takes what its senders send, active or not.
use Rattle.std.specs.Prelude.{ℕ, Bool, true, ◌==◌, ◌&&◌, List, Option, Some, None, is_some, refl}
use Rattle.cstar_base.specs.declared.elem.Elem.{Elem}
use Rattle.cstar_base.specs.declared.operators.Winner.{Winner}
use Rattle.cstar_base.specs.declared.operators.Winner.TheVariants as W
use Rattle.cstar_base.specs.Folds.{fold_once}
use Rattle.cstar_base.specs.Numbers.{converted, residue}
use Rattle.paris_code.specs.declared.operands.Field.{Field}
use Rattle.paris_code.specs.declared.operands.Reduction.{Reduction}
use Rattle.paris_code.specs.Memory.{BitMemory, field_number, whole_number, is_active, processors}
use Rattle.paris_code.specs.Operators.{combiner_of}
use Rattle.cstar_base.specs.Orders.{fold_below, least_below, greatest_below}
use Rattle.paris_code.specs.Shapes.{SetShape}
use Rattle.paris_code.specs.Writes.{Write}

-- a processor is an active one whose address names the target
unfoldable pub sends_to : List SetShape → BitMemory → Field → ℕ → ℕ → Bool
sends_to shapes m address target sender =
    is_active shapes m address.set sender && (field_number m address sender == target)

-- the sender whose message a colliding send without a combiner keeps
abbrev pub winner_of : Winner → (ℕ → Bool) → ℕ → Option ℕ
winner_of W.High sends count = greatest_below sends count
winner_of W.Low sends count = least_below sends count

unfoldable pub winning_sender : List SetShape → BitMemory → Field → ℕ → Option ℕ
winning_sender shapes m address target =
    winner_of m.winner (λ sender. sends_to shapes m address target sender) (processors shapes address.set)

-- the number of a message, where there is one
abbrev pub message_or_zero : BitMemory → Field → Option ℕ → ℕ
message_or_zero m a None = 0
message_or_zero m a (Some sender) = field_number m a sender

-- each named target takes the number of its winning sender
abbrev pub overwriting : List SetShape → BitMemory → Field → Field → Field → Write
overwriting shapes m d address a = record {
  run = d;
  writes = λ target. is_some (winning_sender shapes m address target);
  value = λ target. message_or_zero m a (winning_sender shapes m address target);
}

-- words are numbers of 32 bits in two's complement
abbrev pub word_kind : Elem
word_kind = record { bits = 32; signed = true; kind = refl }

-- the fold over a target's senders in rising order, from its old value, at 32 bits
unfoldable pub combined : List SetShape → BitMemory → Reduction → Field → Bool → Field → Field → ℕ → ℕ
combined shapes m c d signed address a target =
    fold_below (λ total n. fold_once (combiner_of c).0 (combiner_of c).1 total n) (λ sender. sends_to shapes m address target sender) (λ sender. field_number m a sender)
    (residue 32 (whole_number m signed d target)) (processors shapes address.set)

-- each named target becomes that fold, converted to the type of the destination
abbrev pub combining : List SetShape → BitMemory → Reduction → Field → Elem → Field → Field → Write
combining shapes m c d kind address a = record {
  run = d;
  writes = λ target. is_some (winning_sender shapes m address target);
  value = λ target. converted kind word_kind (combined shapes m c d kind.signed address a target);
}
