-- Sends: each target that an active position names takes what is sent to it, active or not.
use Rattle.std.specs.Prelude.{ℕ, Bool, ◌==◌, ◌&&◌, Option, Some, None}
use Rattle.cstar_base.specs.declared.elem.Elem.{Elem}
use Rattle.cstar_base.specs.declared.operators.Winner.{Winner}
use Rattle.cstar_base.specs.declared.operators.Winner.TheVariants as W
use Rattle.cstar_tree.specs.declared.syntax.AssignOp.{AssignOp}
use Rattle.cstar_tree.specs.declared.syntax.AssignOp.TheVariants as A
use Rattle.cstar_tree.specs.declared.typed.Variable.{Variable}
use Rattle.cstar_base.specs.Orders.{least_below, greatest_below, any_of}
use Rattle.source_meaning.specs.Reductions.{folded_into}
use Rattle.source_meaning.specs.State.{State, with_positions}

-- What a send is of: the positions that it has, which of them are active, their targets and what
-- they send.
pub record Send : Type 0 where
  pub count : ℕ
  pub active : ℕ → Bool
  pub to : ℕ → ℕ
  pub value : ℕ → ℕ

-- does a position send to a target
unfoldable pub sends_to : Send → ℕ → ℕ → Bool
sends_to send target sender = send.active sender && (send.to sender == target)

-- does any
unfoldable pub is_sent_to : Send → ℕ → Bool
is_sent_to send target = any_of (λ sender. sends_to send target sender) 0 send.count

-- the sender whose value a send without a combiner keeps: the one with the greatest number, or the
-- one with the least
unfoldable pub winning_sender : Winner → Send → ℕ → Option ℕ
winning_sender W.High send target = greatest_below (λ sender. sends_to send target sender) send.count
winning_sender W.Low send target = least_below (λ sender. sends_to send target sender) send.count

abbrev pub value_or : ℕ → (ℕ → ℕ) → Option ℕ → ℕ
value_or old value None = old
value_or old value (Some sender) = value sender

-- what a target becomes, from its old value: with `=` its winner's value, and with a combiner the
-- fold over its senders in rising order at the common type, converted to the type of the target
unfoldable pub received : Winner → AssignOp → Elem → Elem → Send → ℕ → ℕ → ℕ
received winner A.Set to from send old target = value_or old send.value (winning_sender winner send target)
received winner op to from send old target =
    folded_into op to from old (λ sender. sends_to send target sender) send.value send.count

-- the state behind a send into a variable, whose old values all count
unfoldable pub sent : AssignOp → Elem → Elem → Variable → Send → State → State
sent op to from x send st =
    with_positions x 0 (λ target. is_sent_to send target) (λ target. received st.winner op to from send (st.parallel x 0 target) target) st
