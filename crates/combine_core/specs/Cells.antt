-- Slots of messages, and what a cell holds once some of them are delivered.
use Rattle.std.specs.Prelude.{ℕ, suc, Bool, ◌+◌, ◌<◌, ◌≤◌, ◌==◌, ◌&&◌, if◌then◌else◌, List, [], ◌∷◌, All, Option, Some, None, IfSome}
use Rattle.combine_core.specs.declared.kind.Kind.{Kind}
use Rattle.combine_core.specs.declared.message.Message.{Message}
use Rattle.combine_core.specs.Encodings.{encoded, joined}

-- the number that a message joins to its target's cell
abbrev pub message_word : Kind → Message → ℕ
message_word k m = encoded k m.sender m.value

-- the cell of target t after one slot, whose message counts where it is here
abbrev pub taken : Kind → Bool → ℕ → ℕ → Option Message → ℕ
taken k here t a None = a
taken k here t a (Some m) = if here && m.target == t then joined k a (message_word k m) else a

-- the cell of target t, begun as a, after the messages of those slots that d picks; the first slot has number i
abbrev pub gathered : Kind → (ℕ → Bool) → ℕ → ℕ → ℕ → List (Option Message) → ℕ
gathered k d t i a [] = a
gathered k d t i a (o ∷ os) = gathered k d t (suc i) (taken k (d i) t a o) os

abbrev pub with_value : ℕ → Option Message → List ℕ → List ℕ
with_value t None vs = vs
with_value t (Some m) vs = if m.target == t then m.value ∷ vs else vs

-- the values sent to target t, in the order of the slots
abbrev pub values_to : ℕ → List (Option Message) → List ℕ
values_to t [] = []
values_to t (o ∷ os) = with_value t o (values_to t os)

-- the senders rise from slot to slot, and each is at least low
abbrev pub RisesFrom : ℕ → List (Option Message) → Type 0
RisesFrom low [] = Unit {0}
RisesFrom low (None ∷ os) = RisesFrom low os
RisesFrom low (Some m ∷ os) = (low ≤ m.sender) × RisesFrom (m.sender + 1) os

-- each message has its target among n cells
abbrev pub TargetsBelow : ℕ → List (Option Message) → Type 0
TargetsBelow n os = All (λ o. IfSome o (λ m. m.target < n)) os
