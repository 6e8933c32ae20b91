-- A send by one worker, who combines each message at once, in plain words.
use Rattle.std.specs.Prelude.{◌≡◌, ℕ, ◌+◌, ◌<◌, true, List, length, slice_index, slice_index_or, Option, None}
use Rattle.combine_core.specs.declared.kind.Kind.{Kind}
use Rattle.combine_core.specs.declared.message.Message.{Message}
use Rattle.combine_core.specs.Cells.{gathered}
use Rattle.combine_core.specs.Encodings.{encoded_home, decoded}
use Rattle.combine_core.specs.Folded.{folded}
use Rattle.combine_board.specs.Values.{Plan}
use Rattle.paris_code.specs.Memory.{BitMemory, processors}
use Rattle.paris_code.specs.Shapes.{SetShape, bits_at}
use Rattle.block_store.specs.declared.store.Store.{Store}
use Rattle.block_store.specs.Stored.{blocks_at, shapes_in}
use Rattle.combine_send.specs.declared.send.Send.{Send}
use Rattle.combine_send.specs.declared.senders.Senders.{Senders}
use Rattle.combine_send.specs.Boards.{IsPlanOf}
use Rattle.combine_send.specs.Senders.{IsSlotOf}

-- a cell that began as a, after all messages of these slots
abbrev pub after_all : Kind → ℕ → ℕ → List (Option Message) → ℕ
after_all kind t a slots = gathered kind (λ _. true) t 0 a slots

-- each cell has the messages of so many senders, from one on
pub record HasCombined (kind : Kind) (senders : Senders) (from count : ℕ) (old new : List ℕ) : Type 0 where
  pub slots : List (Option Message)
  pub each : length slots ≡ count
  pub are : (j : ℕ) → j < count → IsSlotOf senders (from + j) (slice_index_or slots j None)
  pub wide : length new ≡ length old
  pub cells : (t : ℕ) → t < length old → slice_index new t ≡ after_all kind t (slice_index old t) slots

-- each word is the home word with the messages of so many senders
pub record AreCombined (kind : Kind) (senders : Senders) (count : ℕ) (home new : List ℕ) : Type 0 where
  pub slots : List (Option Message)
  pub each : length slots ≡ count
  pub are : (j : ℕ) → j < count → IsSlotOf senders j (slice_index_or slots j None)
  pub wide : length new ≡ length home
  pub words : (t : ℕ) → t < length home → slice_index new t ≡ decoded kind (slice_index home t) (after_all kind t (encoded_home kind (slice_index home t)) slots)

-- the senders of a send, in its store
pub record AreSendersOf (store : Store) (send : Send) (senders : Senders) : Type 0 where
  pub blocks : senders.blocks.now ≡ blocks_at store.sets.items send.address.set
  pub context : senders.context ≡ bits_at (shapes_in store) send.address.set
  pub address : senders.address ≡ send.address
  pub source : senders.source ≡ send.source
  pub targets : senders.targets ≡ processors (shapes_in store) send.dest.set

-- the words that a board about the send would fold
pub record AreWordsOf (shapes : List SetShape) (m : BitMemory) (send : Send) (words : List ℕ) : Type 0 where
  pub plan : Plan
  pub is : IsPlanOf shapes m send plan
  pub wide : length words ≡ length plan.home
  pub folds : (t : ℕ) → t < length plan.home → slice_index words t ≡ folded plan.kind t (slice_index plan.home t) plan.slots
