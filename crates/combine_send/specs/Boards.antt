-- What a send puts on a board.
use Rattle.std.specs.Prelude.{◌≡◌, ℕ, ◌-◌, ◌^◌, ◌<◌, List, length, slice_index, Option}
use Rattle.cstar_base.specs.Numbers.{residue}
use Rattle.combine_core.specs.declared.message.Message.{Message}
use Rattle.combine_core.specs.Cells.{RisesFrom, TargetsBelow}
use Rattle.combine_board.specs.Values.{Plan}
use Rattle.paris_code.specs.Memory.{BitMemory, whole_number, processors}
use Rattle.paris_code.specs.Shapes.{SetShape}
use Rattle.combine_send.specs.declared.ready.Ready.{Ready}
use Rattle.combine_send.specs.declared.ready.Ready.TheVariants as R
use Rattle.combine_send.specs.declared.send.Send.{Send}
use Rattle.combine_send.specs.Slots.{AreSlotsFrom, kind_for}

-- home words and slots that can be put on a board
abbrev pub CanLoad : List ℕ → List (Option Message) → Type 0
CanLoad home slots = RisesFrom 0 slots × TargetsBelow (length home) slots × (length slots < 2 ^ 32 - 1) × (length home < 2 ^ 32 - 1)

-- what a board that is ready is about
abbrev pub plan_of : Ready → Plan
plan_of (R.Add it) = it.board.plan
plan_of (R.And it) = it.board.plan
plan_of (R.Or it) = it.board.plan
plan_of (R.Xor it) = it.board.plan
plan_of (R.Min it) = it.board.plan
plan_of (R.Max it) = it.board.plan
plan_of (R.Last it) = it.board.plan
plan_of (R.First it) = it.board.plan

-- a board about a send: a slot for each sender, and for each target its own number as a word
pub record IsPlanOf (shapes : List SetShape) (m : BitMemory) (send : Send) (plan : Plan) : Type 0 where
  pub kind : plan.kind ≡ kind_for send.combiner m.winner
  pub senders : length plan.slots ≡ processors shapes send.address.set
  pub slots : AreSlotsFrom shapes m send.address send.source (processors shapes send.dest.set) 0 plan.slots
  pub targets : length plan.home ≡ processors shapes send.dest.set
  pub home : (t : ℕ) → t < processors shapes send.dest.set → slice_index plan.home t ≡ residue 32 (whole_number m send.kind.signed send.dest t)
