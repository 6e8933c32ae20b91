-- The senders of a set, as the planes of its blocks hold them.
use Rattle.std.specs.Prelude.{◌≡◌, ℕ, ◌+◌, ◌/◌, ◌%◌, ◌<◌, ◌≤◌, Bool, false, true, ◌&&◌, ◌==◌, nat_lt, List, length, Option, Some, None}
use Rattle.bit_planes.specs.declared.plane.Plane.{Plane}
use Rattle.bit_planes.specs.Bits.{bit}
use Rattle.bit_planes.specs.Planes.{plane_at, number}
use Rattle.combine_core.specs.declared.message.Message.{Message}
use Rattle.block_store.specs.Planes.{planes_at, HasPlanes}
use Rattle.combine_send.specs.declared.senders.Senders.{Senders}

-- the slot of a sender with this address and this number, where there are so many positions to send to
abbrev pub Sends : Bool → ℕ → ℕ → ℕ → ℕ → Option Message → Type 0
Sends active sender address number count None = (active && nat_lt address count) ≡ false
Sends active sender address number count (Some message) =
    (active ≡ true) × (message.sender ≡ sender) × (message.target ≡ address) × (message.value ≡ number) × (message.target < count)

-- the slot of a sender, by the planes of its block
abbrev pub SendsFrom : Senders → List Plane → ℕ → Option Message → Type 0
SendsFrom senders planes s slot =
    let lane = s % 512 in
    Sends (bit (plane_at planes senders.context) lane == 1) s (number planes senders.address.offset senders.address.len lane)
    (number planes senders.source.offset senders.source.len lane) senders.targets slot

abbrev pub IsSlotOf : Senders → ℕ → Option Message → Type 0
IsSlotOf senders s slot = SendsFrom senders (planes_at senders.blocks.now (s / 512)) s slot

-- each block has the planes that are read, and there are few
pub record CanRead (senders : Senders) : Type 0 where
  pub address : (1 ≤ senders.address.len) × (senders.address.len ≤ 32)
  pub source : (1 ≤ senders.source.len) × (senders.source.len ≤ 32)
  pub addresses : HasPlanes (senders.address.offset + senders.address.len) senders.blocks.now
  pub sources : HasPlanes (senders.source.offset + senders.source.len) senders.blocks.now
  pub contexts : HasPlanes (senders.context + 1) senders.blocks.now
  pub some : 1 ≤ length senders.blocks.now
  pub few : length senders.blocks.now ≤ 2048
