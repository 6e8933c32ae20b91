-- What doing an instruction is, on a machine and on its store.
use Rattle.std.specs.Prelude.{◌≡◌, ℕ, List}
use Rattle.block_store.specs.declared.store.Store.{Store}
use Rattle.block_store.specs.Stored.{HasRoom, IsWhole, memory_in, shapes_in}
use Rattle.cstar_base.specs.declared.operators.Winner.{Winner}
use Rattle.paris_code.specs.declared.instr.Instr.{Instr}
use Rattle.paris_code.specs.declared.program.Reply.{Reply}
use Rattle.paris_code.specs.Meaning.{Means}
use Rattle.paris_code.specs.Memory.{SameBits}
use Rattle.phase_meaning.specs.Apply.{CanApply, ReplyFits}
use Rattle.paris_phases.specs.declared.machine.Machine.{Machine}
use Rattle.paris_phases.specs.Machines.{AllReady, IsSettled, memory_of, sets_of}

-- the store is whole, has its room, and its sets can do the instruction
pub record CanDoNow (store : Store) (instr : Instr) (args : List ℕ) : Type 0 where
  pub whole : IsWhole store
  pub room : HasRoom store
  pub can : CanApply (shapes_in store) instr args

-- what the instruction left, with its reply: such a store again, with the bits that the instruction
-- means where of colliding senders this one wins
pub record DidNow (old : Store) (instr : Instr) (args : List ℕ) (winner : Winner) (new : Store) (reply : Reply) : Type 0 where
  pub whole : IsWhole new
  pub room : HasRoom new
  pub shapes : shapes_in new ≡ shapes_in old
  pub fits : ReplyFits instr reply
  pub meaning : Means (shapes_in old) instr args (memory_in old winner) (memory_in new winner) reply

-- those that wait are ready, and the machine's sets can do the instruction
pub record CanDo (machine : Machine) (instr : Instr) (args : List ℕ) : Type 0 where
  pub ready : AllReady machine
  pub can : CanApply (sets_of machine) instr args

-- what the instruction left, with its reply, whether it is done or waits: the memory that it means
-- where of colliding senders this one wins
pub record Did (old : Machine) (instr : Instr) (args : List ℕ) (winner : Winner) (new : Machine) (reply : Reply) : Type 0 where
  pub ready : AllReady new
  pub shapes : sets_of new ≡ sets_of old
  pub fits : ReplyFits instr reply
  pub meaning : Means (sets_of old) instr args (memory_of old winner) (memory_of new winner) reply

-- none waits any more, and that changed no bit
pub record Settled (old new : Machine) : Type 0 where
  pub settled : IsSettled new
  pub ready : AllReady new
  pub shapes : sets_of new ≡ sets_of old
  pub memory : (winner : Winner) → SameBits (sets_of old) (memory_of new winner) (memory_of old winner)
