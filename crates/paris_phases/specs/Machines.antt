-- What a machine holds.
use Rattle.std.specs.Prelude.{◌≡◌, List, []}
use Rattle.block_store.specs.Stored.{memory_in, shapes_in}
use Rattle.cstar_base.specs.declared.operators.Winner.{Winner}
use Rattle.instruction_runs.specs.Waiting.{done_all, AreReady}
use Rattle.paris_code.specs.Memory.{BitMemory}
use Rattle.paris_code.specs.Shapes.{SetShape}
use Rattle.paris_phases.specs.declared.machine.Machine.{Machine}

abbrev pub sets_of : Machine → List SetShape
sets_of machine = shapes_in machine.store

-- the memory that all instructions so far have made, those that wait among them
abbrev pub memory_of : Machine → Winner → BitMemory
memory_of machine winner = done_all (sets_of machine) machine.batch.deferred.items (memory_in machine.store winner)

-- no instruction waits
abbrev pub IsSettled : Machine → Type 0
IsSettled machine = machine.batch.deferred.items ≡ []

-- those that wait are ready to be done
abbrev pub AllReady : Machine → Type 0
AllReady machine = AreReady (sets_of machine) machine.batch.set machine.batch.deferred.items
