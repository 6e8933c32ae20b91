use Rattle.std.proofs.Common.{map, take}
use Rattle.block_store.specs.Stored.{shape_of_plan}
use Rattle.instruction_runs.specs.Passes.{held_in, AllDoneInBlock}
use Rattle.instruction_runs.proofs.settling.do_all_in_block.Given as goal

-- the instructions so far are done
abbrev pub invariant-deferred : goal.invariant-deferred
invariant-deferred l = AllDoneInBlock (map shape_of_plan l.fn.pass.plans.now) (held_in l.fn.pass.held.now) l.fn.pass.batch.now.set (take l.d-index l.fn.pass.batch.now.deferred.items) l.k l.fn.block.planes.items l.block.planes.items
