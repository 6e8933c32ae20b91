use Rattle.block_store.specs.Stored.{blocks_in, shapes_in}
use Rattle.block_store.proofs.AllBlocks.{blocks_written, blocks_whole}
use Rattle.phase_gate.specs.Blocks.{at_block}
use Rattle.paris_phases.proofs.BlockRuns.{written_each}
use Rattle.paris_phases.proofs.block_runs.set_numbers.Goals as goal

pub returns-clause-whole : goal.returns-clause-whole
returns-clause-whole c =
    let shapes = shapes_in c.args.store.now in
    let run = c.args.run in
    let block = c.args.block in
    let words = c.args.words.now in
    let old = c.index_mut.result.now in
    let new = c.put_in_block.new.set in
    blocks_whole shapes c.args.store.now.sets.items old new c.from.result (at_block run block words) c.requires.whole c.requires.run.0 c.from.ensures c.index_mut.ensures.value c.put_in_block.ensures.count
    (λ j none _. written_each shapes run block words (blocks_in old) (blocks_in new) c.used_lanes-lanes.result c.plan.result.now.geometry c.plan.ensures.extents c.used_lanes-lanes.ensures c.put_in_block.ensures.written c.put_in_block.ensures.others j none)

pub returns-clause-memory : goal.returns-clause-memory
returns-clause-memory c =
    let shapes = shapes_in c.args.store.now in
    let run = c.args.run in
    let block = c.args.block in
    let words = c.args.words.now in
    let old = c.index_mut.result.now in
    let new = c.put_in_block.new.set in
    blocks_written shapes c.args.store.now.sets.items old new c.from.result (at_block run block words) c.requires.whole c.requires.run.0 c.from.ensures c.index_mut.ensures.value c.put_in_block.ensures.count
    (λ j none _. written_each shapes run block words (blocks_in old) (blocks_in new) c.used_lanes-lanes.result c.plan.result.now.geometry c.plan.ensures.extents c.used_lanes-lanes.ensures c.put_in_block.ensures.written c.put_in_block.ensures.others j none)
