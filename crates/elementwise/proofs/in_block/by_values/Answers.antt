use Rattle.std.proofs.Common.{map}
use Rattle.block_store.specs.Stored.{shape_of_plan}
use Rattle.elementwise.proofs.Written.{given_words}
use Rattle.elementwise.proofs.in_block.by_values.Goals as goal

pub returns : goal.returns
returns c =
    given_words (map shape_of_plan c.args.plans.now) c.args.instr.now c.args.args.now c.args.k c.args.to.run c.args.to.always c.plan_of.result.now.geometry c.plan_of.result.now.bits
    c.taking_lanes-lanes.result c.words_given-words.result c.args.block.now.planes.items c.put_words.new.block.planes.items
    c.requires.run c.requires.always c.plan_of.ensures.extents c.plan_of.ensures.bits c.put_words.ensures c.taking_lanes-lanes.ensures c.words_given-words.ensures
