use Rattle.std.proofs.Common.{List, All, ◌≤◌, ap, length, subst, sym, arith}
use Rattle.std.proofs.lemmas.List.{length-map}
use Rattle.block_store.specs.declared.set.BlockSet.{BlockSet}
use Rattle.block_store.specs.Stored.{shape_of_plan}
use Rattle.paris_code.specs.Shapes.{SetShape, shapes_of}
use Rattle.paris_phases.proofs.Cells.{few_at, few_each}
use Rattle.paris_phases.proofs.machine.store_of.Goals as goal

pub room_for-requires : goal.room_for-requires
room_for-requires c = record {
  few = subst (λ (sets : List BlockSet). All (λ set. length set.blocks.items ≤ 2048) sets) (sym c.as_slice.ensures.value) (few_each (shapes_of c.args.sound.now) c.args.sets.items c.requires);
}

pub returns-clause-room : goal.returns-clause-room
returns-clause-room c = λ set b.
    let plans = c.in_ok-plans.plans.items in
    let most = length c.in_ok-room.room.cells.items in
    let few = subst (λ (sets : List BlockSet). All (λ set. length set.blocks.items ≤ most) sets) c.as_slice.ensures.value c.in_ok-room.ensures in
    few_at c.args.sets.items most few set
    (omega (arith, c.requires.count, length-map plans shape_of_plan, ap (λ (shapes : List SetShape). length shapes) c.in_ok-plans.ensures.shapes))
