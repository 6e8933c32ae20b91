use Rattle.std.proofs.Common.{◌≡◌, ◌≤◌, List, All, map, take, subst, arith}
use Rattle.std.proofs.lemmas.Grind.{common_steps}
use Rattle.paris_code.specs.Shapes.{SetShape}
use Rattle.paris_code.specs.Sound.{IsShape}
use Rattle.vp_sets.specs.Blocks.{block_count}
use Rattle.block_store.specs.declared.set.SetPlan.{SetPlan}
use Rattle.block_store.specs.Fresh.{AreFreshSets}
use Rattle.block_store.specs.Stored.{shape_of_plan}
use Rattle.block_store.proofs.Fresh.{fresh_whole, fresh_bits, few_cells, all_shapes}
use Rattle.block_store.proofs.store.Store.new.Goals as goal

pub returns-clause-whole : goal.returns-clause-whole
returns-clause-whole c =
    let same : map shape_of_plan (take c.plans.plan-index c.deref-plan-items.result.now) ≡ map shape_of_plan c.args.plans.items = grind (arith, common_steps) in
    let plans = c.args.plans.items in
    fresh_whole (map shape_of_plan plans) c.plans.sets.items (all_shapes IsShape plans c.requires) (subst (λ (shapes : List SetShape). AreFreshSets shapes c.plans.sets.items) same c.plans.invariant)

pub returns-clause-room : goal.returns-clause-room
returns-clause-room c = λ set b.
    let same : map shape_of_plan (take c.plans.plan-index c.deref-plan-items.result.now) ≡ map shape_of_plan c.args.plans.items = grind (arith, common_steps) in
    let most = c.most_blocks.result in
    let few = few_cells c.args.plans.items c.plans.sets.items most (subst (λ (shapes : List SetShape). AreFreshSets shapes c.plans.sets.items) same c.plans.invariant)
    (subst (λ (plans : List SetPlan). All (λ plan. block_count plan.geometry ≤ most) plans) c.as_slice.ensures.value c.most_blocks.ensures) set b in
    omega (arith, few, c.in_ok-room.ensures)

pub returns-clause-memory : goal.returns-clause-memory
returns-clause-memory c =
    let same : map shape_of_plan (take c.plans.plan-index c.deref-plan-items.result.now) ≡ map shape_of_plan c.args.plans.items = grind (arith, common_steps) in
    fresh_bits (map shape_of_plan c.args.plans.items) c.plans.sets.items (subst (λ (shapes : List SetShape). AreFreshSets shapes c.plans.sets.items) same c.plans.invariant)
