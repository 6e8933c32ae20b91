use Rattle.std.proofs.Common.{◌+◌, List, map, length, ◌∙◌, ap, sym, subst, arith}
use Rattle.std.proofs.lemmas.List.{length-map}
use Rattle.vp_sets.specs.Blocks.{block_count}
use Rattle.paris_code.specs.Checking.{checked_set}
use Rattle.paris_code.specs.Meaning.{bad_or_nothing}
use Rattle.paris_code.specs.Shapes.{bits_at, extents_at}
use Rattle.block_store.specs.declared.set.SetPlan.{SetPlan}
use Rattle.block_store.specs.Planes.{HasPlanes}
use Rattle.block_store.specs.Stored.{shape_of_plan, shapes_in, memory_in}
use Rattle.block_store.proofs.Stores.{held}
use Rattle.elementwise.proofs.Failing.{Looked, check_reply, checked_blocks, checked_exists, none_fails, least_fails}
use Rattle.elementwise.proofs.checks.check.Goals as goal

pub index-set-requires : goal.index-set-requires
index-set-requires g c =
    omega (arith, checked_exists (shapes_in c.args.store.now) c.args.instr.now c.args.args.now c.requires.can c.requires.check, c.from.ensures, c.checked_set.ensures, c.requires.whole.count)

pub find-requires-clause-exists : goal.find-requires-clause-exists
find-requires-clause-exists g c κs live =
    omega (arith, checked_exists (shapes_in c.args.store.now) c.args.instr.now c.args.args.now c.requires.can c.requires.check, length-map c.args.store.now.plans.items shape_of_plan, ap length c.deref.ensures.value)

pub find-requires-clause-few : goal.find-requires-clause-few
find-requires-clause-few g c κs live =
    let shapes = shapes_in c.args.store.now in
    let instr = c.args.instr.now in
    let args = c.args.args.now in
    let sets = c.args.store.now.sets.items in
    (checked_blocks shapes instr args sets c.index-set.result.now c.from.result c.requires.can c.requires.check c.requires.whole (c.from.ensures ∙ c.checked_set.ensures) c.index-set.ensures).0

pub find-requires-clause-count : goal.find-requires-clause-count
find-requires-clause-count g c κs live =
    let shapes = shapes_in c.args.store.now in
    let instr = c.args.instr.now in
    let args = c.args.args.now in
    let sets = c.args.store.now.sets.items in
    (checked_blocks shapes instr args sets c.index-set.result.now c.from.result c.requires.can c.requires.check c.requires.whole (c.from.ensures ∙ c.checked_set.ensures) c.index-set.ensures).1
    ∙ ap (λ (plans : List SetPlan). block_count (extents_at (map shape_of_plan plans) (checked_set instr))) (sym c.deref.ensures.value)

pub find-requires-clause-planes : goal.find-requires-clause-planes
find-requires-clause-planes g c κs live =
    let shapes = shapes_in c.args.store.now in
    let instr = c.args.instr.now in
    let args = c.args.args.now in
    let sets = c.args.store.now.sets.items in
    subst (λ (plans : List SetPlan). HasPlanes (bits_at (map shape_of_plan plans) (checked_set instr) + 2) c.index-set.result.now.blocks.items) (sym c.deref.ensures.value)
    (checked_blocks shapes instr args sets c.index-set.result.now c.from.result c.requires.can c.requires.check c.requires.whole (c.from.ensures ∙ c.checked_set.ensures) c.index-set.ensures).2

pub find-requires-clause-room : goal.find-requires-clause-room
find-requires-clause-room g c κs live =
    let shapes = shapes_in c.args.store.now in
    let instr = c.args.instr.now in
    let args = c.args.args.now in
    let sets = c.args.store.now.sets.items in
    let exists = checked_exists shapes instr args c.requires.can c.requires.check in
    let same = held shapes sets (checked_set instr) c.from.result c.index-set.result.now c.requires.whole exists (c.from.ensures ∙ c.checked_set.ensures) c.index-set.ensures in
    omega (arith, ap length same, c.requires.room (checked_set instr) (omega (arith, exists, length-map c.args.store.now.plans.items shape_of_plan)))

pub returns-in-None-clause-reply : goal.returns-in-None-clause-reply
returns-in-None-clause-reply g c w =
    let shapes = shapes_in c.args.store.now in
    let instr = c.args.instr.now in
    let args = c.args.args.now in
    let sets = c.args.store.now.sets.items in
    let set = c.index-set.result.now in
    let cells = c.find.new.room.cells.items in
    let fits = held shapes sets (checked_set instr) c.from.result set c.requires.whole (checked_exists shapes instr args c.requires.can c.requires.check) (c.from.ensures ∙ c.checked_set.ensures) c.index-set.ensures in
    sym (check_reply shapes instr args (memory_in c.args.store.now w) c.requires.check
    ∙ ap bad_or_nothing (none_fails shapes instr args sets set c.from.result cells w c.requires.can c.requires.check c.requires.whole (c.from.ensures ∙ c.checked_set.ensures) c.index-set.ensures
    (omega (arith, ap length fits, c.requires.room (checked_set instr) (omega (arith, checked_exists shapes instr args c.requires.can c.requires.check, length-map c.args.store.now.plans.items shape_of_plan)), c.in-None.ensures.count))
    (subst (λ (plans : List SetPlan). Looked plans instr args set cells) c.deref.ensures.value c.in-None.ensures.each) c.in-None.ensures.least))

pub returns-in-Some-clause-reply : goal.returns-in-Some-clause-reply
returns-in-Some-clause-reply g c w =
    let shapes = shapes_in c.args.store.now in
    let instr = c.args.instr.now in
    let args = c.args.args.now in
    let sets = c.args.store.now.sets.items in
    let set = c.index-set.result.now in
    let cells = c.find.new.room.cells.items in
    let fits = held shapes sets (checked_set instr) c.from.result set c.requires.whole (checked_exists shapes instr args c.requires.can c.requires.check) (c.from.ensures ∙ c.checked_set.ensures) c.index-set.ensures in
    sym (check_reply shapes instr args (memory_in c.args.store.now w) c.requires.check
    ∙ ap bad_or_nothing (least_fails shapes instr args sets set c.from.result cells w c.requires.can c.requires.check c.requires.whole (c.from.ensures ∙ c.checked_set.ensures) c.index-set.ensures
    (omega (arith, ap length fits, c.requires.room (checked_set instr) (omega (arith, checked_exists shapes instr args c.requires.can c.requires.check, length-map c.args.store.now.plans.items shape_of_plan)), c.in-Some.ensures.count))
    (subst (λ (plans : List SetPlan). Looked plans instr args set cells) c.deref.ensures.value c.in-Some.ensures.each) c.in-Some.position c.in-Some.ensures.least.0 c.in-Some.ensures.least.1 c.in-Some.ensures.least.2))
