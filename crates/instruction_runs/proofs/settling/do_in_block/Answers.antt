use Rattle.std.proofs.Common.{◌+◌, ◌<◌, ◌≤◌, length, map, sym, ◌∙◌, ap, subst}
use Rattle.vp_sets.specs.Blocks.{block_count}
use Rattle.paris_code.specs.Shapes.{bits_at, extents_at}
use Rattle.block_store.specs.Phases.{WrittenInBlock}
use Rattle.block_store.specs.Stored.{shape_of_plan}
use Rattle.elementwise.specs.Blocks.{block_memory}
use Rattle.instruction_runs.specs.declared.deferring.Work.{Work}
use Rattle.instruction_runs.specs.Passes.{held_in, write_of_work, PassFits}
use Rattle.instruction_runs.specs.Waiting.{set_of_work, IsShiftOf, IsWorkOf}
use Rattle.instruction_runs.proofs.Deferrals.{prepared_set}
use Rattle.instruction_runs.proofs.settling.do_in_block.Goals as goal

pub do_in_block-requires-clause-prepared : goal.do_in_block-requires-clause-prepared
do_in_block-requires-clause-prepared c =
    subst (λ (w : Work). IsWorkOf (map shape_of_plan c.args.pass.now.plans.now) c.args.d.now.instr w) c.in-Elementwise.is c.requires.ready.work

pub do_in_block-requires-clause-planes : goal.do_in_block-requires-clause-planes
do_in_block-requires-clause-planes c =
    let shapes = map shape_of_plan c.args.pass.now.plans.now in
    subst (λ s. bits_at shapes s + 2 ≤ length c.args.block.now.planes.items)
    (ap set_of_work c.in-Elementwise.is ∙ prepared_set shapes c.args.d.now.instr c.in-Elementwise.prepared c.requires.ready.can (subst (λ (w : Work). IsWorkOf shapes c.args.d.now.instr w) c.in-Elementwise.is c.requires.ready.work))
    c.requires.planes

pub do_in_block-requires-clause-block : goal.do_in_block-requires-clause-block
do_in_block-requires-clause-block c =
    let shapes = map shape_of_plan c.args.pass.now.plans.now in
    subst (λ s. c.args.k < block_count (extents_at shapes s))
    (ap set_of_work c.in-Elementwise.is ∙ prepared_set shapes c.args.d.now.instr c.in-Elementwise.prepared c.requires.ready.can (subst (λ (w : Work). IsWorkOf shapes c.args.d.now.instr w) c.in-Elementwise.is c.requires.ready.work))
    c.requires.block

pub returns-in-Elementwise : goal.returns-in-Elementwise
returns-in-Elementwise c =
    let shapes = map shape_of_plan c.args.pass.now.plans.now in
    let old = c.args.block.now.planes.items in
    subst (λ (w : Work). WrittenInBlock shapes (write_of_work shapes (held_in c.args.pass.now.held.now) c.args.d.now.instr (block_memory old) w) c.args.k old c.do_in_block.new.block.planes.items) (sym c.in-Elementwise.is) c.do_in_block.ensures

pub shift-requires-clause-dest : goal.shift-requires-clause-dest
shift-requires-clause-dest c =
    let shapes = map shape_of_plan c.args.pass.now.plans.now in
    let is : IsShiftOf shapes c.args.d.now.instr c.in-Shift.news c.in-Shift.step = subst (λ (w : Work). IsWorkOf shapes c.args.d.now.instr w) c.in-Shift.is c.requires.ready.work in
    is.dest

pub shift-requires-clause-together : goal.shift-requires-clause-together
shift-requires-clause-together c =
    let shapes = map shape_of_plan c.args.pass.now.plans.now in
    let is : IsShiftOf shapes c.args.d.now.instr c.in-Shift.news c.in-Shift.step = subst (λ (w : Work). IsWorkOf shapes c.args.d.now.instr w) c.in-Shift.is c.requires.ready.work in
    is.together

pub shift-requires-clause-lens : goal.shift-requires-clause-lens
shift-requires-clause-lens c =
    let shapes = map shape_of_plan c.args.pass.now.plans.now in
    let is : IsShiftOf shapes c.args.d.now.instr c.in-Shift.news c.in-Shift.step = subst (λ (w : Work). IsWorkOf shapes c.args.d.now.instr w) c.in-Shift.is c.requires.ready.work in
    is.lens

pub shift-requires-clause-leads : goal.shift-requires-clause-leads
shift-requires-clause-leads c =
    let shapes = map shape_of_plan c.args.pass.now.plans.now in
    let is : IsShiftOf shapes c.args.d.now.instr c.in-Shift.news c.in-Shift.step = subst (λ (w : Work). IsWorkOf shapes c.args.d.now.instr w) c.in-Shift.is c.requires.ready.work in
    is.leads

pub shift-requires-clause-fits : goal.shift-requires-clause-fits
shift-requires-clause-fits c =
    let pass = c.args.pass.now in
    subst (λ s. PassFits (map shape_of_plan pass.plans.now) s pass.held.now) (ap set_of_work c.in-Shift.is) c.requires.fits

pub shift-requires-clause-planes : goal.shift-requires-clause-planes
shift-requires-clause-planes c =
    subst (λ s. bits_at (map shape_of_plan c.args.pass.now.plans.now) s + 2 ≤ length c.args.block.now.planes.items) (ap set_of_work c.in-Shift.is) c.requires.planes

pub shift-requires-clause-block : goal.shift-requires-clause-block
shift-requires-clause-block c =
    subst (λ s. c.args.k < block_count (extents_at (map shape_of_plan c.args.pass.now.plans.now) s)) (ap set_of_work c.in-Shift.is) c.requires.block

pub returns-in-Shift : goal.returns-in-Shift
returns-in-Shift c =
    let shapes = map shape_of_plan c.args.pass.now.plans.now in
    let old = c.args.block.now.planes.items in
    subst (λ (w : Work). WrittenInBlock shapes (write_of_work shapes (held_in c.args.pass.now.held.now) c.args.d.now.instr (block_memory old) w) c.args.k old c.shift.new.block.planes.items) (sym c.in-Shift.is) (c.shift.ensures c.args.d.now.instr)
