use Rattle.std.proofs.Common.{◌≡◌, true, [], map, subst, sym}
use Rattle.block_store.specs.Stored.{shape_of_plan}
use Rattle.paris_code.specs.declared.instr.Instr.{Instr}
use Rattle.phase_meaning.specs.Apply.{CanApply}
use Rattle.instruction_runs.specs.Waiting.{can_wait}
use Rattle.instruction_runs.proofs.Deferrals.{deferral, stands_for}
use Rattle.instruction_runs.proofs.deferring.defer.Goals as goal

pub work_of-requires-clause-can : goal.work_of-requires-clause-can
work_of-requires-clause-can c =
    let shapes = map shape_of_plan c.args.plans.now in
    let made = c.in_ok-instr.ensures in
    subst (λ (i : Instr). CanApply shapes i []) (sym made.1) (stands_for shapes c.args.instr.now c.args.args.now c.requires.can made.0).can

pub field_written-writes-requires : goal.field_written-writes-requires
field_written-writes-requires c =
    let shapes = map shape_of_plan c.args.plans.now in
    let made = c.in_ok-instr.ensures in
    subst (λ (i : Instr). can_wait i ≡ true) (sym made.1) (stands_for shapes c.args.instr.now c.args.args.now c.requires.can made.0).waits

pub returns : goal.returns
returns c =
    let made = c.in_ok-instr.ensures in
    deferral (map shape_of_plan c.args.plans.now) c.args.instr.now c.args.args.now c.in_ok-instr.instr c.in_ok-work.work c.field_written-writes.result
    c.requires.can made.0 made.1 c.in_ok-work.ensures c.field_written-writes.ensures
