use Rattle.std.proofs.Common.{◌≡◌, ℕ, ◌<◌, List, map, sym, ◌∙◌, ap, subst, arith}
use Rattle.bit_planes.specs.Bits.{bit}
use Rattle.bit_planes.specs.declared.plane.Plane.{Plane}
use Rattle.lane_kernels.specs.Kernels.{operand_of, IsWithin}
use Rattle.paris_code.specs.declared.operands.Field.{Field}
use Rattle.paris_code.specs.Shapes.{bits_at}
use Rattle.phase_meaning.proofs.FieldLemmas.{destination_runs}
use Rattle.block_store.specs.Stored.{shape_of_plan}
use Rattle.elementwise.specs.declared.planar.Work.{Work}
use Rattle.elementwise.specs.declared.ways.Way.{Way}
use Rattle.elementwise.specs.Moved.{moved_number, IsMovedWithin, IsMovedFor}
use Rattle.elementwise.specs.Planar.{gives, gives_work, kernel_number, IsKernelOf}
use Rattle.elementwise.specs.Relations.{relation_number}
use Rattle.elementwise.specs.Ways.{IsWayOf}
use Rattle.elementwise.proofs.Kernels.{kernel_done, lanes_done, none_done, relation_done}
use Rattle.elementwise.proofs.in_block.do_in_block.Goals as goal

pub returns-then-is_empty : goal.returns-then-is_empty
returns-then-is_empty c =
    none_done (map shape_of_plan c.args.plans.now) c.args.instr.now c.args.args.now c.args.k c.args.to.run c.args.to.always c.plan_of.result.now.geometry c.plan_of.result.now.bits
    c.taking_lanes-lanes.result c.args.block.now.planes.items c.requires.run c.requires.always c.plan_of.ensures.extents c.plan_of.ensures.bits
    (c.is_empty.ensures c.if-is_empty.true) c.taking_lanes-lanes.ensures

pub on_bits-value-requires-clause-a : goal.on_bits-value-requires-clause-a
on_bits-value-requires-clause-a c =
    let shapes = map shape_of_plan c.args.plans.now in
    let old = c.args.block.now.planes.items in
    let kernel = c.in-Kernel.kernel in
    let does : IsKernelOf shapes c.args.instr.now c.args.args.now kernel = subst (λ (w : Way). IsWayOf shapes c.args.instr.now c.args.args.now w) c.in-Kernel.is c.requires.way in
    subst (λ (m : List Plane). IsWithin kernel.a 1 m) (sym c.deref.ensures.value)
    (subst (λ n. IsWithin kernel.a n old) (sym (ap (λ (f : Field). f.len) c.requires.run) ∙ c.if-to-eq1.true) (does.a old c.requires.planes))

pub on_bits-value-requires-clause-b : goal.on_bits-value-requires-clause-b
on_bits-value-requires-clause-b c =
    let shapes = map shape_of_plan c.args.plans.now in
    let old = c.args.block.now.planes.items in
    let kernel = c.in-Kernel.kernel in
    let does : IsKernelOf shapes c.args.instr.now c.args.args.now kernel = subst (λ (w : Way). IsWayOf shapes c.args.instr.now c.args.args.now w) c.in-Kernel.is c.requires.way in
    subst (λ (m : List Plane). IsWithin kernel.b 1 m) (sym c.deref.ensures.value)
    (subst (λ n. IsWithin kernel.b n old) (sym (ap (λ (f : Field). f.len) c.requires.run) ∙ c.if-to-eq1.true) (does.b old c.requires.planes))

pub put_plane-requires : goal.put_plane-requires
put_plane-requires c =
    let shapes = map shape_of_plan c.args.plans.now in
    let d = destination_runs shapes c.args.instr.now c.args.args.now c.requires.can c.requires.elementwise in
    omega (arith, ap (λ (f : Field). f.offset) c.requires.run, d.0.1, d.0.3, ap (bits_at shapes) d.1, c.requires.planes)

pub returns-in-Planes : goal.returns-in-Planes
returns-in-Planes c =
    let shapes = map shape_of_plan c.args.plans.now in
    let old = c.args.block.now.planes.items in
    let kernel = c.in-Kernel.kernel in
    kernel_done shapes c.args.instr.now c.args.args.now c.args.k kernel c.args.to.run c.args.to.always c.plan_of.result.now.geometry c.plan_of.result.now.bits
    c.taking_lanes-lanes.result c.on_bits-value.result old c.put_plane.new.block.planes.items
    c.requires.run c.requires.always c.plan_of.ensures.extents c.plan_of.ensures.bits c.put_plane.ensures c.taking_lanes-lanes.ensures
    (λ i b. subst (λ (m : List Plane). bit c.on_bits-value.result i ≡ gives c.in-Planes.op 1 (operand_of kernel.a m 1 i) (operand_of kernel.b m 1 i)) c.deref.ensures.value (c.on_bits-value.ensures i b)
    ∙ ap (λ (w : Work). gives_work w 1 (operand_of kernel.a old 1 i) (operand_of kernel.b old 1 i)) (sym c.in-Planes.is))
    (sym (ap (λ (f : Field). f.len) c.requires.run) ∙ c.if-to-eq1.true)
    (subst (λ (w : Way). IsWayOf shapes c.args.instr.now c.args.args.now w) c.in-Kernel.is c.requires.way)

pub returns-then-can_work_in_place : goal.returns-then-can_work_in_place
returns-then-can_work_in_place c =
    let shapes = map shape_of_plan c.args.plans.now in
    let old = c.args.block.now.planes.items in
    let to = c.at-target in
    let does : IsKernelOf shapes c.args.instr.now c.args.args.now c.in-Kernel.kernel = subst (λ (w : Way). IsWayOf shapes c.args.instr.now c.args.args.now w) c.in-Kernel.is c.requires.way in
    lanes_done shapes c.args.instr.now c.args.args.now c.args.k (kernel_number c.in-Kernel.kernel old) c.args.to.run c.args.to.always c.plan_of.result.now.geometry c.plan_of.result.now.bits
    to.result c.taking_lanes-lanes.result old c.by_kernel.new.block.planes.items
    c.requires.run c.requires.always c.plan_of.ensures.extents c.plan_of.ensures.bits to.ensures.offset to.ensures.len to.ensures.lanes c.by_kernel.ensures c.taking_lanes-lanes.ensures
    (does.same old)

pub by_moving-requires-clause-field : goal.by_moving-requires-clause-field
by_moving-requires-clause-field c =
    let shapes = map shape_of_plan c.args.plans.now in
    let old = c.args.block.now.planes.items in
    let does : IsMovedFor shapes c.args.instr.now c.args.args.now c.in-Moved.moved = subst (λ (w : Way). IsWayOf shapes c.args.instr.now c.args.args.now w) c.in-Moved.is c.requires.way in
    c.can_work_in_place-in-Moved.ensures old c.if-can_work_in_place-2.true
    (subst (λ n. IsMovedWithin c.in-Moved.moved n old) (sym (c.at-target-in-Moved.ensures.len ∙ ap (λ (f : Field). f.len) c.requires.run)) (does.within old c.requires.planes))

pub returns-then-can_work_in_place-2 : goal.returns-then-can_work_in_place-2
returns-then-can_work_in_place-2 c =
    let shapes = map shape_of_plan c.args.plans.now in
    let old = c.args.block.now.planes.items in
    let to = c.at-target-in-Moved in
    let does : IsMovedFor shapes c.args.instr.now c.args.args.now c.in-Moved.moved = subst (λ (w : Way). IsWayOf shapes c.args.instr.now c.args.args.now w) c.in-Moved.is c.requires.way in
    lanes_done shapes c.args.instr.now c.args.args.now c.args.k (moved_number c.in-Moved.moved old) c.args.to.run c.args.to.always c.plan_of.result.now.geometry c.plan_of.result.now.bits
    to.result c.taking_lanes-lanes.result old c.by_moving.new.block.planes.items
    c.requires.run c.requires.always c.plan_of.ensures.extents c.plan_of.ensures.bits to.ensures.offset to.ensures.len to.ensures.lanes c.by_moving.ensures c.taking_lanes-lanes.ensures
    (does.same old)

pub put_plane-requires-in-Relation : goal.put_plane-requires-in-Relation
put_plane-requires-in-Relation c =
    let shapes = map shape_of_plan c.args.plans.now in
    let d = destination_runs shapes c.args.instr.now c.args.args.now c.requires.can c.requires.elementwise in
    omega (arith, ap (λ (f : Field). f.offset) c.requires.run, d.0.1, d.0.3, ap (bits_at shapes) d.1, c.requires.planes)

pub returns-in-Relation : goal.returns-in-Relation
returns-in-Relation c =
    let shapes = map shape_of_plan c.args.plans.now in
    let old = c.args.block.now.planes.items in
    relation_done shapes c.args.instr.now c.args.args.now c.args.k c.in-Relation.relation c.args.to.run c.args.to.always c.plan_of.result.now.geometry c.plan_of.result.now.bits
    c.taking_lanes-lanes.result c.plane-value.result old c.put_plane-in-Relation.new.block.planes.items
    c.requires.run c.requires.always c.plan_of.ensures.extents c.plan_of.ensures.bits c.put_plane-in-Relation.ensures c.taking_lanes-lanes.ensures
    (subst (λ (m : List Plane). (i : ℕ) → i < 512 → bit c.plane-value.result i ≡ relation_number c.in-Relation.relation m i) c.deref-in-Relation.ensures.value c.plane-value.ensures)
    (subst (λ (w : Way). IsWayOf shapes c.args.instr.now c.args.args.now w) c.in-Relation.is c.requires.way)
