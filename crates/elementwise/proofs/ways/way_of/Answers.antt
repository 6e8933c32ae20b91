use Rattle.std.proofs.Common.{◌+◌, ◌%◌, ◌^◌, map, refl, sym, ◌∙◌, ap, arith}
use Rattle.std.specs.Prelude.{bit_and}
use Rattle.std.proofs.Math.Nat.{mod-mod}
use Rattle.std.proofs.lemmas.Nat.{and_mask}
use Rattle.lane_kernels.specs.declared.target.Operand.TheVariants as O
use Rattle.paris_code.specs.declared.instr.Instr.TheVariants as I
use Rattle.paris_code.specs.declared.operands.Compare.TheVariants as R
use Rattle.paris_code.specs.Arguments.{konst_number}
use Rattle.paris_code.specs.Memory.{bit_run, field_number, is_active, is_tested}
use Rattle.paris_code.specs.Shapes.{bits_at}
use Rattle.block_store.specs.Stored.{shape_of_plan}
use Rattle.elementwise.specs.declared.planar.Planar.TheVariants as L
use Rattle.elementwise.specs.declared.planar.Work.TheVariants as K
use Rattle.elementwise.specs.Blocks.{block_memory}
use Rattle.elementwise.specs.Ways.{by_kernel, by_one, by_relation}
use Rattle.elementwise.proofs.Copies.{is_move}
use Rattle.elementwise.proofs.Kernels.{of, of_field, of_constant, fits_with, kernel_is, negative_is, operation_is, flag_is, flags_are, compares, equals_zero, differs_from_zero, context_alone, width_of}
use Rattle.elementwise.proofs.ways.way_of.Goals as goal

pub returns-in-MoveAlways : goal.returns-in-MoveAlways
returns-in-MoveAlways c =
    let shapes = map shape_of_plan c.args.plans.now in
    let args = c.args.args.now in
    let i = c.in-MoveAlways in
    let a = i.source in
    let instr = I.MoveAlways i.dest a in
    of shapes args c.of_one-in-MoveAlways.result (by_kernel (K.Planes L.Same) (O.Field a.offset) (O.Constant 0)) c.args.instr.now instr c.of_one-in-MoveAlways.ensures i.is c.requires.can (λ can.
    kernel_is shapes instr args (K.Planes L.Same) (O.Field a.offset) (O.Constant 0) (λ m p. field_number m a p) _
    (of_field shapes instr a (can.field.1.1 can.set.1 can.set.0) (fits_with shapes i.dest a can.field.1.0 can.set.0 can.set.1 can.operands)) (of_constant shapes instr 0)
    (λ planes p xb yb. refl))

pub returns-in-Lognot : goal.returns-in-Lognot
returns-in-Lognot c =
    let shapes = map shape_of_plan c.args.plans.now in
    let args = c.args.args.now in
    let i = c.in-Lognot in
    let a = i.source in
    let instr = I.Lognot i.dest a in
    of shapes args c.of_one-in-Lognot.result (by_kernel (K.Planes L.Complement) (O.Field a.offset) (O.Constant 0)) c.args.instr.now instr c.of_one-in-Lognot.ensures i.is c.requires.can (λ can.
    kernel_is shapes instr args (K.Planes L.Complement) (O.Field a.offset) (O.Constant 0) (λ m p. field_number m a p) _
    (of_field shapes instr a (can.field.1.1 can.set.1 can.set.0) (fits_with shapes i.dest a can.field.1.0 can.set.0 can.set.1 can.operands)) (of_constant shapes instr 0)
    (λ planes p xb yb. refl))

pub returns-in-Negate : goal.returns-in-Negate
returns-in-Negate c =
    let shapes = map shape_of_plan c.args.plans.now in
    let args = c.args.args.now in
    let i = c.in-Negate in
    let a = i.source in
    let instr = I.Negate i.dest a in
    of shapes args c.of_one-in-Negate.result (by_kernel (K.Planes L.Negative) (O.Field a.offset) (O.Constant 0)) c.args.instr.now instr c.of_one-in-Negate.ensures i.is c.requires.can (λ can.
    kernel_is shapes instr args (K.Planes L.Negative) (O.Field a.offset) (O.Constant 0) (λ m p. field_number m a p) _
    (of_field shapes instr a (can.field.1.1 can.set.1 can.set.0) (fits_with shapes i.dest a can.field.1.0 can.set.0 can.set.1 can.operands)) (of_constant shapes instr 0)
    (λ planes p xb yb. negative_is i.dest.len (field_number (block_memory planes) a p) xb))

pub returns-in-LoadTest : goal.returns-in-LoadTest
returns-in-LoadTest c =
    let shapes = map shape_of_plan c.args.plans.now in
    let args = c.args.args.now in
    let i = c.in-LoadTest in
    let a = i.source in
    let instr = I.LoadTest a in
    of shapes args c.of_one-in-LoadTest.result (by_kernel (K.Planes L.Same) (O.Field a.offset) (O.Constant 0)) c.args.instr.now instr c.of_one-in-LoadTest.ensures i.is c.requires.can (λ can.
    kernel_is shapes instr args (K.Planes L.Same) (O.Field a.offset) (O.Constant 0) (λ m p. field_number m a p) _
    (of_field shapes instr a (can.field.1 can.set) (omega (arith, (can.field.0 can.set).2))) (of_constant shapes instr 0)
    (λ planes p xb yb. refl))

pub returns-in-LoadContext : goal.returns-in-LoadContext
returns-in-LoadContext c =
    let shapes = map shape_of_plan c.args.plans.now in
    let args = c.args.args.now in
    let i = c.in-LoadContext in
    let a = i.source in
    let instr = I.LoadContext a in
    of shapes args c.of_one-in-LoadContext.result (by_kernel (K.Planes L.Same) (O.Field a.offset) (O.Constant 0)) c.args.instr.now instr c.of_one-in-LoadContext.ensures i.is c.requires.can (λ can.
    kernel_is shapes instr args (K.Planes L.Same) (O.Field a.offset) (O.Constant 0) (λ m p. field_number m a p) _
    (of_field shapes instr a (can.field.1 can.set) (omega (arith, (can.field.0 can.set).2))) (of_constant shapes instr 0)
    (λ planes p xb yb. refl))

pub returns-in-StoreTest : goal.returns-in-StoreTest
unfolding is_tested
returns-in-StoreTest c =
    let shapes = map shape_of_plan c.args.plans.now in
    let args = c.args.args.now in
    let i = c.in-StoreTest in
    let at = bits_at shapes i.dest.set + 1 in
    let instr = I.StoreTest i.dest in
    of shapes args c.of_one-in-StoreTest.result (by_kernel (K.Planes L.Same) (O.Field at) (O.Constant 0)) c.args.instr.now instr
    (c.of_one-in-StoreTest.ensures ∙ ap (λ b. by_kernel (K.Planes L.Same) (O.Field (b + 1)) (O.Constant 0)) c.plan_of.ensures.bits) i.is c.requires.can (λ can.
    kernel_is shapes instr args (K.Planes L.Same) (O.Field at) (O.Constant 0) (λ m p. field_number m (bit_run i.dest.set at) p) _
    (of_field shapes instr (bit_run i.dest.set at) (sym (can.field.1 can.set)) (omega arith)) (of_constant shapes instr 0)
    (λ planes p xb yb. ap (λ k. k % 2 ^ i.dest.len) (flag_is planes i.dest.set at p)))

pub returns-in-StoreContext : goal.returns-in-StoreContext
unfolding is_active
returns-in-StoreContext c =
    let shapes = map shape_of_plan c.args.plans.now in
    let args = c.args.args.now in
    let i = c.in-StoreContext in
    let at = bits_at shapes i.dest.set in
    let instr = I.StoreContext i.dest in
    of shapes args c.of_one-in-StoreContext.result (by_kernel (K.Planes L.Same) (O.Field at) (O.Constant 0)) c.args.instr.now instr
    (c.of_one-in-StoreContext.ensures ∙ ap (λ b. by_kernel (K.Planes L.Same) (O.Field (b)) (O.Constant 0)) c.plan_of-in-StoreContext.ensures.bits) i.is c.requires.can (λ can.
    kernel_is shapes instr args (K.Planes L.Same) (O.Field at) (O.Constant 0) (λ m p. field_number m (bit_run i.dest.set at) p) _
    (of_field shapes instr (bit_run i.dest.set at) (sym (can.field.1 can.set)) (omega arith)) (of_constant shapes instr 0)
    (λ planes p xb yb. ap (λ k. k % 2 ^ i.dest.len) (flag_is planes i.dest.set at p)))

pub returns-in-LogandContextWithTest : goal.returns-in-LogandContextWithTest
unfolding is_active is_tested
returns-in-LogandContextWithTest c =
    let shapes = map shape_of_plan c.args.plans.now in
    let args = c.args.args.now in
    let i = c.in-LogandContextWithTest in
    let at = bits_at shapes i.set in
    let instr = I.LogandContextWithTest i.set in
    of shapes args c.of_two-in-LogandContextWithTest.result (by_kernel (K.Planes L.And) (O.Field at) (O.Field (at + 1))) c.args.instr.now instr
    (c.of_two-in-LogandContextWithTest.ensures ∙ ap (λ b. by_kernel (K.Planes L.And) (O.Field b) (O.Field (b + 1))) c.plan_of-in-LogandContextWithTest.ensures.bits) i.is c.requires.can (λ can.
    kernel_is shapes instr args (K.Planes L.And) (O.Field at) (O.Field (at + 1)) (λ m p. field_number m (bit_run i.set at) p) (λ m p. field_number m (bit_run i.set (at + 1)) p)
    (of_field shapes instr (bit_run i.set at) refl (omega arith)) (of_field shapes instr (bit_run i.set (at + 1)) refl (omega arith))
    (λ planes p xb yb. ap (λ k. k % 2 ^ 1) (flags_are planes i.set at (at + 1) p)))

pub returns-in-Operate : goal.returns-in-Operate
returns-in-Operate c =
    let shapes = map shape_of_plan c.args.plans.now in
    let args = c.args.args.now in
    let i = c.in-Operate in
    let o = c.work_of.result in
    let instr = I.Operate i.op i.dest i.left i.right in
    of shapes args c.of_two.result (by_kernel o (O.Field i.left.offset) (O.Field i.right.offset)) c.args.instr.now instr c.of_two.ensures i.is c.requires.can (λ can.
    kernel_is shapes instr args o (O.Field i.left.offset) (O.Field i.right.offset) (λ m p. field_number m i.left p) (λ m p. field_number m i.right p)
    (of_field shapes instr i.left (can.field.1.1 can.set.1 can.set.0) (fits_with shapes i.dest i.left can.field.1.0 can.set.0 can.set.1 can.operands.0))
    (of_field shapes instr i.right (can.field.2.1 can.set.2 can.set.0) (fits_with shapes i.dest i.right can.field.2.0 can.set.0 can.set.2 can.operands.1))
    (λ planes p xb yb. ap (λ k. k % 2 ^ i.dest.len)
    (operation_is o i.op i.dest.len (field_number (block_memory planes) i.left p) (field_number (block_memory planes) i.right p) c.work_of.ensures (can.field.0 can.set.0).0 xb yb)))

pub returns-in-OperateConstant : goal.returns-in-OperateConstant
returns-in-OperateConstant c =
    let shapes = map shape_of_plan c.args.plans.now in
    let args = c.args.args.now in
    let i = c.in-OperateConstant in
    let n = i.dest.len in
    of shapes args c.of_constant.result c.of_constant.result c.args.instr.now (I.OperateConstant i.op i.dest i.left i.right) refl i.is c.requires.can (λ can.
    c.of_constant.ensures shapes args i.right can
    (sym (ap (λ k. bit_and k c.mask.result) c.konst-in-OperateConstant.ensures ∙ ap (bit_and (konst_number i.right args)) c.mask.ensures ∙ and_mask (konst_number i.right args) n)))

pub returns-in-Move : goal.returns-in-Move
returns-in-Move c =
    let shapes = map shape_of_plan c.args.plans.now in
    let args = c.args.args.now in
    let i = c.in-Move in
    let instr = I.Move i.signed i.dest i.source in
    of shapes args c.of_move.result c.of_move.result c.args.instr.now instr refl i.is c.requires.can (λ can. c.of_move.ensures shapes args instr (is_move shapes args i.signed i.dest i.source can))

pub returns-in-MakeAddress : goal.returns-in-MakeAddress
returns-in-MakeAddress c =
    let shapes = map shape_of_plan c.args.plans.now in
    let args = c.args.args.now in
    let i = c.in-MakeAddress in
    let instr = I.MakeAddress i.dest i.set i.coordinates in
    of shapes args c.of_address.result c.of_address.result c.args.instr.now instr refl i.is c.requires.can (λ can. c.of_address.ensures shapes instr can (refl, sym c.as_slice.ensures.value))

pub returns-in-Compare : goal.returns-in-Compare
returns-in-Compare c =
    let shapes = map shape_of_plan c.args.plans.now in
    let args = c.args.args.now in
    let i = c.in-Compare in
    of shapes args c.of_relation.result _ c.args.instr.now (I.Compare i.relation i.left i.right) c.of_relation.ensures i.is c.requires.can (compares shapes args i.relation i.left i.right)

pub returns-in-EqZero : goal.returns-in-EqZero
returns-in-EqZero c =
    let shapes = map shape_of_plan c.args.plans.now in
    let args = c.args.args.now in
    let i = c.in-EqZero in
    of shapes args c.of_relation-in-EqZero.result _ c.args.instr.now (I.EqZero i.source) c.of_relation-in-EqZero.ensures i.is c.requires.can (equals_zero shapes args i.source)

pub returns-in-NeZero : goal.returns-in-NeZero
returns-in-NeZero c =
    let shapes = map shape_of_plan c.args.plans.now in
    let args = c.args.args.now in
    let i = c.in-NeZero in
    of shapes args c.of_relation-in-NeZero.result _ c.args.instr.now (I.NeZero i.source) c.of_relation-in-NeZero.ensures i.is c.requires.can (differs_from_zero shapes args i.source)

pub returns-in-LogandcContextWithTest : goal.returns-in-LogandcContextWithTest
returns-in-LogandcContextWithTest c =
    let shapes = map shape_of_plan c.args.plans.now in
    let args = c.args.args.now in
    let i = c.in-LogandcContextWithTest in
    of shapes args c.of_relation-in-LogandcContextWithTest.result (by_relation R.ULt 1 (O.Field (bits_at shapes i.set + 1)) (O.Field (bits_at shapes i.set))) c.args.instr.now (I.LogandcContextWithTest i.set)
    (c.of_relation-in-LogandcContextWithTest.ensures ∙ ap (λ b. by_relation R.ULt 1 (O.Field (b + 1)) (O.Field b)) c.plan_of-in-LogandcContextWithTest.ensures.bits)
    i.is c.requires.can (context_alone shapes args i.set)

pub returns-in-MoveConstant : goal.returns-in-MoveConstant
returns-in-MoveConstant c =
    let shapes = map shape_of_plan c.args.plans.now in
    let args = c.args.args.now in
    let i = c.in-MoveConstant in
    let instr = I.MoveConstant i.dest i.value in
    of shapes args c.of_one.result (by_one L.Same (O.Constant (konst_number i.value args))) c.args.instr.now instr (c.of_one.ensures ∙ ap (λ k. by_one L.Same (O.Constant k)) c.konst.ensures) i.is c.requires.can (λ can.
    kernel_is shapes instr args (K.Planes L.Same) (O.Constant (konst_number i.value args)) (O.Constant 0) _ _ (of_constant shapes instr (konst_number i.value args)) (of_constant shapes instr 0)
    (λ planes p xb yb. mod-mod (konst_number i.value args) (2 ^ width_of shapes instr)))

pub returns-in-MoveZeroAlways : goal.returns-in-MoveZeroAlways
returns-in-MoveZeroAlways c =
    let shapes = map shape_of_plan c.args.plans.now in
    let args = c.args.args.now in
    let i = c.in-MoveZeroAlways in
    let instr = I.MoveZeroAlways i.dest in
    of shapes args c.of_one-in-MoveZeroAlways.result (by_one L.Same (O.Constant 0)) c.args.instr.now instr (c.of_one-in-MoveZeroAlways.ensures) i.is c.requires.can (λ can.
    kernel_is shapes instr args (K.Planes L.Same) (O.Constant 0) (O.Constant 0) _ _ (of_constant shapes instr 0) (of_constant shapes instr 0)
    (λ planes p xb yb. mod-mod 0 (2 ^ width_of shapes instr)))

pub returns-in-SetContext : goal.returns-in-SetContext
returns-in-SetContext c =
    let shapes = map shape_of_plan c.args.plans.now in
    let args = c.args.args.now in
    let i = c.in-SetContext in
    let instr = I.SetContext i.set in
    of shapes args c.of_one-in-SetContext.result (by_one L.Same (O.Constant 1)) c.args.instr.now instr (c.of_one-in-SetContext.ensures) i.is c.requires.can (λ can.
    kernel_is shapes instr args (K.Planes L.Same) (O.Constant 1) (O.Constant 0) _ _ (of_constant shapes instr 1) (of_constant shapes instr 0)
    (λ planes p xb yb. mod-mod 1 (2 ^ width_of shapes instr)))
