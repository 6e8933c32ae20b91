use Rattle.std.proofs.Common.{◌+◌, ◌∙◌, ap, sym, subst, refl, List, length, arith}
use Rattle.vp_sets.specs.Positions.{position_count}
use Rattle.vp_sets.proofs.PositionLaws.{count_positive, geometry_parts}
use Rattle.bit_planes.specs.declared.block.Block.{Block}
use Rattle.paris_code.specs.Shapes.{bits_at, extents_at, no_shape}
use Rattle.block_store.specs.Planes.{HasPlanes}
use Rattle.block_store.specs.Stored.{shapes_in}
use Rattle.block_store.proofs.Fetches.{room_much}
use Rattle.block_store.proofs.Stores.{held, few_blocks}
use Rattle.combine_send.proofs.sending.senders_of.Goals as goal

pub returns-clause-can : goal.returns-clause-can
returns-clause-can c =
    let shapes = shapes_in c.args.store.now in
    let sets = c.args.store.now.sets.items in
    let send = c.args.send.now in
    let whole = c.requires.whole in
    let exists = c.requires.send.1.0 in
    let same = c.as_slice.ensures.value ∙ held shapes sets send.address.set c.from.result c.index.result.now whole exists c.from.ensures c.index.ensures in
    let has : HasPlanes (bits_at shapes send.address.set + 2) c.as_slice.result.now =
    subst (λ (bs : List Block). HasPlanes (bits_at shapes send.address.set + 2) bs) (sym same) (whole.each send.address.set exists).planes in
    let number = ap length same in record {
      address = (c.requires.send.1.1, c.requires.send.1.2);
      source = (c.requires.send.2.1, c.requires.send.2.2);
      addresses = λ k none b. omega (arith, has k none b, c.requires.send.1.3);
      sources = λ k none b. omega (arith, has k none b, c.requires.send.2.3, ap (bits_at shapes) c.requires.send.4);
      contexts = λ k none b. omega (arith, has k none b, c.plan.ensures.bits);
      some = omega (arith, number, room_much shapes sets send.address.set whole exists, count_positive (extents_at shapes send.address.set) (geometry_parts (extents_at shapes send.address.set) (whole.grids send.address.set no_shape exists).0).2);
      few = omega (arith, number, few_blocks shapes sets send.address.set whole exists);
    }

pub returns-clause-many : goal.returns-clause-many
returns-clause-many c =
    let shapes = shapes_in c.args.store.now in
    let sets = c.args.store.now.sets.items in
    let send = c.args.send.now in
    let whole = c.requires.whole in
    let exists = c.requires.send.1.0 in
    let same = c.as_slice.ensures.value ∙ held shapes sets send.address.set c.from.result c.index.result.now whole exists c.from.ensures c.index.ensures in
    omega (arith, ap length same, room_much shapes sets send.address.set whole exists)

pub returns-clause-senders : goal.returns-clause-senders
returns-clause-senders c =
    let shapes = shapes_in c.args.store.now in
    let sets = c.args.store.now.sets.items in
    let send = c.args.send.now in
    record {
      blocks = c.as_slice.ensures.value ∙ held shapes sets send.address.set c.from.result c.index.result.now c.requires.whole c.requires.send.1.0 c.from.ensures c.index.ensures;
      context = c.plan.ensures.bits;
      address = refl;
      source = refl;
      targets = c.positions.ensures.value ∙ ap position_count c.plan-2.ensures.extents;
    }
