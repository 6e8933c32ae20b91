use Rattle.std.proofs.Common.{length, ap, ◌∙◌, inl, arith}
use Rattle.vp_sets.specs.Positions.{position_count}
use Rattle.paris_code.specs.Shapes.{bits_at, extents_at}
use Rattle.block_store.specs.Stored.{shapes_in, blocks_in}
use Rattle.block_store.proofs.Stores.{block_exists, held, whole_kept, set_kept, one_written}
use Rattle.block_store.proofs.store.Store.write.Goals as goal

pub set_number-requires-clause-position : goal.set_number-requires-clause-position
set_number-requires-clause-position c =
    let same = held (shapes_in c.args.self.now) c.args.self.now.sets.items c.args.run.set c.from.result c.index_mut.result.now c.requires.whole c.requires.run.0 c.from.ensures c.index_mut.ensures.value in
    omega (arith, ap length same, (c.requires.whole.each c.args.run.set c.requires.run.0).count, block_exists (extents_at (shapes_in c.args.self.now) c.args.run.set) c.args.position c.requires.position.1)

pub returns-clause-whole : goal.returns-clause-whole
returns-clause-whole c =
    let shapes = shapes_in c.args.self.now in
    let k = c.from.result in
    let old = c.index_mut.result.now in
    let new = c.set_number.new.self in
    whole_kept c.args.self.now.sets.items k old new (omega (arith, c.requires.whole.count, c.requires.run.0, c.from.ensures)) c.index_mut.ensures.value shapes
    (set_kept shapes k (blocks_in old) (blocks_in new) c.set_number.ensures.long c.set_number.ensures.planes
    (λ p from til zero. c.set_number.ensures.outside p (bits_at shapes k) (inl (λ e. absurd (omega (arith, c.requires.position.1, from, ap (λ j. position_count (extents_at shapes j)) c.from.ensures)))) ∙ zero))
    c.requires.whole

pub returns-clause-memory : goal.returns-clause-memory
returns-clause-memory c = λ w.
    one_written c.args.self.now.sets.items c.from.result c.index_mut.result.now c.set_number.new.self (omega (arith, c.requires.whole.count, c.requires.run.0, c.from.ensures)) c.index_mut.ensures.value
    (shapes_in c.args.self.now) c.args.run c.args.position c.args.n w c.from.ensures c.set_number.ensures.inside c.set_number.ensures.outside
