use Rattle.std.proofs.Common.{length, ap, ◌∙◌, arith}
use Rattle.paris_code.specs.Memory.{field_number, run_number}
use Rattle.paris_code.specs.Shapes.{extents_at}
use Rattle.block_store.specs.Planes.{block_bit}
use Rattle.block_store.specs.Stored.{shapes_in, stored}
use Rattle.block_store.proofs.Stores.{block_exists, held}
use Rattle.block_store.proofs.store.Store.read.Goals as goal

pub number-requires-clause-position : goal.number-requires-clause-position
number-requires-clause-position c =
    let same = held (shapes_in c.args.self.now) c.args.self.now.sets.items c.args.run.set c.from.result c.index.result.now c.requires.whole c.requires.run.0 c.from.ensures c.index.ensures in
    omega (arith, ap length same, (c.requires.whole.each c.args.run.set c.requires.run.0).count, block_exists (extents_at (shapes_in c.args.self.now) c.args.run.set) c.args.position c.requires.position.1)

pub returns : goal.returns
unfolding field_number stored
returns c = λ w. c.number.ensures ∙ ap (λ bs. run_number (block_bit bs c.args.position) c.args.run.offset c.args.run.len)
    (held (shapes_in c.args.self.now) c.args.self.now.sets.items c.args.run.set c.from.result c.index.result.now c.requires.whole c.requires.run.0 c.from.ensures c.index.ensures)
