use Rattle.std.proofs.Common.{◌+◌, ◌/◌, ◌%◌, ◌<◌, ◌∙◌, List, [], length, sym, ap, arith}
use Rattle.std.specs.Int.{bit_at}
use Rattle.bit_planes.specs.declared.block.Block.{Block}
use Rattle.bit_planes.specs.declared.plane.Plane.{Plane}
use Rattle.bit_planes.specs.Bits.{bit}
use Rattle.bit_planes.specs.Planes.{plane_at}
use Rattle.bit_planes.proofs.Planes.{number-bits, number-lt}
use Rattle.block_store.specs.Planes.{block_bit, planes_at, planes_in}
use Rattle.block_store.specs.Stored.{blocks_in, shapes_in, stored}
use Rattle.block_store.proofs.Stores.{held}
use Rattle.phase_meaning.proofs.Entries.{entry}
use Rattle.paris_phases.proofs.block_runs.numbers.Goals as goal

pub returns : goal.returns
unfolding block_bit stored
returns c = λ w.
    let run = c.args.run in
    let set = c.index-set.result.now in
    let block = c.index.result.now in
    let planes = planes_in block in
    let whole = c.requires.whole in
    let exists = c.requires.run.0 in
    let home = held (shapes_in c.args.store.now) c.args.store.now.sets.items run.set c.from.result set whole exists c.from.ensures c.index-set.ensures in
    let within : c.args.block < length (blocks_in set) = omega (arith, ap length home, (whole.each run.set exists).count, c.requires.block) in
    let own = entry planes_in (blocks_in set) c.args.block block [] within c.index.ensures in
    record {
      small = λ lane h. omega (arith, c.words_of.ensures lane h, number-lt planes run.offset run.len lane);
      bits = λ p j here inside h.
          ap (λ n. bit_at n j) (c.words_of.ensures (p % 512) (omega arith))
          ∙ number-bits planes run.offset run.len (p % 512) j h
          ∙ ap (λ (ps : List Plane). bit (plane_at ps (run.offset + j)) (p % 512)) own
          ∙ ap (λ k. bit (plane_at (planes_at (blocks_in set) k) (run.offset + j)) (p % 512)) (sym here)
          ∙ ap (λ (bs : List Block). bit (plane_at (planes_at bs (p / 512)) (run.offset + j)) (p % 512)) home;
    }
