use Rattle.std.proofs.Common.{[], eqb, ◌∙◌, ap}
use Rattle.std.specs.Prelude.{slice_index}
use Rattle.bit_planes.specs.Bits.{bit}
use Rattle.cstar_base.specs.Folds.{identity_of}
use Rattle.phase_meaning.proofs.Entries.{entry}
use Rattle.block_store.specs.Planes.{planes_in}
use Rattle.reduce_scan.proofs.LineCuts.{own_lane}
use Rattle.reduce_scan.proofs.across.hold_block.Goals as goal

pub returns : goal.returns
returns c =
    let blocks = c.args.set.now.blocks.items in
    let block = c.index-block.result.now in
    let scan = c.args.scan.now in
    record {
      words = λ i b.
          ap (λ ws. slice_index ws i) c.keep.ensures.words ∙ (c.values-words.ensures i b ∙ c.rows_or.ensures i b)
          ∙ own_lane blocks c.args.k i b (planes_in block) (entry planes_in blocks c.args.k block [] c.requires.block c.index-block.ensures) scan c.requires.can.fields.word c.identity-none.result
          (c.identity-none.ensures.value ∙ ap (λ o. identity_of o.0 o.1) c.combiner-combine.ensures);
      cuts = λ i b h. ap (λ q. eqb (bit q i) 1) c.keep.ensures.cuts ∙ c.cuts.ensures i b h;
    }
