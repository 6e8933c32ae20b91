use Rattle.std.proofs.Common.{◌≡◌, ◌%◌, ◌^◌, cond, eqb, refl, ap, ◌∙◌, arith}
use Rattle.cstar_base.specs.Folds.{identity_of}
use Rattle.bit_planes.specs.Bits.{bit}
use Rattle.bit_planes.specs.Planes.{plane_at, number}
use Rattle.bit_planes.specs.Rows.{held}
use Rattle.reduce_scan.specs.WithinBlocks.{scanned_in}
use Rattle.reduce_scan.proofs.Parts.{none}
use Rattle.reduce_scan.proofs.WithinBlocks.{run_is_fold, word_taken, same_written}
use Rattle.reduce_scan.proofs.straight.scan_block.Goals as goal

pub returns-clause-written : goal.returns-clause-written
returns-clause-written c =
    let planes = c.args.block.now.planes.items in
    let scan = c.args.task.now.scan in
    let extent = c.args.task.now.lines.extent in
    let d = c.args.task.now.dest in
    let found = c.inner_cuts in
    let same : c.identity-none.result ≡ none scan.combiner = c.identity-none.ensures.value ∙ ap (λ o. identity_of o.0 o.1) c.combiner-combine.ensures in
    let run = c.over_rows-total.ensures in
    same_written d.offset d.len c.plane-active.result (plane_at planes scan.context) (λ i. held c.over_rows-total.new.rows.planes i % 2 ^ d.len)
    (λ i. scanned_in planes scan extent c.args.k c.args.start i % 2 ^ d.len) planes c.put_rows.new.block.planes.items c.plane-active.ensures c.put_rows.ensures
    (λ i b on. ap (λ n. n % 2 ^ d.len) (run.given i b
    ∙ word_taken planes scan extent c.args.k found.result found.ensures.first found.ensures.others run.words c.args.start c.ranges.start.fits c.requires.fields.word
    (λ j h. run.are j h ∙ c.rows_or-rows.ensures j h ∙ ap (λ s. cond (eqb (bit (plane_at planes scan.context) j) 1) (number planes scan.source.offset 32 j) s) same)
    (record { combiner = scan.combiner; inclusion = scan.inclusion; start = c.args.start; cuts = found.result }) refl refl refl refl i b on))

pub returns-clause-total : goal.returns-clause-total
returns-clause-total c =
    let planes = c.args.block.now.planes.items in
    let scan = c.args.task.now.scan in
    let extent = c.args.task.now.lines.extent in
    let found = c.inner_cuts in
    let same : c.identity-none.result ≡ none scan.combiner = c.identity-none.ensures.value ∙ ap (λ o. identity_of o.0 o.1) c.combiner-combine.ensures in
    let run = c.over_rows-total.ensures in
    run.ends
    ∙ run_is_fold planes scan extent c.args.k found.result found.ensures.first found.ensures.others run.words c.args.start c.ranges.start.fits c.requires.fields.word
    (λ j h. run.are j h ∙ c.rows_or-rows.ensures j h ∙ ap (λ s. cond (eqb (bit (plane_at planes scan.context) j) 1) (number planes scan.source.offset 32 j) s) same)
    (record { combiner = scan.combiner; inclusion = scan.inclusion; start = c.args.start; cuts = found.result }) refl refl refl 512 (omega arith)
