use Rattle.std.proofs.Common.{◌∙◌, ap, sym, [], arith}
use Rattle.std.specs.Prelude.{slice_index}
use Rattle.std.proofs.Math.Numerals.{add-one}
use Rattle.phase_meaning.proofs.Entries.{entry}
use Rattle.cstar_base.specs.Folds.{fold_once, identity_of}
use Rattle.paris_code.specs.Operators.{combiner_of}
use Rattle.block_store.specs.Stored.{words_in}
use Rattle.reduce_scan.specs.Blocks.{joined_folds}
use Rattle.reduce_scan.proofs.total.join_folds.Goals as goal

pub loop-k-init : goal.loop-k-init
unfolding joined_folds
loop-k-init c = c.identity-total.ensures.value ∙ ap (λ r. identity_of r.0 r.1) c.combiner-combine.ensures

pub loop-k-preserved : goal.loop-k-preserved
unfolding joined_folds
loop-k-preserved c =
    let o = combiner_of c.args.combiner in
    let cells = c.args.room.now.cells.items in
    let k = c.loop-k.k in
    let v = slice_index c.index.result.now.words 0 in
    c.fold_step-total.ensures ∙ ap (λ r. fold_once r.0 r.1 c.loop-k.total v) c.combiner-combine.ensures
    ∙ ap (λ t. fold_once o.0 o.1 t v) c.loop-k.invariant
    ∙ ap (λ ws. fold_once o.0 o.1 (joined_folds c.args.combiner cells k) (slice_index ws 0)) (entry words_in cells k c.index.result.now [] (omega (arith, c.requires, c.loop-k-test.true)) c.index.ensures)
    ∙ ap (joined_folds c.args.combiner cells) (sym (add-one k))
