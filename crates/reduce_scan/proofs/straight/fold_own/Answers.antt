use Rattle.std.proofs.Common.{◌≡◌, cond, eqb, refl, sym, ap, ◌∙◌, arith}
use Rattle.std.specs.Prelude.{not}
use Rattle.std.proofs.lemmas.Bool.{eq-eqb, ne_eqb}
use Rattle.cstar_base.specs.declared.operators.Inclusion.TheVariants as N
use Rattle.cstar_base.specs.Folds.{identity_of}
use Rattle.bit_planes.specs.Bits.{bit}
use Rattle.bit_planes.specs.Planes.{plane_at, number}
use Rattle.reduce_scan.specs.WithinBlocks.{fold_in}
use Rattle.reduce_scan.proofs.Parts.{none, none_below}
use Rattle.reduce_scan.proofs.WithinBlocks.{some_cut, whole_fold, run_is_fold}
use Rattle.reduce_scan.proofs.straight.fold_own.Goals as goal

pub returns-then-count-eq0-clause-total : goal.returns-then-count-eq0-clause-total
returns-then-count-eq0-clause-total c =
    let planes = c.args.block.now.planes.items in
    let scan = c.args.scan.now in
    let found = c.inner_cuts-cuts in
    c.of.ensures
    ∙ whole_fold planes scan c.args.extent c.args.k found.result found.ensures.first found.ensures.others (none scan.combiner) c.requires.fields.word (sym c.count.ensures ∙ c.if-count-eq0.true) refl

pub returns-then-count-eq0-clause-begins : goal.returns-then-count-eq0-clause-begins
returns-then-count-eq0-clause-begins c =
    let found = c.inner_cuts-cuts in
    ap not (sym (eq-eqb c.count.result 0 c.if-count-eq0.true))
    ∙ some_cut c.args.block.now.planes.items c.args.scan.now c.args.extent c.args.k found.result found.ensures.first found.ensures.others c.count.result c.count.ensures

pub returns-clause-total : goal.returns-clause-total
returns-clause-total c =
    let planes = c.args.block.now.planes.items in
    let scan = c.args.scan.now in
    let r = scan.combiner in
    let found = c.inner_cuts-cuts in
    let start = c.identity-start.result in
    let same : start ≡ none r = c.identity-start.ensures.value ∙ ap (λ o. identity_of o.0 o.1) c.combiner-combine.ensures in
    c.over.ensures.total
    ∙ run_is_fold planes scan c.args.extent c.args.k found.result found.ensures.first found.ensures.others c.values-words.result start (omega (arith, same, none_below r)) c.requires.fields.word
    (λ i b. c.values-words.ensures i b ∙ c.rows_or.ensures i b ∙ ap (λ s. cond (eqb (bit (plane_at planes scan.context) i) 1) (number planes scan.source.offset 32 i) s) same)
    (record { combiner = r; inclusion = N.Exclusive; start = start; cuts = found.result }) refl refl refl 512 (omega arith)
    ∙ ap (λ s. fold_in planes scan c.args.extent c.args.k s 512) same

pub returns-clause-begins : goal.returns-clause-begins
returns-clause-begins c =
    let found = c.inner_cuts-cuts in
    ap not (sym (ne_eqb c.count.result 0 c.if-count-eq0.false))
    ∙ some_cut c.args.block.now.planes.items c.args.scan.now c.args.extent c.args.k found.result found.ensures.first found.ensures.others c.count.result c.count.ensures
