use Rattle.std.proofs.Common.{◌∙◌, ap}
use Rattle.std.proofs.lemmas.Result.{IfOk-weaker}
use Rattle.vp_sets.specs.Positions.{position_count}
use Rattle.combine_core.specs.declared.kind.Kind.TheVariants as K
use Rattle.combine_send.proofs.Combining.{are_words}
use Rattle.combine_send.proofs.alone.words_in_cells.Goals as goal

pub returns-in-Add : goal.returns-in-Add
returns-in-Add g c =
    IfOk-weaker c.combined.result _ _ (λ words done.
    are_words c.args.store.now c.args.send.now c.senders_of-senders.result c.args.winner K.Add c.positions-count.result c.in_ok-home.home.items words.items c.senders_of-senders.ensures.senders c.requires.send c.in-Add.ensures
    (c.positions-count.ensures.value ∙ ap position_count c.plan.ensures.extents) c.in_ok-home.ensures.count (c.in_ok-home.ensures.words c.args.winner) done) c.combined.ensures

pub returns-in-And : goal.returns-in-And
returns-in-And g c =
    IfOk-weaker c.combined-in-And.result _ _ (λ words done.
    are_words c.args.store.now c.args.send.now c.senders_of-senders.result c.args.winner K.And c.positions-count.result c.in_ok-home.home.items words.items c.senders_of-senders.ensures.senders c.requires.send c.in-And.ensures
    (c.positions-count.ensures.value ∙ ap position_count c.plan.ensures.extents) c.in_ok-home.ensures.count (c.in_ok-home.ensures.words c.args.winner) done) c.combined-in-And.ensures

pub returns-in-Or : goal.returns-in-Or
returns-in-Or g c =
    IfOk-weaker c.combined-in-Or.result _ _ (λ words done.
    are_words c.args.store.now c.args.send.now c.senders_of-senders.result c.args.winner K.Or c.positions-count.result c.in_ok-home.home.items words.items c.senders_of-senders.ensures.senders c.requires.send c.in-Or.ensures
    (c.positions-count.ensures.value ∙ ap position_count c.plan.ensures.extents) c.in_ok-home.ensures.count (c.in_ok-home.ensures.words c.args.winner) done) c.combined-in-Or.ensures

pub returns-in-Xor : goal.returns-in-Xor
returns-in-Xor g c =
    IfOk-weaker c.combined-in-Xor.result _ _ (λ words done.
    are_words c.args.store.now c.args.send.now c.senders_of-senders.result c.args.winner K.Xor c.positions-count.result c.in_ok-home.home.items words.items c.senders_of-senders.ensures.senders c.requires.send c.in-Xor.ensures
    (c.positions-count.ensures.value ∙ ap position_count c.plan.ensures.extents) c.in_ok-home.ensures.count (c.in_ok-home.ensures.words c.args.winner) done) c.combined-in-Xor.ensures

pub returns-in-Min : goal.returns-in-Min
returns-in-Min g c =
    IfOk-weaker c.combined-in-Min.result _ _ (λ words done.
    are_words c.args.store.now c.args.send.now c.senders_of-senders.result c.args.winner (K.Min c.in-Min.signed) c.positions-count.result c.in_ok-home.home.items words.items c.senders_of-senders.ensures.senders c.requires.send c.in-Min.ensures
    (c.positions-count.ensures.value ∙ ap position_count c.plan.ensures.extents) c.in_ok-home.ensures.count (c.in_ok-home.ensures.words c.args.winner) done) c.combined-in-Min.ensures

pub returns-in-Max : goal.returns-in-Max
returns-in-Max g c =
    IfOk-weaker c.combined-in-Max.result _ _ (λ words done.
    are_words c.args.store.now c.args.send.now c.senders_of-senders.result c.args.winner (K.Max c.in-Max.signed) c.positions-count.result c.in_ok-home.home.items words.items c.senders_of-senders.ensures.senders c.requires.send c.in-Max.ensures
    (c.positions-count.ensures.value ∙ ap position_count c.plan.ensures.extents) c.in_ok-home.ensures.count (c.in_ok-home.ensures.words c.args.winner) done) c.combined-in-Max.ensures

pub returns-in-Last : goal.returns-in-Last
returns-in-Last g c =
    IfOk-weaker c.combined-in-Last.result _ _ (λ words done.
    are_words c.args.store.now c.args.send.now c.senders_of-senders.result c.args.winner K.Last c.positions-count.result c.in_ok-home.home.items words.items c.senders_of-senders.ensures.senders c.requires.send c.in-Last.ensures
    (c.positions-count.ensures.value ∙ ap position_count c.plan.ensures.extents) c.in_ok-home.ensures.count (c.in_ok-home.ensures.words c.args.winner) done) c.combined-in-Last.ensures

pub returns-in-First : goal.returns-in-First
returns-in-First g c =
    IfOk-weaker c.combined-in-First.result _ _ (λ words done.
    are_words c.args.store.now c.args.send.now c.senders_of-senders.result c.args.winner K.First c.positions-count.result c.in_ok-home.home.items words.items c.senders_of-senders.ensures.senders c.requires.send c.in-First.ensures
    (c.positions-count.ensures.value ∙ ap position_count c.plan.ensures.extents) c.in_ok-home.ensures.count (c.in_ok-home.ensures.words c.args.winner) done) c.combined-in-First.ensures
