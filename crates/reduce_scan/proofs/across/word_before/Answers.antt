use Rattle.std.proofs.Common.{◌∙◌, sym, ap, inl, inr}
use Rattle.cstar_base.specs.Folds.{identity_of}
use Rattle.block_store.specs.Stored.{word_at}
use Rattle.reduce_scan.proofs.CellWords.{taken_none, taken_word}
use Rattle.reduce_scan.proofs.across.word_before.Goals as goal

pub returns-then-lines-position : goal.returns-then-lines-position
returns-then-lines-position c =
    c.identity-none.ensures.value ∙ ap (λ o. identity_of o.0 o.1) c.combiner-combine.ensures
    ∙ sym (taken_none c.args.combiner c.args.lines.now c.args.room.now.cells.items c.args.position (inl c.if-lines-position.true))

pub returns-then-is_held_cut : goal.returns-then-is_held_cut
returns-then-is_held_cut c =
    c.identity-none.ensures.value ∙ ap (λ o. identity_of o.0 o.1) c.combiner-combine.ensures
    ∙ sym (taken_none c.args.combiner c.args.lines.now c.args.room.now.cells.items c.args.position (inr (sym c.is_held_cut.ensures ∙ c.if-is_held_cut.true)))

pub returns : goal.returns
returns c =
    c.word.ensures ∙ ap (word_at c.args.room.now.cells.items) c.previous.ensures.value
    ∙ sym (taken_word c.args.combiner c.args.lines.now c.args.room.now.cells.items c.args.position c.if-lines-position.false (sym c.is_held_cut.ensures ∙ c.if-is_held_cut.false))
