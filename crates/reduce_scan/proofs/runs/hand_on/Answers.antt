use Rattle.std.proofs.Common.{◌≡◌, ◌<◌, ◌∙◌, eqb, [], map, length, get_or, ap, refl, sym, inl, inr, add-one, arith}
use Rattle.std.specs.Prelude.{slice_index}
use Rattle.std.proofs.Math.ListN.{set, length-set}
use Rattle.std.proofs.lemmas.Bool.{cases_eq}
use Rattle.std.proofs.lemmas.List.{get_or-set_same, get_or-set_other}
use Rattle.phase_meaning.proofs.Entries.{entry}
use Rattle.block_store.specs.declared.set.Cell.{Cell}
use Rattle.block_store.specs.Stored.{words_in}
use Rattle.cstar_base.specs.Folds.{identity_of}
use Rattle.reduce_scan.specs.Parts.{starts, word_of_cell}
use Rattle.reduce_scan.specs.Running.{handed_on}
use Rattle.reduce_scan.proofs.runs.hand_on.Goals as goal

pub loop-k-init : goal.loop-k-init
unfolding starts
loop-k-init c = (refl, c.identity-start.ensures.value ∙ ap (λ r. identity_of r.0 r.1) c.combiner-combine.ensures, λ j none b. absurd (omega arith), λ j none b. refl)

pub loop-k-preserved : goal.loop-k-preserved
unfolding starts
loop-k-preserved c =
    let old = c.args.room.now.cells.items in
    let cells = c.loop-k.room.cells.items in
    let k = c.loop-k.k in
    let cell = c.index_mut.result.now in
    let new = c.exchange-tail.new.cell in
    let here = c.loop-k.invariant in
    let within : k < length cells = omega (arith, here.0, c.requires, c.loop-k-test.true) in
    let is : cell ≡ get_or old k cell = c.index_mut.ensures.value ∙ here.3 k cell (omega arith) in
    let words : words_in cell ≡ get_or (map words_in old) k [] = entry words_in old k cell [] (omega (arith, within, here.0)) is in (
      length-set cells k new ∙ here.0,
      c.handed_on-start.ensures
          ∙ ap (λ b. handed_on c.args.combiner (eqb b 1) c.loop-k.start c.exchange-tail.result.0) (c.exchange-tail.ensures.second ∙ ap (λ ws. slice_index ws 1) words)
          ∙ ap (λ t. handed_on c.args.combiner (eqb (word_of_cell old k 1) 1) c.loop-k.start t) (c.exchange-tail.ensures.first ∙ ap (λ ws. slice_index ws 0) words)
          ∙ ap (λ s. handed_on c.args.combiner (eqb (word_of_cell old k 1) 1) s (word_of_cell old k 0)) here.1
          ∙ ap (starts c.args.combiner old) (sym (add-one k)),
      λ j none b. elim (cases_eq j k) [
        | inl e ↦
            ap (λ i. slice_index (get_or (set cells k new) i none).words 0) e ∙ ap (λ (x : Cell). slice_index x.words 0) (get_or-set_same cells k new none within)
            ∙ c.exchange-tail.ensures.start ∙ here.1 ∙ ap (starts c.args.combiner old) (sym e)
        | inr n ↦ ap (λ (x : Cell). slice_index x.words 0) (get_or-set_other cells k j new none n) ∙ here.2 j none (omega arith)
      ],
      λ j none b. get_or-set_other cells k j new none (λ e. absurd (omega arith)) ∙ here.3 j none (omega arith),
    )
