use Rattle.std.proofs.Common.{◌≡◌, ℕ, false, ◌+◌, ◌<◌, sym, ◌∙◌, ap, subst, arith}
use Rattle.vp_sets.specs.Lines.{steps_before}
use Rattle.cstar_base.specs.Folds.{fold_once}
use Rattle.block_store.specs.declared.room.Room.{Room}
use Rattle.block_store.specs.Stored.{word_at}
use Rattle.reduce_scan.specs.Across.{previous, is_held_cut, HasPrevious, WordSet}
use Rattle.reduce_scan.proofs.Parts.{once}
use Rattle.reduce_scan.proofs.CellWords.{at_below, joined_begun, joined_more, JoinedTo}
use Rattle.reduce_scan.proofs.across.join_words.Goals as goal
use Rattle.reduce_scan.proofs.across.join_words.Goals.{then-not-is_held_cut, else-not-is_held_cut}

pub loop-n-preserved : goal.loop-n-preserved
loop-n-preserved c =
    let combiner = c.args.combiner in
    let lines = c.args.lines.now in
    let n : ℕ = c.loop-n.n in
    let old = c.args.room.now.cells.items in
    let now = c.loop-n.room.cells.items in
    let at : ℕ = steps_before lines.direction lines.positions n in
    let is_at : c.steps_before-at.result ≡ at = c.steps_before-at.ensures in
    let some : 0 < lines.apart = omega (arith, c.requires.lines.some, c.requires.lines.apart) in
    let low : n < lines.positions = c.loop-n-test.true in
    elim c.if-not-is_held_cut.branch [
      | then-not-is_held_cut w ↦
          let off : is_held_cut now at ≡ false = ap (is_held_cut now) (sym is_at) ∙ sym c.is_held_cut.ensures ∙ w.if-not-is_held_cut.true in
          let has : HasPrevious lines at = c.requires.has at (at_below combiner lines some n old now low c.loop-n.invariant c.requires.has) (sym (c.loop-n.invariant.cuts at) ∙ off) in
          let number : ℕ = w.fold_step-joined.result in
          let before : w.word-before.result ≡ word_at now (previous lines.direction lines.apart at) =
          w.word-before.ensures ∙ ap (word_at now) (w.previous.ensures.value ∙ ap (previous lines.direction lines.apart) is_at) in
          let joined : number ≡ once combiner (word_at now (previous lines.direction lines.apart at)) (word_at now at) =
          w.fold_step-joined.ensures ∙ ap (λ o. fold_once o.0 o.1 w.word-before.result w.word.result) c.combiner-combine.ensures
          ∙ ap (λ x. once combiner x w.word.result) before ∙ ap (once combiner (word_at now (previous lines.direction lines.apart at))) (w.word.ensures ∙ ap (word_at now) is_at) in
          subst (λ (r : Room). JoinedTo combiner lines (n + 1) old r.cells.items) (sym w.room-is)
          (joined_more combiner lines some n old now low c.loop-n.invariant c.requires.has off has number w.set_word.new.room.cells.items joined
          (subst (λ q. WordSet q number now w.set_word.new.room.cells.items) is_at w.set_word.ensures))
      | else-not-is_held_cut w ↦
          subst (λ (r : Room). JoinedTo combiner lines (n + 1) old r.cells.items) (sym w.room-is)
          (joined_begun combiner lines some n old now low c.loop-n.invariant c.requires.has (ap (is_held_cut now) (sym is_at) ∙ sym c.is_held_cut.ensures ∙ w.if-not-is_held_cut.false))
    ]
