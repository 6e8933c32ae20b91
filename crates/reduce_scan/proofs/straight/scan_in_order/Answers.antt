use Rattle.std.proofs.Common.{◌≡◌, ℕ, ◌*◌, ◌<◌, ◌∙◌, [], length, get_or, ap, refl, sym, subst, inl, inr, arith}
use Rattle.std.proofs.Math.ListN.{set, length-set}
use Rattle.std.proofs.lemmas.Bool.{cases_eq}
use Rattle.std.proofs.lemmas.List.{get_or-map, get_or-set_same, get_or-set_other}
use Rattle.phase_meaning.proofs.Entries.{entry}
use Rattle.bit_planes.specs.declared.block.Block.{Block}
use Rattle.block_store.specs.Planes.{planes_in, planes_at}
use Rattle.cstar_base.specs.Folds.{identity_of}
use Rattle.reduce_scan.specs.Parts.{fold_there}
use Rattle.reduce_scan.specs.WithinBlocks.{fold_in, start_in}
use Rattle.reduce_scan.proofs.StraightLines.{ScannedFrom, scanned_same, carried_first, carried_on, start_is}
use Rattle.reduce_scan.proofs.straight.scan_in_order.Goals as goal

pub loop-k-init : goal.loop-k-init
loop-k-init g c =
    let t = c.args.task.now in (
      refl,
      carried_first c.args.set.now.blocks.items t.scan t.lines c.identity-total.result (c.identity-total.ensures.value ∙ ap (λ r. identity_of r.0 r.1) c.combiner-combine.ensures),
      λ j none b. absurd (omega arith),
      λ j none b. refl,
    )

pub loop-k-preserved : goal.loop-k-preserved
loop-k-preserved g c =
    let t = c.args.task.now in
    let old = c.args.set.now.blocks.items in
    let blocks = c.loop-k.set.blocks.items in
    let k = c.loop-k.k in
    let block = c.index_mut.result.now in
    let new = c.scan_next-total.new.block in
    let here = c.loop-k.invariant in
    let within : k < length blocks = omega (arith, here.0, c.loop-k-test.true, c.len-k-end.ensures) in
    let is : block ≡ get_or old k block = c.index_mut.ensures.value ∙ here.3 k block (omega arith) in
    let at : planes_in block ≡ planes_at old k = entry planes_in old k block [] (omega (arith, within, here.0)) is in
    let start : start_in (planes_in block) t.scan t.lines.extent k c.loop-k.total ≡ fold_there old t.scan t.lines (512 * k) =
    start_is old t.scan t.lines c.requires.straight.0 c.requires.straight.1 k (planes_in block) at (c.requires.full k (omega (arith, within, here.0))) c.loop-k.total here.1 in (
      length-set blocks k new ∙ here.0,
      carried_on old t.scan t.lines c.requires.straight.0 c.requires.straight.1 k (planes_in block) at c.scan_next-total.result
          (c.scan_next-total.ensures.total ∙ ap (λ s. fold_in (planes_in block) t.scan t.lines.extent k s 512) start),
      λ j none b. elim (cases_eq j k) [
        | inl e ↦
            subst (λ (i : ℕ). ScannedFrom (fold_there old t.scan t.lines (512 * i)) t.dest i (planes_in (get_or old i none)) (planes_in (get_or (set blocks k new) i none)) old t.scan t.lines) (sym e)
            (scanned_same (start_in (planes_in block) t.scan t.lines.extent k c.loop-k.total) (fold_there old t.scan t.lines (512 * k)) t.dest k (planes_in block) (planes_in (get_or old k none))
            (planes_in new) (planes_in (get_or (set blocks k new) k none)) old t.scan t.lines start (at ∙ get_or-map planes_in old k none [] (omega (arith, within, here.0)))
            (ap planes_in (sym (get_or-set_same blocks k new none within))) c.scan_next-total.ensures.written)
        | inr n ↦
            subst (λ (x : Block). ScannedFrom (fold_there old t.scan t.lines (512 * j)) t.dest j (planes_in (get_or old j none)) (planes_in x) old t.scan t.lines) (sym (get_or-set_other blocks k j new none n))
            (here.2 j none (omega arith))
      ],
      λ j none b. get_or-set_other blocks k j new none (λ e. absurd (omega arith)) ∙ here.3 j none (omega arith),
    )
