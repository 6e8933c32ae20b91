use Rattle.std.proofs.Common.{◌≡◌, ◌+◌, ◌*◌, ◌∙◌, inl, inr, ap, arith}
use Rattle.std.specs.Prelude.{slice_index}
use Rattle.std.proofs.Math.ListN.{set, length-set}
use Rattle.std.proofs.lemmas.Bool.{cases_eq}
use Rattle.std.proofs.lemmas.List.{get_or-set_same, get_or-set_other}
use Rattle.cstar_base.specs.declared.operators.Inclusion.TheVariants as N
use Rattle.reduce_scan.specs.Across.{taken_at}
use Rattle.reduce_scan.proofs.across.words_before.Goals as goal

pub loop-i-preserved : goal.loop-i-preserved
loop-i-preserved c =
    let words = c.loop-i.words in
    let i = c.loop-i.i in
    let x = c.word_before.result in (
      length-set words i x ∙ c.loop-i.invariant.0,
      λ j h. elim (cases_eq j i) [
        | inl e ↦
            ap (λ n. slice_index (set words i x) n) e ∙ get_or-set_same words i x 0 (omega (arith, c.loop-i.invariant.0, c.loop-i-test.true)) ∙ c.word_before.ensures
            ∙ ap (taken_at c.args.combiner N.Exclusive c.args.lines.now c.args.room.now.cells.items) (let f : c.args.k * 512 + i ≡ 512 * c.args.k + j = omega (arith, e) in f)
        | inr n ↦ get_or-set_other words i j x 0 n ∙ c.loop-i.invariant.1 j (omega (arith, h, n))
      ],
    )
