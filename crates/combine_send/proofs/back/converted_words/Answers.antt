use Rattle.std.proofs.Common.{◌≡◌, ◌∙◌, ◌+◌, ◌*◌, ◌<◌, ap, sym, inl, inr, arith}
use Rattle.std.specs.Prelude.{slice_index}
use Rattle.std.proofs.Math.ListN.{set, length-set}
use Rattle.std.proofs.lemmas.Bool.{cases_eq}
use Rattle.std.proofs.lemmas.List.{get_or-set_same, get_or-set_other}
use Rattle.vp_sets.specs.Blocks.{block_start, block_end}
use Rattle.cstar_base.specs.Numbers.{converted}
use Rattle.paris_code.specs.Sending.{word_kind}
use Rattle.combine_send.proofs.back.converted_words.Goals as goal

pub bounds-words-start : goal.bounds-words-start
unfolding block_start block_end
bounds-words-start c = omega (arith, c.requires.words, c.loop-i-test.true, c.block_range-start.ensures.start, c.block_range-start.ensures.end)

pub bounds-numbers-i : goal.bounds-numbers-i
unfolding block_start block_end
bounds-numbers-i c = omega (arith, c.loop-i-test.true, c.block_range-start.ensures.start, c.block_range-start.ensures.end)

pub loop-i-preserved : goal.loop-i-preserved
unfolding block_start block_end converted
loop-i-preserved c =
    let numbers = c.loop-i.numbers in
    let i = c.loop-i.i in
    let word = c.convert.result in
    let start = c.block_range-start.result.0 in
    let words = c.args.words.now in
    let inside : i < 512 = omega (arith, c.loop-i-test.true, c.block_range-start.ensures.start, c.block_range-start.ensures.end) in (
      length-set numbers i word ∙ c.loop-i.invariant.0,
      λ j h. elim (cases_eq j i) [
        | inl e ↦
            ap (λ n. slice_index (set numbers i word) n) e ∙ get_or-set_same numbers i word 0 (omega (arith, inside, c.loop-i.invariant.0))
            ∙ c.convert.ensures.value ∙ ap (converted c.args.kind word_kind) (ap (λ n. slice_index words (start + n)) (sym e))
        | inr n ↦ get_or-set_other numbers i j word 0 n ∙ c.loop-i.invariant.1 j (omega (arith, n, h))
      ],
    )

pub returns : goal.returns
unfolding block_start block_end
returns c = λ i b within.
    c.loop-i.invariant.1 i (omega (arith, c.loop-i-test.false, within, b, c.block_range-start.ensures.start, c.block_range-start.ensures.end))
    ∙ ap (λ t. converted c.args.kind word_kind (slice_index c.args.words.now t)) (let e : c.block_range-start.result.0 + i ≡ 512 * c.args.k + i = omega (arith, c.block_range-start.ensures.start) in e)
