use Rattle.std.proofs.Common.{◌+◌, ◌*◌, ◌/◌, ◌%◌, ◌^◌, ap, ◌∙◌}
use Rattle.std.specs.Prelude.{slice_index}
use Rattle.reduce_scan.proofs.RunningSums.{half_of_sums}
use Rattle.reduce_scan.proofs.sums.sums.Goals as goal

pub returns : goal.returns
returns c =
    let x = c.args.x in
    let y = c.args.y in
    half_of_sums x y c.word_sums-3.result (λ w b.
    c.word_sums-3.ensures w b
    ∙ ap (λ l. (l + slice_index c.raised-high.result w) % 2 ^ 64) (c.upper-low.ensures w b ∙ ap (λ n. n / 2 ^ 32) (c.raised.ensures w b ∙ ap (λ n. n * 2 ^ 32 % 2 ^ 64) (c.word_sums.ensures w b)))
    ∙ ap (λ h. ((slice_index x w + slice_index y w) % 2 ^ 64 * 2 ^ 32 % 2 ^ 64 / 2 ^ 32 + h) % 2 ^ 64)
    (c.raised-high.ensures w b ∙ ap (λ n. n * 2 ^ 32 % 2 ^ 64) (c.word_sums-2.ensures w b ∙ ap (λ n. (n + slice_index c.upper-2.result w) % 2 ^ 64) (c.upper.ensures w b) ∙ ap (λ n. (slice_index x w / 2 ^ 32 + n) % 2 ^ 64) (c.upper-2.ensures w b))))
