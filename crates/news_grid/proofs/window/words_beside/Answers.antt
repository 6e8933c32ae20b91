use Rattle.std.proofs.Common.{◌≡◌, ◌+◌, ◌*◌, refl, arith}
use Rattle.news_grid.proofs.Windows.{all_words, word_behind}
use Rattle.news_grid.proofs.window.words_beside.Goals as goal

pub returns : goal.returns
returns c =
    let low = c.args.low in
    let high = c.args.high in
    let skip = c.args.skip in
    all_words low high (64 * skip) c.word_beside.result c.word_beside-2.result c.word_beside-3.result c.word_beside-4.result c.word_beside-5.result c.word_beside-6.result c.word_beside-7.result c.word_beside-8.result
    (word_behind low high skip 0 skip _ (let e : skip ≡ skip + 0 = omega arith in e) c.word_beside.ensures) (word_behind low high skip 1 (skip + 1) _ refl c.word_beside-2.ensures) (word_behind low high skip 2 (skip + 2) _ refl c.word_beside-3.ensures) (word_behind low high skip 3 (skip + 3) _ refl c.word_beside-4.ensures) (word_behind low high skip 4 (skip + 4) _ refl c.word_beside-5.ensures) (word_behind low high skip 5 (skip + 5) _ refl c.word_beside-6.ensures) (word_behind low high skip 6 (skip + 6) _ refl c.word_beside-7.ensures) (word_behind low high skip 7 (skip + 7) _ refl c.word_beside-8.ensures)
