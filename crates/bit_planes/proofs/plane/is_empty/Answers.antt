use Rattle.std.proofs.Common.{arith}
use Rattle.std.specs.Prelude.{slice_index}
use Rattle.std.proofs.lemmas.Nat.{le_or_l, le_or_r}
use Rattle.bit_planes.proofs.Words.{word_none}
use Rattle.bit_planes.proofs.plane.is_empty.Goals as goal

pub words-preserved : goal.words-preserved
words-preserved c = λ none.
    let word = slice_index c.args.a c.words.j in
    word_none c.args.a c.words.j (omega (arith, none, le_or_r c.words.seen word)) (c.words.invariant (omega (arith, none, le_or_l c.words.seen word)))
