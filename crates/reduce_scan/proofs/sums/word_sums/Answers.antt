use Rattle.std.proofs.Common.{◌+◌, ◌%◌, ◌^◌, arith}
use Rattle.std.proofs.lemmas.Simd.{get_or-zip2}
use Rattle.reduce_scan.proofs.sums.word_sums.Goals as goal

pub returns : goal.returns
returns c = λ w b. get_or-zip2 (λ x y. (x + y) % 2 ^ 64) c.args.x c.args.y w 0 0 0 (omega (arith, b, c.fits-x.0)) (omega (arith, b, c.fits-y.0))
