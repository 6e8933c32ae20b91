use Rattle.std.proofs.Common.{◌*◌, ◌%◌, ◌^◌, ap, ◌∙◌, arith}
use Rattle.std.specs.Prelude.{slice_index}
use Rattle.std.proofs.Math.ListN.{replicate}
use Rattle.std.proofs.lemmas.Simd.{get_or-zip2, get_or-replicate}
use Rattle.reduce_scan.proofs.sums.raised.Goals as goal

pub returns : goal.returns
returns c = λ w b.
    get_or-zip2 (λ x s. x * 2 ^ s % 2 ^ 64) c.args.x (replicate 8 32) w 0 0 0 (omega (arith, b, c.fits-x.0)) (omega (arith, b)) ∙ ap (λ s. slice_index c.args.x w * 2 ^ s % 2 ^ 64) (get_or-replicate 8 w 32 0 b)
