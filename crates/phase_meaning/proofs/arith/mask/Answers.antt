use Rattle.std.proofs.Common.{◌≡◌, ◌-◌, ◌^◌, ◌/◌, ◌∙◌, ap, arith}
use Rattle.std.proofs.lemmas.Nat.Bits.{ones_shr}
use Rattle.phase_meaning.proofs.arith.mask.Goals as goal

pub returns : goal.returns
returns c =
    ap (λ k. (2 ^ 32 - 1) / 2 ^ (32 - k)) c.from.ensures
    ∙ ones_shr 32 (32 - c.args.len) (omega arith) ∙ ap (λ k. 2 ^ k - 1) (let e : 32 - (32 - c.args.len) ≡ c.args.len = omega arith in e)
