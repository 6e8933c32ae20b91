use Rattle.std.proofs.lemmas.Bool.{eq-eqb, eqb-true}
use Rattle.type_expressions.proofs.SegmentBits.{held, holding}
use Rattle.type_expressions.proofs.intrinsics.holds_bits.Goals as goal

pub returns-in-None-Some : goal.returns-in-None-Some
returns-in-None-Some c =
    (λ b. holding c.args.ty.elem c.args.ty.shape c.args.ty.array c.in-None-Some.is-0 c.in-None-Some.is-1 (eqb-true c.args.ty.elem.bits 1 b), λ h. eq-eqb c.args.ty.elem.bits 1 (held _ h.0 h.1).2)
