use Rattle.std.proofs.Common.{◌≡◌, pos, true, false, sym, ◌∙◌, arith}
use Rattle.std.proofs.lemmas.Int.{ints}
use Rattle.cstar_base.proofs.NumberLaws.{zero_number}
use Rattle.cstar_base.proofs.numbers.operand.Goals as goal

pub returns-then-unsigned-clause-zero : goal.returns-then-unsigned-clause-zero
returns-then-unsigned-clause-zero c =
    λ e. let zero : c.value.result ≡ pos 0 = omega (arith, ints) in
    zero_number 32 false c.args.w (omega arith) (sym c.value.ensures.value ∙ zero)

pub returns-else-unsigned-clause-zero : goal.returns-else-unsigned-clause-zero
returns-else-unsigned-clause-zero c =
    λ e. let zero : c.value-else-unsigned.result ≡ pos 0 = omega (arith, ints) in
    zero_number 32 true c.args.w (omega arith) (sym c.value-else-unsigned.ensures.value ∙ zero)
