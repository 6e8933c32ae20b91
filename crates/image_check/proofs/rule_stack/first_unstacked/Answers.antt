use Rattle.std.proofs.Common.{ℕ, ◌<◌, below_more, arith}
use Rattle.std.proofs.lemmas.Option.{slice_get_within}
use Rattle.paris_code.specs.declared.instr.Instr.{Instr}
use Rattle.paris_code.specs.Units.{IsAt}
use Rattle.paris_code.specs.RuleStack.{KeepsStack}
use Rattle.image_check.proofs.rule_stack.first_unstacked.Goals as goal

pub loop-place-preserved : goal.loop-place-preserved
loop-place-preserved c =
    let P : ℕ → Type 0 = λ k. (instr : Instr) → IsAt c.args.image.now k instr → KeepsStack c.args.image.now k instr in
    below_more P c.loop-place.place c.loop-place.invariant (c.in_ok-keeps.ensures.0 c.if-not-keeps.false)

pub returns : goal.returns
returns c =
    λ place instr at.
    let before : place < c.loop-place.place =
    omega (arith, slice_get_within c.args.image.now.code.items place instr at, c.loop-place-test.false, c.len-place-end.ensures, c.args.image.now.code.ok.0) in
    c.loop-place.invariant place before instr at
