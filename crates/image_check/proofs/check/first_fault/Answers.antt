use Rattle.std.proofs.Common.{◌<◌, arith}
use Rattle.std.proofs.lemmas.Option.{slice_get_within}
use Rattle.image_check.proofs.FaultLaws.{fault_there, keeps_more, tells_stack}
use Rattle.image_check.proofs.check.first_fault.Goals as goal

pub broken_rule-requires-clause-told : goal.broken_rule-requires-clause-told
broken_rule-requires-clause-told c =
    tells_stack c.args.image.now c.args.tables.now c.loop-place.place c.instruction.result.now c.requires.tables c.instruction.ensures c.loop-place.invariant

pub loop-place-preserved : goal.loop-place-preserved
loop-place-preserved c =
    keeps_more c.args.image.now c.loop-place.place c.instruction.result.now c.instruction.ensures c.loop-place.invariant c.in-None.ensures

pub returns-in-Some : goal.returns-in-Some
returns-in-Some c =
    fault_there c.args.image.now c.in-Some.rule c.loop-place.place c.instruction.result.now c.instruction.ensures c.in-Some.ensures c.loop-place.invariant

pub returns : goal.returns
returns c =
    λ place instr at.
    let before : place < c.loop-place.place =
    omega (arith, slice_get_within c.args.image.now.code.items place instr at, c.loop-place-test.false, c.len-place-end.ensures, c.args.image.now.code.ok.0) in
    c.loop-place.invariant place instr before at
