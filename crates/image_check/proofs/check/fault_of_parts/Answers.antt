use Rattle.std.proofs.Common.{arith}
use Rattle.image_check.proofs.FaultLaws.{fault_at_end}
use Rattle.image_check.proofs.check.fault_of_parts.Goals as goal

pub returns : goal.returns
returns c =
    fault_at_end c.args.image.now c.args.rule c.len.result (omega (arith, c.len.ensures, c.args.image.now.code.ok.0)) c.requires.each c.requires.least
