use Rattle.std.proofs.Common.{subst}
use Rattle.image_check.specs.declared.fault.CheckErr.{CheckErr}
use Rattle.image_check.specs.Errors.{IsRefusalOf}
use Rattle.point_runs.proofs.Refusing.{rule_fault}
use Rattle.point_runs.proofs.assemble.checked.Goals as goal

pub numbered-requires : goal.numbered-requires
numbered-requires c =
    let broken = subst (λ (error : CheckErr). IsRefusalOf c.args.image error) c.in-Err-Bad.field-0-is c.in-Err-Bad.ensures.refused in
    rule_fault broken.2.0 c.in-Err-Bad.rule broken.2.1
