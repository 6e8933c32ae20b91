use Rattle.std.proofs.Common.{◌∙◌, ap}
use Rattle.cstar_base.specs.Folds.{fold_once}
use Rattle.cstar_base.proofs.FoldLaws.{identity_first}
use Rattle.cstar_base.proofs.numbers.identity.Goals as goal

pub returns-clause-neutral : goal.returns-clause-neutral
returns-clause-neutral c v h =
    ap (λ r. fold_once c.args.c c.args.unsigned r v) c.empty_fold.ensures ∙ identity_first c.args.c c.args.unsigned v h
