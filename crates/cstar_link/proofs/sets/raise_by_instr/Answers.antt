use Rattle.std.proofs.Common.{List, subst}
use Rattle.paris_code.specs.declared.operands.Field.{Field}
use Rattle.paris_code.specs.Rows.{operands_in}
use Rattle.cstar_link.specs.Sets.{AreRaised}
use Rattle.cstar_link.proofs.Ends.{row_names}
use Rattle.cstar_link.proofs.sets.raise_by_instr.Goals as goal

pub returns : goal.returns
returns c =
    subst (λ (fs : List Field). AreRaised fs c.args.ends.now c.raise_by_operands.new.ends)
    (row_names c.args.instr.now (operands_in c.row-row.result) c.operands.result.now c.operands.ensures c.row-row.ensures) c.raise_by_operands.ensures
