use Rattle.std.proofs.Common.{◌≡◌, ◌++◌, subst, List, OnOk}
use Rattle.paris_code.specs.declared.operands.Field.{Field}
use Rattle.paris_code.specs.Rows.{operands_in}
use Rattle.field_alloc.proofs.Named.{row_names}
use Rattle.field_alloc.proofs.fields.named.Goals as goal

pub returns : goal.returns
returns c =
    subst (λ (l : List Field). OnOk c.operand_fields.result (c.operand_fields.new.all.items ≡ c.args.all.now.items ++ l))
    (row_names c.args.i.now (operands_in c.row-row.result) c.operands.result.now c.operands.ensures c.row-row.ensures) c.operand_fields.ensures
