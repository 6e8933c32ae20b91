use Rattle.std.proofs.Common.{◌≡◌, ◌++◌, take}
use Rattle.std.specs.List.{flat_map}
use Rattle.paris_code.specs.Rows.{shown}
use Rattle.paris_code.specs.Spans.{fields_of_operand}
use Rattle.field_alloc.proofs.fields.operand_fields.Given as goal

abbrev pub invariant-loop-operand : goal.invariant-loop-operand
invariant-loop-operand l = l.all.items ≡ l.initial.all.items ++ flat_map (λ o. fields_of_operand (shown o)) (take l.operand-index l.operands)
