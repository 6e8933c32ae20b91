use Rattle.std.proofs.Common.{List, Option, take}
use Rattle.cstar_tree.specs.declared.typed.ValueType.{ValueType}
use Rattle.cstar_tree.specs.FileScopes.{Known, behind_variables}
use Rattle.cstar_tree.specs.Scopes.{Binding}
use Rattle.file_names.specs.Numbers.{Numbers}
use Rattle.file_names.proofs.numbering.Numbering.variables.Given as goal

abbrev pub invariant-loop-variable : goal.invariant-loop-variable
invariant-loop-variable l = (functions : List Binding) (ty : Option ValueType) (known : Known) → Numbers l.initial.self known → Numbers l.self (behind_variables functions ty known (take l.variable-index l.variables))
