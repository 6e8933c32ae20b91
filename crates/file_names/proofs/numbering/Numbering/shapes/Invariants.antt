use Rattle.std.proofs.Common.{List, take}
use Rattle.cstar_tree.specs.FileScopes.{Known, behind_shapes}
use Rattle.cstar_tree.specs.Scopes.{Binding}
use Rattle.file_names.specs.Numbers.{Numbers}
use Rattle.file_names.proofs.numbering.Numbering.shapes.Given as goal

abbrev pub invariant-loop-shape : goal.invariant-loop-shape
invariant-loop-shape l = (functions : List Binding) (known : Known) → Numbers l.initial.self known → Numbers l.self (behind_shapes functions known (take l.shape-index l.shapes))
