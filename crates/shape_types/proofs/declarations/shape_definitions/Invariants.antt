use Rattle.std.proofs.Common.{◌≡◌, true}
use Rattle.shape_types.proofs.FileLoops.{ShapesSo}
use Rattle.shape_types.proofs.declarations.shape_definitions.Given as goal

abbrev pub invariant-loop-definition : goal.invariant-loop-definition
invariant-loop-definition l =
    ShapesSo l.fn.file l.fn.declared l.file l.declared l.definitions l.definition-index
    × (l.declared.is_whole ≡ true → l.fn.declared.is_whole ≡ true)
    × (l.declared.vars ≡ l.fn.declared.vars)
    × (l.file.functions ≡ l.fn.file.functions)
    × (l.file.names ≡ l.fn.file.names)
    × (l.file.tree ≡ l.fn.file.tree)
