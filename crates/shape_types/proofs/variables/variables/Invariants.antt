use Rattle.std.proofs.Common.{◌≡◌, true, Some}
use Rattle.std.specs.List.{All}
use Rattle.cstar_tree.specs.FileScopes.{Known, behind_variables, file_known, functions_named}
use Rattle.cstar_tree.specs.declared.typed.ValueType.{ValueType}
use Rattle.type_scopes.specs.declared.file.File.{File}
use Rattle.shape_types.specs.FileWalk.{AreFirst, IsOfSome, Knows}
use Rattle.shape_types.specs.Plain.{IsPlainDeclarator}
use Rattle.shape_types.proofs.FileLoops.{VariablesSo}
use Rattle.shape_types.proofs.variables.variables.Given as goal

abbrev pub invariant-loop-declarator : goal.invariant-loop-declarator
invariant-loop-declarator l =
    ((start : File) (k : Known) (of : ValueType) → Knows start k l.fn.file l.fn.declared.known → All IsPlainDeclarator l.declarator-items → AreFirst (behind_variables (functions_named start.tree.now) (Some of) k l.declarator-items).names (file_known start.tree.now).names → l.written.ty ≡ Some of → IsOfSome k.shapes of
    → l.declared.is_whole ≡ true → VariablesSo start k of l.declarator-items l.declarator-index l.fn.declared.vars.items l.file l.declared)
    × (l.declared.is_whole ≡ true → l.initial.declared.is_whole ≡ true)
    × (l.file.shapes ≡ l.fn.file.shapes)
    × (l.file.functions ≡ l.fn.file.functions)
    × (l.file.names ≡ l.fn.file.names)
    × (l.file.tree ≡ l.fn.file.tree)
