use Rattle.std.proofs.Common.{◌≡◌, true}
use Rattle.cstar_tree.specs.FileScopes.{file_known}
use Rattle.file_names.specs.Numbers.{HasFewNames}
use Rattle.shape_types.specs.FileKnowledge.{IsNumberedFile}
use Rattle.shape_types.specs.Plain.{IsPlainTree}
use Rattle.shape_types.proofs.FileItems.{AreItems}
use Rattle.shape_types.proofs.declarations.file_scope.Given as goal

abbrev pub invariant-loop-item : goal.invariant-loop-item
invariant-loop-item l =
    (HasFewNames (file_known l.fn.file.tree.now) → IsNumberedFile l.fn.file → IsPlainTree l.fn.file.tree.now → l.declared.is_whole ≡ true → AreItems l.fn.file l.item-index l.file l.declared.known l.declared.vars.items)
    × (l.file.functions ≡ l.fn.file.functions)
    × (l.file.names ≡ l.fn.file.names)
    × (l.file.tree ≡ l.fn.file.tree)
