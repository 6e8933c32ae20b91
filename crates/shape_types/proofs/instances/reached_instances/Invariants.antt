use Rattle.std.proofs.Common.{◌≡◌, ◌≤◌, [], length, None}
use Rattle.cstar_tree.specs.declared.syntax.Tree.{Tree}
use Rattle.shape_types.proofs.Walked.{AreWalked}
use Rattle.shape_types.specs.Plain.{IsPlainTree}
use Rattle.shape_types.specs.Reached.{IsWholeFile}
use Rattle.type_expressions.specs.Instances.{AreHeaders, met}
use Rattle.shape_types.proofs.instances.reached_instances.Given as goal

abbrev pub invariant-loop-number : goal.invariant-loop-number
invariant-loop-number l = record {
  few : length l.instances.items ≤ l.number;
  there : l.number ≤ length (met l.found.instances);
  headers : AreHeaders l.file l.fn.found.instances → AreHeaders l.file l.found.instances;
  walked : (tree : Tree) → IsWholeFile tree l.file → IsPlainTree tree → met l.fn.found.instances ≡ [] → AreHeaders l.file l.fn.found.instances → length l.instances.items ≡ l.number → AreWalked tree (record { function = l.main; current = None }) l.found.instances l.number l.instances.items;
}
