use Rattle.std.proofs.Common.{refl, subst}
use Rattle.cstar_tree.specs.FileScopes.{behind_item, behind_items, behind_shapes, behind_variables, file_place, placed_from}
use Rattle.cstar_tree.specs.Scopes.{written_type}
use Rattle.file_names.specs.Numbers.{IsNewAt, Numbers}
use Rattle.file_names.proofs.Items.{all_stand, function_kept, item_kept, old_name}
use Rattle.file_names.proofs.collect.Goals as goal
use Rattle.file_names.proofs.collect.Goals.{in-Shapes+in_ok-shapes-in-Shapes, in-Variables+in_ok-variables-in-Variables, in-Function+in_ok-known-in-Function+in-Some+in_ok-push-in-Function, in-Function+in_ok-known-in-Function+in_default}

pub loop-item-init : goal.loop-item-init
unfolding behind_items placed_from
loop-item-init c = record {
  numbers = c.new-numbering.ensures;
  functions = λ few. rw c.requires tt;
  items_are = c.as_slice-declared-items.ensures.value;
  tree = refl;
  shapes = refl;
  types = refl;
}

pub loop-item-preserved : goal.loop-item-preserved
unfolding behind_item
loop-item-preserved c = elim c.match-declared.branch [
  | in-Shapes+in_ok-shapes-in-Shapes w ↦ rw (w.file-is, w.numbering-is)
      (item_kept c.args.file.now c.loop-item.file c.as_slice-declared-items.result.now c.loop-item.item c.loop-item.numbering w.shapes.new.self c.declared-item.result c.loop-item-test.true c.declared-item.is c.loop-item.invariant
      (λ functions known numbers. rw w.in-Shapes.is (subst (λ xs. Numbers w.shapes.new.self (behind_shapes functions known xs)) w.deref.ensures.value (w.in_ok-shapes-in-Shapes.ensures functions known numbers)))
      (λ functions known numbers few. rw w.in-Shapes.is refl))
  | in-Variables+in_ok-variables-in-Variables w ↦ rw (w.file-is, w.numbering-is)
      (item_kept c.args.file.now c.loop-item.file c.as_slice-declared-items.result.now c.loop-item.item c.loop-item.numbering w.variables.new.self c.declared-item.result c.loop-item-test.true c.declared-item.is c.loop-item.invariant
      (λ functions known numbers. rw w.in-Variables.is (subst (λ xs. Numbers w.variables.new.self (behind_variables functions (written_type (file_place functions known) w.in-Variables.declaration.type_name) known xs)) w.deref-in-Variables.ensures.value (w.in_ok-variables-in-Variables.ensures functions (written_type (file_place functions known) w.in-Variables.declaration.type_name) known numbers)))
      (λ functions known numbers few. rw w.in-Variables.is refl))
  | in-Function+in_ok-known-in-Function+in-Some+in_ok-push-in-Function w ↦ rw (w.file-is, w.numbering-is)
      (function_kept c.args.file.now c.loop-item.file c.as_slice-declared-items.result.now c.loop-item.item c.loop-item.numbering w.function.new.self w.in-Function.function w.in-Some.known w.len-group.result w.push.new.self c.loop-item-test.true
      (rw w.in-Function.is at c.declared-item.is) c.loop-item.invariant w.in_ok-known-in-Function.ensures.numbers
      (λ there numbers. subst (IsNewAt there w.in-Function.function.name.word) w.in-Some.is (w.in_ok-known-in-Function.ensures.place there numbers)) w.in_ok-push-in-Function.ensures.items)
  | in-Function+in_ok-known-in-Function+in_default w ↦ rw (w.file-is, w.numbering-is)
      (item_kept c.args.file.now c.loop-item.file c.as_slice-declared-items.result.now c.loop-item.item c.loop-item.numbering w.function.new.self c.declared-item.result c.loop-item-test.true c.declared-item.is c.loop-item.invariant
      (λ functions known numbers. rw w.in-Function.is (w.in_ok-known-in-Function.ensures.numbers known numbers))
      (λ functions known numbers few. rw w.in-Function.is (old_name functions known w.in-Function.function (subst (IsNewAt known w.in-Function.function.name.word) w.in_default.is (w.in_ok-known-in-Function.ensures.place known numbers)) few)))
]

pub returns-clause-functions : goal.returns-clause-functions
returns-clause-functions c = all_stand c.args.file.now c.loop-item.file c.as_slice-declared-items.result.now c.loop-item.item c.loop-item.numbering c.loop-item.invariant c.loop-item-test.false
