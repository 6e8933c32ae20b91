use Rattle.std.proofs.Common.{◌≡◌, ◌∙◌, ◌+◌, ◌-◌, ◌^◌, ◌<◌, ◌≤◌, List, ap, get_or, length, refl, sym, subst}
use Rattle.std.specs.Int.{from_bool}
use Rattle.std.specs.List.{All}
use Rattle.std.specs.Prelude.{min}
use Rattle.cstar_tree.specs.declared.syntax.Item.{Item}
use Rattle.cstar_tree.specs.declared.syntax.Item.TheVariants as I
use Rattle.cstar_tree.specs.declared.syntax.ShapeDefinition.{ShapeDefinition}
use Rattle.cstar_tree.specs.FileScopes.{behind_item, behind_shapes, file_known, functions_named}
use Rattle.file_names.proofs.Items.{behind_first}
use Rattle.type_expressions.specs.Walks.{IsPlain}
use Rattle.shape_types.specs.FileWalk.{AreDefined, AreFirst}
use Rattle.shape_types.proofs.FileItems.{AreItems, all_items, function_item, item_first, item_plain, no_items, shapes_item, variables_item}
use Rattle.shape_types.proofs.FileLoops.{both_parts}
use Rattle.shape_types.proofs.declarations.file_scope.Goals as goal
use Rattle.shape_types.proofs.declarations.file_scope.Goals.{in-Shapes+in_ok-shape_definitions-in-Shapes, in-Variables+in_ok-variables-in-Variables, in-Function}

pub loop-item-init : goal.loop-item-init
loop-item-init c = (
  λ few numbered plain whole. subst (λ n. AreItems c.args.file.now 0 c.args.file.now n c.none-declared.result.vars.items) (sym c.none-declared.ensures.known) (no_items c.args.file.now c.none-declared.result.vars.items c.none-declared.ensures.vars few numbered),
  refl,
  refl,
  refl,
)

pub loop-item-preserved : goal.loop-item-preserved
unfolding behind_item
loop-item-preserved c =
    let start = c.args.file.now in
    let tree = start.tree.now in
    let n = c.loop-item.item-index in
    let before = c.loop-item.invariant in
    let list = c.as_slice-item-items.ensures.value in
    let within : n < length tree.items.items = subst (λ (is : List Item). n < length is) list c.loop-item-test.true in
    let at : c.item-item.result ≡ get_or tree.items.items n c.item-item.result = c.item-item.is ∙ ap (λ (is : List Item). get_or is n c.item-item.result) list in
    let there = behind_first (functions_named tree) tree.items.items n in
    elim c.match-item.branch [
      | in-Shapes+in_ok-shape_definitions-in-Shapes w ↦ rw (w.file-is, w.declared-is) (
          let step = w.in_ok-shape_definitions-in-Shapes.ensures in
          let item = I.Shapes w.in-Shapes.place w.in-Shapes.shapes in
          let is : item ≡ get_or tree.items.items n item = subst (λ (x : Item). x ≡ get_or tree.items.items n x) w.in-Shapes.is at in
          let slice = w.as_slice.ensures.value in (
            λ few numbered plain whole.
                let are = before.0 few numbered plain (step.whole whole) in
                let own = subst (All (λ (s : ShapeDefinition). All IsPlain s.extents.items)) (sym slice) (item_plain tree n item within is plain) in
                let first = subst (λ (ds : List ShapeDefinition). AreFirst (behind_shapes (functions_named tree) there ds).names (file_known tree).names) (sym slice) (item_first start n c.loop-item.file c.loop-item.declared.known c.loop-item.declared.vars.items are item within is) in
                shapes_item start n c.loop-item.file c.loop-item.declared.known c.loop-item.declared.vars.items w.in-Shapes.place w.in-Shapes.shapes w.shape_definitions.new.file w.shape_definitions.new.declared.known w.shape_definitions.new.declared.vars.items are within is (ap (λ v. v.items) step.vars)
                (subst (λ (ds : List ShapeDefinition). AreDefined start there ds c.loop-item.file.shapes.items w.shape_definitions.new.file w.shape_definitions.new.declared.known) slice (step.typed start there are.knows own first whole)),
            step.functions ∙ before.1,
            step.names ∙ before.2,
            step.tree ∙ before.3,
          ))
      | in-Variables+in_ok-variables-in-Variables w ↦ rw (w.file-is, w.declared-is) (
          let step = w.in_ok-variables-in-Variables.ensures in
          let item = I.Variables w.in-Variables.declaration in
          let is : item ≡ get_or tree.items.items n item = subst (λ (x : Item). x ≡ get_or tree.items.items n x) w.in-Variables.is at in (
            λ few numbered plain whole.
                let are = before.0 few numbered plain (step.whole whole) in
                let own = item_plain tree n item within is plain in
                let first = item_first start n c.loop-item.file c.loop-item.declared.known c.loop-item.declared.vars.items are item within is in
                variables_item start n c.loop-item.file c.loop-item.declared.known c.loop-item.declared.vars.items w.in-Variables.declaration w.variables.new.file w.variables.new.declared.known w.variables.new.declared.vars.items are within is step.shapes
                (step.typed start there are.knows own first whole) (step.knows start there are.knows own first whole),
            step.functions ∙ before.1,
            step.names ∙ before.2,
            step.tree ∙ before.3,
          ))
      | in-Function w ↦ rw (w.file-is, w.declared-is) (
          let item = I.Function w.in-Function.function in
          let is : item ≡ get_or tree.items.items n item = subst (λ (x : Item). x ≡ get_or tree.items.items n x) w.in-Function.is at in (
            λ few numbered plain whole.
                let parts = both_parts c.loop-item.declared.is_whole w.is_new-new.result (sym w.declare.ensures.whole ∙ whole) in
                let are = before.0 few numbered plain parts.0 in
                function_item start n c.loop-item.file c.loop-item.declared.known c.loop-item.declared.vars.items w.in-Function.function w.declare.new.self.known w.declare.new.self.vars.items are within is (ap (λ v. v.items) w.declare.ensures.vars)
                (w.is_new-new.ensures start there are.knows parts.1) (w.declare.ensures.known ∙ ap (λ b. min (c.loop-item.declared.known + from_bool b) (2 ^ 64 - 1)) parts.1),
            before.1,
            before.2,
            before.3,
          ))
    ]

pub returns-clause-typed : goal.returns-clause-typed
returns-clause-typed c few numbered plain whole =
    let all = subst (λ (is : List Item). length is ≤ c.loop-item.item-index) c.as_slice-item-items.ensures.value c.loop-item-test.false in
    all_items c.args.file.now c.loop-item.item-index c.loop-item.file c.loop-item.declared.known c.loop-item.declared.vars.items all (c.loop-item.invariant.0 few numbered plain whole)
