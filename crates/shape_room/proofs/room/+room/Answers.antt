use Rattle.std.proofs.Common.{◌≡◌, ◌∙◌, ◌+◌, false, true, List, ◌∷◌, drop, refl, map, ap, sym, arith}
use Rattle.std.proofs.lemmas.List.{at_drop_all, at_drop_more}
use Rattle.cstar_tree.specs.declared.typed.TExpr.{TExpr}
use Rattle.cstar_tree.specs.declared.typed.ValueType.{ValueType}
use Rattle.cstar_tree.specs.Room.{greatest_part, of_shape}
use Rattle.shape_room.proofs.Counting.{greater, greatest_more, greatest_of_all, pair, part, sum, whole}
use Rattle.shape_room.proofs.Rooms.{assign_parts, brackets_parts, choice_parts, leaf_parts, list_parts, operand_parts, pair_parts, step_parts}
use Rattle.shape_room.specs.Counted.{counted}
use Rattle.shape_room.specs.RoomInParts.{joined, room_as, room_of}
use Rattle.shape_room.proofs.room.+room.Goals as goal

pub parts-returns-in-Assign : goal.parts-returns-in-Assign
parts-returns-in-Assign t c =
    let target = c.expression-target.ensures ∙ ap (λ e. counted (room_as true (room_of c.args.shape e))) c.deref.ensures in
    let value = c.expression.ensures ∙ ap (λ e. counted (room_as false (room_of c.args.shape e))) c.deref-in-Assign.ensures in
    pair _ _ target value c.part.ensures c.max.ensures ∙ ap counted (sym (assign_parts c.args.shape c.args.is_target c.args.e.now _ _ _ _ _ c.in-Assign.is))

pub parts-returns-in-Choice : goal.parts-returns-in-Choice
parts-returns-in-Choice t c =
    let room = λ (e : TExpr). counted (room_as false (room_of c.args.shape e)) in
    let test = c.expression-test.ensures ∙ ap room c.deref-in-Choice.ensures in
    let second = c.expression-in-Choice.ensures ∙ ap room c.deref-in-Choice-2.ensures in
    let third = c.expression-in-Choice-2.ensures ∙ ap room c.deref-in-Choice-3.ensures in
    greater _ _ (pair _ _ test second c.part-then.ensures c.max-in-Choice.ensures) (part 2 _ refl third c.part-otherwise.ensures) c.max-in-Choice-2.ensures
    ∙ ap counted (sym (choice_parts c.args.shape c.args.is_target c.args.e.now _ _ _ _ c.in-Choice.is))

pub parts-returns-in-LogicalOr : goal.parts-returns-in-LogicalOr
parts-returns-in-LogicalOr t c =
    let left = c.expression-left.ensures ∙ ap (λ e. counted (room_as false (room_of c.args.shape e))) c.deref-in-LogicalOr.ensures in
    let right = c.expression-in-LogicalOr.ensures ∙ ap (λ e. counted (room_as false (room_of c.args.shape e))) c.deref-in-LogicalOr-2.ensures in
    pair _ _ left right c.part-in-LogicalOr.ensures c.max-in-LogicalOr.ensures ∙ ap counted (sym (pair_parts c.args.shape c.args.is_target c.args.e.now _ _ c.in-LogicalOr.is))

pub parts-returns-in-Step : goal.parts-returns-in-Step
parts-returns-in-Step t c =
    c.expression-in-Step.ensures ∙ ap (λ e. counted (room_as true (room_of c.args.shape e))) c.deref-in-Step.ensures
    ∙ ap counted (sym (step_parts c.args.shape c.args.is_target c.args.e.now _ _ _ _ c.in-Step.is))

pub parts-returns-in-Brackets : goal.parts-returns-in-Brackets
parts-returns-in-Brackets t c =
    c.expression-in-Brackets.ensures ∙ ap (λ e. counted (room_as c.args.is_target (room_of c.args.shape e))) c.deref-in-Brackets.ensures
    ∙ ap counted (sym (brackets_parts c.args.shape c.args.is_target c.args.e.now _ _ c.in-Brackets.is))

pub parts-returns-in-Unary : goal.parts-returns-in-Unary
parts-returns-in-Unary t c =
    c.expression-in-Unary.ensures ∙ ap (λ e. counted (room_as false (room_of c.args.shape e))) c.deref-in-Unary.ensures
    ∙ ap counted (sym (operand_parts c.args.shape c.args.is_target c.args.e.now _ c.in-Unary.is))

pub parts-returns-in-Call : goal.parts-returns-in-Call
parts-returns-in-Call t c =
    c.greatest_of.ensures ∙ ap (λ es. counted (greatest_part 0 (map joined (map (room_of c.args.shape) es)))) c.deref-in-Call.ensures.value
    ∙ ap counted (sym (list_parts c.args.shape c.args.is_target c.args.e.now _ c.in-Call.is))

pub parts-returns-in-Variable : goal.parts-returns-in-Variable
parts-returns-in-Variable t c = ap counted (sym (leaf_parts c.args.shape c.args.is_target c.args.e.now c.in-Variable.is))

pub parts-returns-in-Variable-2 : goal.parts-returns-in-Variable-2
parts-returns-in-Variable-2 t c = ap counted (sym (leaf_parts c.args.shape c.args.is_target c.args.e.now c.in-Variable.is))

pub parts-returns-in-Variable-3 : goal.parts-returns-in-Variable-3
parts-returns-in-Variable-3 t c = ap counted (sym (leaf_parts c.args.shape c.args.is_target c.args.e.now c.in-Variable.is))

pub parts-returns-in-Variable-4 : goal.parts-returns-in-Variable-4
parts-returns-in-Variable-4 t c = ap counted (sym (leaf_parts c.args.shape c.args.is_target c.args.e.now c.in-Variable.is))

pub parts-returns-in-Variable-5 : goal.parts-returns-in-Variable-5
parts-returns-in-Variable-5 t c = ap counted (sym (leaf_parts c.args.shape c.args.is_target c.args.e.now c.in-Variable.is))

pub parts-returns-in-Variable-6 : goal.parts-returns-in-Variable-6
parts-returns-in-Variable-6 t c = ap counted (sym (leaf_parts c.args.shape c.args.is_target c.args.e.now c.in-Variable.is))

pub parts-returns-in-Variable-7 : goal.parts-returns-in-Variable-7
parts-returns-in-Variable-7 t c = ap counted (sym (leaf_parts c.args.shape c.args.is_target c.args.e.now c.in-Variable.is))

pub parts-returns-in-Variable-8 : goal.parts-returns-in-Variable-8
parts-returns-in-Variable-8 t c = ap counted (sym (leaf_parts c.args.shape c.args.is_target c.args.e.now c.in-Variable.is))

pub parts-returns-in-Variable-9 : goal.parts-returns-in-Variable-9
parts-returns-in-Variable-9 t c = ap counted (sym (leaf_parts c.args.shape c.args.is_target c.args.e.now c.in-Variable.is))

pub expression-returns : goal.expression-returns
expression-returns t c =
    let ty = ap (λ (ty : ValueType). of_shape c.args.shape ty.shape c.value_bits.result) c.ty.ensures in
    let own : c.on_shape-own.result ≡ (room_of c.args.shape c.args.e.now).own c.args.is_target = c.on_shape-own.ensures ∙ ty ∙ sym (c.value_bits.ensures c.args.shape) in
    sum _ _ (whole own c.on_shape-own.type_inv) c.parts.ensures c.saturating_add.ensures

pub greatest_of-returns : goal.greatest_of-returns
unfolding greatest_part
greatest_of-returns t c =
    let none = at_drop_all (λ (es : List TExpr). greatest_part c.loop-e.e-index (map joined (map (room_of c.args.shape) es))) c.args.parts.now c.loop-e.e-index c.loop-e-test.false in
    greatest_of_all _ _ c.loop-e.invariant.1 none

pub greatest_of-loop-e-preserved : goal.greatest_of-loop-e-preserved
unfolding greatest_part
greatest_of-loop-e-preserved t c =
    let left = λ (es : List TExpr). greatest_part c.loop-e.e-index (map joined (map (room_of c.args.shape) es)) in
    let rest = drop (c.loop-e.e-index + 1) c.args.parts.now in
    let next = at_drop_more left c.args.parts.now c.loop-e.e-index c.e-item.result c.loop-e-test.true ∙ ap (λ (e : TExpr). left (e ∷ rest)) (sym c.e-item.is) in
    let taken = part c.loop-e.e-index _ c.loop-e.invariant.0 c.expression.ensures c.part.ensures in
    (omega (arith, c.loop-e.invariant.0), greatest_more _ _ _ _ c.loop-e.invariant.1 next taken c.max-greatest.ensures)
