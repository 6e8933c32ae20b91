use Rattle.std.proofs.Common.{rules, arith}
use Rattle.std.proofs.lemmas.Grind.{common_steps}
use Rattle.cstar_tree.specs.declared.typed.TExpr.{the_lemmas}
use Rattle.source_meaning.specs.Constants.{is_constant}
use Rattle.source_meaning.proofs.ConstantLaws.{brackets_parts, casts_parts, unary_parts, binary_parts, or_parts, and_parts, choice_types, choice_parts, below, within, number_below}
use Rattle.source_meaning.proofs.+value.Goals as goal

pub value-requires-in-Binary-2 : goal.value-requires-in-Binary-2
value-requires-in-Binary-2 t c = (first_of (search (rules, the_lemmas), grind (rules, the_lemmas), grind (arith, common_steps, the_lemmas)), rw c.deref-in-Binary-2.ensures (binary_parts _ _ _ _ _ _ _ (rw c.in-Binary.is at c.requires)).3)

pub value-requires-in-LogicalOr-2 : goal.value-requires-in-LogicalOr-2
value-requires-in-LogicalOr-2 t c = (first_of (search (rules, the_lemmas), grind (rules, the_lemmas), grind (arith, common_steps, the_lemmas)), rw c.deref-in-LogicalOr-2.ensures (or_parts _ _ _ _ _ (rw c.in-LogicalOr.is at c.requires)).3)

pub value-requires-in-LogicalAnd-2 : goal.value-requires-in-LogicalAnd-2
value-requires-in-LogicalAnd-2 t c = (first_of (search (rules, the_lemmas), grind (rules, the_lemmas), grind (arith, common_steps, the_lemmas)), rw c.deref-in-LogicalAnd-2.ensures (and_parts _ _ _ _ _ (rw c.in-LogicalAnd.is at c.requires)).3)

pub value-requires-then-branch-ne0-2 : goal.value-requires-then-branch-ne0-2
value-requires-then-branch-ne0-2 t c = (first_of (search (rules, the_lemmas), grind (rules, the_lemmas), grind (arith, common_steps, the_lemmas)), rw c.deref-then-branch-ne0-2.ensures (choice_parts _ _ _ _ _ _ _ (rw c.in-Choice.is at c.requires)).0)

pub value-requires-else-branch-ne0-2 : goal.value-requires-else-branch-ne0-2
value-requires-else-branch-ne0-2 t c = (first_of (search (rules, the_lemmas), grind (rules, the_lemmas), grind (arith, common_steps, the_lemmas)), rw c.deref-else-branch-ne0-2.ensures (choice_parts _ _ _ _ _ _ _ (rw c.in-Choice.is at c.requires)).1)

pub returns-in-Brackets-clause-bound : goal.returns-in-Brackets-clause-bound
returns-in-Brackets-clause-bound t c =
    rw c.in-Brackets.is (within c.value.result _ _ (brackets_parts _ _ _ (rw c.in-Brackets.is at c.requires)).1 (rw c.deref.ensures at c.value.ensures.bound))

pub returns-in_ok-word-in-Casts-clause-bound : goal.returns-in_ok-word-in-Casts-clause-bound
returns-in_ok-word-in-Casts-clause-bound t c =
    let by_items = rw c.deref-in-Casts-2.ensures.value at c.cast.ensures.bound in
    let by_type = rw c.ty.ensures at by_items in
    rw c.in-Casts.is (below c.cast.result _ _ (casts_parts _ _ _ _ (rw c.in-Casts.is at c.requires)).1 (rw c.deref-in-Casts-3.ensures at by_type))

pub returns-in_ok-word-in-Unary-clause-bound : goal.returns-in_ok-word-in-Unary-clause-bound
returns-in_ok-word-in-Unary-clause-bound t c =
    rw c.in-Unary.is (below c.unary.result _ 32 (unary_parts _ _ _ _ (rw c.in-Unary.is at c.requires)).1 c.unary.type_inv)

pub returns-in_ok-b-in-Binary-clause-bound : goal.returns-in_ok-b-in-Binary-clause-bound
returns-in_ok-b-in-Binary-clause-bound t c =
    rw c.in-Binary.is (within c.operated.result _ 32 (binary_parts _ _ _ _ _ _ _ (rw c.in-Binary.is at c.requires)).1 c.operated.ensures.bound)

pub returns-then-branch-ne0-2-clause-bound : goal.returns-then-branch-ne0-2-clause-bound
returns-then-branch-ne0-2-clause-bound t c =
    rw c.in-Choice.is
    (within c.value-then-branch-ne0-2.result _ _ (choice_types _ _ _ _ _ _ _ (rw c.in-Choice.is at c.requires)).1 (rw c.deref-then-branch-ne0-2.ensures at c.value-then-branch-ne0-2.ensures.bound))

pub returns-else-branch-ne0-2-clause-bound : goal.returns-else-branch-ne0-2-clause-bound
returns-else-branch-ne0-2-clause-bound t c =
    rw c.in-Choice.is
    (within c.value-else-branch-ne0-2.result _ _ (choice_types _ _ _ _ _ _ _ (rw c.in-Choice.is at c.requires)).2 (rw c.deref-else-branch-ne0-2.ensures at c.value-else-branch-ne0-2.ensures.bound))

pub returns-in-Number-clause-bound : goal.returns-in-Number-clause-bound
unfolding is_constant
returns-in-Number-clause-bound t c = rw c.in-Number.is (number_below c.in-Number.ty c.in-Number.value (rw c.in-Number.is at c.requires))

pub returns-in-PositionsOf-clause-bound : goal.returns-in-PositionsOf-clause-bound
unfolding is_constant
returns-in-PositionsOf-clause-bound t c = rw c.in-PositionsOf.is (number_below c.in-PositionsOf.ty c.in-PositionsOf.value (rw c.in-PositionsOf.is at c.requires))

pub returns-in-RankOf-clause-bound : goal.returns-in-RankOf-clause-bound
unfolding is_constant
returns-in-RankOf-clause-bound t c = rw c.in-RankOf.is (number_below c.in-RankOf.ty c.in-RankOf.value (rw c.in-RankOf.is at c.requires))

pub returns-in-DimOf-clause-bound : goal.returns-in-DimOf-clause-bound
unfolding is_constant
returns-in-DimOf-clause-bound t c = rw c.in-DimOf.is (number_below c.in-DimOf.ty c.in-DimOf.value (rw c.in-DimOf.is at c.requires))
