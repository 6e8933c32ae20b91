use Rattle.std.proofs.Common.{◌≡◌, ◌+◌, ◌*◌, true}
use Rattle.type_scopes.specs.Bindings.{bindings}
use Rattle.type_expressions.specs.Instances.{Grows}
use Rattle.type_statements.proofs.Listed.{AreTypedTo}
use Rattle.type_statements.proofs.Meetings.{AreMetTo}
use Rattle.type_statements.proofs.statements.+statement.Given as goal

abbrev pub decreases-block : goal.decreases-block
decreases-block l = goal.size-block l * 8 + 3

abbrev pub decreases-block_in : goal.decreases-block_in
decreases-block_in l = goal.size-block_in l * 8 + 2

abbrev pub decreases-statement : goal.decreases-statement
decreases-statement l = goal.size-statement l * 8 + 1

abbrev pub decreases-chosen : goal.decreases-chosen
decreases-chosen l = goal.size-chosen l * 8 + 0

abbrev pub decreases-under : goal.decreases-under
decreases-under l = goal.size-under l * 8 + 0

abbrev pub decreases-repeated : goal.decreases-repeated
decreases-repeated l = goal.size-repeated l * 8 + 0

abbrev pub invariant-block_in-loop-s : goal.invariant-block_in-loop-s
invariant-block_in-loop-s l =
    (bindings l.scopes.locals ≡ bindings l.initial.scopes.locals)
    × (l.complete ≡ true → AreTypedTo l.found.instances l.file l.initial.scopes l.scopes l.site l.s-items l.s-index l.statements.items)
    × (l.locals ≡ l.initial.locals)
    × Grows l.file l.initial.found.instances l.found.instances
    × (l.complete ≡ true → AreMetTo l.initial.found.instances l.found.instances l.file l.initial.scopes l.site l.s-items l.s-index)
