use Rattle.std.proofs.Common.{◌≡◌, true}
use Rattle.type_scopes.specs.Bindings.{bindings}
use Rattle.type_statements.specs.Places.{IsGrown}
use Rattle.type_expressions.specs.Instances.{Grows}
use Rattle.type_statements.proofs.Listed.{AreDeclaredTo}
use Rattle.type_statements.proofs.Meetings.{AreDeclaredMet}
use Rattle.type_statements.proofs.declarations.declarations.Given as goal

abbrev pub invariant-loop-written : goal.invariant-loop-written
invariant-loop-written l =
    IsGrown (bindings l.fn.scopes.locals) (bindings l.scopes.locals)
    × (l.complete ≡ true → AreDeclaredTo l.found.instances l.file l.fn.scopes l.scopes l.site l.scope l.declarations l.written-index l.locals.items)
    × Grows l.file l.fn.found.instances l.found.instances
    × (l.complete ≡ true → AreDeclaredMet l.fn.found.instances l.found.instances l.file l.fn.scopes l.site l.scope l.declarations l.written-index)
