use Rattle.std.proofs.Common.{◌≡◌, true}
use Rattle.type_scopes.specs.Bindings.{bindings}
use Rattle.type_statements.specs.Places.{IsGrown}
use Rattle.type_expressions.specs.Instances.{Grows}
use Rattle.type_statements.proofs.Listed.{AreLocals}
use Rattle.type_statements.proofs.Meetings.{AreLocalsMet}
use Rattle.type_statements.proofs.declarations.declaration.Given as goal

abbrev pub invariant-loop-declarator : goal.invariant-loop-declarator
invariant-loop-declarator l =
    IsGrown (bindings l.fn.scopes.locals) (bindings l.scopes.locals)
    × (l.complete ≡ true → AreLocals l.found.instances l.file l.fn.scopes l.scopes l.site l.scope l.ty l.declarator-items l.declarator-index l.fn.locals.items l.locals.items)
    × Grows l.file l.fn.found.instances l.found.instances
    × (l.complete ≡ true → AreLocalsMet l.fn.found.instances l.found.instances l.file l.fn.scopes l.site l.scope l.ty l.declarator-items l.declarator-index)
