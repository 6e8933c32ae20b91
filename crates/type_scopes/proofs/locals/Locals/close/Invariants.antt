use Rattle.std.proofs.Common.{◌≡◌, ◌-◌, ◌≤◌, drop, length, map, reverse}
use Rattle.type_scopes.specs.Bindings.{bound}
use Rattle.type_scopes.specs.Links.{words_of}
use Rattle.type_scopes.proofs.locals.Locals.close.Given as goal

abbrev pub invariant-loop : goal.invariant-loop
invariant-loop l =
    (map (bound (words_of l.self.innermost.entries)) (reverse l.self.declared.items)
    ≡ drop (l.counter - l.scope) (map (bound (words_of l.fn.self.innermost.entries)) (reverse l.fn.self.declared.items)))
    × (length l.fn.self.declared.items ≤ l.scope → l.counter ≤ l.scope)
