use Rattle.std.proofs.Common.{◌≡◌, ℕ, List, map}
use Rattle.std.specs.String.{string_bytes}
use Rattle.batch_top.proofs.Fetching.{Fetched}
use Rattle.batch_top.proofs.fetch.fetch_all.Given as goal

abbrev pub invariant-names : goal.invariant-names
invariant-names g l =
    Fetched g.S.Shelf.tells g.S.Shelf.file l.fn.shelf (map string_bytes l.names) l.texts.items l.name-index
    × (g.S.Shelf.faults l.shelf ≡ g.S.Shelf.faults l.fn.shelf)
    × (g.S.Shelf.tells l.shelf ≡ g.S.Shelf.tells l.fn.shelf)
    × ((name : List ℕ) → g.S.Shelf.file l.shelf name ≡ g.S.Shelf.file l.fn.shelf name)
