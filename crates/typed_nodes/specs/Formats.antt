-- What is answered for a text of `printf`.
use Rattle.std.specs.Prelude.{◌≡◌, ℕ, List, Option, Some, None}
use Rattle.cstar_tree.specs.Formats.{conversions, pieces_of}
use Rattle.typed_nodes.specs.declared.format.Pieces.{Pieces}

-- its pieces, with how many values they ask for, or nothing where it is no text of `printf`
abbrev pub IsCut : List ℕ → Option Pieces → Type 0
IsCut text None = pieces_of text ≡ None
IsCut text (Some p) = (pieces_of text ≡ Some p.pieces.items) × (p.conversions ≡ conversions p.pieces.items)
