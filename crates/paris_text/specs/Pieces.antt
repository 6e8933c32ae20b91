-- The pieces that a line is put together from.
use Rattle.std.specs.Prelude.{ℕ, List, decimal}
use Rattle.paris_text.specs.declared.pieces.Piece.{Piece}
use Rattle.paris_text.specs.declared.pieces.Piece.TheVariants as P

-- a text as it is, or a number in decimal
abbrev pub piece_text : Piece → List ℕ
piece_text (P.Text text) = text.now
piece_text (P.Number n) = decimal n
