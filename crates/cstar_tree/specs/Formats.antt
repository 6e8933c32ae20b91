-- The text of `printf`, cut into pieces.
use Rattle.std.specs.Prelude.{ℕ, ◌+◌, ◌==◌, List, [], ◌∷◌, ◌++◌, Option, Some, None, if◌then◌else◌}
use Rattle.cstar_base.specs.declared.formats.NumberFormat.{NumberFormat}
use Rattle.cstar_base.specs.declared.formats.NumberFormat.TheVariants as F
use Rattle.cstar_tree.specs.declared.typed.Piece.{Piece}
use Rattle.cstar_tree.specs.declared.typed.Piece.TheVariants as P

-- the conversion that the byte behind a `%` names: `d`, `u`, `x`, `o` or `c`
unfoldable pub format_of : ℕ → Option NumberFormat
format_of b =
    if b == 100 then Some F.Signed
    else if b == 117 then Some F.Unsigned
    else if b == 120 then Some F.Hexadecimal
    else if b == 111 then Some F.Octal
    else if b == 99 then Some F.Character
    else None

-- a run of bytes as a piece, if it has any
abbrev pub run : List ℕ → List Piece
run [] = []
run (b ∷ bs) = P.Bytes (b ∷ bs) ∷ []

-- the pieces behind a conversion
abbrev pub behind : List ℕ → Option NumberFormat → Option (List Piece) → Option (List Piece)
behind bytes None rest = None
behind bytes (Some format) None = None
behind bytes (Some format) (Some rest) = Some (run bytes ++ P.Argument format ∷ rest)

-- the text cut behind the bytes of a run; `%%` is the byte `%`, and a `%` before any other byte
-- than these six, or at the end, is no form of `printf`
unfoldable mutual
  pub pieces_behind : List ℕ → List ℕ → Option (List Piece)
  pieces_behind bytes [] = Some (run bytes)
  pieces_behind bytes (b ∷ rest) = if b == 37 then form_behind bytes rest else pieces_behind (bytes ++ b ∷ []) rest

  pub form_behind : List ℕ → List ℕ → Option (List Piece)
  form_behind bytes [] = None
  form_behind bytes (b ∷ rest) = if b == 37 then pieces_behind (bytes ++ b ∷ []) rest else behind bytes (format_of b) (pieces_behind [] rest)

abbrev pub pieces_of : List ℕ → Option (List Piece)
pieces_of text = pieces_behind [] text

-- how many values the pieces ask for
unfoldable pub conversions : List Piece → ℕ
conversions [] = 0
conversions (P.Bytes bytes ∷ rest) = conversions rest
conversions (P.Argument format ∷ rest) = 1 + conversions rest
