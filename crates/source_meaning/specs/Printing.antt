-- What `printf` prints.
use Rattle.std.specs.Prelude.{ℕ, List, [], ◌∷◌, ◌++◌}
use Rattle.cstar_base.specs.Numerals.{word_text}
use Rattle.cstar_tree.specs.declared.typed.Piece.{Piece}
use Rattle.cstar_tree.specs.declared.typed.Piece.TheVariants as P

-- the bytes of pieces, each of which prints its text or the next argument
unfoldable pub printed : List Piece → List ℕ → List ℕ
printed [] arguments = []
printed (P.Bytes text ∷ pieces) arguments = text ++ printed pieces arguments
printed (P.Argument format ∷ pieces) [] = printed pieces []
printed (P.Argument format ∷ pieces) (w ∷ arguments) = word_text format w ++ printed pieces arguments
