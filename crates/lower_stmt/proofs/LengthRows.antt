-- The statements of a block, as a list.
use Rattle.std.proofs.Common.{◌≡◌, ℕ, ◌+◌, Bool, false, List, [], ◌∷◌, Vec, Global, refl, ap, ◌∙◌}
use mathlib.Core.Former.{Count}
use Rattle.cstar_tree.specs.declared.typed.LocalVar.{LocalVar}
use Rattle.cstar_tree.specs.declared.typed.TStmt.{TStmt, Row_of-TStmt, end_of-TStmt, more_of-TStmt, items-the_row-TStmt, items_hidden-the_row-TStmt-0}
use Rattle.cstar_tree.specs.declared.typed.TStmt as S
use Rattle.cstar_tree.specs.declared.typed.Typed.{Typed}
use Rattle.lower_base.specs.Layouts.{Layout}
use Rattle.lower_stmt.specs.Lengths.{locals_length_of, statement_length_of, statements_length_of}
use Rattle.lower_stmt.specs.declared.length.Saved.{Saved}

-- statements in a list, one behind the other
unfoldable pub listed_length : Typed → Layout → Bool → Saved → List TStmt → ℕ
listed_length t l has_result saved [] = 0
listed_length t l has_result saved (s ∷ rest) = statement_length_of t l has_result saved s + listed_length t l has_result saved rest

as_list : (t : Typed) (l : Layout) (has_result : Bool) (saved : Saved) (n : _) (row : Row_of-TStmt n) →
    statements_length_of t l has_result saved row ≡ listed_length t l has_result saved (items-the_row-TStmt n row)
unfolding statements_length_of listed_length
as_list t l has_result saved n end_of-TStmt = refl
as_list t l has_result saved n (more_of-TStmt s rest) = ap (λ k. statement_length_of t l has_result saved s + k) (as_list t l has_result saved _ rest)

abbrev row_of : TStmt → (n : Count) × Row_of-TStmt n
row_of (S.Block' locals p statements) = (_, statements)
row_of _ = (_, end_of-TStmt)

pub block_length : (t : Typed) (l : Layout) (has_result : Bool) (saved : Saved) (locals : Vec LocalVar Global) (statements : Vec TStmt Global) →
    statement_length_of t l has_result saved (S.Block locals statements)
    ≡ locals_length_of t l false locals.items + listed_length t l has_result saved statements.items
unfolding statement_length_of statements_length_of
block_length t l has_result saved locals statements =
    let row = row_of (S.Block locals statements) in
    ap (λ k. locals_length_of t l false locals.items + k)
    (as_list t l has_result saved row.0 row.1 ∙ ap (listed_length t l has_result saved) (items_hidden-the_row-TStmt-0 statements))
