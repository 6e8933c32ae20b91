-- The statements of a block, as a list.
use Rattle.std.proofs.Common.{◌≡◌, ℕ, false, List, [], ◌∷◌, Vec, Global, refl, ap, sym, ◌∙◌}
use mathlib.Core.Former.{Count}
use Rattle.cstar_tree.specs.declared.typed.LocalVar.{LocalVar}
use Rattle.cstar_tree.specs.declared.typed.TStmt.{TStmt, Row_of-TStmt, end_of-TStmt, more_of-TStmt, items-the_row-TStmt, items_hidden-the_row-TStmt-0}
use Rattle.cstar_tree.specs.declared.typed.TStmt as S
use Rattle.cstar_tree.specs.declared.typed.Typed.{Typed}
use Rattle.paris_code.specs.declared.operands.Field.{Field}
use Rattle.lower_base.specs.Drafts.{Draft, Made, Makes, Fails, then_make}
use Rattle.lower_base.specs.Layouts.{Layout}
use Rattle.lower_stmt.specs.declared.statement.Frame.{Frame}
use Rattle.lower_stmt.specs.Statements.{block_of, body_of, listed, statement_of, statements_of}
use Rattle.lower_stmt.specs.Variables.{declared}

same_next : (made : Made ℕ) (next other : ℕ → Draft → Made ℕ) → ((m : ℕ) (d : Draft) → next m d ≡ other m d) →
    then_make made next ≡ then_make made other
unfolding then_make
same_next (Makes m d) next other same = same m d
same_next Fails next other same = refl

as_list : (t : Typed) (l : Layout) (f : Frame) (contexts : List Field) (k : _) (row : Row_of-TStmt k) (n : ℕ) (d : Draft) →
    statements_of t l row f contexts n d ≡ listed t l (items-the_row-TStmt k row) f contexts n d
unfolding statements_of listed
as_list t l f contexts k end_of-TStmt n d = refl
as_list t l f contexts k (more_of-TStmt s rest) n d =
    same_next (statement_of t l s f contexts n d) _ _ (λ m after. as_list t l f contexts _ rest m after)

abbrev row_of : TStmt → (n : Count) × Row_of-TStmt n
row_of (S.Block' locals p statements) = (_, statements)
row_of _ = (_, end_of-TStmt)

pub block_code : (t : Typed) (l : Layout) (locals : Vec LocalVar Global) (statements : Vec TStmt Global) (f : Frame) (contexts : List Field) (n : ℕ) (d : Draft) →
    statement_of t l (S.Block locals statements) f contexts n d ≡ block_of t l false locals.items statements.items f contexts n d
unfolding statement_of statements_of block_of
block_code t l locals statements f contexts n d =
    let row = row_of (S.Block locals statements) in
    same_next (declared t l false locals.items n d) _ _
    (λ m after. as_list t l f contexts row.0 row.1 m after
    ∙ ap (λ xs. listed t l xs f contexts m after) (items_hidden-the_row-TStmt-0 statements))

-- the code of a statement that is a block with these lists
pub block_listed : (t : Typed) (l : Layout) (s : TStmt) (locals : Vec LocalVar Global) (statements : Vec TStmt Global) (infos : List LocalVar) (list : List TStmt) (f : Frame) (contexts : List Field) (n : ℕ) (d : Draft) →
    s ≡ S.Block locals statements → infos ≡ locals.items → list ≡ statements.items → statement_of t l s f contexts n d ≡ block_of t l false infos list f contexts n d
block_listed t l s locals statements infos list f contexts n d is same all =
    ap (λ s. statement_of t l s f contexts n d) is ∙ block_code t l locals statements f contexts n d
    ∙ ap (λ xs. block_of t l false xs statements.items f contexts n d) (sym same) ∙ ap (λ xs. block_of t l false infos xs f contexts n d) (sym all)

pub body_code : (t : Typed) (l : Layout) (locals : Vec LocalVar Global) (statements : Vec TStmt Global) (f : Frame) (d : Draft) →
    body_of t l f (S.Block locals statements) d ≡ block_of t l f.is_main locals.items statements.items f [] 0 d
unfolding body_of block_of
body_code t l locals statements f d =
    let row = row_of (S.Block locals statements) in
    same_next (declared t l f.is_main locals.items 0 d) _ _
    (λ m after. as_list t l f [] row.0 row.1 m after
    ∙ ap (λ xs. listed t l xs f [] m after) (items_hidden-the_row-TStmt-0 statements))

-- the code of a body that is a block with these lists
pub body_listed : (t : Typed) (l : Layout) (s : TStmt) (locals : Vec LocalVar Global) (statements : Vec TStmt Global) (infos : List LocalVar) (list : List TStmt) (f : Frame) (contexts : List Field) (n : ℕ) (d : Draft) →
    contexts ≡ [] → n ≡ 0 → s ≡ S.Block locals statements → infos ≡ locals.items → list ≡ statements.items → body_of t l f s d ≡ block_of t l f.is_main infos list f contexts n d
body_listed t l s locals statements infos list f contexts n d none first is same all =
    ap (λ s. body_of t l f s d) is ∙ body_code t l locals statements f d
    ∙ ap (λ xs. block_of t l f.is_main xs statements.items f [] 0 d) (sym same) ∙ ap (λ xs. block_of t l f.is_main infos xs f [] 0 d) (sym all)
    ∙ ap (λ k. block_of t l f.is_main infos list f [] k d) (sym first) ∙ ap (λ saved. block_of t l f.is_main infos list f saved n d) (sym none)
