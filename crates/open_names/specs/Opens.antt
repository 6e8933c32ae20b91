-- The variables of blocks that are open where they are named: those of the blocks around a place that are
-- declared before it, or in whose own initialiser it is.
use Rattle.std.specs.Prelude.{◌≡◌, ◌≤◌, ◌<◌, ◌⊎◌, ℕ, ◌+◌, List, [], ◌∷◌, length, Some, IfSome}
use Rattle.cstar_tree.specs.declared.typed.LocalVar.{LocalVar}
use Rattle.cstar_tree.specs.declared.typed.TExpr.{TExpr, Row_of-TExpr, end_of-TExpr, more_of-TExpr}
use Rattle.cstar_tree.specs.declared.typed.TExpr as T
use Rattle.cstar_tree.specs.declared.typed.TStmt.{TStmt, Row_of-TStmt, end_of-TStmt, more_of-TStmt, Held-TStmt-If-2, None', Some'}
use Rattle.cstar_tree.specs.declared.typed.TStmt as S
use Rattle.cstar_tree.specs.declared.typed.Variable.{Variable}
use Rattle.cstar_tree.specs.declared.typed.Variable.TheVariants as V
use Rattle.cstar_tree.specs.Scopes.{Here, VariableType, a_variable, meaning}
use Rattle.code_lengths.specs.NamingStatements.{behind}

-- an open block: the number of its first variable among those of the instance's blocks, in text order, and
-- how many of its variables are declared
pub record OpenBlock : Type 0 where
  pub first : ℕ
  pub many : ℕ

-- the blocks that are open at a place, the innermost first
abbrev pub Open : Type 0
Open = List OpenBlock

-- one more, with so many variables, which are numbered from n on
abbrev pub opened : Open → ℕ → ℕ → Open
opened blocks n many = record { first = n; many = many } ∷ blocks

-- the variable of this number is one of theirs
unfoldable pub IsAmong : Open → ℕ → Type 0
IsAmong [] k = ⊥
IsAmong (b ∷ blocks) k = ((b.first ≤ k) × (k < b.first + b.many)) ⊎ IsAmong blocks k

-- a variable of the file or a parameter is always open
unfoldable pub IsOpen : Open → Variable → Type 0
IsOpen blocks (V.Local k) = IsAmong blocks k
IsOpen blocks _ = Unit {0}

-- the variables that are known at a place are open
abbrev pub KnowsOpen : Open → Here → Type 0
KnowsOpen blocks here = (word : List ℕ) (v : Variable) (ty : VariableType) → meaning here word ≡ Some (a_variable v (Some ty)) → IsOpen blocks v

-- ---- expressions

unfoldable mutual
  pub NamesOpen : Open → TExpr → Type 0
  NamesOpen blocks (T.Assign' ty place op p target q value) = NamesOpen blocks target × NamesOpen blocks value
  NamesOpen blocks (T.Choice' ty p test q first r second) = NamesOpen blocks test × NamesOpen blocks first × NamesOpen blocks second
  NamesOpen blocks (T.LogicalOr' ty p left q right) = NamesOpen blocks left × NamesOpen blocks right
  NamesOpen blocks (T.LogicalAnd' ty p left q right) = NamesOpen blocks left × NamesOpen blocks right
  NamesOpen blocks (T.Binary' ty place op p left q right) = NamesOpen blocks left × NamesOpen blocks right
  NamesOpen blocks (T.Unary' ty op p operand) = NamesOpen blocks operand
  NamesOpen blocks (T.Step' ty op order p target) = NamesOpen blocks target
  NamesOpen blocks (T.Reduce' ty op p operand) = NamesOpen blocks operand
  NamesOpen blocks (T.Casts' ty elems p operand) = NamesOpen blocks operand
  NamesOpen blocks (T.ParallelCast' ty p operand) = NamesOpen blocks operand
  NamesOpen blocks (T.Convert' ty p operand) = NamesOpen blocks operand
  NamesOpen blocks (T.Promote' ty p operand) = NamesOpen blocks operand
  NamesOpen blocks (T.Variable ty x) = IsOpen blocks x
  NamesOpen blocks (T.Element' ty place array p index) = IsOpen blocks array × NamesOpen blocks index
  NamesOpen blocks (T.Brackets' ty p inner) = NamesOpen blocks inner
  NamesOpen blocks (T.Call' ty instance p arguments) = AllNameOpen blocks arguments
  NamesOpen blocks (T.LeftIndex' ty place p indexes x of) = IsOpen blocks x × AllNameOpen blocks indexes
  NamesOpen blocks (T.Scan' ty p source axis combiner direction mode bit within) = IfSome bit (IsOpen blocks) × NamesOpen blocks source
  NamesOpen blocks (T.Enumerate ty axis direction within mode bit) = IfSome bit (IsOpen blocks)
  NamesOpen blocks (T.Printf' ty pieces p arguments) = AllNameOpen blocks arguments
  NamesOpen blocks _ = Unit {0}

  pub AllNameOpen : {k : _} → Open → Row_of-TExpr k → Type 0
  AllNameOpen blocks end_of-TExpr = Unit {0}
  AllNameOpen blocks (more_of-TExpr e rest) = NamesOpen blocks e × AllNameOpen blocks rest

-- ---- statements

-- The initialiser of each of a block's variables, which are numbered from n on: that variable is open there,
-- and so are the block's variables before it, of which there are so many.
unfoldable pub InitialsNameOpen : Open → ℕ → ℕ → List LocalVar → Type 0
InitialsNameOpen blocks n before [] = Unit {0}
InitialsNameOpen blocks n before (local ∷ locals) = IfSome local.initial (NamesOpen (opened blocks n (before + 1))) × InitialsNameOpen blocks n (before + 1) locals

unfoldable mutual
  -- the variables that the statement declares are numbered from n on, and open in their block alone
  pub StatementNamesOpen : Open → ℕ → TStmt → Type 0
  StatementNamesOpen blocks n (S.Block' locals p statements) =
      InitialsNameOpen blocks n 0 locals.items × StatementsNameOpen (opened blocks n (length locals.items)) (n + length locals.items) statements
  StatementNamesOpen blocks n (S.Expression e) = NamesOpen blocks e
  StatementNamesOpen blocks n (S.If' test p first second) = NamesOpen blocks test × StatementNamesOpen blocks n first × ElseNamesOpen blocks (behind n first) second
  StatementNamesOpen blocks n (S.While' test p body) = NamesOpen blocks test × StatementNamesOpen blocks n body
  StatementNamesOpen blocks n (S.Do' p body test) = StatementNamesOpen blocks n body × NamesOpen blocks test
  StatementNamesOpen blocks n (S.For' first test step p body) =
      IfSome first (NamesOpen blocks) × IfSome test (NamesOpen blocks) × IfSome step (NamesOpen blocks) × StatementNamesOpen blocks n body
  StatementNamesOpen blocks n (S.Return e) = IfSome e (NamesOpen blocks)
  StatementNamesOpen blocks n (S.With' shape p body) = StatementNamesOpen blocks n body
  StatementNamesOpen blocks n (S.Everywhere' shape p body) = StatementNamesOpen blocks n body
  StatementNamesOpen blocks n (S.Where' shape test p first second) = NamesOpen blocks test × StatementNamesOpen blocks n first × ElseNamesOpen blocks (behind n first) second
  StatementNamesOpen blocks n _ = Unit {0}

  pub StatementsNameOpen : {k : _} → Open → ℕ → Row_of-TStmt k → Type 0
  StatementsNameOpen blocks n end_of-TStmt = Unit {0}
  StatementsNameOpen blocks n (more_of-TStmt s rest) = StatementNamesOpen blocks n s × StatementsNameOpen blocks (behind n s) rest

  pub ElseNamesOpen : Open → ℕ → Held-TStmt-If-2 → Type 0
  ElseNamesOpen blocks n None' = Unit {0}
  ElseNamesOpen blocks n (Some' p s) = StatementNamesOpen blocks n s
