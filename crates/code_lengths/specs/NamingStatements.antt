-- The variables that a typed statement names are those of the program and of the instance in which it
-- stands, of those of its blocks the ones that are declared before, and those that it declares have
-- their numbers among the instance's.
use Rattle.std.specs.Prelude.{◌≡◌, ℕ, ◌+◌, List, [], ◌∷◌, ◌++◌, length, IfSome}
use Rattle.cstar_tree.specs.declared.typed.Instance.{Instance}
use Rattle.cstar_tree.specs.declared.typed.LocalVar.{LocalVar}
use Rattle.cstar_tree.specs.declared.typed.TStmt.{TStmt, Row_of-TStmt, end_of-TStmt, more_of-TStmt, Held-TStmt-If-2, None', Some'}
use Rattle.cstar_tree.specs.declared.typed.TStmt as S
use Rattle.cstar_tree.specs.declared.typed.Typed.{Typed}
use Rattle.cstar_tree.specs.declared.typed.VarInfo.{VarInfo}
use Rattle.cstar_tree.specs.Variables.{variables_of}
use Rattle.code_lengths.specs.Naming.{NamesVariables}

-- these variables stand among all, from a number on
pub record StandFrom (all : List VarInfo) (number : ℕ) (own : List VarInfo) : Type 0 where
  pub before : List VarInfo
  pub behind : List VarInfo
  pub all_are : all ≡ before ++ (own ++ behind)
  pub number_is : length before ≡ number

-- the initialiser of each of a block's variables stands behind that variable and those before it
unfoldable pub InitialsNameVariables : Typed → Instance → ℕ → List LocalVar → Type 0
InitialsNameVariables t i n [] = Unit {0}
InitialsNameVariables t i n (local ∷ locals) = IfSome local.initial (NamesVariables t i (n + 1)) × InitialsNameVariables t i (n + 1) locals

-- so many variables are declared behind a statement, where so many are before it
abbrev pub behind : ℕ → TStmt → ℕ
behind n s = n + length (variables_of s)

unfoldable mutual
  -- the statement stands where so many variables of the blocks are declared
  pub StatementNamesVariables : Typed → Instance → ℕ → TStmt → Type 0
  StatementNamesVariables t i n (S.Block' locals p statements) =
      InitialsNameVariables t i n locals.items × StatementsNameVariables t i (n + length locals.items) statements
  StatementNamesVariables t i n (S.Expression e) = NamesVariables t i n e
  StatementNamesVariables t i n (S.If' test p first second) =
      NamesVariables t i n test × StatementNamesVariables t i n first × ElseNamesVariables t i (behind n first) second
  StatementNamesVariables t i n (S.While' test p body) = NamesVariables t i n test × StatementNamesVariables t i n body
  StatementNamesVariables t i n (S.Do' p body test) = StatementNamesVariables t i n body × NamesVariables t i n test
  StatementNamesVariables t i n (S.For' first test step p body) =
      IfSome first (NamesVariables t i n) × IfSome test (NamesVariables t i n) × IfSome step (NamesVariables t i n) × StatementNamesVariables t i n body
  StatementNamesVariables t i n (S.Return e) = IfSome e (NamesVariables t i n)
  StatementNamesVariables t i n (S.With' shape p body) = StatementNamesVariables t i n body
  StatementNamesVariables t i n (S.Everywhere' shape p body) = StatementNamesVariables t i n body
  StatementNamesVariables t i n (S.Where' shape test p first second) =
      NamesVariables t i n test × StatementNamesVariables t i n first × ElseNamesVariables t i (behind n first) second
  StatementNamesVariables t i n _ = Unit {0}

  pub StatementsNameVariables : {k : _} → Typed → Instance → ℕ → Row_of-TStmt k → Type 0
  StatementsNameVariables t i n end_of-TStmt = Unit {0}
  StatementsNameVariables t i n (more_of-TStmt s rest) = StatementNamesVariables t i n s × StatementsNameVariables t i (behind n s) rest

  pub ElseNamesVariables : Typed → Instance → ℕ → Held-TStmt-If-2 → Type 0
  ElseNamesVariables t i n None' = Unit {0}
  ElseNamesVariables t i n (Some' p s) = StatementNamesVariables t i n s
