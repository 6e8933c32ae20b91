-- What the code of a statement relies on beside its shapes, in a function with this result, or none: that
-- of its expressions, and where their values stand.
use Rattle.std.specs.Prelude.{◌≡◌, Option, None, IfSome}
use Rattle.std.specs.List.{All}
use Rattle.cstar_tree.specs.declared.typed.LocalVar.{LocalVar}
use Rattle.cstar_tree.specs.declared.typed.TExpr.{TExpr}
use Rattle.cstar_tree.specs.declared.typed.TStmt.{TStmt, Row_of-TStmt, end_of-TStmt, more_of-TStmt, Held-TStmt-If-2, None', Some'}
use Rattle.cstar_tree.specs.declared.typed.TStmt as S
use Rattle.cstar_tree.specs.declared.typed.Typed.{Typed}
use Rattle.cstar_tree.specs.declared.typed.VarInfo.{VarInfo}
use Rattle.code_lengths.specs.Lowerable.{InField, InRegister, IsLowerable, IsValueFor}

-- a condition that stands in a register
abbrev pub IsTest : Typed → TExpr → Type 0
IsTest t e = InRegister t e × IsLowerable t e

-- an initialiser is a value for its variable, which is no array
abbrev pub IsLowerableLocal : Typed → LocalVar → Type 0
IsLowerableLocal t local = IfSome local.initial (λ (e : TExpr). (local.info.array ≡ None) × IsValueFor t local.info.shape e × IsLowerable t e)

-- what is given back is a value for the function's result
abbrev pub IsGivenBack : Typed → Option VarInfo → TExpr → Type 0
IsGivenBack t result e = IfSome result (λ (info : VarInfo). IsValueFor t info.shape e) × IsLowerable t e

unfoldable mutual
  pub IsLowerableStatement : Typed → Option VarInfo → TStmt → Type 0
  IsLowerableStatement t result (S.Block' locals p statements) = All (IsLowerableLocal t) locals.items × AreLowerableStatements t result statements
  IsLowerableStatement t result (S.Expression e) = IsLowerable t e
  IsLowerableStatement t result (S.If' test p first second) = IsTest t test × IsLowerableStatement t result first × IsLowerableElse t result second
  IsLowerableStatement t result (S.While' test p body) = IsTest t test × IsLowerableStatement t result body
  IsLowerableStatement t result (S.Do' p body test) = IsLowerableStatement t result body × IsTest t test
  IsLowerableStatement t result (S.For' first test step p body) =
      IfSome first (IsLowerable t) × IfSome test (IsTest t) × IfSome step (IsLowerable t) × IsLowerableStatement t result body
  IsLowerableStatement t result (S.Return e) = IfSome e (IsGivenBack t result)
  IsLowerableStatement t result (S.With' shape p body) = IsLowerableStatement t result body
  IsLowerableStatement t result (S.Everywhere' shape p body) = IsLowerableStatement t result body
  -- the condition of `where` stands in a field
  IsLowerableStatement t result (S.Where' shape test p first second) =
      InField t test × IsLowerable t test × IsLowerableStatement t result first × IsLowerableElse t result second
  IsLowerableStatement t result _ = Unit {0}

  pub AreLowerableStatements : {n : _} → Typed → Option VarInfo → Row_of-TStmt n → Type 0
  AreLowerableStatements t result end_of-TStmt = Unit {0}
  AreLowerableStatements t result (more_of-TStmt s rest) = IsLowerableStatement t result s × AreLowerableStatements t result rest

  pub IsLowerableElse : Typed → Option VarInfo → Held-TStmt-If-2 → Type 0
  IsLowerableElse t result None' = Unit {0}
  IsLowerableElse t result (Some' p s) = IsLowerableStatement t result s
