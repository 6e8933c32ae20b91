-- What the code of a tree relies on, so that there is such code: of the tree, and of the unit as it stands
-- where the tree comes.
use Rattle.std.specs.Prelude.{◌≡◌, ◌<◌, ℕ, false, List, length, take, slice_get, Some, None, is_none}
use Rattle.std.specs.List.{All}
use Rattle.cstar_tree.specs.declared.typed.Instance.{Instance}
use Rattle.cstar_tree.specs.declared.typed.TExpr.{TExpr, Row_of-TExpr, end_of-TExpr, more_of-TExpr}
use Rattle.cstar_tree.specs.declared.typed.TStmt.{TStmt}
use Rattle.cstar_tree.specs.declared.typed.Typed.{Typed}
use Rattle.cstar_tree.specs.declared.typed.VarInfo.{VarInfo}
use Rattle.cstar_tree.specs.declared.typed.Variable.{Variable}
use Rattle.lower_base.specs.declared.emit.Out.{Out}
use Rattle.lower_base.specs.declared.emit.Out.TheVariants as O
use Rattle.lower_base.specs.Drafts.{Draft, Fails, Made, Makes}
use Rattle.lower_base.specs.Layouts.{Layout, elements_of, entries_of, field_of, nothing_numbered, numbered, own_field}
use Rattle.lower_expr.specs.Steps.{is_kept}
use Rattle.code_lengths.specs.Growth.{Stands}
use Rattle.code_lengths.specs.Lowerable.{GivesValue, IsLowerable}
use Rattle.cstar_tree.specs.Variables.{variables_of}
use Rattle.code_lengths.specs.LowerableStatements.{IsLowerableStatement}
use Rattle.code_lengths.specs.Naming.{IsDeclared, NamesVariables, variable_named}
use Rattle.code_lengths.specs.NamingStatements.{StandFrom, StatementNamesVariables}
use Rattle.code_lengths.specs.Shaped.{IsShaped, IsTarget}
use Rattle.code_lengths.specs.ShapedStatements.{IsShapedStatement}

-- it is made, or this is so
unfoldable pub IsMadeOr : {A : Type 0} → Type 0 → Made A → Type 0
IsMadeOr lacks (Makes x d) = Unit {0}
IsMadeOr lacks Fails = lacks

-- Where so many variables of an instance's blocks are declared, each parallel variable has as many fields
-- as it has elements, the parallel result has one, or this is so where they are not there, and each instance has its
-- registers.
pub record IsReadyOr (lacks : Type 0) (t : Typed) (i : Instance) (l : Layout) (n : ℕ) (d : Draft) : Type 0 where
  pub elements : (v : Variable) (info : VarInfo) → variable_named t i v ≡ Some info → IsDeclared n v → is_none info.shape ≡ false → elements_of t l v ≡ entries_of info
  pub fields : (v : Variable) (info : VarInfo) (element : ℕ) →
      variable_named t i v ≡ Some info → IsDeclared n v → is_none info.shape ≡ false → element < entries_of info → IsMadeOr lacks (field_of t l v element d)
  pub result : (info : VarInfo) → i.result ≡ Some info → is_none info.shape ≡ false → IsMadeOr lacks (own_field l.outcome d)
  pub bases : length l.bases ≡ length t.instances.items

-- they are all there
abbrev pub IsReady : Typed → Instance → Layout → ℕ → Draft → Type 0
IsReady t i l n d = IsReadyOr ⊥ t i l n d

-- some may be missing: then there may be no code
abbrev pub IsReadyButForFields : Typed → Instance → Layout → ℕ → Draft → Type 0
IsReadyButForFields t i l n d = IsReadyOr (Unit {0}) t i l n d

-- how many of these variables are parallel
abbrev pub homes_of : List VarInfo → ℕ
homes_of infos = (numbered infos nothing_numbered).homes

-- The first variables of an instance's blocks are declared: the unit is ready for them, and each parallel one
-- has its home.
pub record HasDeclared (t : Typed) (i : Instance) (l : Layout) (n : ℕ) (d : Draft) : Type 0 where
  pub ready : IsReady t i l n d
  pub homes : length d.homes ≡ homes_of (take n (variables_of i.body))

-- a statement answers how many are declared behind it, and they are
abbrev pub Declares : Typed → Instance → Layout → ℕ → ℕ → Draft → Type 0
Declares t i l n m d = (m ≡ n) × HasDeclared t i l n d

-- the layout numbers the variables of the instance's blocks
abbrev pub NumbersVariables : Instance → Layout → Type 0
NumbersVariables i l = l.locals ≡ (numbered (variables_of i.body) nothing_numbered).locals

-- an expression that stands where so many variables are declared, and has code
pub record HasCode (t : Typed) (i : Instance) (n : ℕ) (e : TExpr) : Type 0 where
  pub shaped : IsShaped e
  pub lowerable : IsLowerable t e
  pub names : NamesVariables t i n e

unfoldable pub HaveCode : {k : _} → Typed → Instance → ℕ → Row_of-TExpr k → Type 0
HaveCode t i n end_of-TExpr = Unit {0}
HaveCode t i n (more_of-TExpr e rest) = HasCode t i n e × HaveCode t i n rest

-- the same of what can be assigned to
pub record IsPlace (t : Typed) (i : Instance) (n : ℕ) (e : TExpr) : Type 0 where
  pub target : IsTarget e
  pub lowerable : IsLowerable t e
  pub names : NamesVariables t i n e

-- the same of a statement of the instance's body, whose variables have their numbers from there on
pub record HasStatementCode (t : Typed) (i : Instance) (n : ℕ) (s : TStmt) : Type 0 where
  pub shaped : IsShapedStatement s
  pub lowerable : IsLowerableStatement t i.result s
  pub names : StatementNamesVariables t i n s
  pub stands : StandFrom (variables_of i.body) n (variables_of s)

-- no parameter is an array
abbrev pub HasPlainParameters : Instance → Type 0
HasPlainParameters i = All (λ (info : VarInfo). info.array ≡ None) i.params.items

-- a typed program whose instances have code
abbrev pub IsCodable : Typed → Type 0
IsCodable t = (number : ℕ) (i : Instance) → slice_get t.instances.items number ≡ Some i → HasPlainParameters i × HasStatementCode t i 0 i.body

-- the value of an expression stands where the expression says; one that gives none may be nowhere
unfoldable pub Arrives : Typed → TExpr → Out → Type 0
Arrives t e O.Nothing = GivesValue t e → ⊥
Arrives t e out = Stands (is_kept e) out
