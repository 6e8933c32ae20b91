-- Each `break` and each `continue` of a typed statement stands in a loop, as typing has it.
use Rattle.std.specs.Prelude.{◌≡◌, Bool, true, false}
use Rattle.cstar_tree.specs.declared.syntax.Tree.{Tree}
use Rattle.cstar_tree.specs.declared.typed.Instance.{Instance}
use Rattle.cstar_tree.specs.declared.typed.TStmt.{TStmt, Row_of-TStmt, end_of-TStmt, more_of-TStmt, Held-TStmt-If-2, None', Some'}
use Rattle.cstar_tree.specs.declared.typed.TStmt as S
use Rattle.cstar_tree.specs.declared.typed.Typed.{Typed}
use Rattle.cstar_tree.specs.ProgramTypes.{TypesFile}
use Rattle.std.specs.List.{All}

unfoldable mutual
  -- the statement stands in a loop, or in none
  pub LeavesLoops : Bool → TStmt → Type 0
  LeavesLoops looped (S.Block' locals p statements) = AllLeaveLoops looped statements
  LeavesLoops looped (S.If' test p first second) = LeavesLoops looped first × ElseLeavesLoops looped second
  LeavesLoops looped (S.While' test p body) = LeavesLoops true body
  LeavesLoops looped (S.Do' p body test) = LeavesLoops true body
  LeavesLoops looped (S.For' first test step p body) = LeavesLoops true body
  LeavesLoops looped S.Break = looped ≡ true
  LeavesLoops looped S.Continue = looped ≡ true
  LeavesLoops looped (S.With' shape p body) = LeavesLoops looped body
  LeavesLoops looped (S.Everywhere' shape p body) = LeavesLoops looped body
  LeavesLoops looped (S.Where' shape test p first second) = LeavesLoops looped first × ElseLeavesLoops looped second
  LeavesLoops looped _ = Unit {0}

  pub AllLeaveLoops : {k : _} → Bool → Row_of-TStmt k → Type 0
  AllLeaveLoops looped end_of-TStmt = Unit {0}
  AllLeaveLoops looped (more_of-TStmt s rest) = LeavesLoops looped s × AllLeaveLoops looped rest

  pub ElseLeavesLoops : Bool → Held-TStmt-If-2 → Type 0
  ElseLeavesLoops looped None' = Unit {0}
  ElseLeavesLoops looped (Some' p s) = LeavesLoops looped s

-- so it is in the body of each instance
abbrev pub BreaksStandInLoops : Typed → Type 0
BreaksStandInLoops t = All (λ (i : Instance). LeavesLoops false i.body) t.instances.items

-- what the rules of typing give a file does
abbrev pub TypedFilesStayInLoops : Type 0
TypedFilesStayInLoops = (tree : Tree) (typed : Typed) → TypesFile tree typed → BreaksStandInLoops typed
