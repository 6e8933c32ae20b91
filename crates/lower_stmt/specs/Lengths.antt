-- How many instructions a statement compiles to.
use Rattle.std.specs.Prelude.{ℕ, ◌+◌, Bool, true, false, List, [], ◌∷◌, Option, Some, None, is_none, if◌then◌else◌}
use Rattle.cstar_tree.specs.declared.typed.LocalVar.{LocalVar}
use Rattle.cstar_tree.specs.declared.typed.TExpr.{TExpr}
use Rattle.cstar_tree.specs.declared.typed.TStmt.{TStmt, Row_of-TStmt, end_of-TStmt, more_of-TStmt, Held-TStmt-If-2, None', Some'}
use Rattle.cstar_tree.specs.declared.typed.TStmt as S
use Rattle.cstar_tree.specs.declared.typed.Typed.{Typed}
use Rattle.cstar_tree.specs.declared.typed.VarInfo.{VarInfo}
use Rattle.cstar_tree.specs.Typed.{type_of}
use Rattle.lower_base.specs.Layouts.{Layout, entries_of}
use Rattle.lower_expr.specs.Effects.{effect_length_of, own_bits, put_length}
use Rattle.lower_expr.specs.Lengths.{tested_length, used_length_of}
use Rattle.lower_stmt.specs.declared.length.Saved.{Saved}
use Rattle.lower_stmt.specs.Variables.{is_kept_so}

-- one more context is saved
unfoldable pub one_more : Saved → Saved
one_more saved = record { in_loop = saved.in_loop + 1; in_all = saved.in_all + 1 }

-- none is saved yet in a loop that begins here
unfoldable pub at_loop : Saved → Saved
at_loop saved = record { in_loop = 0; in_all = saved.in_all }

-- a part of a `for`, which may be left out
unfoldable pub part_length_of : Typed → Layout → Option TExpr → ℕ
part_length_of t l None = 0
part_length_of t l (Some e) = effect_length_of t l e

-- its condition, which may be left out too
unfoldable pub condition_length_of : Typed → Layout → Option TExpr → ℕ
condition_length_of t l None = 0
condition_length_of t l (Some e) = used_length_of t l 32 true e

-- a variable becomes zero: one instruction, or one for each field
unfoldable pub clear_length_of : Bool → LocalVar → ℕ
clear_length_of at_start local =
    elim local.info.shape [ None ↦ if is_kept_so at_start local then 0 else 1 | Some s ↦ entries_of local.info ]

-- its initialiser
unfoldable pub initial_length_of : Typed → Layout → VarInfo → Option TExpr → ℕ
initial_length_of t l info None = 0
initial_length_of t l info (Some e) = put_length t l (is_none info.shape) (own_bits (is_none info.shape) info.elem) e

-- the variables of a block
unfoldable pub locals_length_of : Typed → Layout → Bool → List LocalVar → ℕ
locals_length_of t l at_start [] = 0
locals_length_of t l at_start (local ∷ locals) =
    clear_length_of at_start local + initial_length_of t l local.info local.initial + locals_length_of t l at_start locals

-- how a returned value is stored: by one instruction, where the function has a result
unfoldable pub storing_length : Bool → ℕ
storing_length has_result = if has_result then 1 else 0

unfoldable mutual
  -- a statement of a function that has a result or none, where so many contexts are saved
  pub statement_length_of : Typed → Layout → Bool → Saved → TStmt → ℕ
  statement_length_of t l has_result saved (S.Block' locals p statements) =
      locals_length_of t l false locals.items + statements_length_of t l has_result saved statements
  statement_length_of t l has_result saved (S.Expression e) = effect_length_of t l e
  statement_length_of t l has_result saved S.Empty = 0
  statement_length_of t l has_result saved (S.If' test p first second) =
      used_length_of t l 32 true test + 1 + statement_length_of t l has_result saved first + else_length_of t l has_result saved 1 second
  statement_length_of t l has_result saved (S.While' test p body) =
      used_length_of t l 32 true test + 3 + statement_length_of t l has_result (at_loop saved) body
  statement_length_of t l has_result saved (S.Do' p body test) =
      used_length_of t l 32 true test + 2 + statement_length_of t l has_result (at_loop saved) body
  statement_length_of t l has_result saved (S.For' first test step p body) =
      part_length_of t l first + condition_length_of t l test + part_length_of t l step + 3 + statement_length_of t l has_result (at_loop saved) body
  statement_length_of t l has_result saved S.Break = saved.in_loop + 1
  statement_length_of t l has_result saved S.Continue = saved.in_loop + 1
  statement_length_of t l has_result saved (S.Return None) = saved.in_all + 1
  statement_length_of t l has_result saved (S.Return (Some e)) =
      used_length_of t l (type_of e).elem.bits true e + storing_length has_result + saved.in_all + 1
  statement_length_of t l has_result saved (S.With' shape p body) = statement_length_of t l has_result saved body
  statement_length_of t l has_result saved (S.Everywhere' shape p body) =
      statement_length_of t l has_result (one_more saved) body + 3
  statement_length_of t l has_result saved (S.Where' shape test p first second) =
      tested_length t l test + 3 + statement_length_of t l has_result (one_more saved) first
      + else_length_of t l has_result (one_more saved) 4 second

  -- statements, one behind the other
  pub statements_length_of : {m : _} → Typed → Layout → Bool → Saved → Row_of-TStmt m → ℕ
  statements_length_of t l has_result saved end_of-TStmt = 0
  statements_length_of t l has_result saved (more_of-TStmt s rest) =
      statement_length_of t l has_result saved s + statements_length_of t l has_result saved rest

  -- the part behind `else`, if there is one, with so many instructions around it
  pub else_length_of : Typed → Layout → Bool → Saved → ℕ → Held-TStmt-If-2 → ℕ
  else_length_of t l has_result saved around None' = 0
  else_length_of t l has_result saved around (Some' p s) = statement_length_of t l has_result saved s + around

-- the body of an instance, and of `main` where it starts
unfoldable pub body_length_of : Typed → Layout → Bool → Bool → Saved → TStmt → ℕ
body_length_of t l at_start has_result saved (S.Block' locals p statements) =
    locals_length_of t l at_start locals.items + statements_length_of t l has_result saved statements
body_length_of t l at_start has_result saved s = statement_length_of t l has_result saved s
