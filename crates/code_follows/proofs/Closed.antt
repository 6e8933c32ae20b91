-- What holds of statements that are left at their end, or by `return`.
use Rattle.std.proofs.Common.{ℕ, zero, suc, ◌+◌, Bool, true, false, List, [], ◌∷◌, length, Option, Some, None}
use mathlib.Core.Former.{Count}
use Rattle.cstar_tree.specs.declared.typed.LocalVar.{LocalVar}
use Rattle.cstar_tree.specs.declared.typed.TExpr.{TExpr}
use Rattle.cstar_tree.specs.declared.typed.TStmt.{TStmt, Row_of-TStmt, end_of-TStmt, more_of-TStmt, Held-TStmt-If-2, None', Some'}
use Rattle.cstar_tree.specs.declared.typed.TStmt as S
use Rattle.source_meaning.specs.Narrowing.{where_nonzero, where_zero, widened}
use Rattle.source_meaning.specs.State as Source
use Rattle.source_meaning.specs.State.{Outcome, State, then_do}
use Rattle.source_meaning.specs.Statements.{Broke, Continued, Leaving, Onward, Returned, all_executed, declared, done, else_executed, executed, initialised, initialised_one, rounds, then_go, then_round}
use Rattle.source_meaning.specs.State.{spend_turn, zeroed}
use Rattle.source_meaning.specs.Expressions.{evaluated}
use Rattle.source_meaning.specs.Targets.{Target, variable_target}
use Rattle.cstar_tree.specs.declared.typed.Variable.TheVariants as V
use Rattle.source_meaning.specs.Values.{Active, Scope}
use Rattle.code_follows.specs.Fragment.{AreClosed, IsClosed, IsClosedElse}

-- no jump out of a loop
unfoldable pub NoJump : Outcome Leaving → Type 0
NoJump (Source.Gives Broke st) = ⊥
NoJump (Source.Gives Continued st) = ⊥
NoJump _ = Unit {0}

pub go_closed : (o : Outcome Leaving) (next : State → Outcome Leaving) → NoJump o → ((st : State) → NoJump (next st)) → NoJump (then_go o next)
unfolding NoJump then_go
go_closed (Source.Gives Onward st) next h f = f st
go_closed (Source.Gives (Returned v) st) next h f = tt
go_closed (Source.Gives Broke st) next h f = absurd h
go_closed (Source.Gives Continued st) next h f = absurd h
go_closed (Source.Ends early st) next h f = tt

do_closed : {A : Type 0} (o : Outcome A) (next : A → State → Outcome Leaving) → ((x : A) (st : State) → NoJump (next x st)) → NoJump (then_do o next)
unfolding NoJump then_do
do_closed (Source.Gives x st) next f = f x st
do_closed (Source.Ends early st) next f = tt

round_closed : (o : Outcome Leaving) (next : State → Outcome Leaving) → ((st : State) → NoJump (next st)) → NoJump (then_round o next)
unfolding NoJump then_round
round_closed (Source.Gives Onward st) next f = f st
round_closed (Source.Gives Continued st) next f = f st
round_closed (Source.Gives Broke st) next f = tt
round_closed (Source.Gives (Returned v) st) next f = tt
round_closed (Source.Ends early st) next f = tt

rounds_closed : (fuel : ℕ) (test : State → Outcome Bool) (body step : State → Outcome Leaving) (st : State) → ((s : State) → NoJump (step s)) → NoJump (rounds fuel test body step st)
unfolding rounds NoJump
rounds_closed zero test body step st closed = do_closed (test st) _ (λ b u. by b u)
  where
    by : (b : Bool) (u : State) → NoJump (elim b as (λ _. Outcome Leaving) [ true ↦ Source.Ends Source.Stopped u | false ↦ Source.Gives Onward u ])
    by true u = tt
    by false u = tt
rounds_closed (suc fuel) test body step st closed = do_closed (test st) _ (λ b u. by b u (λ v. go_closed (step v) (rounds fuel test body step) (closed v) (λ w. rounds_closed fuel test body step w closed)))
  where
    by : (b : Bool) (u : State) → ((v : State) → NoJump (then_go (step v) (rounds fuel test body step))) → NoJump (elim b as (λ _. Outcome Leaving) [ true ↦ then_round (spend_turn u body) (λ s. then_go (step s) (rounds fuel test body step)) | false ↦ Source.Gives Onward u ])
    by true u again = round_closed (spend_turn u body) _ again
    by false u again = tt

either : (b : Bool) (one other : Outcome Leaving) → NoJump one → NoJump other → NoJump (elim b as (λ _. Outcome Leaving) [ true ↦ one | false ↦ other ])
either true one other h k = h
either false one other h k = k

module _ (scope : Scope) (active : Active) where
  pub begins_closed : (n : ℕ) (locals : List LocalVar) (st : State) → NoJump (initialised scope active n locals st)
  unfolding initialised initialised_one NoJump
  begins_closed n [] st = tt
  begins_closed n (local ∷ locals) st = go_closed _ _ (one_closed (variable_target local.info.shape (V.Local n) 0) local.initial st) (λ u. begins_closed (n + 1) locals u)
    where
      one_closed : (there : Target) (e : Option TExpr) (st : State) → NoJump (initialised_one scope active there e st)
      one_closed there None st = tt
      one_closed there (Some e) st = do_closed (evaluated scope e active st) _ (λ v u. tt)

  done_closed : (e : Option TExpr) (st : State) → NoJump (done scope active e st)
  unfolding done NoJump
  done_closed None st = tt
  done_closed (Some e) st = do_closed (evaluated scope e active st) _ (λ v u. tt)

-- whatever is active
module _ (scope : Scope) where
  mutual
    unfolding IsClosed IsClosedElse AreClosed executed all_executed else_executed NoJump done

    pub closed : (s : TStmt) → IsClosed s → (n : ℕ) (active : Active) (st : State) → NoJump (executed scope s n active st)
    closed (S.Block' locals p statements) k n active st = go_closed _ _ (begins_closed scope active n locals.items (zeroed n (length locals.items) st)) (λ u. closed_row statements k (n + length locals.items) active u)
    closed (S.Expression e) k n active st = do_closed _ _ (λ v u. tt)
    closed S.Empty k n active st = tt
    closed (S.If' test p first second) k n active st = do_closed _ _ (λ b u. either b _ _ (closed first k.0 n active u) (closed_else second k.1 (n + declared first) active u))
    closed (S.While' test p body) k n active st = rounds_closed st.turns _ _ _ st (λ s. tt)
    closed (S.Do' p body test) k n active st = round_closed _ _ (λ s. rounds_closed s.turns _ _ _ s (λ u. tt))
    closed (S.For' first test step p body) k n active st = go_closed _ _ (done_closed scope active first st) (λ s. rounds_closed s.turns _ _ _ s (λ u. done_closed scope active step u))
    closed (S.With' shape p body) k n active st = closed body k n active st
    closed (S.Everywhere' shape p body) k n active st = closed body k n (widened shape active) st
    closed (S.Where' shape test p first second) k n active st =
        do_closed _ _ (λ v u. go_closed _ _ (closed first k.0 n (where_nonzero shape v active) u) (λ w. closed_else second k.1 (n + declared first) (where_zero shape v active) w))
    closed (S.Return None) k n active st = tt
    closed (S.Return (Some e)) k n active st = do_closed _ _ (λ v u. tt)
    closed S.Break k n active st = absurd k
    closed S.Continue k n active st = absurd k

    pub closed_row : {k : Count} (row : Row_of-TStmt k) → AreClosed row → (n : ℕ) (active : Active) (st : State) → NoJump (all_executed scope row n active st)
    closed_row end_of-TStmt k n active st = tt
    closed_row (more_of-TStmt s rest) k n active st = go_closed _ _ (closed s k.0 n active st) (λ u. closed_row rest k.1 (n + declared s) active u)

    closed_else : (held : Held-TStmt-If-2) → IsClosedElse held → (n : ℕ) (active : Active) (st : State) → NoJump (else_executed scope held n active st)
    closed_else None' k n active st = tt
    closed_else (Some' p s) k n active st = closed s k n active st
