-- The meaning of statements. The active sets are not part of the state, so behind a part, and
-- behind a jump out of it, they are what they were before. The current shape stands in the types of
-- the tree.
use Rattle.std.specs.Prelude.{ℕ, zero, suc, Bool, true, false, ◌+◌, List, [], ◌∷◌, length, Option, Some, None, if◌then◌else◌}
use Rattle.cstar_tree.specs.declared.typed.LocalVar.{LocalVar}
use Rattle.cstar_tree.specs.declared.typed.TExpr.{TExpr}
use Rattle.cstar_tree.specs.declared.typed.TStmt.{TStmt, Row_of-TStmt, end_of-TStmt, more_of-TStmt, Held-TStmt-If-2, None', Some'}
use Rattle.cstar_tree.specs.declared.typed.TStmt as S
use Rattle.cstar_tree.specs.declared.typed.Variable.TheVariants as V
use Rattle.cstar_tree.specs.Typed.{type_of}
use Rattle.cstar_tree.specs.Variables.{variables_of}
use Rattle.source_meaning.specs.Expressions.{evaluated}
use Rattle.source_meaning.specs.Narrowing.{where_nonzero, where_zero, widened}
use Rattle.source_meaning.specs.State.{State, Outcome, Gives, Ends, Stopped, then_do, spend_turn, zeroed}
use Rattle.source_meaning.specs.Targets.{Target, variable_target, stored}
use Rattle.source_meaning.specs.Values.{Value, number, at, each, Active, Scope, nonzero}

-- how a statement is left: at its end, or by a jump
pub data Leaving : Type 0 where
  Onward : Leaving
  Broke : Leaving
  Continued : Leaving
  Returned : Option Value → Leaving

-- one statement, and then another where the first was not left by a jump
unfoldable pub then_go : Outcome Leaving → (State → Outcome Leaving) → Outcome Leaving
then_go (Gives Onward st) next = next st
then_go other next = other

-- the body of a loop, and then another round where the loop goes on
unfoldable pub then_round : Outcome Leaving → (State → Outcome Leaving) → Outcome Leaving
then_round (Gives Onward st) next = next st
then_round (Gives Continued st) next = next st
then_round (Gives Broke st) next = Gives Onward st
then_round (Gives (Returned v) st) next = Gives (Returned v) st
then_round (Ends early st) next = Ends early st

-- The rounds of a loop, no more than there are turns left: where the test passes, a turn is spent,
-- then come the body and the step.
unfoldable pub rounds : ℕ → (State → Outcome Bool) → (State → Outcome Leaving) → (State → Outcome Leaving) → State → Outcome Leaving
rounds zero test body step st =
    then_do (test st) (λ passes after. elim passes [ true ↦ Ends Stopped after | false ↦ Gives Onward after ])
rounds (suc n) test body step st =
    then_do (test st)
    (λ passes after. elim passes [
      | true ↦ then_round (spend_turn after body) (λ s. then_go (step s) (rounds n test body step))
      | false ↦ Gives Onward after
    ])

-- an expression whose value is not used, or nothing
unfoldable pub done : Scope → Active → Option TExpr → State → Outcome Leaving
done scope active None st = Gives Onward st
done scope active (Some e) st = then_do (evaluated scope e active st) (λ _ after. Gives Onward after)

-- does a scalar condition pass; one that is left out does
unfoldable pub passes : Scope → Active → TExpr → State → Outcome Bool
passes scope active test st = then_do (evaluated scope test active st) (λ v after. Gives (nonzero (number v)) after)

unfoldable pub passes_or_absent : Scope → Active → Option TExpr → State → Outcome Bool
passes_or_absent scope active None st = Gives true st
passes_or_absent scope active (Some test) st = passes scope active test st

-- the value that a function returns; a parallel one is copied at the positions active here, and is
-- 0 at the others
unfoldable pub returned : Active → Option ℕ → Value → Value
returned active None v = v
returned active (Some s) v = each (Some s) (λ p. if active s p then at v p else 0)

-- the initialiser of one variable, if it has one
unfoldable pub initialised_one : Scope → Active → Target → Option TExpr → State → Outcome Leaving
initialised_one scope active there None st = Gives Onward st
initialised_one scope active there (Some e) st = then_do (evaluated scope e active st) (λ v after. Gives Onward (stored active there v after))

-- the initialisers of block variables, in order and from a number on; that of a parallel variable
-- writes active positions
unfoldable pub initialised : Scope → Active → ℕ → List LocalVar → State → Outcome Leaving
initialised scope active n [] st = Gives Onward st
initialised scope active n (local ∷ locals) st =
    then_go (initialised_one scope active (variable_target local.info.shape (V.Local n) 0) local.initial st) (initialised scope active (n + 1) locals)

-- how many variables the blocks of a statement declare
unfoldable pub declared : TStmt → ℕ
declared s = length (variables_of s)

unfoldable mutual
  -- a statement whose block variables have numbers from n on
  pub executed : Scope → TStmt → ℕ → Active → State → Outcome Leaving
  executed scope (S.Block' locals p statements) n active st =
      then_go (initialised scope active n locals.items (zeroed n (length locals.items) st))
      (all_executed scope statements (n + length locals.items) active)
  executed scope (S.Expression e) n active st = done scope active (Some e) st
  executed scope S.Empty n active st = Gives Onward st
  executed scope (S.If' test p first second) n active st =
      then_do (passes scope active test st)
      (λ goes after. elim goes [
        | true ↦ executed scope first n active after
        | false ↦ else_executed scope second (n + declared first) active after
      ])
  executed scope (S.While' test p body) n active st =
      rounds st.turns (passes scope active test) (executed scope body n active) (λ s. Gives Onward s) st
  executed scope (S.Do' p body test) n active st =
      then_round (spend_turn st (executed scope body n active))
      (λ s. rounds s.turns (passes scope active test) (executed scope body n active) (λ s'. Gives Onward s') s)
  executed scope (S.For' first test step p body) n active st =
      then_go (done scope active first st)
      (λ s. rounds s.turns (passes_or_absent scope active test) (executed scope body n active) (done scope active step) s)
  executed scope S.Break n active st = Gives Broke st
  executed scope S.Continue n active st = Gives Continued st
  executed scope (S.Return None) n active st = Gives (Returned None) st
  executed scope (S.Return (Some e)) n active st =
      then_do (evaluated scope e active st) (λ v after. Gives (Returned (Some (returned active (type_of e).shape v))) after)
  executed scope (S.With' shape p body) n active st = executed scope body n active st
  executed scope (S.Everywhere' shape p body) n active st = executed scope body n (widened shape active) st
  executed scope (S.Where' shape test p first second) n active st =
      then_do (evaluated scope test active st)
      (λ v after. then_go (executed scope first n (where_nonzero shape v active) after)
      (else_executed scope second (n + declared first) (where_zero shape v active)))

  -- statements, one behind the other
  pub all_executed : {m : _} → Scope → Row_of-TStmt m → ℕ → Active → State → Outcome Leaving
  all_executed scope end_of-TStmt n active st = Gives Onward st
  all_executed scope (more_of-TStmt s rest) n active st =
      then_go (executed scope s n active st) (all_executed scope rest (n + declared s) active)

  -- the part behind `else`, if there is one
  pub else_executed : Scope → Held-TStmt-If-2 → ℕ → Active → State → Outcome Leaving
  else_executed scope None' n active st = Gives Onward st
  else_executed scope (Some' p s) n active st = executed scope s n active st
