-- The execution of statements with more turns, where calls go on.
use Rattle.std.proofs.Common.{◌≡◌, ℕ, zero, suc, ◌+◌, ◌≤◌, Bool, true, false, List, [], ◌∷◌, length, Option, Some, None, refl, subst, arith}
use mathlib.Core.Former.{Count}
use Rattle.cstar_tree.specs.declared.typed.LocalVar.{LocalVar}
use Rattle.cstar_tree.specs.declared.typed.TExpr.{TExpr}
use Rattle.cstar_tree.specs.declared.typed.TStmt.{TStmt, Row_of-TStmt, end_of-TStmt, more_of-TStmt, Held-TStmt-If-2, None', Some'}
use Rattle.cstar_tree.specs.declared.typed.TStmt as S
use Rattle.cstar_tree.specs.declared.typed.Variable.TheVariants as V
use Rattle.source_meaning.specs.Expressions.{evaluated}
use Rattle.source_meaning.specs.Narrowing.{where_nonzero, where_zero, widened}
use Rattle.source_meaning.specs.Programs.{Call}
use Rattle.source_meaning.specs.State.{Ends, Gives, Outcome, State, Stopped, spend_turn, then_do, zeroed}
use Rattle.source_meaning.specs.Statements.{Broke, Continued, Leaving, Onward, Returned, all_executed, declared, done, else_executed, executed, initialised, initialised_one, passes, passes_or_absent, rounds, then_go, then_round}
use Rattle.source_meaning.specs.Targets.{Target, variable_target}
use Rattle.source_meaning.specs.Values.{Active, Scope}
use Rattle.meaning_laws.proofs.Expressions.{CallsGoOn, calling, expression, later_stored, stored_same}
use Rattle.meaning_laws.proofs.Parts.{Grows, IsPart, Later, behind, grows_spent, grows_then, later_itself, part_behind, part_below, part_either, part_gives, part_same, part_spent, part_stops, part_then, same_part}

-- what comes behind a statement, and behind the body of a loop, by how it was left
after_statement : (State → Outcome Leaving) → Leaving → State → Outcome Leaving
after_statement next Onward st = next st
after_statement next Broke st = Gives Broke st
after_statement next Continued st = Gives Continued st
after_statement next (Returned v) st = Gives (Returned v) st

after_body : (State → Outcome Leaving) → Leaving → State → Outcome Leaving
after_body next Onward st = next st
after_body next Broke st = Gives Onward st
after_body next Continued st = next st
after_body next (Returned v) st = Gives (Returned v) st

go_is : (o : Outcome Leaving) (next : State → Outcome Leaving) → then_do o (after_statement next) ≡ then_go o next
unfolding then_do then_go after_statement
go_is (Gives Onward st) next = refl
go_is (Gives Broke st) next = refl
go_is (Gives Continued st) next = refl
go_is (Gives (Returned v) st) next = refl
go_is (Ends early st) next = refl

round_is : (o : Outcome Leaving) (next : State → Outcome Leaving) → then_do o (after_body next) ≡ then_round o next
unfolding then_do then_round after_body
round_is (Gives Onward st) next = refl
round_is (Gives Broke st) next = refl
round_is (Gives Continued st) next = refl
round_is (Gives (Returned v) st) next = refl
round_is (Ends early st) next = refl

part_go : (m n : ℕ) (f g h k : State → Outcome Leaving) → IsPart m n f g → IsPart m n h k → IsPart m n (λ st. then_go (f st) h) (λ st. then_go (g st) k)
unfolding after_statement
part_go m n f g h k one two = same_part m n _ _ _ _ (λ st. go_is (f st) h) (λ st. go_is (g st) k) (part_then m n f g (after_statement h) (after_statement k) one by_leaving)
  where
    by_leaving : (x : Leaving) → IsPart m n (after_statement h x) (after_statement k x)
    by_leaving Onward = two
    by_leaving Broke = part_same m n _
    by_leaving Continued = part_same m n _
    by_leaving (Returned v) = part_same m n _

part_round : (m n : ℕ) (f g h k : State → Outcome Leaving) → IsPart m n f g → IsPart m n h k → IsPart m n (λ st. then_round (f st) h) (λ st. then_round (g st) k)
unfolding after_body
part_round m n f g h k one two = same_part m n _ _ _ _ (λ st. round_is (f st) h) (λ st. round_is (g st) k) (part_then m n f g (after_body h) (after_body k) one by_leaving)
  where
    by_leaving : (x : Leaving) → IsPart m n (after_body h x) (after_body k x)
    by_leaving Onward = two
    by_leaving Broke = part_same m n _
    by_leaving Continued = two
    by_leaving (Returned v) = part_same m n _

grows_go : (f h : State → Outcome Leaving) → Grows f → Grows h → Grows (λ st. then_go (f st) h)
unfolding behind after_statement
grows_go f h one two st = subst (λ (o : Outcome Leaving). Later st (behind o)) (go_is (f st) h) (grows_then f (after_statement h) one by_leaving st)
  where
    by_leaving : (x : Leaving) → Grows (after_statement h x)
    by_leaving Onward = two
    by_leaving Broke = later_itself
    by_leaving Continued = later_itself
    by_leaving (Returned v) = later_itself

grows_round : (f h : State → Outcome Leaving) → Grows f → Grows h → Grows (λ st. then_round (f st) h)
unfolding behind after_body
grows_round f h one two st = subst (λ (o : Outcome Leaving). Later st (behind o)) (round_is (f st) h) (grows_then f (after_body h) one by_leaving st)
  where
    by_leaving : (x : Leaving) → Grows (after_body h x)
    by_leaving Onward = two
    by_leaving Broke = later_itself
    by_leaving Continued = two
    by_leaving (Returned v) = later_itself

-- a turn is spent before the body of a loop
spent_body : (body next : State → Outcome Leaving) (st : State) → spend_turn st (λ s. then_round (body s) next) ≡ then_round (spend_turn st body) next
unfolding spend_turn then_round
spent_body body next st = by_turns st.turns
  where
    by_turns : (t : ℕ) → (elim t as (λ _. Outcome Leaving) [ zero ↦ Ends Stopped st | suc k ↦ then_round (body (record st { turns = k })) next ]) ≡ then_round (elim t as (λ _. Outcome Leaving) [ zero ↦ Ends Stopped st | suc k ↦ body (record st { turns = k }) ]) next
    by_turns zero = refl
    by_turns (suc k) = refl

part_turn : (m n : ℕ) (f g h k : State → Outcome Leaving) → IsPart m n f g → IsPart m n h k → IsPart m (suc n) (λ st. then_round (spend_turn st f) h) (λ st. then_round (spend_turn st g) k)
part_turn m n f g h k one two =
    same_part m (suc n) _ _ _ _ (λ st. spent_body f h st) (λ st. spent_body g k st) (part_spent m n (λ s. then_round (f s) h) (λ s. then_round (g s) k) (part_round m n f g h k one two))

-- the rounds of a loop
module _ (test : State → Outcome Bool) (body step : State → Outcome Leaving) (tests : Grows test) (bodies : Grows body) (steps : Grows step) where
  chosen : (b : Bool) (f g : State → Outcome Leaving) → Grows f → Grows g → Grows (λ st. elim b as (λ _. Outcome Leaving) [ true ↦ f st | false ↦ g st ])
  chosen true f g one two = one
  chosen false f g one two = two

  grows_rounds : (k : ℕ) → Grows (rounds k test body step)
  unfolding rounds behind
  grows_rounds zero = grows_then test _ tests (λ b. chosen b (λ st. Ends Stopped st) (λ st. Gives Onward st) later_itself later_itself)
  grows_rounds (suc k) =
      grows_then test _ tests (λ b. chosen b (λ st. then_round (spend_turn st body) (λ s. then_go (step s) (rounds k test body step))) (λ st. Gives Onward st)
      (grows_round (λ st. spend_turn st body) (λ s. then_go (step s) (rounds k test body step)) (grows_spent body bodies) (grows_go step (rounds k test body step) steps (grows_rounds k))) later_itself)

stops_grow : Grows {A = Leaving} (λ st. Ends Stopped st)
unfolding behind
stops_grow st = later_itself st

module _ (m : ℕ) (test tests : State → Outcome Bool) (body bodies step steps : State → Outcome Leaving) where
  go_rounds : (n k : ℕ) → k ≡ n + m → IsPart m n test tests → IsPart m n body bodies → IsPart m n step steps → IsPart m n (rounds n test body step) (rounds k tests bodies steps)
  unfolding rounds
  go_rounds zero zero is one two three =
      part_then m zero test tests _ _ one (λ b. part_either m zero b _ _ _ _ (part_stops m zero (λ st. Ends Stopped st) stops_grow) (part_same m zero Onward))
  go_rounds zero (suc k) is one two three =
      part_then m zero test tests _ _ one
      (λ b. part_either m zero b _ _ _ _
      (part_stops m zero (λ st. then_round (spend_turn st bodies) (λ s. then_go (steps s) (rounds k tests bodies steps)))
      (grows_round (λ st. spend_turn st bodies) (λ s. then_go (steps s) (rounds k tests bodies steps)) (grows_spent bodies two.second)
      (grows_go steps (rounds k tests bodies steps) three.second (grows_rounds tests bodies steps one.second two.second three.second k))))
      (part_same m zero Onward))
  go_rounds (suc n) zero is one two three = absurd (omega (arith, is))
  go_rounds (suc n) (suc k) is one two three =
      let below : n ≤ suc n = omega arith in
      part_then m (suc n) test tests _ _ one
      (λ b. part_either m (suc n) b _ _ _ _
      (part_turn m n body bodies _ _ (part_below m (suc n) n body bodies below two)
      (part_go m n step steps _ _ (part_below m (suc n) n step steps below three)
      (go_rounds n k (omega (arith, is)) (part_below m (suc n) n test tests below one) (part_below m (suc n) n body bodies below two) (part_below m (suc n) n step steps below three))))
      (part_same m (suc n) Onward))

  part_rounds : (n : ℕ) → IsPart m n test tests → IsPart m n body bodies → IsPart m n step steps → IsPart m n (λ st. rounds st.turns test body step st) (λ st. rounds st.turns tests bodies steps st)
  part_rounds n one two three = record {
    first = λ st. grows_rounds test body step one.first two.first three.first st.turns st;
    second = λ st. grows_rounds tests bodies steps one.second two.second three.second st.turns st;
    more = λ st few.
        (go_rounds st.turns (st.turns + m) refl (part_below m n st.turns test tests few one) (part_below m n st.turns body bodies few two) (part_below m n st.turns step steps few three)).more st (omega arith);
  }

module _ (m n : ℕ) (scope : Scope) (one two : Call) (calls : CallsGoOn m n one two) where
  value_of : (e : TExpr) (active : Active) → IsPart m n (evaluated (calling scope one) e active) (evaluated (calling scope two) e active)
  value_of e active = expression m n scope one two calls e active

  finishes : (active : Active) (e : Option TExpr) → IsPart m n (done (calling scope one) active e) (done (calling scope two) active e)
  unfolding done
  finishes active None = part_same m n _
  finishes active (Some e) = part_then m n _ _ _ _ (value_of e active) (λ v. part_same m n _)

  tests : (active : Active) (test : TExpr) → IsPart m n (passes (calling scope one) active test) (passes (calling scope two) active test)
  unfolding passes
  tests active test = part_then m n _ _ _ _ (value_of test active) (λ v. part_same m n _)

  tests_or_not : (active : Active) (test : Option TExpr) → IsPart m n (passes_or_absent (calling scope one) active test) (passes_or_absent (calling scope two) active test)
  unfolding passes_or_absent
  tests_or_not active None = part_same m n _
  tests_or_not active (Some test) = tests active test

  begins_one : (active : Active) (there : Target) (e : Option TExpr) → IsPart m n (initialised_one (calling scope one) active there e) (initialised_one (calling scope two) active there e)
  unfolding initialised_one
  begins_one active there None = part_same m n _
  begins_one active there (Some e) =
      part_then m n _ _ _ _ (value_of e active)
      (λ v. part_gives m n _ _ _ _ (λ st. refl) (λ st. stored_same m n scope one two active there v st) (λ st. later_stored m n scope one two active there v st) (λ st. later_stored m n scope one two active there v st))

  begins_all : (active : Active) (k : ℕ) (locals : List LocalVar) → IsPart m n (initialised (calling scope one) active k locals) (initialised (calling scope two) active k locals)
  unfolding initialised
  begins_all active k [] = part_same m n _
  begins_all active k (local ∷ locals) = part_go m n _ _ _ _ (begins_one active (variable_target local.info.shape (V.Local k) 0) local.initial) (begins_all active (k + 1) locals)

  begins_block : (active : Active) (k count : ℕ) (locals : List LocalVar) → IsPart m n (λ st. initialised (calling scope one) active k locals (zeroed k count st)) (λ st. initialised (calling scope two) active k locals (zeroed k count st))
  unfolding zeroed
  begins_block active k count locals = part_behind m n (zeroed k count) _ _ (record { more = λ st. refl; turns = λ st. refl; output = λ st. refl }) (begins_all active k locals)

  mutual
    unfolding executed all_executed else_executed

    pub statement : (s : TStmt) (k : ℕ) (active : Active) → IsPart m n (executed (calling scope one) s k active) (executed (calling scope two) s k active)
    statement (S.Block' locals p statements) k active = part_go m n _ _ _ _ (begins_block active k (length locals.items) locals.items) (each_of statements (k + length locals.items) active)
    statement (S.Expression e) k active = finishes active (Some e)
    statement S.Empty k active = part_same m n _
    statement (S.If' test p first second) k active =
        part_then m n _ _ _ _ (tests active test) (λ goes. part_either m n goes _ _ _ _ (statement first k active) (otherwise second (k + declared first) active))
    statement (S.While' test p body) k active = part_rounds m _ _ _ _ _ _ n (tests active test) (statement body k active) (part_same m n Onward)
    statement (S.Do' p body test) k active =
        part_below m (suc n) n _ _ (omega arith)
        (part_turn m n _ _ _ _ (statement body k active) (part_rounds m _ _ _ _ _ _ n (tests active test) (statement body k active) (part_same m n Onward)))
    statement (S.For' first test step p body) k active =
        part_go m n _ _ _ _ (finishes active first) (part_rounds m _ _ _ _ _ _ n (tests_or_not active test) (statement body k active) (finishes active step))
    statement S.Break k active = part_same m n _
    statement S.Continue k active = part_same m n _
    statement (S.Return None) k active = part_same m n _
    statement (S.Return (Some e)) k active = part_then m n _ _ _ _ (value_of e active) (λ v. part_same m n _)
    statement (S.With' shape p body) k active = statement body k active
    statement (S.Everywhere' shape p body) k active = statement body k (widened shape active)
    statement (S.Where' shape test p first second) k active =
        part_then m n _ _ _ _ (value_of test active)
        (λ v. part_go m n _ _ _ _ (statement first k (where_nonzero shape v active)) (otherwise second (k + declared first) (where_zero shape v active)))

    each_of : {c : Count} (row : Row_of-TStmt c) (k : ℕ) (active : Active) → IsPart m n (all_executed (calling scope one) row k active) (all_executed (calling scope two) row k active)
    each_of end_of-TStmt k active = part_same m n _
    each_of (more_of-TStmt s rest) k active = part_go m n _ _ _ _ (statement s k active) (each_of rest (k + declared s) active)

    otherwise : (held : Held-TStmt-If-2) (k : ℕ) (active : Active) → IsPart m n (else_executed (calling scope one) held k active) (else_executed (calling scope two) held k active)
    otherwise None' k active = part_same m n _
    otherwise (Some' p s) k active = statement s k active
