-- Whole programs with more turns.
use Rattle.std.proofs.Common.{◌≡◌, ℕ, zero, suc, ◌+◌, ◌≤◌, true, List, [], slice_get, Option, Some, None, refl, sym, ap, subst, arith}
use Rattle.cstar_tree.specs.declared.typed.Instance.{Instance}
use Rattle.cstar_tree.specs.declared.typed.Typed.{Typed}
use Rattle.source_meaning.specs.Programs.{Call, EndsEarly, calls, entered, left, meaning, result_of, run_body, run_of, scope_of, start_state}
use Rattle.source_meaning.specs.State.{Ends, Fault, Gives, InputBroken, Outcome, State, Stopped}
use Rattle.source_meaning.specs.Values.{Active, Value}
use Rattle.meaning_laws.specs.Turns.{Begins, MoreTurnsPrintOn, TurnsNeverRise, with_more}
use Rattle.meaning_laws.proofs.Expressions.{CallsGoOn}
use Rattle.meaning_laws.proofs.Parts.{GoesOn, IsPart, behind, later_itself, part_behind, part_closed, part_same, part_spent, part_stops}
use Rattle.meaning_laws.proofs.Statements.{statement}

module _ (typed : Typed) where
  pub body_goes_on : (m n : ℕ) (one two : Call) → CallsGoOn m n one two → (instance : Option Instance) (given : List Value) (active : Active) → IsPart m n (run_body typed one instance given active) (run_body typed two instance given active)
  unfolding run_body scope_of entered left
  body_goes_on m n one two calls None given active = part_same m n _
  body_goes_on m n one two calls (Some instance) given active =
      part_closed m n _ _ (λ st leaving. result_of instance.result leaving) (λ st after. left st after) (λ st leaving. refl) (λ st. record { more = λ t. refl; turns = λ t. refl; output = λ t. refl }) (λ st t. refl)
      (part_behind m n (entered instance given active) _ _ (record { more = λ t. refl; turns = λ t. refl; output = λ t. refl }) (statement m n (scope_of typed instance one) one two calls instance.body 0 active))

  pub calls_grow : (k : ℕ) → CallsGoOn 0 k (calls typed k) (calls typed k)
  unfolding calls behind
  calls_grow zero callee given active = part_stops 0 zero _ later_itself
  calls_grow (suc k) callee given active = part_spent 0 k _ _ (body_goes_on 0 k (calls typed k) (calls typed k) (calls_grow k) (slice_get typed.instances.items callee) given active)

  calls_go_on : (m n k : ℕ) → k ≡ n + m → CallsGoOn m n (calls typed n) (calls typed k)
  unfolding calls
  calls_go_on m zero k is callee given active = part_stops m zero _ (calls_grow k callee given active).first
  calls_go_on m (suc n) zero is callee given active = absurd (omega (arith, is))
  calls_go_on m (suc n) (suc k) is callee given active =
      part_spent m n _ _ (body_goes_on m n (calls typed n) (calls typed k) (calls_go_on m n k (omega (arith, is))) (slice_get typed.instances.items callee) given active)

final_is : (o : Outcome Value) → (run_of o).final ≡ behind o
unfolding run_of behind
final_is (Gives v st) = refl
final_is (Ends early st) = refl

-- the run of one outcome, and of one with more turns
abbrev PrintsOn : ℕ → Outcome Value → Outcome Value → Type 0
PrintsOn m o p = Begins (run_of o).final.output (run_of p).final.output × (((run_of o).end ≡ EndsEarly Stopped → ⊥) → run_of p ≡ record { end = (run_of o).end; final = with_more m (run_of o).final })

prints_on : (m : ℕ) (o p : Outcome Value) → GoesOn m o p → PrintsOn m o p
unfolding run_of behind GoesOn
prints_on m (Gives v t) p goes = (subst (λ (q : Outcome Value). Begins t.output (run_of q).final.output) (sym goes) (later_itself t).1, λ none. ap run_of goes)
prints_on m (Ends Stopped t) p goes = (subst (λ (st : State). Begins t.output st.output) (sym (final_is p)) goes, λ none. absurd (none refl))
prints_on m (Ends (Fault fault place position) t) p goes = (subst (λ (q : Outcome Value). Begins t.output (run_of q).final.output) (sym goes) (later_itself t).1, λ none. ap run_of goes)
prints_on m (Ends InputBroken t) p goes = (subst (λ (q : Outcome Value). Begins t.output (run_of q).final.output) (sym goes) (later_itself t).1, λ none. ap run_of goes)

pub turns_fall : TurnsNeverRise
unfolding meaning start_state
turns_fall typed input rest turns winner =
    let main = body_goes_on typed 0 turns (calls typed turns) (calls typed turns) (calls_grow typed turns) (slice_get typed.instances.items 0) [] (λ s p. true) in
    let start : State = start_state typed input rest turns winner in
    subst (λ (st : State). st.turns ≤ turns) (sym (final_is (run_body typed (calls typed turns) (slice_get typed.instances.items 0) [] (λ s p. true) start))) (main.first start).0

pub more_turns : MoreTurnsPrintOn
unfolding meaning start_state
more_turns typed input rest turns more winner =
    let main = body_goes_on typed more turns (calls typed turns) (calls typed (turns + more)) (calls_go_on typed more turns (turns + more) refl) (slice_get typed.instances.items 0) [] (λ s p. true) in
    prints_on more _ _ (main.more (start_state typed input rest turns winner) (omega arith))
