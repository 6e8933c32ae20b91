-- The turns of a loop.
use Rattle.std.proofs.Common.{◌≡◌, ◌∙◌, ℕ, zero, suc, ◌+◌, ◌≤◌, Bool, true, false, length, refl, sym, ap, subst, arith}
use Rattle.cstar_tree.specs.declared.typed.TStmt.{TStmt}
use Rattle.cstar_tree.specs.declared.typed.Variable.{Variable}
use Rattle.lower_base.specs.Drafts.{Draft, Makes, with_instr}
use Rattle.lower_stmt.specs.declared.statement.Frame.{Frame}
use Rattle.meaning_laws.proofs.Parts.{behind as state_after}
use Rattle.paris_code.specs.declared.instr.Instr.TheVariants as I
use Rattle.paris_code.specs.Code.{CodeState}
use Rattle.source_meaning.specs.State as Source
use Rattle.source_meaning.specs.State.{Outcome, State, spend_turn, then_do}
use Rattle.source_meaning.specs.Statements.{Broke, Continued, Leaving, Onward, Returned, executed, rounds, then_go, then_round}
use Rattle.source_meaning.specs.Values.{Active, Scope}
use Rattle.code_follows.proofs.Executing.{Exits, Jumped, Left, LeftSo, RanOn, Returns, in_body, no_break, no_continue, no_return, returns_from}
use Rattle.code_follows.proofs.Following.{Finishes, Follows, Keeps, Sim, finishes_later, keeps_all, keeps_less}
use Rattle.code_follows.proofs.Growing.{Extended}
use Rattle.code_follows.proofs.Jumping.{behind_turn, sim_spent, spends, stops}
use Rattle.code_follows.proofs.Rounds.{Leads}
use Rattle.code_follows.proofs.Settings.{At, Reaches, Setting, Within, code_more, earlier, onto, start}

-- a loop: the turn stands behind one draft, the body behind it, then the step, the test, and the jump back
module _ (g : Setting) (alive : Variable → Type 0) (scope : Scope) (active : Active) (tests : State → Outcome Bool) (body : TStmt) (n number : ℕ) (test_falls : (st : State) → (state_after (tests st)).turns ≤ st.turns) (inner : Frame) (f : Exits) (d before_turn behind_body stepped behind_loop : Draft) (turn : ℕ) (step : State → Outcome Leaving) where
  abbrev turning : Exits
  turning = in_body inner g.held alive f

  abbrev before_body : Draft
  before_body = with_instr I.FrontTurn before_turn

  -- the loop is left behind it, or the run is over
  unfoldable pub LoopEnds : CodeState → Outcome Leaving → Type 0
  LoopEnds s (Source.Gives Onward st) = Jumped g alive g.held d s st (length behind_loop.code)
  LoopEnds s (Source.Gives (Returned v) st) = Returns g f.outer f.all s st v
  LoopEnds s (Source.Gives Broke st) = ⊥
  LoopEnds s (Source.Gives Continued st) = ⊥
  LoopEnds s (Source.Ends early st) = Finishes g early st s

  pub ends_from : (s t : CodeState) (o : Outcome Leaving) → Reaches g s t → Keeps g d s t → LoopEnds t o → LoopEnds s o
  unfolding LoopEnds
  ends_from s t (Source.Gives Onward st) go keeps j = record { t = j.t; go = onto g s t j.t go j.go; at = j.at; sim = j.sim; keeps = λ q kept. j.keeps q kept ∙ keeps q kept }
  ends_from s t (Source.Gives (Returned v) st) go keeps h = returns_from g f.outer f.all d s t st v go keeps h
  ends_from s t (Source.Gives Broke st) go keeps h = absurd h
  ends_from s t (Source.Gives Continued st) go keeps h = absurd h
  ends_from s t (Source.Ends early st) go keeps h = finishes_later g early st s t go h

  module _ (within : Within g behind_loop) (turn_is : turn ≡ length before_turn.code) (next_is : inner.next ≡ length behind_body.code) (after_is : inner.after ≡ length behind_loop.code) (k j l : ℕ) (body_grows : Extended before_body k behind_body) (step_grows : Extended behind_body j stepped) (test_grows : Extended stepped l behind_loop)
      (regs : d.regs ≤ before_body.regs) (falls : (st : State) → (state_after (executed scope body n active st)).turns ≤ st.turns)
      (body_follows : (t : CodeState) (st : State) → At g t (length before_body.code) → Sim g alive st t → Follows g (Left g alive turning before_body t) t (executed scope body n active st) (Makes number behind_body))
      (step_falls : (st : State) → (state_after (step st)).turns ≤ st.turns) (step_follows : (t : CodeState) (st : State) → At g t (length behind_body.code) → Sim g alive st t → Follows g (RanOn g alive behind_body t) t (step st) (Makes (tt {0}) stepped))
      (test_leads : (t : CodeState) (st : State) → At g t (length stepped.code) → Sim g alive st t → Leads g alive stepped turn (length behind_loop.code) t (tests st)) where
    within_stepped : Within g stepped
    within_stepped = earlier g stepped behind_loop l test_grows within

    within_body : Within g behind_body
    within_body = earlier g behind_body stepped j step_grows within_stepped

    within_turn : Within g before_body
    within_turn = earlier g before_body behind_body k body_grows within_body

    -- what is kept behind the body is kept behind the loop's beginning
    kept_by_body : (s t : CodeState) → Keeps g before_body s t → Keeps g d s t
    kept_by_body s t keeps = keeps_less g d before_body s t regs keeps

    kept_by_step : (s t : CodeState) → Keeps g behind_body s t → Keeps g d s t
    kept_by_step s t keeps = keeps_less g d behind_body s t (omega (arith, regs, body_grows.regs)) keeps

    kept_by_test : (s t : CodeState) → Keeps g stepped s t → Keeps g d s t
    kept_by_test s t keeps = keeps_less g d stepped s t (omega (arith, regs, body_grows.regs, step_grows.regs)) keeps

    -- a turn, the body, and what comes next
    pub take_turn : (u : State) (t : CodeState) (next : State → Outcome Leaving) → At g t (length before_turn.code) → Sim g alive u t → ((m : ℕ) (v : State) (w : CodeState) → u.turns ≡ suc m → v.turns ≤ m → At g w (length behind_body.code) → Sim g alive v w → LoopEnds w (next v))
        → LoopEnds t (then_round (spend_turn u (λ s. executed scope body n active s)) next)
    unfolding LoopEnds then_round spend_turn Follows LeftSo state_after
    take_turn u t next here sim again = by_turns u.turns refl
      where
        by_body : (m : ℕ) → u.turns ≡ suc m → (o : Outcome Leaving) → (state_after o).turns ≤ m → Follows g (Left g alive turning before_body (behind_turn g alive t m)) (behind_turn g alive t m) o (Makes number behind_body) → LoopEnds (behind_turn g alive t m) (then_round o next)
        by_body m is (Source.Gives Onward v) few h =
            let ran = h within_body in
            ends_from (behind_turn g alive t m) ran.t (next v) ran.go (kept_by_body (behind_turn g alive t m) ran.t ran.keeps) (again m v ran.t is few ran.at ran.sim)
        by_body m is (Source.Gives Continued v) few h =
            let j = h within_body in
            let place = j.at in
            ends_from (behind_turn g alive t m) j.t (next v) j.go (kept_by_body (behind_turn g alive t m) j.t j.keeps) (again m v j.t is few (omega (arith, place, next_is)) j.sim)
        by_body m is (Source.Gives Broke v) few h = let j = h within_body in let place = j.at in record { t = j.t; go = j.go; at = omega (arith, place, after_is); sim = j.sim; keeps = kept_by_body (behind_turn g alive t m) j.t j.keeps }
        by_body m is (Source.Gives (Returned w) v) few h = h within_body
        by_body m is (Source.Ends early v) few h = h within_body

        by_turns : (left : ℕ) → u.turns ≡ left → LoopEnds t (then_round (elim left as (λ _. Outcome Leaving) [ zero ↦ Source.Ends Source.Stopped u | suc m ↦ executed scope body n active (record u { turns = m }) ]) next)
        by_turns zero is = stops g alive before_turn t u within_turn here sim is
        by_turns (suc m) is =
            let s1 : CodeState = behind_turn g alive t m in
            let one_on : s1.at ≡ t.at + 1 = refl in
            let more = code_more g I.FrontTurn before_turn in
            ends_from t s1 (then_round (executed scope body n active (record u { turns = m })) next) (spends g alive before_turn t u m within_turn here sim is) (keeps_all g d t)
            (by_body m is (executed scope body n active (record u { turns = m })) (falls (record u { turns = m })) (body_follows s1 (record u { turns = m }) (omega (arith, here, more)) (sim_spent g alive u t m is sim)))

    -- behind the test there are no more turns
    falls_by : (st u : State) (b : Bool) → tests st ≡ Source.Gives b u → u.turns ≤ st.turns
    unfolding state_after
    falls_by st u b is = subst (λ (o : Outcome Bool). (state_after o).turns ≤ st.turns) is (test_falls st)

    abbrev a_round : State → Outcome Leaving
    a_round u = executed scope body n active u

    last_round : (s : CodeState) (st : State) → st.turns ≡ 0 → (o : Outcome Bool) → tests st ≡ o → Leads g alive stepped turn (length behind_loop.code) s o
        → LoopEnds s (then_do o (λ b after. elim b as (λ _. Outcome Leaving) [ true ↦ Source.Ends Source.Stopped after | false ↦ Source.Gives Onward after ]))
    unfolding then_do LoopEnds Leads
    last_round s st none (Source.Gives true u) is j =
        let fewer : u.turns ≤ st.turns = falls_by st u true is in
        let over : u.turns ≡ 0 = omega (arith, fewer, none) in
        let place = j.at in
        finishes_later g Source.Stopped u s j.t j.go (stops g alive before_turn j.t u within_turn (omega (arith, place, turn_is)) j.sim over)
    last_round s st none (Source.Gives false u) is j = record { t = j.t; go = j.go; at = j.at; sim = j.sim; keeps = kept_by_test s j.t j.keeps }
    last_round s st none (Source.Ends early u) is h = h

    next_round : (fuel : ℕ) (s : CodeState) (st : State) → st.turns ≤ suc fuel → (next : State → Outcome Leaving) → ((v : State) (w : CodeState) → v.turns ≤ fuel → At g w (length behind_body.code) → Sim g alive v w → LoopEnds w (next v))
        → (o : Outcome Bool) → tests st ≡ o → Leads g alive stepped turn (length behind_loop.code) s o
        → LoopEnds s (then_do o (λ b after. elim b as (λ _. Outcome Leaving) [ true ↦ then_round (spend_turn after a_round) next | false ↦ Source.Gives Onward after ]))
    unfolding then_do LoopEnds Leads
    next_round fuel s st few next again (Source.Gives true u) is j =
        let fewer : u.turns ≤ st.turns = falls_by st u true is in
        let place = j.at in
        ends_from s j.t (then_round (spend_turn u a_round) next) j.go (kept_by_test s j.t j.keeps)
        (take_turn u j.t next (omega (arith, place, turn_is)) j.sim (λ m v w is_m fewer_v here_w sim_w. again v w (omega (arith, few, fewer, is_m, fewer_v)) here_w sim_w))
    next_round fuel s st few next again (Source.Gives false u) is j = record { t = j.t; go = j.go; at = j.at; sim = j.sim; keeps = kept_by_test s j.t j.keeps }
    next_round fuel s st few next again (Source.Ends early u) is h = h

    -- behind the body comes the step
    step_on : (v : State) (w : CodeState) (next : State → Outcome Leaving) → At g w (length behind_body.code) → Sim g alive v w → ((u : State) (x : CodeState) → u.turns ≤ v.turns → At g x (length stepped.code) → Sim g alive u x → LoopEnds x (next u)) → LoopEnds w (then_go (step v) next)
    unfolding then_go LoopEnds Follows state_after
    step_on v w next here sim again = by (step v) (step_falls v) (step_follows w v here sim)
      where
        by : (o : Outcome Leaving) → (state_after o).turns ≤ v.turns → Follows g (RanOn g alive behind_body w) w o (Makes (tt {0}) stepped) → LoopEnds w (then_go o next)
        by (Source.Gives Onward u) few h = let ran = (h within_stepped).1 in ends_from w ran.t (next u) ran.go (kept_by_step w ran.t ran.keeps) (again u ran.t few ran.at ran.sim)
        by (Source.Gives Broke u) few h = absurd (no_break (h within_stepped).0)
        by (Source.Gives Continued u) few h = absurd (no_continue (h within_stepped).0)
        by (Source.Gives (Returned value) u) few h = absurd (no_return value (h within_stepped).0)
        by (Source.Ends early u) few h = h within_stepped

    -- behind the step the test decides
    pub rounds_follow : (fuel : ℕ) (st : State) (s : CodeState) → st.turns ≤ fuel → At g s (length stepped.code) → Sim g alive st s → LoopEnds s (rounds fuel tests a_round step st)
    unfolding rounds
    rounds_follow zero st s few here sim = last_round s st (omega (arith, few)) (tests st) refl (test_leads s st here sim)
    rounds_follow (suc fuel) st s few here sim =
        next_round fuel s st few (λ v. then_go (step v) (rounds fuel tests a_round step))
        (λ v w fewer here_w sim_w. step_on v w (rounds fuel tests a_round step) here_w sim_w (λ u x less here_x sim_x. rounds_follow fuel u x (omega (arith, fewer, less)) here_x sim_x)) (tests st) refl (test_leads s st here sim)

    -- how the loop is left, as a statement
    loop_left : (m : ℕ) (j : ℕ) (s : CodeState) (o : Outcome Leaving) → Extended d j behind_loop → LoopEnds s o → Follows g (Left g alive f d s) s o (Makes m behind_loop)
    unfolding LoopEnds Follows LeftSo
    loop_left m j s (Source.Gives Onward st) x e = λ w. record { grown = (j, x); t = e.t; go = e.go; at = e.at; sim = e.sim; keeps = e.keeps }
    loop_left m j s (Source.Gives (Returned v) st) x e = λ w. e
    loop_left m j s (Source.Gives Broke st) x e = absurd e
    loop_left m j s (Source.Gives Continued st) x e = absurd e
    loop_left m j s (Source.Ends early st) x e = λ w. e

    -- the loop, from where it is entered
    pub loop_runs : (m i : ℕ) (s0 s1 : CodeState) (st : State) → Extended d i behind_loop → Reaches g s0 s1 → Keeps g d s0 s1 → At g s1 (length stepped.code) → Sim g alive st s1
        → Follows g (Left g alive f d s0) s0 (rounds st.turns tests a_round step st) (Makes m behind_loop)
    loop_runs m i s0 s1 st x go keeps here sim = loop_left m i s0 (rounds st.turns tests a_round step st) x (ends_from s0 s1 (rounds st.turns tests a_round step st) go keeps (rounds_follow st.turns st s1 (omega arith) here sim))

    -- the same where the body comes first, and there is no step
    pub do_runs : (m i : ℕ) (s0 : CodeState) (st : State) → length stepped.code ≡ length behind_body.code → Extended d i behind_loop → At g s0 (length before_turn.code) → Sim g alive st s0
        → Follows g (Left g alive f d s0) s0 (then_round (spend_turn st a_round) (λ s. rounds s.turns tests a_round step s)) (Makes m behind_loop)
    do_runs m i s0 st same x here sim =
        loop_left m i s0 (then_round (spend_turn st a_round) (λ s. rounds s.turns tests a_round step s)) x
        (take_turn st s0 (λ s. rounds s.turns tests a_round step s) here sim (λ k v w is few here_w sim_w. rounds_follow v.turns v w (omega arith) (here_w ∙ ap (λ (q : ℕ). start g + q) (sym same)) sim_w))
