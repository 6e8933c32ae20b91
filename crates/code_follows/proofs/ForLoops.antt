-- `for`, `while` and `do`.
use Rattle.std.proofs.Common.{◌≡◌, ◌∙◌, ℕ, ◌+◌, ◌≤◌, true, List, length, Option, Some, None, refl, sym, ap, subst, arith}
use Rattle.std.specs.Prelude.{IfSome}
use Rattle.cstar_tree.specs.declared.typed.TExpr.{TExpr}
use Rattle.cstar_tree.specs.declared.typed.TStmt.{TStmt}
use Rattle.cstar_tree.specs.declared.typed.TStmt as S
use Rattle.cstar_tree.specs.declared.typed.VarInfo.{VarInfo}
use Rattle.cstar_tree.specs.declared.typed.Variable.TheVariants as V
use Rattle.cstar_tree.specs.declared.typed.Variable.{Variable}
use Rattle.cstar_tree.specs.Variables.{variables_of}
use Rattle.code_lengths.specs.Agreement.{StandsAmong}
use Rattle.code_lengths.specs.Growth.{GrowsOr}
use Rattle.code_lengths.specs.Lowerable.{IsLowerable}
use Rattle.code_lengths.specs.LowerableStatements.{IsLowerableStatement, IsTest}
use Rattle.code_lengths.specs.Naming.{NamesVariables}
use Rattle.code_lengths.specs.NamingStatements.{StandFrom, StatementNamesVariables, behind}
use Rattle.code_lengths.specs.Ready.{HasCode, HasDeclared, HasStatementCode, IsReadyButForFields, NumbersVariables}
use Rattle.code_lengths.specs.ShapedStatements.{IsShapedPart, IsShapedStatement}
use Rattle.code_lengths.proofs.Agreeing.{expressions}
use Rattle.code_lengths.proofs.Homes.{still_declared}
use Rattle.code_lengths.proofs.Readiness.{ready_before}
use Rattle.code_lengths.proofs.Declaring.{of_for, of_while}
use Rattle.lower_base.specs.declared.emit.Out.{Out}
use Rattle.lower_base.specs.Drafts.{Draft, Fails, Made, Makes, here, then_make, with_instr}
use Rattle.lower_expr.specs.Effects.{effect_length_of, effect_of}
use Rattle.lower_expr.specs.Lengths.{used_length_of}
use Rattle.lower_stmt.specs.declared.statement.Frame.{Frame}
use Rattle.lower_stmt.specs.Frames.{has_result, in_loop}
use Rattle.lower_stmt.specs.Lengths.{at_loop, condition_length_of, part_length_of, statement_length_of}
use Rattle.lower_stmt.specs.Statements.{jump_back_of, part_of, statement_of}
use Rattle.meaning_laws.proofs.Parts.{behind as state_after}
use Rattle.paris_code.specs.declared.instr.Instr.TheVariants as I
use Rattle.paris_code.specs.declared.operands.Field.{Field}
use Rattle.paris_code.specs.Code.{CodeState}
use Rattle.source_meaning.proofs.ConstantLaws.{Boxed}
use Rattle.source_meaning.specs.Expressions.{evaluated}
use Rattle.source_meaning.specs.State as Source
use Rattle.source_meaning.specs.State.{Outcome, State, spend_turn, then_do}
use Rattle.source_meaning.specs.Statements.{Leaving, Onward, done, executed, passes, passes_or_absent, rounds, then_go, then_round}
use Rattle.source_meaning.specs.Values.{Active, Scope, Value, nonzero, number}
use Rattle.code_follows.specs.Fragment.{IsEffect, IsIn, IsTested, naming}
use Rattle.code_follows.proofs.Assigning.{effect_follows}
use Rattle.code_follows.proofs.Choices.{Agrees}
use Rattle.code_follows.proofs.Executing.{Exits, Left, RanOn, follows_from, in_body}
use Rattle.code_follows.proofs.Callees.{CallsFollow}
use Rattle.code_follows.proofs.Following.{Extends, Follows, HasRegisters, Ran, Sim, delayed, keeps_all}
use Rattle.code_follows.proofs.Growing.{Extended, as_it_was, extended, places, from_growth}
use Rattle.code_follows.proofs.Jumping.{jumps, moved_to, sim_moved}
use Rattle.code_follows.proofs.Loops.{do_runs, loop_runs}
use Rattle.code_follows.proofs.Restoring.{restores_none}
use Rattle.code_follows.proofs.Rounds.{BackMade, back_made}
use Rattle.code_follows.proofs.Settings.{LastsTo, OpenAmong, open_named, At, Begun, Setting, and_one, begun_later, code_more, earlier, layout, regs_more, start, stay}
use Rattle.code_follows.proofs.Starting.{go_after}
use Rattle.code_follows.proofs.Statements.{MadeSo, StandsHere, StandsIn, do_body, do_test, statement_made, declared_on}

module _ (g : Setting) (has : HasRegisters g) (alive : Variable → Type 0) (files : (k : ℕ) → alive (V.File k)) (numbers : NumbersVariables g.instance (layout g)) (ready : (n : ℕ) (d : Draft) → IsReadyButForFields g.typed g.instance (layout g) n d)
    (scope : Scope) (active : Active) (calls_follow : CallsFollow g scope active)
    (falls : (s : TStmt) (n : ℕ) (st : State) → (state_after (executed scope s n active st)).turns ≤ st.turns) (contexts : List Field) where
  -- ---- an expression that may be left out

  -- its code is made
  record PartMade (m : ℕ) (o : Option TExpr) (d : Draft) : Type 0 where
    pub e : Draft
    pub is : part_of g.typed (layout g) o d ≡ Makes tt e
    pub extended : Extended d (part_length_of g.typed (layout g) o) e
    pub declared : HasDeclared g.typed g.instance (layout g) m e

  part_made : (n m : ℕ) (o : Option TExpr) (d : Draft) → n ≤ m → IfSome o (HasCode g.typed g.instance n) → HasDeclared g.typed g.instance (layout g) m d → PartMade m o d
  unfolding part_of part_length_of then_make GrowsOr
  part_made n m None d less c known = record { e = d; is = refl; extended = as_it_was d; declared = known }
  part_made n m (Some x) d less c known = by (effect_of g.typed (layout g) x d) refl ((expressions g.typed g.instance (layout g)).effect n x d c (ready_before ⊥ g.typed g.instance (layout g) n m d less known.ready))
    where
      by : (made : Made Out) → effect_of g.typed (layout g) x d ≡ made → GrowsOr ⊥ d (effect_length_of g.typed (layout g) x) (λ (v : Out). Unit {0}) made → PartMade m (Some x) d
      by (Makes out e) is h = record { e = e; is = ap (λ (m : Made Out). then_make m (λ v after. Makes tt after)) is; extended = from_growth d e _ h.1; declared = still_declared g.typed g.instance (layout g) m d e _ h.1 known }
      by Fails is h = absurd h

  effect_ran : (d : Draft) (s : CodeState) (o : Outcome Value) (made : Made Out) → Follows g (λ v u out e. Ran g alive d s u e) s o made → Follows g (RanOn g alive d s) s (then_do o (λ v after. Source.Gives Onward after)) (then_make made (λ out after. Makes (tt {0}) after))
  unfolding Follows then_do then_make
  effect_ran d s (Source.Gives v u) (Makes out e) h = λ w. (refl, h w)
  effect_ran d s (Source.Ends early u) (Makes out e) h = h
  effect_ran d s (Source.Gives v u) Fails h = tt
  effect_ran d s (Source.Ends early u) Fails h = tt

  part_follows : (n : ℕ) (o : Option TExpr) → IfSome o (IsEffect (naming g.may alive)) → IfSome o (HasCode g.typed g.instance n) → (d : Draft) (s : CodeState) (st : State) → Begun g alive d → At g s (length d.code) → Sim g alive st s
      → Follows g (RanOn g alive d s) s (done scope active o st) (part_of g.typed (layout g) o d)
  unfolding done part_of Follows
  part_follows n None h c d s st free here sim = λ within. (refl, record { grown = (0, as_it_was d); t = s; go = stay g s; at = here; sim = sim; keeps = keeps_all g d s })
  part_follows n (Some e) h c d s st free here sim = effect_ran d s (evaluated scope e active st) (effect_of g.typed (layout g) e d) (effect_follows g has alive n files (ready n) scope active calls_follow e h c d s st free here sim)

  part_falls : (n : ℕ) (o : Option TExpr) (st : State) → (state_after (done scope active o st)).turns ≤ st.turns
  unfolding done executed state_after
  part_falls n None st = omega arith
  part_falls n (Some e) st = falls (S.Expression e) n st

  test_falls : (n : ℕ) (test : TExpr) (st : State) → (state_after (passes scope active test st)).turns ≤ st.turns
  unfolding passes done executed state_after then_do
  test_falls n test st = by (evaluated scope test active st) (falls (S.Expression test) n st)
    where
      by : (o : Outcome Value) → (state_after (then_do o (λ v after. Source.Gives Onward after))).turns ≤ st.turns → (state_after (then_do o (λ v after. Source.Gives (nonzero (number v)) after))).turns ≤ st.turns
      by (Source.Gives v u) h = h
      by (Source.Ends early u) h = h

  part_code : (n : ℕ) (o : Option TExpr) → IsShapedPart o → IfSome o (IsLowerable g.typed) → IfSome o (NamesVariables g.typed g.instance n) → IfSome o (HasCode g.typed g.instance n)
  unfolding IsShapedPart
  part_code n None shaped lowerable names = tt
  part_code n (Some e) shaped lowerable names = record { shaped = shaped; lowerable = lowerable; names = names }

  tests_fall : (n : ℕ) (test : Option TExpr) (st : State) → (state_after (passes_or_absent scope active test st)).turns ≤ st.turns
  unfolding passes_or_absent state_after
  tests_fall n None st = omega arith
  tests_fall n (Some test) st = test_falls n test st

  tested_code : (n : ℕ) (o : Option TExpr) → IsShapedPart o → IfSome o (IsTest g.typed) → IfSome o (NamesVariables g.typed g.instance n) → IfSome o (HasCode g.typed g.instance n)
  unfolding IsShapedPart
  tested_code n None shaped lowerable names = tt
  tested_code n (Some e) shaped lowerable names = record { shaped = shaped; lowerable = lowerable.1; names = names }

  module _ (n : ℕ) (first step test : Option TExpr) (p : Boxed) (body : TStmt) (begins : IfSome first (IsEffect (naming g.may alive))) (isin : (IsTested (naming g.may alive)) test) (steps : IfSome step (IsEffect (naming g.may alive))) (agrees : Agrees g has alive files numbers ready scope active calls_follow contexts n body) where
    abbrev whole : TStmt
    whole = S.For' first test step p body

    -- what has code of its parts
    record ForCode : Type 0 where
      pub first_code : IfSome first (HasCode g.typed g.instance n)
      pub test_code : IfSome test (HasCode g.typed g.instance n)
      pub step_code : IfSome step (HasCode g.typed g.instance n)
      pub body_code : HasStatementCode g.typed g.instance n body

    for_code : HasStatementCode g.typed g.instance n whole → ForCode
    unfolding IsShapedStatement IsLowerableStatement StatementNamesVariables IsShapedPart
    for_code c = record {
      first_code = part_code n first c.shaped.0 c.lowerable.0 c.names.0;
      test_code = tested_code n test c.shaped.1 c.lowerable.1 c.names.1;
      step_code = part_code n step c.shaped.2 c.lowerable.2 c.names.2;
      body_code = record { shaped = c.shaped.3; lowerable = c.lowerable.3; names = c.names.3; stands = subst (λ (own : List VarInfo). StandFrom (variables_of g.instance.body) n own) (of_for first test step p body) c.stands };
    }

    module _ (f : Exits) (d : Draft) (framed : StandsIn g f.frame) (among : StandsHere g alive f contexts) (known : HasDeclared g.typed g.instance (layout g) n d) (c : ForCode) where
      made_first : PartMade n first d
      made_first = part_made n n first d (omega arith) c.first_code known

      abbrev long : ℕ
      long = statement_length_of g.typed (layout g) (has_result f.frame) (at_loop f.frame.saved) body

      abbrev turn : ℕ
      turn = here made_first.e + 1

      abbrev next : ℕ
      next = turn + long + 1

      abbrev place : ℕ
      place = next + part_length_of g.typed (layout g) step

      abbrev after : ℕ
      after = place + condition_length_of g.typed (layout g) test + 1

      abbrev inner : Frame
      inner = in_loop next after f.frame

      abbrev enters : Draft
      enters = with_instr (I.FrontJump place) made_first.e

      abbrev before_body : Draft
      before_body = with_instr I.FrontTurn enters

      inner_frame : StandsIn g inner
      unfolding in_loop
      inner_frame = record { outcome = framed.outcome; main = framed.main; scalar = framed.scalar }

      inner_among : StandsAmong inner contexts
      unfolding in_loop at_loop
      inner_among = record { loop = omega arith; all = among.among.all }

      inner_here : Begun g alive made_first.e → StandsHere g alive (in_body inner g.held alive f) contexts
      unfolding in_loop at_loop here
      inner_here free = record { among = inner_among; loop = restores_none g contexts 0 refl; all = among.all; lives = λ x h. h; outer = among.outer; after = lasts_behind after (omega arith); next = lasts_behind next (omega arith) }
        where
          lasts_behind : (target : ℕ) → length made_first.e.code ≤ target → LastsTo g (OpenAmong g alive) g.held target
          lasts_behind target behind = calls_follow.lasts (OpenAmong g alive) target (let low = free.code in omega (arith, low, behind)) (open_named g (OpenAmong g alive) (length made_first.e.code) target (length made_first.e.fields) behind free.opened)

      begin_known : HasDeclared g.typed g.instance (layout g) n before_body
      begin_known = declared_on g I.FrontTurn n enters (declared_on g (I.FrontJump place) n made_first.e made_first.declared)

      made_body : MadeSo g numbers before_body long (behind n body) (statement_of g.typed (layout g) body inner contexts n before_body)
      unfolding in_loop has_result
      made_body = statement_made g numbers body inner contexts n before_body inner_frame inner_among c.body_code begin_known

      made_step : PartMade (behind n body) step made_body.e
      made_step = part_made n (behind n body) step made_body.e (omega arith) c.step_code made_body.declared

      made_back : BackMade g alive has files n (ready n) scope active calls_follow test turn made_step.e
      made_back = back_made g alive has files n (ready n) scope active calls_follow test turn made_step.e isin c.test_code (behind n body) (omega arith) made_step.declared

      abbrev behind_loop : Draft
      behind_loop = made_back.e

      abbrev loop_code : Draft → Made ℕ
      loop_code begun =
          let turn = here begun + 1 in
          let next = turn + long + 1 in
          let place = next + part_length_of g.typed (layout g) step in
          let after = place + condition_length_of g.typed (layout g) test + 1 in
          then_make (statement_of g.typed (layout g) body (in_loop next after f.frame) contexts n (with_instr I.FrontTurn (with_instr (I.FrontJump place) begun)))
          (λ m behind. then_make (part_of g.typed (layout g) step behind) (λ u stepped. then_make (jump_back_of g.typed (layout g) test turn stepped) (λ v end. Makes m end)))

      loop_is : loop_code made_first.e ≡ Makes (behind n body) behind_loop
      unfolding then_make
      loop_is =
          ap (λ (m : Made ℕ). then_make m (λ m' behind'. then_make (part_of g.typed (layout g) step behind') (λ u stepped. then_make (jump_back_of g.typed (layout g) test turn stepped) (λ v end. Makes m' end)))) made_body.is
          ∙ ap (λ (m : Made (Unit {0})). then_make m (λ u stepped. then_make (jump_back_of g.typed (layout g) test turn stepped) (λ v end. Makes (behind n body) end))) made_step.is
          ∙ ap (λ (m : Made (Unit {0})). then_make m (λ v end. Makes (behind n body) end)) made_back.is

      numbers_are : (next ≡ length made_body.e.code) × (place ≡ length made_step.e.code) × (after ≡ length behind_loop.code) × (turn ≡ length enters.code)
      unfolding here
      numbers_are =
          let a = code_more g (I.FrontJump place) made_first.e in
          let b = code_more g I.FrontTurn enters in
          let e = places before_body made_body.e long made_body.extended in
          let h = places made_body.e made_step.e (part_length_of g.typed (layout g) step) made_step.extended in
          let i = places made_step.e behind_loop (condition_length_of g.typed (layout g) test + 1) made_back.extended in
          (omega (arith, a, b, e), omega (arith, a, b, e, h), omega (arith, a, b, e, h, i), omega (arith, a))

      abbrev steps_in_all : ℕ
      steps_in_all = 1 + (1 + (long + (part_length_of g.typed (layout g) step + (condition_length_of g.typed (layout g) test + 1))))

      behind_turn_grown : Extended before_body (long + (part_length_of g.typed (layout g) step + (condition_length_of g.typed (layout g) test + 1))) behind_loop
      behind_turn_grown =
          extended before_body made_body.e behind_loop long (part_length_of g.typed (layout g) step + (condition_length_of g.typed (layout g) test + 1)) made_body.extended
          (extended made_body.e made_step.e behind_loop (part_length_of g.typed (layout g) step) (condition_length_of g.typed (layout g) test + 1) made_step.extended made_back.extended)

      enters_grown : Extended enters (1 + (long + (part_length_of g.typed (layout g) step + (condition_length_of g.typed (layout g) test + 1)))) behind_loop
      enters_grown = extended enters before_body behind_loop 1 (long + (part_length_of g.typed (layout g) step + (condition_length_of g.typed (layout g) test + 1))) (and_one g I.FrontTurn enters) behind_turn_grown

      all_grown : Extended made_first.e steps_in_all behind_loop
      all_grown = extended made_first.e enters behind_loop 1 (1 + (long + (part_length_of g.typed (layout g) step + (condition_length_of g.typed (layout g) test + 1)))) (and_one g (I.FrontJump place) made_first.e) enters_grown

      -- the turns, behind the first part
      turns_follow : (t : CodeState) (u : State) → Begun g alive made_first.e → At g t (length made_first.e.code) → Sim g alive u t
          → Follows g (Left g alive f made_first.e t) t (rounds u.turns (passes_or_absent scope active test) (λ v. executed scope body n active v) (λ v. done scope active step v) u) (Makes (behind n body) behind_loop)
      unfolding Extends in_loop at_loop
      turns_follow t u free at sim =
          let so = numbers_are in
          let regs1 = regs_more g I.FrontTurn enters in
          let regs2 = regs_more g (I.FrontJump place) made_first.e in
          let begun_body : Begun g alive before_body = begun_later g alive enters before_body 1 (and_one g I.FrontTurn enters) (begun_later g alive made_first.e enters 1 (and_one g (I.FrontJump place) made_first.e) free) in
          let begun_step : Begun g alive made_body.e = begun_later g alive before_body made_body.e long made_body.extended begun_body in
          let begun_back : Begun g alive made_step.e = begun_later g alive made_body.e made_step.e (part_length_of g.typed (layout g) step) made_step.extended begun_step in
          let at_test = so.1 in
          let go_round : Outcome Leaving = rounds u.turns (passes_or_absent scope active test) (λ v. executed scope body n active v) (λ v. done scope active step v) u in
          delayed g (Left g alive f made_first.e t) behind_loop t go_round (Makes (behind n body) behind_loop) (0, as_it_was behind_loop) (λ within.
          loop_runs g alive scope active (passes_or_absent scope active test) body n (behind n body) (tests_fall n test) inner f made_first.e enters made_body.e made_step.e behind_loop turn (λ v. done scope active step v) within so.3 so.0 so.2 long (part_length_of g.typed (layout g) step) (condition_length_of g.typed (layout g) test + 1) made_body.extended made_step.extended made_back.extended (omega (arith, regs1, regs2))
          (falls body n)
          (λ s v here_s sim_s. subst (λ (m : Made ℕ). Follows g (Left g alive (in_body inner g.held alive f) before_body s) s (executed scope body n active v) m) made_body.is (agrees (in_body inner g.held alive f) before_body s v inner_frame (inner_here free) begin_known begun_body here_s sim_s c.body_code))
          (part_falls n step)
          (λ s v here_s sim_s. subst (λ (m : Made (Unit {0})). Follows g (RanOn g alive made_body.e s) s (done scope active step v) m) made_step.is (part_follows n step steps c.step_code made_body.e s v begun_step here_s sim_s))
          (λ s v here_s sim_s. made_back.leads begun_back (let low = free.code in let turn_is = so.3 in let a = code_more g (I.FrontJump place) made_first.e in omega (arith, low, turn_is, a)) (open_named g (OpenAmong g alive) (length made_first.e.code) turn (length made_first.e.fields) (let turn_is = so.3 in let a = code_more g (I.FrontJump place) made_first.e in omega (arith, turn_is, a)) free.opened) within s v here_s sim_s)
          (behind n body) steps_in_all t (moved_to g alive (place + start g) t) u all_grown (jumps g alive place made_first.e t (earlier g enters behind_loop (1 + (long + (part_length_of g.typed (layout g) step + (condition_length_of g.typed (layout g) test + 1)))) enters_grown within) at)
          (keeps_all g made_first.e t) (omega (arith, at_test)) (sim_moved g alive u t (place + start g) (let turn_is = so.3 in let a = code_more g (I.FrontJump place) made_first.e in omega (arith, at, turn_is, a)) sim))

    pub for_agrees : Agrees g has alive files numbers ready scope active calls_follow contexts n whole
    unfolding executed statement_of then_make Extends
    for_agrees f d s0 st framed among known free at sim code =
        let c = for_code code in
        let b = made_first f d framed among known c in
        let go_round : State → Outcome Leaving = λ u. rounds u.turns (passes_or_absent scope active test) (λ v. executed scope body n active v) (λ v. done scope active step v) u in
        subst (λ (m : Made (Unit {0})). Follows g (Left g alive f d s0) s0 (then_go (done scope active first st) go_round) (then_make m (λ u begun. loop_code f d framed among known c begun))) (sym b.is)
        (subst (λ (m : Made ℕ). Follows g (Left g alive f d s0) s0 (then_go (done scope active first st) go_round) m) (sym (loop_is f d framed among known c))
        (go_after g has alive files ready scope active calls_follow d s0 (Left g alive f d s0) (done scope active first st) go_round tt b.e (Makes (behind n body) (behind_loop f d framed among known c))
        (subst (λ (m : Made (Unit {0})). Follows g (RanOn g alive d s0) s0 (done scope active first st) m) b.is (part_follows n first begins c.first_code d s0 st free at sim))
        (steps_in_all f d framed among known c, all_grown f d framed among known c)
        (λ u ran. follows_from g alive f d b.e ran.grown.0 s0 ran.t (go_round u) (Makes (behind n body) (behind_loop f d framed among known c)) ran.grown.1 ran.go ran.keeps (turns_follow f d framed among known c ran.t u (begun_later g alive d b.e (part_length_of g.typed (layout g) first) b.extended free) ran.at ran.sim))))

  -- `while` is `for` with its condition alone
  module _ (n : ℕ) (test : TExpr) (p : Boxed) (body : TStmt) (isin : (IsIn (naming g.may alive)) test) (agrees : Agrees g has alive files numbers ready scope active calls_follow contexts n body) where
    abbrev as_for : TStmt
    as_for = S.For' None (Some test) None p body

    while_code : HasStatementCode g.typed g.instance n (S.While' test p body) → HasStatementCode g.typed g.instance n as_for
    unfolding IsShapedStatement IsLowerableStatement StatementNamesVariables IsShapedPart
    while_code c = record {
      shaped = (tt, c.shaped.0, tt, c.shaped.1);
      lowerable = (tt, c.lowerable.0, tt, c.lowerable.1);
      names = (tt, c.names.0, tt, c.names.1);
      stands = subst (λ (own : List VarInfo). StandFrom (variables_of g.instance.body) n own) (of_while test p body ∙ sym (of_for None (Some test) None p body)) c.stands;
    }

    same_code : (f : Frame) (d : Draft) → statement_of g.typed (layout g) as_for f contexts n d ≡ statement_of g.typed (layout g) (S.While' test p body) f contexts n d
    unfolding statement_of part_of part_length_of condition_length_of then_make
    same_code f d =
        let turn = here d + 1 in
        let next = turn + statement_length_of g.typed (layout g) (has_result f) (at_loop f.saved) body + 1 in
        ap (λ (place : ℕ). then_make (statement_of g.typed (layout g) body (in_loop next (place + used_length_of g.typed (layout g) 32 true test + 1) f) contexts n (with_instr I.FrontTurn (with_instr (I.FrontJump place) d)))
        (λ m behind. then_make (jump_back_of g.typed (layout g) (Some test) turn behind) (λ v end. Makes m end))) (nothing_more next)
      where
        nothing_more : (k : ℕ) → k + 0 ≡ k
        nothing_more k = omega arith

    pub while_agrees : Agrees g has alive files numbers ready scope active calls_follow contexts n (S.While' test p body)
    unfolding executed done passes_or_absent then_go IsTested
    while_agrees f d s0 st framed among known free at sim c =
        subst (λ (m : Made ℕ). Follows g (Left g alive f d s0) s0 (rounds st.turns (passes scope active test) (λ u. executed scope body n active u) (λ u. Source.Gives Onward u) st) m) (same_code f.frame d)
        (for_agrees n None None (Some test) p body tt isin tt agrees f d s0 st framed among known free at sim (while_code c))

  -- `do`
  module _ (n : ℕ) (test : TExpr) (p : Boxed) (body : TStmt) (isin : (IsIn (naming g.may alive)) test) (agrees : Agrees g has alive files numbers ready scope active calls_follow contexts n body) where
    module _ (f : Exits) (d : Draft) (framed : StandsIn g f.frame) (among : StandsHere g alive f contexts) (known : HasDeclared g.typed g.instance (layout g) n d) (c : HasStatementCode g.typed g.instance n (S.Do' p body test)) where
      abbrev do_long : ℕ
      do_long = statement_length_of g.typed (layout g) (has_result f.frame) (at_loop f.frame.saved) body

      abbrev do_turn : ℕ
      do_turn = here d

      abbrev do_next : ℕ
      do_next = do_turn + do_long + 1

      abbrev do_after : ℕ
      do_after = do_next + used_length_of g.typed (layout g) 32 true test + 1

      abbrev do_inner : Frame
      do_inner = in_loop do_next do_after f.frame

      abbrev do_before : Draft
      do_before = with_instr I.FrontTurn d

      do_frame : StandsIn g do_inner
      unfolding in_loop
      do_frame = record { outcome = framed.outcome; main = framed.main; scalar = framed.scalar }

      do_among : StandsAmong do_inner contexts
      unfolding in_loop at_loop
      do_among = record { loop = omega arith; all = among.among.all }

      do_here : Begun g alive d → StandsHere g alive (in_body do_inner g.held alive f) contexts
      unfolding in_loop at_loop here
      do_here free = record { among = do_among; loop = restores_none g contexts 0 refl; all = among.all; lives = λ x h. h; outer = among.outer; after = lasts_behind do_after (omega arith); next = lasts_behind do_next (omega arith) }
        where
          lasts_behind : (target : ℕ) → length d.code ≤ target → LastsTo g (OpenAmong g alive) g.held target
          lasts_behind target behind = calls_follow.lasts (OpenAmong g alive) target (let low = free.code in omega (arith, low, behind)) (open_named g (OpenAmong g alive) (length d.code) target (length d.fields) behind free.opened)

      do_known : HasDeclared g.typed g.instance (layout g) n do_before
      do_known = declared_on g I.FrontTurn n d known

      made_do : MadeSo g numbers do_before do_long (behind n body) (statement_of g.typed (layout g) body do_inner contexts n do_before)
      unfolding in_loop has_result
      made_do = statement_made g numbers body do_inner contexts n do_before do_frame do_among (do_body g numbers n p body test c) do_known

      made_while : BackMade g alive has files n (ready n) scope active calls_follow (Some test) do_turn made_do.e
      unfolding IsTested
      made_while = back_made g alive has files n (ready n) scope active calls_follow (Some test) do_turn made_do.e isin (do_test g numbers n p body test c) (behind n body) (omega arith) made_do.declared

      abbrev behind_do : Draft
      behind_do = made_while.e

      do_is : statement_of g.typed (layout g) (S.Do' p body test) f.frame contexts n d ≡ Makes (behind n body) behind_do
      unfolding statement_of then_make
      do_is =
          ap (λ (m : Made ℕ). then_make m (λ m' behind'. then_make (jump_back_of g.typed (layout g) (Some test) do_turn behind') (λ v end. Makes m' end))) made_do.is
          ∙ ap (λ (m : Made (Unit {0})). then_make m (λ v end. Makes (behind n body) end)) made_while.is

      do_numbers : (do_next ≡ length made_do.e.code) × (do_after ≡ length behind_do.code) × (do_turn ≡ length d.code)
      unfolding here condition_length_of
      do_numbers =
          let b = code_more g I.FrontTurn d in
          let e = places do_before made_do.e do_long made_do.extended in
          let i = places made_do.e behind_do (used_length_of g.typed (layout g) 32 true test + 1) made_while.extended in
          (omega (arith, b, e), omega (arith, b, e, i), refl)

      do_grown : Extended d (1 + (do_long + (used_length_of g.typed (layout g) 32 true test + 1))) behind_do
      unfolding condition_length_of
      do_grown =
          extended d do_before behind_do 1 (do_long + (used_length_of g.typed (layout g) 32 true test + 1)) (and_one g I.FrontTurn d)
          (extended do_before made_do.e behind_do do_long (used_length_of g.typed (layout g) 32 true test + 1) made_do.extended made_while.extended)

      do_follows : (t : CodeState) (u : State) → Begun g alive d → At g t (length d.code) → Sim g alive u t
          → Follows g (Left g alive f d t) t (then_round (spend_turn u (λ v. executed scope body n active v)) (λ s. rounds s.turns (passes scope active test) (λ v. executed scope body n active v) (λ v. Source.Gives Onward v) s)) (Makes (behind n body) behind_do)
      unfolding Extends in_loop at_loop state_after Follows passes_or_absent condition_length_of
      do_follows t u free at sim =
          let so = do_numbers in
          let regs1 = regs_more g I.FrontTurn d in
          let begun_body : Begun g alive do_before = begun_later g alive d do_before 1 (and_one g I.FrontTurn d) free in
          let go_round : Outcome Leaving = then_round (spend_turn u (λ v. executed scope body n active v)) (λ s. rounds s.turns (passes scope active test) (λ v. executed scope body n active v) (λ v. Source.Gives Onward v) s) in
          delayed g (Left g alive f d t) behind_do t go_round (Makes (behind n body) behind_do) (0, as_it_was behind_do) (λ within.
          do_runs g alive scope active (passes scope active test) body n (behind n body) (test_falls n test) do_inner f d d made_do.e made_do.e behind_do do_turn (λ v. Source.Gives Onward v) within so.2 so.0 so.1 do_long 0 (used_length_of g.typed (layout g) 32 true test + 1) made_do.extended (as_it_was made_do.e) made_while.extended (omega (arith, regs1))
          (falls body n)
          (λ s v here_s sim_s. subst (λ (m : Made ℕ). Follows g (Left g alive (in_body do_inner g.held alive f) do_before s) s (executed scope body n active v) m) made_do.is (agrees (in_body do_inner g.held alive f) do_before s v do_frame (do_here free) do_known begun_body here_s sim_s (do_body g numbers n p body test c)))
          (λ v. omega arith)
          (λ s v here_s sim_s within_s. (refl, record { grown = (0, as_it_was made_do.e); t = s; go = stay g s; at = here_s; sim = sim_s; keeps = keeps_all g made_do.e s }))
          (λ s v here_s sim_s. made_while.leads (begun_later g alive do_before made_do.e do_long made_do.extended begun_body) (let low = free.code in let turn_is = so.2 in omega (arith, low, turn_is)) (open_named g (OpenAmong g alive) (length d.code) _ (length d.fields) (let turn_is = so.2 in omega (arith, turn_is)) free.opened) within s v here_s sim_s)
          (behind n body) _ t u refl do_grown at sim)

    pub do_agrees : Agrees g has alive files numbers ready scope active calls_follow contexts n (S.Do' p body test)
    unfolding executed
    do_agrees f d s0 st framed among known free at sim c =
        subst (λ (m : Made ℕ). Follows g (Left g alive f d s0) s0 (then_round (spend_turn st (λ v. executed scope body n active v)) (λ s. rounds s.turns (passes scope active test) (λ v. executed scope body n active v) (λ v. Source.Gives Onward v) s)) m) (sym (do_is f d framed among known c))
        (do_follows f d framed among known c s0 st free at sim)
