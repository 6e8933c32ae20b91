-- `if`, with `else` and without.
use Rattle.std.proofs.Common.{◌≡◌, ◌∙◌, ℕ, ◌+◌, Bool, true, false, List, length, sym, ap, subst, arith}
use Rattle.cstar_tree.specs.declared.typed.TExpr.{TExpr}
use Rattle.cstar_tree.specs.declared.typed.TStmt.{TStmt, Held-TStmt-If-2, None', Some'}
use Rattle.cstar_tree.specs.declared.typed.TStmt as S
use Rattle.cstar_tree.specs.declared.typed.Variable.TheVariants as V
use Rattle.cstar_tree.specs.declared.typed.Variable.{Variable}
use Rattle.code_lengths.specs.NamingStatements.{behind}
use Rattle.code_lengths.specs.Ready.{HasDeclared, HasStatementCode, IsReadyButForFields, NumbersVariables}
use Rattle.lower_base.specs.Drafts.{Draft, Made, Makes, here, then_make, with_instr}
use Rattle.lower_stmt.specs.Frames.{has_result}
use Rattle.lower_stmt.specs.Lengths.{statement_length_of}
use Rattle.lower_stmt.specs.Statements.{else_of, past, statement_of}
use Rattle.paris_code.specs.declared.instr.Instr.TheVariants as I
use Rattle.paris_code.specs.declared.operands.Field.{Field}
use Rattle.paris_code.specs.Code.{CodeState}
use Rattle.source_meaning.proofs.ConstantLaws.{Boxed}
use Rattle.source_meaning.specs.State as Source
use Rattle.source_meaning.specs.State.{Outcome, State, then_do}
use Rattle.source_meaning.specs.Statements.{Broke, Continued, Leaving, Onward, Returned, declared, else_executed, executed, passes}
use Rattle.source_meaning.specs.Values.{Active, Scope}
use Rattle.code_follows.specs.Fragment.{IsIn, naming}
use Rattle.code_follows.proofs.Executing.{Exits, Left, LeftSo, TestMade, Tested, follows_from, test_follows, test_made}
use Rattle.code_follows.proofs.Callees.{CallsFollow}
use Rattle.code_follows.proofs.Following.{Extends, Follows, HasRegisters, Ran, Sim, delayed, then_on}
use Rattle.code_follows.proofs.Growing.{Extended, extended, places}
use Rattle.code_follows.proofs.Jumping.{jumps, moved_to, sim_moved, skips}
use Rattle.code_follows.proofs.Settings.{At, Begun, Reaches, Setting, Within, ahead, and_one, begun_later, code_more, earlier, layout, onto, start}
use Rattle.code_follows.proofs.Statements.{MadeSo, StandsHere, StandsIn, if_first, if_second, if_test, statement_made, declared_on}

module _ (g : Setting) (has : HasRegisters g) (alive : Variable → Type 0) (files : (k : ℕ) → alive (V.File k)) (numbers : NumbersVariables g.instance (layout g)) (ready : (n : ℕ) (d : Draft) → IsReadyButForFields g.typed g.instance (layout g) n d)
    (scope : Scope) (active : Active) (calls_follow : CallsFollow g scope active) (contexts : List Field) where
  -- the code of a statement follows it
  abbrev pub Agrees : ℕ → TStmt → Type 1
  Agrees n s =
      (f : Exits) (d : Draft) (s0 : CodeState) (st : State) → StandsIn g f.frame → StandsHere g alive f contexts → HasDeclared g.typed g.instance (layout g) n d → Begun g alive d → At g s0 (length d.code) → Sim g alive st s0 → HasStatementCode g.typed g.instance n s
      → Follows g (Left g alive f d s0) s0 (executed scope s n active st) (statement_of g.typed (layout g) s f.frame contexts n d)

  -- code that is left at its end jumps over more code
  jumps_over : (f : Exits) (d e h : Draft) (k target : ℕ) (s0 : CodeState) (o : Outcome Leaving) (m p : ℕ) → Extended (with_instr (I.FrontJump target) e) k h → target ≡ length h.code → Follows g (Left g alive f d s0) s0 o (Makes m e) → Follows g (Left g alive f d s0) s0 o (Makes p h)
  unfolding Follows LeftSo
  jumps_over f d e h k target s0 o m p x is follows = by o follows
    where
      within_jump : Within g h → Within g (with_instr (I.FrontJump target) e)
      within_jump w = earlier g (with_instr (I.FrontJump target) e) h k x w

      within_e : Within g h → Within g e
      within_e w = earlier g e (with_instr (I.FrontJump target) e) 1 (and_one g (I.FrontJump target) e) (within_jump w)

      ran : (st : State) → Ran g alive d s0 st e → Within g h → Ran g alive d s0 st h
      ran st r w = record {
        grown = (r.grown.0 + (1 + k), extended d e h r.grown.0 (1 + k) r.grown.1 (extended e (with_instr (I.FrontJump target) e) h 1 k (and_one g (I.FrontJump target) e) x));
        t = moved_to g alive (target + start g) r.t;
        go = onto g s0 r.t (moved_to g alive (target + start g) r.t) r.go (jumps g alive target e r.t (within_jump w) r.at);
        at = omega (arith, is);
        sim = sim_moved g alive st r.t (target + start g) (ahead g e h (1 + k) r.t (target + start g) (extended e (with_instr (I.FrontJump target) e) h 1 k (and_one g (I.FrontJump target) e) x) r.at (omega (arith, is))) r.sim;
        keeps = r.keeps;
      }

      by : (o : Outcome Leaving) → Follows g (Left g alive f d s0) s0 o (Makes m e) → Follows g (Left g alive f d s0) s0 o (Makes p h)
      by (Source.Gives Onward st) h1 = λ w. ran st (h1 (within_e w)) w
      by (Source.Gives Broke st) h1 = λ w. h1 (within_e w)
      by (Source.Gives Continued st) h1 = λ w. h1 (within_e w)
      by (Source.Gives (Returned v) st) h1 = λ w. h1 (within_e w)
      by (Source.Ends early st) h1 = λ w. h1 (within_e w)

  module _ (n : ℕ) (test : TExpr) (p : Boxed) (first : TStmt) (second : Held-TStmt-If-2) (isin : (IsIn (naming g.may alive)) test) (first_agrees : Agrees n first) where
    module _ (f : Exits) (d : Draft) (s0 : CodeState) (st : State) (framed : StandsIn g f.frame) (among : StandsHere g alive f contexts) (known : HasDeclared g.typed g.instance (layout g) n d) (free : Begun g alive d) (at : At g s0 (length d.code)) (sim : Sim g alive st s0)
        (c : HasStatementCode g.typed g.instance n (S.If' test p first second)) where
      abbrev long : ℕ
      long = statement_length_of g.typed (layout g) (has_result f.frame) f.frame.saved first

      tests : TestMade g alive has files n (ready n) scope active calls_follow test d n
      tests = test_made g alive has files n (ready n) scope active calls_follow test d isin (if_test g numbers n test p first second c) n (omega arith) known

      abbrev place : ℕ
      place = past second (here tests.e + long + 1)

      abbrev jump : Draft
      jump = with_instr (I.FrontJumpZero tests.r place) tests.e

      jump_known : HasDeclared g.typed g.instance (layout g) n jump
      jump_known = declared_on g (I.FrontJumpZero tests.r place) n tests.e tests.declared

      made_first : MadeSo g numbers jump long (behind n first) (statement_of g.typed (layout g) first f.frame contexts n jump)
      made_first = statement_made g numbers first f.frame contexts n jump framed among.among (if_first g numbers n test p first second c) jump_known

      code_is : statement_of g.typed (layout g) (S.If' test p first second) f.frame contexts n d ≡ else_of g.typed (layout g) second f.frame contexts place (behind n first) made_first.e
      unfolding statement_of then_make
      code_is =
          ap (λ (m : Made ℕ). then_make m (λ r after. then_make (statement_of g.typed (layout g) first f.frame contexts n (with_instr (I.FrontJumpZero r (past second (here after + long + 1))) after)) (λ m' behind'. else_of g.typed (layout g) second f.frame contexts (past second (here after + long + 1)) m' behind'))) tests.is
          ∙ ap (λ (m : Made ℕ). then_make m (λ m' behind'. else_of g.typed (layout g) second f.frame contexts place m' behind')) made_first.is

      tested : Follows g (Tested g alive d s0) s0 (passes scope active test st) (Makes tests.r tests.e)
      tested = subst (λ (m : Made ℕ). Follows g (Tested g alive d s0) s0 (passes scope active test st) m) tests.is (test_follows g alive has files n (ready n) scope active calls_follow test isin (if_test g numbers n test p first second c) d s0 st free at sim)

      here_first : here made_first.e ≡ here tests.e + 1 + long
      unfolding here
      here_first = let h = places jump made_first.e long made_first.extended in let m = code_more g (I.FrontJumpZero tests.r place) tests.e in omega (arith, h, m)

      -- where the test passes, the first statement is next
      goes_first : (st1 : State) → Tested g alive d s0 true st1 tests.r tests.e → Within g jump → Follows g (Left g alive f d s0) s0 (executed scope first n active st1) (Makes (behind n first) made_first.e)
      goes_first st1 r within =
          let t : CodeState = moved_to g alive (r.t.at + 1) r.t in
          let m = code_more g (I.FrontJumpZero tests.r place) tests.e in
          let at1 = r.at in
          let there : At g t (length jump.code) = omega (arith, at1, m) in
          let go : Reaches g s0 t = onto g s0 r.t t r.go (skips g alive true tests.r place tests.e r.t r.is within r.at) in
          let grown : Extended d (r.grown.0 + 1) jump = extended d tests.e jump r.grown.0 1 r.grown.1 (and_one g (I.FrontJumpZero tests.r place) tests.e) in
          follows_from g alive f d jump (r.grown.0 + 1) s0 t (executed scope first n active st1) (Makes (behind n first) made_first.e) grown go r.keeps
          (subst (λ (made : Made ℕ). Follows g (Left g alive f jump t) t (executed scope first n active st1) made) made_first.is
          (first_agrees f jump t st1 framed among jump_known (begun_later g alive d jump (r.grown.0 + 1) grown free) there (sim_moved g alive st1 r.t (r.t.at + 1) (omega arith) r.sim) (if_first g numbers n test p first second c)))

      -- else the code jumps over it
      over : (st1 : State) (r : Tested g alive d s0 false st1 tests.r tests.e) → Within g jump → Reaches g s0 (moved_to g alive (place + start g) r.t)
      over st1 r within = onto g s0 r.t (moved_to g alive (place + start g) r.t) r.go (skips g alive false tests.r place tests.e r.t r.is within r.at)

  pub if_alone : (n : ℕ) (test : TExpr) (p : Boxed) (first : TStmt) → (IsIn (naming g.may alive)) test → Agrees n first → Agrees n (S.If' test p first None')
  unfolding executed else_of past LeftSo Follows Extends here
  if_alone n test p first isin first_agrees f d s0 st framed among known free at sim c =
      let tests = tests n test p first None' isin first_agrees f d s0 st framed among known free at sim c in
      let made = made_first n test p first None' isin first_agrees f d s0 st framed among known free at sim c in
      let jump : Draft = jump n test p first None' isin first_agrees f d s0 st framed among known free at sim c in
      let place : ℕ = place n test p first None' isin first_agrees f d s0 st framed among known free at sim c in
      let grown : (k : ℕ) × Extended tests.e k made.e = (1 + statement_length_of g.typed (layout g) (has_result f.frame) f.frame.saved first, extended tests.e jump made.e 1 _ (and_one g (I.FrontJumpZero tests.r place) tests.e) made.extended) in
      let here_is = here_first n test p first None' isin first_agrees f d s0 st framed among known free at sim c in
      subst (λ (m : Made ℕ). Follows g (Left g alive f d s0) s0 (then_do (passes scope active test st) (λ goes after. elim goes as (λ _. Outcome Leaving) [ true ↦ executed scope first n active after | false ↦ else_executed scope None' (n + declared first) active after ])) m)
      (sym (code_is n test p first None' isin first_agrees f d s0 st framed among known free at sim c))
      (then_on g (Tested g alive d s0) (Left g alive f d s0) s0 (passes scope active test st) _ tests.r tests.e (Makes (behind n first) made.e) (tested n test p first None' isin first_agrees f d s0 st framed among known free at sim c) grown
      (λ b st1 r. delayed g (Left g alive f d s0) jump s0 _ (Makes (behind n first) made.e) (statement_length_of g.typed (layout g) (has_result f.frame) f.frame.saved first, made.extended) (λ within. by b st1 r within)))
    where
      by : (b : Bool) (st1 : State) → Tested g alive d s0 b st1 (tests n test p first None' isin first_agrees f d s0 st framed among known free at sim c).r (tests n test p first None' isin first_agrees f d s0 st framed among known free at sim c).e
          → Within g (jump n test p first None' isin first_agrees f d s0 st framed among known free at sim c)
          → Follows g (Left g alive f d s0) s0 (elim b as (λ _. Outcome Leaving) [ true ↦ executed scope first n active st1 | false ↦ Source.Gives Onward st1 ]) (Makes (behind n first) (made_first n test p first None' isin first_agrees f d s0 st framed among known free at sim c).e)
      by true st1 r within = goes_first n test p first None' isin first_agrees f d s0 st framed among known free at sim c st1 r within
      by false st1 r within = λ w.
          let made = made_first n test p first None' isin first_agrees f d s0 st framed among known free at sim c in
          let tests = tests n test p first None' isin first_agrees f d s0 st framed among known free at sim c in
          let jump : Draft = jump n test p first None' isin first_agrees f d s0 st framed among known free at sim c in
          let place : ℕ = place n test p first None' isin first_agrees f d s0 st framed among known free at sim c in
          let here_is = here_first n test p first None' isin first_agrees f d s0 st framed among known free at sim c in
          record {
            grown = (r.grown.0 + (1 + statement_length_of g.typed (layout g) (has_result f.frame) f.frame.saved first), extended d tests.e made.e r.grown.0 _ r.grown.1 (extended tests.e jump made.e 1 _ (and_one g (I.FrontJumpZero tests.r place) tests.e) made.extended));
            t = moved_to g alive (place + start g) r.t;
            go = over n test p first None' isin first_agrees f d s0 st framed among known free at sim c st1 r within;
            at = omega (arith, here_is);
            sim = sim_moved g alive st1 r.t (place + start g) (let at1 = r.at in omega (arith, at1)) r.sim;
            keeps = r.keeps;
          }

  module _ (n : ℕ) (test : TExpr) (p : Boxed) (first : TStmt) (q : Boxed) (second : TStmt) (isin : (IsIn (naming g.may alive)) test) (first_agrees : Agrees n first) (second_agrees : Agrees (behind n first) second) where
    module _ (f : Exits) (d : Draft) (s0 : CodeState) (st : State) (framed : StandsIn g f.frame) (among : StandsHere g alive f contexts) (known : HasDeclared g.typed g.instance (layout g) n d) (free : Begun g alive d) (at : At g s0 (length d.code)) (sim : Sim g alive st s0)
        (c : HasStatementCode g.typed g.instance n (S.If' test p first (Some' q second))) where
      abbrev condition : TestMade g alive has files n (ready n) scope active calls_follow test d n
      condition = tests n test p first (Some' q second) isin first_agrees f d s0 st framed among known free at sim c

      abbrev first_made : MadeSo g numbers (jump n test p first (Some' q second) isin first_agrees f d s0 st framed among known free at sim c) (long n test p first (Some' q second) isin first_agrees f d s0 st framed among known free at sim c) (behind n first) (statement_of g.typed (layout g) first f.frame contexts n (jump n test p first (Some' q second) isin first_agrees f d s0 st framed among known free at sim c))
      first_made = made_first n test p first (Some' q second) isin first_agrees f d s0 st framed among known free at sim c

      abbrev more : ℕ
      more = statement_length_of g.typed (layout g) (has_result f.frame) f.frame.saved second

      abbrev leap : Draft
      leap = with_instr (I.FrontJump (place n test p first (Some' q second) isin first_agrees f d s0 st framed among known free at sim c + more)) first_made.e

      leap_known : HasDeclared g.typed g.instance (layout g) (behind n first) leap
      leap_known = declared_on g (I.FrontJump (place n test p first (Some' q second) isin first_agrees f d s0 st framed among known free at sim c + more)) (behind n first) first_made.e first_made.declared

      made_second : MadeSo g numbers leap more (behind (behind n first) second) (statement_of g.typed (layout g) second f.frame contexts (behind n first) leap)
      made_second = statement_made g numbers second f.frame contexts (behind n first) leap framed among.among (if_second g numbers n test p first q second c) leap_known

      leads_behind : place n test p first (Some' q second) isin first_agrees f d s0 st framed among known free at sim c + more ≡ length made_second.e.code
      unfolding here past
      leads_behind = let a = here_first n test p first (Some' q second) isin first_agrees f d s0 st framed among known free at sim c in let b = places leap made_second.e more made_second.extended in let m = code_more g (I.FrontJump (place n test p first (Some' q second) isin first_agrees f d s0 st framed among known free at sim c + more)) first_made.e in omega (arith, a, b, m)

      leap_here : place n test p first (Some' q second) isin first_agrees f d s0 st framed among known free at sim c ≡ length leap.code
      unfolding here past
      leap_here = let a = here_first n test p first (Some' q second) isin first_agrees f d s0 st framed among known free at sim c in let m = code_more g (I.FrontJump (place n test p first (Some' q second) isin first_agrees f d s0 st framed among known free at sim c + more)) first_made.e in omega (arith, a, m)

      -- where the test fails, the second statement is next
      goes_second : (st1 : State) → Tested g alive d s0 false st1 condition.r condition.e → Within g (jump n test p first (Some' q second) isin first_agrees f d s0 st framed among known free at sim c) → Follows g (Left g alive f d s0) s0 (executed scope second (n + declared first) active st1) (Makes (behind (behind n first) second) made_second.e)
      unfolding declared
      goes_second st1 r within =
          let t : CodeState = moved_to g alive (place n test p first (Some' q second) isin first_agrees f d s0 st framed among known free at sim c + start g) r.t in
          let landed = leap_here in
          let there : At g t (length leap.code) = omega (arith, landed) in
          let to_leap : Extended condition.e (1 + (long n test p first (Some' q second) isin first_agrees f d s0 st framed among known free at sim c + 1)) leap =
          extended condition.e (jump n test p first (Some' q second) isin first_agrees f d s0 st framed among known free at sim c) leap 1 (long n test p first (Some' q second) isin first_agrees f d s0 st framed among known free at sim c + 1) (and_one g (I.FrontJumpZero condition.r (place n test p first (Some' q second) isin first_agrees f d s0 st framed among known free at sim c)) condition.e)
          (extended (jump n test p first (Some' q second) isin first_agrees f d s0 st framed among known free at sim c) first_made.e leap (long n test p first (Some' q second) isin first_agrees f d s0 st framed among known free at sim c) 1 first_made.extended (and_one g (I.FrontJump (place n test p first (Some' q second) isin first_agrees f d s0 st framed among known free at sim c + more)) first_made.e)) in
          let grown : Extended d (r.grown.0 + (1 + (long n test p first (Some' q second) isin first_agrees f d s0 st framed among known free at sim c + 1))) leap =
          extended d condition.e leap r.grown.0 (1 + (long n test p first (Some' q second) isin first_agrees f d s0 st framed among known free at sim c + 1)) r.grown.1 to_leap in
          follows_from g alive f d leap (r.grown.0 + (1 + (long n test p first (Some' q second) isin first_agrees f d s0 st framed among known free at sim c + 1))) s0 t (executed scope second (n + declared first) active st1) (Makes (behind (behind n first) second) made_second.e) grown (over n test p first (Some' q second) isin first_agrees f d s0 st framed among known free at sim c st1 r within) r.keeps
          (subst (λ (made : Made ℕ). Follows g (Left g alive f leap t) t (executed scope second (n + declared first) active st1) made) made_second.is
          (second_agrees f leap t st1 framed among leap_known (begun_later g alive d leap (r.grown.0 + (1 + (long n test p first (Some' q second) isin first_agrees f d s0 st framed among known free at sim c + 1))) grown free) there (sim_moved g alive st1 r.t (place n test p first (Some' q second) isin first_agrees f d s0 st framed among known free at sim c + start g) (ahead g condition.e leap (1 + (long n test p first (Some' q second) isin first_agrees f d s0 st framed among known free at sim c + 1)) r.t (place n test p first (Some' q second) isin first_agrees f d s0 st framed among known free at sim c + start g) to_leap r.at (omega (arith, landed))) r.sim) (if_second g numbers n test p first q second c)))

    pub if_else : Agrees n (S.If' test p first (Some' q second))
    unfolding executed else_executed else_of Extends
    if_else f d s0 st framed among known free at sim c =
        let condition = tests n test p first (Some' q second) isin first_agrees f d s0 st framed among known free at sim c in
        let one = made_first n test p first (Some' q second) isin first_agrees f d s0 st framed among known free at sim c in
        let two = made_second f d s0 st framed among known free at sim c in
        let over_both : Extended (jump n test p first (Some' q second) isin first_agrees f d s0 st framed among known free at sim c) (long n test p first (Some' q second) isin first_agrees f d s0 st framed among known free at sim c + (1 + more f d s0 st framed among known free at sim c)) two.e =
        extended (jump n test p first (Some' q second) isin first_agrees f d s0 st framed among known free at sim c) one.e two.e (long n test p first (Some' q second) isin first_agrees f d s0 st framed among known free at sim c) (1 + more f d s0 st framed among known free at sim c) one.extended
        (extended one.e (leap f d s0 st framed among known free at sim c) two.e 1 (more f d s0 st framed among known free at sim c) (and_one g (I.FrontJump (place n test p first (Some' q second) isin first_agrees f d s0 st framed among known free at sim c + more f d s0 st framed among known free at sim c)) one.e) two.extended) in
        let grown : (k : ℕ) × Extended condition.e k two.e = (1 + (long n test p first (Some' q second) isin first_agrees f d s0 st framed among known free at sim c + (1 + more f d s0 st framed among known free at sim c)), extended condition.e (jump n test p first (Some' q second) isin first_agrees f d s0 st framed among known free at sim c) two.e 1 _ (and_one g (I.FrontJumpZero condition.r (place n test p first (Some' q second) isin first_agrees f d s0 st framed among known free at sim c)) condition.e) over_both) in
        subst (λ (m : Made ℕ). Follows g (Left g alive f d s0) s0 (then_do (passes scope active test st) (λ goes after. elim goes as (λ _. Outcome Leaving) [ true ↦ executed scope first n active after | false ↦ else_executed scope (Some' q second) (n + declared first) active after ])) m)
        (sym (code_is n test p first (Some' q second) isin first_agrees f d s0 st framed among known free at sim c ∙ two.is))
        (then_on g (Tested g alive d s0) (Left g alive f d s0) s0 (passes scope active test st) _ condition.r condition.e (Makes (behind (behind n first) second) two.e) (tested n test p first (Some' q second) isin first_agrees f d s0 st framed among known free at sim c) grown
        (λ b st1 r. delayed g (Left g alive f d s0) (jump n test p first (Some' q second) isin first_agrees f d s0 st framed among known free at sim c) s0 _ (Makes (behind (behind n first) second) two.e) (long n test p first (Some' q second) isin first_agrees f d s0 st framed among known free at sim c + (1 + more f d s0 st framed among known free at sim c), over_both) (λ within. by b st1 r within)))
      where
        by : (b : Bool) (st1 : State) → Tested g alive d s0 b st1 (tests n test p first (Some' q second) isin first_agrees f d s0 st framed among known free at sim c).r (tests n test p first (Some' q second) isin first_agrees f d s0 st framed among known free at sim c).e → Within g (jump n test p first (Some' q second) isin first_agrees f d s0 st framed among known free at sim c)
            → Follows g (Left g alive f d s0) s0 (elim b as (λ _. Outcome Leaving) [ true ↦ executed scope first n active st1 | false ↦ executed scope second (n + declared first) active st1 ]) (Makes (behind (behind n first) second) (made_second f d s0 st framed among known free at sim c).e)
        by true st1 r within =
            jumps_over f d (made_first n test p first (Some' q second) isin first_agrees f d s0 st framed among known free at sim c).e (made_second f d s0 st framed among known free at sim c).e (more f d s0 st framed among known free at sim c) (place n test p first (Some' q second) isin first_agrees f d s0 st framed among known free at sim c + more f d s0 st framed among known free at sim c) s0 (executed scope first n active st1) (behind n first) (behind (behind n first) second)
            (made_second f d s0 st framed among known free at sim c).extended (leads_behind f d s0 st framed among known free at sim c) (goes_first n test p first (Some' q second) isin first_agrees f d s0 st framed among known free at sim c st1 r within)
        by false st1 r within = goes_second f d s0 st framed among known free at sim c st1 r within
