-- Blocks and statements in a row, and what jumps out of a loop.
use Rattle.std.proofs.Common.{◌≡◌, ℕ, ◌+◌, ◌≤◌, false, List, ◌++◌, map, Vec, Global, length, sym, subst, arith, refl, Some}
use mathlib.Core.Former.{Count}
use Rattle.std.proofs.lemmas.List.{length-map}
use Rattle.std.specs.List.{All}
use Rattle.cstar_tree.specs.declared.typed.LocalVar.{LocalVar}
use Rattle.cstar_tree.specs.declared.typed.TExpr.{TExpr}
use Rattle.cstar_tree.specs.declared.typed.TStmt.{TStmt, Row_of-TStmt, end_of-TStmt, more_of-TStmt}
use Rattle.cstar_tree.specs.declared.typed.VarInfo.{VarInfo}
use Rattle.cstar_tree.specs.declared.typed.Variable.{Variable}
use Rattle.cstar_tree.specs.Variables.{variables_of}
use Rattle.cstar_tree.specs.declared.typed.TStmt as S
use Rattle.cstar_tree.specs.declared.typed.Variable.TheVariants as V
use Rattle.code_lengths.specs.Agreement.{StandsAmong}
use Rattle.code_lengths.specs.LowerableStatements.{AreLowerableStatements, IsLowerableStatement}
use Rattle.code_lengths.specs.ShapedStatements.{AreShapedStatements, IsShapedStatement}
use Rattle.code_lengths.specs.NamingStatements.{StandFrom, StatementNamesVariables, StatementsNameVariables, behind}
use Rattle.code_lengths.specs.Ready.{HasDeclared, HasStatementCode, IsReadyButForFields, NumbersVariables}
use Rattle.code_lengths.proofs.Declaring.{first_part, info_of, of_block, row_variables, second_part}
use Rattle.lower_base.specs.Drafts.{Draft, Fails, Made, Makes, step as step_of, then_make, with_instr}
use Rattle.lower_base.specs.declared.emit.Out.{Out}
use Rattle.lower_stmt.specs.declared.statement.Frame.{Frame}
use Rattle.lower_stmt.specs.Statements.{part_of, restored, statement_of, statements_of}
use Rattle.lower_stmt.specs.Variables.{all_initialised, declared as declared_in}
use Rattle.meaning_laws.proofs.Parts.{behind as state_after}
use Rattle.paris_code.specs.Code.{CodeState}
use Rattle.paris_code.specs.declared.operands.Field.{Field}
use Rattle.paris_code.specs.declared.instr.Instr.TheVariants as I
use Rattle.source_meaning.specs.State.{Outcome, State, then_do, zeroed}
use Rattle.source_meaning.specs.Statements.{Broke, Continued, Onward, Returned, all_executed, declared, done, executed, initialised, then_go, Leaving}
use Rattle.source_meaning.specs.Values.{Active, Scope, Value}
use Rattle.source_meaning.specs.State as Source
use Rattle.code_follows.proofs.Declaring.{clears, sim_fewer, Alive}
use Rattle.code_follows.specs.Fragment.{IsBlockLocal, IsEffect, OrAmong, naming}
use Rattle.code_follows.proofs.Assigning.{effect_follows}
use Rattle.code_follows.proofs.Besides.{LocalsClear}
use Rattle.code_follows.proofs.Executing.{Exits, Jumped, Left, LeftSo, RanOn, follows_from, go_on}
use Rattle.code_follows.proofs.Callees.{CallsFollow}
use Rattle.code_follows.proofs.Following.{Extends, Follows, follows_other, HasRegisters, Ran, Sim, delayed, extends_made, keeps_all, nothing_said}
use Rattle.code_follows.proofs.Growing.{Extended, as_it_was, extended}
use Rattle.code_follows.proofs.Jumping.{jumps, moved_to, sim_landed}
use Rattle.code_follows.proofs.Restoring.{Restores}
use Rattle.code_follows.proofs.Settings.{OpenAmong, begun_fewer, At, Begun, Held, LastsTo, Setting, Within, and_one, begun_later, earlier, holding, layout, onto, stands_here, start, stay}
use Rattle.code_follows.proofs.Declared.{clears_declare}
use Rattle.code_follows.proofs.Starting.{AreCoded, AreSettled, DeclaredBy, Now, coded, go_after, initials_declared, initials_follow, initials_grow}
use Rattle.code_follows.proofs.Statements.{StandsHere, StandsIn, expression_code, statement_made}

module _ (g : Setting) (has : HasRegisters g) (alive : Variable → Type 0) (files : (k : ℕ) → alive (V.File k)) (numbers : NumbersVariables g.instance (layout g)) (ready : (n : ℕ) (d : Draft) → IsReadyButForFields g.typed g.instance (layout g) n d)
    (scope : Scope) (active : Active) (calls_follow : CallsFollow g scope active)
    (falls : (s : TStmt) (n : ℕ) (st : State) → (state_after (executed scope s n active st)).turns ≤ st.turns) (contexts : List Field) where
  -- an expression as a statement
  effect_statement : (f : Exits) (n : ℕ) (d : Draft) (s0 : CodeState) (o : Outcome Value) (made : Made Out) → Follows g (λ v u out e. Ran g alive d s0 u e) s0 o made
      → Follows g (Left g alive f d s0) s0 (then_do o (λ v after. Source.Gives Onward after)) (then_make (then_make made (λ out after. Makes (tt {0}) after)) (λ u after. Makes n after))
  unfolding Follows LeftSo then_do then_make
  effect_statement f n d s0 (Source.Gives v u) (Makes out e) h = h
  effect_statement f n d s0 (Source.Ends early u) (Makes out e) h = h
  effect_statement f n d s0 (Source.Gives v u) Fails h = tt
  effect_statement f n d s0 (Source.Ends early u) Fails h = tt

  -- contexts are loaded, and a jump out of a loop leads to where this is held
  jumps_out : (held : Held) (lives : Variable → Type 0) → ((x : Variable) → lives x → alive x) → (newest place : ℕ) (d : Draft) (s0 : CodeState) (st : State) → Restores g held contexts newest → LastsTo g (OpenAmong g lives) held place → Begun g alive d → At g s0 (length d.code) → Sim g alive st s0 → Within g (with_instr (I.FrontJump place) (restored contexts newest d)) → Jumped g lives held d s0 st place
  unfolding step_of
  jumps_out held lives among newest place d s0 st restores lasts free at sim within =
      let loaded : Draft = restored contexts newest d in
      let r = restores.loads alive d s0 st free at sim (earlier g loaded (with_instr (I.FrontJump place) loaded) 1 (and_one g (I.FrontJump place) loaded) within) in
      record {
        t = moved_to g alive (place + start g) r.t;
        go = onto g s0 r.t (moved_to g alive (place + start g) r.t) r.go (jumps g alive place loaded r.t within r.at);
        at = omega arith;
        sim = sim_landed (holding g held) lives st r.t (length loaded.code) place (I.FrontJump place) r.at (stands_here g (I.FrontJump place) loaded within refl) refl lasts (sim_fewer (holding g held) alive lives st r.t (λ x info named h. among x h) r.sim);
        keeps = r.keeps;
      }

  -- statements in a row, and what is known of them
  pub record RowCode {k : Count} (n : ℕ) (row : Row_of-TStmt k) : Type 0 where
    pub shaped : AreShapedStatements row
    pub lowerable : AreLowerableStatements g.typed g.instance.result row
    pub names : StatementsNameVariables g.typed g.instance n row
    pub stands : StandFrom (variables_of g.instance.body) n (row_variables row)

  pub row_first : {k : Count} (n : ℕ) (s : TStmt) (rest : Row_of-TStmt k) → RowCode n (more_of-TStmt s rest) → HasStatementCode g.typed g.instance n s
  unfolding AreShapedStatements AreLowerableStatements StatementsNameVariables row_variables
  row_first n s rest c = record { shaped = c.shaped.0; lowerable = c.lowerable.0; names = c.names.0; stands = first_part (variables_of s) (row_variables rest) c.stands }

  pub row_rest : {k : Count} (n : ℕ) (s : TStmt) (rest : Row_of-TStmt k) → RowCode n (more_of-TStmt s rest) → RowCode (behind n s) rest
  unfolding AreShapedStatements AreLowerableStatements StatementsNameVariables row_variables
  row_rest n s rest c = record { shaped = c.shaped.1; lowerable = c.lowerable.1; names = c.names.1; stands = second_part (variables_of s) (row_variables rest) c.stands }

  pub row_grows : {k : Count} (row : Row_of-TStmt k) (f : Frame) (n : ℕ) (d : Draft) → StandsIn g f → StandsAmong f contexts → HasDeclared g.typed g.instance (layout g) n d → RowCode n row → Extends g d (statements_of g.typed (layout g) row f contexts n d)
  unfolding statements_of Extends then_make
  row_grows end_of-TStmt f n d framed among known c = (0, as_it_was d)
  row_grows (more_of-TStmt s rest) f n d framed among known c =
      let made = statement_made g numbers s f contexts n d framed among (row_first n s rest c) known in
      subst (λ (m : Made ℕ). Extends g d (then_make m (λ m' after. statements_of g.typed (layout g) rest f contexts m' after))) (sym made.is)
      (grown_on d made.e _ (statements_of g.typed (layout g) rest f contexts (behind n s) made.e) made.extended (row_grows rest f (behind n s) made.e framed among made.declared (row_rest n s rest c)))
    where
      grown_on : (d e : Draft) (k : ℕ) (m : Made ℕ) → Extended d k e → Extends g e m → Extends g d m
      grown_on d e k (Makes x h) a b = (k + b.0, extended d e h k b.0 a b.1)
      grown_on d e k Fails a b = tt

  -- nothing is done
  pub stays_here : (f : Exits) (n : ℕ) (d : Draft) (s0 : CodeState) (st : State) → At g s0 (length d.code) → Sim g alive st s0 → Follows g (Left g alive f d s0) s0 (Source.Gives Onward st) (Makes n d)
  unfolding Follows LeftSo
  stays_here f n d s0 st at sim = λ within. record { grown = (0, as_it_was d); t = s0; go = stay g s0; at = at; sim = sim; keeps = keeps_all g d s0 }

  pub expression_follows : (e : TExpr) → (IsEffect (naming g.may alive)) e → (f : Exits) (n : ℕ) (d : Draft) (s0 : CodeState) (st : State) → Begun g alive d → At g s0 (length d.code) → Sim g alive st s0 → HasStatementCode g.typed g.instance n (S.Expression e)
      → Follows g (Left g alive f d s0) s0 (done scope active (Some e) st) (then_make (part_of g.typed (layout g) (Some e) d) (λ u after. Makes n after))
  unfolding done part_of
  expression_follows e h f n d s0 st free at sim c =
      effect_statement f n d s0 _ _ (effect_follows g has alive n files (ready n) scope active calls_follow e h (expression_code g numbers n e c) d s0 st free at sim)

  pub breaks : (f : Exits) (n : ℕ) (d : Draft) (s0 : CodeState) (st : State) → StandsHere g alive f contexts → Begun g alive d → At g s0 (length d.code) → Sim g alive st s0 → Follows g (Left g alive f d s0) s0 (Source.Gives Broke st) (Makes n (with_instr (I.FrontJump f.frame.after) (restored contexts f.frame.saved.in_loop d)))
  unfolding Follows LeftSo
  breaks f n d s0 st stands free at sim = λ within. jumps_out f.loop f.lives stands.lives f.frame.saved.in_loop f.frame.after d s0 st stands.loop stands.after free at sim within

  pub continues : (f : Exits) (n : ℕ) (d : Draft) (s0 : CodeState) (st : State) → StandsHere g alive f contexts → Begun g alive d → At g s0 (length d.code) → Sim g alive st s0 → Follows g (Left g alive f d s0) s0 (Source.Gives Continued st) (Makes n (with_instr (I.FrontJump f.frame.next) (restored contexts f.frame.saved.in_loop d)))
  unfolding Follows LeftSo
  continues f n d s0 st stands free at sim = λ within. jumps_out f.loop f.lives stands.lives f.frame.saved.in_loop f.frame.next d s0 st stands.loop stands.next free at sim within

  pub block_stands : (n : ℕ) (locals : Vec LocalVar Global) (p : Vec (Unit {0}) Global) (row : _) → HasStatementCode g.typed g.instance n (S.Block' locals p row) → StandFrom (variables_of g.instance.body) n (map info_of locals.items ++ row_variables row)
  block_stands n locals p row c = subst (λ (own : List VarInfo). StandFrom (variables_of g.instance.body) n own) (of_block locals p row) c.stands

  pub block_code : (n : ℕ) (locals : Vec LocalVar Global) (p : Vec (Unit {0}) Global) (row : _) → HasStatementCode g.typed g.instance n (S.Block' locals p row) → RowCode (n + length locals.items) row
  unfolding IsShapedStatement IsLowerableStatement StatementNamesVariables
  block_code n locals p row c = record {
    shaped = c.shaped.1;
    lowerable = c.lowerable.1;
    names = c.names.1;
    stands = subst (λ (k : ℕ). StandFrom (variables_of g.instance.body) (n + k) (row_variables row)) (length-map locals.items info_of) (second_part (map info_of locals.items) (row_variables row) (block_stands n locals p row c));
  }

  -- the initialisers of a block and its statements behind them, where its variables are cleared
  abbrev pub begun_code : {k : Count} → List LocalVar → Row_of-TStmt k → Exits → ℕ → Draft → Made ℕ
  begun_code locals row f n d = then_make (then_make (all_initialised g.typed (layout g) locals n d) (λ v after. Makes (n + length locals) after)) (λ m after. statements_of g.typed (layout g) row f.frame contexts m after)

  pub begun_grows : {k : Count} (locals : List LocalVar) (row : Row_of-TStmt k) (f : Exits) (n : ℕ) (d : Draft) → AreSettled g has alive files ready scope active calls_follow n locals → AreCoded g has alive files ready scope active calls_follow n locals → RowCode (n + length locals) row → StandsIn g f.frame → StandsAmong f.frame contexts → HasDeclared g.typed g.instance (layout g) (n + length locals) d
      → Extends g d (begun_code locals row f n d)
  unfolding then_make Extends DeclaredBy
  begun_grows locals row f n d settled initial code framed among known = by (all_initialised g.typed (layout g) locals n d) refl
    where
      by : (m : Made (Unit {0})) → all_initialised g.typed (layout g) locals n d ≡ m → Extends g d (then_make (then_make m (λ v after. Makes (n + length locals) after)) (λ m' after. statements_of g.typed (layout g) row f.frame contexts m' after))
      by Fails is = tt
      by (Makes u e) is =
          let grows : (j : ℕ) × Extended d j e = subst (λ (m : Made (Unit {0})). Extends g d m) is (initials_grow g has alive files ready scope active calls_follow locals n d settled initial) in
          extends_made g d e grows.0 (statements_of g.typed (layout g) row f.frame contexts (n + length locals) e) grows.1 (row_grows row f.frame (n + length locals) e framed among (subst (λ (m : Made (Unit {0})). DeclaredBy g (n + length locals) m) is (initials_declared g has alive files ready scope active calls_follow locals n (n + length locals) d settled initial known)) code)

  pub begun_follows : {k : Count} (locals : List LocalVar) (row : Row_of-TStmt k) (f : Exits) (n : ℕ) (d : Draft) (s0 : CodeState) (st : State) → AreSettled g has alive files ready scope active calls_follow n locals → AreCoded g has alive files ready scope active calls_follow n locals → RowCode (n + length locals) row
      → StandsIn g f.frame → StandsAmong f.frame contexts → HasDeclared g.typed g.instance (layout g) (n + length locals) d → Begun g alive d → At g s0 (length d.code) → Sim g (λ z. Now g has alive files ready scope active calls_follow locals n z) st s0
      → ((e : Draft) (t : CodeState) (u : State) → HasDeclared g.typed g.instance (layout g) (n + length locals) e → Begun g alive e → At g t (length e.code) → Sim g alive u t → Follows g (Left g alive f e t) t (all_executed scope row (n + length locals) active u) (statements_of g.typed (layout g) row f.frame contexts (n + length locals) e))
      → Follows g (Left g alive f d s0) s0 (then_go (initialised scope active n locals st) (all_executed scope row (n + length locals) active)) (begun_code locals row f n d)
  unfolding then_make Extends DeclaredBy
  begun_follows locals row f n d s0 st settled initial code framed among known free at sim next = by (all_initialised g.typed (layout g) locals n d) refl
    where
      whole : Outcome Leaving
      whole = then_go (initialised scope active n locals st) (all_executed scope row (n + length locals) active)

      by : (m : Made (Unit {0})) → all_initialised g.typed (layout g) locals n d ≡ m → Follows g (Left g alive f d s0) s0 whole (then_make (then_make m (λ v after. Makes (n + length locals) after)) (λ m' after. statements_of g.typed (layout g) row f.frame contexts m' after))
      by Fails is = nothing_said g (Left g alive f d s0) s0 whole
      by (Makes u e) is =
          let grows : (j : ℕ) × Extended d j e = subst (λ (m : Made (Unit {0})). Extends g d m) is (initials_grow g has alive files ready scope active calls_follow locals n d settled initial) in
          let known_e : HasDeclared g.typed g.instance (layout g) (n + length locals) e = subst (λ (m : Made (Unit {0})). DeclaredBy g (n + length locals) m) is (initials_declared g has alive files ready scope active calls_follow locals n (n + length locals) d settled initial known) in
          let made : Made ℕ = statements_of g.typed (layout g) row f.frame contexts (n + length locals) e in
          go_after g has alive files ready scope active calls_follow d s0 (Left g alive f d s0) (initialised scope active n locals st) (all_executed scope row (n + length locals) active) u e made
          (subst (λ (m : Made (Unit {0})). Follows g (RanOn g alive d s0) s0 (initialised scope active n locals st) m) is (initials_follow g has alive files ready scope active calls_follow locals n d s0 st settled initial free at sim)) (row_grows row f.frame (n + length locals) e framed among known_e code)
          (λ v one. follows_from g alive f d e grows.0 s0 one.t (all_executed scope row (n + length locals) active v) made grows.1 one.go one.keeps (next e one.t v known_e (begun_later g alive d e grows.0 grows.1 free) one.at one.sim))

  -- a block: its variables, and then its statements
  pub block_follows : {k : Count} → LocalsClear g → (before : Variable → Type 0) (locals : List LocalVar) (row : Row_of-TStmt k) (f : Exits) (n : ℕ) (d : Draft) (s0 : CodeState) (st : State) → All (IsBlockLocal g.may.beside) locals → StandFrom (variables_of g.instance.body) n (map info_of locals) → AreSettled g has alive files ready scope active calls_follow n locals → AreCoded g has alive files ready scope active calls_follow n locals → RowCode (n + length locals) row
      → StandsIn g f.frame → StandsAmong f.frame contexts → HasDeclared g.typed g.instance (layout g) n d → Begun g before d → At g s0 (length d.code) → Sim g before st s0 → ((x : Variable) → alive x → OrAmong before n (length locals) x)
      → ((e : Draft) (t : CodeState) (u : State) → HasDeclared g.typed g.instance (layout g) (n + length locals) e → Begun g alive e → At g t (length e.code) → Sim g alive u t → Follows g (Left g alive f e t) t (all_executed scope row (n + length locals) active u) (statements_of g.typed (layout g) row f.frame contexts (n + length locals) e))
      → Follows g (Left g alive f d s0) s0 (then_go (initialised scope active n locals (zeroed n (length locals) st)) (all_executed scope row (n + length locals) active)) (then_make (declared_in g.typed (layout g) false locals n d) (λ m after. statements_of g.typed (layout g) row f.frame contexts m after))
  unfolding declared_in then_make
  block_follows parallels before locals row f n d s0 st isin stand settled initial code framed among known free at sim covers next =
      let c = clears g has parallels numbers before locals n d isin stand known in
      let after_zero : State = zeroed n (length locals) st in
      let whole : Outcome Leaving = then_go (initialised scope active n locals after_zero) (all_executed scope row (n + length locals) active) in
      let known_e : HasDeclared g.typed g.instance (layout g) (n + length locals) c.e = clears_declare g false locals n d c.e c.is stand numbers known in
      subst (λ (m : Made (Unit {0})). Follows g (Left g alive f d s0) s0 whole (then_make (then_make m (λ u between. then_make (all_initialised g.typed (layout g) locals n between) (λ v after. Makes (n + length locals) after))) (λ m' after. statements_of g.typed (layout g) row f.frame contexts m' after))) (sym c.is)
      (delayed g (Left g alive f d s0) c.e s0 whole (begun_code locals row f n c.e) (begun_grows locals row f n c.e settled initial code framed among known_e) (λ within.
      let ran = c.runs s0 st free at sim within in
      let started : Sim g (λ z. Now g has alive files ready scope active calls_follow locals n z) after_zero ran.t = sim_fewer g (λ x. Alive before locals n x) (λ z. Now g has alive files ready scope active calls_follow locals n z) after_zero ran.t (λ x info named h. (covers x h.0, h.1)) ran.sim in
      follows_from g alive f d c.e c.count s0 ran.t whole (begun_code locals row f n c.e) c.grown ran.go ran.keeps
      (begun_follows locals row f n c.e ran.t after_zero settled initial code framed among known_e (begun_fewer g (λ x. OrAmong before n (length locals) x) alive c.e covers (c.opened within free)) ran.at started next)))

  -- what has code of a block's initialisers
  pub block_initials : (n : ℕ) (locals : Vec LocalVar Global) (p : Vec (Unit {0}) Global) (row : _) → HasStatementCode g.typed g.instance n (S.Block' locals p row) → AreCoded g has alive files ready scope active calls_follow n locals.items
  unfolding IsShapedStatement IsLowerableStatement StatementNamesVariables
  block_initials n locals p row c = coded g has alive files ready scope active calls_follow n locals.items c.shaped.0 c.lowerable.0 c.names.0 (first_part (map info_of locals.items) (row_variables row) (block_stands n locals p row c))

  pub row_onward : {k : Count} (s : TStmt) (rest : Row_of-TStmt k) (f : Exits) (n : ℕ) (d : Draft) (s0 : CodeState) (st : State) → StandsIn g f.frame → StandsAmong f.frame contexts → HasDeclared g.typed g.instance (layout g) n d → Begun g alive d → RowCode n (more_of-TStmt s rest)
      → Follows g (Left g alive f d s0) s0 (executed scope s n active st) (statement_of g.typed (layout g) s f.frame contexts n d)
      → ((e : Draft) (t : CodeState) (u : State) → HasDeclared g.typed g.instance (layout g) (behind n s) e → Begun g alive e → At g t (length e.code) → Sim g alive u t → Follows g (Left g alive f e t) t (all_executed scope rest (n + declared s) active u) (statements_of g.typed (layout g) rest f.frame contexts (n + declared s) e))
      → Follows g (Left g alive f d s0) s0 (then_go (executed scope s n active st) (all_executed scope rest (n + declared s) active)) (then_make (statement_of g.typed (layout g) s f.frame contexts n d) (λ m after. statements_of g.typed (layout g) rest f.frame contexts m after))
  unfolding then_make declared
  row_onward s rest f n d s0 st framed among known free c first next =
      let made = statement_made g numbers s f.frame contexts n d framed among (row_first n s rest c) known in
      subst (λ (m : Made ℕ). Follows g (Left g alive f d s0) s0 (then_go (executed scope s n active st) (all_executed scope rest (n + declared s) active)) (then_make m (λ m' after. statements_of g.typed (layout g) rest f.frame contexts m' after))) (sym made.is)
      (go_on g alive (λ u h. Ran g alive d s0 u h) f d s0 (executed scope s n active st) (all_executed scope rest (n + declared s) active) (behind n s) made.e (statements_of g.typed (layout g) rest f.frame contexts (behind n s) made.e)
      (subst (λ (m : Made ℕ). Follows g (Left g alive f d s0) s0 (executed scope s n active st) m) made.is first) (row_grows rest f.frame (behind n s) made.e framed among made.declared (row_rest n s rest c))
      (λ u ran. follows_from g alive f d made.e ran.grown.0 s0 ran.t (all_executed scope rest (n + declared s) active u) (statements_of g.typed (layout g) rest f.frame contexts (behind n s) made.e) ran.grown.1 ran.go ran.keeps
      (next made.e ran.t u made.declared (begun_later g alive d made.e ran.grown.0 ran.grown.1 free) ran.at ran.sim)))

-- what is said of more variables is said of fewer where a statement is left
module _ (g : Setting) (wide alive : Variable → Type 0) (among : (x : Variable) → alive x → wide x) where
  left_fewer : (f : Exits) (d : Draft) (s : CodeState) (leaving : Leaving) (st : State) (m : ℕ) (e : Draft) → Left g wide f d s leaving st m e → Left g alive f d s leaving st m e
  unfolding LeftSo
  left_fewer f d s Onward st m e r = record { grown = r.grown; t = r.t; go = r.go; at = r.at; sim = sim_fewer g wide alive st r.t (λ x info named h. among x h) r.sim; keeps = r.keeps }
  left_fewer f d s Broke st m e r = r
  left_fewer f d s Continued st m e r = r
  left_fewer f d s (Returned v) st m e r = r

  pub follows_fewer : (f : Exits) (d : Draft) (s : CodeState) (o : Outcome Leaving) (made : Made ℕ) → Follows g (Left g wide f d s) s o made → Follows g (Left g alive f d s) s o made
  follows_fewer f d s o made h = follows_other g (Left g wide f d s) (Left g alive f d s) s o made h (λ leaving st m e r. left_fewer f d s leaving st m e r)
