-- Every statement of the fragment, under whatever contexts it stands.
use Rattle.std.proofs.Common.{◌≡◌, Vec, Global, Option, ℕ, ◌+◌, ◌≤◌, List, [], ◌∷◌, ◌++◌, map, length, subst, inl, inr, ap}
use Rattle.std.specs.Prelude.{IfSome}
use Rattle.std.specs.List.{All}
use mathlib.Core.Former.{Count}
use Rattle.cstar_tree.specs.declared.typed.LocalVar.{LocalVar}
use Rattle.cstar_tree.specs.Typed.{type_of}
use Rattle.cstar_tree.specs.declared.typed.TExpr.{TExpr}
use Rattle.cstar_tree.specs.declared.typed.TStmt.{TStmt, Row_of-TStmt, end_of-TStmt, more_of-TStmt, Held-TStmt-If-2, None', Some'}
use Rattle.cstar_tree.specs.declared.typed.Variable.{Variable}
use Rattle.cstar_tree.specs.Variables.{variables_of}
use Rattle.cstar_tree.specs.declared.typed.TStmt as S
use Rattle.cstar_tree.specs.declared.typed.Variable.TheVariants as V
use Rattle.code_lengths.specs.Agreement.{StandsAmong}
use Rattle.code_lengths.specs.NamingStatements.{behind}
use Rattle.code_lengths.specs.Ready.{HasDeclared, HasStatementCode, IsReadyButForFields, NumbersVariables}
use Rattle.code_lengths.proofs.Declaring.{first_part, info_of, row_variables}
use Rattle.lower_base.specs.Drafts.{Draft}
use Rattle.lower_stmt.specs.Statements.{statement_of, statements_of}
use Rattle.lower_stmt.specs.Frames.{in_context}
use Rattle.lower_stmt.specs.Lengths.{one_more}
use Rattle.meaning_laws.proofs.Parts.{behind as state_after}
use Rattle.paris_code.specs.Code.{CodeState}
use Rattle.paris_code.specs.declared.operands.Field.{Field}
use Rattle.source_meaning.specs.State.{State}
use Rattle.source_meaning.specs.Statements.{all_executed, declared, executed}
use Rattle.source_meaning.specs.Values.{Active, Scope}
use Rattle.source_meaning.proofs.ConstantLaws.{Boxed}
use Rattle.code_follows.proofs.Declaring.{AreBefore, among_before, declared_later}
use Rattle.code_follows.specs.Fragment.{AreInStatements, AreInitials, IsEffect, IsIn, IsInElse, IsInStatement, IsBlockLocal, OrAmong, NamesAmong, naming}
use Rattle.code_follows.proofs.Choices.{Agrees, if_alone, if_else}
use Rattle.code_follows.proofs.Executing.{Exits, Left}
use Rattle.code_follows.proofs.ForLoops.{do_agrees, for_agrees, while_agrees}
use Rattle.code_follows.proofs.Callees.{CallsFollow}
use Rattle.code_follows.proofs.Following.{Follows, HasRegisters, Sim}
use Rattle.code_follows.proofs.Parts.{BesideFollows, StatementPart, in_one_more}
use Rattle.code_follows.proofs.Restoring.{restores_inside}
use Rattle.code_follows.proofs.Returning.{return_follows}
use Rattle.code_follows.proofs.Settings.{At, Begun, Setting, layout, Held}
use Rattle.code_follows.proofs.Starting.{settled_so}
use Rattle.code_follows.proofs.Statements.{StandsHere, stands_wider, StandsIn, deeper, everywhere_body, in_context_too, returned_code, statement_made, where_first, where_second, with_body}
use Rattle.code_follows.proofs.Besides.{LocalsClear, registers_under, under_held}
use Rattle.code_follows.proofs.Bodies.{RowCode, block_code, block_follows, block_initials, block_stands, breaks, continues, expression_follows, follows_fewer, row_first, row_onward, row_rest, stays_here}

-- what is declared before a statement is declared behind it
behind_too : (alive : Variable → Type 0) (n : ℕ) (s : TStmt) → AreBefore alive n → AreBefore alive (behind n s)
behind_too alive n s before x living = declared_later n (length (variables_of s)) x (before x living)

-- the statement behind `else` is one
the_same : {q q' : Boxed} (s other : TStmt) → Some' q s ≡ Some' q' other → s ≡ other
the_same s other is = ap (λ (held : Held-TStmt-If-2). elim held as (λ _. TStmt) [ None' ↦ s | Some' p x ↦ x ]) is

no_other : {q : Boxed} (s : TStmt) → None' ≡ Some' q s → ⊥
no_other s is = cc

-- where statements of a function stand, and what is known there
pub record Around (Known : Setting → Scope → Active → Type 1) (g : Setting) (scope : Scope) (active : Active) : Type 1 where
  pub has : HasRegisters g
  pub numbers : NumbersVariables g.instance (layout g)
  pub ready : (n : ℕ) (d : Draft) → IsReadyButForFields g.typed g.instance (layout g) n d
  pub calls : (held : Held) (from entries upto : ℕ) (a : Active) → Known (under_held g held from entries upto) scope a → CallsFollow (under_held g held from entries upto) scope a
  pub falls : (a : Active) (s : TStmt) (n : ℕ) (st : State) → (state_after (executed scope s n a st)).turns ≤ st.turns
  pub known : Known g scope active

-- calls follow here
abbrev calls_here : {Known : Setting → Scope → Active → Type 1} {scope : Scope} (g : Setting) (active : Active) → Around Known g scope active → CallsFollow g scope active
calls_here g active r = r.calls g.held g.from g.entries g.upto active r.known

-- statements of each form follow, where those in them do
module _ {Known : Setting → Scope → Active → Type 1} {scope : Scope} (g : Setting) (active : Active) (r : Around Known g scope active) (contexts : List Field) (alive : Variable → Type 0) (files : (k : ℕ) → alive (V.File k)) where
  abbrev Follow : ℕ → TStmt → Type 1
  Follow n s = Agrees g r.has alive files r.numbers r.ready scope active (calls_here g active r) contexts n s

  -- statements in a row
  abbrev pub RowAgrees : {k : Count} → ℕ → Row_of-TStmt k → Type 1
  RowAgrees n row =
      (f : Exits) (d : Draft) (s0 : CodeState) (st : State) → StandsIn g f.frame → StandsHere g alive f contexts → HasDeclared g.typed g.instance (layout g) n d → Begun g alive d → At g s0 (length d.code) → Sim g alive st s0 → RowCode g r.has alive files r.numbers r.ready scope active (calls_here g active r) (r.falls active) contexts n row
      → Follows g (Left g alive f d s0) s0 (all_executed scope row n active st) (statements_of g.typed (layout g) row f.frame contexts n d)

  end_agrees : (n : ℕ) → RowAgrees n end_of-TStmt
  unfolding all_executed statements_of
  end_agrees n f d s0 st framed stands known free at sim c = stays_here g r.has alive files r.numbers r.ready scope active (calls_here g active r) (r.falls active) contexts f n d s0 st at sim

  more_agrees : {k : Count} (n : ℕ) (s : TStmt) (rest : Row_of-TStmt k) → Follow n s → RowAgrees (behind n s) rest → RowAgrees n (more_of-TStmt s rest)
  unfolding all_executed statements_of declared
  more_agrees n s rest first others f d s0 st framed stands known free at sim c =
      row_onward g r.has alive files r.numbers r.ready scope active (calls_here g active r) (r.falls active) contexts s rest f n d s0 st framed stands.among known free c
      (first f d s0 st framed stands known free at sim (row_first g r.has alive files r.numbers r.ready scope active (calls_here g active r) (r.falls active) contexts n s rest c))
      (λ e t u none_e free_e at_e sim_e. others f e t u framed stands none_e free_e at_e sim_e (row_rest g r.has alive files r.numbers r.ready scope active (calls_here g active r) (r.falls active) contexts n s rest c))

  expression_agrees : (n : ℕ) (e : TExpr) → IsEffect (naming g.may alive) e → Follow n (S.Expression e)
  unfolding executed statement_of
  expression_agrees n e h f d s0 st framed stands known free at sim c = expression_follows g r.has alive files r.numbers r.ready scope active (calls_here g active r) (r.falls active) contexts e h f n d s0 st free at sim c

  empty_agrees : (n : ℕ) → Follow n S.Empty
  unfolding executed statement_of
  empty_agrees n f d s0 st framed stands known free at sim c = stays_here g r.has alive files r.numbers r.ready scope active (calls_here g active r) (r.falls active) contexts f n d s0 st at sim

  with_agrees : (n shape : ℕ) (p : Boxed) (body : TStmt) → Follow n body → Follow n (S.With' shape p body)
  unfolding executed statement_of
  with_agrees n shape p body follows f d s0 st framed stands known free at sim c = follows f d s0 st framed stands known free at sim (with_body g r.numbers n shape p body c)

  break_agrees : (n : ℕ) → Follow n S.Break
  unfolding executed statement_of
  break_agrees n f d s0 st framed stands known free at sim c = breaks g r.has alive files r.numbers r.ready scope active (calls_here g active r) (r.falls active) contexts f n d s0 st stands free at sim

  continue_agrees : (n : ℕ) → Follow n S.Continue
  unfolding executed statement_of
  continue_agrees n f d s0 st framed stands known free at sim c = continues g r.has alive files r.numbers r.ready scope active (calls_here g active r) (r.falls active) contexts f n d s0 st stands free at sim

  return_agrees : (n : ℕ) (e : Option TExpr) → IfSome e (λ x. IsIn (naming g.may alive) x × g.may.returns (type_of x).elem) → Follow n (S.Return e)
  return_agrees n e h f d s0 st framed stands known free at sim c =
      return_follows g r.has alive files r.ready scope active (calls_here g active r) f contexts stands e h n d s0 st framed free at sim (returned_code g r.numbers e n c)

module _ {Known : Setting → Scope → Active → Type 1} {scope : Scope} (g : Setting) (active : Active) (r : Around Known g scope active) (contexts : List Field) (alive : Variable → Type 0) (files : (k : ℕ) → alive (V.File k)) where
  -- a block, where its statements follow with its variables
  block_agrees : LocalsClear g → (n : ℕ) → AreBefore alive n → (locals : Vec LocalVar Global) (p : Vec (Unit {0}) Global) (statements : _) → All (IsBlockLocal g.may.beside) locals.items → AreInitials (naming g.may alive) n locals.items
      → RowAgrees g active r contexts (λ x. OrAmong alive n (length locals.items) x) (λ k. inl (files k)) (n + length locals.items) statements → Follow g active r contexts alive files n (S.Block' locals p statements)
  unfolding executed statement_of
  block_agrees parallels n before locals p statements scalars initials follows f d s0 st framed stands known free at sim c =
      let wide : Variable → Type 0 = λ x. OrAmong alive n (length locals.items) x in
      let wide_files : (k : ℕ) → wide (V.File k) = λ k. inl (files k) in
      let code = block_code g r.has wide wide_files r.numbers r.ready scope active (calls_here g active r) (r.falls active) contexts n locals p statements c in
      follows_fewer g wide alive (λ x living. inl living) f d s0 _ _
      (block_follows g r.has wide wide_files r.numbers r.ready scope active (calls_here g active r) (r.falls active) contexts parallels alive locals.items statements f n d s0 st scalars
      (first_part (map info_of locals.items) (row_variables statements) (block_stands g r.has wide wide_files r.numbers r.ready scope active (calls_here g active r) (r.falls active) contexts n locals p statements c))
      (settled_so g r.has wide wide_files r.ready scope active (calls_here g active r) alive locals.items n (λ x living. inl living) (λ x own. inr own) before initials)
      (block_initials g r.has wide wide_files r.numbers r.ready scope active (calls_here g active r) (r.falls active) contexts n locals p statements c) code framed stands.among known free at sim (λ x living. living)
      (λ e t u none_e free_e at_e sim_e. follows f e t u framed (stands_wider g alive wide (λ x living. inl living) f contexts stands) none_e free_e at_e sim_e code))

module _ {Known : Setting → Scope → Active → Type 1} (scope : Scope) (besides : (g : Setting) (a : Active) → Known g scope a → (has : HasRegisters g) → BesideFollows Known g has scope a) where
  -- under one context more, where this is known
  around_part : (g : Setting) (active : Active) → Around Known g scope active → (held : Held) (from entries upto : ℕ) (a : Active) → Known (under_held g held from entries upto) scope a → Around Known (under_held g held from entries upto) scope a
  around_part g active r held from entries upto a known = record {
    has = registers_under g held from entries upto r.has;
    numbers = r.numbers;
    ready = r.ready;
    calls = r.calls;
    falls = r.falls;
    known = known;
  }

  -- wherever this is known of a unit under contexts, a statement follows
  abbrev FollowsWherever : (g : Setting) (active : Active) → Around Known g scope active → (alive : Variable → Type 0) → ((k : ℕ) → alive (V.File k)) → ℕ → TStmt → Type 1
  FollowsWherever g active r alive files n s =
      (held : Held) (from entries upto : ℕ) (a : Active) (known : Known (under_held g held from entries upto) scope a) (inner : List Field)
      → let part = around_part g active r held from entries upto a known in
      Agrees (under_held g held from entries upto) part.has alive files part.numbers part.ready scope a (calls_here (under_held g held from entries upto) a part) inner n s

  abbrev ElseFollowsWherever : (g : Setting) (active : Active) → Around Known g scope active → (alive : Variable → Type 0) → ((k : ℕ) → alive (V.File k)) → ℕ → Held-TStmt-If-2 → Type 1
  ElseFollowsWherever g active r alive files n second =
      (held : Held) (from entries upto : ℕ) (a : Active) (known : Known (under_held g held from entries upto) scope a) (inner : List Field) (q : Boxed) (s : TStmt) → second ≡ Some' q s
      → let part = around_part g active r held from entries upto a known in
      Agrees (under_held g held from entries upto) part.has alive files part.numbers part.ready scope a (calls_here (under_held g held from entries upto) a part) inner n s

  -- a statement under one context more
  part_follows : (g : Setting) (active : Active) (r : Around Known g scope active) (contexts : List Field) (alive : Variable → Type 0) (files : (k : ℕ) → alive (V.File k)) (n : ℕ) (s : TStmt)
      → (f : Exits) → StandsIn g f.frame → StandsHere g alive f contexts → HasStatementCode g.typed g.instance n s → FollowsWherever g active r alive files n s → StatementPart Known g scope alive s n f contexts
  unfolding in_context one_more
  part_follows g active r contexts alive files n s f framed stands c follows saved =
      let inner : List Field = contexts ++ saved ∷ [] in
      let deep : StandsAmong (in_context f.frame) inner = deeper f.frame contexts saved stands.among in
      let framed_so : StandsIn g (in_context f.frame) = in_context_too g f.frame framed in
      record {
        made = λ d known. let made = statement_made g r.numbers s (in_context f.frame) inner n d framed_so deep c known in (made.e, (made.is, (_, made.extended), made.declared));
        follows = λ held from entries upto a inside known d t st declared_so free at sim.
            follows held from entries upto a known inner (in_one_more f) d t st (record { outcome = framed_so.outcome; main = framed_so.main; scalar = framed_so.scalar }) (record {
              among = deep;
              loop = restores_inside g saved held from entries upto inside f.loop contexts f.frame.saved.in_loop stands.loop;
              after = stands.after;
              next = stands.next;
              lives = stands.lives;
              outer = stands.outer;
              all = restores_inside g saved held from entries upto inside f.all contexts f.frame.saved.in_all stands.all;
            }) declared_so free at sim c;
      }

  -- those that set contexts follow where what stands under these does
  everywhere_agrees : (g : Setting) (active : Active) (r : Around Known g scope active) (contexts : List Field) (alive : Variable → Type 0) (files : (k : ℕ) → alive (V.File k)) (n shape : ℕ) (p : Boxed) (body : TStmt) → g.may.beside.widens shape → FollowsWherever g active r alive files n body
      → Agrees g r.has alive files r.numbers r.ready scope active (calls_here g active r) contexts n (S.Everywhere' shape p body)
  everywhere_agrees g active r contexts alive files n shape p body h follows f d s0 st framed stands known free at sim c =
      (besides g active r.known r.has).widenings alive files n (r.ready n) shape p body h c f contexts (part_follows g active r contexts alive files n body f framed stands (everywhere_body g r.numbers n shape p body c) follows) d s0 st known free at sim

  where_agrees : (g : Setting) (active : Active) (r : Around Known g scope active) (contexts : List Field) (alive : Variable → Type 0) (files : (k : ℕ) → alive (V.File k)) (n shape : ℕ) (test : TExpr) (p : Boxed) (first : TStmt) (second : Held-TStmt-If-2) → g.may.beside.conditions shape test → NamesAmong alive test
      → FollowsWherever g active r alive files n first → ElseFollowsWherever g active r alive files (behind n first) second → Agrees g r.has alive files r.numbers r.ready scope active (calls_here g active r) contexts n (S.Where' shape test p first second)
  where_agrees g active r contexts alive files n shape test p first second h among follows others f d s0 st framed stands known free at sim c =
      (besides g active r.known r.has).wheres alive files n (r.ready n) shape test p first second h among c f contexts (part_follows g active r contexts alive files n first f framed stands (where_first g r.numbers n shape test p first second c) follows)
      (λ q s is. part_follows g active r contexts alive files (behind n first) s f framed stands (where_second g r.numbers n shape test p first q s (subst (λ (other : Held-TStmt-If-2). HasStatementCode g.typed g.instance n (S.Where' shape test p first other)) is c)) (λ held from entries upto a known inner. others held from entries upto a known inner q s is)) d s0 st known free at sim

  mutual
    unfolding IsInStatement IsInElse AreInStatements

    pub statement_follows : (g : Setting) (active : Active) (r : Around Known g scope active) (contexts : List Field) (alive : Variable → Type 0) (files : (k : ℕ) → alive (V.File k)) (n : ℕ) → AreBefore alive n → (s : TStmt) → IsInStatement (naming g.may alive) n s
        → Agrees g r.has alive files r.numbers r.ready scope active (calls_here g active r) contexts n s
    statement_follows g active r contexts alive files n before (S.Block' locals p statements) h =
        block_agrees g active r contexts alive files (besides g active r.known r.has).locals n before locals p statements h.0 h.1 (row_follows g active r contexts (λ x. OrAmong alive n (length locals.items) x) (λ k. inl (files k)) (n + length locals.items) (among_before alive n (length locals.items) before) statements h.2)
    statement_follows g active r contexts alive files n before (S.Expression e) h = expression_agrees g active r contexts alive files n e h
    statement_follows g active r contexts alive files n before S.Empty h = empty_agrees g active r contexts alive files n
    statement_follows g active r contexts alive files n before (S.If' test p first None') h =
        if_alone g r.has alive files r.numbers r.ready scope active (calls_here g active r) contexts n test p first h.0 (statement_follows g active r contexts alive files n before first h.1)
    statement_follows g active r contexts alive files n before (S.If' test p first (Some' q second)) h =
        if_else g r.has alive files r.numbers r.ready scope active (calls_here g active r) contexts n test p first q second h.0 (statement_follows g active r contexts alive files n before first h.1)
        (statement_follows g active r contexts alive files (behind n first) (behind_too alive n first before) second h.2)
    statement_follows g active r contexts alive files n before (S.While' test p body) h =
        while_agrees g r.has alive files r.numbers r.ready scope active (calls_here g active r) (r.falls active) contexts n test p body h.0 (statement_follows g active r contexts alive files n before body h.1)
    statement_follows g active r contexts alive files n before (S.For' first test step p body) h =
        for_agrees g r.has alive files r.numbers r.ready scope active (calls_here g active r) (r.falls active) contexts n first step test p body h.0 h.1 h.2 (statement_follows g active r contexts alive files n before body h.3)
    statement_follows g active r contexts alive files n before (S.Do' p body test) h =
        do_agrees g r.has alive files r.numbers r.ready scope active (calls_here g active r) (r.falls active) contexts n test p body h.1 (statement_follows g active r contexts alive files n before body h.0)
    statement_follows g active r contexts alive files n before (S.With' shape p body) h = with_agrees g active r contexts alive files n shape p body (statement_follows g active r contexts alive files n before body h)
    statement_follows g active r contexts alive files n before S.Break h = break_agrees g active r contexts alive files n
    statement_follows g active r contexts alive files n before S.Continue h = continue_agrees g active r contexts alive files n
    statement_follows g active r contexts alive files n before (S.Return e) h = return_agrees g active r contexts alive files n e h
    statement_follows g active r contexts alive files n before (S.Everywhere' shape p body) h =
        everywhere_agrees g active r contexts alive files n shape p body h.0 (λ held from entries upto a known inner. statement_follows (under_held g held from entries upto) a (around_part g active r held from entries upto a known) inner alive files n before body h.1)
    statement_follows g active r contexts alive files n before (S.Where' shape test p first second) h =
        where_agrees g active r contexts alive files n shape test p first second h.0 h.1 (λ held from entries upto a known inner. statement_follows (under_held g held from entries upto) a (around_part g active r held from entries upto a known) inner alive files n before first h.2)
        (λ held from entries upto a known inner. else_follows (under_held g held from entries upto) a (around_part g active r held from entries upto a known) inner alive files (behind n first) (behind_too alive n first before) second h.3)

    -- the statement behind an `else`, if there is one
    else_follows : (g : Setting) (active : Active) (r : Around Known g scope active) (contexts : List Field) (alive : Variable → Type 0) (files : (k : ℕ) → alive (V.File k)) (n : ℕ) → AreBefore alive n → (second : Held-TStmt-If-2) → IsInElse (naming g.may alive) n second
        → (q : Boxed) (s : TStmt) → second ≡ Some' q s → Agrees g r.has alive files r.numbers r.ready scope active (calls_here g active r) contexts n s
    else_follows g active r contexts alive files n before None' h = λ q s is. absurd (no_other s is)
    else_follows g active r contexts alive files n before (Some' p second) h =
        λ q s is. subst (λ (x : TStmt). Agrees g r.has alive files r.numbers r.ready scope active (calls_here g active r) contexts n x) (the_same second s is) (statement_follows g active r contexts alive files n before second h)

    pub row_follows : {k : Count} (g : Setting) (active : Active) (r : Around Known g scope active) (contexts : List Field) (alive : Variable → Type 0) (files : (k : ℕ) → alive (V.File k)) (n : ℕ) → AreBefore alive n → (row : Row_of-TStmt k) → AreInStatements (naming g.may alive) n row
        → RowAgrees g active r contexts alive files n row
    row_follows g active r contexts alive files n before end_of-TStmt h = end_agrees g active r contexts alive files n
    row_follows g active r contexts alive files n before (more_of-TStmt s rest) h =
        more_agrees g active r contexts alive files n s rest (statement_follows g active r contexts alive files n before s h.0) (row_follows g active r contexts alive files (behind n s) (behind_too alive n s before) rest h.1)
