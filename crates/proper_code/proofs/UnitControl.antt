-- The code of every unit keeps control within it, and ends as it should.
use denote.Hole.Carrier
use Rattle.std.proofs.Common.{◌≡◌, ℕ, zero, suc, ◌+◌, ◌==◌, Bool, true, false, List, [], ◌∷◌, ◌++◌, length, slice_get, Option, Some, None, refl, sym, ap, ◌∙◌, subst, if◌then◌else◌}
use Rattle.std.proofs.lemmas.Option.{same_Some}
use Rattle.cstar_tree.specs.declared.typed.Instance.{Instance}
use Rattle.cstar_tree.specs.declared.typed.TStmt.{TStmt, Row_of-TStmt, end_of-TStmt, more_of-TStmt, items-the_row-TStmt, items_shown-the_row-TStmt-0, out-TStmt, Held-TStmt-If-2, None', Some'}
use Rattle.cstar_tree.specs.declared.typed.TStmt as S
use Rattle.cstar_tree.specs.declared.typed.Typed.{Typed}
use Rattle.cstar_tree.specs.declared.typed.VarInfo.{VarInfo}
use Rattle.cstar_tree.specs.Variables.{variables_of}
use Rattle.paris_code.specs.declared.instr.Instr.TheVariants as I
use Rattle.lower_base.specs.Drafts.{Draft, Step, Made, Makes, Fails, here, step, then_make, with_instr, with_step}
use Rattle.lower_base.specs.Layouts.{Layout, entries_of, layout_of}
use Rattle.cstar_tree.specs.declared.typed.Variable.TheVariants as V
use Rattle.lower_stmt.specs.declared.statement.Frame.{Frame}
use Rattle.lower_stmt.specs.Frames.{has_result, with_end}
use Rattle.lower_stmt.specs.Lengths.{locals_length_of, statement_length_of}
use Rattle.lower_stmt.specs.Programs.{begun, blank, body_frame, constants_put, elements_begun, outcome_of, own_field_of, own_fields_of, own_result_of, scalar_begun, start_value_of, start_values_of, unit_of}
use Rattle.lower_stmt.specs.Statements as L
use Rattle.lower_stmt.specs.Statements.{body_of, ended, ends_in_return, is_return, returned, returns_last, statement_of, statements_of}
use Rattle.code_lengths.specs.Agreement.{StandsAmong, opening_of}
use Rattle.code_lengths.specs.Growth.{Leads}
use Rattle.code_lengths.specs.LowerableStatements.{AreLowerableStatements, IsLowerableStatement}
use Rattle.code_lengths.specs.NamingStatements.{StandFrom, StatementNamesVariables, StatementsNameVariables, behind}
use Rattle.code_lengths.specs.Ready.{Declares, HasDeclared, HasPlainParameters, HasStatementCode, NumbersVariables}
use Rattle.code_lengths.specs.ShapedStatements.{AreShapedStatements, IsShapedStatement}
use Rattle.code_lengths.proofs.Agreeing.{expressions}
use Rattle.code_lengths.proofs.Declaring.{all_at, first_part, of_block, row_variables, second_part}
use Rattle.code_lengths.proofs.StatementLengths.{block_rest, declared_lead, statements}
use Rattle.code_lengths.proofs.UnitLengths.{begins, first_made, locals_are, no_context, opened, programs, rest_of}
use Rattle.proper_code.specs.Control.{KeepsControl, UnitsKeepControl}
use Rattle.proper_code.specs.Loops.{AllLeaveLoops, LeavesLoops}
use Rattle.proper_code.proofs.Stretches.{IsStretch, Ways, is_inward}
use Rattle.proper_code.proofs.Writing.{Wrote, shut, written_on}
use Rattle.proper_code.proofs.Building.{Builds, Built, Grew, IsBuilt, IsInward, Setting, as_before, bind, either, inner, inward, makes, more, option}
use Rattle.proper_code.proofs.ShortPieces.{field_of_builds}
use Rattle.proper_code.proofs.Passing.{IsWritten, end_of, of_expression, passing, rebased, statement_then}
use Rattle.proper_code.proofs.ExpressionControl.{within}
use Rattle.code_lengths.proofs.Basis.{ready}
use Rattle.proper_code.proofs.StatementControl.{given_code, statement_written, statements_written}
use Rattle.proper_code.proofs.StatementPieces.{declared_written, restored_written, returned_inward}
use Rattle.proper_code.proofs.EndedCode.{Nowhere, alone, keeps_control}

-- ---- what a unit begins with

own_field_builds : {on : Setting} (info : VarInfo) → IsInward on (own_field_of info)
unfolding own_field_of
own_field_builds info d e b = option info.shape d _ _ (λ set. search inner depth 12) (makes tt d e b)

own_fields_builds : {on : Setting} (infos : List VarInfo) → IsInward on (own_fields_of infos)
unfolding own_fields_of
own_fields_builds [] d e b = makes tt d e b
own_fields_builds (info ∷ infos) d e b = bind d _ _ (own_field_builds info d e b) (λ _ after. own_fields_builds infos after after (as_before after))

own_result_builds : {on : Setting} (result : Option VarInfo) → IsInward on (own_result_of result)
unfolding own_result_of
own_result_builds None d e b = makes tt d e b
own_result_builds (Some info) d e b = own_field_builds info d e b

constants_more : {w : Ways} (words : List ℕ) (r : ℕ) (d e : Draft) → Grew w d e → Grew w d (constants_put words r e)
unfolding constants_put is_inward step
constants_more [] r d e b = b
constants_more (word ∷ words) r d e b = constants_more words (r + 1) d _ (more (I.FrontConst r word) d e refl b)

elements_builds : {on : Setting} (t : Typed) (l : Layout) (number value left element : ℕ) → IsInward on (elements_begun t l number value left element)
unfolding elements_begun is_inward step
elements_builds t l number value zero element d e b = makes tt d e b
elements_builds t l number value (suc left) element d e b =
    bind d _ _ (field_of_builds t l (V.File number) element d e b) (λ dest after. elements_builds t l number value left (element + 1) after _ (more _ after after refl (as_before after)))

start_value_builds : {on : Setting} (t : Typed) (l : Layout) (info : VarInfo) (number : ℕ) → IsInward on (start_value_of t l info number)
unfolding start_value_of scalar_begun is_inward step
start_value_builds t l info number d e b =
    either (info.start == 0) d _ _ (makes tt d e b) (option info.shape d _ _ (λ set. elements_builds t l number info.start (entries_of info) 0 d e b) (search inner depth 12))

start_values_builds : {on : Setting} (t : Typed) (l : Layout) (infos : List VarInfo) (number : ℕ) → IsInward on (start_values_of t l infos number)
unfolding start_values_of
start_values_builds t l [] number d e b = makes tt d e b
start_values_builds t l (info ∷ infos) number d e b = bind d _ _ (start_value_builds t l info number d e b) (λ _ after. start_values_builds t l infos (number + 1) after after (as_before after))

begun_builds : {on : Setting} (t : Typed) (l : Layout) (is_main : Bool) → IsInward on (begun t l is_main)
unfolding begun
begun_builds t l true d e b = start_values_builds t l t.vars.items 0 d _ (constants_more l.constants l.end d e b)
begun_builds t l false d e b = makes tt d e b

opening_builds : {on : Setting} (t : Typed) (l : Layout) (is_main : Bool) (regs : ℕ) (instance : Instance) → Builds on (blank instance.name regs) (opening_of t l is_main regs instance)
unfolding opening_of
opening_builds t l is_main regs instance =
    let b = blank instance.name regs in
    bind b _ _ (own_fields_builds instance.params.items b b (as_before b)) (λ _ d. bind d _ _ (own_result_builds instance.result d d (as_before d)) (λ _ ready. begun_builds t l is_main ready ready (as_before ready)))

-- code that relies on nothing and calls nothing
anywhere : Setting
anywhere = record { basis = record { lacks = ⊥; holds = λ d. Unit {0}; lasts = λ d e n h x. tt }; units = λ unit. ⊥ }

opening_written : (t : Typed) (l : Layout) (is_main : Bool) (regs : ℕ) (instance : Instance) (start : Draft) → opening_of t l is_main regs instance ≡ Makes tt start → Wrote (alone t is_main) (blank instance.name regs) start
unfolding anywhere IsBuilt inward passing
opening_written t l is_main regs instance start is =
    let b : Built anywhere (blank instance.name regs) start = subst (λ (made : Made (Unit {0})). IsBuilt anywhere (blank instance.name regs) made) is ((opening_builds {on = anywhere} t l is_main regs instance).builds tt) in
    shut (inward anywhere) (alone t is_main) (blank instance.name regs) start (λ from target h no. absurd no) (λ unit no. absurd no) (λ s no. absurd no) b.wrote

-- ---- bodies

-- what is written, and then the unit's end
record Ends (t : Typed) (is_main : Bool) (d e : Draft) : Type 0 where
  last : Draft
  wrote : Wrote (alone t is_main) d last
  is : e ≡ with_end is_main last

unfoldable IsEnded : {A : Type 0} → Typed → Bool → Draft → Made A → Type 0
IsEnded t is_main d (Makes x e) = Ends t is_main d e
IsEnded t is_main d Fails = Unit {0}

ended_on : {A : Type 0} (t : Typed) (is_main : Bool) (d c : Draft) (made : Made A) → Wrote (alone t is_main) d c → IsEnded t is_main c made → IsEnded t is_main d made
unfolding IsEnded
ended_on t is_main d c (Makes x e) a b = record { last = b.last; wrote = written_on _ d c b.last a b.wrote; is = b.is }
ended_on t is_main d c Fails a b = tt

-- behind a statement that is written
statement_ends : {B : Type 0} (t : Typed) (i : Instance) (l : Layout) (k n : ℕ) (is_main : Bool) (d : Draft) (made : Made ℕ) (next : ℕ → Draft → Made B) → Leads d n (Declares t i l k) made → IsWritten (alone t is_main) d made →
    ((e : Draft) → HasDeclared t i l k e → IsEnded t is_main e (next k e)) → IsEnded t is_main d (then_make made next)
unfolding Leads IsWritten IsEnded then_make
statement_ends t i l k n is_main d (Makes m e) next g x f = subst (λ (j : ℕ). IsEnded t is_main d (next j e)) (sym g.0.0) (ended_on t is_main d e (next k e) x (f e g.0.1))
statement_ends t i l k n is_main d Fails next g x f = tt

nothing_made : {A : Type 0} (t : Typed) (is_main : Bool) (x : A) (d last : Draft) → Wrote (alone t is_main) d last → IsEnded t is_main d (Makes x (with_end is_main last))
unfolding IsEnded
nothing_made t is_main x d last b = record { last = last; wrote = b; is = refl }

never : {A : Type 0} → false ≡ true → A
never h = let no : ⊥ = cc in absurd no

-- the end that a body has, and the one that it gets
end_kept : (t : Typed) (is_main : Bool) (body : TStmt) (d : Draft) (made : Made ℕ) → ends_in_return body ≡ true → IsEnded t is_main d made → IsEnded t is_main d (then_make made (λ _ end. Makes (tt {0}) (ended is_main body end)))
unfolding IsEnded then_make ended
end_kept t is_main body d (Makes m e) is b = record { last = b.last; wrote = b.wrote; is = ap (λ (c : Bool). if c then e else with_end is_main e) is ∙ b.is }
end_kept t is_main body d Fails is b = tt

end_added : (t : Typed) (is_main : Bool) (body : TStmt) (d : Draft) (made : Made ℕ) → ends_in_return body ≡ false → IsWritten (alone t is_main) d made → IsEnded t is_main d (then_make made (λ _ end. Makes (tt {0}) (ended is_main body end)))
unfolding IsEnded IsWritten then_make ended
end_added t is_main body d (Makes m e) is b = record { last = e; wrote = b; is = ap (λ (c : Bool). if c then e else with_end is_main e) is }
end_added t is_main body d Fails is b = tt

as_made : {A : Type 0} (t : Typed) (is_main : Bool) (d : Draft) (made : Made A) → IsEnded t is_main d made → IsEnded t is_main d (then_make made (λ x after. Makes x after))
unfolding IsEnded then_make
as_made t is_main d (Makes x e) b = b
as_made t is_main d Fails b = b

module _ (t : Typed) (i : Instance) (l : Layout) (numbers : NumbersVariables i l) where
  -- a last statement that is a `return` ends the unit
  return_ended : (s : TStmt) (f : Frame) (n : ℕ) (d : Draft) → is_return s ≡ true → IsShapedStatement s → IsLowerableStatement t i.result s → StatementNamesVariables t i n s → HasDeclared t i l n d → IsEnded t f.is_main d (statement_of t l s f [] n d)
  unfolding IsEnded is_return statement_of IsShapedStatement IsLowerableStatement StatementNamesVariables IsWritten IsBuilt then_make ready
  return_ended (S.Return e) f n d is h w v y =
      let b = returned_inward t i l n e f.outcome (given_code t i n e h w v) d d (as_before d) in
      by (returned t l e f.outcome d) (b.builds y.ready)
    where
      by : (made : Made (Unit {0})) → IsBuilt (within t i l n) d made → IsEnded t f.is_main d (then_make made (λ _ after. Makes n (with_end f.is_main (L.restored [] f.saved.in_all after))))
      by (Makes x after) b = nothing_made t f.is_main n d _ (restored_written _ [] f.saved.in_all d after (of_expression t i l n f.is_main Nowhere Nowhere d after b))
      by Fails b = tt
  return_ended _ f n d is h w v y = let no : ⊥ = cc in absurd no

  -- the statements of a body, the last of which is a `return`
  row_ended : {j : _} (s : TStmt) (rest : Row_of-TStmt j) (f : Frame) (n : ℕ) (d : Draft) → returns_last (is_return s) (items-the_row-TStmt j rest) ≡ true → f.outcome ≡ outcome_of i.result → StandsAmong f [] →
      IsShapedStatement s → IsLowerableStatement t i.result s → StatementNamesVariables t i n s → StandFrom (variables_of i.body) n (variables_of s) → LeavesLoops false s →
      AreShapedStatements rest → AreLowerableStatements t i.result rest → StatementsNameVariables t i (behind n s) rest → StandFrom (variables_of i.body) (behind n s) (row_variables rest) → AllLeaveLoops false rest → HasDeclared t i l n d →
      IsEnded t f.is_main d (then_make (statement_of t l s f [] n d) (λ m after. statements_of t l rest f [] m after))
  unfolding returns_last statements_of AreShapedStatements AreLowerableStatements StatementsNameVariables AllLeaveLoops row_variables
  row_ended s end_of-TStmt f n d is o k h w v z leaves h' w' v' z' leaves' y = as_made t f.is_main d _ (return_ended s f n d is h w v y)
  row_ended s (more_of-TStmt next rest) f n d is o k h w v z leaves h' w' v' z' leaves' y =
      statement_ends t i l (behind n s) (statement_length_of t l (has_result f) f.saved s) f.is_main d _ _ (statements t i l s f [] n d numbers o k (record { shaped = h; lowerable = w; names = v; stands = z }) y)
      (statement_written t i l numbers s f [] n false Nowhere Nowhere d h w v z o k y leaves (λ h. never h) (λ h. never h))
      (λ e known. row_ended next rest f (behind n s) e is o k h'.0 w'.0 v'.0 (first_part _ _ z') leaves'.0 h'.1 w'.1 v'.1 (second_part _ _ z') leaves'.1 known)

  rows_ended : {j : _} (row : Row_of-TStmt j) (f : Frame) (n : ℕ) (d : Draft) → returns_last false (items-the_row-TStmt j row) ≡ true → f.outcome ≡ outcome_of i.result → StandsAmong f [] → AreShapedStatements row → AreLowerableStatements t i.result row → StatementsNameVariables t i n row →
      StandFrom (variables_of i.body) n (row_variables row) → AllLeaveLoops false row → HasDeclared t i l n d → IsEnded t f.is_main d (statements_of t l row f [] n d)
  unfolding returns_last statements_of AreShapedStatements AreLowerableStatements StatementsNameVariables AllLeaveLoops row_variables
  rows_ended end_of-TStmt f n d is o k h w v z leaves y = never is
  rows_ended (more_of-TStmt s rest) f n d is o k h w v z leaves y =
      row_ended s rest f n d is o k h.0 w.0 v.0 (first_part _ _ z) leaves.0 h.1 w.1 v.1 (second_part _ _ z) leaves.1 y

  -- a body that ends in a `return`, and one that does not
  body_ended : (s : TStmt) (f : Frame) (d : Draft) → ends_in_return s ≡ true → f.outcome ≡ outcome_of i.result → StandsAmong f [] → IsShapedStatement s → IsLowerableStatement t i.result s → StatementNamesVariables t i 0 s → StandFrom (variables_of i.body) 0 (variables_of s) →
      LeavesLoops false s → HasDeclared t i l 0 d → IsEnded t f.is_main d (body_of t l f s d)
  unfolding ends_in_return body_of IsShapedStatement IsLowerableStatement StatementNamesVariables LeavesLoops out-TStmt Carrier.out
  body_ended (S.Block' locals p row) f d is o k h w v z leaves y =
      let z' = subst (StandFrom (variables_of i.body) 0) (of_block locals p row) z in
      statement_ends t i l (0 + length locals.items) (locals_length_of t l f.is_main locals.items) f.is_main d _ _ (declared_lead t i l numbers (expressions t i l) f.is_main locals.items 0 d h.0 w.0 v.0 (first_part _ _ z') y)
      (declared_written t i l numbers f.is_main Nowhere Nowhere f.is_main locals.items 0 d h.0 w.0 v.0 (first_part _ _ z') y)
      (λ e known. rows_ended row f (0 + length locals.items) e (subst (λ (items : List TStmt). returns_last false items ≡ true) (items_shown-the_row-TStmt-0 p row) is) o k h.1 w.1 v.1 (block_rest _ 0 locals.items _ z') leaves known)
  body_ended _ f d is o k h w v z leaves y = never is

  body_written : (s : TStmt) (f : Frame) (d : Draft) → f.outcome ≡ outcome_of i.result → StandsAmong f [] → IsShapedStatement s → IsLowerableStatement t i.result s → StatementNamesVariables t i 0 s → StandFrom (variables_of i.body) 0 (variables_of s) →
      LeavesLoops false s → HasDeclared t i l 0 d → IsWritten (alone t f.is_main) d (body_of t l f s d)
  unfolding body_of IsShapedStatement IsLowerableStatement StatementNamesVariables LeavesLoops
  body_written (S.Block' locals p row) f d o k h w v z leaves y =
      let z' = subst (StandFrom (variables_of i.body) 0) (of_block locals p row) z in
      statement_then t i l (0 + length locals.items) (locals_length_of t l f.is_main locals.items) _ (alone t f.is_main) d d d _ _ (declared_lead t i l numbers (expressions t i l) f.is_main locals.items 0 d h.0 w.0 v.0 (first_part _ _ z') y)
      (declared_written t i l numbers f.is_main Nowhere Nowhere f.is_main locals.items 0 d h.0 w.0 v.0 (first_part _ _ z') y)
      (λ e known _ x. rebased _ d e _ x (statements_written t i l numbers row f [] (0 + length locals.items) false Nowhere Nowhere e h.1 w.1 v.1 (block_rest _ 0 locals.items _ z') o k known leaves (λ h. never h) (λ h. never h)))
  body_written s f d o k h w v z leaves y = statement_written t i l numbers s f [] 0 false Nowhere Nowhere d h w v z o k y leaves (λ h. never h) (λ h. never h)

  -- the body, and the end that it has or gets
  rest_ended : (is_main : Bool) (instance : Instance) (d : Draft) → outcome_of instance.result ≡ outcome_of i.result → IsShapedStatement instance.body → IsLowerableStatement t i.result instance.body → StatementNamesVariables t i 0 instance.body →
      StandFrom (variables_of i.body) 0 (variables_of instance.body) → LeavesLoops false instance.body → HasDeclared t i l 0 d → IsEnded t is_main d (rest_of t l is_main instance tt d)
  unfolding rest_of body_frame
  rest_ended is_main instance d o h w v z leaves y = by (ends_in_return instance.body) refl
    where
      by : (b : Bool) → ends_in_return instance.body ≡ b → IsEnded t is_main d (then_make (body_of t l (body_frame is_main instance) instance.body d) (λ _ end. Makes (tt {0}) (ended is_main instance.body end)))
      by true is = end_kept t is_main instance.body d _ is (body_ended instance.body (body_frame is_main instance) d is o (no_context is_main instance) h w v z leaves y)
      by false is = end_added t is_main instance.body d _ is (body_written instance.body (body_frame is_main instance) d o (no_context is_main instance) h w v z leaves y)

-- ---- units

end_code : (is_main : Bool) (d : Draft) → (with_end is_main d).code ≡ d.code ++ end_of is_main ∷ []
unfolding with_end with_instr with_step step
end_code true d = refl
end_code false d = refl

unit_ended : (t : Typed) (is_main : Bool) (d e : Draft) → IsEnded t is_main d (Makes (tt {0}) e) → Ends t is_main d e
unfolding IsEnded
unit_ended t is_main d e x = x

blank_begins : (name : List ℕ) (regs : ℕ) (last : Draft) (w : Ways) → (x : Wrote w (blank name regs) last) → IsStretch w 0 x.more × (last.code ≡ x.more)
unfolding blank here
blank_begins name regs last w x = (x.stretch, x.code)

unit_keeps : (t : Typed) (words : List ℕ) (number : ℕ) (is_main : Bool) (regs : ℕ) (instance : Instance) (unit : Draft) → slice_get t.instances.items number ≡ Some instance → HasPlainParameters instance → HasStatementCode t instance 0 instance.body → LeavesLoops false instance.body →
    unit_of t (layout_of t words number) is_main regs instance ≡ Makes tt unit → KeepsControl (length t.instances.items) is_main unit.code
unit_keeps t words number is_main regs instance unit is plain code leaves made =
    let l : Layout = layout_of t words number in
    let start = begins t words number is_main regs instance is plain in
    let rest : rest_of t l is_main instance tt start.0 ≡ Makes tt unit =
    sym (first_made (opening_of t l is_main regs instance) (rest_of t l is_main instance) start.0 start.1) ∙ sym (opened t l is_main regs instance) ∙ made in
    let end : Ends t is_main start.0 unit = unit_ended t is_main start.0 unit (subst (λ (m : Made (Unit {0})). IsEnded t is_main start.0 m) rest
    (rest_ended t instance l (locals_are t words number instance is) is_main instance start.0 refl code.shaped code.lowerable code.names code.stands leaves start.2)) in
    let all = written_on (alone t is_main) (blank instance.name regs) start.0 end.last (opening_written t l is_main regs instance start.0 start.1) end.wrote in
    let whole = blank_begins instance.name regs end.last (alone t is_main) all in
    subst (λ (steps : List Step). KeepsControl (length t.instances.items) is_main steps)
    (sym (ap (λ (d : Draft). d.code) end.is ∙ end_code is_main end.last ∙ ap (λ (steps : List Step). steps ++ end_of is_main ∷ []) whole.1))
    (keeps_control t is_main all.more whole.0)

pub units_keep : UnitsKeepControl
units_keep t words regs number instance unit codable leaves is at =
    let own = (programs t words regs codable).each number instance is in
    let code = codable number instance is in
    let same : own.1.unit ≡ unit = same_Some _ _ (sym own.2 ∙ at) in
    unit_keeps t words number (number == 0) own.0 instance unit is code.0 code.1 (all_at (λ (i : Instance). LeavesLoops false i.body) t.instances.items number instance leaves is)
    (own.1.made ∙ ap (λ (d : Draft). Makes tt d) same)
