-- The code of statements follows the source.
use Rattle.std.proofs.Common.{◌≡◌, ◌∙◌, ℕ, Option, Some, None, List, [], ◌∷◌, ◌++◌, length-append, refl, ap, subst, arith}
use Rattle.std.specs.Prelude.{IfSome}
use Rattle.cstar_tree.specs.declared.typed.TExpr.{TExpr}
use Rattle.cstar_tree.specs.declared.typed.TStmt.{TStmt, Held-TStmt-If-2, Some'}
use Rattle.cstar_tree.specs.declared.typed.TStmt as S
use Rattle.cstar_tree.specs.declared.typed.VarInfo.{VarInfo}
use Rattle.cstar_tree.specs.declared.typed.Variable.{Variable}
use Rattle.cstar_tree.specs.Variables.{variables_of}
use Rattle.code_lengths.specs.Agreement.{StandsAmong}
use Rattle.code_lengths.specs.Growth.{Leads}
use Rattle.code_lengths.proofs.Drafting.{and_instr, as_it_was}
use Rattle.code_lengths.proofs.Homes.{still_declared}
use Rattle.code_lengths.specs.NamingStatements.{behind}
use Rattle.code_lengths.specs.Ready.{Declares, HasCode, HasDeclared, HasStatementCode, NumbersVariables}
use Rattle.code_lengths.specs.LowerableStatements.{IsLowerableStatement}
use Rattle.code_lengths.specs.NamingStatements.{StandFrom, StatementNamesVariables}
use Rattle.code_lengths.specs.ShapedStatements.{IsShapedPart, IsShapedStatement}
use Rattle.code_lengths.proofs.Declaring.{else_variables, first_part, of_do, of_everywhere, of_if, of_where, of_with, second_part}
use Rattle.code_lengths.proofs.StatementLengths.{statements}
use Rattle.source_meaning.proofs.ConstantLaws.{Boxed}
use Rattle.lower_base.specs.Drafts.{Draft, Fails, Made, Makes, with_instr}
use Rattle.lower_stmt.specs.declared.statement.Frame.{Frame}
use Rattle.lower_stmt.specs.declared.statement.Outcome.TheVariants as R
use Rattle.lower_stmt.specs.Frames.{has_result, in_context}
use Rattle.lower_stmt.specs.Lengths.{one_more, statement_length_of}
use Rattle.lower_stmt.specs.Programs.{outcome_of}
use Rattle.lower_stmt.specs.Statements.{statement_of}
use Rattle.paris_code.specs.declared.instr.Instr.{Instr}
use Rattle.paris_code.specs.declared.operands.Field.{Field}
use Rattle.code_follows.proofs.Executing.{Exits}
use Rattle.code_follows.proofs.Growing.{Extended, from_advanced}
use Rattle.code_follows.proofs.Restoring.{Restores}
use Rattle.code_follows.proofs.Settings.{OpenAmong, LastsTo, Setting, layout}

-- the frame of a statement of the function
pub record StandsIn (g : Setting) (f : Frame) : Type 0 where
  pub outcome : f.outcome ≡ outcome_of g.instance.result
  pub main : f.is_main ≡ g.is_main
  pub scalar : f.outcome ≡ R.Parallel → ⊥

-- under one context more
pub in_context_too : (g : Setting) (f : Frame) → StandsIn g f → StandsIn g (in_context f)
unfolding in_context
in_context_too g f h = record { outcome = h.outcome; main = h.main; scalar = h.scalar }

-- a statement among these saved contexts: where those of its loop are loaded, and where all are, this is held, and the
-- first lasts to where jumps out of the loop and to its next round lead; what is alive there is so here
pub record StandsHere (g : Setting) (alive : Variable → Type 0) (f : Exits) (contexts : List Field) : Type 1 where
  pub among : StandsAmong f.frame contexts
  pub loop : Restores g f.loop contexts f.frame.saved.in_loop
  pub after : LastsTo g (OpenAmong g f.lives) f.loop f.frame.after
  pub next : LastsTo g (OpenAmong g f.lives) f.loop f.frame.next
  pub all : Restores g f.all contexts f.frame.saved.in_all
  pub lives : (x : Variable) → f.lives x → alive x
  pub outer : (x : Variable) → f.outer x → alive x

-- so it does where more is alive
pub stands_wider : (g : Setting) (alive wide : Variable → Type 0) → ((x : Variable) → alive x → wide x) → (f : Exits) (contexts : List Field) → StandsHere g alive f contexts → StandsHere g wide f contexts
stands_wider g alive wide among f contexts stands = record { among = stands.among; loop = stands.loop; after = stands.after; next = stands.next; all = stands.all; lives = λ x h. among x (stands.lives x h); outer = λ x h. among x (stands.outer x h) }

-- under one context more
pub deeper : (f : Frame) (contexts : List Field) (saved : Field) → StandsAmong f contexts → StandsAmong (in_context f) (contexts ++ saved ∷ [])
unfolding in_context one_more
deeper f contexts saved k = let long = length-append contexts (saved ∷ []) in record { loop = omega (arith, k.loop, long); all = omega (arith, k.all, long) }

-- an instruction declares nothing
pub declared_on : (g : Setting) (i : Instr) (n : ℕ) (d : Draft) → HasDeclared g.typed g.instance (layout g) n d → HasDeclared g.typed g.instance (layout g) n (with_instr i d)
declared_on g i n d h = still_declared g.typed g.instance (layout g) n d (with_instr i d) 1 (and_instr i d d 0 (as_it_was d)) h

module _ (g : Setting) (numbers : NumbersVariables g.instance (layout g)) where
  -- the code of a statement is made, of so many instructions
  pub record MadeSo (d : Draft) (long number : ℕ) (made : Made ℕ) : Type 0 where
    pub e : Draft
    pub is : made ≡ Makes number e
    pub extended : Extended d long e
    pub declared : HasDeclared g.typed g.instance (layout g) number e

  -- those of the statement's blocks are declared behind it
  pub statement_made : (s : TStmt) (f : Frame) (contexts : List Field) (n : ℕ) (d : Draft) → StandsIn g f → StandsAmong f contexts → HasStatementCode g.typed g.instance n s → HasDeclared g.typed g.instance (layout g) n d
      → MadeSo d (statement_length_of g.typed (layout g) (has_result f) f.saved s) (behind n s) (statement_of g.typed (layout g) s f contexts n d)
  unfolding Leads
  statement_made s f contexts n d framed among c known = by (statement_of g.typed (layout g) s f contexts n d) refl (statements g.typed g.instance (layout g) s f contexts n d numbers framed.outcome among c known)
    where
      by : (made : Made ℕ) → statement_of g.typed (layout g) s f contexts n d ≡ made → Leads d (statement_length_of g.typed (layout g) (has_result f) f.saved s) (Declares g.typed g.instance (layout g) (behind n s)) made
          → MadeSo d (statement_length_of g.typed (layout g) (has_result f) f.saved s) (behind n s) (statement_of g.typed (layout g) s f contexts n d)
      by Fails is h = absurd h
      by (Makes m e) is h =
          record {
            e = e;
            is = is ∙ ap (λ (k : ℕ). Makes k e) h.0.0;
            extended = from_advanced d e _ h.1;
            declared = h.0.1;
          }

  -- what has code of its parts
  pub if_first : (n : ℕ) (test : TExpr) (p : Boxed) (first : TStmt) (second : Held-TStmt-If-2) → HasStatementCode g.typed g.instance n (S.If' test p first second) → HasStatementCode g.typed g.instance n first
  unfolding IsShapedStatement IsLowerableStatement StatementNamesVariables
  if_first n test p first second c = record {
    shaped = c.shaped.1;
    lowerable = c.lowerable.1;
    names = c.names.1;
    stands = first_part (variables_of first) (else_variables second) (subst (λ (own : List VarInfo). StandFrom (variables_of g.instance.body) n own) (of_if test p first second) c.stands);
  }

  pub if_second : (n : ℕ) (test : TExpr) (p : Boxed) (first : TStmt) (q : Boxed) (second : TStmt) → HasStatementCode g.typed g.instance n (S.If' test p first (Some' q second)) → HasStatementCode g.typed g.instance (behind n first) second
  unfolding IsShapedStatement IsLowerableStatement StatementNamesVariables else_variables
  if_second n test p first q second c = record {
    shaped = c.shaped.2;
    lowerable = c.lowerable.2;
    names = c.names.2;
    stands = second_part (variables_of first) (else_variables (Some' q second)) (subst (λ (own : List VarInfo). StandFrom (variables_of g.instance.body) n own) (of_if test p first (Some' q second)) c.stands);
  }

  pub if_test : (n : ℕ) (test : TExpr) (p : Boxed) (first : TStmt) (second : Held-TStmt-If-2) → HasStatementCode g.typed g.instance n (S.If' test p first second) → HasCode g.typed g.instance n test
  unfolding IsShapedStatement IsLowerableStatement StatementNamesVariables
  if_test n test p first second c = record { shaped = c.shaped.0; lowerable = c.lowerable.0.1; names = c.names.0 }

  pub do_test : (n : ℕ) (p : Boxed) (body : TStmt) (test : TExpr) → HasStatementCode g.typed g.instance n (S.Do' p body test) → HasCode g.typed g.instance n test
  unfolding IsShapedStatement IsLowerableStatement StatementNamesVariables
  do_test n p body test c = record { shaped = c.shaped.1; lowerable = c.lowerable.1.1; names = c.names.1 }

  pub do_body : (n : ℕ) (p : Boxed) (body : TStmt) (test : TExpr) → HasStatementCode g.typed g.instance n (S.Do' p body test) → HasStatementCode g.typed g.instance n body
  unfolding IsShapedStatement IsLowerableStatement StatementNamesVariables
  do_body n p body test c = record {
    shaped = c.shaped.0;
    lowerable = c.lowerable.0;
    names = c.names.0;
    stands = subst (λ (own : List VarInfo). StandFrom (variables_of g.instance.body) n own) (of_do p body test) c.stands;
  }

  pub with_body : (n shape : ℕ) (p : Boxed) (body : TStmt) → HasStatementCode g.typed g.instance n (S.With' shape p body) → HasStatementCode g.typed g.instance n body
  unfolding IsShapedStatement IsLowerableStatement StatementNamesVariables
  with_body n shape p body c = record {
    shaped = c.shaped;
    lowerable = c.lowerable;
    names = c.names;
    stands = subst (λ (own : List VarInfo). StandFrom (variables_of g.instance.body) n own) (of_with shape p body) c.stands;
  }

  pub everywhere_body : (n shape : ℕ) (p : Boxed) (body : TStmt) → HasStatementCode g.typed g.instance n (S.Everywhere' shape p body) → HasStatementCode g.typed g.instance n body
  unfolding IsShapedStatement IsLowerableStatement StatementNamesVariables
  everywhere_body n shape p body c = record {
    shaped = c.shaped;
    lowerable = c.lowerable;
    names = c.names;
    stands = subst (λ (own : List VarInfo). StandFrom (variables_of g.instance.body) n own) (of_everywhere shape p body) c.stands;
  }

  pub where_first : (n shape : ℕ) (test : TExpr) (p : Boxed) (first : TStmt) (second : Held-TStmt-If-2) → HasStatementCode g.typed g.instance n (S.Where' shape test p first second) → HasStatementCode g.typed g.instance n first
  unfolding IsShapedStatement IsLowerableStatement StatementNamesVariables
  where_first n shape test p first second c = record {
    shaped = c.shaped.1;
    lowerable = c.lowerable.2;
    names = c.names.1;
    stands = first_part (variables_of first) (else_variables second) (subst (λ (own : List VarInfo). StandFrom (variables_of g.instance.body) n own) (of_where shape test p first second) c.stands);
  }

  pub where_second : (n shape : ℕ) (test : TExpr) (p : Boxed) (first : TStmt) (q : Boxed) (second : TStmt) → HasStatementCode g.typed g.instance n (S.Where' shape test p first (Some' q second)) → HasStatementCode g.typed g.instance (behind n first) second
  unfolding IsShapedStatement IsLowerableStatement StatementNamesVariables else_variables
  where_second n shape test p first q second c = record {
    shaped = c.shaped.2;
    lowerable = c.lowerable.3;
    names = c.names.2;
    stands = second_part (variables_of first) (else_variables (Some' q second)) (subst (λ (own : List VarInfo). StandFrom (variables_of g.instance.body) n own) (of_where shape test p first (Some' q second)) c.stands);
  }

  pub expression_code : (n : ℕ) (e : TExpr) → HasStatementCode g.typed g.instance n (S.Expression e) → HasCode g.typed g.instance n e
  unfolding IsShapedStatement IsLowerableStatement StatementNamesVariables
  expression_code n e c = record { shaped = c.shaped; lowerable = c.lowerable; names = c.names }

  pub returned_code : (e : Option TExpr) (n : ℕ) → HasStatementCode g.typed g.instance n (S.Return e) → IfSome e (λ x. HasCode g.typed g.instance n x)
  unfolding IsShapedStatement IsLowerableStatement StatementNamesVariables IsShapedPart
  returned_code None n c = tt
  returned_code (Some e) n c = record { shaped = c.shaped; lowerable = c.lowerable.1; names = c.names }
