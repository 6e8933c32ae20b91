-- Statements under contexts beside scalar ones: what is known of the code of those that a program may have.
use Rattle.std.proofs.Common.{◌≡◌, ℕ, List, [], ◌∷◌, ◌++◌, length}
use Rattle.cstar_tree.specs.declared.typed.TExpr.{TExpr}
use Rattle.cstar_tree.specs.declared.typed.TStmt.{TStmt, Held-TStmt-If-2, Some'}
use Rattle.cstar_tree.specs.declared.typed.TStmt as S
use Rattle.cstar_tree.specs.declared.typed.Variable.{Variable}
use Rattle.cstar_tree.specs.declared.typed.Variable.TheVariants as V
use Rattle.code_lengths.specs.NamingStatements.{behind}
use Rattle.code_lengths.specs.Ready.{HasDeclared, HasStatementCode, IsReadyButForFields}
use Rattle.lower_base.specs.Drafts.{Draft, Made, Makes}
use Rattle.lower_stmt.specs.Frames.{in_context}
use Rattle.lower_stmt.specs.Statements.{statement_of}
use Rattle.paris_code.specs.declared.operands.Field.{Field}
use Rattle.paris_code.specs.Code.{CodeState}
use Rattle.source_meaning.proofs.ConstantLaws.{Boxed}
use Rattle.source_meaning.specs.State.{Outcome, State}
use Rattle.source_meaning.specs.Statements.{Leaving, executed}
use Rattle.source_meaning.specs.Values.{Active, Scope}
use Rattle.code_follows.specs.Fragment.{NamesAmong}
use Rattle.code_follows.proofs.Besides.{ExpressionsFollow, LocalsClear, under_held}
use Rattle.code_follows.proofs.Executing.{Exits, Left}
use Rattle.code_follows.proofs.Following.{Follows, HasRegisters, Sim}
use Rattle.code_follows.proofs.Growing.{Extended}
use Rattle.code_follows.proofs.Restoring.{Inside}
use Rattle.code_follows.proofs.Settings.{At, Begun, Held, Setting, layout}

-- under one context more
abbrev pub in_one_more : Exits → Exits
in_one_more f = record f { frame = in_context f.frame }

module _ (g : Setting) (scope : Scope) where
  -- a statement is left as in the source
  abbrev pub ComesOn : (Variable → Type 0) → Active → TStmt → ℕ → Exits → List Field → Type 0
  ComesOn alive active s n f contexts =
      (d : Draft) (t : CodeState) (st : State) → HasDeclared g.typed g.instance (layout g) n d → Begun g alive d → At g t (length d.code) → Sim g alive st t
      → Follows g (Left g alive f d t) t (executed scope s n active st) (statement_of g.typed (layout g) s f.frame contexts n d)

-- What is known of a setting, a scope and the active positions is what those need who know of fields.
module _ (Known : Setting → Scope → Active → Type 1) (g : Setting) (scope : Scope) where
  -- a part under one context more: its code is made, and wherever fields are known it is left as in the source
  pub record Part (alive : Variable → Type 0) (saved : Field) (f : Exits) (n m : ℕ) (run : Active → State → Outcome Leaving) (code : Draft → Made ℕ) : Type 1 where
    pub made : (d : Draft) → HasDeclared g.typed g.instance (layout g) n d → (e : Draft) × ((code d ≡ Makes m e) × ((k : ℕ) × Extended d k e) × HasDeclared g.typed g.instance (layout g) m e)
    pub follows : (held : Held) (from entries upto : ℕ) (a : Active) → Inside g saved held from entries upto → Known (under_held g held from entries upto) scope a
        → (d : Draft) (t : CodeState) (st : State) → HasDeclared g.typed g.instance (layout g) n d → Begun (under_held g held from entries upto) alive d → At g t (length d.code) → Sim (under_held g held from entries upto) alive st t
        → Follows (under_held g held from entries upto) (Left (under_held g held from entries upto) alive f d t) t (run a st) (code d)

  -- a statement under one context more, where so many variables are declared before
  abbrev pub StatementPart : (Variable → Type 0) → TStmt → ℕ → Exits → List Field → Type 1
  StatementPart alive s n f contexts =
      (saved : Field) → Part alive saved (in_one_more f) n (behind n s) (λ a st. executed scope s n a st) (λ d. statement_of g.typed (layout g) s (in_context f.frame) (contexts ++ saved ∷ []) n d)

-- So do parallel expressions, the code that clears parallel variables, and the statements that set contexts where what
-- stands under these follows.
pub record BesideFollows (Known : Setting → Scope → Active → Type 1) (g : Setting) (has : HasRegisters g) (scope : Scope) (active : Active) : Type 1 where
  pub expressions : ExpressionsFollow g has scope active
  pub locals : LocalsClear g
  pub wheres : (alive : Variable → Type 0) → ((k : ℕ) → alive (V.File k)) → (n : ℕ) → ((d : Draft) → IsReadyButForFields g.typed g.instance (layout g) n d)
      → (shape : ℕ) (test : TExpr) (p : Boxed) (first : TStmt) (second : Held-TStmt-If-2) → g.may.beside.conditions shape test → NamesAmong alive test → HasStatementCode g.typed g.instance n (S.Where' shape test p first second)
      → (f : Exits) (contexts : List Field) → StatementPart Known g scope alive first n f contexts → ((q : Boxed) (s : TStmt) → second ≡ Some' q s → StatementPart Known g scope alive s (behind n first) f contexts)
      → ComesOn g scope alive active (S.Where' shape test p first second) n f contexts
  pub widenings : (alive : Variable → Type 0) → ((k : ℕ) → alive (V.File k)) → (n : ℕ) → ((d : Draft) → IsReadyButForFields g.typed g.instance (layout g) n d)
      → (shape : ℕ) (p : Boxed) (body : TStmt) → g.may.beside.widens shape → HasStatementCode g.typed g.instance n (S.Everywhere' shape p body)
      → (f : Exits) (contexts : List Field) → StatementPart Known g scope alive body n f contexts
      → ComesOn g scope alive active (S.Everywhere' shape p body) n f contexts
