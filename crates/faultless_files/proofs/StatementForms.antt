-- The typed statements that a statement becomes, as nodes of those of its parts.
use Rattle.std.proofs.Common.{◌≡◌, ℕ, ◌==◌, Bool, true, List, [], ◌∷◌, ◌++◌, Option, Some, None, sym, subst, if◌then◌else◌}
use Rattle.cstar_tree.specs.declared.syntax.Block.{Block}
use Rattle.cstar_tree.specs.declared.syntax.Declaration.{Declaration}
use Rattle.cstar_tree.specs.declared.syntax.Expr.{Expr}
use Rattle.cstar_tree.specs.declared.syntax.Stmt.{Stmt, items-the_row-Stmt, items_hidden-the_row-Stmt-0, Held-Stmt-If-3, None', Some'}
use Rattle.cstar_tree.specs.declared.syntax.Stmt as S
use Rattle.cstar_tree.specs.declared.typed.LocalVar.{LocalVar}
use Rattle.cstar_tree.specs.declared.typed.TExpr.{TExpr}
use Rattle.cstar_tree.specs.declared.typed.TStmt.{TStmt}
use Rattle.cstar_tree.specs.declared.typed.TStmt.TheOpen.{TStmt-F}
use Rattle.cstar_tree.specs.declared.typed.TStmt.TheVariants as rolled
use Rattle.cstar_tree.specs.BlockScopes.{behind, behind_declarations, block_place, in_loop}
use Rattle.cstar_tree.specs.ExpressionTypes.{Types}
use Rattle.cstar_tree.specs.Headers.{Program, Returns}
use Rattle.cstar_tree.specs.Room.{greatest, own_bits, statement_step}
use Rattle.cstar_tree.specs.Scopes.{Here, as_whole, shape_of, under}
use Rattle.cstar_tree.specs.StatementTypes.{IsReturned, TypesBlock, TypesDeclarations, TypesEffectIf, TypesStatement, TypesStatements, TypesTestIf}
use Rattle.cstar_tree.specs.StatementTypes as Y
use Rattle.cstar_tree.specs.TypedParts.{concat, optional}
use Rattle.faultless_files.proofs.AlikeStatements.{IsStatement, block_bits, by_node, calls_by, initials}

abbrev pub no_bits : ℕ → ℕ
no_bits shape = 0

-- the bits of a context under this shape
abbrev pub context_bits : ℕ → ℕ → ℕ → ℕ
context_bits current bits shape = if current == shape then bits else 0

-- a row of typed statements, in the scope of this place
pub record IsTypedRow (program : Program) (returns : Returns) (here : Here) (ds : List Declaration) (ss : List Stmt) (t : TStmt) : Type 0 where
  pub locals : List LocalVar
  pub statements : List TStmt
  pub declarations : TypesDeclarations program here ds locals
  pub typed : TypesStatements program returns (behind_declarations here ds) ss statements
  pub node : IsStatement t (block_bits locals) (initials locals) statements

-- the statements behind an `else`
abbrev pub ElseForm : Program → Returns → Here → Held-Stmt-If-3 → List TStmt → Type 0
ElseForm program returns here None' [] = Unit {0}
ElseForm program returns here None' (b ∷ bs) = ⊥
ElseForm program returns here (Some' _ s) [] = ⊥
ElseForm program returns here (Some' _ s) (b ∷ []) = TypesStatement program returns here s b
ElseForm program returns here (Some' _ s) (b ∷ c ∷ bs) = ⊥

abbrev pub ReturnForm : Program → Returns → Here → Option Expr → Option TExpr → Type 0
ReturnForm program returns here None None = Unit {0}
ReturnForm program returns here None (Some f) = ⊥
ReturnForm program returns here (Some e) None = ⊥
ReturnForm program returns here (Some e) (Some f) = (t : TExpr) × Types program here e t true × IsReturned here returns t f

abbrev pub StatementForm : Program → Returns → Here → Stmt → TStmt → Type 0
StatementForm program returns here (S.Block' p ds _ row) t = IsTypedRow program returns (block_place here) ds.items (items-the_row-Stmt _ row) t
StatementForm program returns here (S.Expression p e) t = (x : TExpr) × (b : Bool) × Types program (as_whole here) e x b × IsStatement t no_bits (x ∷ []) []
StatementForm program returns here (S.If' p e _ second third) t =
    (c : TExpr) × (a : TStmt) × (others : List TStmt) × Types program here e c true × TypesStatement program returns here second a × ElseForm program returns (behind here second) third others × IsStatement t no_bits (c ∷ []) (a ∷ others)
StatementForm program returns here (S.While' p e _ body) t = (c : TExpr) × (b : TStmt) × Types program here e c true × TypesStatement program returns (in_loop here) body b × IsStatement t no_bits (c ∷ []) (b ∷ [])
StatementForm program returns here (S.Do' p _ body e) t = (c : TExpr) × (b : TStmt) × Types program here e c true × TypesStatement program returns (in_loop here) body b × IsStatement t no_bits (c ∷ []) (b ∷ [])
StatementForm program returns here (S.For' p first test step _ body) t =
    (f : Option TExpr) × (c : Option TExpr) × (g : Option TExpr) × (b : TStmt) × TypesEffectIf program here first f × TypesTestIf program here test c × TypesEffectIf program here step g × TypesStatement program returns (in_loop here) body b
    × IsStatement t no_bits (optional f ++ optional c ++ optional g) (b ∷ [])
StatementForm program returns here (S.Return p value) t = (f : Option TExpr) × ReturnForm program returns here value f × IsStatement t no_bits (optional f) []
StatementForm program returns here (S.With' p written _ body) t = (s : ℕ) × (b : TStmt) × (shape_of here written ≡ Some s) × TypesStatement program returns (under here s) body b × IsStatement t no_bits [] (b ∷ [])
StatementForm program returns here (S.Everywhere' p _ body) t = (s : ℕ) × (b : TStmt) × (here.current ≡ Some s) × TypesStatement program returns here body b × IsStatement t (context_bits s 1) [] (b ∷ [])
StatementForm program returns here (S.Where' p e _ second third) t =
    (s : ℕ) × (c : TExpr) × (a : TStmt) × (others : List TStmt) × (here.current ≡ Some s) × Types program here e c true × TypesStatement program returns here second a × ElseForm program returns (behind here second) third others
    × IsStatement t (context_bits s 2) (c ∷ []) (a ∷ others)
StatementForm program returns here _ t = IsStatement t no_bits [] []

pub record IsRow (program : Program) (returns : Returns) (here : Here) (block : Block) (locals : List LocalVar) (statements : List TStmt) : Type 0 where
  pub declarations : TypesDeclarations program here block.declarations.items locals
  pub typed : TypesStatements program returns (behind_declarations here block.declarations.items) block.statements.items statements

pub row_of : {program : Program} {returns : Returns} {here : Here} {block : Block} {locals : List LocalVar} {statements : List TStmt} → TypesBlock program returns here block locals statements → IsRow program returns here block locals statements
row_of (Y.block block declared typed) = record { declarations = declared; typed = typed }

pub statement_form : {program : Program} {returns : Returns} {here : Here} {s : Stmt} {t : TStmt} → TypesStatement program returns here s t → StatementForm program returns here s t
unfolding statement_step own_bits greatest concat
statement_form {program = program} {returns = returns} {here = here} (Y.block_is {block = block} locals statements typed) =
    let it = row_of typed in
    record {
      locals = locals.items;
      statements = statements.items;
      declarations = it.declarations;
      typed = subst (λ (ss : List Stmt). TypesStatements program returns (behind_declarations (block_place here) block.declarations.items) ss statements.items) (sym (items_hidden-the_row-Stmt-0 block.statements)) it.typed;
      node = record { rooms_are = λ shape. by_node shape (TStmt-F.Block locals statements) (rolled.rolls-Block locals statements); calls_are = calls_by (TStmt-F.Block locals statements) (rolled.rolls-Block locals statements) };
    }
statement_form (Y.expression {t = t} {has_value = b} typed) =
    (t, b, typed, record { rooms_are = λ shape. by_node shape (TStmt-F.Expression t) (rolled.rolls-Expression t); calls_are = calls_by (TStmt-F.Expression t) (rolled.rolls-Expression t) })
statement_form Y.empty = record { rooms_are = λ shape. by_node shape TStmt-F.Empty rolled.rolls-Empty; calls_are = calls_by TStmt-F.Empty rolled.rolls-Empty }
statement_form (Y.if_alone {t = t} second a test typed) =
    (t, a.value, [], test.typed, typed, tt, record { rooms_are = λ shape. by_node shape (TStmt-F.If t a None) (rolled.rolls-If t a None); calls_are = calls_by (TStmt-F.If t a None) (rolled.rolls-If t a None) })
statement_form (Y.if_else {t = t} second third a b test typed other) =
    (t, a.value, b.value ∷ [], test.typed, typed, other, record { rooms_are = λ shape. by_node shape (TStmt-F.If t a (Some b)) (rolled.rolls-If t a (Some b)); calls_are = calls_by (TStmt-F.If t a (Some b)) (rolled.rolls-If t a (Some b)) })
statement_form (Y.while {t = t} body b test typed) =
    (t, b.value, test.typed, typed, record { rooms_are = λ shape. by_node shape (TStmt-F.While t b) (rolled.rolls-While t b); calls_are = calls_by (TStmt-F.While t b) (rolled.rolls-While t b) })
statement_form (Y.do_while {t = t} body b typed test) =
    (t, b.value, test.typed, typed, record { rooms_are = λ shape. by_node shape (TStmt-F.Do b t) (rolled.rolls-Do b t); calls_are = calls_by (TStmt-F.Do b t) (rolled.rolls-Do b t) })
statement_form (Y.for {f = f} {t = t} {s = s} body b first test step typed) =
    (f, t, s, b.value, first, test, step, typed, record { rooms_are = λ shape. by_node shape (TStmt-F.For f t s b) (rolled.rolls-For f t s b); calls_are = calls_by (TStmt-F.For f t s b) (rolled.rolls-For f t s b) })
statement_form (Y.break loop) = record { rooms_are = λ shape. by_node shape TStmt-F.Break rolled.rolls-Break; calls_are = calls_by TStmt-F.Break rolled.rolls-Break }
statement_form (Y.continue loop) = record { rooms_are = λ shape. by_node shape TStmt-F.Continue rolled.rolls-Continue; calls_are = calls_by TStmt-F.Continue rolled.rolls-Continue }
statement_form Y.return_alone = (None, tt, record { rooms_are = λ shape. by_node shape (TStmt-F.Return None) (rolled.rolls-Return None); calls_are = calls_by (TStmt-F.Return None) (rolled.rolls-Return None) })
statement_form (Y.return_value {t = t} {f = f} typed is) =
    (Some f, (t, typed, is), record { rooms_are = λ shape. by_node shape (TStmt-F.Return (Some f)) (rolled.rolls-Return (Some f)); calls_are = calls_by (TStmt-F.Return (Some f)) (rolled.rolls-Return (Some f)) })
statement_form (Y.with {shape = s} body b is typed) =
    (s, b.value, is, typed, record { rooms_are = λ shape. by_node shape (TStmt-F.With s b) (rolled.rolls-With s b); calls_are = calls_by (TStmt-F.With s b) (rolled.rolls-With s b) })
statement_form (Y.everywhere {shape = s} body b is typed) =
    (s, b.value, is, typed, record { rooms_are = λ shape. by_node shape (TStmt-F.Everywhere s b) (rolled.rolls-Everywhere s b); calls_are = calls_by (TStmt-F.Everywhere s b) (rolled.rolls-Everywhere s b) })
statement_form (Y.where_alone {t = t} {shape = s} second a is test shaped typed) =
    (s, t, a.value, [], is, test, typed, tt, record { rooms_are = λ shape. by_node shape (TStmt-F.Where s t a None) (rolled.rolls-Where s t a None); calls_are = calls_by (TStmt-F.Where s t a None) (rolled.rolls-Where s t a None) })
statement_form (Y.where_else {t = t} {shape = s} second third a b is test shaped typed other) = (
  s,
  t,
  a.value,
  b.value ∷ [],
  is,
  test,
  typed,
  other,
  record { rooms_are = λ shape. by_node shape (TStmt-F.Where s t a (Some b)) (rolled.rolls-Where s t a (Some b)); calls_are = calls_by (TStmt-F.Where s t a (Some b)) (rolled.rolls-Where s t a (Some b)) },
)
