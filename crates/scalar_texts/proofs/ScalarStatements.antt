-- What the rules of typing give statements and bodies of a file without shapes is of the fragment.
use Rattle.std.proofs.Common.{◌≡◌, ℕ, ◌+◌, Bool, true, false, inl, inr, IfSome, List, ◌++◌, length, map, Option, Some, None, Vec, refl, ◌∙◌, sym, subst, append-nil}
use Rattle.std.specs.declared.alloc.Global.{Global}
use Rattle.std.specs.List.{All, Contains}
use Rattle.std.proofs.lemmas.List.Elements.{All-nil, All-cons, All-head, All-tail, All-weaker}
use Rattle.std.proofs.lemmas.Option.{none-some}
use mathlib.Core.Former.{Count}
use Rattle.cstar_tree.specs.declared.syntax.Block.{Block}
use Rattle.cstar_tree.specs.declared.syntax.Expr.{Expr}
use Rattle.cstar_tree.specs.declared.syntax.Stmt.{Stmt}
use Rattle.cstar_tree.specs.declared.typed.LocalVar.{LocalVar}
use Rattle.cstar_tree.specs.declared.typed.TExpr.{TExpr}
use Rattle.cstar_tree.specs.declared.typed.TStmt.{TStmt, Row_of-TStmt, end_of-TStmt, more_of-TStmt, items-the_row-TStmt, items_hidden-the_row-TStmt-0}
use Rattle.cstar_tree.specs.declared.typed.TStmt as S
use Rattle.cstar_tree.specs.declared.typed.ValueType.{ValueType}
use Rattle.cstar_tree.specs.declared.typed.Variable.{Variable}
use Rattle.cstar_tree.specs.BlockScopes.{in_loop}
use Rattle.cstar_tree.specs.ExpressionTypes.{Types}
use Rattle.cstar_tree.specs.Headers.{Program, Returns, a_value}
use Rattle.cstar_tree.specs.ProgramTypes as Z
use Rattle.cstar_tree.specs.Scopes.{Here, as_whole}
use Rattle.cstar_tree.specs.StatementTypes.{IsReturned, TypesBlock, TypesEffectIf, TypesStatement, TypesStatements, TypesTest, TypesTestIf}
use Rattle.cstar_tree.specs.StatementTypes as Y
use Rattle.cstar_tree.specs.SyntaxParts.{locals_in}
use Rattle.cstar_tree.specs.Typed.{type_of}
use Rattle.cstar_tree.specs.TypedParts.{calls_in, calls_within, concat, optional, optional_box}
use Rattle.code_follows.specs.Fragment.{AreClosed, AreInStatements, AreInitials, IsBlockLocal, IsBody, IsClosed, IsClosedElse, IsEffect, IsIn, IsInElse, IsInStatement, IsScalarLocal, IsTested, May, within}
use Rattle.code_lengths.specs.NamingStatements.{behind}
use Rattle.shape_room.proofs.CallsInParts.{block_calls, branching_calls, expression_calls, for_calls, loop_calls, return_calls}
use Rattle.shaped_trees.specs.Casts.{BlockNamesShapes, ElseNamesShapes, ExpressionNamesShapes, StatementNamesShapes}
use Rattle.shaped_trees.proofs.Rows.{block_of_statement}
use Rattle.type_expressions.specs.Walks.{IsPlain}
use Rattle.type_statements.specs.Ready.{InBlock, InElse, InStatement, InStatements}
use Rattle.type_statements.proofs.Ready as ready
use Rattle.scalar_texts.specs.Places.{AllowsCalls, IsScalarPlace}
use Rattle.scalar_texts.proofs.ScalarCalls.{AreCalled, both_called, fitted_called, same_called}
use Rattle.scalar_texts.proofs.ScalarConversions.{IsScalarValue, fitted}
use Rattle.scalar_texts.proofs.ScalarDeclarations.{IsAllowing, IsCalledIf, Plainly, called_if, declarations_are, initial_calls, inside}
use Rattle.scalar_texts.proofs.ScalarExpressions.{expression_is}
use Rattle.scalar_texts.proofs.ScalarPlaces.{at_hand_scalar, goes_on, in_block, no_shape}

-- ---- statements of the fragment in a row

-- A statement is of the fragment however many variables are declared before. Where no loop is around, none is left
-- or gone on with in it.
pub record IsScalarStatement (may : May) (loop : Bool) (t : TStmt) : Type 0 where
  pub is_in : (n : ℕ) → IsInStatement may n t
  pub closed : loop ≡ false → IsClosed t

abbrev typed_statements : TStmt → (k : Count) × Row_of-TStmt k
typed_statements (S.Block' _ _ row) = (_, row)
typed_statements _ = (_, end_of-TStmt)

module _ (may : May) (loop : Bool) where
  row_in : (k : Count) (row : Row_of-TStmt k) → All (IsScalarStatement may loop) (items-the_row-TStmt k row) → (n : ℕ) → AreInStatements may n row
  unfolding AreInStatements
  row_in k end_of-TStmt all n = tt
  row_in k (more_of-TStmt s rest) all n =
      let first = All-head (IsScalarStatement may loop) s _ all in
      (first.is_in n, row_in _ rest (All-tail (IsScalarStatement may loop) s _ all) (behind n s))

  row_closed : (k : Count) (row : Row_of-TStmt k) → All (IsScalarStatement may loop) (items-the_row-TStmt k row) → loop ≡ false → AreClosed row
  unfolding AreClosed
  row_closed k end_of-TStmt all none = tt
  row_closed k (more_of-TStmt s rest) all none =
      let first = All-head (IsScalarStatement may loop) s _ all in
      (first.closed none, row_closed _ rest (All-tail (IsScalarStatement may loop) s _ all) none)

-- a block, where so many variables are declared before
abbrev AreParts : May → ℕ → Bool → List LocalVar → List TStmt → Type 0
AreParts may n loop locals statements = All IsScalarLocal locals × AreInitials may n locals × All (IsScalarStatement (within may n (length locals)) loop) statements

module _ (may : May) (n : ℕ) (loop : Bool) (locals : Vec LocalVar Global) (statements : Vec TStmt Global) where
  in_a_row : AreParts may n loop locals.items statements.items → All (IsScalarStatement (within may n (length locals.items)) loop) (items-the_row-TStmt (typed_statements (S.Block locals statements)).0 (typed_statements (S.Block locals statements)).1)
  in_a_row parts = subst (All (IsScalarStatement (within may n (length locals.items)) loop)) (sym (items_hidden-the_row-TStmt-0 statements)) parts.2

  block_in : AreParts may n loop locals.items statements.items → IsInStatement may n (S.Block locals statements)
  unfolding IsInStatement
  block_in parts =
      let row = typed_statements (S.Block locals statements) in
      (All-weaker IsScalarLocal (IsBlockLocal may.beside) (λ local scalar. inl scalar) locals.items parts.0, parts.1, row_in (within may n (length locals.items)) loop row.0 row.1 (in_a_row parts) (n + length locals.items))

  block_closed : AreParts may n loop locals.items statements.items → loop ≡ false → IsClosed (S.Block locals statements)
  unfolding IsClosed
  block_closed parts none =
      let row = typed_statements (S.Block locals statements) in
      row_closed (within may n (length locals.items)) loop row.0 row.1 (in_a_row parts) none

block_body : (may : May) (locals : Vec LocalVar Global) (statements : Vec TStmt Global) → AreParts may 0 false locals.items statements.items → IsBody may (S.Block locals statements)
unfolding IsBody IsClosed
block_body may locals statements parts = (block_in may 0 false locals statements parts, block_closed may 0 false locals statements parts refl)

module _ (program : Program) (shapes : List (List ℕ)) (around : ℕ) (Called : ℕ → Type 0) (returns : Returns) where
  abbrev Allowing : May → Type 0
  Allowing may = IsAllowing program shapes around Called returns may

  -- ---- expressions

  value_is : {here : Here} {e : Expr} {t : TExpr} {has_value : Bool} (may : May) → Allowing may → IsScalarPlace shapes around here → IsPlain e → ExpressionNamesShapes e → AreCalled Called (calls_in t) → Types program here e t has_value → IsScalarValue may has_value t
  value_is may a s n w c typed = expression_is program shapes around Called may a.every a.calls s n w c typed

  test_is : {here : Here} {e : Expr} {t : TExpr} (may : May) → Allowing may → IsScalarPlace shapes around here → IsPlain e → ExpressionNamesShapes e → AreCalled Called (calls_in t) → TypesTest program here e t → IsIn may t
  test_is may a s n w c test = let g = value_is may a s n w c test.typed in g.used refl

  in_whole : {here : Here} → IsScalarPlace shapes around here → IsScalarPlace shapes around (as_whole here)
  in_whole {here = here} s = goes_on true here.locals here.loop s

  in_body : {here : Here} → IsScalarPlace shapes around here → IsScalarPlace shapes around (in_loop here)
  in_body {here = here} s = goes_on here.whole here.locals true s

  effect_if : {here : Here} {e : Option Expr} {t : Option TExpr} (may : May) → Allowing may → IsScalarPlace shapes around here → IfSome e IsPlain → IfSome e ExpressionNamesShapes → IsCalledIf Called t → TypesEffectIf program here e t → IfSome t (IsEffect may)
  effect_if may a s n w c Y.TypesEffectIf.absent = tt
  effect_if may a s n w c (Y.TypesEffectIf.present typed) = let g = value_is may a (in_whole s) n w c typed in g.effect

  test_if : {here : Here} {e : Option Expr} {t : Option TExpr} (may : May) → Allowing may → IsScalarPlace shapes around here → IfSome e IsPlain → IfSome e ExpressionNamesShapes → IsCalledIf Called t → TypesTestIf program here e t → IsTested may t
  unfolding IsTested
  test_if may a s n w c Y.TypesTestIf.absent = tt
  test_if may a s n w c (Y.TypesTestIf.present test) = test_is may a s n w c test

  returned_is : {here : Here} {e : Expr} {t f : TExpr} (may : May) → Allowing may → IsScalarPlace shapes around here → IsPlain e → ExpressionNamesShapes e → AreCalled Called (calls_in f) → Types program here e t true → IsReturned here returns t f → IsIn may f × may.returns (type_of f).elem
  returned_is may a s n w c typed is = brought (λ called. value_is may a s n w called typed) a.returned c s.current is
    where
      brought : {here : Here} {r : Returns} {t f : TExpr} → (AreCalled Called (calls_in t) → IsScalarValue may true t) → ((ty : ValueType) → r ≡ a_value ty → may.returns ty.elem) → AreCalled Called (calls_in f) → here.current ≡ None → IsReturned here r t f → IsIn may f × may.returns (type_of f).elem
      brought value returned c none (Y.returned {ty = ty} at_hand takes fit) =
          let v = fitted may fit (at_hand_scalar at_hand none) (value (fitted_called Called fit c)) in
          (v.used, subst may.returns (sym v.elem_is) (returned ty refl))

  -- ---- statements

  mutual
    unfolding IsInStatement IsInElse IsClosed IsClosedElse InStatement InElse InStatements StatementNamesShapes ElseNamesShapes BlockNamesShapes concat

    pub statement_is : {here : Here} {s : Stmt} {t : TStmt} (may : May) → Allowing may → IsScalarPlace shapes around here → InStatement Plainly here s → StatementNamesShapes s → AreCalled Called (calls_within t) → TypesStatement program returns here s t → IsScalarStatement may here.loop t
    statement_is may a s n w c (Y.block_is {here = here} {block = block} locals statements typed) =
        let calls = both_called Called (initial_calls locals.items) (concat (map calls_within statements.items)) (block_calls _ locals statements refl) c in
        let parts : (m : ℕ) → AreParts may m here.loop locals.items statements.items = λ m. parts_are may m a (in_block s) (ready.in_block Plainly here block n) (block_of_statement block w) calls.0 calls.1 typed in
        record { is_in = λ m. block_in may m here.loop locals statements (parts m); closed = λ none. block_closed may 0 here.loop locals statements (parts 0) none }
    statement_is may a s n w c (Y.expression {t = t} typed) =
        let g = value_is may a (in_whole s) n w (same_called Called (expression_calls _ t refl) c) typed in
        record { is_in = λ m. g.effect; closed = λ none. tt }
    statement_is may a s n w c Y.empty = record { is_in = λ m. tt; closed = λ none. tt }
    statement_is may a s n w c (Y.if_alone {t = t} second b test typed) =
        let calls = both_called Called (calls_in t) (calls_within b.value ++ concat (map calls_within (optional_box None))) (branching_calls _ t b None (inl refl)) c in
        let others = both_called Called (calls_within b.value) (concat (map calls_within (optional_box None))) refl calls.1 in
        let tested = test_is may a s n.0 w.0 calls.0 test in
        let first = statement_is may a s n.1 w.1 others.0 typed in
        record { is_in = λ m. (tested, first.is_in m, tt); closed = λ none. (first.closed none, tt) }
    statement_is may a s n w c (Y.if_else {here = here} {t = t} second third b d test typed other) =
        let calls = both_called Called (calls_in t) (calls_within b.value ++ concat (map calls_within (optional_box (Some d)))) (branching_calls _ t b (Some d) (inl refl)) c in
        let others = both_called Called (calls_within b.value) (concat (map calls_within (optional_box (Some d)))) refl calls.1 in
        let last = same_called Called (append-nil (calls_within d.value)) others.1 in
        let tested = test_is may a s n.0 w.0 calls.0 test in
        let first = statement_is may a s n.1 w.1 others.0 typed in
        let otherwise = statement_is may a (goes_on here.whole (here.locals + locals_in second.value) here.loop s) n.2 w.2 last other in
        record { is_in = λ m. (tested, first.is_in m, otherwise.is_in (behind m b.value)); closed = λ none. (first.closed none, otherwise.closed none) }
    statement_is may a s n w c (Y.while {t = t} body b test typed) =
        let calls = both_called Called (calls_in t) (calls_within b.value) (loop_calls _ t b (inl refl)) c in
        let tested = test_is may a s n.0 w.0 calls.0 test in
        let looped = statement_is may a (in_body s) n.1 w.1 calls.1 typed in
        record { is_in = λ m. (tested, looped.is_in m); closed = λ none. tt }
    statement_is may a s n w c (Y.do_while {t = t} body b typed test) =
        let calls = both_called Called (calls_in t) (calls_within b.value) (loop_calls _ t b (inr refl)) c in
        let looped = statement_is may a (in_body s) n.0 w.0 calls.1 typed in
        let tested = test_is may a s n.1 w.1 calls.0 test in
        record { is_in = λ m. (looped.is_in m, tested); closed = λ none. tt }
    statement_is may a s n w c (Y.for {f = f} {t = t} {s = g} body b at_first at_test at_step typed) =
        let calls = both_called Called (concat (map calls_in (optional f))) (concat (map calls_in (optional t)) ++ (concat (map calls_in (optional g)) ++ calls_within b.value)) (for_calls _ f t g b refl) c in
        let others = both_called Called (concat (map calls_in (optional t))) (concat (map calls_in (optional g)) ++ calls_within b.value) refl calls.1 in
        let last = both_called Called (concat (map calls_in (optional g))) (calls_within b.value) refl others.1 in
        let first = effect_if may a s n.0 w.0 (called_if Called f calls.0) at_first in
        let tested = test_if may a s n.1 w.1 (called_if Called t others.0) at_test in
        let step = effect_if may a s n.2 w.2 (called_if Called g last.0) at_step in
        let looped = statement_is may a (in_body s) n.3 w.3 last.1 typed in
        record { is_in = λ m. (first, tested, step, looped.is_in m); closed = λ none. tt }
    statement_is may a s n w c (Y.break loop) = record { is_in = λ m. tt; closed = λ none. absurd (cc) }
    statement_is may a s n w c (Y.continue loop) = record { is_in = λ m. tt; closed = λ none. absurd (cc) }
    statement_is may a s n w c Y.return_alone = record { is_in = λ m. tt; closed = λ none. tt }
    statement_is may a s n w c (Y.return_value {f = f} typed is) =
        let given = returned_is may a s n w (called_if Called (Some f) (same_called Called (return_calls _ (Some f) refl) c)) typed is in
        record { is_in = λ m. given; closed = λ none. tt }
    statement_is may a s n w c (Y.with {written = written} {shape = shape} body b is typed) = elim (none-some shape (sym (no_shape _ written s.means s.current) ∙ is)) [ ]
    statement_is may a s n w c (Y.everywhere {shape = shape} body b is typed) = elim (none-some shape (sym s.current ∙ is)) [ ]
    statement_is may a s n w c (Y.where_alone {shape = shape} second b is test parallel typed) = elim (none-some shape (sym s.current ∙ is)) [ ]
    statement_is may a s n w c (Y.where_else {shape = shape} second third b d is test parallel typed other) = elim (none-some shape (sym s.current ∙ is)) [ ]

    statements_are : {here : Here} {ss : List Stmt} {ts : List TStmt} (may : May) → Allowing may → IsScalarPlace shapes around here → InStatements Plainly here ss → All StatementNamesShapes ss → AreCalled Called (concat (map calls_within ts)) →
        TypesStatements program returns here ss ts → All (IsScalarStatement may here.loop) ts
    statements_are may a s n w c (Y.no_statement {here = here}) = All-nil (IsScalarStatement may here.loop)
    statements_are may a s n w c (Y.next_statement {here = here} {s = stmt} {t = t} {ss = ss} {ts = ts} typed more) =
        let calls = both_called Called (calls_within t) (concat (map calls_within ts)) refl c in
        All-cons (IsScalarStatement may here.loop) t ts (statement_is may a s n.0 (All-head StatementNamesShapes stmt ss w) calls.0 typed)
        (statements_are may a (goes_on here.whole (here.locals + locals_in stmt) here.loop s) n.1 (All-tail StatementNamesShapes stmt ss w) calls.1 more)

    parts_are : {here : Here} {block : Block} {locals : List LocalVar} {statements : List TStmt} (may : May) (m : ℕ) → Allowing may → IsScalarPlace shapes around here → InBlock Plainly here block → BlockNamesShapes block →
        AreCalled Called (initial_calls locals) → AreCalled Called (concat (map calls_within statements)) → TypesBlock program returns here block locals statements → AreParts may m here.loop locals statements
    parts_are {here = here} may m a s n w c d (Y.block {locals = locals} {statements = statements} block declarations typed) =
        let declared = declarations_are program shapes around Called returns s n.0 w.0 c declarations in
        let inner = within may m (length locals) in (
          declared.scalars,
          declared.initials may m a,
          subst (λ (loop : Bool). All (IsScalarStatement inner loop) statements) declared.loop
              (statements_are inner (inside program shapes around Called returns m (length locals) a) declared.place n.1 w.1 d typed),
        )

module _ (program : Program) (shapes : List (List ℕ)) (around : ℕ) (Called : ℕ → Type 0) (may : May) (every : (x : Variable) → may.names x) (allows : AllowsCalls program shapes around Called may.calls) where
  -- the body of a function, in the scope of its parameters
  pub body_is : {returns : Returns} {here : Here} {block : Block} {locals : List LocalVar} {statements : List TStmt} {body : TStmt} → IsScalarPlace shapes around here → TypesBlock program returns here block locals statements → Z.IsBody locals statements body →
      InBlock Plainly here block → BlockNamesShapes block → ((k : ℕ) → Contains (calls_within body) k → Called k) → ((ty : ValueType) → returns ≡ a_value ty → may.returns ty.elem) → here.loop ≡ false → IsBody may body
  body_is {returns = returns} {here = here} {block = block} {statements = statements} s typed (Z.body ls ss same_locals same_statements) n w c returned no_loop =
      let calls = both_called Called (initial_calls ls.items) (concat (map calls_within ss.items)) (block_calls _ ls ss refl) c in
      let own = subst (λ (ts : List TStmt). TypesBlock program returns here block ls.items ts) (sym same_statements) (subst (λ (locals : List LocalVar). TypesBlock program returns here block locals statements) (sym same_locals) typed) in
      let allowing : IsAllowing program shapes around Called returns may = record { every = every; calls = allows; returned = returned } in
      let parts = parts_are program shapes around Called returns may 0 allowing s n w calls.0 calls.1 own in
      block_body may ls ss (subst (λ (loop : Bool). AreParts may 0 loop ls.items ss.items) no_loop parts)
