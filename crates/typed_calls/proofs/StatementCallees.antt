-- The instances that typed declarations and statements call are those of the calls of their text.
use Rattle.std.proofs.Common.{◌≡◌, ℕ, List, [], ◌∷◌, ◌++◌, map, Option, Some, None, refl, sym, ap, subst, ◌∙◌, inl, inr, append_assoc, append-nil}
use Rattle.cstar_tree.specs.declared.syntax.Block.{Block}
use Rattle.cstar_tree.specs.declared.syntax.Declaration.{Declaration}
use Rattle.cstar_tree.specs.declared.syntax.Declarator.{Declarator}
use Rattle.cstar_tree.specs.declared.syntax.Expr.{Expr}
use Rattle.cstar_tree.specs.declared.syntax.Initializer.{Initializer}
use Rattle.cstar_tree.specs.declared.syntax.Stmt.{Stmt}
use Rattle.cstar_tree.specs.declared.typed.LocalVar.{LocalVar}
use Rattle.cstar_tree.specs.declared.typed.TExpr.{TExpr}
use Rattle.cstar_tree.specs.declared.typed.TStmt.{TStmt}
use Rattle.cstar_tree.specs.declared.typed.ValueType.{ValueType}
use Rattle.cstar_tree.specs.BlockScopes.{behind_declarations, behind_declarator, behind_declarators, block_place}
use Rattle.cstar_tree.specs.Calls.{Call, at_each, calls_in_block, calls_in_declarations, calls_in_declarators, calls_in_each, calls_in_statement, within}
use Rattle.cstar_tree.specs.Calls as text
use Rattle.cstar_tree.specs.Headers.{Program, Returns}
use Rattle.cstar_tree.specs.Scopes.{Here, shape_of, under, written_type}
use Rattle.cstar_tree.specs.StatementTypes.{IsReturned, TypesBlock, TypesDeclarations, TypesEffectIf, TypesInitial, TypesLocals, TypesStatement, TypesStatements, TypesTestIf}
use Rattle.cstar_tree.specs.StatementTypes as Y
use Rattle.cstar_tree.specs.SyntaxParts.{initial_values}
use Rattle.cstar_tree.specs.TypedParts.{calls_in, calls_within, concat, optional}
use Rattle.call_groups.proofs.Statements as has
use Rattle.call_groups.proofs.Statements.{Has}
use Rattle.shape_room.proofs.CallsInParts.{block_calls, body_calls, branching_calls, calls_append, expression_calls, for_calls, loop_calls, plain_calls, return_calls}
use Rattle.typed_calls.proofs.Alike.{IsAlike, alike_behind, alike_block, alike_both_under, alike_declarator, alike_loop, alike_under, alike_whole}
use Rattle.typed_calls.proofs.Callees.{AreCallees, callees_both, callees_right, callees_turned, callees_untyped, no_callees, same_callees}
use Rattle.typed_calls.proofs.ExpressionCallees.{expression_called, fitted}

-- ---- the calls of initialisers

abbrev pub initial_calls : List LocalVar → List ℕ
initial_calls ls = concat (map calls_in (concat (map (λ (l : LocalVar). optional l.initial) ls)))

initials_next : (l : LocalVar) (ls : List LocalVar) → initial_calls (l ∷ ls) ≡ concat (map calls_in (optional l.initial)) ++ initial_calls ls
unfolding concat
initials_next l ls = calls_append (optional l.initial) (concat (map (λ (l : LocalVar). optional l.initial) ls))

initials_append : (ls rest : List LocalVar) → initial_calls (ls ++ rest) ≡ initial_calls ls ++ initial_calls rest
unfolding concat
initials_append [] rest = refl
initials_append (l ∷ ls) rest =
    initials_next l (ls ++ rest)
    ∙ ap (λ (ns : List ℕ). concat (map calls_in (optional l.initial)) ++ ns) (initials_append ls rest)
    ∙ sym (append_assoc (concat (map calls_in (optional l.initial))) (initial_calls ls) (initial_calls rest))
    ∙ ap (λ (ns : List ℕ). ns ++ initial_calls rest) (sym (initials_next l ls))

module _ (program : Program) (f : ℕ) where
  -- an expression that is alone
  some_called : {calls : List Call} {numbers : List ℕ} → AreCallees program f calls numbers → AreCallees program f (concat (calls ∷ [])) (concat (numbers ∷ []))
  unfolding concat
  some_called {calls = calls} {numbers = numbers} are = same_callees program f (append-nil calls) (append-nil numbers) are

  none_called : (calls : List Call) → AreCallees program f calls (concat (map calls_in []))
  unfolding concat
  none_called calls = no_callees program f calls

  -- ---- declarations

  initial_called : {here : Here} {ty : ValueType} {i : Option Initializer} {t : Option TExpr} (base : Here) → TypesInitial program here ty i t → IsAlike f base here → AreCallees program f (calls_in_each base (initial_values i)) (concat (map calls_in (optional t)))
  initial_called base Y.no_initial k = none_called (calls_in_each base [])
  initial_called base (Y.initial {i = i} {t = t} {f = g} typed at_hand takes fit) k =
      some_called (same_callees program f refl (fitted fit) (expression_called program f base typed k))

  record Declares (base here : Here) (calls : List Call) (ls : List LocalVar) : Type 0 where
    pub called : AreCallees program f calls (initial_calls ls)
    pub alike : IsAlike f base here

  locals_called : {here : Here} {ty : ValueType} {ds : List Declarator} {ls : List LocalVar} (base : Here) (wanted : Option ValueType) → TypesLocals program here ty ds ls → IsAlike f base here
      → Declares (behind_declarators base wanted ds) (behind_declarators here (Some ty) ds) (calls_in_declarators base wanted ds) ls
  unfolding behind_declarators calls_in_declarators concat
  locals_called base wanted Y.no_variable k = record { called = no_callees program f []; alike = k }
  locals_called base wanted (Y.next_variable {here = here} {ty = ty} {d = d} {ds = ds} {l = l} {ls = ls} typed more) k =
      let behind = alike_declarator base here d wanted (Some ty) k in
      let next = behind_declarator base wanted d in
      let rest = locals_called next wanted more behind in
      let first = callees_right program f (calls_in_each base (optional d.length)) (initial_called next typed.initial behind) in
      record { called = same_callees program f refl (initials_next l ls) (callees_both program f first rest.called); alike = rest.alike }

  declarations_called : {here : Here} {ds : List Declaration} {ls : List LocalVar} (base : Here) → TypesDeclarations program here ds ls → IsAlike f base here → Declares (behind_declarations base ds) (behind_declarations here ds) (calls_in_declarations base ds) ls
  unfolding behind_declarations calls_in_declarations concat
  declarations_called base Y.no_declaration k = record { called = no_callees program f []; alike = k }
  declarations_called base (Y.next_declaration {here = here} {ty = ty} {d = d} {ds = ds} {ls = ls} {rest = rest} is typed more) k =
      let wanted = written_type base d.type_name in
      let first = locals_called base wanted typed k in
      let others = declarations_called (behind_declarators base wanted d.variables.items) more first.alike in
      record {
        called = same_callees program f refl (initials_append ls rest) (callees_both program f first.called others.called);
        alike = subst (λ (known : Option ValueType). IsAlike f (behind_declarations (behind_declarators base wanted d.variables.items) ds) (behind_declarations (behind_declarators here known d.variables.items) ds)) (sym is) others.alike;
      }

  -- ---- statements

  effect_called : {here : Here} {e : Option Expr} {t : Option TExpr} (base : Here) → TypesEffectIf program here e t → IsAlike f base here → AreCallees program f (calls_in_each base (optional e)) (concat (map calls_in (optional t)))
  effect_called base Y.TypesEffectIf.absent k = none_called (calls_in_each base [])
  effect_called base (Y.TypesEffectIf.present {e = e} {t = t} typed) k = some_called (expression_called program f base typed (alike_whole k))

  test_if_called : {here : Here} {e : Option Expr} {t : Option TExpr} (base : Here) → TypesTestIf program here e t → IsAlike f base here → AreCallees program f (calls_in_each base (optional e)) (concat (map calls_in (optional t)))
  test_if_called base Y.TypesTestIf.absent k = none_called (calls_in_each base [])
  test_if_called base (Y.TypesTestIf.present {e = e} {t = t} test) k = some_called (expression_called program f base test.typed k)

  returned_calls : {here : Here} {returns : Returns} {t g : TExpr} → IsReturned here returns t g → calls_in g ≡ calls_in t
  returned_calls (Y.returned at_hand takes fit) = fitted fit

  has_called : (base : Here) {s : Stmt} (calls : Here → List Call) {all numbers : List ℕ} → Has s calls → all ≡ numbers → AreCallees program f (calls base) numbers → AreCallees program f (calls_in_statement s base) all
  has_called base calls is same are = same_callees program f (is.at_place base) same are

  -- the body of a `with` stands under some shape, or its calls are not typed
  under_called : (base : Here) (shape : Option ℕ) (calls : Here → List Call) {numbers : List ℕ} → AreCallees program f (calls base) numbers → ((wanted : ℕ) → AreCallees program f (calls (under base wanted)) numbers) → AreCallees program f (within base shape calls) numbers
  under_called base None calls are each = callees_untyped program f are
  under_called base (Some wanted) calls are each = each wanted

  module _ (returns : Returns) where
    mutual
      unfolding concat at_each

      pub statement_called : {here : Here} {stmt : Stmt} {t : TStmt} (base : Here) → TypesStatement program returns here stmt t → IsAlike f base here → AreCallees program f (calls_in_statement stmt base) (calls_within t)
      statement_called base (Y.block_is {block = block} locals statements typed) k =
          has_called base (λ at. calls_in_block block (block_place at)) (has.block_has block refl) (block_calls _ locals statements refl) (parts_called (block_place base) typed (alike_block k))
      statement_called base (Y.expression {e = e} {t = t} typed) k =
          has_called base (λ at. text.calls_in at e) (has.expression_has refl) (expression_calls _ t refl) (expression_called program f base typed (alike_whole k))
      statement_called base Y.empty k = has_called base (λ at. []) (has.empty_has refl) (plain_calls _ (inl refl)) (no_callees program f [])
      statement_called base (Y.if_alone {e = e} {t = t} second a test typed) k =
          has_called base (λ at. text.calls_in at e ++ calls_in_statement second.value at) (has.if_alone_has {then = second} refl) (branching_calls _ t a None (inl refl) ∙ ap (λ (ns : List ℕ). calls_in t ++ ns) (append-nil (calls_within a.value)))
          (callees_both program f (expression_called program f base test.typed k) (statement_called base typed k))
      statement_called base (Y.if_else {here = here} {e = e} {t = t} second third a b test typed other) k =
          has_called base (λ at. text.calls_in at e ++ (calls_in_statement second.value at ++ calls_in_statement third.value at)) (has.if_else_has {then = second} {otherwise = third} refl)
          (branching_calls _ t a (Some b) (inl refl) ∙ ap (λ (ns : List ℕ). calls_in t ++ (calls_within a.value ++ ns)) (append-nil (calls_within b.value)))
          (callees_both program f (expression_called program f base test.typed k) (callees_both program f (statement_called base typed k) (statement_called base other (alike_behind _ k))))
      statement_called base (Y.while {e = e} {t = t} body b test typed) k =
          has_called base (λ at. text.calls_in at e ++ calls_in_statement body.value at) (has.while_has {body = body} refl) (loop_calls _ t b (inl refl))
          (callees_both program f (expression_called program f base test.typed k) (statement_called base typed (alike_loop k)))
      statement_called base (Y.do_while {e = e} {t = t} body b typed test) k =
          has_called base (λ at. calls_in_statement body.value at ++ text.calls_in at e) (has.do_has {body = body} refl) (loop_calls _ t b (inr refl))
          (callees_turned program f (statement_called base typed (alike_loop k)) (expression_called program f base test.typed k))
      statement_called base (Y.for {first = first} {test = test} {step = step} {f = g} {t = t} {s = s} body b at_first at_test at_step typed) k =
          has_called base (λ at. calls_in_each at (optional first) ++ (calls_in_each at (optional test) ++ (calls_in_each at (optional step) ++ calls_in_statement body.value at))) (has.for_has {body = body} refl) (for_calls _ g t s b refl)
          (callees_both program f (effect_called base at_first k) (callees_both program f (test_if_called base at_test k) (callees_both program f (effect_called base at_step k) (statement_called base typed (alike_loop k)))))
      statement_called base (Y.break loop) k = has_called base (λ at. []) (has.break_has refl) (plain_calls _ (inr (inl refl))) (no_callees program f [])
      statement_called base (Y.continue loop) k = has_called base (λ at. []) (has.continue_has refl) (plain_calls _ (inr (inr refl))) (no_callees program f [])
      statement_called base Y.return_alone k = has_called base (λ at. calls_in_each at []) (has.return_has {value = None} refl) (return_calls _ None refl) (no_callees program f [])
      statement_called base (Y.return_value {e = e} {t = t} {f = g} typed is) k =
          has_called base (λ at. calls_in_each at (e ∷ [])) (has.return_has {value = Some e} refl) (return_calls _ (Some g) refl)
          (some_called (same_callees program f refl (returned_calls is) (expression_called program f base typed k)))
      statement_called base (Y.with {written = written} {shape = shape} body b is typed) k =
          has_called base (λ at. within at (shape_of at written) (calls_in_statement body.value)) (has.with_has {body = body} refl) (body_calls _ b (inl (_, refl)))
          (under_called base (shape_of base written) (calls_in_statement body.value) (statement_called base typed (alike_under shape k)) (λ wanted. statement_called (under base wanted) typed (alike_both_under wanted shape k)))
      statement_called base (Y.everywhere body b is typed) k =
          has_called base (calls_in_statement body.value) (has.everywhere_has {body = body} refl) (body_calls _ b (inr (_, refl))) (statement_called base typed k)
      statement_called base (Y.where_alone {e = e} {t = t} second a is test parallel typed) k =
          has_called base (λ at. text.calls_in at e ++ calls_in_statement second.value at) (has.where_alone_has {then = second} refl) (branching_calls _ t a None (inr (_, refl)) ∙ ap (λ (ns : List ℕ). calls_in t ++ ns) (append-nil (calls_within a.value)))
          (callees_both program f (expression_called program f base test k) (statement_called base typed k))
      statement_called base (Y.where_else {e = e} {t = t} second third a b is test parallel typed other) k =
          has_called base (λ at. text.calls_in at e ++ (calls_in_statement second.value at ++ calls_in_statement third.value at)) (has.where_else_has {then = second} {otherwise = third} refl)
          (branching_calls _ t a (Some b) (inr (_, refl)) ∙ ap (λ (ns : List ℕ). calls_in t ++ (calls_within a.value ++ ns)) (append-nil (calls_within b.value)))
          (callees_both program f (expression_called program f base test k) (callees_both program f (statement_called base typed k) (statement_called base other (alike_behind _ k))))

      statements_called : {here : Here} {stmts : List Stmt} {ts : List TStmt} (base : Here) → TypesStatements program returns here stmts ts → IsAlike f base here → AreCallees program f (at_each base (map calls_in_statement stmts)) (concat (map calls_within ts))
      statements_called base Y.no_statement k = no_callees program f []
      statements_called base (Y.next_statement typed more) k = callees_both program f (statement_called base typed k) (statements_called base more (alike_behind _ k))

      pub parts_called : {here : Here} {block : Block} {locals : List LocalVar} {statements : List TStmt} (base : Here) → TypesBlock program returns here block locals statements → IsAlike f base here
          → AreCallees program f (calls_in_block block base) (initial_calls locals ++ concat (map calls_within statements))
      parts_called base (Y.block block declarations typed) k =
          let declared = declarations_called base declarations k in
          callees_both program f declared.called (statements_called (behind_declarations base block.declarations.items) typed declared.alike)
