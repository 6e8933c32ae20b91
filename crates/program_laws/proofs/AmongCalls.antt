-- What an expression in a block calls at its place is among what the block calls.
use Rattle.std.proofs.Common.{◌≡◌, ℕ, List, [], ◌∷◌, ◌++◌, map, length, IfSome, Option, Some, None, Box, arith, sym, ap, ◌∙◌, subst}
use Rattle.std.specs.declared.alloc.Global.{Global}
use Rattle.std.specs.List.{Contains}
use Rattle.std.proofs.lemmas.List.{get_or-map, length-map, map-append}
use Rattle.std.proofs.lemmas.List.Elements.{Contains-append_left, Contains-append_right}
use Rattle.cstar_tree.specs.declared.syntax.Block.{Block}
use Rattle.cstar_tree.specs.declared.syntax.Block as B
use Rattle.cstar_tree.specs.declared.syntax.Declaration.{Declaration}
use Rattle.cstar_tree.specs.declared.syntax.Declarator.{Declarator}
use Rattle.cstar_tree.specs.declared.syntax.Expr.{Expr}
use Rattle.cstar_tree.specs.declared.syntax.Initializer.{Initializer}
use Rattle.cstar_tree.specs.declared.syntax.Stmt.{Stmt}
use Rattle.cstar_tree.specs.declared.syntax.Stmt as S
use Rattle.cstar_tree.specs.declared.syntax.Stmt.TheFolds.{fold-roll-Block, fold-roll-Stmt, fold_out-Block, ind-Block}
use Rattle.cstar_tree.specs.declared.syntax.Stmt.TheOpen.{Block-F, Stmt-F}
use Rattle.cstar_tree.specs.declared.syntax.Stmt.TheVariants as rolled
use Rattle.cstar_tree.specs.declared.typed.ValueType.{ValueType}
use Rattle.cstar_tree.specs.BlockScopes.{behind, behind_declarations, behind_declarator, behind_declarators, block_place, in_loop}
use Rattle.cstar_tree.specs.Calls.{Call, at_each, block_step, calls_in, calls_in_block, calls_in_declarations, calls_in_declarators, calls_in_each, calls_in_statement, statement_step, within}
use Rattle.cstar_tree.specs.Scopes.{Here, as_whole, shape_of, under, written_type}
use Rattle.cstar_tree.specs.SyntaxParts.{initial_values}
use Rattle.cstar_tree.specs.TypedParts.{concat, optional}
use Rattle.type_statements.specs.Ready.{InBlock, InDeclarations, InDeclarators, InElse, InStatement, InStatements}
use Rattle.program_laws.proofs.InBlocks.{in_statement}
use Rattle.program_laws.proofs.Lists.{concat_both}
use Rattle.program_laws.proofs.SameCalls.{IsAlike, alike_behind, alike_behind_all, alike_behind_each, alike_inside, calls_of_block_node, calls_of_node, expression_same, folded_block, functions_of, untyped_same}

-- each function that these call is one of the list
abbrev pub Covers : List ℕ → List Call → Type 0
Covers list calls = (f : ℕ) → Contains (functions_of calls) f → Contains list f

-- so is each that an expression calls
abbrev pub IsAmong : List ℕ → Here → Expr → Type 0
IsAmong list here e = (c : Call) → Contains (calls_in here e) c → Contains list c.function

pub has_function : (calls : List Call) (c : Call) → Contains calls c → Contains (functions_of calls) c.function
has_function calls c h =
    let long : length (functions_of calls) ≡ length calls = length-map calls _ in
    let less = h.1 in
    (h.0, omega (arith, less), get_or-map (λ (x : Call). x.function) calls h.0 c c.function less ∙ ap (λ (x : Call). x.function) h.2)

first : (list : List ℕ) (a b : List Call) → Covers list (a ++ b) → Covers list a
first list a b all f h = all f (subst (λ (fs : List ℕ). Contains fs f) (sym (map-append (λ (c : Call). c.function) a b)) (Contains-append_left (functions_of a) (functions_of b) f h))

second : (list : List ℕ) (a b : List Call) → Covers list (a ++ b) → Covers list b
second list a b all f h = all f (subst (λ (fs : List ℕ). Contains fs f) (sym (map-append (λ (c : Call). c.function) a b)) (Contains-append_right (functions_of a) (functions_of b) f h))

covers_same : (list : List ℕ) (a b : List Call) → functions_of a ≡ functions_of b → Covers list a → Covers list b
covers_same list a b same all f h = all f (subst (λ (fs : List ℕ). Contains fs f) (sym same) h)

module _ (list : List ℕ) where
  -- ---- expressions

  among : (here there : Here) (e : Expr) → IsAlike here there → Covers list (calls_in there e) → IsAmong list here e
  among here there e is all c h = all c.function (subst (λ (fs : List ℕ). Contains fs c.function) (expression_same e here there is) (has_function (calls_in here e) c h))

  one_among : (here there : Here) (e : Expr) → IsAlike here there → Covers list (calls_in_each there (e ∷ [])) → IsAmong list here e
  unfolding concat
  one_among here there e is all = among here there e is (first list (calls_in there e) [] all)

  some_among : (here there : Here) (e : Option Expr) → IsAlike here there → Covers list (calls_in_each there (optional e)) → IfSome e (IsAmong list here)
  some_among here there None is all = tt
  some_among here there (Some e) is all = one_among here there e is all

  initial_among : (here there : Here) (i : Option Initializer) → IsAlike here there → Covers list (calls_in_each there (initial_values i)) → IfSome i (λ (i : Initializer). IsAmong list here i.value)
  initial_among here there None is all = tt
  initial_among here there (Some i) is all = one_among here there i.value is all

  -- ---- declarations

  declarators_among : (here there : Here) (ty of : Option ValueType) (ds : List Declarator) → IsAlike here there → Covers list (calls_in_declarators there of ds) → InDeclarators (IsAmong list) here ty ds
  unfolding InDeclarators calls_in_declarators
  declarators_among here there ty of [] is all = tt
  declarators_among here there ty of (d ∷ ds) is all =
      let next = behind_declarator here ty d in
      let other = behind_declarator there of d in
      let alike = alike_behind here there ty of d is in
      let lengths = calls_in_each there (optional d.length) in
      let values = calls_in_each other (initial_values d.initial) in
      let rest = calls_in_declarators other of ds in
      let own = first list (lengths ++ values) rest all in (
        (some_among here there d.length is (first list lengths values own), initial_among next other d.initial alike (second list lengths values own)),
        declarators_among next other ty of ds alike (second list (lengths ++ values) rest all),
      )

  declarations_among : (here there : Here) (ds : List Declaration) → IsAlike here there → Covers list (calls_in_declarations there ds) → InDeclarations (IsAmong list) here ds
  unfolding InDeclarations calls_in_declarations
  declarations_among here there [] is all = tt
  declarations_among here there (d ∷ ds) is all =
      let ty = written_type here d.type_name in
      let of = written_type there d.type_name in
      let next = behind_declarators here ty d.variables.items in
      let other = behind_declarators there of d.variables.items in
      let own = calls_in_declarators there of d.variables.items in
      let rest = calls_in_declarations other ds in (
        declarators_among here there ty of d.variables.items is (first list own rest all),
        declarations_among next other ds (alike_behind_all here there ty of d.variables.items is) (second list own rest all),
      )

  -- ---- statements

  abbrev StatementAmong : Stmt → Type 0
  StatementAmong s = (here there : Here) → IsAlike here there → Covers list (calls_in_statement s there) → InStatement (IsAmong list) here s

  abbrev BlockAmong : Block → Type 0
  BlockAmong b = (here there : Here) → IsAlike here there → Covers list (folded_block b there) → InBlock (IsAmong list) here b

  abbrev Inner : Type 0
  Inner = (s : Stmt) × StatementAmong s

  abbrev InnerBlock : Type 0
  InnerBlock = (b : Block) × BlockAmong b

  abbrev opened_statement : Stmt-F Inner InnerBlock → Stmt-F Stmt Block
  opened_statement y = S.map-Stmt Inner InnerBlock Stmt Block (λ (s : Inner). s.0) (λ (b : InnerBlock). b.0) y

  abbrev opened_block : Block-F Inner InnerBlock → Block-F Stmt Block
  opened_block y = B.map-Block Inner InnerBlock Stmt Block (λ (s : Inner). s.0) (λ (b : InnerBlock). b.0) y

  abbrev plain_box : Box Inner Global → Box Stmt Global
  plain_box s = record { ptr = s.ptr; alloc = s.alloc; value = s.value.0 }

  -- the test of a statement, and the statements in it
  test_of : (there : Here) (e : Expr) (rest : List Call) → Covers list (calls_in_each there (e ∷ []) ++ rest) → Covers list (calls_in_each there (e ∷ []))
  test_of there e rest all = first list (calls_in_each there (e ∷ [])) rest all

  one_of : (there : Here) (es : List Expr) (s : Stmt) → Covers list (calls_in_each there es ++ at_each there (calls_in_statement s ∷ [])) → Covers list (calls_in_statement s there)
  unfolding at_each
  one_of there es s all = first list (calls_in_statement s there) [] (second list (calls_in_each there es) (calls_in_statement s there ++ []) all)

  first_of : (there : Here) (es : List Expr) (s t : Stmt) → Covers list (calls_in_each there es ++ at_each there (calls_in_statement s ∷ calls_in_statement t ∷ [])) → Covers list (calls_in_statement s there)
  unfolding at_each
  first_of there es s t all = first list (calls_in_statement s there) (calls_in_statement t there ++ []) (second list (calls_in_each there es) (calls_in_statement s there ++ (calls_in_statement t there ++ [])) all)

  second_of : (there : Here) (es : List Expr) (s t : Stmt) → Covers list (calls_in_each there es ++ at_each there (calls_in_statement s ∷ calls_in_statement t ∷ [])) → Covers list (calls_in_statement t there)
  unfolding at_each
  second_of there es s t all =
      first list (calls_in_statement t there) []
      (second list (calls_in_statement s there) (calls_in_statement t there ++ []) (second list (calls_in_each there es) (calls_in_statement s there ++ (calls_in_statement t there ++ [])) all))

  under_any : (here there : Here) → IsAlike here there → (s : Inner) (shape : Option ℕ) → Covers list (within there shape (calls_in_statement s.0)) → InStatement (IsAmong list) here s.0
  under_any here there is s None all = s.1 here there is (covers_same list (within there None (calls_in_statement s.0)) (calls_in_statement s.0 there) (untyped_same (calls_in_statement s.0 there)) all)
  under_any here there is s (Some shape) all = s.1 here (under there shape) is all

  -- the three parts of a `for`
  parts_among : (here there : Here) (a b c : Option Expr) → IsAlike here there → Covers list (calls_in_each there (optional a ++ optional b ++ optional c)) → IfSome a (IsAmong list (as_whole here)) × IfSome b (IsAmong list here) × IfSome c (IsAmong list (as_whole here))
  parts_among here there a b c is all =
      let first_two = calls_in_each there (optional a ++ optional b) in
      let last = calls_in_each there (optional c) in
      let each : Covers list (first_two ++ last) = subst (Covers list) (concat_both (calls_in there) (optional a ++ optional b) (optional c)) all in
      let two : Covers list (calls_in_each there (optional a) ++ calls_in_each there (optional b)) = subst (Covers list) (concat_both (calls_in there) (optional a) (optional b)) (first list first_two last each) in (
        some_among (as_whole here) there a is (first list (calls_in_each there (optional a)) (calls_in_each there (optional b)) two),
        some_among here there b is (second list (calls_in_each there (optional a)) (calls_in_each there (optional b)) two),
        some_among (as_whole here) there c is (second list first_two last each),
      )

  one_statement : (y : Stmt-F Inner InnerBlock) (here there : Here) → IsAlike here there → Covers list (calls_of_node there (opened_statement y)) → InStatement (IsAmong list) here (S.roll-Stmt (opened_statement y))
  unfolding InStatement InElse
  one_statement (Stmt-F.Block block) here there is all =
      subst (InStatement (IsAmong list) here) (sym (rolled.rolls-Block block.0)) (in_statement (IsAmong list) here block.0 (block.1 (block_place here) (block_place there) (alike_inside here there is) all))
  one_statement (Stmt-F.Expression p e) here there is all =
      subst (InStatement (IsAmong list) here) (sym (rolled.rolls-Expression p e)) (one_among (as_whole here) there e is (test_of there e (at_each there []) all))
  one_statement (Stmt-F.Empty p) here there is all = subst (InStatement (IsAmong list) here) (sym (rolled.rolls-Empty p)) tt
  one_statement (Stmt-F.If p test second None) here there is all =
      subst (InStatement (IsAmong list) here) (sym (rolled.rolls-If p test (plain_box second) None)) (
        one_among here there test is (test_of there test (at_each there (calls_in_statement second.value.0 ∷ [])) all),
        second.value.1 here there is (one_of there (test ∷ []) second.value.0 all),
        tt,
      )
  one_statement (Stmt-F.If p test second (Some third)) here there is all =
      subst (InStatement (IsAmong list) here) (sym (rolled.rolls-If p test (plain_box second) (Some (plain_box third)))) (
        one_among here there test is (test_of there test (at_each there (calls_in_statement second.value.0 ∷ calls_in_statement third.value.0 ∷ [])) all),
        second.value.1 here there is (first_of there (test ∷ []) second.value.0 third.value.0 all),
        third.value.1 (behind here second.value.0) there is (second_of there (test ∷ []) second.value.0 third.value.0 all),
      )
  one_statement (Stmt-F.While p test body) here there is all =
      subst (InStatement (IsAmong list) here) (sym (rolled.rolls-While p test (plain_box body))) (
        one_among here there test is (test_of there test (at_each there (calls_in_statement body.value.0 ∷ [])) all),
        body.value.1 (in_loop here) there is (one_of there (test ∷ []) body.value.0 all),
      )
  one_statement (Stmt-F.Do p body test) here there is all =
      subst (InStatement (IsAmong list) here) (sym (rolled.rolls-Do p (plain_box body) test)) (
        body.value.1 (in_loop here) there is (first list (calls_in_statement body.value.0 there) (calls_in there test) all),
        among here there test is (second list (calls_in_statement body.value.0 there) (calls_in there test) all),
      )
  one_statement (Stmt-F.For p a b c body) here there is all =
      let es = optional a ++ optional b ++ optional c in
      let parts = parts_among here there a b c is (first list (calls_in_each there es) (at_each there (calls_in_statement body.value.0 ∷ [])) all) in
      subst (InStatement (IsAmong list) here) (sym (rolled.rolls-For p a b c (plain_box body)))
      (parts.0, parts.1, parts.2, body.value.1 (in_loop here) there is (one_of there es body.value.0 all))
  one_statement (Stmt-F.Break p) here there is all = subst (InStatement (IsAmong list) here) (sym (rolled.rolls-Break p)) tt
  one_statement (Stmt-F.Continue p) here there is all = subst (InStatement (IsAmong list) here) (sym (rolled.rolls-Continue p)) tt
  one_statement (Stmt-F.Return p value) here there is all =
      subst (InStatement (IsAmong list) here) (sym (rolled.rolls-Return p value)) (some_among here there value is (first list (calls_in_each there (optional value)) (at_each there []) all))
  one_statement (Stmt-F.With p written body) here there is all =
      subst (InStatement (IsAmong list) here) (sym (rolled.rolls-With p written (plain_box body))) (λ shape found. under_any (under here shape) there is body.value (shape_of there written) all)
  one_statement (Stmt-F.Everywhere p body) here there is all =
      subst (InStatement (IsAmong list) here) (sym (rolled.rolls-Everywhere p (plain_box body))) (body.value.1 here there is (one_of there [] body.value.0 all))
  one_statement (Stmt-F.Where p test second None) here there is all =
      subst (InStatement (IsAmong list) here) (sym (rolled.rolls-Where p test (plain_box second) None)) (
        one_among here there test is (test_of there test (at_each there (calls_in_statement second.value.0 ∷ [])) all),
        second.value.1 here there is (one_of there (test ∷ []) second.value.0 all),
        tt,
      )
  one_statement (Stmt-F.Where p test second (Some third)) here there is all =
      subst (InStatement (IsAmong list) here) (sym (rolled.rolls-Where p test (plain_box second) (Some (plain_box third)))) (
        one_among here there test is (test_of there test (at_each there (calls_in_statement second.value.0 ∷ calls_in_statement third.value.0 ∷ [])) all),
        second.value.1 here there is (first_of there (test ∷ []) second.value.0 third.value.0 all),
        third.value.1 (behind here second.value.0) there is (second_of there (test ∷ []) second.value.0 third.value.0 all),
      )

  inner_among : (here there : Here) → IsAlike here there → (ss : List Inner) → Covers list (at_each there (map calls_in_statement (map (λ (s : Inner). s.0) ss))) → InStatements (IsAmong list) here (map (λ (s : Inner). s.0) ss)
  unfolding at_each InStatements
  inner_among here there is [] all = tt
  inner_among here there is (s ∷ ss) all =
      let rest = at_each there (map calls_in_statement (map (λ (s : Inner). s.0) ss)) in
      (s.1 here there is (first list (calls_in_statement s.0 there) rest all), inner_among (behind here s.0) there is ss (second list (calls_in_statement s.0 there) rest all))

  one_block : (y : Block-F Inner InnerBlock) (here there : Here) → IsAlike here there → Covers list (calls_of_block_node there (opened_block y)) → InBlock (IsAmong list) here (B.roll-Block (opened_block y))
  one_block y here there is all =
      let ds = y.declarations.items in
      let own = calls_in_declarations there ds in
      let rest = at_each (behind_declarations there ds) (map calls_in_statement (map (λ (s : Inner). s.0) y.statements.items)) in (
        declarations_among here there ds is (first list own rest all),
        inner_among (behind_declarations here ds) (behind_declarations there ds) (alike_behind_each here there ds is) y.statements.items (second list own rest all),
      )

  block_folded : (block : Block) → BlockAmong block
  block_folded = ind-Block StatementAmong BlockAmong
      (λ x y is here there alike all.
      subst (λ (z : Stmt-F Stmt Block). Covers list (calls_of_node there z) → InStatement (IsAmong list) here (S.roll-Stmt z)) is (one_statement y here there alike)
      (subst (Covers list) (ap (λ (f : Here → List Call). f there) (fold-roll-Stmt (Here → List Call) (Here → List Call) statement_step block_step x)) all))
      (λ x y is here there alike all.
      subst (λ (z : Block-F Stmt Block). Covers list (calls_of_block_node there z) → InBlock (IsAmong list) here (B.roll-Block z)) is (one_block y here there alike)
      (subst (Covers list) (ap (λ (f : Here → List Call). f there) (fold-roll-Block (Here → List Call) (Here → List Call) statement_step block_step x)) all))

  pub block_among : (here there : Here) (block : Block) → IsAlike here there → Covers list (calls_in_block block there) → InBlock (IsAmong list) here block
  block_among here there block is all =
      block_folded block here there is
      (subst (Covers list) (sym (ap (λ (f : Here → List Call). f there) (fold_out-Block (Here → List Call) (Here → List Call) statement_step block_step block))) all)
