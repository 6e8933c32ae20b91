-- Each instance of a file stands under a shape of its program, or under none: calls stand under the shapes
-- that are named around them.
use Rattle.std.proofs.Common.{◌≡◌, ℕ, ◌+◌, zero, suc, Bool, true, false, if◌then◌else◌, IfSome, List, [], ◌∷◌, ◌++◌, map, slice_get, Option, Some, None, refl, ap, sym, subst}
use Rattle.std.specs.List.{All}
use Rattle.std.proofs.lemmas.List.Elements.{All-append, All-nil, All-cons, All-head, All-tail}
use Rattle.cstar_tree.specs.declared.syntax.Block.{Block}
use Rattle.cstar_tree.specs.declared.syntax.Block as B
use Rattle.cstar_tree.specs.declared.syntax.Declaration.{Declaration}
use Rattle.cstar_tree.specs.declared.syntax.Declarator.{Declarator}
use Rattle.cstar_tree.specs.declared.syntax.Expr.{Expr}
use Rattle.cstar_tree.specs.declared.syntax.Expr as E
use Rattle.cstar_tree.specs.declared.syntax.Expr.TheFolds.{fold-roll-Expr, ind-Expr}
use Rattle.cstar_tree.specs.declared.syntax.Expr.TheOpen.{Expr-F}
use Rattle.cstar_tree.specs.declared.syntax.Stmt.{Stmt}
use Rattle.cstar_tree.specs.declared.syntax.Stmt as S
use Rattle.cstar_tree.specs.declared.syntax.Stmt.TheFolds.{fold-roll-Block, fold-roll-Stmt, ind-Stmt}
use Rattle.cstar_tree.specs.declared.syntax.Stmt.TheOpen.{Block-F, Stmt-F}
use Rattle.cstar_tree.specs.declared.syntax.Tree.{Tree}
use Rattle.cstar_tree.specs.declared.typed.Typed.{Typed}
use Rattle.cstar_tree.specs.declared.typed.ValueType.{ValueType}
use Rattle.cstar_tree.specs.declared.typed.Variable.TheVariants as V
use Rattle.cstar_tree.specs.BlockScopes.{behind_declarations, behind_declarator, behind_declarators, block_place, declared_type}
use Rattle.cstar_tree.specs.Calls.{Call, at_each, block_step, call_of, call_step, calls_in, calls_in_block, calls_in_declarations, calls_in_declarators, calls_in_each, calls_in_statement, statement_step, untyped, within}
use Rattle.cstar_tree.specs.FileScopes.{file_functions, file_known}
use Rattle.cstar_tree.specs.Headers.{Placed, Reached, body_place, header_place}
use Rattle.cstar_tree.specs.Instances.{after_rounds, calls_of, calls_of_placed, first_met, instances_from, instances_of, is_met, main_of, next_round, reached_by}
use Rattle.cstar_tree.specs.Scopes.{Here, Meaning, a_function, a_shape, a_variable, find, meaning, shape_of, under, written_type}
use Rattle.cstar_tree.specs.SyntaxParts.{initial_values}
use Rattle.cstar_tree.specs.TypedParts.{concat, optional}
use Rattle.code_lengths.proofs.Declaring.{all_at}
use Rattle.shaped_trees.specs.Places.{IsShapeOf, KnowsShapes}
use Rattle.shaped_trees.proofs.KnownShapes.{behind_all, behind_each, behind_header, behind_name, in_block, shape_known, under_shape}

module _ (t : Typed) where
  -- a call stands under a shape of the program, or under none
  abbrev IsUnder : Call → Type 0
  IsUnder c = c.typed ≡ true → IfSome c.current (IsShapeOf t)

  -- ---- expressions

  abbrev ExpressionUnder : Expr → Type 0
  ExpressionUnder e = (here : Here) → IfSome here.current (IsShapeOf t) → All IsUnder (calls_in here e)

  abbrev Part : Type 0
  Part = (e : Expr) × ExpressionUnder e

  parts_under : (here : Here) → IfSome here.current (IsShapeOf t) → (es : List Part) → All IsUnder (concat (map (calls_in here) (map (λ (p : Part). p.0) es)))
  unfolding concat
  parts_under here is [] = All-nil IsUnder
  parts_under here is (e ∷ es) = All-append IsUnder (calls_in here e.0) (concat (map (calls_in here) (map (λ (p : Part). p.0) es))) (e.1 here is) (parts_under here is es)

  call_under : (here : Here) → IfSome here.current (IsShapeOf t) → (m : Option Meaning) → All IsUnder (call_of here m)
  call_under here is None = All-nil IsUnder
  call_under here is (Some (a_shape number)) = All-nil IsUnder
  call_under here is (Some (a_function f)) = All-cons IsUnder (record { function = f; current = here.current; typed = true }) [] (λ typed. is) (All-nil IsUnder)
  call_under here is (Some (a_variable v ty)) = All-nil IsUnder

  abbrev calls_at : Here → Expr-F Expr → List Call
  calls_at here x = call_step here (E.map-Expr Expr (List Call) (calls_in here) x)

  abbrev opened_expression : Expr-F Part → Expr-F Expr
  opened_expression y = E.map-Expr Part Expr (λ (p : Part). p.0) y

  one_expression : (y : Expr-F Part) (here : Here) → IfSome here.current (IsShapeOf t) → All IsUnder (calls_at here (opened_expression y))
  unfolding meaning concat
  one_expression (Expr-F.Assign p op target value) here is = parts_under here is (target.value ∷ value.value ∷ [])
  one_expression (Expr-F.Choice p test second third) here is = parts_under here is (test.value ∷ second.value ∷ third.value ∷ [])
  one_expression (Expr-F.Binary p op left right) here is = parts_under here is (left.value ∷ right.value ∷ [])
  one_expression (Expr-F.Prefix p op operand) here is = parts_under here is (operand.value ∷ [])
  one_expression (Expr-F.Casts casts operand) here is = parts_under here is (operand.value ∷ [])
  one_expression (Expr-F.ParallelCast p written operand) here is = parts_under here is (operand.value ∷ [])
  one_expression (Expr-F.Postfix p op operand) here is = parts_under here is (operand.value ∷ [])
  one_expression (Expr-F.Element n bracket index) here is = parts_under here is (index.value ∷ [])
  one_expression (Expr-F.Brackets p inner) here is = parts_under here is (inner.value ∷ [])
  one_expression (Expr-F.Call n arguments) here is =
      All-append IsUnder (concat (map (calls_in here) (map (λ (p : Part). p.0) arguments.items))) (call_of here (meaning here n.word)) (parts_under here is arguments.items) (call_under here is (meaning here n.word))
  one_expression (Expr-F.LeftIndex p indexes n) here is = parts_under here is indexes.items
  one_expression (Expr-F.Pcoord p axis) here is = parts_under here is (axis.value ∷ [])
  one_expression (Expr-F.DimOf p shape axis) here is = parts_under here is (axis.value ∷ [])
  one_expression (Expr-F.Scan p source axis combiner direction mode bit reach) here is = parts_under here is (source.value ∷ axis.value ∷ [])
  one_expression (Expr-F.Enumerate p axis direction reach mode bit) here is = parts_under here is (axis.value ∷ [])
  one_expression (Expr-F.Printf p text arguments) here is = parts_under here is arguments.items
  one_expression _ here is = All-nil IsUnder

  expression_under : (e : Expr) → ExpressionUnder e
  expression_under = ind-Expr ExpressionUnder (λ x y is here current.
      subst (All IsUnder) (sym (fold-roll-Expr (List Call) (call_step here) x)) (subst (λ (z : Expr-F Expr). All IsUnder (calls_at here z)) is (one_expression y here current)))

  each_under : (here : Here) → IfSome here.current (IsShapeOf t) → (es : List Expr) → All IsUnder (calls_in_each here es)
  unfolding concat
  each_under here is [] = All-nil IsUnder
  each_under here is (e ∷ es) = All-append IsUnder (calls_in here e) (calls_in_each here es) (expression_under e here is) (each_under here is es)

  -- ---- declarations

  declarators_under : (here : Here) (ty : Option ValueType) (ds : List Declarator) → KnowsShapes t here → All IsUnder (calls_in_declarators here ty ds)
  unfolding calls_in_declarators
  declarators_under here ty [] k = All-nil IsUnder
  declarators_under here ty (d ∷ ds) k =
      let next = behind_declarator here ty d in
      let lengths = calls_in_each here (optional d.length) in
      let values = calls_in_each next (initial_values d.initial) in
      All-append IsUnder (lengths ++ values) (calls_in_declarators next ty ds)
      (All-append IsUnder lengths values (each_under here k.current (optional d.length)) (each_under next k.current (initial_values d.initial)))
      (declarators_under next ty ds (behind_name t here d.name.word (V.Local here.locals) (declared_type here ty d.length) (here.locals + 1) k))

  declarations_under : (here : Here) (ds : List Declaration) → KnowsShapes t here → All IsUnder (calls_in_declarations here ds)
  unfolding calls_in_declarations
  declarations_under here [] k = All-nil IsUnder
  declarations_under here (d ∷ ds) k =
      let ty = written_type here d.type_name in
      let next = behind_declarators here ty d.variables.items in
      All-append IsUnder (calls_in_declarators here ty d.variables.items) (calls_in_declarations next ds) (declarators_under here ty d.variables.items k) (declarations_under next ds (behind_all t here ty d.variables.items k))

  -- ---- statements

  abbrev StatementUnder : Stmt → Type 0
  StatementUnder s = (here : Here) → KnowsShapes t here → All IsUnder (calls_in_statement s here)

  -- the calls of a block as those of a node are
  abbrev folded_block : Block → Here → List Call
  folded_block = B.fold-Block (Here → List Call) (Here → List Call) statement_step block_step

  abbrev BlockUnder : Block → Type 0
  BlockUnder b = (here : Here) → KnowsShapes t here → All IsUnder (folded_block b here)

  abbrev Inner : Type 0
  Inner = (s : Stmt) × StatementUnder s

  abbrev InnerBlock : Type 0
  InnerBlock = (b : Block) × BlockUnder b

  abbrev calls_of_node : Here → Stmt-F Stmt Block → List Call
  calls_of_node here x = statement_step (S.map-Stmt Stmt Block (Here → List Call) (Here → List Call) calls_in_statement folded_block x) here

  abbrev calls_of_block_node : Here → Block-F Stmt Block → List Call
  calls_of_block_node here x = block_step (B.map-Block Stmt Block (Here → List Call) (Here → List Call) calls_in_statement folded_block x) here

  abbrev opened_statement : Stmt-F Inner InnerBlock → Stmt-F Stmt Block
  opened_statement y = S.map-Stmt Inner InnerBlock Stmt Block (λ (s : Inner). s.0) (λ (b : InnerBlock). b.0) y

  abbrev opened_block : Block-F Inner InnerBlock → Block-F Stmt Block
  opened_block y = B.map-Block Inner InnerBlock Stmt Block (λ (s : Inner). s.0) (λ (b : InnerBlock). b.0) y

  inner_under : (here : Here) → KnowsShapes t here → (ss : List Inner) → All IsUnder (at_each here (map calls_in_statement (map (λ (s : Inner). s.0) ss)))
  unfolding at_each
  inner_under here k [] = All-nil IsUnder
  inner_under here k (s ∷ ss) = All-append IsUnder (calls_in_statement s.0 here) (at_each here (map calls_in_statement (map (λ (s : Inner). s.0) ss))) (s.1 here k) (inner_under here k ss)

  node_under : (here : Here) → KnowsShapes t here → (es : List Expr) (ss : List Inner) → All IsUnder (calls_in_each here es ++ at_each here (map calls_in_statement (map (λ (s : Inner). s.0) ss)))
  node_under here k es ss = All-append IsUnder (calls_in_each here es) (at_each here (map calls_in_statement (map (λ (s : Inner). s.0) ss))) (each_under here k.current es) (inner_under here k ss)

  untyped_under : (cs : List Call) → All IsUnder (untyped cs)
  untyped_under [] = All-nil IsUnder
  untyped_under (c ∷ cs) = All-cons IsUnder (record c { typed = false }) (untyped cs) (λ typed. absurd (cc)) (untyped_under cs)

  within_under : (here : Here) → KnowsShapes t here → (s : Inner) (shape : Option ℕ) → IfSome shape (IsShapeOf t) → All IsUnder (within here shape (calls_in_statement s.0))
  within_under here k s None is = untyped_under (calls_in_statement s.0 here)
  within_under here k s (Some shape) is = s.1 (under here shape) (under_shape t here shape is k)

  one_statement : (y : Stmt-F Inner InnerBlock) (here : Here) → KnowsShapes t here → All IsUnder (calls_of_node here (opened_statement y))
  one_statement (Stmt-F.Block block) here k = block.1 (block_place here) (in_block t here k)
  one_statement (Stmt-F.Expression p e) here k = node_under here k (e ∷ []) []
  one_statement (Stmt-F.Empty p) here k = node_under here k [] []
  one_statement (Stmt-F.If p test second None) here k = node_under here k (test ∷ []) (second.value ∷ [])
  one_statement (Stmt-F.If p test second (Some third)) here k = node_under here k (test ∷ []) (second.value ∷ third.value ∷ [])
  one_statement (Stmt-F.While p test body) here k = node_under here k (test ∷ []) (body.value ∷ [])
  one_statement (Stmt-F.Do p body test) here k = All-append IsUnder (calls_in_statement body.value.0 here) (calls_in here test) (body.value.1 here k) (expression_under test here k.current)
  one_statement (Stmt-F.For p first test step body) here k = node_under here k (optional first ++ optional test ++ optional step) (body.value ∷ [])
  one_statement (Stmt-F.Break p) here k = node_under here k [] []
  one_statement (Stmt-F.Continue p) here k = node_under here k [] []
  one_statement (Stmt-F.Return p value) here k = node_under here k (optional value) []
  one_statement (Stmt-F.With p written body) here k = within_under here k body.value (shape_of here written) (shape_known t here written k)
  one_statement (Stmt-F.Everywhere p body) here k = node_under here k [] (body.value ∷ [])
  one_statement (Stmt-F.Where p test second None) here k = node_under here k (test ∷ []) (second.value ∷ [])
  one_statement (Stmt-F.Where p test second (Some third)) here k = node_under here k (test ∷ []) (second.value ∷ third.value ∷ [])

  one_block : (y : Block-F Inner InnerBlock) (here : Here) → KnowsShapes t here → All IsUnder (calls_of_block_node here (opened_block y))
  one_block y here k =
      let ds = y.declarations.items in
      All-append IsUnder (calls_in_declarations here ds) (at_each (behind_declarations here ds) (map calls_in_statement (map (λ (s : Inner). s.0) y.statements.items)))
      (declarations_under here ds k) (inner_under (behind_declarations here ds) (behind_each t here ds k) y.statements.items)

  statement_under : (s : Stmt) → StatementUnder s
  statement_under = ind-Stmt StatementUnder BlockUnder
      (λ x y is here k.
      subst (All IsUnder) (sym (ap (λ (f : Here → List Call). f here) (fold-roll-Stmt (Here → List Call) (Here → List Call) statement_step block_step x)))
      (subst (λ (z : Stmt-F Stmt Block). All IsUnder (calls_of_node here z)) is (one_statement y here k)))
      (λ x y is here k.
      subst (All IsUnder) (sym (ap (λ (f : Here → List Call). f here) (fold-roll-Block (Here → List Call) (Here → List Call) statement_step block_step x)))
      (subst (λ (z : Block-F Stmt Block). All IsUnder (calls_of_block_node here z)) is (one_block y here k)))

  statements_under : (here : Here) → KnowsShapes t here → (ss : List Stmt) → All IsUnder (at_each here (map calls_in_statement ss))
  unfolding at_each
  statements_under here k [] = All-nil IsUnder
  statements_under here k (s ∷ ss) = All-append IsUnder (calls_in_statement s here) (at_each here (map calls_in_statement ss)) (statement_under s here k) (statements_under here k ss)

  block_under : (here : Here) → KnowsShapes t here → (block : Block) → All IsUnder (calls_in_block block here)
  block_under here k block =
      let ds = block.declarations.items in
      All-append IsUnder (calls_in_declarations here ds) (at_each (behind_declarations here ds) (map calls_in_statement block.statements.items))
      (declarations_under here ds k) (statements_under (behind_declarations here ds) (behind_each t here ds k) block.statements.items)

  -- ---- instances

  -- an instance stands under such a shape, or under none
  abbrev pub StandsUnder : Reached → Type 0
  StandsUnder r = IfSome r.current (IsShapeOf t)

  -- the names that a function knows stand for such shapes
  abbrev pub KnowsItsShapes : Placed → Type 0
  KnowsItsShapes placed = (word : List ℕ) (number : ℕ) → find placed.known word ≡ Some (a_shape number) → IsShapeOf t number

  pub body_shapes : (shapes : List (List ℕ)) (placed : Placed) (r : Reached) → KnowsItsShapes placed → StandsUnder r → KnowsShapes t (body_place shapes placed r)
  unfolding meaning
  body_shapes shapes placed r known is = behind_header t (header_place shapes placed r) 0 placed.function.parameters.items (record { named = known; current = is })

  reached_under : (cs : List Call) → All IsUnder cs → All StandsUnder (reached_by cs)
  unfolding reached_by
  reached_under [] all = All-nil StandsUnder
  reached_under (c ∷ cs) all = by_typed c.typed refl (reached_under cs (All-tail IsUnder c cs all))
    where
      by_typed : (b : Bool) → c.typed ≡ b → All StandsUnder (reached_by cs) → All StandsUnder (if b then record { function = c.function; current = c.current } ∷ reached_by cs else reached_by cs)
      by_typed true is rest = All-cons StandsUnder (record { function = c.function; current = c.current }) (reached_by cs) (All-head IsUnder c cs all is) rest
      by_typed false is rest = rest

  met_under : (before list : List Reached) → All StandsUnder list → All StandsUnder (first_met before list)
  unfolding first_met
  met_under before [] all = All-nil StandsUnder
  met_under before (r ∷ rest) all =
      by_met (is_met r before) (met_under before rest (All-tail StandsUnder r rest all)) (met_under (r ∷ before) rest (All-tail StandsUnder r rest all))
    where
      by_met : (b : Bool) → All StandsUnder (first_met before rest) → All StandsUnder (first_met (r ∷ before) rest) → All StandsUnder (if b then first_met before rest else r ∷ first_met (r ∷ before) rest)
      by_met true old new = old
      by_met false old new = All-cons StandsUnder r (first_met (r ∷ before) rest) (All-head StandsUnder r rest all) new

  module _ (shapes : List (List ℕ)) (functions : List Placed) (known : All KnowsItsShapes functions) where
    calls_under : (r : Reached) → StandsUnder r → All IsUnder (calls_of shapes functions r)
    unfolding calls_of
    calls_under r is = by_function (slice_get functions r.function) refl
      where
        by_function : (found : Option Placed) → slice_get functions r.function ≡ found → All IsUnder (calls_of_placed shapes r found)
        by_function None found = All-nil IsUnder
        by_function (Some placed) found = block_under (body_place shapes placed r) (body_shapes shapes placed r (all_at KnowsItsShapes functions r.function placed known found) is) placed.function.body

    all_reached : (list : List Reached) → All StandsUnder list → All StandsUnder (concat (map (λ (r : Reached). reached_by (calls_of shapes functions r)) list))
    unfolding concat
    all_reached [] all = All-nil StandsUnder
    all_reached (r ∷ rest) all =
        All-append StandsUnder (reached_by (calls_of shapes functions r)) (concat (map (λ (r : Reached). reached_by (calls_of shapes functions r)) rest))
        (reached_under (calls_of shapes functions r) (calls_under r (All-head StandsUnder r rest all))) (all_reached rest (All-tail StandsUnder r rest all))

    rounds_under : (rounds : ℕ) (main : Reached) → StandsUnder main → All StandsUnder (after_rounds rounds shapes functions main)
    unfolding after_rounds next_round
    rounds_under zero main is = All-cons StandsUnder main [] is (All-nil StandsUnder)
    rounds_under (suc rounds) main is =
        let list = after_rounds rounds shapes functions main in
        met_under [] (main ∷ concat (map (λ (r : Reached). reached_by (calls_of shapes functions r)) list))
        (All-cons StandsUnder main _ is (all_reached list (rounds_under rounds main is)))

    from_main : (main : Option ℕ) → All StandsUnder (instances_from shapes functions main)
    from_main None = All-nil StandsUnder
    from_main (Some main) = rounds_under _ (record { function = main; current = None }) tt

  pub instances_under : (tree : Tree) → All KnowsItsShapes (file_functions tree) → All StandsUnder (instances_of tree)
  instances_under tree known = from_main (file_known tree).shapes (file_functions tree) known (main_of tree)
