-- The trees that tokens with words for numbers spell are plain.
use Rattle.std.proofs.Common.{◌≡◌, ◌+◌, ◌<◌, ◌≤◌, ◌^◌, ℕ, IfSome, List, [], ◌∷◌, length, slice_get, Option, None, Some, Vec, arith, refl, subst, sym}
use Rattle.std.specs.declared.alloc.Global.{Global}
use Rattle.std.specs.List.{All}
use Rattle.std.proofs.lemmas.List.{length-append}
use Rattle.std.proofs.lemmas.List.Elements.{All-nil, All-cons, All-head, All-tail, All-push}
use Rattle.std.proofs.lemmas.Option.{slice_get_within}
use mathlib.Core.Former.{Count}
use Rattle.cstar_base.specs.declared.operators.Place.{Place}
use Rattle.cstar_tree.specs.declared.token.Kind.{Kind}
use Rattle.cstar_tree.specs.declared.token.Mark.{Mark}
use Rattle.cstar_tree.specs.declared.token.Token.{Token}
use Rattle.cstar_tree.specs.declared.token.Tokens.{Tokens}
use Rattle.cstar_tree.specs.declared.syntax.Block.{Block}
use Rattle.cstar_tree.specs.declared.syntax.Declaration.{Declaration}
use Rattle.cstar_tree.specs.declared.syntax.Declarator.{Declarator}
use Rattle.cstar_tree.specs.declared.syntax.Expr.{Expr, Row_of-Expr, end_of-Expr, more_of-Expr, items-the_row-Expr, items_hidden-the_row-Expr-0}
use Rattle.cstar_tree.specs.declared.syntax.Expr as E
use Rattle.cstar_tree.specs.declared.syntax.Function.{Function}
use Rattle.cstar_tree.specs.declared.syntax.Initializer.{Initializer}
use Rattle.cstar_tree.specs.declared.syntax.Item.{Item}
use Rattle.cstar_tree.specs.declared.syntax.ShapeDefinition.{ShapeDefinition}
use Rattle.cstar_tree.specs.declared.syntax.Stmt.{Stmt, Row_of-Stmt, end_of-Stmt, more_of-Stmt, items-the_row-Stmt, items_hidden-the_row-Stmt-0}
use Rattle.cstar_tree.specs.declared.syntax.Stmt as S
use Rattle.cstar_tree.specs.declared.syntax.Tree.{Tree}
use Rattle.cstar_tree.specs.declared.typed.ValueType.{ValueType}
use Rattle.cstar_tree.specs.BlockScopes.{behind, behind_declarations, behind_declarator, behind_declarators, block_place, in_loop}
use Rattle.cstar_tree.specs.Declarations.{IsLength, IsInitial, IsDeclarator, AreDeclarators, IsDeclaration, AreDeclarations}
use Rattle.cstar_tree.specs.Declarations as D
use Rattle.cstar_tree.specs.Expressions.{IsExpr, GoesOn, IsRest, AreArguments, IsIndex, AreIndexes}
use Rattle.cstar_tree.specs.Expressions as X
use Rattle.cstar_tree.specs.Items.{IsShapeDefinition, AreShapeDefinitions, IsFunction, IsItem, AreItems, IsTree}
use Rattle.cstar_tree.specs.Items as Z
use Rattle.cstar_tree.specs.Positions.{token_kind}
use Rattle.cstar_tree.specs.Scopes.{Here, under, written_type}
use Rattle.cstar_tree.specs.Statements.{IsPart, IsTest, IsStmt, AreStmts, IsBlock}
use Rattle.cstar_tree.specs.Statements as Y
use Rattle.plain_texts.specs.Laws.{HasWords}
use Rattle.shape_types.specs.Plain.{IsPlainDeclarator, IsPlainItem, IsPlainTree}
use Rattle.tree_places.proofs.Ending.{index_ends}
use Rattle.type_expressions.specs.Walks.{ArePlain, IsPlain}
use Rattle.type_statements.specs.Ready.{InBlock, InDeclarations, InDeclarators, InRow, InStatement, InStatements}

-- ---- lists of expressions as they stand in a node

abbrev text_row : Expr → (n : Count) × Row_of-Expr n
text_row (E.Call' _ _ row) = (_, row)
text_row (E.LeftIndex' _ _ row _) = (_, row)
text_row (E.Printf' _ _ _ row) = (_, row)
text_row _ = (_, end_of-Expr)

row_plain : (n : Count) (row : Row_of-Expr n) → All IsPlain (items-the_row-Expr n row) → ArePlain row
unfolding ArePlain
row_plain n end_of-Expr all = tt
row_plain n (more_of-Expr e rest) all = (All-head IsPlain e _ all, row_plain _ rest (All-tail IsPlain e _ all))

list_plain : (node : Expr) (list : Vec Expr Global) → items-the_row-Expr (text_row node).0 (text_row node).1 ≡ list.items → All IsPlain list.items → ArePlain (text_row node).1
list_plain node list same all = row_plain (text_row node).0 (text_row node).1 (subst (All IsPlain) (sym same) all)

-- ---- what is asked at no place in particular

abbrev Plainly : Here → Expr → Type 0
Plainly here e = IsPlain e

-- a statement and declarations are plain at each place
abbrev IsPlainStatement : Stmt → Type 0
IsPlainStatement s = (here : Here) → InStatement Plainly here s

abbrev IsPlainDeclaration : Declaration → Type 0
IsPlainDeclaration d = All IsPlainDeclarator d.variables.items

in_declarators : (here : Here) (ty : Option ValueType) (ds : List Declarator) → All IsPlainDeclarator ds → InDeclarators Plainly here ty ds
unfolding InDeclarators
in_declarators here ty [] all = tt
in_declarators here ty (d ∷ ds) all = (All-head IsPlainDeclarator d ds all, in_declarators (behind_declarator here ty d) ty ds (All-tail IsPlainDeclarator d ds all))

in_declarations : (here : Here) (ds : List Declaration) → All IsPlainDeclaration ds → InDeclarations Plainly here ds
unfolding InDeclarations
in_declarations here [] all = tt
in_declarations here (d ∷ ds) all =
    (in_declarators here (written_type here d.type_name) d.variables.items (All-head IsPlainDeclaration d ds all), in_declarations (behind_declarators here (written_type here d.type_name) d.variables.items) ds (All-tail IsPlainDeclaration d ds all))

in_statements : (here : Here) (ss : List Stmt) → All IsPlainStatement ss → InStatements Plainly here ss
unfolding InStatements
in_statements here [] all = tt
in_statements here (s ∷ ss) all = (All-head IsPlainStatement s ss all here, in_statements (behind here s) ss (All-tail IsPlainStatement s ss all))

in_row : (here : Here) (n : Count) (row : Row_of-Stmt n) → All IsPlainStatement (items-the_row-Stmt n row) → InRow Plainly here row
unfolding InStatement
in_row here n end_of-Stmt all = tt
in_row here n (more_of-Stmt s rest) all = (All-head IsPlainStatement s _ all here, in_row (behind here s) _ rest (All-tail IsPlainStatement s _ all))

abbrev text_statements : Stmt → (n : Count) × Row_of-Stmt n
text_statements (S.Block' _ _ _ row) = (_, row)
text_statements _ = (_, end_of-Stmt)

-- the declarations and the statements of a block
abbrev IsPlainBlock : Block → Type 0
IsPlainBlock block = All IsPlainDeclaration block.declarations.items × All IsPlainStatement block.statements.items

statement_of_block : (block : Block) → IsPlainBlock block → IsPlainStatement (S.Block block)
unfolding InStatement
statement_of_block block plain = λ here.
    let row = text_statements (S.Block block) in (
      in_declarations (block_place here) block.declarations.items plain.0,
      in_row (behind_declarations (block_place here) block.declarations.items) row.0 row.1 (subst (All IsPlainStatement) (sym (items_hidden-the_row-Stmt-0 block.statements)) plain.1),
    )

in_block : (here : Here) (block : Block) → IsPlainBlock block → InBlock Plainly here block
in_block here block plain = (in_declarations here block.declarations.items plain.0, in_statements (behind_declarations here block.declarations.items) block.statements.items plain.1)

-- ---- what tokens spell

within : (tokens : List Token) (at : ℕ) (kind : Kind) → token_kind tokens at ≡ Some kind → at < length tokens
unfolding token_kind
within tokens at kind s = by (slice_get tokens at) refl where
  by : (found : Option Token) → slice_get tokens at ≡ found → at < length tokens
  by None e = absurd (cc (s, e))
  by (Some t) e = slice_get_within tokens at t e

indexes_count : {tokens : List Token} {from to : ℕ} {p : Place} {list : List Expr} → AreIndexes tokens from p list to → from + length list ≤ to
indexes_count (X.first_index a) = let fa = index_ends a in omega (arith, fa)
indexes_count (X.next_index {list = list} {e = e} a b) = let fa = indexes_count a in let fb = index_ends b in let n = length-append list (e ∷ []) in omega (arith, fa, fb, n)

module _ (tokens : List Token) (words : HasWords tokens) where
  few_indexes : (from mid : ℕ) (list : Vec Expr Global) (row : List Expr) → from + length list.items ≤ mid → mid < length tokens → row ≡ list.items → length row < 2 ^ 32
  few_indexes from mid list row count is same = subst (λ (es : List Expr). length es < 2 ^ 32) (sym same) (let few = words.few in omega (arith, count, is, few))

  mutual
    unfolding IsPlain

    pub expression : {from to : ℕ} {e : Expr} → IsExpr tokens from e to → IsPlain e
    expression (X.assign target value a b c d) = (expression a, expression d)
    expression (X.choice test second third a b c d e f g) = (expression a, expression d, expression f)
    expression (X.binary left right a b c d e) = (expression a, expression d)
    expression (X.prefix operand a b c) = expression b
    expression (X.casts chain operand a b c d e) = expression c
    expression (X.parallel_cast operand a b has d e f) = expression e
    expression (X.postfix operand a b c) = expression a
    expression (X.name a) = tt
    expression (X.element inner a b) = index b
    expression (X.number {value = value} {unsigned = unsigned} a) = words.numbers _ value unsigned a.kind_is
    expression (X.dot a) = tt
    expression (X.brackets inner a b c) = expression b
    expression (X.call {n = n} list a b) = list_plain (E.Call n list) list (items_hidden-the_row-Expr-0 list) (arguments b)
    expression (X.left_index {p = p} {n = n} list a b) = (few_indexes _ _ list _ (indexes_count a) (within tokens _ _ b.kind_is) (items_hidden-the_row-Expr-0 list), list_plain (E.LeftIndex p list n) list (items_hidden-the_row-Expr-0 list) (indexes a))
    expression (X.pcoord axis a b c d) = expression c
    expression (X.positions_of a b) = tt
    expression (X.rank_of a b) = tt
    expression (X.dim_of axis a b c d e f) = expression e
    expression (X.scan source axis a b c d e f) = (expression c, expression e)
    expression (X.enumerate axis a b c d) = expression c
    expression (X.printf {p = p} {text = text} list a b c d) = list_plain (E.Printf p text list) list (items_hidden-the_row-Expr-0 list) (rest d (All-nil IsPlain))
    expression (X.getchar a b c) = tt

    pub goes_on : {from to : ℕ} {before list : List Expr} → GoesOn tokens from before list to → All IsPlain before → All IsPlain list
    goes_on X.no_more = λ w. w
    goes_on (X.more {list = list} {e = e} a b c) = λ w. All-push IsPlain list e (goes_on a w) (expression c)

    pub rest : {from to : ℕ} {before list : List Expr} → IsRest tokens from before list to → All IsPlain before → All IsPlain list
    rest (X.rest a b) = goes_on a

    pub arguments : {from to : ℕ} {list : List Expr} → AreArguments tokens from list to → All IsPlain list
    arguments (X.no_arguments a b) = All-nil IsPlain
    arguments (X.some_arguments {first = first} a b c) = rest c (All-cons IsPlain first [] (expression b) (All-nil IsPlain))

    pub index : {from to : ℕ} {p : Place} {e : Expr} → IsIndex tokens from p e to → IsPlain e
    index (X.index_is a b c) = expression b

    pub indexes : {from to : ℕ} {p : Place} {list : List Expr} → AreIndexes tokens from p list to → All IsPlain list
    indexes (X.first_index {e = e} a) = All-cons IsPlain e [] (index a) (All-nil IsPlain)
    indexes (X.next_index {list = list} {e = e} a b) = All-push IsPlain list e (indexes a) (index b)

  length_of : {from to : ℕ} {length : Option Expr} → IsLength tokens from length to → IfSome length IsPlain
  length_of D.no_length = tt
  length_of (D.length_is a b c) = expression b

  initial : {from to : ℕ} {initial : Option Initializer} → IsInitial tokens from initial to → IfSome initial (λ (i : Initializer). IsPlain i.value)
  initial D.no_initial = tt
  initial (D.initial_is a b) = expression b

  declarator : {from to : ℕ} {d : Declarator} → IsDeclarator tokens from d to → IsPlainDeclarator d
  declarator (D.declarator a b c) = (length_of b, initial c)

  declarators : {from to : ℕ} {list : List Declarator} → AreDeclarators tokens from list to → All IsPlainDeclarator list
  declarators (D.first_name {d = d} a) = All-cons IsPlainDeclarator d [] (declarator a) (All-nil IsPlainDeclarator)
  declarators (D.next_name {list = list} {d = d} a b c) = All-push IsPlainDeclarator list d (declarators a) (declarator c)

  declaration : {from to : ℕ} {d : Declaration} → IsDeclaration tokens from d to → IsPlainDeclaration d
  declaration (D.declaration a b c) = declarators b

  declarations : {from to : ℕ} {list : List Declaration} → AreDeclarations tokens from list to → All IsPlainDeclaration list
  declarations D.no_declaration = All-nil IsPlainDeclaration
  declarations (D.one_more {list = list} {d = d} a b) = All-push IsPlainDeclaration list d (declarations a) (declaration b)

  part : {from to : ℕ} {mark : Mark} {e : Option Expr} → IsPart tokens from e mark to → IfSome e IsPlain
  part (Y.no_part a) = tt
  part (Y.part a b) = expression a

  test : {from to : ℕ} {e : Expr} → IsTest tokens from e to → IsPlain e
  test (Y.test a b c) = expression b

  mutual
    unfolding InStatement

    pub statement : {from to : ℕ} {s : Stmt} → IsStmt tokens from s to → IsPlainStatement s
    statement (Y.block_is {block = it} a) = statement_of_block it (block a)
    statement (Y.expression a b) = λ here. part b
    statement (Y.empty a) = λ here. tt
    statement (Y.if_alone second a b c d) = λ here. (test b, statement c here, tt)
    statement (Y.if_else second third a b c d e) = λ here. (test b, statement c here, statement e (behind here second.value))
    statement (Y.where_alone second a b c d) = λ here. (test b, statement c here, tt)
    statement (Y.where_else second third a b c d e) = λ here. (test b, statement c here, statement e (behind here second.value))
    statement (Y.while body a b c) = λ here. (test b, statement c (in_loop here))
    statement (Y.do_while body a b c d e) = λ here. (statement b (in_loop here), test d)
    statement (Y.for body a b c d e f) = λ here. (part c, part d, part e, statement f (in_loop here))
    statement (Y.break a b) = λ here. tt
    statement (Y.continue a b) = λ here. tt
    statement (Y.return a b) = λ here. part b
    statement (Y.with body a b c) = λ here shape is. statement c (under here shape)
    statement (Y.everywhere body a b) = λ here. statement b here

    pub statements : {from to : ℕ} {list : List Stmt} → AreStmts tokens from list to → All IsPlainStatement list
    statements Y.no_stmt = All-nil IsPlainStatement
    statements (Y.one_more {list = list} {s = s} a b) = All-push IsPlainStatement list s (statements a) (statement b)

    pub block : {from to : ℕ} {block : Block} → IsBlock tokens from block to → IsPlainBlock block
    block (Y.block it a b c d) = (declarations b, statements c)

  shape : {from to : ℕ} {s : ShapeDefinition} → IsShapeDefinition tokens from s to → All IsPlain s.extents.items
  shape (Z.shape_definition a b) = indexes a

  abbrev IsPlainShape : ShapeDefinition → Type 0
  IsPlainShape s = All IsPlain s.extents.items

  shapes : {from to : ℕ} {list : List ShapeDefinition} → AreShapeDefinitions tokens from list to → All IsPlainShape list
  shapes (Z.first_shape {s = s} a) = All-cons IsPlainShape s [] (shape a) (All-nil IsPlainShape)
  shapes (Z.next_shape {list = list} {s = s} a b c) = All-push IsPlainShape list s (shapes a) (shape c)

  function : {from to : ℕ} {f : Function} → IsFunction tokens from f to → IsPlainBlock f.body
  function (Z.function f a b c d e g h) = block h

  item : {from to : ℕ} {i : Item} → IsItem tokens from i to → IsPlainItem i
  item (Z.shapes a b c) = shapes b
  item (Z.variables a) = declaration a
  item (Z.function_is {f = f} a) = λ here. in_block here f.body (function a)

  items : {from to : ℕ} {list : List Item} → AreItems tokens from list to → All IsPlainItem list
  items Z.no_item = All-nil IsPlainItem
  items (Z.one_more {list = list} {item = it} a b) = All-push IsPlainItem list it (items a) (item b)

pub tree_is_plain : (tokens : Tokens) (tree : Tree) → HasWords tokens.list.items → IsTree tokens tree → IsPlainTree tree
tree_is_plain tokens tree words is = items tokens.list.items words is.items
