-- What holds of the places of the tokens in a stretch holds of every place of what they spell:
-- expressions and declarations.
use Rattle.std.proofs.Common.{◌≡◌, ℕ, ◌<◌, ◌≤◌, List, [], ◌∷◌, ◌++◌, Option, Some, Vec, IfSome, arith, subst, sym}
use Rattle.std.specs.declared.alloc.Global.{Global}
use mathlib.Core.Former.{Count}
use Rattle.cstar_base.specs.declared.operators.Place.{Place}
use Rattle.cstar_base.specs.declared.operators.Combiner.{Combiner}
use Rattle.cstar_base.specs.declared.operators.Direction.{Direction}
use Rattle.cstar_base.specs.declared.operators.Inclusion.{Inclusion}
use Rattle.cstar_base.specs.declared.operators.SegmentMode.{SegmentMode}
use Rattle.cstar_tree.specs.declared.token.Kind.{Kind}
use Rattle.cstar_tree.specs.declared.token.Token.{Token}
use Rattle.cstar_tree.specs.declared.syntax.Cast.{Cast}
use Rattle.cstar_tree.specs.declared.syntax.Declaration.{Declaration}
use Rattle.cstar_tree.specs.declared.syntax.Declarator.{Declarator}
use Rattle.cstar_tree.specs.declared.syntax.Expr.{Expr, Row_of-Expr, end_of-Expr, more_of-Expr, items-the_row-Expr, items_hidden-the_row-Expr-0}
use Rattle.cstar_tree.specs.declared.syntax.Expr as E
use Rattle.cstar_tree.specs.declared.syntax.Initializer.{Initializer}
use Rattle.cstar_tree.specs.declared.syntax.Name.{Name}
use Rattle.cstar_tree.specs.declared.syntax.ShapeRef.{ShapeRef}
use Rattle.cstar_tree.specs.declared.syntax.TypeName.{TypeName}
use Rattle.cstar_tree.specs.Positions.{Stands, token_place}
use Rattle.cstar_tree.specs.Declarations.{IsLength, IsInitial, IsDeclarator, AreDeclarators, IsDeclaration, AreDeclarations}
use Rattle.cstar_tree.specs.Declarations as D
use Rattle.cstar_tree.specs.Expressions.{IsExpr, GoesOn, IsRest, AreArguments, IsIndex, AreIndexes, AreCasts}
use Rattle.cstar_tree.specs.Expressions as X
use Rattle.cstar_tree.specs.Options.{IsBracketedShape, IsBit, AreScanOptions, AreEnumerateOptions}
use Rattle.cstar_tree.specs.Options as O
use Rattle.cstar_tree.specs.Types.{IsShape, IsType}
use Rattle.cstar_tree.specs.Types as T
use Rattle.tree_places.specs.Within.{Each, NameWithin, CastWithin, ShapeWithin, TypeWithin, ExpressionWithin, ExpressionsWithin, InitialWithin, DeclaratorWithin, DeclarationWithin}
use Rattle.tree_places.proofs.Ending.{token_ends, words_ends, shape_ends, type_ends, text_ends, bracketed_ends, listed_ends, some_listed_ends, bit_ends, scan_options_ends, enumerate_options_ends, casts_ends, expression_ends, goes_on_ends, rest_ends, arguments_ends, index_ends, indexes_ends, length_of_ends, initial_ends, declarator_ends, declarators_ends, declaration_ends, declarations_ends}

-- this holds of the places of the tokens from one position up to another
abbrev pub HoldsOfTokens : (Place → Type 0) → List Token → ℕ → ℕ → Type 0
HoldsOfTokens P tokens start stop = (i : ℕ) (p : Place) → start ≤ i → i < stop → token_place tokens i ≡ Some p → P p

pub each_more : {A : Type 0} (P : A → Type 0) (xs : List A) (x : A) → Each P xs → P x → Each P (xs ++ x ∷ [])
unfolding Each
each_more P [] x w y = (y, tt)
each_more P (x' ∷ xs) x w y = (w.0, each_more P xs x w.1 y)

-- the row that a list stands in
abbrev row_of : Expr → (n : Count) × Row_of-Expr n
row_of (E.Call' _ _ row) = (_, row)
row_of (E.LeftIndex' _ _ row _) = (_, row)
row_of (E.Printf' _ _ _ row) = (_, row)
row_of _ = (_, end_of-Expr)

row_by : (P : Place → Type 0) (n : Count) (row : Row_of-Expr n) → Each (ExpressionWithin P) (items-the_row-Expr n row) → ExpressionsWithin P row
unfolding Each ExpressionsWithin
row_by P n end_of-Expr w = tt
row_by P n (more_of-Expr e rest) w = (w.0, row_by P _ rest w.1)

row_within : (P : Place → Type 0) (e : Expr) (list : Vec Expr Global) → items-the_row-Expr (row_of e).0 (row_of e).1 ≡ list.items → Each (ExpressionWithin P) list.items → ExpressionsWithin P (row_of e).1
row_within P e list same w = row_by P (row_of e).0 (row_of e).1 (subst (Each (ExpressionWithin P)) (sym same) w)

module _ (P : Place → Type 0) (tokens : List Token) (start stop : ℕ) (holds : HoldsOfTokens P tokens start stop) where
  pub stands : {from to : ℕ} {kind : Kind} {p : Place} → start ≤ from → to ≤ stop → Stands tokens from kind p to → P p
  stands l h s = let fs = token_ends s in holds _ _ l (omega arith) s.place_is

  pub shape : {from to : ℕ} {shape : ShapeRef} → start ≤ from → to ≤ stop → IsShape tokens from shape to → ShapeWithin P shape
  unfolding NameWithin ShapeWithin
  shape l h (T.named a) = stands l h a
  shape l h (T.current a) = stands l h a

  pub type : {from to : ℕ} {t : TypeName} → start ≤ from → to ≤ stop → IsType tokens from t to → TypeWithin P t
  unfolding TypeWithin
  type l h (T.scalar a b) = let fb = words_ends b in (holds _ _ l (omega arith) a, tt)
  type l h (T.parallel a b c d) = let fb = words_ends b in let fc = token_ends c in let fd = shape_ends d in (holds _ _ l (omega arith) a, shape (omega arith) h d)

  pub bracketed : {from to : ℕ} {shape : ShapeRef} → start ≤ from → to ≤ stop → IsBracketedShape tokens from shape to → ShapeWithin P shape
  bracketed l h (O.bracketed a b c) = let fa = token_ends a in let fb = shape_ends b in let fc = token_ends c in shape (omega arith) (omega arith) b

  pub bit : {from to : ℕ} {bit : Option Name} → start ≤ from → to ≤ stop → IsBit tokens from bit to → IfSome bit (NameWithin P)
  unfolding NameWithin
  bit l h (O.no_bit a b) = tt
  bit l h (O.bit a b c) = let fa = token_ends a in let fb = token_ends b in let fc = token_ends c in stands (omega arith) h c

  pub scan_options : {from to : ℕ} {combiner : Combiner} {direction : Direction} {mode : SegmentMode} {bit : Option Name} {inclusion : Inclusion} → start ≤ from → to ≤ stop → AreScanOptions tokens from combiner direction mode bit inclusion to → IfSome bit (NameWithin P)
  scan_options l h (O.scan_options a b c d e f) = let fa = some_listed_ends _ _ _ _ a in let fb = listed_ends b in let fc = listed_ends c in let fd = bit_ends d in let fe = listed_ends e in let ff = token_ends f in bit (omega arith) (omega arith) d

  pub enumerate_options : {from to : ℕ} {direction : Direction} {inclusion : Inclusion} {mode : SegmentMode} {bit : Option Name} → start ≤ from → to ≤ stop → AreEnumerateOptions tokens from direction inclusion mode bit to → IfSome bit (NameWithin P)
  enumerate_options l h (O.enumerate_options a b c d e) = let fa = listed_ends a in let fb = listed_ends b in let fc = listed_ends c in let fd = bit_ends d in let fe = token_ends e in bit (omega arith) (omega arith) d

  pub casts : {from to : ℕ} {list : List Cast} → start ≤ from → to ≤ stop → AreCasts tokens from list to → Each (CastWithin P) list
  unfolding CastWithin Each
  casts l h X.no_cast = tt
  casts l h (X.one_more {casts = list} cast a b c d) = let fa = casts_ends a in let fb = token_ends b in let fc = words_ends c in let fd = token_ends d in each_more (CastWithin P) list cast (casts l (omega arith) a) (stands (omega arith) (omega arith) b)

  mutual
    unfolding NameWithin ExpressionWithin ExpressionsWithin Each

    pub expression : {from to : ℕ} {e : Expr} → start ≤ from → to ≤ stop → IsExpr tokens from e to → ExpressionWithin P e
    expression l h (X.assign target value a b c d) = let fa = expression_ends a in let fc = token_ends c in let fd = expression_ends d in (stands (omega arith) (omega arith) c, expression l (omega arith) a, expression (omega arith) h d)
    expression l h (X.choice test second third a b c d e f g) = let fa = expression_ends a in let fc = token_ends c in let fd = expression_ends d in let fe = token_ends e in let ff = expression_ends f in (stands (omega arith) (omega arith) c, expression l (omega arith) a, expression (omega arith) (omega arith) d, expression (omega arith) h f)
    expression l h (X.binary left right a b c d e) = let fa = expression_ends a in let fc = token_ends c in let fd = expression_ends d in (stands (omega arith) (omega arith) c, expression l (omega arith) a, expression (omega arith) h d)
    expression l h (X.prefix operand a b c) = let fa = token_ends a in let fb = expression_ends b in (stands l (omega arith) a, expression (omega arith) h b)
    expression l h (X.casts chain operand a b c d e) = let fb = casts_ends b in let fc = expression_ends c in (casts l (omega arith) b, expression (omega arith) h c)
    expression l h (X.parallel_cast operand a b c d e f) = let fa = token_ends a in let fb = type_ends b in let fd = token_ends d in let fe = expression_ends e in (stands l (omega arith) a, type (omega arith) (omega arith) b, expression (omega arith) h e)
    expression l h (X.postfix operand a b c) = let fa = expression_ends a in let fc = token_ends c in (stands (omega arith) h c, expression l (omega arith) a)
    expression l h (X.name a) = stands l h a
    expression l h (X.element inner a b) = let fa = token_ends a in let fb = index_ends b in let i = index (omega arith) h b in (stands l (omega arith) a, i.0, i.1)
    expression l h (X.number a) = stands l h a
    expression l h (X.dot a) = stands l h a
    expression l h (X.brackets inner a b c) = let fa = token_ends a in let fb = expression_ends b in let fc = token_ends c in (stands l (omega arith) a, expression (omega arith) (omega arith) b)
    expression l h (X.call {n = n} list a b) = let fa = token_ends a in let fb = arguments_ends b in (stands l (omega arith) a, row_within P (E.Call n list) list (items_hidden-the_row-Expr-0 list) (arguments (omega arith) h b))
    expression l h (X.left_index {p = p} {n = n} list a b) = let fa = indexes_ends a in let fb = token_ends b in let i = indexes l (omega arith) a in (i.0, row_within P (E.LeftIndex p list n) list (items_hidden-the_row-Expr-0 list) i.1, stands (omega arith) h b)
    expression l h (X.pcoord axis a b c d) = let fa = token_ends a in let fb = token_ends b in let fc = expression_ends c in let fd = token_ends d in (stands l (omega arith) a, expression (omega arith) (omega arith) c)
    expression l h (X.positions_of a b) = let fa = token_ends a in let fb = bracketed_ends b in (stands l (omega arith) a, bracketed (omega arith) h b)
    expression l h (X.rank_of a b) = let fa = token_ends a in let fb = bracketed_ends b in (stands l (omega arith) a, bracketed (omega arith) h b)
    expression l h (X.dim_of axis a b c d e f) = let fa = token_ends a in let fb = token_ends b in let fc = shape_ends c in let fd = token_ends d in let fe = expression_ends e in let ff = token_ends f in (stands l (omega arith) a, shape (omega arith) (omega arith) c, expression (omega arith) (omega arith) e)
    expression l h (X.scan source axis a b c d e f) = let fa = token_ends a in let fb = token_ends b in let fc = expression_ends c in let fd = token_ends d in let fe = expression_ends e in let ff = scan_options_ends f in (stands l (omega arith) a, expression (omega arith) (omega arith) c, expression (omega arith) (omega arith) e, scan_options (omega arith) h f)
    expression l h (X.enumerate axis a b c d) = let fa = token_ends a in let fb = token_ends b in let fc = expression_ends c in let fd = enumerate_options_ends d in (stands l (omega arith) a, expression (omega arith) (omega arith) c, enumerate_options (omega arith) h d)
    expression l h (X.printf {p = p} {text = text} list a b c d) = let fa = token_ends a in let fb = token_ends b in let fc = text_ends c in let fd = rest_ends d in (stands l (omega arith) a, row_within P (E.Printf p text list) list (items_hidden-the_row-Expr-0 list) (rest (omega arith) h d tt))
    expression l h (X.getchar a b c) = let fa = token_ends a in let fb = token_ends b in let fc = token_ends c in stands l (omega arith) a

    pub goes_on : {from to : ℕ} {before list : List Expr} → start ≤ from → to ≤ stop → GoesOn tokens from before list to → Each (ExpressionWithin P) before → Each (ExpressionWithin P) list
    goes_on l h X.no_more = λ w. w
    goes_on l h (X.more {list = list} a b c) = let fa = goes_on_ends a in let fb = token_ends b in let fc = expression_ends c in λ w. each_more (ExpressionWithin P) list _ (goes_on l (omega arith) a w) (expression (omega arith) h c)

    pub rest : {from to : ℕ} {before list : List Expr} → start ≤ from → to ≤ stop → IsRest tokens from before list to → Each (ExpressionWithin P) before → Each (ExpressionWithin P) list
    rest l h (X.rest a b) = let fa = goes_on_ends a in let fb = token_ends b in goes_on l (omega arith) a

    pub arguments : {from to : ℕ} {list : List Expr} → start ≤ from → to ≤ stop → AreArguments tokens from list to → Each (ExpressionWithin P) list
    arguments l h (X.no_arguments a b) = tt
    arguments l h (X.some_arguments a b c) = let fa = token_ends a in let fb = expression_ends b in let fc = rest_ends c in rest (omega arith) h c (expression (omega arith) (omega arith) b, tt)

    pub index : {from to : ℕ} {p : Place} {e : Expr} → start ≤ from → to ≤ stop → IsIndex tokens from p e to → P p × ExpressionWithin P e
    index l h (X.index_is a b c) = let fa = token_ends a in let fb = expression_ends b in let fc = token_ends c in (stands l (omega arith) a, expression (omega arith) (omega arith) b)

    pub indexes : {from to : ℕ} {p : Place} {list : List Expr} → start ≤ from → to ≤ stop → AreIndexes tokens from p list to → P p × Each (ExpressionWithin P) list
    indexes l h (X.first_index a) = let i = index l h a in (i.0, (i.1, tt))
    indexes l h (X.next_index {list = list} a b) = let fa = indexes_ends a in let fb = index_ends b in let i = indexes l (omega arith) a in let j = index (omega arith) h b in (i.0, each_more (ExpressionWithin P) list _ i.1 j.1)

  pub length_of : {from to : ℕ} {length : Option Expr} → start ≤ from → to ≤ stop → IsLength tokens from length to → IfSome length (ExpressionWithin P)
  length_of l h D.no_length = tt
  length_of l h (D.length_is a b c) = let fa = token_ends a in let fb = expression_ends b in let fc = token_ends c in expression (omega arith) (omega arith) b

  pub initial : {from to : ℕ} {initial : Option Initializer} → start ≤ from → to ≤ stop → IsInitial tokens from initial to → IfSome initial (InitialWithin P)
  unfolding InitialWithin
  initial l h D.no_initial = tt
  initial l h (D.initial_is a b) = let fa = token_ends a in let fb = expression_ends b in (stands l (omega arith) a, expression (omega arith) h b)

  pub declarator : {from to : ℕ} {d : Declarator} → start ≤ from → to ≤ stop → IsDeclarator tokens from d to → DeclaratorWithin P d
  unfolding NameWithin DeclaratorWithin
  declarator l h (D.declarator a b c) = let fa = token_ends a in let fb = length_of_ends b in let fc = initial_ends c in (stands l (omega arith) a, length_of (omega arith) (omega arith) b, initial (omega arith) h c)

  pub declarators : {from to : ℕ} {list : List Declarator} → start ≤ from → to ≤ stop → AreDeclarators tokens from list to → Each (DeclaratorWithin P) list
  unfolding Each
  declarators l h (D.first_name a) = (declarator l h a, tt)
  declarators l h (D.next_name {list = list} a b c) = let fa = declarators_ends a in let fb = token_ends b in let fc = declarator_ends c in each_more (DeclaratorWithin P) list _ (declarators l (omega arith) a) (declarator (omega arith) h c)

  pub declaration : {from to : ℕ} {d : Declaration} → start ≤ from → to ≤ stop → IsDeclaration tokens from d to → DeclarationWithin P d
  unfolding DeclarationWithin
  declaration l h (D.declaration a b c) = let fa = type_ends a in let fb = declarators_ends b in let fc = token_ends c in (type l (omega arith) a, declarators (omega arith) (omega arith) b)

  pub declarations : {from to : ℕ} {list : List Declaration} → start ≤ from → to ≤ stop → AreDeclarations tokens from list to → Each (DeclarationWithin P) list
  unfolding Each
  declarations l h D.no_declaration = tt
  declarations l h (D.one_more {mid = mid} {to = to} {list = list} a b) = let fa = declarations_ends a in let fb = declaration_ends b in each_more (DeclarationWithin P) list _ (declarations l (omega arith) a) (declaration {from = mid} {to = to} (omega arith) h b)
