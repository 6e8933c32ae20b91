-- What a part of the grammar spells ends behind its beginning, or there if it may be empty.
use Rattle.std.proofs.Common.{ℕ, ◌<◌, ◌≤◌, Bool, List, Option, Some, None, arith}
use Rattle.cstar_base.specs.declared.operators.Place.{Place}
use Rattle.cstar_base.specs.declared.operators.Combiner.{Combiner}
use Rattle.cstar_base.specs.declared.operators.Direction.{Direction}
use Rattle.cstar_base.specs.declared.operators.Inclusion.{Inclusion}
use Rattle.cstar_base.specs.declared.operators.SegmentMode.{SegmentMode}
use Rattle.cstar_tree.specs.declared.token.Kind.{Kind}
use Rattle.cstar_tree.specs.declared.token.Mark.{Mark}
use Rattle.cstar_tree.specs.declared.token.Token.{Token}
use Rattle.cstar_tree.specs.declared.syntax.Block.{Block}
use Rattle.cstar_tree.specs.declared.syntax.Cast.{Cast}
use Rattle.cstar_tree.specs.declared.syntax.Declaration.{Declaration}
use Rattle.cstar_tree.specs.declared.syntax.Declarator.{Declarator}
use Rattle.cstar_tree.specs.declared.syntax.Expr.{Expr}
use Rattle.cstar_tree.specs.declared.syntax.Function.{Function}
use Rattle.cstar_tree.specs.declared.syntax.Initializer.{Initializer}
use Rattle.cstar_tree.specs.declared.syntax.Item.{Item}
use Rattle.cstar_tree.specs.declared.syntax.Name.{Name}
use Rattle.cstar_tree.specs.declared.syntax.Parameter.{Parameter}
use Rattle.cstar_tree.specs.declared.syntax.ResultType.{ResultType}
use Rattle.cstar_tree.specs.declared.syntax.ShapeDefinition.{ShapeDefinition}
use Rattle.cstar_tree.specs.declared.syntax.ShapeRef.{ShapeRef}
use Rattle.cstar_tree.specs.declared.syntax.Stmt.{Stmt}
use Rattle.cstar_tree.specs.declared.syntax.TypeName.{TypeName}
use Rattle.cstar_tree.specs.Positions.{Stands}
use Rattle.cstar_tree.specs.Declarations.{IsLength, IsInitial, IsDeclarator, AreDeclarators, IsDeclaration, AreDeclarations}
use Rattle.cstar_tree.specs.Declarations as D
use Rattle.cstar_tree.specs.Expressions.{IsExpr, GoesOn, IsRest, AreArguments, IsIndex, AreIndexes, AreCasts}
use Rattle.cstar_tree.specs.Expressions as X
use Rattle.cstar_tree.specs.Items.{IsShapeDefinition, AreShapeDefinitions, IsParameter, AreNamed, AreParameters, IsResult, IsFunction, IsItem}
use Rattle.cstar_tree.specs.Items as Z
use Rattle.cstar_tree.specs.Options.{IsText, IsBracketedShape, IsListed, IsSomeListed, IsBit, AreScanOptions, AreEnumerateOptions}
use Rattle.cstar_tree.specs.Options as O
use Rattle.cstar_tree.specs.Statements.{IsPart, IsTest, IsStmt, AreStmts, IsBlock}
use Rattle.cstar_tree.specs.Statements as Y
use Rattle.cstar_tree.specs.Types.{IsOptionalInt, IsWidth, AreWords, IsShape, IsType}
use Rattle.cstar_tree.specs.Types as T

pub token_ends : {tokens : List Token} {from to : ℕ} {kind : Kind} {p : Place} → Stands tokens from kind p to → from < to
token_ends s = let next_is = s.next_is in omega arith

pub optional_int_ends : {tokens : List Token} {from to : ℕ} → IsOptionalInt tokens from to → from ≤ to
optional_int_ends T.absent = omega arith
optional_int_ends (T.present a) = let fa = token_ends a in omega arith

pub width_ends : {tokens : List Token} {from bits to : ℕ} → IsWidth tokens from bits to → from < to
width_ends (T.char a) = let fa = token_ends a in omega arith
width_ends (T.short a b) = let fa = token_ends a in let fb = optional_int_ends b in omega arith
width_ends (T.int a) = let fa = token_ends a in omega arith
width_ends (T.long a b) = let fa = token_ends a in let fb = optional_int_ends b in omega arith

pub words_ends : {tokens : List Token} {from bits to : ℕ} {signed : Bool} → AreWords tokens from bits signed to → from < to
words_ends (T.bool a) = let fa = token_ends a in omega arith
words_ends (T.plain a) = let fa = width_ends a in omega arith
words_ends (T.signed a b) = let fa = token_ends a in let fb = width_ends b in omega arith
words_ends (T.unsigned a b) = let fa = token_ends a in let fb = width_ends b in omega arith
words_ends (T.signed_alone a) = let fa = token_ends a in omega arith
words_ends (T.unsigned_alone a) = let fa = token_ends a in omega arith

pub shape_ends : {tokens : List Token} {from to : ℕ} {shape : ShapeRef} → IsShape tokens from shape to → from < to
shape_ends (T.named a) = let fa = token_ends a in omega arith
shape_ends (T.current a) = let fa = token_ends a in omega arith

pub type_ends : {tokens : List Token} {from to : ℕ} {t : TypeName} → IsType tokens from t to → from < to
type_ends (T.scalar a b) = let fb = words_ends b in omega arith
type_ends (T.parallel a b c d) = let fb = words_ends b in let fc = token_ends c in let fd = shape_ends d in omega arith

pub text_ends : {tokens : List Token} {from to : ℕ} {text : List ℕ} → IsText tokens from text to → from < to
text_ends (O.text_is a) = let fa = token_ends a in omega arith

pub bracketed_ends : {tokens : List Token} {from to : ℕ} {shape : ShapeRef} → IsBracketedShape tokens from shape to → from < to
bracketed_ends (O.bracketed a b c) = let fa = token_ends a in let fb = shape_ends b in let fc = token_ends c in omega arith

pub listed_ends : {tokens : List Token} {from to : ℕ} {mark : Mark} → IsListed tokens from mark to → from < to
listed_ends (O.behind_comma a b) = let fa = token_ends a in let fb = token_ends b in omega arith

pub some_listed_ends : (tokens : List Token) (from to : ℕ) (mark : Option Mark) → IsSomeListed tokens from mark to → from < to
some_listed_ends tokens from to None h = absurd h
some_listed_ends tokens from to (Some mark) h = listed_ends h

pub bit_ends : {tokens : List Token} {from to : ℕ} {bit : Option Name} → IsBit tokens from bit to → from < to
bit_ends (O.no_bit a b) = let fa = token_ends a in let fb = token_ends b in omega arith
bit_ends (O.bit a b c) = let fa = token_ends a in let fb = token_ends b in let fc = token_ends c in omega arith

pub scan_options_ends : {tokens : List Token} {from to : ℕ} {combiner : Combiner} {direction : Direction} {mode : SegmentMode} {bit : Option Name} {inclusion : Inclusion} → AreScanOptions tokens from combiner direction mode bit inclusion to → from < to
scan_options_ends (O.scan_options a b c d e f) = let fa = some_listed_ends _ _ _ _ a in let fb = listed_ends b in let fc = listed_ends c in let fd = bit_ends d in let fe = listed_ends e in let ff = token_ends f in omega arith

pub enumerate_options_ends : {tokens : List Token} {from to : ℕ} {direction : Direction} {inclusion : Inclusion} {mode : SegmentMode} {bit : Option Name} → AreEnumerateOptions tokens from direction inclusion mode bit to → from < to
enumerate_options_ends (O.enumerate_options a b c d e) = let fa = listed_ends a in let fb = listed_ends b in let fc = listed_ends c in let fd = bit_ends d in let fe = token_ends e in omega arith

pub casts_ends : {tokens : List Token} {from to : ℕ} {list : List Cast} → AreCasts tokens from list to → from ≤ to
casts_ends X.no_cast = omega arith
casts_ends (X.one_more cast a b c d) = let fa = casts_ends a in let fb = token_ends b in let fc = words_ends c in let fd = token_ends d in omega arith

mutual
  pub expression_ends : {tokens : List Token} {from to : ℕ} {e : Expr} → IsExpr tokens from e to → from < to
  expression_ends (X.assign target value a b c d) = let fa = expression_ends a in let fc = token_ends c in let fd = expression_ends d in omega arith
  expression_ends (X.choice test second third a b c d e f g) = let fa = expression_ends a in let fc = token_ends c in let fd = expression_ends d in let fe = token_ends e in let ff = expression_ends f in omega arith
  expression_ends (X.binary left right a b c d e) = let fa = expression_ends a in let fc = token_ends c in let fd = expression_ends d in omega arith
  expression_ends (X.prefix operand a b c) = let fa = token_ends a in let fb = expression_ends b in omega arith
  expression_ends (X.casts chain operand a b c d e) = let fb = casts_ends b in let fc = expression_ends c in omega arith
  expression_ends (X.parallel_cast operand a b c d e f) = let fa = token_ends a in let fb = type_ends b in let fd = token_ends d in let fe = expression_ends e in omega arith
  expression_ends (X.postfix operand a b c) = let fa = expression_ends a in let fc = token_ends c in omega arith
  expression_ends (X.name a) = let fa = token_ends a in omega arith
  expression_ends (X.element inner a b) = let fa = token_ends a in let fb = index_ends b in omega arith
  expression_ends (X.number a) = let fa = token_ends a in omega arith
  expression_ends (X.dot a) = let fa = token_ends a in omega arith
  expression_ends (X.brackets inner a b c) = let fa = token_ends a in let fb = expression_ends b in let fc = token_ends c in omega arith
  expression_ends (X.call list a b) = let fa = token_ends a in let fb = arguments_ends b in omega arith
  expression_ends (X.left_index list a b) = let fa = indexes_ends a in let fb = token_ends b in omega arith
  expression_ends (X.pcoord axis a b c d) = let fa = token_ends a in let fb = token_ends b in let fc = expression_ends c in let fd = token_ends d in omega arith
  expression_ends (X.positions_of a b) = let fa = token_ends a in let fb = bracketed_ends b in omega arith
  expression_ends (X.rank_of a b) = let fa = token_ends a in let fb = bracketed_ends b in omega arith
  expression_ends (X.dim_of axis a b c d e f) = let fa = token_ends a in let fb = token_ends b in let fc = shape_ends c in let fd = token_ends d in let fe = expression_ends e in let ff = token_ends f in omega arith
  expression_ends (X.scan source axis a b c d e f) = let fa = token_ends a in let fb = token_ends b in let fc = expression_ends c in let fd = token_ends d in let fe = expression_ends e in let ff = scan_options_ends f in omega arith
  expression_ends (X.enumerate axis a b c d) = let fa = token_ends a in let fb = token_ends b in let fc = expression_ends c in let fd = enumerate_options_ends d in omega arith
  expression_ends (X.printf list a b c d) = let fa = token_ends a in let fb = token_ends b in let fc = text_ends c in let fd = rest_ends d in omega arith
  expression_ends (X.getchar a b c) = let fa = token_ends a in let fb = token_ends b in let fc = token_ends c in omega arith

  pub goes_on_ends : {tokens : List Token} {from to : ℕ} {before list : List Expr} → GoesOn tokens from before list to → from ≤ to
  goes_on_ends X.no_more = omega arith
  goes_on_ends (X.more a b c) = let fa = goes_on_ends a in let fb = token_ends b in let fc = expression_ends c in omega arith

  pub rest_ends : {tokens : List Token} {from to : ℕ} {before list : List Expr} → IsRest tokens from before list to → from < to
  rest_ends (X.rest a b) = let fa = goes_on_ends a in let fb = token_ends b in omega arith

  pub arguments_ends : {tokens : List Token} {from to : ℕ} {list : List Expr} → AreArguments tokens from list to → from < to
  arguments_ends (X.no_arguments a b) = let fa = token_ends a in let fb = token_ends b in omega arith
  arguments_ends (X.some_arguments a b c) = let fa = token_ends a in let fb = expression_ends b in let fc = rest_ends c in omega arith

  pub index_ends : {tokens : List Token} {from to : ℕ} {p : Place} {e : Expr} → IsIndex tokens from p e to → from < to
  index_ends (X.index_is a b c) = let fa = token_ends a in let fb = expression_ends b in let fc = token_ends c in omega arith

  pub indexes_ends : {tokens : List Token} {from to : ℕ} {p : Place} {list : List Expr} → AreIndexes tokens from p list to → from < to
  indexes_ends (X.first_index a) = let fa = index_ends a in omega arith
  indexes_ends (X.next_index a b) = let fa = indexes_ends a in let fb = index_ends b in omega arith

pub length_of_ends : {tokens : List Token} {from to : ℕ} {length : Option Expr} → IsLength tokens from length to → from ≤ to
length_of_ends D.no_length = omega arith
length_of_ends (D.length_is a b c) = let fa = token_ends a in let fb = expression_ends b in let fc = token_ends c in omega arith

pub initial_ends : {tokens : List Token} {from to : ℕ} {initial : Option Initializer} → IsInitial tokens from initial to → from ≤ to
initial_ends D.no_initial = omega arith
initial_ends (D.initial_is a b) = let fa = token_ends a in let fb = expression_ends b in omega arith

pub declarator_ends : {tokens : List Token} {from to : ℕ} {d : Declarator} → IsDeclarator tokens from d to → from < to
declarator_ends (D.declarator a b c) = let fa = token_ends a in let fb = length_of_ends b in let fc = initial_ends c in omega arith

pub declarators_ends : {tokens : List Token} {from to : ℕ} {list : List Declarator} → AreDeclarators tokens from list to → from < to
declarators_ends (D.first_name a) = let fa = declarator_ends a in omega arith
declarators_ends (D.next_name a b c) = let fa = declarators_ends a in let fb = token_ends b in let fc = declarator_ends c in omega arith

pub declaration_ends : {tokens : List Token} {from to : ℕ} {d : Declaration} → IsDeclaration tokens from d to → from < to
declaration_ends (D.declaration a b c) = let fa = type_ends a in let fb = declarators_ends b in let fc = token_ends c in omega arith

pub declarations_ends : {tokens : List Token} {from to : ℕ} {list : List Declaration} → AreDeclarations tokens from list to → from ≤ to
declarations_ends D.no_declaration = omega arith
declarations_ends (D.one_more a b) = let fa = declarations_ends a in let fb = declaration_ends b in omega arith

pub part_ends : {tokens : List Token} {from to : ℕ} {mark : Mark} {e : Option Expr} → IsPart tokens from e mark to → from < to
part_ends (Y.no_part a) = let fa = token_ends a in omega arith
part_ends (Y.part a b) = let fa = expression_ends a in let fb = token_ends b in omega arith

pub test_ends : {tokens : List Token} {from to : ℕ} {e : Expr} → IsTest tokens from e to → from < to
test_ends (Y.test a b c) = let fa = token_ends a in let fb = expression_ends b in let fc = token_ends c in omega arith

mutual
  pub statement_ends : {tokens : List Token} {from to : ℕ} {s : Stmt} → IsStmt tokens from s to → from < to
  statement_ends (Y.block_is a) = let fa = block_ends a in omega arith
  statement_ends (Y.expression a b) = let fb = part_ends b in omega arith
  statement_ends (Y.empty a) = let fa = token_ends a in omega arith
  statement_ends (Y.if_alone second a b c d) = let fa = token_ends a in let fb = test_ends b in let fc = statement_ends c in omega arith
  statement_ends (Y.if_else second third a b c d e) = let fa = token_ends a in let fb = test_ends b in let fc = statement_ends c in let fd = token_ends d in let fe = statement_ends e in omega arith
  statement_ends (Y.where_alone second a b c d) = let fa = token_ends a in let fb = test_ends b in let fc = statement_ends c in omega arith
  statement_ends (Y.where_else second third a b c d e) = let fa = token_ends a in let fb = test_ends b in let fc = statement_ends c in let fd = token_ends d in let fe = statement_ends e in omega arith
  statement_ends (Y.while body a b c) = let fa = token_ends a in let fb = test_ends b in let fc = statement_ends c in omega arith
  statement_ends (Y.do_while body a b c d e) = let fa = token_ends a in let fb = statement_ends b in let fc = token_ends c in let fd = test_ends d in let fe = token_ends e in omega arith
  statement_ends (Y.for body a b c d e f) = let fa = token_ends a in let fb = token_ends b in let fc = part_ends c in let fd = part_ends d in let fe = part_ends e in let ff = statement_ends f in omega arith
  statement_ends (Y.break a b) = let fa = token_ends a in let fb = token_ends b in omega arith
  statement_ends (Y.continue a b) = let fa = token_ends a in let fb = token_ends b in omega arith
  statement_ends (Y.return a b) = let fa = token_ends a in let fb = part_ends b in omega arith
  statement_ends (Y.with body a b c) = let fa = token_ends a in let fb = bracketed_ends b in let fc = statement_ends c in omega arith
  statement_ends (Y.everywhere body a b) = let fa = token_ends a in let fb = statement_ends b in omega arith

  pub statements_ends : {tokens : List Token} {from to : ℕ} {list : List Stmt} → AreStmts tokens from list to → from ≤ to
  statements_ends Y.no_stmt = omega arith
  statements_ends (Y.one_more a b) = let fa = statements_ends a in let fb = statement_ends b in omega arith

  pub block_ends : {tokens : List Token} {from to : ℕ} {block : Block} → IsBlock tokens from block to → from < to
  block_ends (Y.block it a b c d) = let fa = token_ends a in let fb = declarations_ends b in let fc = statements_ends c in let fd = token_ends d in omega arith

pub shape_definition_ends : {tokens : List Token} {from to : ℕ} {s : ShapeDefinition} → IsShapeDefinition tokens from s to → from < to
shape_definition_ends (Z.shape_definition a b) = let fa = indexes_ends a in let fb = token_ends b in omega arith

pub shape_definitions_ends : {tokens : List Token} {from to : ℕ} {list : List ShapeDefinition} → AreShapeDefinitions tokens from list to → from < to
shape_definitions_ends (Z.first_shape a) = let fa = shape_definition_ends a in omega arith
shape_definitions_ends (Z.next_shape a b c) = let fa = shape_definitions_ends a in let fb = token_ends b in let fc = shape_definition_ends c in omega arith

pub parameter_ends : {tokens : List Token} {from to : ℕ} {p : Parameter} → IsParameter tokens from p to → from < to
parameter_ends (Z.parameter a b) = let fa = type_ends a in let fb = token_ends b in omega arith

pub named_ends : {tokens : List Token} {from to : ℕ} {list : List Parameter} → AreNamed tokens from list to → from < to
named_ends (Z.first_parameter a) = let fa = parameter_ends a in omega arith
named_ends (Z.next_parameter a b c) = let fa = named_ends a in let fb = token_ends b in let fc = parameter_ends c in omega arith

pub parameters_ends : {tokens : List Token} {from to : ℕ} {list : List Parameter} → AreParameters tokens from list to → from ≤ to
parameters_ends Z.nothing = omega arith
parameters_ends (Z.void a) = let fa = token_ends a in omega arith
parameters_ends (Z.named a) = let fa = named_ends a in omega arith

pub result_ends : {tokens : List Token} {from to : ℕ} {r : ResultType} → IsResult tokens from r to → from ≤ to
result_ends Z.unwritten = omega arith
result_ends (Z.void a) = let fa = token_ends a in omega arith
result_ends (Z.written a) = let fa = type_ends a in omega arith

pub function_ends : {tokens : List Token} {from to : ℕ} {f : Function} → IsFunction tokens from f to → from < to
function_ends (Z.function it a b c d e f g) = let fb = result_ends b in let fc = token_ends c in let fd = token_ends d in let fe = parameters_ends e in let ff = token_ends f in let fg = block_ends g in omega arith

pub item_ends : {tokens : List Token} {from to : ℕ} {item : Item} → IsItem tokens from item to → from < to
item_ends (Z.shapes a b c) = let fa = token_ends a in let fb = shape_definitions_ends b in let fc = token_ends c in omega arith
item_ends (Z.variables a) = let fa = declaration_ends a in omega arith
item_ends (Z.function_is a) = let fa = function_ends a in omega arith
