-- What an open part says of the tokens between two positions, where a tail says it of what stands
-- before it.
use Rattle.std.proofs.Common.{◌≡◌, ℕ, ◌+◌, ◌≤◌, ◌<◌, Bool, true, false, List, [], ◌∷◌, ◌++◌, ◌&&◌, ◌^◌, length, Option, Some, arith, refl, subst}
use Rattle.cstar_base.specs.declared.operators.Place.{Place}
use Rattle.cstar_base.specs.declared.operators.Combiner.{Combiner}
use Rattle.cstar_base.specs.declared.operators.Direction.{Direction}
use Rattle.cstar_base.specs.declared.operators.SegmentMode.{SegmentMode}
use Rattle.cstar_base.specs.declared.operators.Inclusion.{Inclusion}
use Rattle.cstar_tree.specs.declared.token.Token.{Token}
use Rattle.cstar_tree.specs.declared.token.Kind.TheVariants as K
use Rattle.cstar_tree.specs.declared.token.Mark.{Mark}
use Rattle.cstar_tree.specs.declared.token.Mark.TheVariants as M
use Rattle.cstar_tree.specs.declared.syntax.Block.{Block}
use Rattle.cstar_tree.specs.declared.syntax.Declaration.{Declaration}
use Rattle.cstar_tree.specs.declared.syntax.Declarator.{Declarator}
use Rattle.cstar_tree.specs.declared.syntax.Expr.{Expr}
use Rattle.cstar_tree.specs.declared.syntax.Expr as E
use Rattle.cstar_tree.specs.declared.syntax.Initializer.{Initializer}
use Rattle.cstar_tree.specs.declared.syntax.Item.{Item}
use Rattle.cstar_tree.specs.declared.syntax.Name.{Name}
use Rattle.cstar_tree.specs.declared.syntax.Parameter.{Parameter}
use Rattle.cstar_tree.specs.declared.syntax.ShapeDefinition.{ShapeDefinition}
use Rattle.cstar_tree.specs.declared.syntax.ShapeRef.{ShapeRef}
use Rattle.cstar_tree.specs.declared.syntax.Stmt.{Stmt}
use Rattle.cstar_tree.specs.declared.syntax.TypeName.{TypeName}
use Rattle.cstar_tree.specs.Positions.{Stands, StandsMark, token_kind}
use Rattle.cstar_tree.specs.Operators.{operator_level}
use Rattle.cstar_tree.specs.Types.{IsOptionalInt, IsWidth, IsShape, IsType}
use Rattle.cstar_tree.specs.Options.{IsBit, IsText, combiner_mark, direction_mark, inclusion_mark, mode_mark}
use Rattle.cstar_tree.specs.Expressions.{AreArguments, AreIndexes, IsExpr, IsRest, strength_of}
use Rattle.cstar_tree.specs.Declarations.{AreDeclarations, AreDeclarators, IsInitial, IsLength}
use Rattle.cstar_tree.specs.Statements.{AreStmts, IsBlock, IsPart, IsStmt, IsTest, NoElse}
use Rattle.cstar_tree.specs.Items.{AreItems, AreNamed, AreParameters, AreShapeDefinitions, IsItem, IsParameter, IsShapeDefinition}
use Rattle.grammar_parts.specs.Parts.{Part, Action, take_it, enter, skip, refuse}
use Rattle.grammar_parts.specs.Parts as P

pub data MaybeWidth (tokens : List Token) : ℕ → ℕ → Type 0 where
  no_width : {at : ℕ} → MaybeWidth tokens at at
  a_width : {from to bits : ℕ} → IsWidth tokens from bits to → MaybeWidth tokens from to

pub data MaybeShape (tokens : List Token) : ℕ → ℕ → Type 0 where
  no_shape : {at : ℕ} → MaybeShape tokens at at
  a_shape : {from mid to : ℕ} {place : Place} {shape : ShapeRef} → StandsMark tokens from M.Colon place mid → IsShape tokens mid shape to → MaybeShape tokens from to

pub data MaybeElse (tokens : List Token) : ℕ → ℕ → Type 0 where
  no_else : {at : ℕ} → NoElse tokens at → MaybeElse tokens at at
  an_else : {from mid to : ℕ} {place : Place} {s : Stmt} → StandsMark tokens from M.Else place mid → IsStmt tokens mid s to → MaybeElse tokens from to

-- an expression that holds together at least so strongly
pub record Spelt (tokens : List Token) (from least to : ℕ) : Type 0 where
  pub expr : Expr
  pub spelled : IsExpr tokens from expr to
  pub strong : least ≤ strength_of expr

-- behind an expression of this strength there is one of that strength
abbrev pub Behind : List Token → ℕ → ℕ → ℕ → ℕ → Type 0
Behind tokens from to least reached = (begin : ℕ) (e : Expr) → IsExpr tokens begin e from → least ≤ strength_of e → Spelt tokens begin reached to

abbrev pub chain_length : Expr → ℕ
chain_length (E.Casts' chain _ _) = length chain.items
chain_length _ = 0

pub record Unary (tokens : List Token) (from to : ℕ) : Type 0 where
  pub found : Spelt tokens from 13 to
  pub short : chain_length found.expr + from ≤ to

abbrev pub Intrinsic : Mark → Bool
Intrinsic M.Pcoord = true
Intrinsic M.PositionsOf = true
Intrinsic M.RankOf = true
Intrinsic M.DimOf = true
Intrinsic M.Scan = true
Intrinsic M.Enumerate = true
Intrinsic M.Printf = true
Intrinsic M.GetChar = true
Intrinsic _ = false

abbrev pub Bracketed : List Token → ℕ → ℕ → Type 0
Bracketed tokens from to = (begin : ℕ) (place : Place) (list : List Expr) → AreIndexes tokens begin place list from → length list ≤ from → (all : List Expr) × (mid : ℕ) × (word : List ℕ) × (p : Place) × AreIndexes tokens begin place all mid × Stands tokens mid (K.Name word) p to × (length all ≤ to)

abbrev pub means : List Token → Part → ℕ → ℕ → Type 0
means tokens (P.mark m) from to = (place : Place) × StandsMark tokens from m place to
means tokens (P.close m) from to = (place : Place) × StandsMark tokens from m place to
means tokens (P.operator m) from to = (place : Place) × StandsMark tokens from m place to
means tokens P.name from to = (word : List ℕ) × (place : Place) × Stands tokens from (K.Name word) place to
means tokens P.text from to = (text : List ℕ) × IsText tokens from text to
means tokens P.type from to = (t : TypeName) × IsType tokens from t to
means tokens P.width_or_none from to = MaybeWidth tokens from to
means tokens P.int_or_none from to = IsOptionalInt tokens from to
means tokens P.shape_or_none from to = MaybeShape tokens from to
means tokens P.shape from to = (s : ShapeRef) × IsShape tokens from s to
means tokens P.expression from to = Spelt tokens from 0 to
means tokens P.behind_unary from to = Behind tokens from to 13 0
means tokens P.choice from to = Spelt tokens from 1 to
means tokens P.choice_or_none from to = Behind tokens from to 2 1
means tokens (P.binary least) from to = 2 ≤ least → least ≤ 13 → (e : Spelt tokens from least to) × (operator_level (token_kind tokens to) < least)
means tokens (P.operators least) from to = 2 ≤ least → (begin : ℕ) (e : Expr) → IsExpr tokens begin e from → least ≤ strength_of e → operator_level (token_kind tokens from) ≤ strength_of e → (f : Spelt tokens begin least to) × (operator_level (token_kind tokens to) < least)
means tokens P.unary from to = Unary tokens from to
means tokens P.steps from to = Behind tokens from to 14 14
means tokens P.behind_name from to = (begin : ℕ) (word : List ℕ) (place : Place) → Stands tokens begin (K.Name word) place from → Spelt tokens begin 14 to
means tokens P.behind_paren from to = (begin : ℕ) (place : Place) → StandsMark tokens begin M.LeftParen place from → from ≤ to → Unary tokens begin to
means tokens P.arguments from to = (begin : ℕ) (place : Place) → StandsMark tokens begin M.LeftParen place from → (list : List Expr) × AreArguments tokens begin list to × (length list ≤ to)
means tokens P.more_arguments from to = (before : List Expr) → length before ≤ from → (list : List Expr) × IsRest tokens from before list to × (length list ≤ to)
means tokens P.indexes from to = Bracketed tokens from to
means tokens (P.operands_of m) from to = Intrinsic m ≡ true → (begin : ℕ) (place : Place) → StandsMark tokens begin m place from → Spelt tokens begin 14 to
means tokens P.combiner from to = (c : Combiner) × (m : Mark) × (combiner_mark c ≡ Some m) × (place : Place) × StandsMark tokens from m place to
means tokens P.direction from to = (d : Direction) × (place : Place) × StandsMark tokens from (direction_mark d) place to
means tokens P.segment_mode from to = (s : SegmentMode) × (place : Place) × StandsMark tokens from (mode_mark s) place to
means tokens P.inclusion from to = (i : Inclusion) × (place : Place) × StandsMark tokens from (inclusion_mark i) place to
means tokens P.bit from to = (begin : ℕ) (place : Place) → StandsMark tokens begin M.Comma place from → (bit : Option Name) × IsBit tokens begin bit to
means tokens P.whole from to = Spelt tokens from 0 to
means tokens (P.part m) from to = (e : Option Expr) × IsPart tokens from e m to
means tokens P.condition from to = (e : Expr) × IsTest tokens from e to
means tokens P.statement from to = (s : Stmt) × IsStmt tokens from s to × (from < to)
means tokens P.else_or_none from to = MaybeElse tokens from to
means tokens P.ended from to = from ≡ to
means tokens P.block from to = (b : Block) × IsBlock tokens from b to
means tokens P.declarations from to = (begin : ℕ) (list : List Declaration) → AreDeclarations tokens begin list from → length list ≤ from → (all : List Declaration) × AreDeclarations tokens begin all to × (length all ≤ to)
means tokens P.statements from to = (begin : ℕ) (list : List Stmt) → AreStmts tokens begin list from → length list ≤ from → (all : List Stmt) × (mid : ℕ) × (place : Place) × AreStmts tokens begin all mid × StandsMark tokens mid M.RightBrace place to × (length all ≤ to)
means tokens P.length_or_none from to = (l : Option Expr) × IsLength tokens from l to
means tokens P.initial_or_none from to = (i : Option Initializer) × IsInitial tokens from i to
means tokens P.more_names from to = (begin : ℕ) (list : List Declarator) → AreDeclarators tokens begin list from → length list ≤ from → (all : List Declarator) × (mid : ℕ) × (place : Place) × AreDeclarators tokens begin all mid × StandsMark tokens mid M.Semicolon place to × (length all ≤ to)
means tokens P.shape_definition from to = (s : ShapeDefinition) × IsShapeDefinition tokens from s to
means tokens P.extents from to = Bracketed tokens from to
means tokens P.more_shapes from to = (begin : ℕ) (list : List ShapeDefinition) → AreShapeDefinitions tokens begin list from → length list ≤ from → (all : List ShapeDefinition) × (mid : ℕ) × (place : Place) × AreShapeDefinitions tokens begin all mid × StandsMark tokens mid M.Semicolon place to × (length all ≤ to)
means tokens P.parameters from to = (list : List Parameter) × AreParameters tokens from list to × (length list ≤ to)
means tokens P.parameter from to = (p : Parameter) × IsParameter tokens from p to
means tokens P.more_parameters from to = (begin : ℕ) (list : List Parameter) → AreNamed tokens begin list from → length list ≤ from → (all : List Parameter) × AreNamed tokens begin all to × (length all ≤ to)
means tokens P.behind_typed_name from to = (begin mid : ℕ) (t : TypeName) (word : List ℕ) (place : Place) → IsType tokens begin t mid → Stands tokens mid (K.Name word) place from → (item : Item) × IsItem tokens begin item to
means tokens P.items from to = (begin : ℕ) (list : List Item) → AreItems tokens begin list from → (all : List Item) × AreItems tokens begin all to

-- parts that stand one behind the other
abbrev pub AllMean : List Token → List Part → ℕ → ℕ → Type 0
AllMean tokens [] from to = from ≡ to
AllMean tokens (p ∷ []) from to = (from ≤ to) × means tokens p from to
AllMean tokens (p ∷ q ∷ parts) from to = (mid : ℕ) × (from ≤ mid) × means tokens p from mid × AllMean tokens (q ∷ parts) mid to

-- the marks that stand in the table where any mark could
abbrev pub is_mild_mark : Mark → Bool
is_mild_mark M.LeftParen = true
is_mild_mark M.RightParen = true
is_mild_mark M.RightBracket = true
is_mild_mark M.Comma = true
is_mild_mark M.Colon = true
is_mild_mark M.Semicolon = true
is_mild_mark M.While = true
is_mild_mark _ = false

abbrev pub is_mild : Part → Bool
is_mild (P.mark m) = is_mild_mark m
is_mild (P.close m) = is_mild_mark m
is_mild (P.operator m) = is_mild_mark m
is_mild (P.part m) = is_mild_mark m
is_mild _ = true

abbrev pub are_mild : List Part → Bool
are_mild [] = true
are_mild (p ∷ parts) = is_mild p && are_mild parts

-- what a part's action at a token says of the part, with at most so many parts behind the token
abbrev pub Gives : List Token → ℕ → ℕ → Part → Action → Type 0
Gives tokens at most p (take_it n parts) = (length parts ≤ most) × (are_mild parts ≡ true) × ((to : ℕ) → to ≤ 2 ^ 40 → AllMean tokens parts (at + 1) to → means tokens p at to)
Gives tokens at most p (enter q parts) = (length parts < most) × (are_mild (q ∷ parts) ≡ true) × ((to : ℕ) → to ≤ 2 ^ 40 → AllMean tokens (q ∷ parts) at to → means tokens p at to)
Gives tokens at most p skip = means tokens p at at
Gives tokens at most p refuse = Unit {0}

-- one part behind the other
pub ahead : (tokens : List Token) (parts : List Part) (from to : ℕ) → AllMean tokens parts from to → from ≤ to
ahead tokens [] from to h = omega (arith, h)
ahead tokens (p ∷ []) from to h = h.0
ahead tokens (p ∷ q ∷ parts) from to h = let more = ahead tokens (q ∷ parts) h.0 to h.3 in let first = h.1 in omega arith

pub joined : (tokens : List Token) (p : Part) (parts : List Part) (from mid to : ℕ) → from ≤ mid → means tokens p from mid → AllMean tokens parts mid to → AllMean tokens (p ∷ parts) from to
joined tokens p [] from mid to below m rest = subst {0, 0} (λ (i : ℕ). (from ≤ i) × means tokens p from i) rest (below, m)
joined tokens p (q ∷ parts) from mid to below m rest = (mid, below, m, rest)

pub split : (tokens : List Token) (parts more : List Part) (from to : ℕ) → AllMean tokens (parts ++ more) from to → (mid : ℕ) × AllMean tokens parts from mid × AllMean tokens more mid to
split tokens [] more from to h = (from, refl, h)
split tokens (p ∷ []) [] from to h = (to, h, refl)
split tokens (p ∷ []) (q ∷ more) from to h = (h.0, (h.1, h.2), h.3)
split tokens (p ∷ q ∷ parts) more from to h = let s = split tokens (q ∷ parts) more h.0 to h.3 in (s.0, (h.0, h.1, h.2, s.1), s.2)
