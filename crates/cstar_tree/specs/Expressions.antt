-- The grammar of expressions: which tokens an expression stands for, each node at its place.
use Rattle.std.specs.Prelude.{◌≡◌, ℕ, ◌≤◌, ◌<◌, Bool, true, false, List, [], ◌∷◌, ◌++◌, Option, Vec, Box, length, IsSome}
use Rattle.std.specs.declared.alloc.Global.{Global}
use Rattle.cstar_base.specs.declared.operators.Place.{Place}
use Rattle.cstar_base.specs.declared.operators.Combiner.{Combiner}
use Rattle.cstar_base.specs.declared.operators.Direction.{Direction}
use Rattle.cstar_base.specs.declared.operators.SegmentMode.{SegmentMode}
use Rattle.cstar_base.specs.declared.operators.Inclusion.{Inclusion}
use Rattle.cstar_tree.specs.declared.token.Token.{Token}
use Rattle.cstar_tree.specs.declared.token.Kind.TheVariants as K
use Rattle.cstar_tree.specs.declared.token.Mark.TheVariants as M
use Rattle.cstar_tree.specs.declared.syntax.Expr.{Expr}
use Rattle.cstar_tree.specs.declared.syntax.Expr as E
use Rattle.cstar_tree.specs.declared.syntax.Cast.{Cast}
use Rattle.cstar_tree.specs.declared.syntax.Name.{Name}
use Rattle.cstar_tree.specs.declared.syntax.ShapeRef.{ShapeRef}
use Rattle.cstar_tree.specs.declared.syntax.TypeName.{TypeName}
use Rattle.cstar_tree.specs.declared.syntax.AssignOp.{AssignOp}
use Rattle.cstar_tree.specs.declared.syntax.BinaryOp.{BinaryOp}
use Rattle.cstar_tree.specs.declared.syntax.PrefixOp.{PrefixOp}
use Rattle.cstar_tree.specs.declared.syntax.StepOp.{StepOp}
use Rattle.cstar_tree.specs.Positions.{Stands, StandsMark}
use Rattle.cstar_tree.specs.Operators.{assign_mark, binary_mark, binary_level, prefix_mark, step_mark}
use Rattle.cstar_tree.specs.Options.{AreScanOptions, AreEnumerateOptions, IsBracketedShape, IsText}
use Rattle.cstar_tree.specs.Types.{IsElement, IsShape, IsType}

-- how strongly an expression holds together: an assignment least, then `?:`, the binary
-- operators by their levels, prefix operators and casts, postfix operators, and all else most
abbrev pub strength_of : Expr → ℕ
strength_of (E.Assign' _ _ _ _ _ _) = 0
strength_of (E.Choice' _ _ _ _ _ _ _) = 1
strength_of (E.Binary' _ op _ _ _ _) = binary_level op
strength_of (E.Prefix' _ _ _ _) = 13
strength_of (E.Casts' _ _ _) = 13
strength_of (E.ParallelCast' _ _ _ _) = 13
strength_of (E.Postfix' _ _ _ _) = 14
strength_of _ = 15

-- casts to scalar types, one behind the other, each at its `(`
pub data AreCasts (tokens : List Token) : ℕ → List Cast → ℕ → Type 0 where
  no_cast : {from : ℕ} → AreCasts tokens from [] from
  one_more : {from mid a b to : ℕ} {casts : List Cast} (cast : Cast) {end : Place} → AreCasts tokens from casts mid → StandsMark tokens mid M.LeftParen cast.place a → IsElement tokens a cast.elem b → StandsMark tokens b M.RightParen end to → AreCasts tokens from (casts ++ cast ∷ []) to

-- a chain of casts to scalar types
abbrev pub is_chain : Expr → Bool
is_chain (E.Casts' _ _ _) = true
is_chain _ = false

mutual
  -- the tokens between two positions are this expression; casts to scalar types are in one chain as
  -- far as they go
  pub data IsExpr (tokens : List Token) : ℕ → Expr → ℕ → Type 0 where
    assign : {from mid next to : ℕ} {p : Place} {op : AssignOp} (target value : Box Expr Global) → IsExpr tokens from target.value mid → 13 ≤ strength_of target.value → StandsMark tokens mid (assign_mark op) p next → IsExpr tokens next value.value to → IsExpr tokens from (E.Assign p op target value) to
    choice : {from a b c d to : ℕ} {p colon : Place} (test then otherwise : Box Expr Global) → IsExpr tokens from test.value a → 2 ≤ strength_of test.value → StandsMark tokens a M.Question p b → IsExpr tokens b then.value c → StandsMark tokens c M.Colon colon d → IsExpr tokens d otherwise.value to → 1 ≤ strength_of otherwise.value → IsExpr tokens from (E.Choice p test then otherwise) to
    binary : {from mid next to : ℕ} {p : Place} {op : BinaryOp} (left right : Box Expr Global) → IsExpr tokens from left.value mid → binary_level op ≤ strength_of left.value → StandsMark tokens mid (binary_mark op) p next → IsExpr tokens next right.value to → binary_level op < strength_of right.value → IsExpr tokens from (E.Binary p op left right) to
    prefix : {from mid to : ℕ} {p : Place} {op : PrefixOp} (operand : Box Expr Global) → StandsMark tokens from (prefix_mark op) p mid → IsExpr tokens mid operand.value to → 13 ≤ strength_of operand.value → IsExpr tokens from (E.Prefix p op operand) to
    casts : {from mid to : ℕ} (chain : Vec Cast Global) (operand : Box Expr Global) → 0 < length chain.items → AreCasts tokens from chain.items mid → IsExpr tokens mid operand.value to → 13 ≤ strength_of operand.value → is_chain operand.value ≡ false → IsExpr tokens from (E.Casts chain operand) to
    parallel_cast : {from a b c to : ℕ} {p end : Place} {type_name : TypeName} (operand : Box Expr Global) → StandsMark tokens from M.LeftParen p a → IsType tokens a type_name b → IsSome type_name.shape → StandsMark tokens b M.RightParen end c → IsExpr tokens c operand.value to → 13 ≤ strength_of operand.value → IsExpr tokens from (E.ParallelCast p type_name operand) to
    postfix : {from mid to : ℕ} {p : Place} {op : StepOp} (operand : Box Expr Global) → IsExpr tokens from operand.value mid → 14 ≤ strength_of operand.value → StandsMark tokens mid (step_mark op) p to → IsExpr tokens from (E.Postfix p op operand) to
    name : {from to : ℕ} {n : Name} → Stands tokens from (K.Name n.word) n.place to → IsExpr tokens from (E.Name n) to
    element : {from mid to : ℕ} {n : Name} {bracket : Place} (index : Box Expr Global) → Stands tokens from (K.Name n.word) n.place mid → IsIndex tokens mid bracket index.value to → IsExpr tokens from (E.Element n bracket index) to
    number : {from to value : ℕ} {unsigned : Bool} {p : Place} → Stands tokens from (K.Num value unsigned) p to → IsExpr tokens from (E.Number p value unsigned) to
    dot : {from to : ℕ} {p : Place} → StandsMark tokens from M.Dot p to → IsExpr tokens from (E.Dot p) to
    brackets : {from a b to : ℕ} {p end : Place} (inner : Box Expr Global) → StandsMark tokens from M.LeftParen p a → IsExpr tokens a inner.value b → StandsMark tokens b M.RightParen end to → IsExpr tokens from (E.Brackets p inner) to
    call : {from mid to : ℕ} {n : Name} (arguments : Vec Expr Global) → Stands tokens from (K.Name n.word) n.place mid → AreArguments tokens mid arguments.items to → IsExpr tokens from (E.Call n arguments) to
    left_index : {from mid to : ℕ} {p : Place} {n : Name} (indexes : Vec Expr Global) → AreIndexes tokens from p indexes.items mid → Stands tokens mid (K.Name n.word) n.place to → IsExpr tokens from (E.LeftIndex p indexes n) to
    pcoord : {from a b c to : ℕ} {p begin end : Place} (axis : Box Expr Global) → StandsMark tokens from M.Pcoord p a → StandsMark tokens a M.LeftParen begin b → IsExpr tokens b axis.value c → StandsMark tokens c M.RightParen end to → IsExpr tokens from (E.Pcoord p axis) to
    positions_of : {from a to : ℕ} {p : Place} {shape : ShapeRef} → StandsMark tokens from M.PositionsOf p a → IsBracketedShape tokens a shape to → IsExpr tokens from (E.PositionsOf p shape) to
    rank_of : {from a to : ℕ} {p : Place} {shape : ShapeRef} → StandsMark tokens from M.RankOf p a → IsBracketedShape tokens a shape to → IsExpr tokens from (E.RankOf p shape) to
    dim_of : {from a b c d e to : ℕ} {p begin comma end : Place} {shape : ShapeRef} (axis : Box Expr Global) → StandsMark tokens from M.DimOf p a → StandsMark tokens a M.LeftParen begin b → IsShape tokens b shape c → StandsMark tokens c M.Comma comma d → IsExpr tokens d axis.value e → StandsMark tokens e M.RightParen end to → IsExpr tokens from (E.DimOf p shape axis) to
    scan : {from a b c d e to : ℕ} {p begin comma : Place} (source axis : Box Expr Global) {combiner : Combiner} {direction : Direction} {mode : SegmentMode} {bit : Option Name} {inclusion : Inclusion} → StandsMark tokens from M.Scan p a → StandsMark tokens a M.LeftParen begin b → IsExpr tokens b source.value c → StandsMark tokens c M.Comma comma d → IsExpr tokens d axis.value e → AreScanOptions tokens e combiner direction mode bit inclusion to → IsExpr tokens from (E.Scan p source axis combiner direction mode bit inclusion) to
    enumerate : {from a b c to : ℕ} {p begin : Place} (axis : Box Expr Global) {direction : Direction} {inclusion : Inclusion} {mode : SegmentMode} {bit : Option Name} → StandsMark tokens from M.Enumerate p a → StandsMark tokens a M.LeftParen begin b → IsExpr tokens b axis.value c → AreEnumerateOptions tokens c direction inclusion mode bit to → IsExpr tokens from (E.Enumerate p axis direction inclusion mode bit) to
    printf : {from a b c to : ℕ} {p begin : Place} {text : List ℕ} (arguments : Vec Expr Global) → StandsMark tokens from M.Printf p a → StandsMark tokens a M.LeftParen begin b → IsText tokens b text c → IsRest tokens c [] arguments.items to → IsExpr tokens from (E.Printf p text arguments) to
    getchar : {from a b to : ℕ} {p begin end : Place} → StandsMark tokens from M.GetChar p a → StandsMark tokens a M.LeftParen begin b → StandsMark tokens b M.RightParen end to → IsExpr tokens from (E.GetChar p) to

  -- a list goes on with any number of expressions, each behind a comma
  pub data GoesOn (tokens : List Token) : ℕ → List Expr → List Expr → ℕ → Type 0 where
    no_more : {from : ℕ} {list : List Expr} → GoesOn tokens from list list from
    more : {from mid next to : ℕ} {comma : Place} {before list : List Expr} {e : Expr} → GoesOn tokens from before list mid → StandsMark tokens mid M.Comma comma next → IsExpr tokens next e to → GoesOn tokens from before (list ++ e ∷ []) to

  -- it does, and then the bracket closes
  pub data IsRest (tokens : List Token) : ℕ → List Expr → List Expr → ℕ → Type 0 where
    rest : {from mid to : ℕ} {end : Place} {before list : List Expr} → GoesOn tokens from before list mid → StandsMark tokens mid M.RightParen end to → IsRest tokens from before list to

  -- round brackets round no argument, or round arguments with commas between them
  pub data AreArguments (tokens : List Token) : ℕ → List Expr → ℕ → Type 0 where
    no_arguments : {from mid to : ℕ} {begin end : Place} → StandsMark tokens from M.LeftParen begin mid → StandsMark tokens mid M.RightParen end to → AreArguments tokens from [] to
    some_arguments : {from a b to : ℕ} {begin : Place} {first : Expr} {list : List Expr} → StandsMark tokens from M.LeftParen begin a → IsExpr tokens a first b → IsRest tokens b (first ∷ []) list to → AreArguments tokens from list to

  -- an index in square brackets, with the place of the `[`
  pub data IsIndex (tokens : List Token) : ℕ → Place → Expr → ℕ → Type 0 where
    index_is : {from a b to : ℕ} {p end : Place} {e : Expr} → StandsMark tokens from M.LeftBracket p a → IsExpr tokens a e b → StandsMark tokens b M.RightBracket end to → IsIndex tokens from p e to

  -- the indexes before a name, with the place of the first `[`
  pub data AreIndexes (tokens : List Token) : ℕ → Place → List Expr → ℕ → Type 0 where
    first_index : {from to : ℕ} {p : Place} {e : Expr} → IsIndex tokens from p e to → AreIndexes tokens from p (e ∷ []) to
    next_index : {from mid to : ℕ} {p q : Place} {list : List Expr} {e : Expr} → AreIndexes tokens from p list mid → IsIndex tokens mid q e to → AreIndexes tokens from p (list ++ e ∷ []) to
