-- The grammar of statements and blocks. A statement stands at its first token.
use Rattle.std.specs.Prelude.{◌≡◌, ℕ, List, [], ◌∷◌, ◌++◌, Some, None, Option, Box}
use Rattle.std.specs.declared.alloc.Global.{Global}
use Rattle.cstar_base.specs.declared.operators.Place.{Place}
use Rattle.cstar_tree.specs.declared.token.Token.{Token}
use Rattle.cstar_tree.specs.declared.token.Kind.TheVariants as K
use Rattle.cstar_tree.specs.declared.token.Mark.{Mark}
use Rattle.cstar_tree.specs.declared.token.Mark.TheVariants as M
use Rattle.cstar_tree.specs.declared.syntax.Expr.{Expr}
use Rattle.cstar_tree.specs.declared.syntax.Block.{Block}
use Rattle.cstar_tree.specs.declared.syntax.ShapeRef.{ShapeRef}
use Rattle.cstar_tree.specs.declared.syntax.Stmt.{Stmt}
use Rattle.cstar_tree.specs.declared.syntax.Stmt as S
use Rattle.cstar_tree.specs.Positions.{StandsMark, token_kind, token_place}
use Rattle.cstar_tree.specs.Options.{IsBracketedShape}
use Rattle.cstar_tree.specs.Expressions.{IsExpr}
use Rattle.cstar_tree.specs.Declarations.{AreDeclarations}

-- an expression or nothing, and then this mark
pub data IsPart (tokens : List Token) : ℕ → Option Expr → Mark → ℕ → Type 0 where
  no_part : {from to : ℕ} {mark : Mark} {end : Place} → StandsMark tokens from mark end to → IsPart tokens from None mark to
  part : {from mid to : ℕ} {mark : Mark} {end : Place} {e : Expr} → IsExpr tokens from e mid → StandsMark tokens mid mark end to → IsPart tokens from (Some e) mark to

-- a bracketed condition
pub data IsTest (tokens : List Token) : ℕ → Expr → ℕ → Type 0 where
  test : {from a b to : ℕ} {begin end : Place} {e : Expr} → StandsMark tokens from M.LeftParen begin a → IsExpr tokens a e b → StandsMark tokens b M.RightParen end to → IsTest tokens from e to

-- no `else` stands at a position
abbrev pub NoElse : List Token → ℕ → Type 0
NoElse tokens at = token_kind tokens at ≡ Some (K.Mark M.Else) → ⊥

mutual
  -- the tokens between two positions are this statement; an `else` belongs to the nearest `if` or
  -- `where`, so none stands behind one without it
  pub data IsStmt (tokens : List Token) : ℕ → Stmt → ℕ → Type 0 where
    block_is : {from to : ℕ} {block : Block} → IsBlock tokens from block to → IsStmt tokens from (S.Block block) to
    expression : {from to : ℕ} {p : Place} {e : Expr} → token_place tokens from ≡ Some p → IsPart tokens from (Some e) M.Semicolon to → IsStmt tokens from (S.Expression p e) to
    empty : {from to : ℕ} {p : Place} → StandsMark tokens from M.Semicolon p to → IsStmt tokens from (S.Empty p) to
    if_alone : {from a b to : ℕ} {p : Place} {e : Expr} (then : Box Stmt Global) → StandsMark tokens from M.If p a → IsTest tokens a e b → IsStmt tokens b then.value to → NoElse tokens to → IsStmt tokens from (S.If p e then None) to
    if_else : {from a b c d to : ℕ} {p q : Place} {e : Expr} (then otherwise : Box Stmt Global) → StandsMark tokens from M.If p a → IsTest tokens a e b → IsStmt tokens b then.value c → StandsMark tokens c M.Else q d → IsStmt tokens d otherwise.value to → IsStmt tokens from (S.If p e then (Some otherwise)) to
    where_alone : {from a b to : ℕ} {p : Place} {e : Expr} (then : Box Stmt Global) → StandsMark tokens from M.Where p a → IsTest tokens a e b → IsStmt tokens b then.value to → NoElse tokens to → IsStmt tokens from (S.Where p e then None) to
    where_else : {from a b c d to : ℕ} {p q : Place} {e : Expr} (then otherwise : Box Stmt Global) → StandsMark tokens from M.Where p a → IsTest tokens a e b → IsStmt tokens b then.value c → StandsMark tokens c M.Else q d → IsStmt tokens d otherwise.value to → IsStmt tokens from (S.Where p e then (Some otherwise)) to
    while : {from a b to : ℕ} {p : Place} {e : Expr} (body : Box Stmt Global) → StandsMark tokens from M.While p a → IsTest tokens a e b → IsStmt tokens b body.value to → IsStmt tokens from (S.While p e body) to
    do_while : {from a b c d to : ℕ} {p q end : Place} {e : Expr} (body : Box Stmt Global) → StandsMark tokens from M.Do p a → IsStmt tokens a body.value b → StandsMark tokens b M.While q c → IsTest tokens c e d → StandsMark tokens d M.Semicolon end to → IsStmt tokens from (S.Do p body e) to
    for : {from a b c d e to : ℕ} {p begin : Place} {first test step : Option Expr} (body : Box Stmt Global) → StandsMark tokens from M.For p a → StandsMark tokens a M.LeftParen begin b → IsPart tokens b first M.Semicolon c → IsPart tokens c test M.Semicolon d → IsPart tokens d step M.RightParen e → IsStmt tokens e body.value to → IsStmt tokens from (S.For p first test step body) to
    break : {from mid to : ℕ} {p end : Place} → StandsMark tokens from M.Break p mid → StandsMark tokens mid M.Semicolon end to → IsStmt tokens from (S.Break p) to
    continue : {from mid to : ℕ} {p end : Place} → StandsMark tokens from M.Continue p mid → StandsMark tokens mid M.Semicolon end to → IsStmt tokens from (S.Continue p) to
    return : {from mid to : ℕ} {p : Place} {value : Option Expr} → StandsMark tokens from M.Return p mid → IsPart tokens mid value M.Semicolon to → IsStmt tokens from (S.Return p value) to
    with : {from a b to : ℕ} {p : Place} {shape : ShapeRef} (body : Box Stmt Global) → StandsMark tokens from M.With p a → IsBracketedShape tokens a shape b → IsStmt tokens b body.value to → IsStmt tokens from (S.With p shape body) to
    everywhere : {from mid to : ℕ} {p : Place} (body : Box Stmt Global) → StandsMark tokens from M.Everywhere p mid → IsStmt tokens mid body.value to → IsStmt tokens from (S.Everywhere p body) to

  -- statements, one behind the other
  pub data AreStmts (tokens : List Token) : ℕ → List Stmt → ℕ → Type 0 where
    no_stmt : {from : ℕ} → AreStmts tokens from [] from
    one_more : {from mid to : ℕ} {list : List Stmt} {s : Stmt} → AreStmts tokens from list mid → IsStmt tokens mid s to → AreStmts tokens from (list ++ s ∷ []) to

  -- braces round declarations and then statements
  pub data IsBlock (tokens : List Token) : ℕ → Block → ℕ → Type 0 where
    block : {from a b c to : ℕ} {end : Place} (block : Block) → StandsMark tokens from M.LeftBrace block.place a → AreDeclarations tokens a block.declarations.items b → AreStmts tokens b block.statements.items c → StandsMark tokens c M.RightBrace end to → IsBlock tokens from block to
