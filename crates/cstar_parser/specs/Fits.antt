-- Parts of a tree that fit into the bounds on levels and operators, where so many levels are open
-- around them.
use Rattle.std.specs.Prelude.{◌≡◌, ℕ, ◌+◌, ◌≤◌, ◌<◌, List, [], ◌∷◌, Option, Some, None, Vec, Box, map}
use Rattle.std.specs.declared.alloc.Global.{Global}
use Rattle.cstar_base.specs.declared.operators.Place.{Place}
use Rattle.cstar_tree.specs.declared.syntax.Block.{Block}
use Rattle.cstar_tree.specs.declared.syntax.Expr.{Expr}
use Rattle.cstar_tree.specs.declared.syntax.Item.{Item}
use Rattle.cstar_tree.specs.declared.syntax.Stmt.{Stmt}
use Rattle.cstar_tree.specs.declared.syntax.Name.{Name}
use Rattle.cstar_tree.specs.declared.syntax.ShapeRef.{ShapeRef}
use Rattle.cstar_tree.specs.declared.syntax.TypeName.{TypeName}
use Rattle.cstar_tree.specs.Bounds.{among, bit_operators, in_block, in_item, in_statement, levels_in, operators_in}
use Rattle.cstar_tree.specs.Room.{greatest}
use Rattle.cstar_tree.specs.TypedParts.{total}
use Rattle.cstar_parser.specs.declared.casts.CastChain.{CastChain}
use Rattle.cstar_parser.specs.declared.casts.ParallelCast.{ParallelCast}

abbrev pub operators_among : List Expr → ℕ
operators_among es = total (map operators_in es)

-- the `:` of a type with a shape
abbrev pub shape_operators : Option ShapeRef → ℕ
shape_operators None = 0
shape_operators (Some shape) = 1

abbrev pub cast_operators : Option ParallelCast → ℕ
cast_operators None = 0
cast_operators (Some cast) = 1

-- a part counts no operator, so many, or those of a type or a bit
abbrev pub Keeps : {A : Type 0} → A → ℕ → ℕ → Type 0
Keeps part old new = new ≡ old

abbrev pub Adds : {A : Type 0} → ℕ → A → ℕ → ℕ → Type 0
Adds n part old new = new ≡ old + n

abbrev pub AddsType : TypeName → ℕ → ℕ → Type 0
AddsType t old new = new ≡ old + shape_operators t.shape

abbrev pub AddsBit : Option Name → ℕ → ℕ → Type 0
AddsBit bit old new = new ≡ old + bit_operators bit

-- it opens a level besides
abbrev pub Opens : {A : Type 0} → ℕ → A → ℕ → ℕ → Type 0
Opens around part old new = (around < 100) × (new ≡ old)

abbrev pub AddsCasts : ℕ → CastChain → ℕ → ℕ → Type 0
AddsCasts around chain old new = (around < 100) × (new ≡ old + cast_operators chain.parallel)

-- a part of an expression: its levels fit into those that are left, and its operators are those
-- that were counted
pub record FitsPart (around : ℕ) (e : Expr) (old new : ℕ) : Type 0 where
  pub deep : around + levels_in e ≤ 100
  pub counted : new ≡ old + operators_in e

pub record FitParts (around : ℕ) (es : List Expr) (old new : ℕ) : Type 0 where
  pub deep : around + among levels_in es ≤ 100
  pub counted : new ≡ old + operators_among es

abbrev pub AddsPart : ℕ → Box Expr Global → ℕ → ℕ → Type 0
AddsPart around e old new = FitsPart around e.value old new

abbrev pub AddsParts : ℕ → Vec Expr Global → ℕ → ℕ → Type 0
AddsParts around es old new = FitParts around es.items old new

-- a list that goes on
abbrev pub AddsMore : ℕ → Vec Expr Global → Vec Expr Global → ℕ → ℕ → Type 0
AddsMore around list all old new = (before : ℕ) → FitParts around list.items before old → FitParts around all.items before new

-- an index in its brackets
abbrev pub AddsIndex : ℕ → Place × Box Expr Global → ℕ → ℕ → Type 0
AddsIndex around index old new = FitsPart (around + 1) index.1.value old new

-- whole expressions
pub record FitWhole (around : ℕ) (es : List Expr) : Type 0 where
  pub deep : around + among levels_in es ≤ 100
  pub few : among operators_in es ≤ 1000

-- a statement, whose own level is one of those that are open
pub record FitsStatement (around : ℕ) (s : Stmt) : Type 0 where
  pub deep : around + in_statement levels_in 1 s ≤ 101
  pub few : in_statement operators_in 0 s ≤ 1000

-- statements of a block
pub record FitStatements (around : ℕ) (list : List Stmt) : Type 0 where
  pub deep : around + greatest (map (in_statement levels_in 1) list) ≤ 100
  pub few : greatest (map (in_statement operators_in 0) list) ≤ 1000

pub record FitsBlock (around : ℕ) (block : Block) : Type 0 where
  pub deep : around + in_block levels_in 1 block ≤ 100
  pub few : in_block operators_in 0 block ≤ 1000

-- items of a file
pub record FitsItem (item : Item) : Type 0 where
  pub deep : in_item levels_in 1 item ≤ 100
  pub few : in_item operators_in 0 item ≤ 1000

pub record FitItems (list : List Item) : Type 0 where
  pub deep : greatest (map (in_item levels_in 1) list) ≤ 100
  pub few : greatest (map (in_item operators_in 0) list) ≤ 1000

-- where no operators are counted: parts that are whole
abbrev pub FitsWhole : ℕ → Box Expr Global → ℕ → ℕ → Type 0
FitsWhole around e old new = FitWhole around (e.value ∷ [])

abbrev pub FitAll : ℕ → List Expr → ℕ → ℕ → Type 0
FitAll around es old new = FitWhole around es

abbrev pub Fits : Type 0 → ℕ → ℕ → Type 0
Fits bounded old new = bounded

abbrev pub Free : {A : Type 0} → A → ℕ → ℕ → Type 0
Free part old new = Unit {0}
