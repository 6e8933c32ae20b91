-- The words that `scan` and `enumerate` take behind their expressions.
use Rattle.std.specs.Prelude.{ℕ, List, Option, Some, None}
use Rattle.cstar_base.specs.declared.operators.Place.{Place}
use Rattle.cstar_base.specs.declared.operators.Combiner.{Combiner}
use Rattle.cstar_base.specs.declared.operators.Combiner.TheVariants as C
use Rattle.cstar_base.specs.declared.operators.Direction.{Direction}
use Rattle.cstar_base.specs.declared.operators.Direction.TheVariants as D
use Rattle.cstar_base.specs.declared.operators.SegmentMode.{SegmentMode}
use Rattle.cstar_base.specs.declared.operators.SegmentMode.TheVariants as S
use Rattle.cstar_base.specs.declared.operators.Inclusion.{Inclusion}
use Rattle.cstar_base.specs.declared.operators.Inclusion.TheVariants as I
use Rattle.cstar_tree.specs.declared.token.Token.{Token}
use Rattle.cstar_tree.specs.declared.token.Kind.TheVariants as K
use Rattle.cstar_tree.specs.declared.token.Mark.{Mark}
use Rattle.cstar_tree.specs.declared.token.Mark.TheVariants as M
use Rattle.cstar_tree.specs.declared.syntax.Name.{Name}
use Rattle.cstar_tree.specs.declared.syntax.ShapeRef.{ShapeRef}
use Rattle.cstar_tree.specs.Positions.{Stands, StandsMark}
use Rattle.cstar_tree.specs.Types.{IsShape}

-- the word of a combiner; the send without a combiner has none
abbrev pub combiner_mark : Combiner → Option Mark
combiner_mark C.Add = Some M.CombinerAdd
combiner_mark C.And = Some M.CombinerLogand
combiner_mark C.Or = Some M.CombinerLogior
combiner_mark C.Xor = Some M.CombinerLogxor
combiner_mark C.Min = Some M.CombinerMin
combiner_mark C.Max = Some M.CombinerMax
combiner_mark C.Last = None

abbrev pub direction_mark : Direction → Mark
direction_mark D.Upward = M.Upward
direction_mark D.Downward = M.Downward

abbrev pub mode_mark : SegmentMode → Mark
mode_mark S.NoSegments = M.NoSegments
mode_mark S.StartBit = M.StartBit
mode_mark S.SegmentBit = M.SegmentBit

abbrev pub inclusion_mark : Inclusion → Mark
inclusion_mark I.Inclusive = M.Inclusive
inclusion_mark I.Exclusive = M.Exclusive

-- a text stands between two positions
pub data IsText (tokens : List Token) : ℕ → List ℕ → ℕ → Type 0 where
  text_is : {from to : ℕ} {text : List ℕ} {p : Place} → Stands tokens from (K.Text text) p to → IsText tokens from text to

-- a bracketed shape
pub data IsBracketedShape (tokens : List Token) : ℕ → ShapeRef → ℕ → Type 0 where
  bracketed : {from a b to : ℕ} {begin end : Place} {shape : ShapeRef} → StandsMark tokens from M.LeftParen begin a → IsShape tokens a shape b → StandsMark tokens b M.RightParen end to → IsBracketedShape tokens from shape to

-- a comma and then this word stand between two positions
pub data IsListed (tokens : List Token) : ℕ → Mark → ℕ → Type 0 where
  behind_comma : {from mid to : ℕ} {mark : Mark} {comma word : Place} → StandsMark tokens from M.Comma comma mid → StandsMark tokens mid mark word to → IsListed tokens from mark to

-- a comma and then this word, if there is one at all
abbrev pub IsSomeListed : List Token → ℕ → Option Mark → ℕ → Type 0
IsSomeListed tokens from None to = ⊥
IsSomeListed tokens from (Some mark) to = IsListed tokens from mark to

-- a comma, and `&` with a name or `CMC_no_field`
pub data IsBit (tokens : List Token) : ℕ → Option Name → ℕ → Type 0 where
  no_bit : {from mid to : ℕ} {comma word : Place} → StandsMark tokens from M.Comma comma mid → StandsMark tokens mid M.NoField word to → IsBit tokens from None to
  bit : {from a mid to : ℕ} {comma sign : Place} {name : Name} → StandsMark tokens from M.Comma comma a → StandsMark tokens a M.Ampersand sign mid → Stands tokens mid (K.Name name.word) name.place to → IsBit tokens from (Some name) to

-- what stands behind the axis of a `scan`, with the closing bracket
pub data AreScanOptions (tokens : List Token) : ℕ → Combiner → Direction → SegmentMode → Option Name → Inclusion → ℕ → Type 0 where
  scan_options : {from a b c d e to : ℕ} {combiner : Combiner} {direction : Direction} {mode : SegmentMode} {name : Option Name} {inclusion : Inclusion} {end : Place} → IsSomeListed tokens from (combiner_mark combiner) a → IsListed tokens a (direction_mark direction) b → IsListed tokens b (mode_mark mode) c → IsBit tokens c name d → IsListed tokens d (inclusion_mark inclusion) e → StandsMark tokens e M.RightParen end to → AreScanOptions tokens from combiner direction mode name inclusion to

-- what stands behind the axis of an `enumerate`, with the closing bracket
pub data AreEnumerateOptions (tokens : List Token) : ℕ → Direction → Inclusion → SegmentMode → Option Name → ℕ → Type 0 where
  enumerate_options : {from a b c d to : ℕ} {direction : Direction} {inclusion : Inclusion} {mode : SegmentMode} {name : Option Name} {end : Place} → IsListed tokens from (direction_mark direction) a → IsListed tokens a (inclusion_mark inclusion) b → IsListed tokens b (mode_mark mode) c → IsBit tokens c name d → StandsMark tokens d M.RightParen end to → AreEnumerateOptions tokens from direction inclusion mode name to
