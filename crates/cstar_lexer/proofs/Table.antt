-- The tables of the reserved words.
use Rattle.std.proofs.Common.{◌≡◌, ℕ, ◌<◌, ◌≤◌, List, [], arith, length, map, get_or, refl, lit<, lit≤, ap, subst, sym, ◌∙◌}
use Rattle.std.specs.Prelude.{IfNone, IfSome, None, Option, Some}
use Rattle.cstar_tree.specs.declared.token.Mark.{Mark}
use Rattle.cstar_tree.specs.declared.token.Mark.TheVariants as M
use Rattle.cstar_lexer.specs.declared.words.TheConstants as W
use Rattle.cstar_lexer.specs.Marks.{IsRow, word_bytes}
use Rattle.std.proofs.lemmas.List.{get_or-map, length-map}

-- the words of each table in order, and their marks
abbrev pub short_words : List (List ℕ)
short_words = map (λ row. row.0.now) W.SHORT

abbrev pub short_marks : List Mark
short_marks = map (λ row. row.1) W.SHORT

abbrev pub of_four_words : List (List ℕ)
of_four_words = map (λ row. row.0.now) W.OF_FOUR

abbrev pub of_four_marks : List Mark
of_four_marks = map (λ row. row.1) W.OF_FOUR

abbrev pub middle_words : List (List ℕ)
middle_words = map (λ row. row.0.now) W.MIDDLE

abbrev pub middle_marks : List Mark
middle_marks = map (λ row. row.1) W.MIDDLE

abbrev pub long_words : List (List ℕ)
long_words = map (λ row. row.0.now) W.LONG

abbrev pub long_marks : List Mark
long_marks = map (λ row. row.1) W.LONG

-- where a table has a word
abbrev HasWord : List (List ℕ) → List ℕ → Type 0
HasWord words word = (k : ℕ) × (k < length words) × (get_or words k [] ≡ word)

-- in which table the letters of a mark stand
data Stands (word : List ℕ) : Type 0 where
  nowhere : word ≡ [] → Stands word
  short : length word < 4 → HasWord short_words word → Stands word
  of_four : length word ≡ 4 → HasWord of_four_words word → Stands word
  middle : 4 < length word → length word < 7 → HasWord middle_words word → Stands word
  long : 7 ≤ length word → HasWord long_words word → Stands word

-- every reserved word stands in the table of its length
listed : (mark : Mark) → Stands (word_bytes mark)
listed M.Bool = of_four refl (0, lit< tt, refl)
listed M.Char = of_four refl (1, lit< tt, refl)
listed M.Short = middle (lit< tt) (lit< tt) (0, lit< tt, refl)
listed M.Int = short (lit< tt) (0, lit< tt, refl)
listed M.Long = of_four refl (2, lit< tt, refl)
listed M.Signed = middle (lit< tt) (lit< tt) (1, lit< tt, refl)
listed M.Unsigned = long (lit≤ tt) (0, lit< tt, refl)
listed M.Void = of_four refl (3, lit< tt, refl)
listed M.Shape = middle (lit< tt) (lit< tt) (2, lit< tt, refl)
listed M.Current = long (lit≤ tt) (1, lit< tt, refl)
listed M.With = of_four refl (4, lit< tt, refl)
listed M.Where = middle (lit< tt) (lit< tt) (3, lit< tt, refl)
listed M.Everywhere = long (lit≤ tt) (2, lit< tt, refl)
listed M.Else = of_four refl (5, lit< tt, refl)
listed M.If = short (lit< tt) (1, lit< tt, refl)
listed M.While = middle (lit< tt) (lit< tt) (4, lit< tt, refl)
listed M.Do = short (lit< tt) (2, lit< tt, refl)
listed M.For = short (lit< tt) (3, lit< tt, refl)
listed M.Break = middle (lit< tt) (lit< tt) (5, lit< tt, refl)
listed M.Continue = long (lit≤ tt) (3, lit< tt, refl)
listed M.Return = middle (lit< tt) (lit< tt) (6, lit< tt, refl)
listed M.Pcoord = middle (lit< tt) (lit< tt) (7, lit< tt, refl)
listed M.PositionsOf = long (lit≤ tt) (4, lit< tt, refl)
listed M.RankOf = middle (lit< tt) (lit< tt) (8, lit< tt, refl)
listed M.DimOf = middle (lit< tt) (lit< tt) (9, lit< tt, refl)
listed M.Scan = of_four refl (6, lit< tt, refl)
listed M.Enumerate = long (lit≤ tt) (5, lit< tt, refl)
listed M.Printf = middle (lit< tt) (lit< tt) (10, lit< tt, refl)
listed M.GetChar = long (lit≤ tt) (6, lit< tt, refl)
listed M.CombinerAdd = long (lit≤ tt) (7, lit< tt, refl)
listed M.CombinerMin = long (lit≤ tt) (8, lit< tt, refl)
listed M.CombinerMax = long (lit≤ tt) (9, lit< tt, refl)
listed M.CombinerLogand = long (lit≤ tt) (10, lit< tt, refl)
listed M.CombinerLogior = long (lit≤ tt) (11, lit< tt, refl)
listed M.CombinerLogxor = long (lit≤ tt) (12, lit< tt, refl)
listed M.Upward = long (lit≤ tt) (13, lit< tt, refl)
listed M.Downward = long (lit≤ tt) (14, lit< tt, refl)
listed M.NoSegments = long (lit≤ tt) (15, lit< tt, refl)
listed M.StartBit = long (lit≤ tt) (16, lit< tt, refl)
listed M.SegmentBit = long (lit≤ tt) (17, lit< tt, refl)
listed M.Inclusive = long (lit≤ tt) (18, lit< tt, refl)
listed M.Exclusive = long (lit≤ tt) (19, lit< tt, refl)
listed M.NoField = long (lit≤ tt) (20, lit< tt, refl)
listed M.Auto = of_four refl (7, lit< tt, refl)
listed M.Case = of_four refl (8, lit< tt, refl)
listed M.Const = middle (lit< tt) (lit< tt) (11, lit< tt, refl)
listed M.Default = long (lit≤ tt) (21, lit< tt, refl)
listed M.Double = middle (lit< tt) (lit< tt) (12, lit< tt, refl)
listed M.Enum = of_four refl (9, lit< tt, refl)
listed M.Extern = middle (lit< tt) (lit< tt) (13, lit< tt, refl)
listed M.Float = middle (lit< tt) (lit< tt) (14, lit< tt, refl)
listed M.Goto = of_four refl (10, lit< tt, refl)
listed M.Register = long (lit≤ tt) (22, lit< tt, refl)
listed M.ShapeOf = long (lit≤ tt) (23, lit< tt, refl)
listed M.SizeOf = middle (lit< tt) (lit< tt) (15, lit< tt, refl)
listed M.Static = middle (lit< tt) (lit< tt) (16, lit< tt, refl)
listed M.Struct = middle (lit< tt) (lit< tt) (17, lit< tt, refl)
listed M.Switch = middle (lit< tt) (lit< tt) (18, lit< tt, refl)
listed M.Typedef = long (lit≤ tt) (24, lit< tt, refl)
listed M.Union = middle (lit< tt) (lit< tt) (19, lit< tt, refl)
listed M.Volatile = long (lit≤ tt) (25, lit< tt, refl)
listed _ = nowhere refl

-- the marks of a table are those of its words
pub row_spelled : (marks : List Mark) (name : List ℕ) (mark : Mark) → IsRow (map word_bytes marks) marks name mark → word_bytes mark ≡ name
row_spelled marks name mark row =
    let within : row.0 < length marks = rw length-map at row.1 in
    let at : get_or (map word_bytes marks) row.0 [] ≡ word_bytes (get_or marks row.0 mark) = get_or-map word_bytes marks row.0 mark [] within in
    ap word_bytes (sym row.3) ∙ (sym at ∙ row.2)

pub if_found : (marks : List Mark) (found : Option Mark) (name : List ℕ) → IfSome found (IsRow (map word_bytes marks) marks name) → IfSome found (λ mark. word_bytes mark ≡ name)
if_found marks (Some mark) name row = row_spelled marks name mark row
if_found marks None name row = tt

-- a table has no such word
abbrev pub Lacks : List (List ℕ) → List ℕ → Type 0
Lacks words word = (k : ℕ) → k < length words → get_or words k [] ≡ word → ⊥

-- the word is that of no mark
abbrev pub IsFreeOf : List ℕ → Type 0
IsFreeOf name = (mark : Mark) → word_bytes mark ≡ name → name ≡ []

not_short : (name : List ℕ) → length name < 4 → Lacks short_words name → IsFreeOf name
not_short name few none mark e = elim (subst Stands e (listed mark)) [
  | nowhere empty ↦ empty
  | short less has ↦ absurd (none has.0 has.1 has.2)
  | of_four is has ↦ absurd (omega (arith, few, is))
  | middle more less has ↦ absurd (omega (arith, few, more))
  | long least has ↦ absurd (omega (arith, few, least))
]

not_of_four : (name : List ℕ) → length name ≡ 4 → Lacks of_four_words name → IsFreeOf name
not_of_four name four none mark e = elim (subst Stands e (listed mark)) [
  | nowhere empty ↦ empty
  | short less has ↦ absurd (omega (arith, four, less))
  | of_four is has ↦ absurd (none has.0 has.1 has.2)
  | middle more less has ↦ absurd (omega (arith, four, more))
  | long least has ↦ absurd (omega (arith, four, least))
]

not_middle : (name : List ℕ) → 4 < length name → length name < 7 → Lacks middle_words name → IsFreeOf name
not_middle name some few none mark e = elim (subst Stands e (listed mark)) [
  | nowhere empty ↦ empty
  | short less has ↦ absurd (omega (arith, some, less))
  | of_four is has ↦ absurd (omega (arith, some, is))
  | middle more less has ↦ absurd (none has.0 has.1 has.2)
  | long least has ↦ absurd (omega (arith, few, least))
]

not_long : (name : List ℕ) → 7 ≤ length name → Lacks long_words name → IsFreeOf name
not_long name many none mark e = elim (subst Stands e (listed mark)) [
  | nowhere empty ↦ empty
  | short less has ↦ absurd (omega (arith, many, less))
  | of_four is has ↦ absurd (omega (arith, many, is))
  | middle more less has ↦ absurd (omega (arith, many, less))
  | long least has ↦ absurd (none has.0 has.1 has.2)
]

-- what is known where nothing was found
if_none : (found : Option Mark) {P Q : Type 0} → IfNone found P → (P → Q) → IfNone found Q
if_none (Some mark) none leads = tt
if_none None none leads = leads none

pub if_no_short : (found : Option Mark) (name : List ℕ) → length name < 4 → IfNone found (Lacks short_words name) → IfNone found (IsFreeOf name)
if_no_short found name few none = if_none found none (not_short name few)

pub if_no_four : (found : Option Mark) (name : List ℕ) → length name ≡ 4 → IfNone found (Lacks of_four_words name) → IfNone found (IsFreeOf name)
if_no_four found name four none = if_none found none (not_of_four name four)

pub if_no_middle : (found : Option Mark) (name : List ℕ) → 4 < length name → length name < 7 → IfNone found (Lacks middle_words name) → IfNone found (IsFreeOf name)
if_no_middle found name some few none = if_none found none (not_middle name some few)

pub if_no_long : (found : Option Mark) (name : List ℕ) → 7 ≤ length name → IfNone found (Lacks long_words name) → IfNone found (IsFreeOf name)
if_no_long found name many none = if_none found none (not_long name many)
