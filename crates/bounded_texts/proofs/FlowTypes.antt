-- Texts go on behind types and the words of `scan` and `enumerate`.
use Rattle.std.proofs.Common.{◌≡◌, ℕ, ◌+◌, ◌≤◌, Bool, List, [], ◌∷◌, ◌++◌, Option, Some, arith, refl}
use Rattle.cstar_base.specs.declared.operators.Combiner.{Combiner}
use Rattle.cstar_base.specs.declared.operators.Combiner.TheVariants as C
use Rattle.cstar_base.specs.declared.operators.Direction.{Direction}
use Rattle.cstar_base.specs.declared.operators.Direction.TheVariants as D
use Rattle.cstar_base.specs.declared.operators.SegmentMode.{SegmentMode}
use Rattle.cstar_base.specs.declared.operators.SegmentMode.TheVariants as G
use Rattle.cstar_base.specs.declared.operators.Inclusion.{Inclusion}
use Rattle.cstar_base.specs.declared.operators.Inclusion.TheVariants as I
use Rattle.cstar_tree.specs.declared.token.Token.{Token}
use Rattle.cstar_tree.specs.declared.token.Kind.TheVariants as K
use Rattle.cstar_tree.specs.declared.token.Mark.{Mark}
use Rattle.cstar_tree.specs.declared.token.Mark.TheVariants as M
use Rattle.cstar_tree.specs.declared.syntax.Name.{Name}
use Rattle.cstar_tree.specs.declared.syntax.ShapeRef.{ShapeRef}
use Rattle.cstar_tree.specs.declared.syntax.TypeName.{TypeName}
use Rattle.cstar_tree.specs.Bounds.{bit_operators}
use Rattle.cstar_tree.specs.Positions.{token_kind}
use Rattle.cstar_tree.specs.Types.{IsOptionalInt, IsWidth, AreWords, IsShape, IsType}
use Rattle.cstar_tree.specs.Types as T
use Rattle.cstar_tree.specs.Options.{IsListed, IsSomeListed, IsBit, AreScanOptions, AreEnumerateOptions, combiner_mark, direction_mark, mode_mark, inclusion_mark}
use Rattle.cstar_tree.specs.Options as O
use Rattle.grammar_parts.specs.Parts.{Part, skip, take_it, levels}
use Rattle.grammar_parts.specs.Parts as P
use Rattle.grammar_parts.specs.Actions.{act}
use Rattle.grammar_parts.proofs.ReadTypes.{EndsType, at_token, enumerate_options, scan_options}
use Rattle.bounded_texts.proofs.Flowing.{Flow, less, plain, skipped, taken}

int_flows : {tokens : List Token} {from to n : ℕ} {behind : List Part} → IsOptionalInt tokens from to → act P.int_or_none (token_kind tokens to) ≡ skip → levels behind ≤ 100 → Flow tokens to behind n → Flow tokens from (P.int_or_none ∷ behind) n
int_flows T.absent calm low f = skipped P.int_or_none calm f
int_flows (T.present s) calm low f = plain P.int_or_none s refl (omega arith) f

width_flows : {tokens : List Token} {from to bits n : ℕ} {behind : List Part} → IsWidth tokens from bits to → act P.int_or_none (token_kind tokens to) ≡ skip → levels behind ≤ 100 → Flow tokens to behind n → Flow tokens from (P.width_or_none ∷ behind) n
width_flows (T.char s) calm low f = plain P.width_or_none s refl (omega arith) f
width_flows (T.short s int) calm low f = plain P.width_or_none s refl (omega arith) (int_flows int calm low f)
width_flows (T.int s) calm low f = plain P.width_or_none s refl (omega arith) f
width_flows (T.long s int) calm low f = plain P.width_or_none s refl (omega arith) (int_flows int calm low f)

type_width : {tokens : List Token} {from to bits n : ℕ} {behind : List Part} → IsWidth tokens from bits to → act P.int_or_none (token_kind tokens to) ≡ skip → levels behind ≤ 100 → Flow tokens to (P.shape_or_none ∷ behind) n → Flow tokens from (P.type ∷ behind) n
type_width (T.char s) calm low f = plain P.type s refl (omega arith) f
type_width (T.short s int) calm low f = plain P.type s refl (omega arith) (int_flows int calm (omega arith) f)
type_width (T.int s) calm low f = plain P.type s refl (omega arith) f
type_width (T.long s int) calm low f = plain P.type s refl (omega arith) (int_flows int calm (omega arith) f)

pub words_flow : {tokens : List Token} {from to bits n : ℕ} {signed : Bool} {behind : List Part} → AreWords tokens from bits signed to → act P.int_or_none (token_kind tokens to) ≡ skip → act P.width_or_none (token_kind tokens to) ≡ skip → levels behind ≤ 100 → Flow tokens to (P.shape_or_none ∷ behind) n → Flow tokens from (P.type ∷ behind) n
words_flow (T.bool s) i w low f = plain P.type s refl (omega arith) f
words_flow (T.plain width) i w low f = type_width width i low f
words_flow (T.signed s width) i w low f = plain P.type s refl (omega arith) (width_flows width i (omega arith) f)
words_flow (T.unsigned s width) i w low f = plain P.type s refl (omega arith) (width_flows width i (omega arith) f)
words_flow (T.signed_alone s) i w low f = plain P.type s refl (omega arith) (skipped P.width_or_none w f)
words_flow (T.unsigned_alone s) i w low f = plain P.type s refl (omega arith) (skipped P.width_or_none w f)

pub shape_flows : {tokens : List Token} {from to n : ℕ} {shape : ShapeRef} {behind : List Part} → IsShape tokens from shape to → levels behind ≤ 100 → Flow tokens to behind n → Flow tokens from (P.shape ∷ behind) n
shape_flows (T.named s) low f = plain P.shape s refl (omega arith) f
shape_flows (T.current s) low f = plain P.shape s refl (omega arith) f

-- a type has at most one operator, its `:`
pub type_flows : {tokens : List Token} {from to n : ℕ} {t : TypeName} {behind : List Part} → IsType tokens from t to → EndsType (token_kind tokens to) → levels behind ≤ 100 → Flow tokens to behind (n + 1) → Flow tokens from (P.type ∷ behind) n
type_flows (T.scalar p words) q low f = words_flow words q.no_int q.no_width low (skipped P.shape_or_none q.no_shape (less f (omega arith)))
type_flows (T.parallel p words colon shape) q low f = words_flow words (at_token P.int_or_none colon refl) (at_token P.width_or_none colon refl) low (taken P.shape_or_none colon refl (omega arith) (shape_flows shape low f))

-- ---- the options of `scan` and `enumerate`

combiner_flows : {n : ℕ} {behind : List Part} (combiner : Combiner) (tokens : List Token) (from to : ℕ) → IsSomeListed tokens from (combiner_mark combiner) to → levels behind ≤ 100 → Flow tokens to behind n → Flow tokens from (P.mark M.Comma ∷ P.combiner ∷ behind) n
combiner_flows C.Add tokens from to (O.behind_comma comma word) low f = plain (P.mark M.Comma) comma refl (omega arith) (plain P.combiner word refl (omega arith) f)
combiner_flows C.And tokens from to (O.behind_comma comma word) low f = plain (P.mark M.Comma) comma refl (omega arith) (plain P.combiner word refl (omega arith) f)
combiner_flows C.Or tokens from to (O.behind_comma comma word) low f = plain (P.mark M.Comma) comma refl (omega arith) (plain P.combiner word refl (omega arith) f)
combiner_flows C.Xor tokens from to (O.behind_comma comma word) low f = plain (P.mark M.Comma) comma refl (omega arith) (plain P.combiner word refl (omega arith) f)
combiner_flows C.Min tokens from to (O.behind_comma comma word) low f = plain (P.mark M.Comma) comma refl (omega arith) (plain P.combiner word refl (omega arith) f)
combiner_flows C.Max tokens from to (O.behind_comma comma word) low f = plain (P.mark M.Comma) comma refl (omega arith) (plain P.combiner word refl (omega arith) f)
combiner_flows C.Last tokens from to listed low f = absurd listed

listed_flows : {tokens : List Token} {from to n : ℕ} {behind : List Part} (p : Part) (m : Mark) → act p (Some (K.Mark m)) ≡ take_it 0 [] → IsListed tokens from m to → levels (p ∷ behind) ≤ 100 → levels behind ≤ 100 → Flow tokens to behind n → Flow tokens from (P.mark M.Comma ∷ p ∷ behind) n
listed_flows p m is (O.behind_comma comma word) high low f = plain (P.mark M.Comma) comma refl (omega arith) (plain p word is (omega arith) f)

direction_word : (direction : Direction) → act P.direction (Some (K.Mark (direction_mark direction))) ≡ take_it 0 []
direction_word D.Upward = refl
direction_word D.Downward = refl

mode_word : (mode : SegmentMode) → act P.segment_mode (Some (K.Mark (mode_mark mode))) ≡ take_it 0 []
mode_word G.NoSegments = refl
mode_word G.StartBit = refl
mode_word G.SegmentBit = refl

inclusion_word : (inclusion : Inclusion) → act P.inclusion (Some (K.Mark (inclusion_mark inclusion))) ≡ take_it 0 []
inclusion_word I.Inclusive = refl
inclusion_word I.Exclusive = refl

bit_flows : {tokens : List Token} {from to n : ℕ} {name : Option Name} {behind : List Part} → IsBit tokens from name to → levels behind ≤ 100 → Flow tokens to behind (n + bit_operators name) → Flow tokens from (P.mark M.Comma ∷ P.bit ∷ behind) n
bit_flows (O.no_bit comma word) low f = plain (P.mark M.Comma) comma refl (omega arith) (plain P.bit word refl (omega arith) (less f (omega arith)))
bit_flows (O.bit comma sign name) low f = plain (P.mark M.Comma) comma refl (omega arith) (taken P.bit sign refl (omega arith) (plain P.name name refl (omega arith) f))

pub scan_options_flow : {tokens : List Token} {from to n : ℕ} {combiner : Combiner} {direction : Direction} {mode : SegmentMode} {name : Option Name} {inclusion : Inclusion} {behind : List Part} → AreScanOptions tokens from combiner direction mode name inclusion to → levels behind + 1 ≤ 100 → Flow tokens to behind (n + bit_operators name) → Flow tokens from (scan_options ++ behind) n
scan_options_flow {combiner = combiner} {direction = direction} {mode = mode} {inclusion = inclusion} (O.scan_options c d m b i close) low f =
    combiner_flows combiner _ _ _ c (omega arith) (listed_flows P.direction _ (direction_word direction) d (omega arith) (omega arith) (listed_flows P.segment_mode _ (mode_word mode) m (omega arith) (omega arith)
    (bit_flows b (omega arith) (listed_flows P.inclusion _ (inclusion_word inclusion) i (omega arith) (omega arith) (plain (P.close M.RightParen) close refl (omega arith) f)))))

pub enumerate_options_flow : {tokens : List Token} {from to n : ℕ} {direction : Direction} {inclusion : Inclusion} {mode : SegmentMode} {name : Option Name} {behind : List Part} → AreEnumerateOptions tokens from direction inclusion mode name to → levels behind + 1 ≤ 100 → Flow tokens to behind (n + bit_operators name) → Flow tokens from (enumerate_options ++ behind) n
enumerate_options_flow {direction = direction} {inclusion = inclusion} {mode = mode} (O.enumerate_options d i m b close) low f =
    listed_flows P.direction _ (direction_word direction) d (omega arith) (omega arith) (listed_flows P.inclusion _ (inclusion_word inclusion) i (omega arith) (omega arith) (listed_flows P.segment_mode _ (mode_word mode) m (omega arith) (omega arith)
    (bit_flows b (omega arith) (plain (P.close M.RightParen) close refl (omega arith) f))))
