-- The types and the words of a text are read by their open parts.
use Rattle.std.proofs.Common.{◌≡◌, ℕ, Bool, true, List, [], ◌∷◌, ◌++◌, Option, Some, refl, sym, ap, subst, ◌∙◌}
use Rattle.cstar_base.specs.declared.operators.Place.{Place}
use Rattle.cstar_base.specs.declared.operators.Combiner.{Combiner}
use Rattle.cstar_base.specs.declared.operators.Combiner.TheVariants as C
use Rattle.cstar_base.specs.declared.operators.Direction.{Direction}
use Rattle.cstar_base.specs.declared.operators.Direction.TheVariants as D
use Rattle.cstar_base.specs.declared.operators.SegmentMode.{SegmentMode}
use Rattle.cstar_base.specs.declared.operators.SegmentMode.TheVariants as G
use Rattle.cstar_base.specs.declared.operators.Inclusion.{Inclusion}
use Rattle.cstar_base.specs.declared.operators.Inclusion.TheVariants as I
use Rattle.cstar_tree.specs.declared.token.Token.{Token}
use Rattle.cstar_tree.specs.declared.token.Kind.{Kind}
use Rattle.cstar_tree.specs.declared.token.Kind.TheVariants as K
use Rattle.cstar_tree.specs.declared.token.Mark.{Mark}
use Rattle.cstar_tree.specs.declared.token.Mark.TheVariants as M
use Rattle.cstar_tree.specs.declared.syntax.Name.{Name}
use Rattle.cstar_tree.specs.declared.syntax.ShapeRef.{ShapeRef}
use Rattle.cstar_tree.specs.declared.syntax.TypeName.{TypeName}
use Rattle.cstar_tree.specs.Positions.{Stands, token_kind}
use Rattle.cstar_tree.specs.Types.{IsOptionalInt, IsWidth, AreWords, IsShape, IsType}
use Rattle.cstar_tree.specs.Types as T
use Rattle.cstar_tree.specs.Options.{IsText, IsBracketedShape, IsListed, IsSomeListed, IsBit, AreScanOptions, AreEnumerateOptions, combiner_mark, direction_mark, mode_mark, inclusion_mark}
use Rattle.cstar_tree.specs.Options as O
use Rattle.grammar_parts.specs.Parts.{Part, Action, take_it, skip, is_taken}
use Rattle.grammar_parts.specs.Parts as P
use Rattle.grammar_parts.specs.Actions.{act, type_action}
use Rattle.grammar_parts.specs.Readings.{reach}
use Rattle.grammar_parts.proofs.Reaching.{skipped, taken}

-- an open part reads the tokens between two positions
abbrev pub Reads : List Token → ℕ → Part → ℕ → Type 0
Reads tokens from p to = (behind : List Part) → reach tokens from (p ∷ behind) ≡ reach tokens to behind

-- what stands behind a type, and does not go on with it
pub record EndsType (kind : Option Kind) : Type 0 where
  pub no_int : act P.int_or_none kind ≡ skip
  pub no_width : act P.width_or_none kind ≡ skip
  pub no_shape : act P.shape_or_none kind ≡ skip

pub ends_type : {tokens : List Token} {at next : ℕ} {kind : Kind} {place : Place} → Stands tokens at kind place next → EndsType (Some kind) → EndsType (token_kind tokens at)
ends_type s q = subst {0, 0} EndsType (sym s.kind_is) q

pub name_ends_type : (word : List ℕ) → EndsType (Some (K.Name word))
name_ends_type word = record { no_int = refl; no_width = refl; no_shape = refl }

pub paren_ends_type : EndsType (Some (K.Mark M.RightParen))
paren_ends_type = record { no_int = refl; no_width = refl; no_shape = refl }

-- what a part does at a token that stands there
pub at_token : {tokens : List Token} {at next : ℕ} {kind : Kind} {place : Place} {action : Action} (p : Part) → Stands tokens at kind place next → act p (Some kind) ≡ action → act p (token_kind tokens at) ≡ action
at_token p s is = ap (act p) s.kind_is ∙ is

read_int : {tokens : List Token} {from to : ℕ} → IsOptionalInt tokens from to → act P.int_or_none (token_kind tokens to) ≡ skip → Reads tokens from P.int_or_none to
read_int {tokens} {from} T.absent calm behind = skipped tokens from P.int_or_none behind calm
read_int (T.present s) calm behind = taken P.int_or_none behind s refl

read_width : {tokens : List Token} {from to bits : ℕ} → IsWidth tokens from bits to → act P.int_or_none (token_kind tokens to) ≡ skip → Reads tokens from P.width_or_none to
read_width (T.char s) calm behind = taken P.width_or_none behind s refl
read_width (T.short s int) calm behind = taken P.width_or_none behind s refl ∙ read_int int calm behind
read_width (T.int s) calm behind = taken P.width_or_none behind s refl
read_width (T.long s int) calm behind = taken P.width_or_none behind s refl ∙ read_int int calm behind

type_width : {tokens : List Token} {from to bits : ℕ} → IsWidth tokens from bits to → act P.int_or_none (token_kind tokens to) ≡ skip → (behind : List Part) → reach tokens from (P.type ∷ behind) ≡ reach tokens to (P.shape_or_none ∷ behind)
type_width (T.char s) calm behind = taken P.type behind s refl
type_width (T.short s int) calm behind = taken P.type behind s refl ∙ read_int int calm (P.shape_or_none ∷ behind)
type_width (T.int s) calm behind = taken P.type behind s refl
type_width (T.long s int) calm behind = taken P.type behind s refl ∙ read_int int calm (P.shape_or_none ∷ behind)

pub read_words : {tokens : List Token} {from to bits : ℕ} {signed : Bool} → AreWords tokens from bits signed to → act P.int_or_none (token_kind tokens to) ≡ skip → act P.width_or_none (token_kind tokens to) ≡ skip → (behind : List Part) → reach tokens from (P.type ∷ behind) ≡ reach tokens to (P.shape_or_none ∷ behind)
read_words (T.bool s) i w behind = taken P.type behind s refl
read_words (T.plain width) i w behind = type_width width i behind
read_words (T.signed s width) i w behind = taken P.type behind s refl ∙ read_width width i (P.shape_or_none ∷ behind)
read_words (T.unsigned s width) i w behind = taken P.type behind s refl ∙ read_width width i (P.shape_or_none ∷ behind)
read_words {tokens} {to = to} (T.signed_alone s) i w behind = taken P.type behind s refl ∙ skipped tokens to P.width_or_none (P.shape_or_none ∷ behind) w
read_words {tokens} {to = to} (T.unsigned_alone s) i w behind = taken P.type behind s refl ∙ skipped tokens to P.width_or_none (P.shape_or_none ∷ behind) w

pub read_shape : {tokens : List Token} {from to : ℕ} {shape : ShapeRef} → IsShape tokens from shape to → Reads tokens from P.shape to
read_shape (T.named s) behind = taken P.shape behind s refl
read_shape (T.current s) behind = taken P.shape behind s refl

pub read_type : {tokens : List Token} {from to : ℕ} {t : TypeName} → IsType tokens from t to → EndsType (token_kind tokens to) → Reads tokens from P.type to
read_type {tokens} {to = to} (T.scalar p words) q behind = read_words words q.no_int q.no_width behind ∙ skipped tokens to P.shape_or_none behind q.no_shape
read_type {tokens} (T.parallel p words colon shape) q behind =
    read_words words (at_token P.int_or_none colon refl) (at_token P.width_or_none colon refl) behind ∙ taken P.shape_or_none behind colon refl ∙ read_shape shape behind

-- a type begins there
abbrev pub StartsType : Option Kind → Type 0
StartsType kind = is_taken (type_action kind) ≡ true

starts_by : {tokens : List Token} {at next : ℕ} {kind : Kind} {place : Place} → Stands tokens at kind place next → StartsType (Some kind) → StartsType (token_kind tokens at)
starts_by s h = subst {0, 0} StartsType (sym s.kind_is) h

starts_width : {tokens : List Token} {from to bits : ℕ} → IsWidth tokens from bits to → StartsType (token_kind tokens from)
starts_width (T.char s) = starts_by s refl
starts_width (T.short s int) = starts_by s refl
starts_width (T.int s) = starts_by s refl
starts_width (T.long s int) = starts_by s refl

pub starts_words : {tokens : List Token} {from to bits : ℕ} {signed : Bool} → AreWords tokens from bits signed to → StartsType (token_kind tokens from)
starts_words (T.bool s) = starts_by s refl
starts_words (T.plain width) = starts_width width
starts_words (T.signed s width) = starts_by s refl
starts_words (T.unsigned s width) = starts_by s refl
starts_words (T.signed_alone s) = starts_by s refl
starts_words (T.unsigned_alone s) = starts_by s refl

pub starts_type : {tokens : List Token} {from to : ℕ} {t : TypeName} → IsType tokens from t to → StartsType (token_kind tokens from)
starts_type (T.scalar p words) = starts_words words
starts_type (T.parallel p words colon shape) = starts_words words

-- the options of `scan` and `enumerate`
combiner_taken : (combiner : Combiner) (tokens : List Token) (from to : ℕ) → IsSomeListed tokens from (combiner_mark combiner) to → (behind : List Part) → reach tokens from (P.mark M.Comma ∷ P.combiner ∷ behind) ≡ reach tokens to behind
combiner_taken C.Add tokens from to (O.behind_comma comma word) behind = taken (P.mark M.Comma) (P.combiner ∷ behind) comma refl ∙ taken P.combiner behind word refl
combiner_taken C.And tokens from to (O.behind_comma comma word) behind = taken (P.mark M.Comma) (P.combiner ∷ behind) comma refl ∙ taken P.combiner behind word refl
combiner_taken C.Or tokens from to (O.behind_comma comma word) behind = taken (P.mark M.Comma) (P.combiner ∷ behind) comma refl ∙ taken P.combiner behind word refl
combiner_taken C.Xor tokens from to (O.behind_comma comma word) behind = taken (P.mark M.Comma) (P.combiner ∷ behind) comma refl ∙ taken P.combiner behind word refl
combiner_taken C.Min tokens from to (O.behind_comma comma word) behind = taken (P.mark M.Comma) (P.combiner ∷ behind) comma refl ∙ taken P.combiner behind word refl
combiner_taken C.Max tokens from to (O.behind_comma comma word) behind = taken (P.mark M.Comma) (P.combiner ∷ behind) comma refl ∙ taken P.combiner behind word refl
combiner_taken C.Last tokens from to listed behind = absurd listed

listed_taken : (p : Part) (m : Mark) → act p (Some (K.Mark m)) ≡ take_it 0 [] → {tokens : List Token} {from to : ℕ} → IsListed tokens from m to → (behind : List Part) → reach tokens from (P.mark M.Comma ∷ p ∷ behind) ≡ reach tokens to behind
listed_taken p m is (O.behind_comma comma word) behind = taken (P.mark M.Comma) (p ∷ behind) comma refl ∙ taken p behind word is

direction_word : (direction : Direction) → act P.direction (Some (K.Mark (direction_mark direction))) ≡ take_it 0 []
direction_word D.Upward = refl
direction_word D.Downward = refl

mode_word : (mode : SegmentMode) → act P.segment_mode (Some (K.Mark (mode_mark mode))) ≡ take_it 0 []
mode_word G.NoSegments = refl
mode_word G.StartBit = refl
mode_word G.SegmentBit = refl

inclusion_word : (inclusion : Inclusion) → act P.inclusion (Some (K.Mark (inclusion_mark inclusion))) ≡ take_it 0 []
inclusion_word I.Inclusive = refl
inclusion_word I.Exclusive = refl

read_bit : {tokens : List Token} {from to : ℕ} {name : Option Name} → IsBit tokens from name to → (behind : List Part) → reach tokens from (P.mark M.Comma ∷ P.bit ∷ behind) ≡ reach tokens to behind
read_bit (O.no_bit comma word) behind = taken (P.mark M.Comma) (P.bit ∷ behind) comma refl ∙ taken P.bit behind word refl
read_bit (O.bit comma sign name) behind = taken (P.mark M.Comma) (P.bit ∷ behind) comma refl ∙ taken P.bit behind sign refl ∙ taken P.name behind name refl

abbrev pub scan_options : List Part
scan_options = P.mark M.Comma ∷ P.combiner ∷ P.mark M.Comma ∷ P.direction ∷ P.mark M.Comma ∷ P.segment_mode ∷ P.mark M.Comma ∷ P.bit ∷ P.mark M.Comma ∷ P.inclusion ∷ P.close M.RightParen ∷ []

pub read_scan_options : {tokens : List Token} {from to : ℕ} {combiner : Combiner} {direction : Direction} {mode : SegmentMode} {name : Option Name} {inclusion : Inclusion} → AreScanOptions tokens from combiner direction mode name inclusion to → (behind : List Part) → reach tokens from (scan_options ++ behind) ≡ reach tokens to behind
read_scan_options (O.scan_options {combiner = combiner} {direction = direction} {mode = mode} {inclusion = inclusion} c d m b i close) behind =
    combiner_taken combiner _ _ _ c _ ∙ listed_taken P.direction _ (direction_word direction) d _ ∙ listed_taken P.segment_mode _ (mode_word mode) m _ ∙ read_bit b _ ∙ listed_taken P.inclusion _ (inclusion_word inclusion) i _ ∙ taken (P.close M.RightParen) behind close refl

abbrev pub enumerate_options : List Part
enumerate_options = P.mark M.Comma ∷ P.direction ∷ P.mark M.Comma ∷ P.inclusion ∷ P.mark M.Comma ∷ P.segment_mode ∷ P.mark M.Comma ∷ P.bit ∷ P.close M.RightParen ∷ []

pub read_enumerate_options : {tokens : List Token} {from to : ℕ} {direction : Direction} {inclusion : Inclusion} {mode : SegmentMode} {name : Option Name} → AreEnumerateOptions tokens from direction inclusion mode name to → (behind : List Part) → reach tokens from (enumerate_options ++ behind) ≡ reach tokens to behind
read_enumerate_options (O.enumerate_options {direction = direction} {inclusion = inclusion} {mode = mode} d i m b close) behind =
    listed_taken P.direction _ (direction_word direction) d _ ∙ listed_taken P.inclusion _ (inclusion_word inclusion) i _ ∙ listed_taken P.segment_mode _ (mode_word mode) m _ ∙ read_bit b _ ∙ taken (P.close M.RightParen) behind close refl
