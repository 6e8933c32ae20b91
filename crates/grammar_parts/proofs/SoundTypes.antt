-- What the open parts of types and options say at a token.
use Rattle.std.proofs.Common.{◌≡◌, ℕ, ◌+◌, ◌≤◌, ◌^◌, Bool, true, false, List, [], ◌∷◌, ◌++◌, ◌&&◌, length, Some, None, arith, lit≤, refl, subst}
use Rattle.std.proofs.lemmas.List.{length-append}
use Rattle.cstar_base.specs.declared.elem.Elem.{Elem}
use Rattle.cstar_base.specs.declared.operators.Place.{Place}
use Rattle.cstar_base.specs.declared.operators.Combiner.TheVariants as C
use Rattle.cstar_base.specs.declared.operators.Direction.TheVariants as D
use Rattle.cstar_base.specs.declared.operators.SegmentMode.TheVariants as G
use Rattle.cstar_base.specs.declared.operators.Inclusion.TheVariants as I
use Rattle.cstar_tree.specs.declared.token.Token.{Token}
use Rattle.cstar_tree.specs.declared.token.Kind.{Kind}
use Rattle.cstar_tree.specs.declared.token.Kind.TheVariants as K
use Rattle.cstar_tree.specs.declared.token.Mark.TheVariants as M
use Rattle.cstar_tree.specs.declared.syntax.ShapeRef.TheVariants as R
use Rattle.cstar_tree.specs.declared.syntax.TypeName.{TypeName}
use Rattle.cstar_tree.specs.Positions.{Stands, StandsMark, token_place}
use Rattle.cstar_tree.specs.Types.{IsElement, IsType}
use Rattle.cstar_tree.specs.Types as T
use Rattle.cstar_tree.specs.Options as O
use Rattle.grammar_parts.specs.Parts.{Part, Action, take_it, enter, skip, refuse, before, unless_refused}
use Rattle.grammar_parts.specs.Parts as P
use Rattle.grammar_parts.specs.Actions.{IsReal, act, type_action}
use Rattle.grammar_parts.proofs.Meanings.{AllMean, Gives, MaybeShape, MaybeWidth, a_shape, a_width, ahead, are_mild, is_mild, means, no_shape, no_width, split}
use Rattle.grammar_parts.proofs.Words.{false-true}

pub moved : {tokens : List Token} {at here to : ℕ} {kind : Kind} {place : Place} → here ≡ to → Stands tokens at kind place here → Stands tokens at kind place to
moved {tokens} {at} {kind = kind} {place = place} e s = subst {0, 0} (λ (i : ℕ). Stands tokens at kind place i) e s

pub mild-append : (parts more : List Part) → are_mild parts ≡ true → are_mild more ≡ true → are_mild (parts ++ more) ≡ true
mild-append [] more a b = b
mild-append (p ∷ parts) more a b = by (is_mild p) a (mild-append parts more) where
  by : (m : Bool) → m && are_mild parts ≡ true → (are_mild parts ≡ true → are_mild more ≡ true → are_mild (parts ++ more) ≡ true) → m && are_mild (parts ++ more) ≡ true
  by true h f = f h b
  by false h f = absurd (false-true h)

-- a part behind which more stands
pub followed : (tokens : List Token) (at most : ℕ) (p q : Part) (more : List Part) (a : Action) → IsReal a → are_mild more ≡ true → Gives tokens at most p a → ((mid to : ℕ) → to ≤ 2 ^ 40 → at ≤ mid → means tokens p at mid → AllMean tokens more mid to → means tokens q at to) → Gives tokens at (most + length more) q (before a more)
followed tokens at most p q more (take_it n parts) real mild g f = (
  let few = g.0 in omega (arith, length-append parts more),
  mild-append parts more g.1 mild,
  λ to below rest.
      let s = split tokens parts more (at + 1) to rest in let behind = ahead tokens more s.0 to s.2 in let here = ahead tokens parts (at + 1) s.0 s.1 in f s.0 to below (omega arith) (g.2 s.0 (omega arith) s.1) s.2,
)
followed tokens at most p q more (enter r parts) real mild g f = (
  let few = g.0 in omega (arith, length-append parts more),
  mild-append (r ∷ parts) more g.1 mild,
  λ to below rest.
      let s = split tokens (r ∷ parts) more at to rest in let behind = ahead tokens more s.0 to s.2 in let here = ahead tokens (r ∷ parts) at s.0 s.1 in f s.0 to below here (g.2 s.0 (omega arith) s.1) s.2,
)
followed tokens at most p q more skip real mild g f = absurd real
followed tokens at most p q more refuse real mild g f = tt

pub either_of : (tokens : List Token) (at most : ℕ) (p : Part) (a b : Action) → Gives tokens at most p a → Gives tokens at most p b → Gives tokens at most p (unless_refused a b)
either_of tokens at most p (take_it n parts) b g h = g
either_of tokens at most p (enter q parts) b g h = g
either_of tokens at most p skip b g h = g
either_of tokens at most p refuse b g h = h

pub weaker : (tokens : List Token) (at few most : ℕ) (p : Part) (a : Action) → few ≤ most → Gives tokens at few p a → Gives tokens at most p a
weaker tokens at few most p (take_it n parts) less g = (let fewer = g.0 in omega arith, g.1, g.2)
weaker tokens at few most p (enter q parts) less g = (let fewer = g.0 in omega arith, g.1, g.2)
weaker tokens at few most p skip less g = g
weaker tokens at few most p refuse less g = tt

abbrev bool : Elem
bool = record { bits = 1; signed = false; kind = refl }

abbrev char : Elem
char = record { bits = 8; signed = true; kind = refl }

abbrev unsigned_char : Elem
unsigned_char = record { bits = 8; signed = false; kind = refl }

abbrev short : Elem
short = record { bits = 16; signed = true; kind = refl }

abbrev unsigned_short : Elem
unsigned_short = record { bits = 16; signed = false; kind = refl }

abbrev int : Elem
int = record { bits = 32; signed = true; kind = refl }

abbrev unsigned : Elem
unsigned = record { bits = 32; signed = false; kind = refl }

signed_words : {tokens : List Token} {at next to : ℕ} {place : Place} → StandsMark tokens at M.Signed place next → MaybeWidth tokens next to → (elem : Elem) × IsElement tokens at elem to
signed_words s no_width = (int, T.signed_alone s)
signed_words s (a_width (T.char c)) = (char, T.signed s (T.char c))
signed_words s (a_width (T.short c i)) = (short, T.signed s (T.short c i))
signed_words s (a_width (T.int c)) = (int, T.signed s (T.int c))
signed_words s (a_width (T.long c i)) = (int, T.signed s (T.long c i))

unsigned_words : {tokens : List Token} {at next to : ℕ} {place : Place} → StandsMark tokens at M.Unsigned place next → MaybeWidth tokens next to → (elem : Elem) × IsElement tokens at elem to
unsigned_words s no_width = (unsigned, T.unsigned_alone s)
unsigned_words s (a_width (T.char c)) = (unsigned_char, T.unsigned s (T.char c))
unsigned_words s (a_width (T.short c i)) = (unsigned_short, T.unsigned s (T.short c i))
unsigned_words s (a_width (T.int c)) = (unsigned, T.unsigned s (T.int c))
unsigned_words s (a_width (T.long c i)) = (unsigned, T.unsigned s (T.long c i))

typed : {tokens : List Token} {at mid to : ℕ} {place : Place} (elem : Elem) → IsElement tokens at elem mid → token_place tokens at ≡ Some place → MaybeShape tokens mid to → (t : TypeName) × IsType tokens at t to
typed {place = place} elem words there no_shape = (record { place = place; elem = elem; shape = None }, T.scalar there words)
typed {place = place} elem words there (a_shape {shape = shape} colon s) = (record { place = place; elem = elem; shape = Some shape }, T.parallel there words colon s)

pub sound_type : (tokens : List Token) (at : ℕ) (kind : Kind) (place : Place) → Stands tokens at kind place (at + 1) → Gives tokens at 2 P.type (type_action (Some kind))
sound_type tokens at (K.Mark M.Bool) place s = (lit≤ tt, refl, λ to below rest. typed bool (T.bool s) s.place_is rest.1)
sound_type tokens at (K.Mark M.Char) place s = (lit≤ tt, refl, λ to below rest. typed char (T.plain (T.char s)) s.place_is rest.1)
sound_type tokens at (K.Mark M.Int) place s = (lit≤ tt, refl, λ to below rest. typed int (T.plain (T.int s)) s.place_is rest.1)
sound_type tokens at (K.Mark M.Short) place s = (lit≤ tt, refl, λ to below rest. typed short (T.plain (T.short s rest.2)) s.place_is rest.3.1)
sound_type tokens at (K.Mark M.Long) place s = (lit≤ tt, refl, λ to below rest. typed int (T.plain (T.long s rest.2)) s.place_is rest.3.1)
sound_type tokens at (K.Mark M.Signed) place s = (lit≤ tt, refl, λ to below rest. let w = signed_words s rest.2 in typed w.0 w.1 s.place_is rest.3.1)
sound_type tokens at (K.Mark M.Unsigned) place s = (lit≤ tt, refl, λ to below rest. let w = unsigned_words s rest.2 in typed w.0 w.1 s.place_is rest.3.1)
sound_type tokens at other place s = tt

pub sound_width : (tokens : List Token) (at : ℕ) (kind : Kind) (place : Place) → Stands tokens at kind place (at + 1) → Gives tokens at 1 P.width_or_none (act P.width_or_none (Some kind))
sound_width tokens at (K.Mark M.Char) place s = (lit≤ tt, refl, λ to below rest. a_width (T.char (moved rest s)))
sound_width tokens at (K.Mark M.Int) place s = (lit≤ tt, refl, λ to below rest. a_width (T.int (moved rest s)))
sound_width tokens at (K.Mark M.Short) place s = (lit≤ tt, refl, λ to below rest. a_width (T.short s rest.1))
sound_width tokens at (K.Mark M.Long) place s = (lit≤ tt, refl, λ to below rest. a_width (T.long s rest.1))
sound_width tokens at other place s = no_width

pub sound_int : (tokens : List Token) (at : ℕ) (kind : Kind) (place : Place) → Stands tokens at kind place (at + 1) → Gives tokens at 1 P.int_or_none (act P.int_or_none (Some kind))
sound_int tokens at (K.Mark M.Int) place s = (lit≤ tt, refl, λ to below rest. T.present (moved rest s))
sound_int tokens at other place s = T.absent

pub sound_shape_or_none : (tokens : List Token) (at : ℕ) (kind : Kind) (place : Place) → Stands tokens at kind place (at + 1) → Gives tokens at 1 P.shape_or_none (act P.shape_or_none (Some kind))
sound_shape_or_none tokens at (K.Mark M.Colon) place s = (lit≤ tt, refl, λ to below rest. a_shape s rest.1.1)
sound_shape_or_none tokens at other place s = no_shape

pub sound_shape : (tokens : List Token) (at : ℕ) (kind : Kind) (place : Place) → Stands tokens at kind place (at + 1) → Gives tokens at 1 P.shape (act P.shape (Some kind))
sound_shape tokens at (K.Mark M.Current) place s = (lit≤ tt, refl, λ to below rest. (R.Current place, T.current (moved rest s)))
sound_shape tokens at (K.Name word) place s = (lit≤ tt, refl, λ to below rest. (R.Named (record { word = word; place = place }), T.named (moved rest s)))
sound_shape tokens at other place s = tt

pub sound_combiner : (tokens : List Token) (at : ℕ) (kind : Kind) (place : Place) → Stands tokens at kind place (at + 1) → Gives tokens at 1 P.combiner (act P.combiner (Some kind))
sound_combiner tokens at (K.Mark M.CombinerAdd) place s = (lit≤ tt, refl, λ to below rest. (C.Add, M.CombinerAdd, refl, place, moved rest s))
sound_combiner tokens at (K.Mark M.CombinerMin) place s = (lit≤ tt, refl, λ to below rest. (C.Min, M.CombinerMin, refl, place, moved rest s))
sound_combiner tokens at (K.Mark M.CombinerMax) place s = (lit≤ tt, refl, λ to below rest. (C.Max, M.CombinerMax, refl, place, moved rest s))
sound_combiner tokens at (K.Mark M.CombinerLogand) place s = (lit≤ tt, refl, λ to below rest. (C.And, M.CombinerLogand, refl, place, moved rest s))
sound_combiner tokens at (K.Mark M.CombinerLogior) place s = (lit≤ tt, refl, λ to below rest. (C.Or, M.CombinerLogior, refl, place, moved rest s))
sound_combiner tokens at (K.Mark M.CombinerLogxor) place s = (lit≤ tt, refl, λ to below rest. (C.Xor, M.CombinerLogxor, refl, place, moved rest s))
sound_combiner tokens at other place s = tt

pub sound_direction : (tokens : List Token) (at : ℕ) (kind : Kind) (place : Place) → Stands tokens at kind place (at + 1) → Gives tokens at 1 P.direction (act P.direction (Some kind))
sound_direction tokens at (K.Mark M.Upward) place s = (lit≤ tt, refl, λ to below rest. (D.Upward, place, moved rest s))
sound_direction tokens at (K.Mark M.Downward) place s = (lit≤ tt, refl, λ to below rest. (D.Downward, place, moved rest s))
sound_direction tokens at other place s = tt

pub sound_mode : (tokens : List Token) (at : ℕ) (kind : Kind) (place : Place) → Stands tokens at kind place (at + 1) → Gives tokens at 1 P.segment_mode (act P.segment_mode (Some kind))
sound_mode tokens at (K.Mark M.NoSegments) place s = (lit≤ tt, refl, λ to below rest. (G.NoSegments, place, moved rest s))
sound_mode tokens at (K.Mark M.StartBit) place s = (lit≤ tt, refl, λ to below rest. (G.StartBit, place, moved rest s))
sound_mode tokens at (K.Mark M.SegmentBit) place s = (lit≤ tt, refl, λ to below rest. (G.SegmentBit, place, moved rest s))
sound_mode tokens at other place s = tt

pub sound_inclusion : (tokens : List Token) (at : ℕ) (kind : Kind) (place : Place) → Stands tokens at kind place (at + 1) → Gives tokens at 1 P.inclusion (act P.inclusion (Some kind))
sound_inclusion tokens at (K.Mark M.Inclusive) place s = (lit≤ tt, refl, λ to below rest. (I.Inclusive, place, moved rest s))
sound_inclusion tokens at (K.Mark M.Exclusive) place s = (lit≤ tt, refl, λ to below rest. (I.Exclusive, place, moved rest s))
sound_inclusion tokens at other place s = tt

pub sound_bit : (tokens : List Token) (at : ℕ) (kind : Kind) (place : Place) → Stands tokens at kind place (at + 1) → Gives tokens at 1 P.bit (act P.bit (Some kind))
sound_bit tokens at (K.Mark M.NoField) place s = (lit≤ tt, refl, λ to below rest. λ begin p comma. (None, O.no_bit comma (moved rest s)))
sound_bit tokens at (K.Mark M.Ampersand) place s = (lit≤ tt, refl, λ to below rest. λ begin p comma. (Some (record { word = rest.1.0; place = rest.1.1 }), O.bit comma s rest.1.2))
sound_bit tokens at other place s = tt

pub sound_name : (tokens : List Token) (at : ℕ) (kind : Kind) (place : Place) → Stands tokens at kind place (at + 1) → Gives tokens at 1 P.name (act P.name (Some kind))
sound_name tokens at (K.Name word) place s = (lit≤ tt, refl, λ to below rest. (word, place, moved rest s))
sound_name tokens at other place s = tt

pub sound_text : (tokens : List Token) (at : ℕ) (kind : Kind) (place : Place) → Stands tokens at kind place (at + 1) → Gives tokens at 1 P.text (act P.text (Some kind))
sound_text tokens at (K.Text text) place s = (lit≤ tt, refl, λ to below rest. (text, O.text_is (moved rest s)))
sound_text tokens at other place s = tt
