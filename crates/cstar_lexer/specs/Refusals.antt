-- The lexical faults of a text, and which of them is the first.
use Rattle.std.specs.Prelude.{◌≡◌, ℕ, ◌+◌, ◌<◌, Bool, true, false, List, length, take, drop, slice_index}
use Rattle.cstar_base.specs.Faults.{number_of}
use Rattle.cstar_base.specs.declared.faults.Fault.{Fault}
use Rattle.cstar_base.specs.declared.faults.Fault.TheVariants as F
use Rattle.cstar_tree.specs.declared.token.Token.{Token}
use Rattle.cstar_lexer.specs.declared.fault.LexFault.{LexFault}
use Rattle.cstar_lexer.specs.declared.fault.LexFault.TheVariants as L
use Rattle.cstar_lexer.specs.Bytes.{is_figure, is_letter}
use Rattle.cstar_lexer.specs.Comments.{IsComment, OpensComment}
use Rattle.cstar_lexer.specs.Directives.{LineFault}
use Rattle.cstar_lexer.specs.Faults.{IsFirst}
use Rattle.cstar_lexer.specs.Marks.{HasNoMark}
use Rattle.cstar_lexer.specs.Names.{Names}
use Rattle.cstar_lexer.specs.Numbers.{NumberFault}
use Rattle.cstar_lexer.specs.Places.{place_at}
use Rattle.cstar_lexer.specs.Quoted.{CharacterFault, TextFault}
use Rattle.cstar_lexer.specs.Reading.{IsBlank, IsLine, IsNext, Point, text_begin}

-- a byte that begins no token
pub record BeginsNoToken (bytes : List ℕ) : Type 0 where
  pub some : 0 < length bytes
  pub no_word : is_letter (slice_index bytes 0) ≡ false
  pub no_constant : is_figure (slice_index bytes 0) ≡ false
  pub no_character : slice_index bytes 0 ≡ 39 → ⊥
  pub no_text : slice_index bytes 0 ≡ 34 → ⊥
  pub no_mark : HasNoMark bytes

-- the faults in place of a token, with their offsets
pub data TokenFault (bytes : List ℕ) : Fault → ℕ → Type 0 where
  constant : {fault : Fault} {offset : ℕ} → NumberFault bytes fault offset → TokenFault bytes fault offset
  character : {fault : Fault} {offset : ℕ} → CharacterFault bytes fault offset → TokenFault bytes fault offset
  text : {fault : Fault} {offset : ℕ} → TextFault bytes fault offset → TokenFault bytes fault offset
  byte : BeginsNoToken bytes → TokenFault bytes F.BadByte 0

-- the faults in place of a piece: a comment that is not closed, those of a directive line and those
-- of a token
pub data FaultHere (fresh : Bool) (names : Names) (bytes : List ℕ) : Fault → ℕ → Type 0 where
  comment : OpensComment bytes → ((n : ℕ) → IsComment bytes n → ⊥) → FaultHere fresh names bytes F.Open 0
  line : {fault : Fault} {n offset : ℕ} → fresh ≡ true → IsLine bytes n → LineFault names (take n bytes) fault offset → FaultHere fresh names bytes fault offset
  token : {fault : Fault} {offset : ℕ} → (IsBlank (slice_index bytes 0) → ⊥) → (fresh ≡ true → slice_index bytes 0 ≡ 35 → ⊥) → TokenFault bytes fault offset → FaultHere fresh names bytes fault offset

-- this fault stands at this offset of the text, and between a point and its piece are only pieces
pub data FaultStands (bytes : List ℕ) : Point → Fault → ℕ → Type 0 where
  here : {from : Point} {fault : Fault} {offset at : ℕ} → FaultHere from.fresh from.names (drop from.at bytes) fault at → offset ≡ from.at + at → FaultStands bytes from fault offset
  later : {from to : Point} {tokens : List Token} {fault : Fault} {offset : ℕ} → IsNext bytes from to tokens → FaultStands bytes to fault offset → FaultStands bytes from fault offset

-- no fault stands in a text
abbrev pub IsFaultless : List ℕ → Type 0
IsFaultless bytes = (fault : Fault) (offset : ℕ) → FaultStands bytes text_begin fault offset → ⊥

-- the first fault of a text, told by its number and place; want of memory tells nothing of the text
abbrev pub IsFirstFault : List ℕ → LexFault → Type 0
IsFirstFault bytes (L.Fault number place) = (fault : Fault) × (offset : ℕ) × IsFirst (FaultStands bytes text_begin) fault offset × (number ≡ number_of fault) × (place ≡ place_at bytes offset)
IsFirstFault bytes L.Memory = Unit {0}
