-- What bytes a token of each kind is.
use Rattle.std.specs.Prelude.{◌≡◌, ℕ, true, Some, None, List, take, slice_index}
use Rattle.std.specs.List.{prefix_len}
use Rattle.cstar_tree.specs.declared.token.Kind.{Kind}
use Rattle.cstar_tree.specs.declared.token.Kind.TheVariants as K
use Rattle.cstar_tree.specs.declared.token.Mark.{Mark}
use Rattle.cstar_lexer.specs.declared.number.Number.{Number}
use Rattle.cstar_lexer.specs.Bytes.{goes_on, is_letter}
use Rattle.cstar_lexer.specs.Marks.{IsLongestMark, word_bytes}
use Rattle.cstar_lexer.specs.Names.{Names, number_of_name}
use Rattle.cstar_lexer.specs.Numbers.{IsNumber}
use Rattle.cstar_lexer.specs.Quoted.{IsCharacter, IsQuoted}

-- the first n bytes are a `_` or letter and all letters, digits and `_` behind it
pub record IsWord (bytes : List ℕ) (n : ℕ) : Type 0 where
  pub begins : is_letter (slice_index bytes 0) ≡ true
  pub run : n ≡ prefix_len goes_on bytes

-- a name that is no reserved word
abbrev pub IsFree : List ℕ → Type 0
IsFree name = (mark : Mark) → word_bytes mark ≡ name → ⊥

-- a word is a reserved word, a defined name, which stands for its number, or a name
pub data IsNamed (names : Names) (word : List ℕ) : Kind → Type 0 where
  reserved : {mark : Mark} → word_bytes mark ≡ word → IsNamed names word (K.Mark mark)
  defined : {number : Number} → IsFree word → number_of_name names word ≡ Some number → IsNamed names word (K.Num number.value number.unsigned)
  name : IsFree word → number_of_name names word ≡ None → IsNamed names word (K.Name word)

-- the first n bytes are a token of this kind, the longest that begins here
pub data IsToken (names : Names) (bytes : List ℕ) : ℕ → Kind → Type 0 where
  word : {n : ℕ} {kind : Kind} → IsWord bytes n → IsNamed names (take n bytes) kind → IsToken names bytes n kind
  constant : {n : ℕ} {number : Number} → IsNumber bytes n number → IsToken names bytes n (K.Num number.value number.unsigned)
  character : {n : ℕ} {number : Number} → IsCharacter bytes n number → IsToken names bytes n (K.Num number.value number.unsigned)
  text : {n : ℕ} {word : List ℕ} → IsQuoted bytes n word → IsToken names bytes n (K.Text word)
  mark : {n : ℕ} {mark : Mark} → IsLongestMark bytes n mark → IsToken names bytes n (K.Mark mark)
