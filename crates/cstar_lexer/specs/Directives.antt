-- The lines that begin with a `#`.
use Rattle.std.specs.Prelude.{◌≡◌, ℕ, ◌+◌, ◌^◌, ◌≤◌, ◌⊎◌, Bool, true, Some, None, List, [], ◌∷◌, ◌++◌, codes, length, take, drop, slice_index}
use Rattle.std.specs.List.{prefix_len}
use Rattle.cstar_base.specs.declared.faults.Fault.{Fault}
use Rattle.cstar_base.specs.declared.faults.Fault.TheVariants as F
use Rattle.cstar_lexer.specs.declared.number.Number.{Number}
use Rattle.cstar_lexer.specs.Bytes.{goes_on, is_figure, is_inner_blank, is_letter}
use Rattle.cstar_lexer.specs.Comments.{IsComment}
use Rattle.cstar_lexer.specs.Constants.{IsLongestConstant}
use Rattle.cstar_lexer.specs.Names.{Names, number_of_name}
use Rattle.cstar_lexer.specs.Numbers.{IsNumberOf}
use Rattle.cstar_lexer.specs.Tokens.{IsFree}

-- what stands behind the blanks at the beginning
unfoldable pub behind_blanks : List ℕ → List ℕ
behind_blanks bytes = drop (prefix_len is_inner_blank bytes) bytes

-- what stands behind one blank or more
abbrev pub IsBehindBlanks : List ℕ → List ℕ → Type 0
IsBehindBlanks bytes rest = (is_inner_blank (slice_index bytes 0) ≡ true) × (rest ≡ behind_blanks bytes)

-- only blanks and comments that close on the line stand here to its end
pub data IsEmptyEnd : List ℕ → Type 0 where
  nothing : {bytes : List ℕ} → bytes ≡ [] → IsEmptyEnd bytes
  blank : {bytes : List ℕ} → is_inner_blank (slice_index bytes 0) ≡ true → IsEmptyEnd (drop 1 bytes) → IsEmptyEnd bytes
  comment : {n : ℕ} {bytes : List ℕ} → IsComment bytes n → IsEmptyEnd (drop n bytes) → IsEmptyEnd bytes

-- what stands behind the `#`
abbrev pub behind_hash : List ℕ → List ℕ
behind_hash line = behind_blanks (drop 1 line)

-- the name of a header and nothing else
abbrev pub IsHeader : List ℕ → Type 0
IsHeader bytes = ((take 9 bytes ≡ codes "<stdio.h>") × IsEmptyEnd (drop 9 bytes)) ⊎ ((take 10 bytes ≡ codes "<cscomm.h>") × IsEmptyEnd (drop 10 bytes))

-- `#include <stdio.h>` or `#include <cscomm.h>`
pub record IsInclude (line : List ℕ) : Type 0 where
  pub header : List ℕ
  pub word : take 7 (behind_hash line) ≡ codes "include"
  pub parted : IsBehindBlanks (drop 7 (behind_hash line)) header
  pub known : IsHeader header

-- `#define NAME constant`; the constant begins at an offset of the line
pub record IsDefine (line name : List ℕ) (at value : ℕ) (suffixed : Bool) : Type 0 where
  pub named : List ℕ
  pub valued : List ℕ
  pub long : ℕ
  pub word : take 6 (behind_hash line) ≡ codes "define"
  pub name_parted : IsBehindBlanks (drop 6 (behind_hash line)) named
  pub begins : is_letter (slice_index named 0) ≡ true
  pub name_is : name ≡ take (prefix_len goes_on named) named
  pub free : IsFree name
  pub value_parted : IsBehindBlanks (drop (prefix_len goes_on named) named) valued
  pub figure : is_figure (slice_index valued 0) ≡ true
  pub constant : IsLongestConstant valued long value suffixed
  pub ends : IsEmptyEnd (drop long valued)
  pub place : at + length valued ≡ length line

-- an accepted line, and the names before and behind it; a second definition is the same as the first
pub data IsDirective (old : Names) (line : List ℕ) (new : Names) : Type 0 where
  include : IsInclude line → new ≡ old → IsDirective old line new
  define : {name : List ℕ} {at value : ℕ} {suffixed : Bool} {number : Number} → IsDefine line name at value suffixed → IsNumberOf value suffixed number → number_of_name old name ≡ None → new ≡ old ++ (name, number) ∷ [] → IsDirective old line new
  again : {name : List ℕ} {at value : ℕ} {suffixed : Bool} {number : Number} → IsDefine line name at value suffixed → IsNumberOf value suffixed number → number_of_name old name ≡ Some number → new ≡ old → IsDirective old line new

-- a line is neither of the two
abbrev pub IsUnknown : List ℕ → Type 0
IsUnknown line = (IsInclude line → ⊥) × ((name : List ℕ) (at value : ℕ) (suffixed : Bool) → IsDefine line name at value suffixed → ⊥)

-- the faults of a line that begins with a `#`: it is no accepted one, among them a second, different
-- definition, or its constant is above 4294967295
pub data LineFault (names : Names) (line : List ℕ) : Fault → ℕ → Type 0 where
  unknown : IsUnknown line → LineFault names line F.Directive 0
  other : {name : List ℕ} {at value : ℕ} {suffixed : Bool} {number : Number} → IsDefine line name at value suffixed → number_of_name names name ≡ Some number → (IsNumberOf value suffixed number → ⊥) → LineFault names line F.Directive 0
  wide : {name : List ℕ} {at value : ℕ} {suffixed : Bool} → IsDefine line name at value suffixed → 2 ^ 32 ≤ value → LineFault names line F.Wide at
