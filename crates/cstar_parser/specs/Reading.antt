-- What the reader answers: a part of the tree with the spot behind it, or a fault.
use Rattle.std.specs.Prelude.{◌≡◌, ℕ, ◌≤◌, ◌<◌, List, length, Some, Result, Ok, Err}
use Rattle.cstar_base.specs.declared.operators.Place.{Place}
use Rattle.cstar_tree.specs.declared.token.Token.{Token}
use Rattle.cstar_tree.specs.declared.token.Kind.{Kind}
use Rattle.cstar_tree.specs.declared.token.Kind.TheVariants as K
use Rattle.cstar_tree.specs.declared.token.Mark.{Mark}
use Rattle.cstar_tree.specs.declared.syntax.Name.{Name}
use Rattle.cstar_tree.specs.Positions.{Stands, StandsMark, token_kind}
use Rattle.cstar_parser.specs.declared.fault.ParseFault.{ParseFault}
use Rattle.cstar_parser.specs.declared.spot.Spot.{Spot}
use Rattle.cstar_parser.specs.Faults.{IsAmong}

-- the tokens between two spots spell the part, which fits the bounds with the operators that were
-- counted before and behind it
pub record IsRead {A : Type 0} (spells : List Token → ℕ → A → ℕ → Type 0) (bounds : A → ℕ → ℕ → Type 0) (tokens : List Token) (old : Spot) (part : A) (new : Spot) : Type 0 where
  pub spelled : spells tokens old.at part new.at
  pub fits : bounds part old.operators new.operators
  pub forward : old.at < new.at
  pub inside : new.at ≤ length tokens

-- such a part is answered, or a fault at one of the tokens
abbrev pub Reads : {A : Type 0} → (List Token → ℕ → A → ℕ → Type 0) → (A → ℕ → ℕ → Type 0) → List Token → Spot → Spot → Result A ParseFault → Type 0
Reads spells bounds tokens old new (Ok part) = IsRead spells bounds tokens old part new
Reads spells bounds tokens old new (Err fault) = IsAmong (length tokens) fault

-- the same of a part that may be left out
pub record IsReadMaybe {A : Type 0} (spells : List Token → ℕ → A → ℕ → Type 0) (bounds : A → ℕ → ℕ → Type 0) (tokens : List Token) (old : Spot) (part : A) (new : Spot) : Type 0 where
  pub spelled : spells tokens old.at part new.at
  pub fits : bounds part old.operators new.operators
  pub forward : old.at ≤ new.at
  pub inside : new.at ≤ length tokens

abbrev pub ReadsMaybe : {A : Type 0} → (List Token → ℕ → A → ℕ → Type 0) → (A → ℕ → ℕ → Type 0) → List Token → Spot → Spot → Result A ParseFault → Type 0
ReadsMaybe spells bounds tokens old new (Ok part) = IsReadMaybe spells bounds tokens old part new
ReadsMaybe spells bounds tokens old new (Err fault) = IsAmong (length tokens) fault

-- ---- single tokens

-- a token of whatever kind, at its place
abbrev pub IsToken : List Token → ℕ → Place → ℕ → Type 0
IsToken tokens from place to = (kind : Kind) → token_kind tokens from ≡ Some kind → Stands tokens from kind place to

abbrev pub IsMark : Mark → List Token → ℕ → Place → ℕ → Type 0
IsMark mark tokens from place to = StandsMark tokens from mark place to

abbrev pub IsName : List Token → ℕ → Name → ℕ → Type 0
IsName tokens from name to = Stands tokens from (K.Name name.word) name.place to
