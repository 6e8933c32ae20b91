-- The grammar of types and of the shapes that they name.
use Rattle.std.specs.Prelude.{◌≡◌, ℕ, List, Bool, true, false, Some, None}
use Rattle.cstar_base.specs.declared.operators.Place.{Place}
use Rattle.cstar_base.specs.declared.elem.Elem.{Elem}
use Rattle.cstar_tree.specs.declared.token.Token.{Token}
use Rattle.cstar_tree.specs.declared.token.Kind.TheVariants as K
use Rattle.cstar_tree.specs.declared.token.Mark.TheVariants as M
use Rattle.cstar_tree.specs.declared.syntax.Name.{Name}
use Rattle.cstar_tree.specs.declared.syntax.ShapeRef.{ShapeRef}
use Rattle.cstar_tree.specs.declared.syntax.ShapeRef.TheVariants as S
use Rattle.cstar_tree.specs.declared.syntax.TypeName.{TypeName}
use Rattle.cstar_tree.specs.Positions.{Stands, StandsMark, token_place}

-- an `int`, or nothing
pub data IsOptionalInt (tokens : List Token) : ℕ → ℕ → Type 0 where
  absent : {from : ℕ} → IsOptionalInt tokens from from
  present : {from to : ℕ} {p : Place} → StandsMark tokens from M.Int p to → IsOptionalInt tokens from to

-- `char`, `short`, `int` and `long` with their bits; `short` and `long` may have an `int` behind
pub data IsWidth (tokens : List Token) : ℕ → ℕ → ℕ → Type 0 where
  char : {from to : ℕ} {p : Place} → StandsMark tokens from M.Char p to → IsWidth tokens from 8 to
  short : {from mid to : ℕ} {p : Place} → StandsMark tokens from M.Short p mid → IsOptionalInt tokens mid to → IsWidth tokens from 16 to
  int : {from to : ℕ} {p : Place} → StandsMark tokens from M.Int p to → IsWidth tokens from 32 to
  long : {from mid to : ℕ} {p : Place} → StandsMark tokens from M.Long p mid → IsOptionalInt tokens mid to → IsWidth tokens from 32 to

-- the words of an element type, with its bits and whether it is signed
pub data AreWords (tokens : List Token) : ℕ → ℕ → Bool → ℕ → Type 0 where
  bool : {from to : ℕ} {p : Place} → StandsMark tokens from M.Bool p to → AreWords tokens from 1 false to
  plain : {from to bits : ℕ} → IsWidth tokens from bits to → AreWords tokens from bits true to
  signed : {from mid to bits : ℕ} {p : Place} → StandsMark tokens from M.Signed p mid → IsWidth tokens mid bits to → AreWords tokens from bits true to
  unsigned : {from mid to bits : ℕ} {p : Place} → StandsMark tokens from M.Unsigned p mid → IsWidth tokens mid bits to → AreWords tokens from bits false to
  signed_alone : {from to : ℕ} {p : Place} → StandsMark tokens from M.Signed p to → AreWords tokens from 32 true to
  unsigned_alone : {from to : ℕ} {p : Place} → StandsMark tokens from M.Unsigned p to → AreWords tokens from 32 false to

abbrev pub IsElement : List Token → ℕ → Elem → ℕ → Type 0
IsElement tokens from elem to = AreWords tokens from elem.bits elem.signed to

-- the name of a shape, or `current`
pub data IsShape (tokens : List Token) : ℕ → ShapeRef → ℕ → Type 0 where
  named : {from to : ℕ} {name : Name} → Stands tokens from (K.Name name.word) name.place to → IsShape tokens from (S.Named name) to
  current : {from to : ℕ} {p : Place} → StandsMark tokens from M.Current p to → IsShape tokens from (S.Current p) to

-- an element type, with `:` and a shape behind that of a parallel one; it stands at its first token
pub data IsType (tokens : List Token) : ℕ → TypeName → ℕ → Type 0 where
  scalar : {from to : ℕ} {p : Place} {elem : Elem} → token_place tokens from ≡ Some p → IsElement tokens from elem to → IsType tokens from (record { place = p; elem = elem; shape = None }) to
  parallel : {from mid next to : ℕ} {p colon : Place} {elem : Elem} {shape : ShapeRef} → token_place tokens from ≡ Some p → IsElement tokens from elem mid → StandsMark tokens mid M.Colon colon next → IsShape tokens next shape to → IsType tokens from (record { place = p; elem = elem; shape = Some shape }) to
