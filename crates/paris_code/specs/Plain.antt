-- Images whose names are names and whose shapes are grids, as those that the compiler makes.
use Rattle.std.specs.Prelude.{◌≡◌, ℕ, ◌≤◌, Bool, true, ◌&&◌, ◌||◌, ◌==◌, ◌⊎◌, nat_le, List, [], ◌∷◌, ◌++◌, length, All, codes}
use Rattle.paris_code.specs.declared.program.Entry.{Entry}
use Rattle.paris_code.specs.declared.program.Final.{Final}
use Rattle.paris_code.specs.declared.program.Image.{Image}
use Rattle.paris_code.specs.declared.program.ShapeBits.{ShapeBits}

-- a byte is a letter or `_`; a digit; or one of these
abbrev pub begins_name : ℕ → Bool
begins_name byte = (nat_le 65 byte && nat_le byte 90) || ((nat_le 97 byte && nat_le byte 122) || byte == 95)

abbrev pub is_digit : ℕ → Bool
is_digit byte = nat_le 48 byte && nat_le byte 57

abbrev pub goes_on_name : ℕ → Bool
goes_on_name byte = begins_name byte || is_digit byte

abbrev pub IsName : List ℕ → Type 0
IsName [] = ⊥
IsName (byte ∷ bytes) = (begins_name byte ≡ true) × All (λ b. goes_on_name b ≡ true) bytes

-- decimal digits without a leading zero, however many
abbrev pub IsNumeral : List ℕ → Type 0
IsNumeral [] = ⊥
IsNumeral (digit ∷ digits) = All (λ b. is_digit b ≡ true) (digit ∷ digits) × (digit ≡ 48 → digits ≡ [])

-- a number in square brackets
abbrev pub IsBracketed : List ℕ → Type 0
IsBracketed text = (digits : List ℕ) × IsNumeral digits × (text ≡ codes "[" ++ (digits ++ codes "]"))

-- a name, or a name with a number in brackets behind it, as of an element of an array
abbrev pub IsElementName : List ℕ → Type 0
IsElementName name = IsName name ⊎ ((array : List ℕ) × ((brackets : List ℕ) × IsName array × IsBracketed brackets × (name ≡ array ++ brackets)))

abbrev pub unit_name : Entry → List ℕ
unit_name entry = entry.name

abbrev pub final_name : Final → List ℕ
final_name last = last.name

abbrev pub HasAxis : ShapeBits → Type 0
HasAxis shape = 1 ≤ length shape.extents.items

-- the units have names, the finals those of variables or of elements, and the shapes an axis at least
abbrev pub AreUnitNames : List Entry → Type 0
AreUnitNames units = All (λ entry. IsName (unit_name entry)) units

abbrev pub AreFinalNames : List Final → Type 0
AreFinalNames finals = All (λ last. IsElementName (final_name last)) finals

abbrev pub AreGrids : List ShapeBits → Type 0
AreGrids shapes = All HasAxis shapes

pub record IsPlain (image : Image) : Type 0 where
  pub units : AreUnitNames image.units.items
  pub finals : AreFinalNames image.finals.items
  pub shapes : AreGrids image.shapes.items
