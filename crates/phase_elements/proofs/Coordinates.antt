-- The coordinates of an instruction are of a set whose processors can be read.
use Rattle.std.proofs.Common.{◌≡◌, ℕ, List, All, get_or, refl, subst, sym}
use Rattle.paris_code.specs.declared.operands.Field.{Field}
use Rattle.paris_code.specs.declared.operands.Coordinate.{Coordinate}
use Rattle.paris_code.specs.declared.operands.Coordinate.TheVariants as C
use Rattle.paris_code.specs.declared.operands.SignedCoordinate.{SignedCoordinate}
use Rattle.paris_code.specs.Checking.{set_of_coordinates}
use Rattle.paris_code.specs.Operands.{coordinate_of}
use Rattle.paris_code.specs.RuleField.{CoordinateFits}
use Rattle.paris_code.specs.RuleOperands.{IsWith, CoordinateIsWith}
use Rattle.paris_code.specs.RuleSet.{FieldExists, CoordinateExists}
use Rattle.paris_code.specs.Shapes.{SetShape}
use Rattle.phase_elements.specs.Reads.{IsCoordinateIn}
use Rattle.phase_meaning.proofs.FieldLemmas.{AreAllTogether, lies, of_set}

-- another field of the set of one that can be read
pub with_reads : (shapes : List SetShape) (d a : Field) (reads : ℕ → Type 0) → FieldExists shapes d → FieldExists shapes a → IsWith shapes d a → reads d.set → reads a.set
with_reads shapes d a reads exists there with can = subst reads (with exists there) can

coordinate_in : (shapes : List SetShape) (slots : ℕ) (d : Field) (reads : ℕ → Type 0) (c : Coordinate) → FieldExists shapes d → reads d.set → CoordinateFits shapes slots c → CoordinateExists shapes c → CoordinateIsWith shapes d c → IsCoordinateIn shapes reads c
coordinate_in shapes slots d reads (C.Field f) exists can fits there with = (lies shapes f fits there, with_reads shapes d f reads exists there with can)
coordinate_in shapes slots d reads (C.Reg r) exists can fits there with = tt

in_set : (shapes : List SetShape) (slots set : ℕ) (reads : ℕ → Type 0) (c : Coordinate) → reads set → CoordinateFits shapes slots c → CoordinateExists shapes c → ((f : Field) → c ≡ C.Field f → f.set ≡ set) → IsCoordinateIn shapes reads c
in_set shapes slots set reads (C.Field f) can fits there same = (lies shapes f fits there, subst reads (sym (same f refl)) can)
in_set shapes slots set reads (C.Reg r) can fits there same = tt

-- and so are those that are checked
pub checked_in : (shapes : List SetShape) (slots target : ℕ) (cs : List SignedCoordinate) (reads : ℕ → Type 0) → All (λ c. CoordinateFits shapes slots (coordinate_of c)) cs → All (λ c. CoordinateExists shapes (coordinate_of c)) cs → AreAllTogether shapes cs
    → reads (set_of_coordinates target cs) → All (λ c. IsCoordinateIn shapes reads (coordinate_of c)) cs
checked_in shapes slots target cs reads fit there pairs can = λ k d b.
    in_set shapes slots (set_of_coordinates target cs) reads (coordinate_of (get_or cs k d)) can (fit k d b) (there k d b) (λ f is. of_set shapes target cs there pairs k d b f is)
