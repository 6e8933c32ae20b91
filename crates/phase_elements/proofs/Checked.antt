-- Whether a check fails at a processor rests on the bits of this processor alone.
use Rattle.std.proofs.Common.{◌≡◌, ℕ, Bool, eqb, List, [], ◌∷◌, All, ◌∙◌, ap, refl}
use Rattle.std.specs.Prelude.{◌||◌}
use Rattle.std.proofs.lemmas.List.Elements.{All-head, All-tail}
use Rattle.cstar_base.specs.Numbers.{number_of}
use Rattle.paris_code.specs.declared.operands.Coordinate.{Coordinate}
use Rattle.paris_code.specs.declared.operands.Coordinate.TheVariants as C
use Rattle.paris_code.specs.declared.operands.SignedCoordinate.{SignedCoordinate}
use Rattle.paris_code.specs.declared.instr.Instr.{Instr}
use Rattle.paris_code.specs.declared.instr.Instr.TheVariants as I
use Rattle.paris_code.specs.Arguments.{coordinate_whole, behind_coordinate}
use Rattle.paris_code.specs.Checking.{any_outside, checked_set, fails, is_outside, is_signed}
use Rattle.paris_code.specs.Memory.{BitMemory, whole_number}
use Rattle.paris_code.specs.Operands.{coordinate_of}
use Rattle.paris_code.specs.Shapes.{SetShape, extents_at}
use Rattle.phase_meaning.specs.Apply.{CanApply}
use Rattle.phase_elements.specs.Reads.{IsCoordinateIn}
use Rattle.phase_elements.proofs.Coordinates.{checked_in}
use Rattle.phase_meaning.proofs.FieldLemmas.{lies}
use Rattle.phase_meaning.proofs.Locality.{AgreeAt, field_same}

abbrev AgreesAt : List SetShape → ℕ → BitMemory → BitMemory → ℕ → Type 0
AgreesAt shapes p m n set = AgreeAt shapes set p m n

whole_same : (shapes : List SetShape) (m n : BitMemory) (p : ℕ) (signed : Bool) (c : Coordinate) (args : List ℕ) → IsCoordinateIn shapes (AgreesAt shapes p m n) c → coordinate_whole m signed c args p ≡ coordinate_whole n signed c args p
unfolding whole_number
whole_same shapes m n p signed (C.Field f) args at = ap (number_of f.len signed) (field_same shapes m n f p at.0 at.1)
whole_same shapes m n p signed (C.Reg r) args at = refl

outside_same : (shapes : List SetShape) (m n : BitMemory) (p : ℕ) (extents : List ℕ) (cs : List SignedCoordinate) (args : List ℕ)
    → All (λ c. IsCoordinateIn shapes (AgreesAt shapes p m n) (coordinate_of c)) cs → any_outside m extents cs args p ≡ any_outside n extents cs args p
outside_same shapes m n p [] cs args at = refl
outside_same shapes m n p (e ∷ es) [] args at = refl
outside_same shapes m n p (e ∷ es) (c ∷ cs) args at =
    let In : SignedCoordinate → Type 0 = λ c. IsCoordinateIn shapes (AgreesAt shapes p m n) (coordinate_of c) in
    ap (λ z. is_outside e z || any_outside m es cs (behind_coordinate (coordinate_of c) args) p) (whole_same shapes m n p (is_signed c) (coordinate_of c) args (All-head In c cs at))
    ∙ ap (λ t. is_outside e (coordinate_whole n (is_signed c) (coordinate_of c) args p) || t) (outside_same shapes m n p es cs (behind_coordinate (coordinate_of c) args) (All-tail In c cs at))

pub fails_same : (shapes : List SetShape) (instr : Instr) (args : List ℕ) (m n : BitMemory) (p : ℕ) → CanApply shapes instr args → AgreeAt shapes (checked_set instr) p m n
    → fails shapes instr args m p ≡ fails shapes instr args n p
fails_same shapes (I.CheckTarget set place coordinates) args m n p can agree =
    outside_same shapes m n p (extents_at shapes set) coordinates.items args (checked_in shapes can.slots set coordinates.items (AgreesAt shapes p m n) can.field can.set.1.0 can.operands agree)
fails_same shapes (I.CheckGrid set place steps) args m n p can agree = refl
fails_same shapes (I.CheckDivisor place a) args m n p can agree = ap (λ x. eqb x 0) (field_same shapes m n a p (lies shapes a can.field can.set) agree)
fails_same shapes _ args m n p can agree = refl
