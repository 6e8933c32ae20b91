-- What the image rules on fields give the phases.
use Rattle.std.proofs.Common.{◌≡◌, ℕ, Option, Some, None, zero, suc, [], ◌∷◌, ◌<◌, List, length, subst, map, get_or, All, sym, ap, ◌∙◌, refl, true, lit≤, arith}
use Rattle.paris_code.specs.declared.operands.Field.{Field}
use Rattle.std.proofs.lemmas.List.{get_or-map, length-map}
use Rattle.paris_code.specs.declared.operands.Coordinate.{Coordinate}
use Rattle.paris_code.specs.declared.operands.Coordinate.TheVariants as C
use Rattle.paris_code.specs.declared.operands.SignedCoordinate.{SignedCoordinate}
use Rattle.paris_code.specs.declared.program.ShapeBits.{ShapeBits}
use Rattle.paris_code.specs.Operands.{coordinate_of}
use Rattle.std.specs.Prelude.{IfSome}
use Rattle.cstar_base.specs.declared.operators.Direction.{Direction}
use Rattle.cstar_base.specs.declared.operators.Inclusion.{Inclusion}
use Rattle.cstar_base.specs.declared.operators.SegmentMode.{SegmentMode}
use Rattle.cstar_base.specs.declared.operators.SegmentMode.TheVariants as M
use Rattle.paris_code.specs.declared.operands.Reduction.{Reduction}
use Rattle.paris_code.specs.Shapes.{SetShape, no_shape, shape_of, rank_at}
use Rattle.paris_code.specs.declared.instr.Instr.{Instr}
use Rattle.paris_code.specs.declared.instr.Instr.TheVariants as I
use Rattle.paris_code.specs.Checking.{set_or_later, set_of_coordinates}
use Rattle.paris_code.specs.Elementwise.{is_elementwise, destination}
use Rattle.paris_code.specs.Memory.{context_run, test_run}
use Rattle.paris_code.specs.Sound.{IsShape}
use Rattle.paris_code.specs.RuleField.{Fits, CoordinateFits, ScanBitFits}
use Rattle.paris_code.specs.RuleOperands.{IsWith, CoordinateIsWith, AreTogether, BitIsWith}
use Rattle.paris_code.specs.RuleSet.{FieldExists, CoordinateExists, BitExists}
use Rattle.phase_meaning.specs.Apply.{IsPosition, LiesIn, IsCoordinateAt, CanApply, IsRun, active_set, looked_at}

-- a field that fits and whose set exists lies in its set
pub lies : (shapes : List SetShape) (f : Field) → Fits shapes f → FieldExists shapes f → LiesIn shapes f
lies shapes f fits exists = let in_set = fits exists in (exists, in_set.0, in_set.1, in_set.2)

-- fields of one set have the same positions
pub same_positions : (shapes : List SetShape) (f other : Field) (position : ℕ) → FieldExists shapes f → FieldExists shapes other → IsWith shapes f other → IsPosition shapes f.set position → IsPosition shapes other.set position
same_positions shapes f other position exists other_exists with at =
    let family : ℕ → Type 0 = λ set. IsPosition shapes set position in
    subst family (with exists other_exists) at

coordinate_at : (shapes : List SetShape) (slots : ℕ) (d : Field) (position : ℕ) (c : Coordinate) → FieldExists shapes d → IsPosition shapes d.set position → CoordinateFits shapes slots c → CoordinateExists shapes c → CoordinateIsWith shapes d c → IsCoordinateAt shapes position c
coordinate_at shapes slots d position (C.Field f) exists at fits there with = (lies shapes f fits there, same_positions shapes d f position exists there with at)
coordinate_at shapes slots d position (C.Reg r) exists at fits there with = tt

-- and have the positions of the set that they are of
pub coordinates_at : (shapes : List SetShape) (slots : ℕ) (d : Field) (position : ℕ) (cs : List Coordinate) → FieldExists shapes d → IsPosition shapes d.set position → All (CoordinateFits shapes slots) cs → All (CoordinateExists shapes) cs → All (CoordinateIsWith shapes d) cs → All (IsCoordinateAt shapes position) cs
coordinates_at shapes slots d position cs exists at fit there with = λ k e within. coordinate_at shapes slots d position (get_or cs k e) exists at (fit k e within) (there k e within) (with k e within)

-- each shape of a list of grids is one
pub shape_kept : (shapes : List ShapeBits) (k : ℕ) (shape : ShapeBits) → All IsShape (map shape_of shapes) → k < length shapes → shape ≡ get_or shapes k shape → IsShape (shape_of shape)
shape_kept shapes k shape all within is =
    let family : SetShape → Type 0 = λ s. IsShape s in
    let at : ShapeBits → Type 0 = λ s. IsShape (shape_of s) in
    subst at (sym is) (subst family (get_or-map shape_of shapes k shape no_shape within) (all k no_shape (rw length-map within)))

-- the destination of an elementwise instruction is a run of the set that does it
abbrev Runs : List SetShape → Instr → Type 0
Runs shapes instr = IsRun shapes (destination shapes instr) × ((destination shapes instr).set ≡ active_set instr)

field_runs : (shapes : List SetShape) (f : Field) → Fits shapes f → FieldExists shapes f → IsRun shapes f
field_runs shapes f fits exists = let in_set = fits exists in (exists, in_set.0, in_set.1, omega (arith, in_set.2))

flag_runs : (shapes : List SetShape) (set : ℕ) → set < length shapes → IsRun shapes (context_run shapes set) × IsRun shapes (test_run shapes set)
flag_runs shapes set exists = ((exists, lit≤ tt, lit≤ tt, omega arith), (exists, lit≤ tt, lit≤ tt, omega arith))

pub destination_runs : (shapes : List SetShape) (instr : Instr) (args : List ℕ) → CanApply shapes instr args → is_elementwise instr ≡ true → Runs shapes instr
destination_runs shapes (I.Move signed d a) args can is = (field_runs shapes d can.field.0 can.set.0, refl)
destination_runs shapes (I.MoveConstant d k) args can is = (field_runs shapes d can.field.0 can.set, refl)
destination_runs shapes (I.MoveZeroAlways d) args can is = (field_runs shapes d can.field can.set, refl)
destination_runs shapes (I.MoveAlways d a) args can is = (field_runs shapes d can.field.0 can.set.0, refl)
destination_runs shapes (I.MyNewsCoordinate d axis) args can is = (field_runs shapes d can.field can.set.0, refl)
destination_runs shapes (I.MakeAddress d set coordinates) args can is = (field_runs shapes d can.field.0 can.set.0, refl)
destination_runs shapes (I.Operate op d a b) args can is = (field_runs shapes d can.field.0 can.set.0, refl)
destination_runs shapes (I.OperateConstant op d a k) args can is = (field_runs shapes d can.field.0 can.set.0, refl)
destination_runs shapes (I.Negate d a) args can is = (field_runs shapes d can.field.0 can.set.0, refl)
destination_runs shapes (I.Lognot d a) args can is = (field_runs shapes d can.field.0 can.set.0, refl)
destination_runs shapes (I.Compare relation a b) args can is = ((flag_runs shapes a.set can.set.0).1, refl)
destination_runs shapes (I.EqZero a) args can is = ((flag_runs shapes a.set can.set).1, refl)
destination_runs shapes (I.NeZero a) args can is = ((flag_runs shapes a.set can.set).1, refl)
destination_runs shapes (I.LoadTest a) args can is = ((flag_runs shapes a.set can.set).1, refl)
destination_runs shapes (I.StoreTest d) args can is = (field_runs shapes d can.field.0 can.set, refl)
destination_runs shapes (I.LoadContext a) args can is = ((flag_runs shapes a.set can.set).0, refl)
destination_runs shapes (I.StoreContext d) args can is = (field_runs shapes d can.field.0 can.set, refl)
destination_runs shapes (I.SetContext set) args can is = ((flag_runs shapes set can.set).0, refl)
destination_runs shapes (I.LogandContextWithTest set) args can is = ((flag_runs shapes set can.set).0, refl)
destination_runs shapes (I.LogandcContextWithTest set) args can is = ((flag_runs shapes set can.set).0, refl)
destination_runs shapes _ args can is = cc

-- the fields among coordinates that are checked are of the set whose processors check
abbrev pub AreAllTogether : List SetShape → List SignedCoordinate → Type 0
AreAllTogether shapes cs = All (λ c. All (λ e. AreTogether shapes (coordinate_of c) (coordinate_of e)) cs) cs

pub of_set : (shapes : List SetShape) (target : ℕ) (cs : List SignedCoordinate) → All (λ c. CoordinateExists shapes (coordinate_of c)) cs → AreAllTogether shapes cs
    → (k : ℕ) (d : SignedCoordinate) → k < length cs → (f : Field) → coordinate_of (get_or cs k d) ≡ C.Field f → f.set ≡ set_of_coordinates target cs
of_set shapes target [] there pairs k d b f is = absurd (omega arith)
of_set shapes target (c ∷ cs) there pairs k d b f is =
    first (λ j l at. of_set shapes target cs (λ i x h. there (suc i) x (omega arith)) (λ i x h i' x' h'. pairs (suc i) x (omega arith) (suc i') x' (omega arith)) j d l f at) (coordinate_of c) refl
  where
    later : ((j : ℕ) → j < length cs → coordinate_of (get_or cs j d) ≡ C.Field f → f.set ≡ set_of_coordinates target cs)
        → (j : ℕ) → j < length (c ∷ cs) → (r : ℕ) → coordinate_of c ≡ C.Reg r → coordinate_of (get_or (c ∷ cs) j d) ≡ C.Field f → f.set ≡ set_of_coordinates target cs
    later rest zero h r e at = cc
    later rest (suc j) h r e at = rest j (omega arith) at

    first : ((j : ℕ) → j < length cs → coordinate_of (get_or cs j d) ≡ C.Field f → f.set ≡ set_of_coordinates target cs)
        → (q : Coordinate) → coordinate_of c ≡ q → f.set ≡ set_or_later (coordinate_of c) (set_of_coordinates target cs)
    first rest (C.Field g) e =
        let pair : IsWith shapes g f =
        subst (λ (q : Coordinate). AreTogether shapes (C.Field g) q) is (subst (λ (q : Coordinate). AreTogether shapes q (coordinate_of (get_or (c ∷ cs) k d))) e (pairs 0 d (omega arith) k d b)) in
        sym (pair (subst (λ (q : Coordinate). CoordinateExists shapes q) e (there 0 d (omega arith))) (subst (λ (q : Coordinate). CoordinateExists shapes q) is (there k d b)))
        ∙ sym (ap (λ q. set_or_later q (set_of_coordinates target cs)) e)
    first rest (C.Reg r) e = later rest k b r e is ∙ sym (ap (λ q. set_or_later q (set_of_coordinates target cs)) e)

at_set : (shapes : List SetShape) (slots set p : ℕ) (c : Coordinate) → IsPosition shapes set p → CoordinateFits shapes slots c → CoordinateExists shapes c → ((f : Field) → c ≡ C.Field f → f.set ≡ set) → IsCoordinateAt shapes p c
at_set shapes slots set p (C.Field f) at fits there same = (lies shapes f fits there, subst (λ s. IsPosition shapes s p) (sym (same f refl)) at)
at_set shapes slots set p (C.Reg r) at fits there same = tt

-- so they have its positions
pub checked_at : (shapes : List SetShape) (slots target : ℕ) (cs : List SignedCoordinate) → All (λ c. CoordinateFits shapes slots (coordinate_of c)) cs → All (λ c. CoordinateExists shapes (coordinate_of c)) cs → AreAllTogether shapes cs
    → (p : ℕ) → IsPosition shapes (set_of_coordinates target cs) p → All (λ c. IsCoordinateAt shapes p (coordinate_of c)) cs
checked_at shapes slots target cs fit there pairs p at = λ k d b.
    at_set shapes slots (set_of_coordinates target cs) p (coordinate_of (get_or cs k d)) at (fit k d b) (there k d b) (λ f is. of_set shapes target cs there pairs k d b f is)

-- and it exists
pub own_exists : (shapes : List SetShape) (target : ℕ) (cs : List SignedCoordinate) → target < length shapes → All (λ c. CoordinateExists shapes (coordinate_of c)) cs → set_of_coordinates target cs < length shapes
own_exists shapes target [] exists there = exists
own_exists shapes target (c ∷ cs) exists there = own (own_exists shapes target cs exists (λ i x l. there (suc i) x (omega arith))) (coordinate_of c) (there 0 c (omega arith))
  where
    own : set_of_coordinates target cs < length shapes → (q : Coordinate) → CoordinateExists shapes q → set_or_later q (set_of_coordinates target cs) < length shapes
    own rest (C.Field f) here = here
    own rest (C.Reg r) here = rest

-- the fields of a scan
bit_lies : (shapes : List SetShape) (d a : Field) (mode : SegmentMode) (bit : Option Field) → FieldExists shapes d → d.set ≡ a.set → ScanBitFits shapes mode bit → BitExists shapes mode bit → BitIsWith shapes d mode bit
    → IfSome (looked_at mode bit) (λ f. LiesIn shapes f × (f.set ≡ a.set))
bit_lies shapes d a M.NoSegments bit exists same fits there with = tt
bit_lies shapes d a M.StartBit None exists same fits there with = tt
bit_lies shapes d a M.StartBit (Some f) exists same fits there with = (lies shapes f fits.0 there, sym (with exists there) ∙ same)
bit_lies shapes d a M.SegmentBit None exists same fits there with = tt
bit_lies shapes d a M.SegmentBit (Some f) exists same fits there with = (lies shapes f fits.0 there, sym (with exists there) ∙ same)

pub scan_lies : (shapes : List SetShape) (args : List ℕ) (r : Reduction) (d a : Field) (axis : ℕ) (direction : Direction) (mode : SegmentMode) (bit : Option Field) (within : Inclusion)
    → CanApply shapes (I.Scan r d a axis direction mode bit within) args
    → LiesIn shapes d × LiesIn shapes a × (axis < rank_at shapes a.set) × IfSome (looked_at mode bit) (λ f. LiesIn shapes f × (f.set ≡ a.set)) × (d.set ≡ a.set)
scan_lies shapes args r d a axis direction mode bit within can =
    let same : d.set ≡ a.set = can.operands.0 can.set.0 can.set.1 in (
      lies shapes d can.field.0.0 can.set.0,
      lies shapes a can.field.1.0 can.set.1,
      subst (λ s. axis < rank_at shapes s) same can.set.2,
      bit_lies shapes d a mode bit can.set.0 same can.field.2 can.set.3 can.operands.1,
      same,
    )
