-- Moves of a field, and addresses of one coordinate.
use Rattle.std.proofs.Common.{◌≡◌, ℕ, ◌%◌, ◌^◌, Bool, false, List, [], ◌∷◌, All, length, refl, sym, ◌∙◌, ap, subst, arith}
use Rattle.std.specs.Prelude.{not, slice_index}
use Rattle.std.proofs.Math.Nat.{mod-mod}
use Rattle.bit_planes.specs.Planes.{number}
use Rattle.bit_planes.proofs.Planes.{number-lt}
use Rattle.cstar_base.specs.Numbers.{residue, number_of}
use Rattle.cstar_base.proofs.NumberLaws.{number_unsigned, residue_of_pos}
use Rattle.vp_sets.specs.Positions.{number_at, position_count}
use Rattle.lane_kernels.specs.declared.target.Operand.TheVariants as O
use Rattle.paris_code.specs.declared.instr.Instr.{Instr}
use Rattle.paris_code.specs.declared.instr.Instr.TheVariants as I
use Rattle.paris_code.specs.declared.operands.Coordinate.{Coordinate}
use Rattle.paris_code.specs.declared.operands.Coordinate.TheVariants as C
use Rattle.paris_code.specs.declared.operands.Field.{Field}
use Rattle.paris_code.specs.Arguments.{coordinate_number, coordinate_numbers}
use Rattle.paris_code.specs.Elementwise.{element}
use Rattle.paris_code.specs.Memory.{BitMemory, field_number, whole_number}
use Rattle.paris_code.specs.RuleField.{CoordinateFits}
use Rattle.paris_code.specs.RuleOperands.{CoordinateIsWith}
use Rattle.paris_code.specs.RuleSet.{CoordinateExists}
use Rattle.paris_code.specs.Shapes.{SetShape, extents_at}
use Rattle.phase_meaning.specs.Apply.{CanApply}
use Rattle.elementwise.specs.declared.moved.Moved.TheVariants as M
use Rattle.elementwise.specs.declared.planar.Planar.TheVariants as L
use Rattle.elementwise.specs.declared.planar.Work.TheVariants as K
use Rattle.elementwise.specs.Blocks.{block_memory}
use Rattle.elementwise.specs.Moved.{moved_number, IsMovedFor}
use Rattle.elementwise.specs.Ways.{IsAddressOf, IsMoveOf, IsWayOf, by_one}
use Rattle.elementwise.proofs.Kernels.{field_number_is, fits_with, kernel_is, moved_is, of_constant, of_field, width_of}
use Rattle.elementwise.proofs.Moves.{resized_is}

pub is_move : (shapes : List SetShape) (args : List ℕ) (signed : Bool) (d a : Field) → CanApply shapes (I.Move signed d a) args → IsMoveOf shapes (I.Move signed d a) args signed d a
is_move shapes args signed d a can = record {
  made = refl;
  some = (can.field.1 can.set.1).0;
  within = fits_with shapes d a can.field.1 can.set.0 can.set.1 can.operands;
  same = λ planes p. refl;
}

-- a move to another length, and to the same
pub resizes : (shapes : List SetShape) (instr : Instr) (args : List ℕ) (signed : Bool) (d a : Field) → IsMoveOf shapes instr args signed d a → IsMovedFor shapes instr args (M.Resized a.offset a.len (not signed))
unfolding whole_number
resizes shapes instr args signed d a moves = record {
  within = λ planes h. (moves.some, omega (arith, h, moves.within));
  same = λ planes p.
      let len : width_of shapes instr ≡ d.len = ap (λ (f : Field). f.len) moves.made in
      subst (λ n. moved_number (M.Resized a.offset a.len (not signed)) planes n (p % 512) % 2 ^ n ≡ element shapes instr args (block_memory planes) p % 2 ^ n) (sym len)
      (ap (λ k. k % 2 ^ d.len) (resized_is d.len a.len signed (number planes a.offset a.len (p % 512)) (number-lt planes a.offset a.len (p % 512)))
      ∙ ap (λ k. residue d.len (number_of a.len signed k) % 2 ^ d.len) (field_number_is planes a p) ∙ sym (moves.same planes p));
}

pub copies : (shapes : List SetShape) (instr : Instr) (args : List ℕ) (signed : Bool) (d a : Field) → d.len ≡ a.len → IsMoveOf shapes instr args signed d a → IsWayOf shapes instr args (by_one L.Same (O.Field a.offset))
unfolding whole_number
copies shapes instr args signed d a same moves =
    let len : width_of shapes instr ≡ d.len = ap (λ (f : Field). f.len) moves.made in
    let own : a.len ≡ width_of shapes instr = sym (len ∙ same) in
    kernel_is shapes instr args (K.Planes L.Same) (O.Field a.offset) (O.Constant 0) (λ m p. field_number m a p) _ (of_field shapes instr a own moves.within) (of_constant shapes instr 0)
    (λ planes p xb yb.
    let x : ℕ = field_number (block_memory planes) a p in
    moved_is (width_of shapes instr) a.len signed x own xb ∙ ap (λ n. residue n (number_of a.len signed x) % 2 ^ n) len ∙ sym (moves.same planes p)
    ∙ ap (λ n. element shapes instr args (block_memory planes) p % 2 ^ n) (sym len))

-- an address of one coordinate is the coordinate
number_alone : (extents : List ℕ) (x : ℕ) → length extents ≡ 1 → number_at extents (x ∷ []) ≡ x
unfolding number_at position_count
number_alone [] x one = absurd (omega (arith, one))
number_alone (e ∷ []) x one = omega arith
number_alone (e ∷ f ∷ more) x one = absurd (omega (arith, one))

-- one coordinate of an address
alone : (list rest : List Coordinate) (c : Coordinate) (items : List Coordinate) → items ≡ list → list ≡ c ∷ rest → length rest ≡ 0 → items ≡ c ∷ []
alone list [] c items same is none = same ∙ is
alone list (d ∷ more) c items same is none = absurd (omega (arith, none))

address_is : (shapes : List SetShape) (args : List ℕ) (d : Field) (set : ℕ) (items : List Coordinate) (c : Coordinate) (m : BitMemory) (p : ℕ) → items ≡ c ∷ [] → length items ≡ length (extents_at shapes set)
    → number_at (extents_at shapes set) (coordinate_numbers m items args p) ≡ coordinate_number m c args p
address_is shapes args d set items c m p one rank =
    ap (λ cs. number_at (extents_at shapes set) (coordinate_numbers m cs args p)) one ∙ number_alone (extents_at shapes set) (coordinate_number m c args p) (sym rank ∙ ap length one)

pub address_moves : (shapes : List SetShape) (args : List ℕ) (instr : Instr) (d a : Field) (list rest : List Coordinate) → CanApply shapes instr args → IsAddressOf instr d list → list ≡ C.Field a ∷ rest → length rest ≡ 0
    → IsMoveOf shapes instr args false d a
unfolding whole_number
address_moves shapes args (I.MakeAddress e set coordinates) d a list rest can makes is none =
    let one : coordinates.items ≡ C.Field a ∷ [] = alone list rest (C.Field a) coordinates.items makes.1 is none in
    let fits = (subst (All (CoordinateFits shapes can.slots)) one can.field.1) 0 (C.Field a) (omega arith) in
    let there = (subst (All (CoordinateExists shapes)) one can.set.2.0) 0 (C.Field a) (omega arith) in
    let with = (subst (All (CoordinateIsWith shapes e)) one can.operands) 0 (C.Field a) (omega arith) in record {
      made = makes.0;
      some = (fits there).0;
      within = fits_with shapes e a fits can.set.0 there with;
      same = λ planes p.
          let x : ℕ = field_number (block_memory planes) a p in
          ap (λ n. n % 2 ^ d.len) (address_is shapes args e set coordinates.items (C.Field a) (block_memory planes) p one can.set.2.1)
          ∙ sym (ap (λ z. residue d.len z % 2 ^ d.len) (number_unsigned a.len x) ∙ ap (λ n. n % 2 ^ d.len) (residue_of_pos d.len x) ∙ mod-mod x (2 ^ d.len));
    }
address_moves shapes args _ d a list rest can makes is none = absurd makes

pub address_constant : (shapes : List SetShape) (args : List ℕ) (instr : Instr) (d : Field) (r k : ℕ) (list rest : List Coordinate) → CanApply shapes instr args → IsAddressOf instr d list → list ≡ C.Reg r ∷ rest → length rest ≡ 0
    → k ≡ slice_index args 0 → IsWayOf shapes instr args (by_one L.Same (O.Constant k))
address_constant shapes args (I.MakeAddress e set coordinates) d r k list rest can makes is none value =
    let instr : Instr = I.MakeAddress e set coordinates in
    kernel_is shapes instr args (K.Planes L.Same) (O.Constant k) (O.Constant 0) _ _ (of_constant shapes instr k) (of_constant shapes instr 0)
    (λ planes p xb yb. mod-mod k (2 ^ e.len) ∙ ap (λ n. n % 2 ^ e.len)
    (value ∙ sym (address_is shapes args e set coordinates.items (C.Reg r) (block_memory planes) p (alone list rest (C.Reg r) coordinates.items makes.1 is none) can.set.2.1)))
address_constant shapes args _ d r k list rest can makes is none value = absurd makes
