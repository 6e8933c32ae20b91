-- The elementwise instructions: each processor's destination becomes a number that the bits of this
-- processor give.
use Rattle.std.specs.Prelude.{ℕ, Bool, true, false, pos, neg_ℤ, ◌-◌, ◌^◌, ◌%◌, ◌==◌, ◌&&◌, ◌||◌, not, List}
use Rattle.std.specs.Int.{from_bool}
use Rattle.vp_sets.specs.Positions.{coordinate, number_at}
use Rattle.cstar_base.specs.Numbers.{residue}
use Rattle.cstar_base.specs.Operators.{outcome}
use Rattle.paris_code.specs.declared.operands.Field.{Field}
use Rattle.paris_code.specs.declared.instr.Instr.{Instr}
use Rattle.paris_code.specs.declared.instr.Instr.TheVariants as I
use Rattle.paris_code.specs.Arguments.{konst_number, coordinate_numbers}
use Rattle.paris_code.specs.Memory.{BitMemory, field_number, whole_number, context_run, test_run, is_active, is_tested}
use Rattle.paris_code.specs.Operators.{operator_of, comparison_of}
use Rattle.paris_code.specs.Shapes.{SetShape, extents_at}
use Rattle.paris_code.specs.Writes.{Write}

abbrev pub is_elementwise : Instr → Bool
is_elementwise (I.Move signed d a) = true
is_elementwise (I.MoveConstant d k) = true
is_elementwise (I.MoveZeroAlways d) = true
is_elementwise (I.MoveAlways d a) = true
is_elementwise (I.MyNewsCoordinate d axis) = true
is_elementwise (I.MakeAddress d set coordinates) = true
is_elementwise (I.Operate op d a b) = true
is_elementwise (I.OperateConstant op d a k) = true
is_elementwise (I.Negate d a) = true
is_elementwise (I.Lognot d a) = true
is_elementwise (I.Compare relation a b) = true
is_elementwise (I.EqZero a) = true
is_elementwise (I.NeZero a) = true
is_elementwise (I.LoadTest a) = true
is_elementwise (I.StoreTest d) = true
is_elementwise (I.LoadContext a) = true
is_elementwise (I.StoreContext d) = true
is_elementwise (I.SetContext set) = true
is_elementwise (I.LogandContextWithTest set) = true
is_elementwise (I.LogandcContextWithTest set) = true
is_elementwise _ = false

-- these write at all processors; the others at the active ones alone
abbrev pub writes_always : Instr → Bool
writes_always (I.MoveZeroAlways d) = true
writes_always (I.MoveAlways d a) = true
writes_always (I.LoadContext a) = true
writes_always (I.StoreContext d) = true
writes_always (I.SetContext set) = true
writes_always _ = false

-- the destination: a field, or the flag of a set
abbrev pub destination : List SetShape → Instr → Field
destination shapes (I.Move signed d a) = d
destination shapes (I.MoveConstant d k) = d
destination shapes (I.MoveZeroAlways d) = d
destination shapes (I.MoveAlways d a) = d
destination shapes (I.MyNewsCoordinate d axis) = d
destination shapes (I.MakeAddress d set coordinates) = d
destination shapes (I.Operate op d a b) = d
destination shapes (I.OperateConstant op d a k) = d
destination shapes (I.Negate d a) = d
destination shapes (I.Lognot d a) = d
destination shapes (I.StoreTest d) = d
destination shapes (I.StoreContext d) = d
destination shapes (I.Compare relation a b) = test_run shapes a.set
destination shapes (I.EqZero a) = test_run shapes a.set
destination shapes (I.NeZero a) = test_run shapes a.set
destination shapes (I.LoadTest a) = test_run shapes a.set
destination shapes (I.LoadContext a) = context_run shapes a.set
destination shapes (I.SetContext set) = context_run shapes set
destination shapes (I.LogandContextWithTest set) = context_run shapes set
destination shapes (I.LogandcContextWithTest set) = context_run shapes set
destination shapes _ = record { set = 0; offset = 0; len = 1 }

-- the number that the destination becomes at a processor, modulo 2 to its length
abbrev pub element : List SetShape → Instr → List ℕ → BitMemory → ℕ → ℕ
element shapes (I.Move signed d a) args m p = residue d.len (whole_number m signed a p)
element shapes (I.MoveConstant d k) args m p = konst_number k args
element shapes (I.MoveZeroAlways d) args m p = 0
element shapes (I.MoveAlways d a) args m p = field_number m a p
element shapes (I.MyNewsCoordinate d axis) args m p = coordinate (extents_at shapes d.set) p axis
element shapes (I.MakeAddress d set coordinates) args m p = number_at (extents_at shapes set) (coordinate_numbers m coordinates.items args p)
element shapes (I.Operate op d a b) args m p = outcome (operator_of op).0 d.len (operator_of op).1 (field_number m a p) (field_number m b p)
element shapes (I.OperateConstant op d a k) args m p = outcome (operator_of op).0 d.len (operator_of op).1 (field_number m a p) (konst_number k args % 2 ^ d.len)
element shapes (I.Negate d a) args m p = residue d.len (neg_ℤ (pos (field_number m a p)))
element shapes (I.Lognot d a) args m p = 2 ^ d.len - 1 - field_number m a p
element shapes (I.Compare relation a b) args m p = outcome (comparison_of relation).0 a.len (comparison_of relation).1 (field_number m a p) (field_number m b p)
element shapes (I.EqZero a) args m p = from_bool (field_number m a p == 0)
element shapes (I.NeZero a) args m p = from_bool (not (field_number m a p == 0))
element shapes (I.LoadTest a) args m p = field_number m a p
element shapes (I.StoreTest d) args m p = from_bool (is_tested shapes m d.set p)
element shapes (I.LoadContext a) args m p = field_number m a p
element shapes (I.StoreContext d) args m p = from_bool (is_active shapes m d.set p)
element shapes (I.SetContext set) args m p = 1
element shapes (I.LogandContextWithTest set) args m p = from_bool (is_active shapes m set p && is_tested shapes m set p)
element shapes (I.LogandcContextWithTest set) args m p = from_bool (is_active shapes m set p && not (is_tested shapes m set p))
element shapes _ args m p = 0

-- what an elementwise instruction does, for all of them
abbrev pub elementwise : List SetShape → Instr → List ℕ → BitMemory → Write
elementwise shapes instr args m = record {
  run = destination shapes instr;
  writes = λ p. writes_always instr || is_active shapes m (destination shapes instr).set p;
  value = λ p. element shapes instr args m p;
}
