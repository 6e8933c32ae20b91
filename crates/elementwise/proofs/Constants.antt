-- Moves to another length, and operations with constants.
use Rattle.std.proofs.Common.{◌≡◌, ℕ, ◌+◌, ◌-◌, ◌%◌, ◌^◌, ◌<◌, ◌≤◌, true, false, List, length, Some, refl, sym, ◌∙◌, ap, subst, arith}
use Rattle.std.specs.Prelude.{bit_and}
use Rattle.std.proofs.Math.Nat.{mod-mod}
use Rattle.cstar_base.specs.Operators.{outcome, quotient_of}
use Rattle.bit_planes.specs.declared.plane.Plane.{Plane}
use Rattle.bit_planes.specs.Planes.{number}
use Rattle.bit_planes.proofs.Planes.{number-lt}
use Rattle.lane_kernels.specs.Numbers as N
use Rattle.lane_kernels.specs.declared.target.Operand.TheVariants as Q
use Rattle.cstar_base.specs.declared.operators.Op.TheVariants as O
use Rattle.paris_code.specs.declared.instr.Instr.TheVariants as I
use Rattle.paris_code.specs.declared.operands.Field.{Field}
use Rattle.paris_code.specs.declared.operands.Konst.{Konst}
use Rattle.paris_code.specs.declared.operands.Operation.{Operation}
use Rattle.paris_code.specs.declared.operands.Operation.TheVariants as P
use Rattle.paris_code.specs.Arguments.{konst_number}
use Rattle.paris_code.specs.Memory.{field_number}
use Rattle.paris_code.specs.Operators.{operator_of}
use Rattle.paris_code.specs.Shapes.{SetShape, bits_at}
use Rattle.phase_meaning.specs.Apply.{CanApply}
use Rattle.elementwise.specs.declared.moved.Moved.{Moved}
use Rattle.elementwise.specs.declared.moved.Moved.TheVariants as M
use Rattle.elementwise.specs.declared.planar.Planar.TheVariants as L
use Rattle.elementwise.specs.declared.planar.Work.{Work}
use Rattle.elementwise.specs.declared.planar.Work.TheVariants as K
use Rattle.elementwise.specs.declared.ways.Way.{Way}
use Rattle.elementwise.specs.declared.ways.Way.TheVariants as W
use Rattle.elementwise.specs.Blocks.{block_memory}
use Rattle.elementwise.specs.Moved.{moved_number, IsMovedWithin, IsMovedFor}
use Rattle.elementwise.specs.Planar.{operation_of}
use Rattle.elementwise.specs.Ways.{by_kernel, by_mask, IsWayOf, IsWayOfConstant}
use Rattle.elementwise.proofs.Kernels.{field_number_is, fits_with, kernel_is, of_field, of_constant, operation_is}
use Rattle.elementwise.proofs.Moves.{left_is, right_is}
use Rattle.elementwise.proofs.Powers.{product_is, unsigned_quotient, unsigned_remainder, modulus_is, mask_is}

-- an operation with a constant that is a function of the field's number
pub of_shift : (shapes : List SetShape) (args : List ℕ) (op : Operation) (d a : Field) (k : Konst) (moved : Moved) (f : ℕ → ℕ) → CanApply shapes (I.OperateConstant op d a k) args
    → ((planes : List Plane) → a.offset + d.len ≤ length planes → IsMovedWithin moved d.len planes)
    → ((planes : List Plane) (i : ℕ) → moved_number moved planes d.len i ≡ f (number planes a.offset d.len i))
    → ((x : ℕ) → x < 2 ^ d.len → f x % 2 ^ d.len ≡ outcome (operator_of op).0 d.len (operator_of op).1 x (konst_number k args % 2 ^ d.len) % 2 ^ d.len)
    → IsMovedFor shapes (I.OperateConstant op d a k) args moved
of_shift shapes args op d a k moved f can there is gives =
    let len : a.len ≡ d.len = can.field.1.1 can.set.1 can.set.0 in
    let fits : a.offset + a.len ≤ bits_at shapes d.set + 2 = fits_with shapes d a can.field.1.0 can.set.0 can.set.1 can.operands in record {
      within = λ planes h. there planes (omega (arith, h, fits, len));
      same = λ planes p.
          let x : ℕ = number planes a.offset d.len (p % 512) in
          let e : x ≡ field_number (block_memory planes) a p = ap (λ n. number planes a.offset n (p % 512)) (sym len) ∙ field_number_is planes a p in
          ap (λ y. y % 2 ^ d.len) (is planes (p % 512)) ∙ gives x (number-lt planes a.offset d.len (p % 512))
          ∙ ap (λ y. outcome (operator_of op).0 d.len (operator_of op).1 y (konst_number k args % 2 ^ d.len) % 2 ^ d.len) e;
    }

-- the way of an operation that is this one
pub of_op : (shapes : List SetShape) (args : List ℕ) (op known : Operation) (d a : Field) (constant : ℕ) (way : Way) → op ≡ known → IsWayOfConstant shapes args known d a constant way → IsWayOfConstant shapes args op d a constant way
of_op shapes args op known d a constant way e is = subst (λ o. IsWayOfConstant shapes args o d a constant way) (sym e) is

pub shifts_left : (shapes : List SetShape) (args : List ℕ) (d a : Field) (by : ℕ) → IsWayOfConstant shapes args P.UShiftLeft d a by (W.Moved (M.ShiftedLeft a.offset by))
unfolding outcome
shifts_left shapes args d a by = λ k can e. of_shift shapes args P.UShiftLeft d a k (M.ShiftedLeft a.offset by) (N.shifted_left d.len by) can (λ planes h. h) (λ planes i. refl)
    (λ x b. ap (λ y. y % 2 ^ d.len) (left_is d.len by x) ∙ ap (λ c. outcome O.Shl d.len true x c % 2 ^ d.len) (sym e))

pub shifts_right : (shapes : List SetShape) (args : List ℕ) (d a : Field) (by : ℕ) → IsWayOfConstant shapes args P.SShiftRight d a by (W.Moved (M.ShiftedRight a.offset by false))
unfolding outcome
shifts_right shapes args d a by = λ k can e. of_shift shapes args P.SShiftRight d a k (M.ShiftedRight a.offset by false) (N.shifted_right false d.len by) can (λ planes h. h) (λ planes i. refl)
    (λ x b. ap (λ y. y % 2 ^ d.len) (right_is false d.len by x b) ∙ ap (λ c. outcome O.Shr d.len false x c % 2 ^ d.len) (sym e))

pub shifts_right_unsigned : (shapes : List SetShape) (args : List ℕ) (d a : Field) (by : ℕ) → IsWayOfConstant shapes args P.UShiftRight d a by (W.Moved (M.ShiftedRight a.offset by true))
unfolding outcome
shifts_right_unsigned shapes args d a by = λ k can e. of_shift shapes args P.UShiftRight d a k (M.ShiftedRight a.offset by true) (N.shifted_right true d.len by) can (λ planes h. h) (λ planes i. refl)
    (λ x b. ap (λ y. y % 2 ^ d.len) (right_is true d.len by x b) ∙ ap (λ c. outcome O.Shr d.len true x c % 2 ^ d.len) (sym e))

-- by a kernel with the constant
pub with_constant : (shapes : List SetShape) (args : List ℕ) (op : Operation) (d a : Field) (constant : ℕ) (w : Work) (way : Way) → operation_of w ≡ Some op → way ≡ by_kernel w (Q.Field a.offset) (Q.Constant constant)
    → IsWayOfConstant shapes args op d a constant way
with_constant shapes args op d a constant w way does is = λ k can e.
    let instr = I.OperateConstant op d a k in
    let n : ℕ = d.len in
    subst (λ (q : Way). IsWayOf shapes instr args q) (sym is)
    (kernel_is shapes instr args w (Q.Field a.offset) (Q.Constant constant) (λ m p. field_number m a p) (λ m p. constant % 2 ^ n)
    (of_field shapes instr a (can.field.1.1 can.set.1 can.set.0) (fits_with shapes d a can.field.1.0 can.set.0 can.set.1 can.operands)) (of_constant shapes instr constant)
    (λ planes p xb yb. ap (λ m. m % 2 ^ n)
    (operation_is w op n (field_number (block_memory planes) a p) (constant % 2 ^ n) does (can.field.0 can.set.0).0 xb yb
    ∙ ap (outcome (operator_of op).0 n (operator_of op).1 (field_number (block_memory planes) a p)) (ap (λ m. m % 2 ^ n) (sym e) ∙ mod-mod (konst_number k args) (2 ^ n)))))

-- by the lowest bits
pub with_mask : (shapes : List SetShape) (args : List ℕ) (op : Operation) (d a : Field) (constant k : ℕ) (way : Way) → constant ≡ 2 ^ k → k + 1 < d.len → way ≡ by_mask a.offset (constant - 1)
    → ((x : ℕ) → x < 2 ^ d.len → x % 2 ^ k ≡ outcome (operator_of op).0 d.len (operator_of op).1 x (2 ^ k))
    → IsWayOfConstant shapes args op d a constant way
with_mask shapes args op d a constant k way power short is gives = λ given can e.
    let instr = I.OperateConstant op d a given in
    let n : ℕ = d.len in
    subst (λ (q : Way). IsWayOf shapes instr args q) (sym is)
    (kernel_is shapes instr args (K.Planes L.And) (Q.Field a.offset) (Q.Constant (constant - 1)) (λ m p. field_number m a p) (λ m p. (constant - 1) % 2 ^ n)
    (of_field shapes instr a (can.field.1.1 can.set.1 can.set.0) (fits_with shapes d a can.field.1.0 can.set.0 can.set.1 can.operands)) (of_constant shapes instr (constant - 1))
    (λ planes p xb yb.
    let x : ℕ = field_number (block_memory planes) a p in
    ap (λ m. m % 2 ^ n)
    (ap (λ c. bit_and x ((c - 1) % 2 ^ n)) power ∙ mask_is n k x short ∙ gives x xb ∙ ap (outcome (operator_of op).0 n (operator_of op).1 x) (sym power ∙ sym e))))

module _ (shapes : List SetShape) (args : List ℕ) (d a : Field) (constant k : ℕ) (power : constant ≡ 2 ^ k) (short : k + 1 < d.len) where
  pub multiplies : IsWayOfConstant shapes args P.SMultiply d a constant (W.Moved (M.ShiftedLeft a.offset k))
  unfolding outcome
  multiplies = λ given can e. of_shift shapes args P.SMultiply d a given (M.ShiftedLeft a.offset k) (N.shifted_left d.len k) can (λ planes h. h) (λ planes i. refl)
      (λ x b. ap (λ y. y % 2 ^ d.len) (product_is d.len k x short b ∙ ap (outcome O.Mul d.len false x) (sym power ∙ sym e)))

  pub divides_unsigned : IsWayOfConstant shapes args P.UTruncate d a constant (W.Moved (M.ShiftedRight a.offset k true))
  unfolding outcome
  divides_unsigned = λ given can e. of_shift shapes args P.UTruncate d a given (M.ShiftedRight a.offset k true) (N.shifted_right true d.len k) can (λ planes h. h) (λ planes i. refl)
      (λ x b. ap (λ y. y % 2 ^ d.len) (unsigned_quotient d.len k x ∙ ap (outcome O.Div d.len true x) (sym power ∙ sym e)))

  pub divides_signed : IsWayOfConstant shapes args P.STruncate d a constant (W.Moved (M.Divided a.offset k))
  unfolding outcome
  divides_signed = λ given can e. of_shift shapes args P.STruncate d a given (M.Divided a.offset k) (λ x. quotient_of d.len false x (2 ^ k)) can (λ planes h. (short, h)) (λ planes i. refl)
      (λ x b. ap (λ y. y % 2 ^ d.len) (ap (outcome O.Div d.len false x) (sym power ∙ sym e)))

  pub remains_unsigned : (way : Way) → way ≡ by_mask a.offset (constant - 1) → IsWayOfConstant shapes args P.URem d a constant way
  unfolding outcome
  remains_unsigned way is = with_mask shapes args P.URem d a constant k way power short is (λ x b. unsigned_remainder d.len k x short)

  pub remains_signed : (way : Way) → way ≡ by_mask a.offset (constant - 1) → IsWayOfConstant shapes args P.SMod d a constant way
  unfolding outcome
  remains_signed way is = with_mask shapes args P.SMod d a constant k way power short is (λ x b. modulus_is d.len k x short b)
