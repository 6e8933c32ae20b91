-- The kernels give what the instructions do.
use Rattle.std.proofs.Common.{◌≡◌, ℕ, ◌+◌, ◌*◌, ◌-◌, ◌%◌, ◌^◌, ◌<◌, ◌≤◌, pos, neg_ℤ, Bool, true, false, ◌&&◌, eqb, List, length, Some, refl, sym, ◌∙◌, ap, subst, inl, inr, arith}
use Rattle.std.specs.Prelude.{bit_and, not, unwrap_or}
use Rattle.std.specs.Int.{bit_at, from_bool}
use Rattle.std.proofs.lemmas.Nat.{pow_pos}
use Rattle.std.proofs.Math.Nat.{mod-eq_of_lt}
use Rattle.std.proofs.lemmas.Int.{ints}
use Rattle.std.proofs.lemmas.Bool.{cases_eq}
use Rattle.cstar_base.specs.Numbers.{residue, number_of}
use Rattle.cstar_base.specs.Operators.{outcome, operand, is_below}
use Rattle.cstar_base.proofs.NumberLaws.{residue_is, residue_of_number}
use Rattle.cstar_base.proofs.OperatorLaws.{sum_by_residues, difference_by_residues}
use Rattle.bit_planes.specs.declared.plane.Plane.{Plane}
use Rattle.bit_planes.specs.Bits.{bit}
use Rattle.bit_planes.specs.Planes.{plane_at, number}
use Rattle.bit_planes.proofs.Words.{bit-lt}
use Rattle.lane_kernels.specs.declared.target.Target.{Target}
use Rattle.lane_kernels.specs.declared.target.Operand.{Operand}
use Rattle.lane_kernels.specs.declared.target.Operand.TheVariants as O
use Rattle.lane_kernels.specs.Changes.{Writes}
use Rattle.lane_kernels.specs.Kernels.{operand_of, IsWithin}
use Rattle.lane_kernels.proofs.Lifted.{operand_of-lt}
use Rattle.paris_code.specs.declared.operands.Field.{Field}
use Rattle.paris_code.specs.declared.instr.Instr.TheVariants as I
use Rattle.paris_code.specs.declared.operands.Compare.{Compare}
use Rattle.paris_code.specs.declared.operands.Compare.TheVariants as R
use Rattle.paris_code.specs.declared.operands.Operation.{Operation}
use Rattle.paris_code.specs.declared.operands.Operation.TheVariants as P
use Rattle.paris_code.specs.declared.instr.Instr.{Instr}
use Rattle.paris_code.specs.Elementwise.{destination, element, writes_always}
use Rattle.paris_code.specs.Memory.{BitMemory, bit_run, field_number, is_active, is_tested}
use Rattle.paris_code.specs.Operators.{comparison_of, operator_of}
use Rattle.paris_code.specs.RuleField.{Fits}
use Rattle.paris_code.specs.RuleOperands.{IsWith}
use Rattle.paris_code.specs.RuleSet.{FieldExists}
use Rattle.paris_code.specs.Shapes.{SetShape, bits_at, extents_at}
use Rattle.phase_meaning.specs.Apply.{CanApply, active_set}
use Rattle.phase_meaning.proofs.RunBits.{run_number_one}
use Rattle.block_store.specs.Phases.{LanesWritten, TakesLanes}
use Rattle.block_store.proofs.Lanes.{run_is}
use Rattle.elementwise.specs.declared.planar.Work.{Work}
use Rattle.elementwise.specs.declared.planar.Work.TheVariants as K
use Rattle.elementwise.specs.declared.planar.Planar.TheVariants as L
use Rattle.elementwise.specs.declared.planar.Kernel.{Kernel}
use Rattle.elementwise.specs.Blocks.{block_memory, DoneInBlock}
use Rattle.elementwise.specs.declared.relations.Relation.{Relation}
use Rattle.elementwise.specs.Relations.{relation_number, IsRelationOf}
use Rattle.elementwise.specs.declared.ways.Way.{Way}
use Rattle.elementwise.specs.Planar.{gives_work, kernel_number, operation_of, IsKernelOf}
use Rattle.elementwise.specs.Ways.{by_kernel, IsWayOf}
use Rattle.elementwise.proofs.Bits.{bit_at_itself}
use Rattle.elementwise.proofs.Orders.{least_is, greatest_is}
use Rattle.elementwise.proofs.Products.{product_is}
use Rattle.elementwise.proofs.Written.{given_lanes, taken}

-- the length of the numbers
abbrev pub width_of : List SetShape → Instr → ℕ
width_of shapes instr = (destination shapes instr).len

-- an operand lies in each block, and this is its number
pub record Holds (shapes : List SetShape) (instr : Instr) (a : Operand) (x : BitMemory → ℕ → ℕ) : Type 0 where
  pub within : (planes : List Plane) → bits_at shapes (active_set instr) + 2 ≤ length planes → IsWithin a (width_of shapes instr) planes
  pub number : (planes : List Plane) (p : ℕ) → operand_of a planes (width_of shapes instr) (p % 512) ≡ x (block_memory planes) p

pub of_field : (shapes : List SetShape) (instr : Instr) (f : Field) → f.len ≡ width_of shapes instr → f.offset + f.len ≤ bits_at shapes (active_set instr) + 2 → Holds shapes instr (O.Field f.offset) (λ m p. field_number m f p)
unfolding field_number block_memory
of_field shapes instr f e b = record {
  within = λ planes h. omega (arith, b, h, e);
  number = λ planes p. ap (λ n. number planes f.offset n (p % 512)) (sym e) ∙ run_is planes f.offset f.len (p % 512);
}

-- a field of the set of another one lies in the planes
pub fits_with : (shapes : List SetShape) (d a : Field) → Fits shapes a → FieldExists shapes d → FieldExists shapes a → IsWith shapes d a → a.offset + a.len ≤ bits_at shapes d.set + 2
fits_with shapes d a fits exists there with = omega (arith, (fits there).2, ap (bits_at shapes) (with exists there))

pub of_constant : (shapes : List SetShape) (instr : Instr) (k : ℕ) → Holds shapes instr (O.Constant k) (λ m p. k % 2 ^ width_of shapes instr)
of_constant shapes instr k = record { within = λ planes h. tt; number = λ planes p. refl }

pub kernel_is : (shapes : List SetShape) (instr : Instr) (args : List ℕ) (op : Work) (a b : Operand) (x y : BitMemory → ℕ → ℕ) → Holds shapes instr a x → Holds shapes instr b y
    → ((planes : List Plane) (p : ℕ) → x (block_memory planes) p < 2 ^ width_of shapes instr → y (block_memory planes) p < 2 ^ width_of shapes instr
    → gives_work op (width_of shapes instr) (x (block_memory planes) p) (y (block_memory planes) p) % 2 ^ width_of shapes instr ≡ element shapes instr args (block_memory planes) p % 2 ^ width_of shapes instr)
    → IsWayOf shapes instr args (by_kernel op a b)
kernel_is shapes instr args op a b x y first second same = record {
  a = first.within;
  b = second.within;
  same = λ planes p.
      let n : ℕ = width_of shapes instr in
      let u : ℕ = operand_of a planes n (p % 512) in
      let v : ℕ = operand_of b planes n (p % 512) in
      let m : BitMemory = block_memory planes in
      ap (λ k. gives_work op n k v % 2 ^ n) (first.number planes p) ∙ ap (λ k. gives_work op n (x m p) k % 2 ^ n) (second.number planes p)
      ∙ same planes p (subst (λ k. k < 2 ^ n) (first.number planes p) (operand_of-lt a planes n (p % 512))) (subst (λ k. k < 2 ^ n) (second.number planes p) (operand_of-lt b planes n (p % 512)));
}

-- what a move of a number of the same length gives
pub moved_is : (n len : ℕ) (signed : Bool) (x : ℕ) → len ≡ n → x < 2 ^ n → x % 2 ^ n ≡ residue n (number_of len signed x) % 2 ^ n
moved_is n len signed x e b = ap (λ k. k % 2 ^ n) (sym (residue_of_number n signed x b) ∙ ap (λ l. residue n (number_of l signed x)) (sym e))

pub negative_is : (n x : ℕ) → x < 2 ^ n → (2 ^ n - x) % 2 ^ n % 2 ^ n ≡ residue n (neg_ℤ (pos x)) % 2 ^ n
negative_is n x b = ap (λ k. k % 2 ^ n) (sym (residue_is n (neg_ℤ (pos x)) 1 (2 ^ n - x) (omega (arith, ints, b))))

-- the operations
at_operation : (w : Work) (n x y : ℕ) (known op : Operation) → Some known ≡ Some op → gives_work w n x y ≡ outcome (operator_of known).0 n (operator_of known).1 x y
    → gives_work w n x y ≡ outcome (operator_of op).0 n (operator_of op).1 x y
at_operation w n x y known op e is = subst (λ q. gives_work w n x y ≡ outcome (operator_of q).0 n (operator_of q).1 x y) (ap (λ q. unwrap_or q known) e) is

pub operation_is : (w : Work) (op : Operation) (n x y : ℕ) → operation_of w ≡ Some op → 1 ≤ n → x < 2 ^ n → y < 2 ^ n → gives_work w n x y ≡ outcome (operator_of op).0 n (operator_of op).1 x y
unfolding outcome
operation_is (K.Planes L.Add) op n x y e l a b = at_operation (K.Planes L.Add) n x y P.SAdd op e (sym (sum_by_residues n false x y))
operation_is (K.Planes L.Subtract) op n x y e l a b = at_operation (K.Planes L.Subtract) n x y P.SSubtract op e (sym (difference_by_residues n false x y (omega (arith, b))))
operation_is (K.Planes L.Multiply) op n x y e l a b = at_operation (K.Planes L.Multiply) n x y P.SMultiply op e (product_is n x y a b)
operation_is (K.Planes L.And) op n x y e l a b = at_operation (K.Planes L.And) n x y P.Logand op e refl
operation_is (K.Planes L.Or) op n x y e l a b = at_operation (K.Planes L.Or) n x y P.Logior op e refl
operation_is (K.Planes L.Xor) op n x y e l a b = at_operation (K.Planes L.Xor) n x y P.Logxor op e refl
operation_is (K.Planes (L.Min false)) op n x y e l a b = at_operation (K.Planes (L.Min false)) n x y P.SMin op e (least_is false n x y l a b)
operation_is (K.Planes (L.Min true)) op n x y e l a b = at_operation (K.Planes (L.Min true)) n x y P.UMin op e (least_is true n x y l a b)
operation_is (K.Planes (L.Max false)) op n x y e l a b = at_operation (K.Planes (L.Max false)) n x y P.SMax op e (greatest_is false n x y l a b)
operation_is (K.Planes (L.Max true)) op n x y e l a b = at_operation (K.Planes (L.Max true)) n x y P.UMax op e (greatest_is true n x y l a b)
operation_is (K.Planes _) op n x y e l a b = cc
operation_is (K.Values o) op n x y e l a b = at_operation (K.Values o) n x y o op e refl

-- flags
flag_bit : (planes : List Plane) (set i p : ℕ) → field_number (block_memory planes) (bit_run set i) p ≡ bit (plane_at planes i) (p % 512)
unfolding field_number block_memory
flag_bit planes set i p = run_number_one (λ j. bit (plane_at planes j) (p % 512)) i

from_bit : (b : ℕ) → b < 2 → b ≡ from_bool (eqb b 1)
from_bit b h = elim (cases_eq b 0) [
  | inl e ↦ subst (λ c. c ≡ from_bool (eqb c 1)) (sym e) refl
  | inr n ↦ (let one : b ≡ 1 = omega (arith, h, n) in subst (λ c. c ≡ from_bool (eqb c 1)) (sym one) refl)
]

pub flag_is : (planes : List Plane) (set i p : ℕ) → field_number (block_memory planes) (bit_run set i) p ≡ from_bool (eqb ((block_memory planes).bit set p i) 1)
unfolding block_memory
flag_is planes set i p = flag_bit planes set i p ∙ from_bit (bit (plane_at planes i) (p % 512)) (bit-lt (plane_at planes i) (p % 512))

both_bits : (s t : Bool) → bit_and (from_bool s) (from_bool t) ≡ from_bool (s && t)
both_bits true true = refl
both_bits true false = refl
both_bits false true = refl
both_bits false false = refl

pub flags_are : (planes : List Plane) (set i j p : ℕ)
    → bit_and (field_number (block_memory planes) (bit_run set i) p) (field_number (block_memory planes) (bit_run set j) p)
    ≡ from_bool (eqb ((block_memory planes).bit set p i) 1 && eqb ((block_memory planes).bit set p j) 1)
flags_are planes set i j p =
    ap (λ k. bit_and k (field_number (block_memory planes) (bit_run set j) p)) (flag_is planes set i p)
    ∙ ap (λ k. bit_and (from_bool (eqb ((block_memory planes).bit set p i) 1)) k) (flag_is planes set j p)
    ∙ both_bits (eqb ((block_memory planes).bit set p i) 1) (eqb ((block_memory planes).bit set p j) 1)

-- the way of an instruction that is this one
pub of : (shapes : List SetShape) (args : List ℕ) (way known : Way) (instr is : Instr) → way ≡ known → instr ≡ is → CanApply shapes instr args → (CanApply shapes is args → IsWayOf shapes is args known) → IsWayOf shapes instr args way
of shapes args way known instr is w e can gives_it =
    subst (λ (q : Way). IsWayOf shapes instr args q) (sym w) (subst (λ i. IsWayOf shapes i args known) (sym e) (gives_it (subst (λ i. CanApply shapes i args) e can)))

-- a block in which the target has become numbers that the instruction gives
pub lanes_done : (shapes : List SetShape) (instr : Instr) (args : List ℕ) (k : ℕ) (numbers : ℕ → ℕ → ℕ) (run : Field) (always : Bool) (extents : List ℕ) (bits : ℕ) (to : Target) (mask : List ℕ) (old new : List Plane)
    → run ≡ destination shapes instr → always ≡ writes_always instr → extents ≡ extents_at shapes run.set → bits ≡ bits_at shapes run.set
    → to.offset ≡ run.offset → to.len ≡ run.len → to.lanes ≡ mask
    → LanesWritten to.offset to.len to.lanes (numbers to.len) old new → TakesLanes extents k always (plane_at old bits) mask
    → ((p : ℕ) → numbers (width_of shapes instr) (p % 512) % 2 ^ width_of shapes instr ≡ element shapes instr args (block_memory old) p % 2 ^ width_of shapes instr)
    → DoneInBlock shapes instr args k old new
lanes_done shapes instr args k numbers run always extents bits to mask old new is at ge be offset len lanes done takes same =
    let n : ℕ = width_of shapes instr in
    given_lanes shapes instr args k always mask (numbers n) old new at
    (subst (λ (r : Field). LanesWritten r.offset r.len mask (numbers r.len) old new) is
    (subst (λ (x : List ℕ). LanesWritten run.offset run.len x (numbers run.len) old new) lanes
    (subst (λ l. LanesWritten run.offset l to.lanes (numbers l) old new) len (subst (λ o. LanesWritten o to.len to.lanes (numbers to.len) old new) offset done))))
    (taken shapes k run (destination shapes instr) always extents bits mask old is ge be takes)
    (λ i b within. ap (λ j. numbers n j % 2 ^ n) (let e : i ≡ (512 * k + i) % 512 = omega (arith, b) in e) ∙ same (512 * k + i))

-- a block in whose lanes nothing is written
pub none_done : (shapes : List SetShape) (instr : Instr) (args : List ℕ) (k : ℕ) (run : Field) (always : Bool) (extents : List ℕ) (bits : ℕ) (mask : List ℕ) (old : List Plane)
    → run ≡ destination shapes instr → always ≡ writes_always instr → extents ≡ extents_at shapes run.set → bits ≡ bits_at shapes run.set
    → ((i : ℕ) → i < 512 → bit mask i ≡ 0) → TakesLanes extents k always (plane_at old bits) mask
    → DoneInBlock shapes instr args k old old
none_done shapes instr args k run always extents bits mask old is at ge be none takes =
    given_lanes shapes instr args k always mask (λ i. element shapes instr args (block_memory old) (512 * k + i)) old old at
    (record {
      long = refl;
      inside = λ j i ib on l h. absurd (omega (arith, on, none i ib));
      kept = λ j i ib off. refl;
      outside = λ j o. refl;
    })
    (taken shapes k run (destination shapes instr) always extents bits mask old is ge be takes)
    (λ i b within. refl)

-- one plane that is written has become a run of numbers of one bit
pub plane_written : (at : ℕ) (value lanes : List ℕ) (old new : List Plane) → Writes at value lanes old new → LanesWritten at 1 lanes (λ i. bit value i) old new
plane_written at value lanes old new done = record {
  long = done.long;
  inside = λ j i ib on l h.
      ap (λ k. bit (plane_at new k) i) (let e : j ≡ at = omega arith in e) ∙ done.written i ib on
      ∙ sym (bit_at_itself (bit value i) (bit-lt value i)) ∙ ap (bit_at (bit value i)) (let e : 0 ≡ j - at = omega arith in e);
  kept = λ j i ib off. elim (cases_eq j at) [
    | inl e ↦ ap (λ k. bit (plane_at new k) i) e ∙ done.kept i ib off ∙ ap (λ k. bit (plane_at old k) i) (sym e)
    | inr n ↦ ap (λ q. bit q i) (done.others j n)
  ];
  outside = λ j o. done.others j (elim o [ inl l ↦ λ e. omega arith | inr g ↦ λ e. omega arith ]);
}

-- a block in which a plane stands that is what the instruction gives
plane_done : (shapes : List SetShape) (instr : Instr) (args : List ℕ) (k : ℕ) (numbers : ℕ → ℕ) (run : Field) (always : Bool) (extents : List ℕ) (bits : ℕ) (mask value : List ℕ) (old new : List Plane)
    → run ≡ destination shapes instr → always ≡ writes_always instr → extents ≡ extents_at shapes run.set → bits ≡ bits_at shapes run.set
    → LanesWritten run.offset 1 mask (λ i. bit value i) old new → TakesLanes extents k always (plane_at old bits) mask
    → ((i : ℕ) → i < 512 → bit value i ≡ numbers i) → width_of shapes instr ≡ 1
    → ((p : ℕ) → numbers (p % 512) % 2 ^ width_of shapes instr ≡ element shapes instr args (block_memory old) p % 2 ^ width_of shapes instr)
    → DoneInBlock shapes instr args k old new
plane_done shapes instr args k numbers run always extents bits mask value old new is at ge be done takes has flag same =
    given_lanes shapes instr args k always mask (λ i. bit value i) old new at
    (subst (λ n. LanesWritten (destination shapes instr).offset n mask (λ i. bit value i) old new) (sym flag)
    (subst (λ (f : Field). LanesWritten f.offset 1 mask (λ i. bit value i) old new) is done))
    (taken shapes k run (destination shapes instr) always extents bits mask old is ge be takes)
    (λ i b within. ap (λ n. n % 2 ^ width_of shapes instr) (has i b ∙ ap numbers (let e : i ≡ (512 * k + i) % 512 = omega (arith, b) in e)) ∙ same (512 * k + i))

-- by a kernel
pub kernel_done : (shapes : List SetShape) (instr : Instr) (args : List ℕ) (k : ℕ) (kernel : Kernel) (run : Field) (always : Bool) (extents : List ℕ) (bits : ℕ) (mask value : List ℕ) (old new : List Plane)
    → run ≡ destination shapes instr → always ≡ writes_always instr → extents ≡ extents_at shapes run.set → bits ≡ bits_at shapes run.set
    → LanesWritten run.offset 1 mask (λ i. bit value i) old new → TakesLanes extents k always (plane_at old bits) mask
    → ((i : ℕ) → i < 512 → bit value i ≡ kernel_number kernel old 1 i) → width_of shapes instr ≡ 1 → IsKernelOf shapes instr args kernel → DoneInBlock shapes instr args k old new
kernel_done shapes instr args k kernel run always extents bits mask value old new is at ge be done takes has flag does =
    plane_done shapes instr args k (kernel_number kernel old 1) run always extents bits mask value old new is at ge be done takes has flag
    (λ p. ap (λ m. kernel_number kernel old m (p % 512) % 2 ^ width_of shapes instr) (sym flag) ∙ does.same old p)

-- by a relation
pub relation_done : (shapes : List SetShape) (instr : Instr) (args : List ℕ) (k : ℕ) (r : Relation) (run : Field) (always : Bool) (extents : List ℕ) (bits : ℕ) (mask value : List ℕ) (old new : List Plane)
    → run ≡ destination shapes instr → always ≡ writes_always instr → extents ≡ extents_at shapes run.set → bits ≡ bits_at shapes run.set
    → LanesWritten run.offset 1 mask (λ i. bit value i) old new → TakesLanes extents k always (plane_at old bits) mask
    → ((i : ℕ) → i < 512 → bit value i ≡ relation_number r old i) → IsRelationOf shapes instr args r → DoneInBlock shapes instr args k old new
relation_done shapes instr args k r run always extents bits mask value old new is at ge be done takes has does =
    plane_done shapes instr args k (relation_number r old) run always extents bits mask value old new is at ge be done takes has does.flag
    (λ p. ap (λ n. n % 2 ^ width_of shapes instr) (does.same old p))

-- the relations of an instruction
pub field_number_is : (planes : List Plane) (f : Field) (p : ℕ) → number planes f.offset f.len (p % 512) ≡ field_number (block_memory planes) f p
unfolding field_number block_memory
field_number_is planes f p = run_is planes f.offset f.len (p % 512)

pub compares : (shapes : List SetShape) (args : List ℕ) (relation : Compare) (a b : Field) → CanApply shapes (I.Compare relation a b) args
    → IsRelationOf shapes (I.Compare relation a b) args (record { relation = relation; len = a.len; a = O.Field a.offset; b = O.Field b.offset })
compares shapes args relation a b can =
    let same : b.len ≡ a.len = can.field.1.1 can.set.1 can.set.0 in
    let fits : b.offset + b.len ≤ bits_at shapes a.set + 2 = fits_with shapes a b can.field.1.0 can.set.0 can.set.1 can.operands in
    let c = comparison_of relation in record {
      flag = refl;
      len = ((can.field.0 can.set.0).0, (can.field.0 can.set.0).1);
      a = λ planes h. omega (arith, h, (can.field.0 can.set.0).2);
      b = λ planes h. omega (arith, h, fits, same);
      same = λ planes p.
          ap (λ x. outcome c.0 a.len c.1 x (number planes b.offset a.len (p % 512))) (field_number_is planes a p)
          ∙ ap (λ y. outcome c.0 a.len c.1 (field_number (block_memory planes) a p) y) (ap (λ n. number planes b.offset n (p % 512)) (sym same) ∙ field_number_is planes b p);
    }

pub equals_zero : (shapes : List SetShape) (args : List ℕ) (a : Field) → CanApply shapes (I.EqZero a) args
    → IsRelationOf shapes (I.EqZero a) args (record { relation = R.UEq; len = a.len; a = O.Field a.offset; b = O.Constant 0 })
unfolding outcome
equals_zero shapes args a can = record {
  flag = refl;
  len = ((can.field can.set).0, (can.field can.set).1);
  a = λ planes h. omega (arith, h, (can.field can.set).2);
  b = λ planes h. tt;
  same = λ planes p. ap (λ x. from_bool (eqb x (0 % 2 ^ a.len))) (field_number_is planes a p) ∙ ap (λ z. from_bool (eqb (field_number (block_memory planes) a p) z)) (mod-eq_of_lt (pow_pos a.len));
}

pub differs_from_zero : (shapes : List SetShape) (args : List ℕ) (a : Field) → CanApply shapes (I.NeZero a) args
    → IsRelationOf shapes (I.NeZero a) args (record { relation = R.UNe; len = a.len; a = O.Field a.offset; b = O.Constant 0 })
unfolding outcome
differs_from_zero shapes args a can = record {
  flag = refl;
  len = ((can.field can.set).0, (can.field can.set).1);
  a = λ planes h. omega (arith, h, (can.field can.set).2);
  b = λ planes h. tt;
  same = λ planes p. ap (λ x. from_bool (not (eqb x (0 % 2 ^ a.len)))) (field_number_is planes a p) ∙ ap (λ z. from_bool (not (eqb (field_number (block_memory planes) a p) z))) (mod-eq_of_lt (pow_pos a.len));
}

-- the context without the test
excludes : (c t : Bool) → from_bool (is_below 1 true (from_bool t) (from_bool c)) ≡ from_bool (c && not t)
unfolding is_below operand number_of
excludes true true = refl
excludes true false = refl
excludes false true = refl
excludes false false = refl

flag_number : (planes : List Plane) (set i p : ℕ) → number planes i 1 (p % 512) ≡ from_bool (eqb ((block_memory planes).bit set p i) 1)
flag_number planes set i p = field_number_is planes (bit_run set i) p ∙ flag_is planes set i p

pub context_alone : (shapes : List SetShape) (args : List ℕ) (set : ℕ) → CanApply shapes (I.LogandcContextWithTest set) args
    → IsRelationOf shapes (I.LogandcContextWithTest set) args (record { relation = R.ULt; len = 1; a = O.Field (bits_at shapes set + 1); b = O.Field (bits_at shapes set) })
unfolding outcome is_active is_tested
context_alone shapes args set can = let at : ℕ = bits_at shapes set in record {
  flag = refl;
  len = (omega arith, omega arith);
  a = λ planes h. omega (arith, h);
  b = λ planes h. omega (arith, h);
  same = λ planes p.
      ap (λ x. from_bool (is_below 1 true x (number planes at 1 (p % 512)))) (flag_number planes set (at + 1) p)
      ∙ ap (λ y. from_bool (is_below 1 true (from_bool (eqb ((block_memory planes).bit set p (at + 1)) 1)) y)) (flag_number planes set at p)
      ∙ excludes (eqb ((block_memory planes).bit set p at) 1) (eqb ((block_memory planes).bit set p (at + 1)) 1);
}
