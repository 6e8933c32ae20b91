-- Which fault stands at a node, from its names and the types of its parts.
use Rattle.std.proofs.Common.{◌≡◌, ◌⊎◌, inl, inr, ℕ, ℤ, Bool, true, false, Option, Some, None, refl, ap, ◌∙◌}
use Rattle.cstar_base.specs.declared.faults.Fault.{Fault}
use Rattle.cstar_base.specs.declared.faults.Fault.TheVariants as Faults
use Rattle.cstar_base.specs.declared.operators.Place.{Place}
use Rattle.cstar_base.specs.declared.operators.SegmentMode.{SegmentMode}
use Rattle.cstar_base.specs.declared.operators.SegmentMode.TheVariants as M
use Rattle.cstar_tree.specs.declared.syntax.AssignOp.{AssignOp}
use Rattle.cstar_tree.specs.declared.syntax.Expr.{Expr}
use Rattle.cstar_tree.specs.declared.syntax.Expr as E
use Rattle.cstar_tree.specs.declared.syntax.Name.{Name}
use Rattle.cstar_tree.specs.declared.syntax.PrefixOp.{PrefixOp}
use Rattle.cstar_tree.specs.declared.syntax.PrefixOp.TheVariants as P
use Rattle.cstar_tree.specs.declared.syntax.ShapeRef.{ShapeRef}
use Rattle.cstar_tree.specs.declared.syntax.ShapeRef.TheVariants as R
use Rattle.cstar_tree.specs.declared.typed.ValueType.{ValueType}
use Rattle.cstar_tree.specs.declared.typed.Variable.{Variable}
use Rattle.cstar_tree.specs.Constants.{constant_number}
use Rattle.cstar_tree.specs.Conversions.{parallel, scalar}
use Rattle.cstar_tree.specs.ExpressionFaults.{FaultAt, GoesAlong, IsAway, IsReady, IsSoundAxis, IsStep, Kind, Mismatch, NamesBit, NamesShape, Uses, kind_of, last_place}
use Rattle.cstar_tree.specs.ExpressionFaults as F
use Rattle.cstar_tree.specs.ExpressionTypes.{IsVariable}
use Rattle.cstar_tree.specs.Headers.{Program}
use Rattle.cstar_tree.specs.Operations.{Target, many, one, sends, target_of}
use Rattle.cstar_tree.specs.Scopes.{Here, Meaning, VariableType, a_function, a_shape, a_variable, meaning, part, written_type}
use Rattle.cstar_tree.specs.Syntax.{place_of}
use Rattle.cstar_tree.specs.Typed.{type_of}
use Rattle.unique_types.proofs.Judged.{Operand, operand_of}

-- ---- what is told

abbrev pub Telling : Type 0
Telling = Option (Fault × Place)

abbrev pub stands : Fault → Place → Telling
stands fault p = Some (fault, p)

-- of a parallel value away from its shape
abbrev pub away_told : Option ℕ → Option ℕ → Place → Telling
away_told current None p = None
away_told None (Some s) p = stands Faults.NoShape p
away_told (Some c) (Some s) p = stands Faults.OtherShape p

-- of a whole variable, of an array and of a variable that is indexed on the left
abbrev pub whole_told : Option ℕ → Option ℕ → Option ℕ → Place → Telling
whole_told current shape (Some extent) p = stands Faults.ArrayUse p
whole_told current shape None p = away_told current shape p

abbrev pub name_told : Option ℕ → Option Meaning → Place → Telling
name_told current None p = stands Faults.Unknown p
name_told current (Some (a_shape s)) p = stands Faults.WrongKind p
name_told current (Some (a_function f)) p = stands Faults.WrongKind p
name_told current (Some (a_variable v None)) p = None
name_told current (Some (a_variable v (Some ty))) p = whole_told current ty.value.shape ty.array p

-- whether a name is that of an array is told of by these
abbrev pub if_none : Option ℕ → Telling → Telling
if_none None told = told
if_none (Some extent) told = None

abbrev pub if_some : Option ℕ → Telling → Telling
if_some None told = None
if_some (Some extent) told = told

abbrev pub variable_told : (Option ℕ → Telling → Telling) → Option Meaning → Place → Telling
variable_told when None p = stands Faults.Unknown p
variable_told when (Some (a_shape s)) p = stands Faults.WrongKind p
variable_told when (Some (a_function f)) p = stands Faults.WrongKind p
variable_told when (Some (a_variable v None)) p = None
variable_told when (Some (a_variable v (Some ty))) p = when ty.array (stands Faults.ArrayUse p)

abbrev pub element_told : Option ℕ → Option ℕ → Option ℕ → Place → Place → Telling
element_told current shape (Some s) name bracket = stands Faults.ScalarWanted bracket
element_told current shape None name bracket = away_told current shape name

abbrev pub meant_told : Option Meaning → Place → Telling
meant_told None p = stands Faults.Unknown p
meant_told (Some (a_shape s)) p = None
meant_told (Some (a_function f)) p = stands Faults.WrongKind p
meant_told (Some (a_variable v ty)) p = stands Faults.WrongKind p

abbrev pub current_told : Option ℕ → Place → Telling
current_told None p = stands Faults.NoShape p
current_told (Some s) p = None

abbrev pub shape_told : Here → ShapeRef → Telling
shape_told here (R.Named n) = meant_told (meaning here n.word) n.place
shape_told here (R.Current p) = current_told here.current p

abbrev pub written_told : Here → Option ShapeRef → Telling
written_told here None = None
written_told here (Some s) = shape_told here s

abbrev pub sent_told : Bool → Place → Place → Telling
sent_told true p q = stands Faults.SendValue p
sent_told false p q = stands Faults.SendOperator q

abbrev pub assign_told : AssignOp → Place → Option Target → Telling
assign_told op p None = stands Faults.NotAPlace p
assign_told op p (Some one) = stands Faults.ScalarWanted p
assign_told op p (Some (many q)) = sent_told (sends op) p q

abbrev pub step_told : Place → Option Target → Telling
step_told p None = stands Faults.NotAPlace p
step_told p (Some one) = None
step_told p (Some (many q)) = stands Faults.SendOperator q

abbrev pub prefix_told : PrefixOp → Place → Option Target → Telling
prefix_told (P.Step op) p target = step_told p target
prefix_told (P.Reduce op) p target = stands Faults.ParallelWanted p
prefix_told _ p target = None

abbrev pub pcoord_told : Place → Place → Option ℤ → Option ℕ → Telling
pcoord_told p axis None current = stands Faults.Constant axis
pcoord_told p axis (Some n) None = stands Faults.NoShape p
pcoord_told p axis (Some n) (Some s) = stands Faults.Axis axis

-- ---- by cases on the expression

-- Nothing is said of calls, scans, enumerates, `dimof` and `printf`, at which several faults can stand.
abbrev pub IsTold : Program → Here → Expr → Fault → Place → Type 0
IsTold program here (E.Assign' p op _ target _ value) f q = (t : Operand program (part here) target) × (assign_told op p (target_of t.tree) ≡ stands f q)
IsTold program here (E.Prefix' p op _ operand) f q = (x : Operand program (part here) operand) × (prefix_told op p (target_of x.tree) ≡ stands f q)
IsTold program here (E.Postfix' p op _ operand) f q = (x : Operand program (part here) operand) × (step_told p (target_of x.tree) ≡ stands f q)
IsTold program here (E.Casts' chain _ operand) f q = stands Faults.ScalarWanted (last_place chain.items (place_of operand)) ≡ stands f q
IsTold program here (E.ParallelCast' p written _ operand) f q = (written_told here written.shape ≡ stands f q) ⊎ ((ty : ValueType) × (written_type here written ≡ Some ty) × (away_told here.current ty.shape p ≡ stands f q))
IsTold program here (E.Name n) f q = name_told here.current (meaning here n.word) n.place ≡ stands f q
IsTold program here (E.Element' n bracket _ index) f q =
    (variable_told if_none (meaning here n.word) n.place ≡ stands f q) ⊎ ((v : Variable) × (ty : VariableType) × (x : Operand program (part here) index) × IsVariable here n v ty × ((extent : ℕ) × (ty.array ≡ Some extent)) × (element_told here.current ty.value.shape (type_of x.tree).shape n.place bracket ≡ stands f q))
IsTold program here (E.LeftIndex' p _ row n) f q =
    (variable_told if_some (meaning here n.word) n.place ≡ stands f q) ⊎ ((v : Variable) × (ty : VariableType) × IsVariable here n v ty × (ty.array ≡ None) × (stands Faults.IndexCount p ≡ stands f q))
IsTold program here (E.Dot p) f q = stands Faults.Dot p ≡ stands f q
IsTold program here (E.Pcoord' p _ axis) f q = pcoord_told p (place_of axis) (constant_number here axis) here.current ≡ stands f q
IsTold program here (E.PositionsOf p written) f q = shape_told here written ≡ stands f q
IsTold program here (E.RankOf p written) f q = shape_told here written ≡ stands f q
IsTold program here (E.Choice' p _ test _ second _ third) f q = ⊥
IsTold program here (E.Binary' p op _ left _ right) f q = ⊥
IsTold program here (E.Number p value u) f q = ⊥
IsTold program here (E.Brackets' p _ inner) f q = ⊥
IsTold program here (E.GetChar p) f q = ⊥
IsTold program here e f q = Unit {0}

-- ---- each fault at a node is what is told

abbrev IsNot : Meaning → Kind → Type 0
IsNot m kind = kind_of m ≡ kind → ⊥

no_value : (current : Option ℕ) (m : Meaning) (p : Place) → IsNot m F.variable → name_told current (Some m) p ≡ stands Faults.WrongKind p
no_value current (a_shape s) p other = refl
no_value current (a_function f) p other = refl
no_value current (a_variable v ty) p other = absurd (other refl)

no_variable : (when : Option ℕ → Telling → Telling) (m : Meaning) (p : Place) → IsNot m F.variable → variable_told when (Some m) p ≡ stands Faults.WrongKind p
no_variable when (a_shape s) p other = refl
no_variable when (a_function f) p other = refl
no_variable when (a_variable v ty) p other = absurd (other refl)

no_shape : (m : Meaning) (p : Place) → IsNot m F.shape → meant_told (Some m) p ≡ stands Faults.WrongKind p
no_shape (a_shape s) p other = absurd (other refl)
no_shape (a_function f) p other = refl
no_shape (a_variable v ty) p other = refl

is_away : {current : Option ℕ} {s : ℕ} {fault : Fault} (p : Place) → IsAway current s fault → away_told current (Some s) p ≡ stands fault p
is_away p F.no_current = refl
is_away p (F.other other) = refl

no_mismatch : {mode : SegmentMode} {bit : Option Name} → Mismatch mode bit → mode ≡ M.NoSegments → bit ≡ None → ⊥
no_mismatch F.bit_without_segments mode bit = cc
no_mismatch (F.segments_without_bit other) mode bit = other mode

module _ (program : Program) (here : Here) where
  bit_untold : {e : Expr} {mode : SegmentMode} {bit : Option Name} (f : Fault) (q : Place) → NamesBit e mode bit → IsTold program here e f q
  bit_untold f q F.in_scan = tt
  bit_untold f q F.in_enumerate = tt

  named_told : {e : Expr} {s : ShapeRef} {f : Fault} {q : Place} → NamesShape e s → shape_told here s ≡ stands f q → IsTold program here e f q
  named_told (F.in_cast is) told = inl (ap (written_told here) is ∙ told)
  named_told F.in_positions told = told
  named_told F.in_rank told = told
  named_told F.in_dim told = tt

  unknown_told : {e : Expr} {kind : Kind} {n : Name} → Uses e kind n → meaning here n.word ≡ None → IsTold program here e Faults.Unknown n.place
  unknown_told (F.as_value {n = n}) none = ap (λ (m : Option Meaning). name_told here.current m n.place) none
  unknown_told (F.as_array {n = n}) none = inl (ap (λ (m : Option Meaning). variable_told if_none m n.place) none)
  unknown_told (F.as_indexed indexes {n = n}) none = inl (ap (λ (m : Option Meaning). variable_told if_some m n.place) none)
  unknown_told (F.as_bit {n = n} bit) none = bit_untold Faults.Unknown n.place bit
  unknown_told (F.as_function arguments) none = tt
  unknown_told (F.as_shape {n = n} names) none = named_told names (ap (λ (m : Option Meaning). meant_told m n.place) none)

  other_told : {e : Expr} {kind : Kind} {n : Name} (m : Meaning) → Uses e kind n → meaning here n.word ≡ Some m → IsNot m kind → IsTold program here e Faults.WrongKind n.place
  other_told m (F.as_value {n = n}) is other = ap (λ (o : Option Meaning). name_told here.current o n.place) is ∙ no_value here.current m n.place other
  other_told m (F.as_array {n = n}) is other = inl (ap (λ (o : Option Meaning). variable_told if_none o n.place) is ∙ no_variable if_none m n.place other)
  other_told m (F.as_indexed indexes {n = n}) is other = inl (ap (λ (o : Option Meaning). variable_told if_some o n.place) is ∙ no_variable if_some m n.place other)
  other_told m (F.as_bit {n = n} bit) is other = bit_untold Faults.WrongKind n.place bit
  other_told m (F.as_function arguments) is other = tt
  other_told m (F.as_shape {n = n} names) is other = named_told names (ap (λ (o : Option Meaning). meant_told o n.place) is ∙ no_shape m n.place other)

  -- along an axis of the current shape
  sound_number : {axis : Expr} → IsSoundAxis program here axis → (n : ℤ) × (constant_number here axis ≡ Some n)
  sound_number (F.under_none {number = n} none is) = (n, is.1)
  sound_number (F.under_shape {number = n} current known is found) = (n, is.1)

  alone_told : {e axis : Expr} {mode : SegmentMode} {bit : Option Name} → GoesAlong e axis mode bit → IsSoundAxis program here axis → here.current ≡ None → IsTold program here e Faults.NoShape (place_of e)
  alone_told (F.pcoord {p = p} axis) sound none =
      let n = sound_number sound in
      ap (λ (k : Option ℤ). pcoord_told p (place_of axis.value) k here.current) n.1 ∙ ap (pcoord_told p (place_of axis.value) (Some n.0)) none
  alone_told (F.scan source axis) sound none = tt
  alone_told (F.enumerate axis) sound none = tt

  mismatch_told : {e axis : Expr} {mode : SegmentMode} {bit : Option Name} → GoesAlong e axis mode bit → Mismatch mode bit → IsTold program here e Faults.Arguments (place_of e)
  mismatch_told (F.pcoord axis) mismatch = absurd (no_mismatch mismatch refl refl)
  mismatch_told (F.scan source axis) mismatch = tt
  mismatch_told (F.enumerate axis) mismatch = tt

  outside_told : {e axis : Expr} {mode : SegmentMode} {bit : Option Name} {number : ℤ} {s : ℕ} → GoesAlong e axis mode bit → constant_number here axis ≡ Some number → here.current ≡ Some s → IsTold program here e Faults.Axis (place_of axis)
  outside_told {number = n} (F.pcoord {p = p} axis) is current = ap (λ (k : Option ℤ). pcoord_told p (place_of axis.value) k here.current) is ∙ ap (pcoord_told p (place_of axis.value) (Some n)) current
  outside_told (F.scan source axis) is current = tt
  outside_told (F.enumerate axis) is current = tt

  no_constant_told : {e axis : Expr} {mode : SegmentMode} {bit : Option Name} → GoesAlong e axis mode bit → constant_number here axis ≡ None → IsTold program here e Faults.Constant (place_of axis)
  no_constant_told (F.pcoord {p = p} axis) none = ap (λ (k : Option ℤ). pcoord_told p (place_of axis.value) k here.current) none
  no_constant_told (F.scan source axis) none = tt
  no_constant_told (F.enumerate axis) none = tt

  stepped_told : {p q : Place} {e operand : Expr} {f : Fault} (x : Operand program (part here) operand) → IsStep p operand e → step_told p (target_of x.tree) ≡ stands f q → IsTold program here e f q
  stepped_told x (F.before operand) told = (x, told)
  stepped_told x (F.behind operand) told = (x, told)

  pub told : {e : Expr} {f : Fault} {q : Place} → FaultAt program here e f q → IsTold program here e f q
  told (F.unknown as_one none) = unknown_told as_one none
  told (F.wrong_kind {m = m} as_one is other) = other_told m as_one is other
  told (F.no_bits {n = n} names is never) = bit_untold Faults.WrongKind n.place names
  told (F.no_current {p = p} names none) = named_told names (ap (λ (c : Option ℕ). current_told c p) none)
  told (F.bits_away {n = n} names is holds away) = bit_untold Faults.OtherShape n.place names
  told (F.array_alone {n = n} is) = ap (λ (m : Option Meaning). name_told here.current m n.place) is
  told (F.array_indexed indexes {n = n} is) = inl (ap (λ (m : Option Meaning). variable_told if_some m n.place) is)
  told (F.no_array {n = n} is) = inl (ap (λ (m : Option Meaning). variable_told if_none m n.place) is)
  told (F.variable_away {n = n} is away) = ap (λ (m : Option Meaning). name_told here.current m n.place) is ∙ is_away n.place away
  told (F.element_away {n = n} {bracket = bracket} {v = v} {elem = elem} {s = s} {length = extent} index is typed none away) =
      inr (v, record { value = parallel elem s; array = Some extent }, operand_of typed, is, (extent, refl), ap (λ (o : Option ℕ). element_told here.current (Some s) o n.place bracket) none ∙ is_away n.place away)
  told (F.cast_away {p = p} {elem = elem} {s = s} operand is has away) = inr (parallel elem s, is, is_away p away)
  told (F.intrinsic_alone ready none) = alone_told ready.along ready.sound_axis none
  told (F.argument_away arguments which call at away) = tt
  told (F.result_away arguments call at away) = tt
  told (F.parallel_index {n = n} {bracket = bracket} {v = v} {ty = ty} {length = extent} index is typed some) =
      inr (v, record { value = ty; array = Some extent }, operand_of typed, is, (extent, refl), ap (λ (o : Option ℕ). element_told here.current ty.shape o n.place bracket) some)
  told (F.parallel_cast chain operand typed some) = refl
  told (F.parallel_argument arguments which call at is some) = tt
  told (F.parallel_printed arguments which typed is some) = tt
  told (F.parallel_stored {p = p} {op = op} target value typed typed_value one_target none some no_fold) = (operand_of typed, ap (assign_told op p) one_target)
  told (F.scalar_reduced operand typed none) = (operand_of typed, refl)
  told (F.scalar_scanned source axis ready typed none) = tt
  told (F.index_count {v = v} {elem = elem} {s = s} indexes is known typed other) = inr (v, record { value = parallel elem s; array = None }, is, refl, refl)
  told (F.index_of_scalar {v = v} {elem = elem} indexes is typed) = inr (v, record { value = scalar elem; array = None }, is, refl, refl)
  told (F.dot_alone none) = refl
  told (F.no_target {p = p} {op = op} target value typed typed_value none) = (operand_of typed, ap (assign_told op p) none)
  told (F.no_target_of_step {p = p} step typed none) = stepped_told (operand_of typed) step (ap (step_told p) none)
  told (F.send_inside {p = p} {q = q} {op = op} target value typed typed_value are sends_it inside) = (operand_of typed, ap (assign_told op p) are ∙ ap (λ (b : Bool). sent_told b p q) sends_it)
  told (F.send_operator {p = p} {q = q} {op = op} target value typed are none) = (operand_of typed, ap (assign_told op p) are ∙ ap (λ (b : Bool). sent_told b p q) none)
  told (F.send_step {p = p} step typed are) = stepped_told (operand_of typed) step (ap (step_told p) are)
  told (F.argument_count arguments call other) = tt
  told (F.mode_mismatch ready mismatch) = mismatch_told ready.along mismatch
  told (F.axis_outside along axis current known none) = outside_told along axis.1 current
  told (F.axis_outside_dim axis is_axis named_one known none) = tt
  told (F.recursion arguments call is leads) = tt
  told (F.no_format arguments typed none) = tt
  told (F.value_count arguments typed are other) = tt
  told (F.axis_no_constant along has none) = no_constant_told along none
  told (F.axis_no_constant_dim axis has none) = tt
