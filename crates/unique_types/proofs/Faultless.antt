-- No fault stands in an expression that has a type.
use Rattle.std.proofs.Common.{◌≡◌, inl, inr, ℕ, ℤ, zero, suc, Bool, true, List, [], ◌∷◌, map, length, Option, Some, None, refl, sym, ap, subst, ◌∙◌}
use Rattle.std.specs.List.{All, AllZip, slice_get}
use Rattle.std.proofs.lemmas.List.{length-map}
use Rattle.std.proofs.lemmas.List.Elements.{All-head, All-tail}
use Rattle.std.proofs.lemmas.Option.{same_Some}
use Rattle.cstar_base.specs.declared.elem.Elem.{Elem}
use Rattle.cstar_base.specs.declared.faults.Fault.{Fault}
use Rattle.cstar_base.specs.declared.operators.Place.{Place}
use Rattle.cstar_base.specs.declared.operators.SegmentMode.{SegmentMode}
use Rattle.cstar_tree.specs.declared.syntax.AssignOp.{AssignOp}
use Rattle.cstar_tree.specs.declared.syntax.Expr.{Expr}
use Rattle.cstar_tree.specs.declared.syntax.Name.{Name}
use Rattle.cstar_tree.specs.declared.syntax.ShapeRef.{ShapeRef}
use Rattle.cstar_tree.specs.declared.syntax.TypeName.{TypeName}
use Rattle.cstar_tree.specs.declared.typed.TExpr.{TExpr}
use Rattle.cstar_tree.specs.declared.typed.ValueType.{ValueType}
use Rattle.cstar_tree.specs.declared.typed.Variable.{Variable}
use Rattle.cstar_tree.specs.Constants.{axis_among}
use Rattle.cstar_tree.specs.Conversions.{either, parallel, scalar, shape_among}
use Rattle.cstar_tree.specs.ExpressionFaults.{FaultAt, FaultIn, HoldsBits, IsAway, IsAxisPart, IsPart, IsStep, Kind, Mismatch, NamesBit, NamesShape, Uses, ValueFaultIn, kind_of, parameters_of, result_of}
use Rattle.cstar_tree.specs.ExpressionFaults as F
use Rattle.cstar_tree.specs.ExpressionTypes.{AreTaken, IsBit, IsKnownAtHand, IsPlaceOf, IsVariable, Types, TypesEach, result_known}
use Rattle.cstar_tree.specs.ExpressionTypes as X
use Rattle.cstar_tree.specs.Formats.{conversions}
use Rattle.cstar_tree.specs.Headers.{Leads, Program}
use Rattle.cstar_tree.specs.Operations.{many, one, sends, target_of}
use Rattle.cstar_tree.specs.Scopes.{Here, IsAtHand, Meaning, VariableType, a_function, a_shape, a_variable, extents_of, meaning, of_shape, of_written, part, shape_meant, shape_of, written_type}
use Rattle.cstar_tree.specs.Scopes as S
use Rattle.cstar_tree.specs.Typed.{type_of}
use Rattle.unique_types.specs.Alike.{IsAlike}
use Rattle.unique_types.proofs.Judged.{along_of, judged, judged_call, judged_index, judged_printf}
use Rattle.unique_types.proofs.Parts.{not_untold, parameters_are, part_typed, result_is}
use Rattle.unique_types.proofs.Unique.{bits_shape, one_function, one_variable, same, same_each, same_shape}

-- ---- names

-- segment bits that are named, as those of an expression with a type are
record BitNamed (here : Here) (n : Name) : Type 0 where
  pub v : Variable
  pub elem : Elem
  pub shape : ℕ
  pub is_variable : IsVariable here n v (record { value = parallel elem shape; array = None })
  pub is_bit : elem.bits ≡ 1
  pub is_current : here.current ≡ Some shape

bit_in : {here : Here} {mode : SegmentMode} {n : Name} {bit : Option Name} {v : Option Variable} → bit ≡ Some n → IsBit here mode bit v → BitNamed here n
bit_in is X.no_bit = absurd (cc)
bit_in {here} is (X.bit {v = v} {elem = elem} {shape = shape} other variable bits current) = subst (BitNamed here) (same_Some _ _ is) (record { v = v; elem = elem; shape = shape; is_variable = variable; is_bit = bits; is_current = current })

bit_named : {program : Program} {here : Here} {e : Expr} {mode : SegmentMode} {n : Name} {bit : Option Name} {t : TExpr} {b : Bool} → bit ≡ Some n → NamesBit e mode bit → Types program here e t b → BitNamed here n
bit_named is F.in_scan h = let j = judged h in bit_in is j.along.is_bit
bit_named is F.in_enumerate h = let j = judged h in bit_in is j.along.is_bit

-- a shape that is named is known
has_shape : (here : Here) (written : TypeName) (s : ShapeRef) (o : Option ShapeRef) {ty : ValueType} → o ≡ Some s → of_written here written o ≡ Some ty → (k : ℕ) × (shape_of here s ≡ Some k)
has_shape here written s None is known = absurd (cc)
has_shape here written s (Some r) is known = subst (λ (q : ShapeRef). (k : ℕ) × (shape_of here q ≡ Some k)) (same_Some _ _ is) (read (shape_of here r) known)
  where
    read : (o : Option ℕ) {ty : ValueType} → of_shape written o ≡ Some ty → (k : ℕ) × (o ≡ Some k)
    read None none = absurd (cc)
    read (Some k) some = (k, refl)

shape_named : {program : Program} {here : Here} {e : Expr} {s : ShapeRef} {t : TExpr} {b : Bool} → NamesShape e s → Types program here e t b → (k : ℕ) × (shape_of here s ≡ Some k)
shape_named {here = here} {s = s} (F.in_cast {written = written} is) h = let j = judged h in has_shape here written s written.shape is j.is_written
shape_named F.in_positions h = let j = judged h in (j.shape, j.is_shape)
shape_named F.in_rank h = let j = judged h in (j.shape, j.is_shape)
shape_named F.in_dim h = let j = judged h in (j.of_shape.shape, j.of_shape.is_shape)

record Named (here : Here) (n : Name) (kind : Kind) : Type 0 where
  pub meant : Meaning
  pub means : meaning here n.word ≡ Some meant
  pub is_kind : kind_of meant ≡ kind

a_shape_meant : (here : Here) (n : Name) (o : Option Meaning) {k : ℕ} → meaning here n.word ≡ o → shape_meant o ≡ Some k → Named here n F.shape
a_shape_meant here n None is known = absurd (cc)
a_shape_meant here n (Some (a_shape s)) is known = record { meant = a_shape s; means = is; is_kind = refl }
a_shape_meant here n (Some (a_function f)) is known = absurd (cc)
a_shape_meant here n (Some (a_variable v ty)) is known = absurd (cc)

-- a name in an expression that has a type stands for what its place needs
named : {program : Program} {here : Here} {e : Expr} {kind : Kind} {n : Name} {t : TExpr} {b : Bool} → Uses e kind n → Types program here e t b → Named here n kind
named F.as_value h = let j = judged h in record { meant = _; means = j.is_variable; is_kind = refl }
named F.as_array h = let j = judged h in record { meant = _; means = j.is_variable; is_kind = refl }
named (F.as_indexed indexes) h = let j = judged h in record { meant = _; means = j.is_variable; is_kind = refl }
named (F.as_bit bit) h = let j = bit_named refl bit h in record { meant = _; means = j.is_variable; is_kind = refl }
named (F.as_function arguments) h = let j = judged h in record { meant = _; means = j.is_function; is_kind = refl }
named {here = here} {n = n} (F.as_shape names) h = a_shape_meant here n (meaning here n.word) refl (shape_named names h).1

-- ---- shapes

not_away : {current of : Option ℕ} {s : ℕ} {fault : Fault} → IsAway current s fault → IsAtHand current of → of ≡ Some s → ⊥
not_away F.no_current S.scalar is = cc
not_away (F.other other) S.scalar is = cc
not_away (F.other other) S.of_current is = other (same_Some _ _ is)

current_at_hand : {current of : Option ℕ} {s : ℕ} → IsAtHand current of → of ≡ Some s → current ≡ Some s
current_at_hand S.scalar is = absurd (cc)
current_at_hand S.of_current is = is

known_at_hand : {current : Option ℕ} {o : Option ValueType} {elem : Elem} {s : ℕ} → IsKnownAtHand current o → o ≡ Some (parallel elem s) → current ≡ Some s
known_at_hand X.faulty is = absurd (cc)
known_at_hand (X.typed h) is = current_at_hand h (ap (λ (ty : ValueType). ty.shape) (same_Some _ _ is))

pub all_at : {A : Type 0} (P : A → Type 0) (xs : List A) (which : ℕ) {x : A} → All P xs → slice_get xs which ≡ Some x → P x
all_at P [] which all is = absurd (cc)
all_at P (y ∷ ys) zero all is = subst P (same_Some _ _ is) (All-head P y ys all)
all_at P (y ∷ ys) (suc which) all is = all_at P ys which (All-tail P y ys all) is

-- two typed trees that are alike cannot be scalar and parallel
scalar_alike : {t u : TExpr} {s : ℕ} → IsAlike t u → (type_of t).shape ≡ None → (type_of u).shape ≡ Some s → ⊥
scalar_alike alike none some = let same = ap (λ (ty : ValueType). ty.shape) alike.type_is in cc

neither : (a b : Option ℕ) → either a b ≡ None → (a ≡ None) × (b ≡ None)
neither None b none = (refl, none)
neither (Some s) b none = absurd (cc)

scalar_among : (ts : List TExpr) (which : ℕ) {t : TExpr} → shape_among ts ≡ None → slice_get ts which ≡ Some t → (type_of t).shape ≡ None
scalar_among [] which none is = absurd (cc)
scalar_among (t ∷ ts) zero none is = subst (λ (u : TExpr). (type_of u).shape ≡ None) (same_Some _ _ is) (neither (type_of t).shape (shape_among ts) none).0
scalar_among (t ∷ ts) (suc which) none is = scalar_among ts which (neither (type_of t).shape (shape_among ts) none).1 is

-- ---- calls

taken_alike : {types : List ValueType} {ts : List TExpr} (us : List TExpr) → AreTaken types ts → AllZip IsAlike ts us → AreTaken types us
taken_alike [] X.none alike = X.none
taken_alike (u ∷ us) X.none alike = absurd alike
taken_alike [] (X.next scalar rest) alike = absurd alike
taken_alike (u ∷ us) (X.next scalar rest) alike = X.next (λ none. sym (ap (λ (ty : ValueType). ty.shape) alike.0.type_is) ∙ scalar none) (taken_alike us rest alike.1)

taken_length : {types : List ValueType} {ts : List TExpr} → AreTaken types ts → length ts ≡ length types
taken_length X.none = refl
taken_length (X.next scalar rest) = ap suc (taken_length rest)

taken_scalar : {types : List ValueType} {ts : List TExpr} (which : ℕ) {elem : Elem} {t : TExpr} → AreTaken types ts → slice_get (map Some types) which ≡ Some (Some (scalar elem)) → slice_get ts which ≡ Some t → (type_of t).shape ≡ None
taken_scalar which X.none is at = absurd (cc)
taken_scalar zero {t = t} (X.next none rest) is at = subst (λ (u : TExpr). (type_of u).shape ≡ None) (same_Some _ _ at) (none (ap (λ (ty : ValueType). ty.shape) (same_Some _ _ (same_Some _ _ is))))
taken_scalar (suc which) (X.next none rest) is at = taken_scalar which rest is at

-- ---- the node

-- a step's target is one place
one_step : {program : Program} {here : Here} {p : Place} {e operand : Expr} {t x : TExpr} {b : Bool} → IsStep p operand e → Types program here e t b → Types program (part here) operand x true → target_of x ≡ Some one
one_step (F.before operand) h x = let j = judged h in (same operand.value x j.typed.types).0.target_is ∙ j.is_prefixed
one_step (F.behind operand) h x = let j = judged h in (same operand.value x j.typed.types).0.target_is ∙ j.is_place

no_target : {here : Here} {op : AssignOp} {t x : TExpr} → IsPlaceOf here op t → IsAlike x t → target_of x ≡ None → ⊥
no_target (X.one_place is) alike none = let same_target = alike.target_is in cc
no_target (X.targets is whole sends_it) alike none = let same_target = alike.target_is in cc

many_targets : {here : Here} {op : AssignOp} {t x : TExpr} {q : Place} → IsPlaceOf here op t → IsAlike x t → target_of x ≡ Some (many q) → (here.whole ≡ true) × (sends op ≡ true)
many_targets (X.one_place is) alike are = absurd (let same_target = alike.target_is in cc)
many_targets (X.targets is whole sends_it) alike are = (whole, sends_it)

mismatched : {here : Here} {mode : SegmentMode} {bit : Option Name} {v : Option Variable} → Mismatch mode bit → IsBit here mode bit v → ⊥
mismatched F.bit_without_segments (X.bit other variable bits current) = other refl
mismatched (F.segments_without_bit other) X.no_bit = other refl

no_fault_at : {program : Program} {here : Here} {e : Expr} {fault : Fault} {p : Place} {t : TExpr} {b : Bool} → FaultAt program here e fault p → Types program here e t b → ⊥
no_fault_at (F.unknown as_one none) h = let j = named as_one h in let is = j.means in cc
no_fault_at (F.wrong_kind as_one means other) h = let j = named as_one h in other (ap kind_of (same_Some _ _ (sym means ∙ j.means)) ∙ j.is_kind)
no_fault_at (F.no_bits {ty = ty} names is never) h =
    let j = bit_named refl names h in
    never j.shape (subst (λ (v : VariableType). HoldsBits v j.shape) (one_variable j.is_variable is) (F.holds_bits j.is_bit))
no_fault_at (F.no_current names none) h = let j = shape_named names h in let is = j.1 in cc
no_fault_at (F.bits_away names is holds away) h =
    let j = bit_named refl names h in
    away (j.is_current ∙ (sym (ap (λ (v : VariableType). v.value.shape) (one_variable is j.is_variable)) ∙ bits_shape holds))
no_fault_at (F.array_alone is) h = let j = judged h in let arrays = ap (λ (v : VariableType). v.array) (one_variable j.is_variable is) in cc
no_fault_at (F.array_indexed indexes is) h = let j = judged h in let arrays = ap (λ (v : VariableType). v.array) (one_variable j.is_variable is) in cc
no_fault_at (F.no_array is) h = let j = judged h in let arrays = ap (λ (v : VariableType). v.array) (one_variable j.is_variable is) in cc
no_fault_at (F.variable_away is away) h = let j = judged h in not_away away j.at_hand (ap (λ (v : VariableType). v.value.shape) (one_variable j.is_variable is))
no_fault_at (F.element_away index is typed none away) h = let j = judged h in not_away away j.at_hand (ap (λ (v : VariableType). v.value.shape) (one_variable j.is_variable is))
no_fault_at (F.cast_away operand is has away) h = let j = judged h in not_away away j.at_hand (ap (λ (ty : ValueType). ty.shape) (same_Some _ _ (sym j.is_written ∙ is)))
no_fault_at (F.intrinsic_alone ready none) h = let a = along_of ready.along h in let is = a.is_current in cc
no_fault_at {here = here} (F.argument_away arguments which call at away) h =
    let j = judged_call arguments h in
    let is = parameters_are j call.is_function call.is_placed in
    away (known_at_hand (all_at (IsKnownAtHand here.current) (map Some j.types) which j.is_callable.parameters_at_hand (ap (λ (l : List (Option ValueType)). slice_get l which) (sym is) ∙ at)) refl)
no_fault_at (F.result_away arguments call at away) h =
    let j = judged_call arguments h in
    away (known_at_hand j.is_callable.result_at_hand (ap result_known (sym (result_is j call.is_function call.is_placed)) ∙ at))
no_fault_at (F.parallel_index index is typed some) h = let j = judged h in scalar_alike (same index.value j.typed.types typed).0 j.is_scalar some
no_fault_at (F.parallel_cast chain operand typed some) h = let j = judged h in scalar_alike (same operand.value j.typed.types typed).0 j.is_scalar some
no_fault_at (F.parallel_argument arguments {given = given} which call at is some) h =
    let j = judged_call arguments h in
    let types = parameters_are j call.is_function call.is_placed in
    let taken = taken_alike given j.taken (same_each arguments.items j.typed call.typed) in
    let none = taken_scalar which taken (ap (λ (l : List (Option ValueType)). slice_get l which) (sym types) ∙ at) is in
    cc
no_fault_at (F.parallel_printed arguments {given = given} which typed is some) h =
    let j = judged_printf arguments h in
    let none = scalar_among given which (same_shape given j.given (same_each arguments.items typed j.typed) ∙ j.are_scalar) is in
    cc
no_fault_at {here = here} (F.parallel_stored {op = op} target value typed typed_value one_target none some no_fold) h =
    let j = judged h in
    let stored = (same target.value j.stored.types typed).0 in
    let given = (same value.value j.given.types typed_value).0 in
    elim (j.is_storable (ap (λ (ty : ValueType). ty.shape) stored.type_is ∙ none)) [
      | inl scalar_value ↦ scalar_alike given scalar_value some
      | inr fold ↦ cc
    ]
no_fault_at (F.scalar_reduced operand typed none) h = let j = judged h in scalar_alike (same operand.value typed j.typed.types).0 none j.is_prefixed.1
no_fault_at (F.scalar_scanned source axis ready typed none) h = let j = judged h in scalar_alike (same source.value typed j.typed.types).0 none j.is_parallel
no_fault_at {here = here} (F.index_count {extents = extents} indexes is known typed other) h =
    let j = judged_index indexes h in
    let of = same_Some _ _ (ap (λ (v : VariableType). v.value.shape) (one_variable j.is_variable is)) in
    let one_list = same_Some _ _ (sym j.has_extents ∙ (ap (extents_of here) of ∙ known)) in
    other (j.as_many ∙ ap length one_list)
no_fault_at (F.index_of_scalar indexes is typed) h = let j = judged_index indexes h in let shapes = ap (λ (v : VariableType). v.value.shape) (one_variable j.is_variable is) in cc
no_fault_at (F.dot_alone none) h = let j = judged h in let is = j.is_axis in cc
no_fault_at (F.no_target target value typed typed_value none) h = let j = judged h in no_target j.is_place (same target.value typed j.stored.types).0 none
no_fault_at (F.no_target_of_step step typed none) h = let is = one_step step h typed in cc
no_fault_at (F.send_inside target value typed typed_value are sends_it inside) h = let j = judged h in let m = many_targets j.is_place (same target.value typed j.stored.types).0 are in let whole = m.0 in cc
no_fault_at (F.send_operator target value typed are none) h = let j = judged h in let m = many_targets j.is_place (same target.value typed j.stored.types).0 are in let some = m.1 in cc
no_fault_at (F.send_step step typed are) h = let is = one_step step h typed in cc
no_fault_at (F.argument_count arguments {given = given} call other) h =
    let j = judged_call arguments h in
    let types = parameters_are j call.is_function call.is_placed in
    let taken = taken_alike given j.taken (same_each arguments.items j.typed call.typed) in
    other (taken_length taken ∙ (sym (length-map j.types Some) ∙ sym (ap length types)))
no_fault_at (F.mode_mismatch ready mismatch) h = let a = along_of ready.along h in mismatched mismatch a.is_bit
no_fault_at {here = here} (F.axis_outside {number = number} {extents = extents} along axis current known none) h =
    let a = along_of along h in
    let shape = same_Some _ _ (sym a.is_current ∙ current) in
    let one_list = same_Some _ _ (sym a.has_extents ∙ (ap (extents_of here) shape ∙ known)) in
    let there = ap (λ (n : Option ℤ). axis_among a.extents n) (sym axis.1) ∙ a.is_axis in
    let outside = ap (λ (l : List ℕ). axis_among l (Some number)) one_list ∙ none in
    cc
no_fault_at {here = here} (F.axis_outside_dim {number = number} axis is_axis named_one known none) h =
    let j = judged h in
    let shape = same_Some _ _ (sym j.of_shape.is_shape ∙ named_one) in
    let one_list = same_Some _ _ (sym j.of_shape.has_extents ∙ (ap (extents_of here) shape ∙ known)) in
    let there = ap (λ (n : Option ℤ). axis_among j.of_shape.extents n) (sym is_axis.1) ∙ j.is_axis in
    let outside = ap (λ (l : List ℕ). axis_among l (Some number)) one_list ∙ none in
    cc
no_fault_at {program} (F.recursion arguments {around = around} call is leads) h =
    let j = judged_call arguments h in
    j.no_way_back around is (subst (λ (f : ℕ). Leads program.calls f around) (one_function call.is_function j.is_function) leads)
no_fault_at (F.no_format arguments typed none) h = let j = judged_printf arguments h in let is = j.are_pieces in cc
no_fault_at (F.value_count arguments typed are other) h =
    let j = judged_printf arguments h in
    let pieces = same_Some _ _ (sym j.are_pieces ∙ are) in
    other (ap conversions (sym pieces) ∙ j.as_many)
no_fault_at (F.axis_no_constant along has none) h =
    let a = along_of along h in
    let there = ap (λ (n : Option ℤ). axis_among a.extents n) (sym none) ∙ a.is_axis in
    cc
no_fault_at (F.axis_no_constant_dim axis has none) h =
    let j = judged h in
    let there = ap (λ (n : Option ℤ). axis_among j.of_shape.extents n) (sym none) ∙ j.is_axis in
    cc

-- ---- the expression

pub axis_part : {here : Here} {e axis : Expr} → IsAxisPart e axis → IsPart here e (part here) axis
axis_part (F.IsAxisPart.along along) = F.IsPart.along along
axis_part (F.IsAxisPart.of_dim axis) = F.IsPart.of_dim axis

pub faultless : {program : Program} {here : Here} {e : Expr} {fault : Fault} {p : Place} {t : TExpr} {b : Bool} → FaultIn program here e fault p → Types program here e t b → ⊥
faultless (F.at fault) h = no_fault_at fault h
faultless (F.in_part is fault) h = let x = part_typed is h in faultless fault x.types
faultless (F.in_brackets inner fault) h = let j = judged h in faultless fault j.types
faultless (F.no_value {x = x} is none) h = let y = part_typed is h in let values = (same x y.types none).1 in cc
faultless {here = here} (F.axis_untold is untold) h = let x = part_typed (axis_part {here = here} is) h in not_untold untold x.types

pub faultless_value : {program : Program} {here : Here} {e : Expr} {fault : Fault} {p : Place} {t : TExpr} → ValueFaultIn program here e fault p → Types program here e t true → ⊥
faultless_value (F.within fault) h = faultless fault h
faultless_value {e = e} (F.without_value none) h = let values = (same e h none).1 in cc
