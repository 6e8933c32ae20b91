-- What expressions that name a variable or a shape come to, and `printf`.
use Rattle.std.proofs.Common.{◌≡◌, ◌<◌, ◌+◌, ◌^◌, ◌⊎◌, inl, inr, ℕ, zero, suc, ℤ, pos, negsuc, Bool, true, false, if◌then◌else◌, List, [], ◌∷◌, length, Option, Some, None, Box, Vec, refl, ap, subst, ◌∙◌, arith}
use Rattle.std.specs.List.{All, slice_get}
use Rattle.std.specs.declared.alloc.Global.{Global}
use Rattle.std.proofs.lemmas.Bool.{ltb-true}
use Rattle.std.proofs.lemmas.Bool.Decides.{eqb_tells}
use Rattle.std.proofs.lemmas.Option.{same_Some, slice_get-get_or}
use Rattle.std.specs.Prelude.{nat_lt}
use Rattle.cstar_base.specs.declared.operators.Place.{Place}
use Rattle.cstar_tree.specs.declared.syntax.Expr.{Expr}
use Rattle.cstar_tree.specs.declared.syntax.Expr as E
use Rattle.cstar_tree.specs.declared.syntax.Name.{Name}
use Rattle.cstar_tree.specs.declared.syntax.ShapeRef.{ShapeRef}
use Rattle.cstar_tree.specs.declared.typed.Piece.{Piece}
use Rattle.cstar_tree.specs.declared.typed.TExpr.{TExpr}
use Rattle.cstar_tree.specs.declared.typed.ValueType.{ValueType}
use Rattle.cstar_tree.specs.declared.typed.Variable.{Variable}
use Rattle.cstar_tree.specs.Constants.{axis_among, constant_number}
use Rattle.cstar_tree.specs.Conversions.{either, parallel, shape_among}
use Rattle.cstar_tree.specs.ExpressionFaults.{IsPart}
use Rattle.cstar_tree.specs.ExpressionFaults as F
use Rattle.cstar_tree.specs.ExpressionTypes.{IsVariable, TypesEach, TypesIndexes}
use Rattle.cstar_tree.specs.ExpressionTypes as X
use Rattle.cstar_tree.specs.Formats.{conversions, pieces_of}
use Rattle.cstar_tree.specs.Headers.{Program}
use Rattle.cstar_tree.specs.Scopes.{Here, Meaning, VariableType, a_variable, extents_of, index_place, part, shape_of}
use Rattle.cstar_tree.specs.Typed.{type_of}
use Rattle.expression_outcomes.specs.Outcomes.{HasItsNames, Outcome}
use Rattle.expression_outcomes.specs.Outcomes as O
use Rattle.expression_outcomes.proofs.Fitting.{all_promoted, all_spread, each_length, few_pieces, indexes_length}
use Rattle.unique_types.proofs.Bringing.{boxed, vec_below}
use Rattle.expression_outcomes.proofs.Coming.{AtHandOrAway, HasOutcome, at_hand_or_away, is_shape, with_each, with_indexes, with_part, with_shape, with_variable}
use Rattle.expression_outcomes.proofs.Coming as W
use Rattle.unique_types.proofs.Judged.{Operand, of_parts}

-- ---- variables

abbrev pub variable_of : ValueType → Option ℕ → VariableType
variable_of value array = record { value = value; array = array }

-- the variable is an array or none, and scalar or parallel
pub with_array : {m : Option Meaning} {v : Variable} {ty : VariableType} {array : Option ℕ} → m ≡ Some (a_variable v (Some ty)) → ty.array ≡ array → m ≡ Some (a_variable v (Some (variable_of ty.value array)))
with_array {v = v} {ty = ty} is array = is ∙ ap (λ (a : Option ℕ). Some (a_variable v (Some (variable_of ty.value a)))) array

pub of_shape : {m : Option Meaning} {v : Variable} {value : ValueType} {array shape : Option ℕ} → m ≡ Some (a_variable v (Some (variable_of value array))) → value.shape ≡ shape → m ≡ Some (a_variable v (Some (variable_of (of_parts value.elem shape) array)))
of_shape {v = v} {value = value} {array = array} is shape = is ∙ ap (λ (s : Option ℕ). Some (a_variable v (Some (variable_of (of_parts value.elem s) array)))) shape

module _ (program : Program) where
  -- ---- a whole variable

  whole : (n : Name) (here : Here) (v : Variable) (value : ValueType) → IsVariable here n v (variable_of value None) → AtHandOrAway here.current value.shape → Outcome program here (E.Name n)
  whole n here v value is (W.at_hand h) = O.typed (X.name is h)
  whole n here v value is (W.away of away) = O.faulty (F.at (F.variable_away (of_shape is of) away))

  named : (n : Name) (here : Here) (v : Variable) (ty : VariableType) (array : Option ℕ) → IsVariable here n v ty → ty.array ≡ array → Outcome program here (E.Name n)
  named n here v ty None is array = whole n here v ty.value (with_array is array) (at_hand_or_away here.current ty.value.shape)
  named n here v ty (Some extent) is array = O.faulty (F.at (F.array_alone (with_array is array)))

  pub name : (n : Name) → HasOutcome program (E.Name n)
  name n here k i = with_variable n F.as_value (λ v ty is. named n here v ty ty.array is refl)

  -- ---- an element

  module _ (n : Name) (bracket : Place) (index : Box Expr Global) (here : Here) where
    whole_element : (v : Variable) (value : ValueType) {extent : ℕ} → IsVariable here n v (variable_of value (Some extent)) → (x : Operand program (part here) index.value) → (type_of x.tree).shape ≡ None → AtHandOrAway here.current value.shape → Outcome program here (E.Element n bracket index)
    whole_element v value is x none (W.at_hand h) = O.typed (X.element index (boxed index.alloc x.tree) is x.types none h)
    whole_element v value is x none (W.away of away) = O.faulty (F.at (F.element_away index (of_shape is of) x.types none away))

    indexed : (v : Variable) (value : ValueType) {extent : ℕ} → IsVariable here n v (variable_of value (Some extent)) → (x : Operand program (part here) index.value) (o : Option ℕ) → (type_of x.tree).shape ≡ o → Outcome program here (E.Element n bracket index)
    indexed v value is x None none = whole_element v value is x none (at_hand_or_away here.current value.shape)
    indexed v value is x (Some s) some = O.faulty (F.at (F.parallel_index index is x.types some))

    of_array : (v : Variable) (ty : VariableType) (array : Option ℕ) → IsVariable here n v ty → ty.array ≡ array → ((Operand program (part here) index.value → Outcome program here (E.Element n bracket index)) → Outcome program here (E.Element n bracket index)) → Outcome program here (E.Element n bracket index)
    of_array v ty None is array with_index = O.faulty (F.at (F.no_array (with_array is array)))
    of_array v ty (Some extent) is array with_index = with_index (λ x. indexed v ty.value (with_array is array) x (type_of x.tree).shape refl)

  pub element : (n : Name) (bracket : Place) (index : Box Expr Global) → HasOutcome program index.value → HasOutcome program (E.Element n bracket index)
  element n bracket index from here k i =
      with_variable n F.as_array (λ v ty is. of_array n bracket index here v ty ty.array is refl (with_part (F.right_index index) from k i))

  -- ---- a left index

  module _ (p : Place) (n : Name) (indexes : Vec Expr Global) (here : Here) (k : HasItsNames program here) where
    counted : {v : Variable} (value : ValueType) {s : ℕ} {extents : List ℕ} (ts : List TExpr) → IsVariable here n v (variable_of (parallel value.elem s) None) → extents_of here s ≡ Some extents → TypesIndexes program here n 0 indexes.items ts → Outcome program here (E.LeftIndex p indexes n)
    counted value {extents = extents} ts is known typed = elim (eqb_tells (length indexes.items) (length extents)) [
      | inl same ↦
          let ps = all_spread indexes.alloc (shape_among ts) ts in
          let as_many = ps.1 in
          let few = indexes.small in
          let given = vec_below indexes.alloc ps.0 (omega (arith, indexes.ok, indexes_length typed)) in
          O.typed (X.left_index indexes given is known same.1 typed ps.2)
      | inr other ↦ O.faulty (F.at (F.index_count indexes is known typed other.1))
    ]

    of_parallel : {v : Variable} (value : ValueType) (ts : List TExpr) (o : Option ℕ) → IsVariable here n v (variable_of value None) → value.shape ≡ o → TypesIndexes program here n 0 indexes.items ts → Outcome program here (E.LeftIndex p indexes n)
    of_parallel value ts None is none typed = O.faulty (F.at (F.index_of_scalar indexes (of_shape is none) typed))
    of_parallel {v = v} value ts (Some s) is some typed = let extents = k.variables n.word v (variable_of value None) s is some in counted value ts (of_shape is some) extents.1 typed

    of_no_array : (v : Variable) (ty : VariableType) (array : Option ℕ) → IsVariable here n v ty → ty.array ≡ array → (((ts : List TExpr) → TypesIndexes program here n 0 indexes.items ts → Outcome program here (E.LeftIndex p indexes n)) → Outcome program here (E.LeftIndex p indexes n)) → Outcome program here (E.LeftIndex p indexes n)
    of_no_array v ty None is array with_given = with_given (λ ts typed. of_parallel ty.value ts ty.value.shape (with_array is array) refl typed)
    of_no_array v ty (Some extent) is array with_given = O.faulty (F.at (F.array_indexed indexes (with_array is array)))

  pub left_index : (p : Place) (indexes : Vec Expr Global) (n : Name) → All (HasOutcome program) indexes.items → HasOutcome program (E.LeftIndex p indexes n)
  left_index p indexes n from here k i =
      with_variable n (F.as_indexed indexes) (λ v ty is. of_no_array p n indexes here k v ty ty.array is refl
      (with_indexes n 0 indexes.items from (λ which x at. subst (λ (a : ℕ). IsPart here (E.LeftIndex p indexes n) (index_place here n.word a) x) (let same : which ≡ 0 + which = omega arith in same) (F.left_index indexes which at)) k i))

  -- ---- shapes

  pub positions_of : (p : Place) (written : ShapeRef) → HasOutcome program (E.PositionsOf p written)
  positions_of p written here k i = with_shape written F.in_positions (λ s is. O.typed (X.positions_of is (is_shape written k is).1))

  pub rank_of : (p : Place) (written : ShapeRef) → HasOutcome program (E.RankOf p written)
  rank_of p written here k i = with_shape written F.in_rank (λ s is. O.typed (X.rank_of is (is_shape written k is).1))

  -- ---- leaves without a name

  dot_at : (p : Place) (here : Here) (o : Option ℕ) → here.dot ≡ o → Outcome program here (E.Dot p)
  dot_at p here None is = O.faulty (F.at (F.dot_alone is))
  dot_at p here (Some axis) is = O.typed (X.dot is)

  pub dot : (p : Place) → HasOutcome program (E.Dot p)
  dot p here k i = dot_at p here here.dot refl

-- ---- an axis of a shape

if_some : (t : Bool) {n axis : ℕ} → (if t then Some n else None) ≡ Some axis → (t ≡ true) × (n ≡ axis)
if_some true is = (refl, same_Some _ _ is)
if_some false is = absurd (cc)

axis_within : (extents : List ℕ) (number : ℤ) {axis : ℕ} → axis_among extents (Some number) ≡ Some axis → axis < length extents
axis_within extents (pos n) is = let w = if_some (nat_lt n (length extents)) is in subst (λ (k : ℕ). k < length extents) w.1 (ltb-true n (length extents) w.0)
axis_within extents (negsuc n) is = absurd (cc)

module _ (program : Program) (p : Place) (written : ShapeRef) (axis : Box Expr Global) (here : Here) {s : ℕ} {extents : List ℕ} (is : shape_of here written ≡ Some s) (known : extents_of here s ≡ Some extents) (x : Operand program (part here) axis.value) where
  at_axis : {number : ℤ} (o : Option ℕ) → constant_number here axis.value ≡ Some number → axis_among extents (Some number) ≡ o → Outcome program here (E.DimOf p written axis)
  at_axis None number outside = O.faulty (F.at (F.axis_outside_dim axis ((x.tree, x.types), number) is known outside))
  at_axis {number = n} (Some found) number inside =
      O.typed (X.dim_of axis is known (ap (axis_among extents) number ∙ inside) (slice_get-get_or extents found 0 (axis_within extents n inside)))

  dimension : (o : Option ℤ) → constant_number here axis.value ≡ o → Outcome program here (E.DimOf p written axis)
  dimension None none = O.faulty (F.at (F.axis_no_constant_dim axis (x.tree, x.types) none))
  dimension (Some number) some = at_axis (axis_among extents (Some number)) some refl

pub dim_of : (program : Program) (p : Place) (written : ShapeRef) (axis : Box Expr Global) → HasOutcome program axis.value → HasOutcome program (E.DimOf p written axis)
dim_of program p written axis from here k i =
    with_shape written F.in_dim (λ s is. with_part (F.of_dim axis) from k i (λ x. dimension program p written axis here is (is_shape written k is).1 x (constant_number here axis.value) refl))

-- ---- `printf`

-- the first parallel value of a list
record ParallelAmong (ts : List TExpr) (s : ℕ) : Type 0 where
  pub which : ℕ
  pub tree : TExpr
  pub is : slice_get ts which ≡ Some tree
  pub is_parallel : (type_of tree).shape ≡ Some s

either_is : (a b : Option ℕ) {s : ℕ} → either a b ≡ Some s → (a ≡ Some s) ⊎ (b ≡ Some s)
either_is None b is = inr is
either_is (Some a) b is = inl is

among : (ts : List TExpr) {s : ℕ} → shape_among ts ≡ Some s → ParallelAmong ts s
among [] is = absurd (cc)
among (t ∷ ts) is = elim (either_is (type_of t).shape (shape_among ts) is) [
  | inl first ↦ record { which = zero; tree = t; is = refl; is_parallel = first }
  | inr rest ↦ let r = among ts rest in record { which = suc r.which; tree = r.tree; is = r.is; is_parallel = r.is_parallel }
]

module _ (program : Program) (p : Place) (text : List ℕ) (arguments : Vec Expr Global) (here : Here) (short : length text < 2 ^ 63) (ts : List TExpr) (typed : TypesEach program (part here) arguments.items ts) where
  printed : {pieces : List Piece} → shape_among ts ≡ None → pieces_of text ≡ Some pieces → Outcome program here (E.Printf p text arguments)
  printed {pieces} none are = elim (eqb_tells (conversions pieces) (length arguments.items)) [
    | inl same ↦
        let ps = all_promoted arguments.alloc ts in
        let as_many = ps.1 in
        let few = arguments.small in
        let values = vec_below arguments.alloc ps.0 (omega (arith, arguments.ok, each_length typed)) in
        let fewer = few_pieces text are in
        O.typed (X.printf arguments (vec_below arguments.alloc pieces (omega arith)) values typed none are same.1 ps.2)
    | inr other ↦ O.faulty (F.at (F.value_count arguments typed are other.1))
  ]

  formatted : (o : Option (List Piece)) → shape_among ts ≡ None → pieces_of text ≡ o → Outcome program here (E.Printf p text arguments)
  formatted None none no_format = O.faulty (F.at (F.no_format arguments typed no_format))
  formatted (Some pieces) none are = printed none are

  all_scalar : (o : Option ℕ) → shape_among ts ≡ o → Outcome program here (E.Printf p text arguments)
  all_scalar None none = formatted (pieces_of text) none refl
  all_scalar (Some s) some = let r = among ts some in O.faulty (F.at (F.parallel_printed arguments r.which typed r.is r.is_parallel))

pub printf : (program : Program) (p : Place) (text : List ℕ) (arguments : Vec Expr Global) → All (HasOutcome program) arguments.items → HasOutcome program (E.Printf p text arguments)
printf program p text arguments from here k i =
    with_each arguments.items from (λ which x at. F.printed arguments which at) k i (λ ts typed. all_scalar program p text arguments here (i.texts p text arguments O.itself) ts typed (shape_among ts) refl)
