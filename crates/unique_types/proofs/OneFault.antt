-- At most one fault stands at a node of most kinds.
use Rattle.std.proofs.Common.{◌≡◌, inl, inr, ℕ, Option, Some, None, refl, sym, ap, ◌∙◌}
use Rattle.std.proofs.lemmas.Option.{same_Some}
use Rattle.cstar_base.specs.declared.faults.Fault.{Fault}
use Rattle.cstar_base.specs.declared.faults.Fault.TheVariants as Faults
use Rattle.cstar_base.specs.declared.operators.Place.{Place}
use Rattle.cstar_tree.specs.declared.syntax.Expr.{Expr}
use Rattle.cstar_tree.specs.declared.syntax.Expr as E
use Rattle.cstar_tree.specs.declared.syntax.ShapeRef.{ShapeRef}
use Rattle.cstar_tree.specs.declared.syntax.ShapeRef.TheVariants as R
use Rattle.cstar_tree.specs.declared.syntax.TypeName.{TypeName}
use Rattle.cstar_tree.specs.declared.typed.ValueType.{ValueType}
use Rattle.cstar_tree.specs.declared.typed.Variable.{Variable}
use Rattle.cstar_tree.specs.ExpressionFaults.{FaultAt}
use Rattle.cstar_tree.specs.Headers.{Program}
use Rattle.cstar_tree.specs.Scopes.{Here, Meaning, VariableType, a_function, a_shape, a_variable, meaning, of_shape, of_written, shape_meant, shape_of}
use Rattle.cstar_tree.specs.Typed.{type_of}
use Rattle.unique_types.specs.Laws.{HasOneAtMost}
use Rattle.unique_types.proofs.Told.{IsTold, assign_told, away_told, current_told, element_told, if_none, if_some, meant_told, prefix_told, shape_told, stands, step_told, told, variable_told, written_told}
use Rattle.unique_types.proofs.Unique.{one_variable, same}

-- a shape that is known is not told of
meant_untold : (m : Option Meaning) (p : Place) {k : ℕ} {f : Fault} {q : Place} → shape_meant m ≡ Some k → meant_told m p ≡ stands f q → ⊥
meant_untold None p known is = cc
meant_untold (Some (a_shape s)) p known is = cc
meant_untold (Some (a_function f)) p known is = cc
meant_untold (Some (a_variable v ty)) p known is = cc

current_untold : (o : Option ℕ) (p : Place) {k : ℕ} {f : Fault} {q : Place} → o ≡ Some k → current_told o p ≡ stands f q → ⊥
current_untold None p known is = cc
current_untold (Some s) p known is = cc

shape_untold : (here : Here) (s : ShapeRef) {k : ℕ} {f : Fault} {q : Place} → shape_of here s ≡ Some k → shape_told here s ≡ stands f q → ⊥
shape_untold here (R.Named n) known is = meant_untold (meaning here n.word) n.place known is
shape_untold here (R.Current p) known is = current_untold here.current p known is

of_shape_known : (written : TypeName) (o : Option ℕ) {ty : ValueType} → of_shape written o ≡ Some ty → (k : ℕ) × (o ≡ Some k)
of_shape_known written None is = absurd (cc)
of_shape_known written (Some k) is = (k, refl)

written_untold : (here : Here) (written : TypeName) (o : Option ShapeRef) {ty : ValueType} {f : Fault} {q : Place} → of_written here written o ≡ Some ty → written_told here o ≡ stands f q → ⊥
written_untold here written None known is = cc
written_untold here written (Some s) known is = let k = of_shape_known written (shape_of here s) known in shape_untold here s k.1 is

-- an array that is named is not told of where one is wanted, nor another variable where none is
array_untold : {m : Option Meaning} {v : Variable} {ty : VariableType} {extent : ℕ} {f : Fault} (p : Place) {q : Place} → m ≡ Some (a_variable v (Some ty)) → ty.array ≡ Some extent → variable_told if_none m p ≡ stands f q → ⊥
array_untold p variable array is =
    let there = ap (λ (o : Option Meaning). variable_told if_none o p) (sym variable) ∙ is in
    let none = ap (λ (o : Option ℕ). if_none o (stands Faults.ArrayUse p)) (sym array) ∙ there in
    cc

no_array_untold : {m : Option Meaning} {v : Variable} {ty : VariableType} {f : Fault} (p : Place) {q : Place} → m ≡ Some (a_variable v (Some ty)) → ty.array ≡ None → variable_told if_some m p ≡ stands f q → ⊥
no_array_untold p variable array is =
    let there = ap (λ (o : Option Meaning). variable_told if_some o p) (sym variable) ∙ is in
    let none = ap (λ (o : Option ℕ). if_some o (stands Faults.ArrayUse p)) (sym array) ∙ there in
    cc

one_telling : (program : Program) (here : Here) (e : Expr) {f g : Fault} {p q : Place} → HasOneAtMost e → IsTold program here e f p → IsTold program here e g q → stands f p ≡ stands g q
one_telling program here (E.Assign' p op _ target _ value) few x y = sym x.1 ∙ (ap (assign_told op p) (same target x.0.types y.0.types).0.target_is ∙ y.1)
one_telling program here (E.Prefix' p op _ operand) few x y = sym x.1 ∙ (ap (prefix_told op p) (same operand x.0.types y.0.types).0.target_is ∙ y.1)
one_telling program here (E.Postfix' p op _ operand) few x y = sym x.1 ∙ (ap (step_told p) (same operand x.0.types y.0.types).0.target_is ∙ y.1)
one_telling program here (E.Casts' chain _ operand) few x y = sym x ∙ y
one_telling program here (E.ParallelCast' p written _ operand) few (inl x) (inl y) = sym x ∙ y
one_telling program here (E.ParallelCast' p written _ operand) few (inl x) (inr (ty, known, y)) = absurd (written_untold here written written.shape known x)
one_telling program here (E.ParallelCast' p written _ operand) few (inr (ty, known, x)) (inl y) = absurd (written_untold here written written.shape known y)
one_telling program here (E.ParallelCast' p written _ operand) few (inr (ty, known, x)) (inr (of, is, y)) =
    sym x ∙ (ap (λ (k : ValueType). away_told here.current k.shape p) (same_Some _ _ (sym known ∙ is)) ∙ y)
one_telling program here (E.Name n) few x y = sym x ∙ y
one_telling program here (E.Element' n bracket _ index) few (inl x) (inl y) = sym x ∙ y
one_telling program here (E.Element' n bracket _ index) few (inl x) (inr (v, ty, i, is, array, y)) = absurd (array_untold n.place is array.1 x)
one_telling program here (E.Element' n bracket _ index) few (inr (v, ty, i, is, array, x)) (inl y) = absurd (array_untold n.place is array.1 y)
one_telling program here (E.Element' n bracket _ index) few (inr (v, ty, i, is, array, x)) (inr (w, of, j, known, other, y)) =
    sym x
    ∙ (ap (λ (k : VariableType). element_told here.current k.value.shape (type_of i.tree).shape n.place bracket) (one_variable is known)
    ∙ (ap (λ (k : ValueType). element_told here.current of.value.shape k.shape n.place bracket) (same index i.types j.types).0.type_is ∙ y))
one_telling program here (E.LeftIndex' p _ row n) few (inl x) (inl y) = sym x ∙ y
one_telling program here (E.LeftIndex' p _ row n) few (inl x) (inr (v, ty, is, array, y)) = absurd (no_array_untold n.place is array x)
one_telling program here (E.LeftIndex' p _ row n) few (inr (v, ty, is, array, x)) (inl y) = absurd (no_array_untold n.place is array y)
one_telling program here (E.LeftIndex' p _ row n) few (inr (v, ty, is, array, x)) (inr (w, of, known, other, y)) = sym x ∙ y
one_telling program here (E.Dot p) few x y = sym x ∙ y
one_telling program here (E.Pcoord' p _ axis) few x y = sym x ∙ y
one_telling program here (E.PositionsOf p written) few x y = sym x ∙ y
one_telling program here (E.RankOf p written) few x y = sym x ∙ y
one_telling program here (E.Choice' p _ test _ second _ third) few x y = elim x [ ]
one_telling program here (E.Binary' p op _ left _ right) few x y = elim x [ ]
one_telling program here (E.Number p value u) few x y = elim x [ ]
one_telling program here (E.Brackets' p _ inner) few x y = elim x [ ]
one_telling program here (E.GetChar p) few x y = elim x [ ]
one_telling program here e few x y = elim few [ ]

pub one_fault : (program : Program) (here : Here) (e : Expr) {f g : Fault} {p q : Place} → HasOneAtMost e → FaultAt program here e f p → FaultAt program here e g q → (f ≡ g) × (p ≡ q)
one_fault program here e few x y =
    let both = same_Some _ _ (one_telling program here e few (told program here x) (told program here y)) in
    (ap (λ (t : Fault × Place). t.0) both, ap (λ (t : Fault × Place). t.1) both)
