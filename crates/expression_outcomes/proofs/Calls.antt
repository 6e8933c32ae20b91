-- What a call comes to, from what its arguments come to.
use Rattle.std.proofs.Common.{◌≡◌, ◌⊎◌, inl, inr, ℕ, zero, suc, Bool, true, false, List, [], ◌∷◌, map, length, Option, Some, None, Vec, refl, sym, ap, subst, ◌∙◌, arith}
use Rattle.std.specs.List.{All, slice_get}
use Rattle.std.specs.declared.alloc.Global.{Global}
use Rattle.std.proofs.lemmas.Bool.Decides.{eqb_tells}
use Rattle.std.proofs.lemmas.List.{length-map}
use Rattle.std.proofs.lemmas.List.Elements.{All-cons, All-nil}
use Rattle.std.proofs.lemmas.Option.{same_Some}
use Rattle.cstar_base.specs.declared.elem.Elem.{Elem}
use Rattle.cstar_base.specs.declared.faults.Fault.{Fault}
use Rattle.cstar_tree.specs.declared.syntax.Expr.{Expr}
use Rattle.cstar_tree.specs.declared.syntax.Expr as E
use Rattle.cstar_tree.specs.declared.syntax.Name.{Name}
use Rattle.cstar_tree.specs.declared.typed.TExpr.{TExpr}
use Rattle.cstar_tree.specs.declared.typed.ValueType.{ValueType}
use Rattle.cstar_tree.specs.Conversions.{int, parallel, scalar}
use Rattle.cstar_tree.specs.ExpressionFaults.{IsAway, IsCall, parameters_of}
use Rattle.cstar_tree.specs.ExpressionFaults as F
use Rattle.cstar_tree.specs.ExpressionTypes.{AreTaken, Gives, GivesOutside, IsCallable, IsKnownAtHand, TypesEach, callee, result_known}
use Rattle.cstar_tree.specs.ExpressionTypes as X
use Rattle.cstar_tree.specs.Headers.{Placed, Program, Returns, a_value, nothing, unknown}
use Rattle.cstar_tree.specs.Scopes.{Here, a_function, meaning, part}
use Rattle.cstar_tree.specs.Typed.{type_of}
use Rattle.expression_outcomes.specs.Outcomes.{IsOfProgram, Outcome}
use Rattle.expression_outcomes.specs.Outcomes as O
use Rattle.expression_outcomes.proofs.Fitting.{all_fitted, each_length}
use Rattle.unique_types.proofs.Bringing.{vec_below}
use Rattle.expression_outcomes.proofs.Called.{it_calls}
use Rattle.expression_outcomes.proofs.Coming.{AtHandOrAway, HasOutcome, at_hand_or_away, with_each, with_function}
use Rattle.expression_outcomes.proofs.Coming as W
use Rattle.unique_types.proofs.Judged.{of_parts}
use Rattle.expression_outcomes.proofs.Leading.{decided}
use Rattle.unique_types.proofs.Unique.{returned}

-- ---- the header

-- all parameters have types, or one has none
all_types : (parameters : List (Option ValueType)) → ((types : List ValueType) × (parameters ≡ map Some types)) ⊎ ((which : ℕ) × (slice_get parameters which ≡ Some None))
all_types [] = inl ([], refl)
all_types (None ∷ rest) = inr (zero, refl)
all_types (Some ty ∷ rest) = elim (all_types rest) [
  | inl types ↦ inl (ty ∷ types.0, ap (λ (l : List (Option ValueType)). Some ty ∷ l) types.1)
  | inr none ↦ inr (suc none.0, none.1)
]

-- a parameter or a result of another shape than the current one
record IsOther (current : Option ℕ) (ty : ValueType) : Type 0 where
  pub shape : ℕ
  pub is : Some ty ≡ Some (parallel ty.elem shape)
  pub is_other : current ≡ Some shape → ⊥

not_current : {current : Option ℕ} {s : ℕ} {fault : Fault} → IsAway current s fault → current ≡ Some s → ⊥
not_current F.no_current is = cc
not_current (F.other other) is = other (same_Some _ _ is)

known_or_other : (current : Option ℕ) (ty : ValueType) → IsKnownAtHand current (Some ty) ⊎ IsOther current ty
known_or_other current ty = told (at_hand_or_away current ty.shape)
  where
    told : AtHandOrAway current ty.shape → IsKnownAtHand current (Some ty) ⊎ IsOther current ty
    told (W.at_hand h) = inl (X.typed h)
    told (W.away {s = s} of away) = inr (record { shape = s; is = ap (λ (k : Option ℕ). Some (of_parts ty.elem k)) of; is_other = not_current away })

record OtherAmong (current : Option ℕ) (types : List ValueType) : Type 0 where
  pub which : ℕ
  pub elem : Elem
  pub shape : ℕ
  pub is : slice_get (map Some types) which ≡ Some (Some (parallel elem shape))
  pub is_other : current ≡ Some shape → ⊥

all_known : (current : Option ℕ) (types : List ValueType) → All (IsKnownAtHand current) (map Some types) ⊎ OtherAmong current types
all_known current [] = inl (All-nil (IsKnownAtHand current))
all_known current (ty ∷ types) = elim (known_or_other current ty) [
  | inr other ↦ inr (record { which = zero; elem = ty.elem; shape = other.shape; is = ap Some other.is; is_other = other.is_other })
  | inl known ↦ elim (all_known current types) [
    | inl rest ↦ inl (All-cons (IsKnownAtHand current) (Some ty) (map Some types) known rest)
    | inr other ↦ inr (record { which = suc other.which; elem = other.elem; shape = other.shape; is = other.is; is_other = other.is_other })
  ]
]

-- ---- the arguments

-- a parallel argument for a scalar parameter
record ParallelForScalar (types : List ValueType) (ts : List TExpr) : Type 0 where
  pub which : ℕ
  pub elem : Elem
  pub tree : TExpr
  pub shape : ℕ
  pub is_scalar : slice_get (map Some types) which ≡ Some (Some (scalar elem))
  pub is : slice_get ts which ≡ Some tree
  pub is_parallel : (type_of tree).shape ≡ Some shape

abbrev IsFit : ValueType → TExpr → Type 0
IsFit ty t = ty.shape ≡ None → (type_of t).shape ≡ None

fit_or_parallel : (ty : ValueType) (t : TExpr) (a b : Option ℕ) → ty.shape ≡ a → (type_of t).shape ≡ b → IsFit ty t ⊎ ((s : ℕ) × (ty.shape ≡ None) × ((type_of t).shape ≡ Some s))
fit_or_parallel ty t (Some s) b is_a is_b = inl (λ none. absurd (cc))
fit_or_parallel ty t None None is_a is_b = inl (λ none. is_b)
fit_or_parallel ty t None (Some s) is_a is_b = inr (s, is_a, is_b)

taken : (types : List ValueType) (ts : List TExpr) → length ts ≡ length types → AreTaken types ts ⊎ ParallelForScalar types ts
taken [] [] same = inl X.none
taken [] (t ∷ ts) same = absurd (omega (arith, same))
taken (ty ∷ types) [] same = absurd (omega (arith, same))
taken (ty ∷ types) (t ∷ ts) same = elim (fit_or_parallel ty t ty.shape (type_of t).shape refl refl) [
  | inr wrong ↦ inr (record { which = zero; elem = ty.elem; tree = t; shape = wrong.0; is_scalar = ap (λ (k : Option ℕ). Some (Some (of_parts ty.elem k))) wrong.1; is = refl; is_parallel = wrong.2 })
  | inl fit ↦ elim (taken types ts (let fewer : length ts ≡ length types = omega (arith, same) in fewer)) [
    | inl rest ↦ inl (X.next fit rest)
    | inr wrong ↦ inr (record { which = suc wrong.which; elem = wrong.elem; tree = wrong.tree; shape = wrong.shape; is_scalar = wrong.is_scalar; is = wrong.is; is_parallel = wrong.is_parallel })
  ]
]

-- ---- the call

module _ (program : Program) (n : Name) (arguments : Vec Expr Global) (here : Here) (i : IsOfProgram program here (E.Call n arguments)) {f : ℕ} {placed : Placed} (means : meaning here n.word ≡ Some (a_function f)) (is_placed : slice_get program.functions f ≡ Some placed) where
  abbrev this : Expr
  this = E.Call n arguments

  module _ (types : List ValueType) (are : parameters_of here placed f ≡ map Some types) {ts : List TExpr} (typed : TypesEach program (part here) arguments.items ts) where
    abbrev this_call : IsCall program here n arguments.items f placed ts
    this_call = record { is_function = means; is_placed = is_placed; typed = typed }

    called_outside : {ty : ValueType} {has_value : Bool} → here.around ≡ None → AreTaken types ts → IsCallable here.current (map Some types) (returned here placed f) → GivesOutside (returned here placed f) ty has_value → Outcome program here this
    called_outside outside take callable gives =
        let few = arguments.small in
        O.typed (X.call_outside arguments (vec_below arguments.alloc ts (omega (arith, arguments.ok, each_length typed))) means is_placed outside are callable gives typed take)

    called : {ty : ValueType} {has_value : Bool} (o : Option ℕ) → here.around ≡ o → AreTaken types ts → IsCallable here.current (map Some types) (returned here placed f) → Gives (returned here placed f) ty has_value → Outcome program here this
    called None outside take callable gives = called_outside outside take callable (X.known gives)
    called (Some around) is_around take callable gives = elim (decided program.calls f around) [
      | inl leads ↦ O.faulty (F.at (F.recursion arguments this_call is_around leads))
      | inr no_way ↦
          let instance = i.instances (record { function = f; current = here.current; typed = true }) around (it_calls here n arguments means) is_around in
          let fs = all_fitted arguments.alloc take in
          let as_many = fs.1 in
          let few = arguments.small in
          let given = vec_below arguments.alloc fs.0 (omega (arith, arguments.ok, each_length typed)) in
          O.typed (X.call arguments given means is_placed is_around no_way instance.1 are callable gives typed fs.2)
    ]

    unknown_result : (o : Option ℕ) → here.around ≡ o → returned here placed f ≡ unknown → AreTaken types ts → All (IsKnownAtHand here.current) (map Some types) → Outcome program here this
    unknown_result (Some around) at_function is take known = O.rests (O.on_function arguments means is_placed (O.result at_function is))
    unknown_result None outside is take known =
        called_outside outside take (record { parameters_at_hand = known; result_at_hand = subst (λ (r : Returns). IsKnownAtHand here.current (result_known r)) (sym is) X.faulty }) (subst (λ (r : Returns). GivesOutside r (scalar int) true) (sym is) X.not_known)

    by_result : (r : Returns) → returned here placed f ≡ r → AreTaken types ts → All (IsKnownAtHand here.current) (map Some types) → Outcome program here this
    by_result unknown is take known = unknown_result here.around refl is take known
    by_result nothing is take known =
        called here.around refl take (record { parameters_at_hand = known; result_at_hand = subst (λ (r : Returns). IsKnownAtHand here.current (result_known r)) (sym is) X.faulty }) (subst (λ (r : Returns). Gives r (scalar int) false) (sym is) X.no_value)
    by_result (a_value ty) is take known = elim (known_or_other here.current ty) [
      | inl at_hand ↦
          called here.around refl take (record { parameters_at_hand = known; result_at_hand = subst (λ (r : Returns). IsKnownAtHand here.current (result_known r)) (sym is) at_hand }) (subst (λ (r : Returns). Gives r ty true) (sym is) X.value)
      | inr other ↦ O.faulty (F.at (F.result_away arguments this_call (ap result_known is ∙ other.is) other.is_other))
    ]

    with_arguments : Outcome program here this
    with_arguments = elim (eqb_tells (length ts) (length types)) [
      | inr other ↦ O.faulty (F.at (F.argument_count arguments this_call (λ same. other.1 (same ∙ (ap length are ∙ length-map types Some)))))
      | inl same ↦ elim (taken types ts same.1) [
        | inr wrong ↦ O.faulty (F.at (F.parallel_argument arguments wrong.which this_call (ap (λ (l : List (Option ValueType)). slice_get l wrong.which) are ∙ wrong.is_scalar) wrong.is wrong.is_parallel))
        | inl take ↦ elim (all_known here.current types) [
          | inl known ↦ by_result (returned here placed f) refl take known
          | inr other ↦ O.faulty (F.at (F.argument_away arguments other.which this_call (ap (λ (l : List (Option ValueType)). slice_get l other.which) are ∙ other.is) other.is_other))
        ]
      ]
    ]

pub call : (program : Program) (n : Name) (arguments : Vec Expr Global) → All (HasOutcome program) arguments.items → HasOutcome program (E.Call n arguments)
call program n arguments from here k i =
    with_function n (F.as_function arguments) (λ f means.
    let placed = k.functions n.word f means in
    elim (all_types (parameters_of here placed.0 f)) [
      | inr none ↦ O.rests (O.on_function arguments means placed.1 (O.parameter none.0 none.1))
      | inl types ↦ with_each arguments.items from (λ which x at. F.argument arguments which at) k i (λ ts typed.
          with_arguments program n arguments here i means placed.1 types.0 types.1 typed)
    ])
