-- What is recorded of a call: the faults of the header of a function that is reached, and why the call
-- has no tree.
use Rattle.std.proofs.Common.{◌≡◌, ◌==◌, ◌&&◌, ◌⊎◌, inl, inr, ℕ, suc, Bool, true, false, List, [], ◌∷◌, length, Option, Some, None, IfSome, Vec, refl, sym, ap, subst, ◌∙◌, true≢false}
use Rattle.std.proofs.lemmas.Bool.{eqb-false, eqb-true}
use Rattle.std.proofs.lemmas.List.Elements.{All-cons, All-nil}
use Rattle.std.specs.List.{All, list_all, slice_get}
use Rattle.std.specs.Option.{is_none, is_some}
use Rattle.std.specs.declared.alloc.Global.{Global}
use Rattle.cstar_base.specs.declared.elem.Elem.{Elem}
use Rattle.cstar_base.specs.declared.faults.Fault.{Fault}
use Rattle.cstar_base.specs.declared.faults.Fault.TheVariants as Faults
use Rattle.cstar_base.specs.declared.operators.Place.{Place}
use Rattle.cstar_tree.specs.declared.syntax.Expr.{Expr}
use Rattle.cstar_tree.specs.declared.syntax.Expr as E
use Rattle.cstar_tree.specs.declared.syntax.Name.{Name}
use Rattle.cstar_tree.specs.declared.typed.TExpr.{TExpr}
use Rattle.cstar_tree.specs.declared.typed.ValueType.{ValueType}
use Rattle.cstar_tree.specs.Conversions.{parallel}
use Rattle.cstar_tree.specs.ExpressionFaults.{FaultAt, FaultIn, IsCall, parameters_of, result_of}
use Rattle.cstar_tree.specs.ExpressionFaults as F
use Rattle.cstar_tree.specs.ExpressionTypes.{IsCallable, IsKnownAtHand, callee}
use Rattle.cstar_tree.specs.ExpressionTypes as X
use Rattle.cstar_tree.specs.Headers.{Placed, Program, Returns, returns_of}
use Rattle.cstar_tree.specs.Scopes.{Here, IsAtHand, a_function, meaning}
use Rattle.cstar_tree.specs.Scopes as S
use Rattle.cstar_tree.specs.Typed.{type_of}
use Rattle.type_scopes.specs.Answers.{told_by}
use Rattle.type_scopes.specs.Faults.{IsIncluded, IsLeastOf}
use Rattle.type_scopes.specs.Headers.{HeaderFault, IsHeader, IsOfGroup, place_of_header}
use Rattle.type_scopes.specs.declared.faults.Untyped.{Untyped}
use Rattle.type_scopes.specs.declared.faults.Untyped.TheVariants as N
use Rattle.type_scopes.specs.declared.file.File.{File}
use Rattle.type_scopes.specs.declared.headers.Header.{Header}
use Rattle.type_scopes.specs.declared.headers.Reached as Kept
use Rattle.type_scopes.specs.declared.standing.Standing.{Standing}
use Rattle.type_expressions.specs.Calls.{IsReached, is_unfit}
use Rattle.type_expressions.specs.Instances.{kept_header, met}
use Rattle.type_expressions.specs.Programs.{HasItsCalls}
use Rattle.type_expressions.specs.Recorded.{HasNoType, IsRecordable, IsRefusedCall, IsUnfitting, RecordsReached, Rests, Tells}
use Rattle.type_expressions.specs.Recorded as R
use Rattle.type_expressions.specs.declared.found.Instances.{Instances}
use Rattle.type_expressions.proofs.CallsWithin.{among_more}
use Rattle.type_expressions.proofs.KeptHeaders.{kept_of_file}
use Rattle.type_expressions.proofs.Recording.{tells_one, tells_same}

-- ---- the header of a function that is reached

header_stands : (P : Fault → Place → Type 0) (least : Option Standing) → IsLeastOf P least → IfSome least (λ s. P s.fault s.place)
header_stands P None h = tt
header_stands P (Some s) h = h.0

included : (S : Fault → Place → Type 0) (W : Type 0) (typed : Bool) (old new other : Option Standing) → IfSome other (λ s. S s.fault s.place) → (typed ≡ false → W) → IsIncluded old other new → Tells S W typed old new
included S W typed old new None stands why is = tells_same S W typed old new is why
included S W typed old new (Some s) stands why is = tells_one S W typed old new s.fault s.place stands is

some_as : (P Q : Standing → Type 0) (other : Option Standing) → ((s : Standing) → P s → Q s) → IfSome other P → IfSome other Q
some_as P Q None into h = tt
some_as P Q (Some s) into h = into s h

pub reached_tells : (so_far : Instances) (file : File) (program : Program) (here : Here) (n : Name) (given : Vec Expr Global) (around : Option ℕ) (f : ℕ) (current number : Option ℕ) (header : Option Header) (W : Type 0) (old new : Option Standing) → meaning here n.word ≡ Some (a_function f) → HasItsCalls so_far file program here (E.Call n given) → kept_header so_far (record { function = f; current = current }) ≡ header → IsReached (met so_far) around (record { function = f; current = current }) number → RecordsReached around header old new → Tells (IsRecordable program here (FaultIn program here (E.Call n given))) W true old new
reached_tells so_far file program here n given None f current number header W old new means calls kept reached is = tells_same _ W true old new is (λ none. absurd (true≢false none))
reached_tells so_far file program here n given (Some around) f current number None W old new means calls kept reached is = tells_same _ W true old new is (λ none. absurd (true≢false none))
reached_tells so_far file program here n given (Some around) f current None (Some header) W old new means calls kept reached is = absurd reached
reached_tells so_far file program here n given (Some around) f current (Some number) (Some header) W old new means calls kept reached (inl is) = tells_same _ W true old new is (λ none. absurd (true≢false none))
reached_tells so_far file program here n given (Some around) f current (Some number) (Some header) W old new means calls kept reached (inr is) =
    let r : Kept.Reached = record { function = f; current = current } in
    let function = calls.of_file.named n.word f means in
    let head : IsHeader function.placed r header = kept_of_file file so_far r header calls.of_file.headers kept function.placed function.in_file in
    let place = place_of_header here.shapes function.placed r in
    let own : IfSome header.faults.least (λ s. HeaderFault place function.placed.function s.fault s.place) = header_stands (HeaderFault place function.placed.function) header.faults.least (head.faults here.shapes) in
    included (IsRecordable program here (FaultIn program here (E.Call n given))) W true old new header.faults.least (some_as (λ s. HeaderFault place function.placed.function s.fault s.place) (λ s. IsRecordable program here (FaultIn program here (E.Call n given)) s.fault s.place) header.faults.least (λ s h. R.in_header (record {
      number = number;
      reached = record { function = f; current = current };
      placed = function.placed;
      is_instance = among_more number (record { function = f; current = current }) calls.of_file.instances reached;
      is_placed = function.in_program;
      in_header = h;
    })) own) (λ none. absurd (true≢false none)) is

-- ---- why a call has no tree

-- a type away from the current shape
abbrev IsTypeAway : Option ℕ → Option ValueType → Type 0
IsTypeAway current ty = (elem : Elem) × (s : ℕ) × (ty ≡ Some (parallel elem s)) × (current ≡ Some s → ⊥)

at_hand_or : (current : Option ℕ) (elem : Elem) (shape : Option ℕ) → IsAtHand current shape ⊎ IsTypeAway current (Some (record { elem = elem; shape = shape }))
at_hand_or current elem None = inl S.scalar
at_hand_or None elem (Some s) = inr (elem, s, refl, λ same. cc)
at_hand_or (Some c) elem (Some s) = by (c == s) refl
  where
    by : (b : Bool) → (c == s) ≡ b → IsAtHand (Some c) (Some s) ⊎ IsTypeAway (Some c) (Some (record { elem = elem; shape = Some s }))
    by true is = inl (subst (λ (k : ℕ). IsAtHand (Some c) (Some k)) (eqb-true c s is) S.of_current)
    by false is = inr (elem, s, refl, λ same. eqb-false c s is (let k : c ≡ s = cc in k))

known_or : (current : Option ℕ) (ty : Option ValueType) → IsKnownAtHand current ty ⊎ IsTypeAway current ty
known_or current None = inl X.faulty
known_or current (Some ty) = elim (at_hand_or current ty.elem ty.shape) [ inl hand ↦ inl (X.typed hand) | inr away ↦ inr away ]

all_or : (current : Option ℕ) (types : List (Option ValueType)) → All (IsKnownAtHand current) types ⊎ ((which : ℕ) × (ty : Option ValueType) × (slice_get types which ≡ Some ty) × IsTypeAway current ty)
all_or current [] = inl (All-nil (IsKnownAtHand current))
all_or current (ty ∷ types) = elim (known_or current ty) [
  | inl known ↦ elim (all_or current types) [
    | inl all ↦ inl (All-cons (IsKnownAtHand current) ty types known all)
    | inr far ↦ inr (suc far.0, far.1, far.2, far.3)
  ]
  | inr away ↦ inr (0, ty, refl, away)
]

-- the header has no other shape, or else a parameter or the result is away
away_told : {program : Program} {here : Here} {n : Name} (arguments : Vec Expr Global) {f : ℕ} {placed : Placed} {given : List TExpr} → IsCall program here n arguments.items f placed given → (IsCallable here.current (parameters_of here placed f) (returns_of (callee here placed f) placed.function.result) → ⊥) → FaultAt program here (E.Call n arguments) Faults.OtherShape n.place
away_told {here = here} arguments {f} {placed} call never = elim (all_or here.current (parameters_of here placed f)) [
  | inl all ↦ elim (known_or here.current (result_of here placed f)) [
    | inl known ↦ absurd (never (record { parameters_at_hand = all; result_at_hand = known }))
    | inr away ↦ F.result_away arguments call away.2 away.3
  ]
  | inr far ↦ F.argument_away arguments far.0 call (far.2 ∙ ap (λ (t : Option ValueType). Some t) far.3.2) far.3.3
]

unfit_told : {program : Program} {here : Here} {n : Name} (arguments : Vec Expr Global) {f : ℕ} {placed : Placed} {given : List TExpr} (which : ℕ) (elem : Elem) (shape : Option ℕ) (a : TExpr) (other : Option ℕ) → IsCall program here n arguments.items f placed given → slice_get (parameters_of here placed f) which ≡ Some (Some (record { elem = elem; shape = shape })) → slice_get given which ≡ Some a → (type_of a).shape ≡ other → (is_none shape && is_some other) ≡ true → FaultAt program here (E.Call n arguments) Faults.ScalarWanted n.place
unfit_told arguments which elem None a None call at_type at_given is unfit = absurd (cc)
unfit_told arguments which elem None a (Some s) call at_type at_given is unfit = F.parallel_argument arguments which call at_type at_given is
unfit_told arguments which elem (Some t) a other call at_type at_given is unfit = absurd (cc)

parallel_told : {program : Program} {here : Here} {n : Name} (arguments : Vec Expr Global) {f : ℕ} {placed : Placed} {given : List TExpr} (which : ℕ) (ty : Option ValueType) (a : TExpr) → IsCall program here n arguments.items f placed given → slice_get (parameters_of here placed f) which ≡ Some ty → slice_get given which ≡ Some a → is_unfit ty a ≡ true → FaultAt program here (E.Call n arguments) Faults.ScalarWanted n.place
parallel_told arguments which None a call at_type at_given unfit = absurd (true≢false (sym unfit))
parallel_told arguments which (Some ty) a call at_type at_given unfit = unfit_told arguments which ty.elem ty.shape a (type_of a).shape call at_type at_given refl unfit

recursion_told : {so_far : Instances} {file : File} {program : Program} {here : Here} {n : Name} (arguments : Vec Expr Global) {f : ℕ} {placed : Placed} {given : List TExpr} (around : Option ℕ) → IsCall program here n arguments.items f placed given → HasItsCalls so_far file program here (E.Call n arguments) → here.around ≡ around → IsOfGroup file around f → FaultAt program here (E.Call n arguments) Faults.Recursion n.place
recursion_told arguments None call calls there same = absurd same
recursion_told {n = n} arguments {f} (Some around) call calls there same =
    F.recursion arguments call there ((calls.of_file.groups around f (calls.of_file.around around there) (calls.of_file.named n.word f call.is_function)).0 same).1

pub unfitting_told : {so_far : Instances} {file : File} {program : Program} {here : Here} {n : Name} (arguments : Vec Expr Global) (around : Option ℕ) {f : ℕ} {header : Header} {placed : Placed} {given : List TExpr} {fault : Fault} → IsCall program here n arguments.items f placed given → HasItsCalls so_far file program here (E.Call n arguments) → here.around ≡ around → IsHeader placed (record { function = f; current = here.current }) header → IsUnfitting file around f header given fault → FaultAt program here (E.Call n arguments) fault n.place
unfitting_told {here = here} arguments around {f} {header} {placed} call calls there head (R.other_shape other) =
    away_told arguments call (λ callable. true≢false (sym other ∙ head.at_hand.1 (subst (λ (r : Returns). IsCallable here.current header.parameters.items r) (sym (head.returns here.shapes)) (subst (λ (ps : List (Option ValueType)). IsCallable here.current ps (returns_of (callee here placed f) placed.function.result)) (sym (head.parameters here.shapes)) callable))))
unfitting_told {here = here} arguments around call calls there head (R.parallel t) =
    parallel_told arguments t.0 t.1 t.2 call (ap (λ (ps : List (Option ValueType)). slice_get ps t.0) (sym (head.parameters here.shapes)) ∙ t.3) t.4 t.5
unfitting_told {here = here} arguments around {given = given} call calls there head (R.count many) =
    F.argument_count arguments call (λ same. many (ap length (head.parameters here.shapes) ∙ sym same))
unfitting_told arguments around call calls there head (R.recursion same) = recursion_told arguments around call calls there same

pub no_type_told : {program : Program} {here : Here} {n : Name} (arguments : Vec Expr Global) {f : ℕ} {header : Header} {placed : Placed} → meaning here n.word ≡ Some (a_function f) → slice_get program.functions f ≡ Some placed → IsHeader placed (record { function = f; current = here.current }) header → HasNoType header → Rests program here (E.Call n arguments)
no_type_told {here = here} arguments means is head (R.parameter which none) = R.on_function arguments means is (R.parameter which (ap (λ (ps : List (Option ValueType)). slice_get ps which) (sym (head.parameters here.shapes)) ∙ none))
no_type_told {here = here} arguments means is head (R.result none) = R.on_function arguments means is (R.result (sym (head.returns here.shapes) ∙ none))

-- a parameter without a type, where not each has one
pub untyped_parameter : (ps : List (Option ValueType)) → list_all is_some ps ≡ false → (which : ℕ) × (slice_get ps which ≡ Some None)
untyped_parameter [] is = absurd (true≢false is)
untyped_parameter (None ∷ ps) is = (0, refl)
untyped_parameter (Some ty ∷ ps) is = let rest = untyped_parameter ps is in (suc rest.0, rest.1)

-- a call that does not fit is refused for that
pub refused_call : (file : File) (around : Option ℕ) (f : ℕ) (header : Header) (p : Place) (given : List TExpr) (u : Untyped) {fault : Fault} → told_by u ≡ Some (fault, p) → IsUnfitting file around f header given fault → IsRefusedCall file around f header p given u
refused_call file around f header p given (N.Fault standing) {fault = fault} is h =
    let same : ◌≡◌ {A = Fault × Place} (standing.fault, standing.place) (fault, p) = cc in
    (ap (λ (t : Fault × Place). t.1) same, subst (IsUnfitting file around f header given) (sym (ap (λ (t : Fault × Place). t.0) same)) h)
refused_call file around f header p given N.Faulty is h = absurd (cc)
refused_call file around f header p given N.Memory is h = absurd (cc)
