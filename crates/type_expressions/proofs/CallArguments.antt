-- The arguments of a call beside the types of its parameters.
use Rattle.std.proofs.Common.{◌≡◌, ◌<◌, ◌≤◌, ◌+◌, ℕ, suc, ◌⊎◌, inl, inr, true≢false, true, false, ◌&&◌, List, [], ◌∷◌, ◌++◌, get_or, length, map, take, Option, Some, None, Box, arith, refl, sym, ap, subst, ◌∙◌}
use Rattle.std.specs.List.{slice_get}
use Rattle.std.specs.Option.{is_none, is_some, option_flatten, option_map}
use Rattle.std.specs.declared.alloc.Global.{Global}
use Rattle.std.proofs.Math.ListN.{get_or-append}
use Rattle.std.proofs.Math.Seq.{get_or-append_seam, take-length, take-suc}
use Rattle.std.proofs.lemmas.Bool.{cases_lt}
use Rattle.std.proofs.lemmas.List.{length-append, map-append, map-id}
use Rattle.std.proofs.lemmas.Option.{get_or_from_slice_get, slice_get-get_or, slice_get-map, slice_get_read, slice_get_within}
use Rattle.cstar_tree.specs.declared.typed.TExpr.{TExpr}
use Rattle.cstar_tree.specs.declared.typed.ValueType.{ValueType}
use Rattle.cstar_tree.specs.Conversions.{AreFitted, IsFitted}
use Rattle.cstar_tree.specs.Conversions as C
use Rattle.cstar_tree.specs.Typed.{type_of}
use Rattle.type_expressions.specs.Answers.{trees}
use Rattle.type_expressions.specs.Calls.{TakesParallel, is_unfit}

-- what stands in a list that is longer by one
kept : {A : Type 0} (values : List A) (x : A) (k : ℕ) (e : A) → slice_get values k ≡ Some e → slice_get (values ++ x ∷ []) k ≡ Some e
kept values x k e is =
    let within = slice_get_within values k e is in
    let more = length-append values (x ∷ []) in
    slice_get_read (values ++ x ∷ []) (length (values ++ x ∷ [])) k e refl (omega (arith, within, more)) (sym (get_or-append values (x ∷ []) e k within ∙ get_or_from_slice_get values k e e is))

last : {A : Type 0} (values : List A) (x : A) → slice_get (values ++ x ∷ []) (length values) ≡ Some x
last values x =
    let more = length-append values (x ∷ []) in
    slice_get_read (values ++ x ∷ []) (length (values ++ x ∷ [])) (length values) x refl (omega (arith, more)) (sym (get_or-append_seam values x [] x))

abbrev value_in : Box TExpr Global → TExpr
value_in b = b.value

pub trees_more : (values : List (Box TExpr Global)) (x : Box TExpr Global) → trees (values ++ x ∷ []) ≡ trees values ++ x.value ∷ []
trees_more values x = map-append value_in values (x ∷ [])

injective : {A : Type 0} {x y : A} → Some x ≡ Some y → x ≡ y
injective is = cc

-- one argument more
pub more_parallel : (parameters : List (Option ValueType)) (values : List (Box TExpr Global)) (x : Box TExpr Global) → TakesParallel parameters (trees values) → TakesParallel parameters (trees (values ++ x ∷ []))
more_parallel parameters values x t =
    (t.0, t.1, t.2, t.3, ap (λ (es : List TExpr). slice_get es t.0) (trees_more values x) ∙ kept (trees values) x.value t.0 t.2 t.4, t.5)

last_parallel : (parameters : List (Option ValueType)) (values : List (Box TExpr Global)) (x : Box TExpr Global) (ty : ValueType) → slice_get parameters (length values) ≡ Some (Some ty) → (TakesParallel parameters (trees (values ++ x ∷ [])) → ⊥) → (is_none ty.shape && is_some (type_of x.value).shape) ≡ true → ⊥
last_parallel parameters values x ty is none unfit =
    none (length values, Some ty, x.value, is, slice_get-map value_in (values ++ x ∷ []) (length values) ∙ ap (option_map value_in) (last values x), unfit)

pub scalar_too : (shape other : Option ℕ) → ((is_none shape && is_some other) ≡ true → ⊥) → shape ≡ None → other ≡ None
scalar_too None None never is = refl
scalar_too None (Some s) never is = absurd (never refl)
scalar_too (Some s) other never is = absurd (cc)

type_at : (types : List ValueType) (k : ℕ) (o : Option ValueType) (ty : ValueType) → slice_get types k ≡ o → option_map (λ (t : ValueType). Some t) o ≡ Some (Some ty) → slice_get types k ≡ Some ty
type_at types k None ty is same = absurd (cc)
type_at types k (Some t) ty is same = is ∙ cc

fitted_behind : {types : List ValueType} {es fs : List TExpr} {ty : ValueType} {e f : TExpr} → AreFitted types es fs → (ty.shape ≡ None → (type_of e).shape ≡ None) → IsFitted e ty f → AreFitted (types ++ ty ∷ []) (es ++ e ∷ []) (fs ++ f ∷ [])
fitted_behind C.none scalar h = C.next scalar h C.none
fitted_behind (C.next s k rest) scalar h = C.next s k (fitted_behind rest scalar h)

pub push_fitted : (parameters : List (Option ValueType)) (types : List ValueType) (values : List (Box TExpr Global)) (x : Box TExpr Global) (ty : ValueType) {fs new : List TExpr} {f q : TExpr} → parameters ≡ map (λ (t : ValueType). Some t) types → slice_get parameters (length values) ≡ Some (Some ty) → (TakesParallel parameters (trees (values ++ x ∷ [])) → ⊥) → AreFitted (take (length values) types) (trees values) fs → IsFitted x.value ty f → q ≡ f → new ≡ fs ++ q ∷ [] → AreFitted (take (length (values ++ x ∷ [])) types) (trees (values ++ x ∷ [])) new
push_fitted parameters types values x ty {fs = fs} {f = f} are is none before fitted same new_is =
    let there = type_at types (length values) (slice_get types (length values)) ty refl (sym (slice_get-map (λ (t : ValueType). Some t) types (length values)) ∙ (ap (λ (ps : List (Option ValueType)). slice_get ps (length values)) (sym are) ∙ is)) in
    let scalar = scalar_too ty.shape (type_of x.value).shape (last_parallel parameters values x ty is none) in
    let count : length (values ++ x ∷ []) ≡ suc (length values) = length-append values (x ∷ []) ∙ omega arith in
    let taken = take-suc types (length values) ty (slice_get_within types (length values) ty there) ∙ ap (λ (t : ValueType). take (length values) types ++ t ∷ []) (get_or_from_slice_get types (length values) ty ty there) in
    rw (new_is, same, trees_more values x, count, taken) (fitted_behind before scalar fitted)

-- the first so many arguments fit their parameters
abbrev pub AreFit : ℕ → List (Option ValueType) → List TExpr → Type 0
AreFit n parameters arguments = (k : ℕ) (ty : Option ValueType) (e : TExpr) → k < n → slice_get parameters k ≡ Some ty → slice_get arguments k ≡ Some e → is_unfit ty e ≡ false

pub fit_more : (n : ℕ) (parameters : List (Option ValueType)) (arguments : List TExpr) (ty : Option ValueType) (e : TExpr) → slice_get parameters n ≡ Some ty → slice_get arguments n ≡ Some e → is_unfit ty e ≡ false → AreFit n parameters arguments → AreFit (n + 1) parameters arguments
fit_more n parameters arguments ty e at_ty at_e fits before k other x within at_other at_x = step (cases_lt k n)
  where
    step : (k < n) ⊎ (n ≤ k) → is_unfit other x ≡ false
    step (inl less) = before k other x less at_other at_x
    step (inr more) =
        let same : k ≡ n = omega (arith, within, more) in
        let types : ty ≡ other = injective (sym at_ty ∙ (ap (slice_get parameters) (sym same) ∙ at_other)) in
        let trees : e ≡ x = injective (sym at_e ∙ (ap (slice_get arguments) (sym same) ∙ at_x)) in
        rw (sym types, sym trees) fits

pub none_parallel : (parameters : List (Option ValueType)) (arguments : List TExpr) (n : ℕ) → (length parameters ≤ n) ⊎ (length arguments ≤ n) → AreFit n parameters arguments → TakesParallel parameters arguments → ⊥
none_parallel parameters arguments n all fit t = true≢false (sym t.5 ∙ fit t.0 t.1 t.2 (within all) t.3 t.4)
  where
    within : (length parameters ≤ n) ⊎ (length arguments ≤ n) → t.0 < n
    within (inl few) = let k = slice_get_within parameters t.0 t.1 t.3 in omega (arith, k, few)
    within (inr few) = let k = slice_get_within arguments t.0 t.2 t.4 in omega (arith, k, few)

-- each parameter has a type
pub known_at : (parameters : List (Option ValueType)) (types : List ValueType) (k : ℕ) → parameters ≡ map (λ (t : ValueType). Some t) types → k < length types → (ty : ValueType) × (slice_get parameters k ≡ Some (Some ty))
known_at parameters [] k are within = absurd (omega (arith, within))
known_at parameters (t ∷ ts) k are within =
    let there = slice_get-get_or (t ∷ ts) k t within in
    (get_or (t ∷ ts) k t, ap (λ (ps : List (Option ValueType)). slice_get ps k) are ∙ (slice_get-map (λ (t : ValueType). Some t) (t ∷ ts) k ∙ ap (option_map (λ (t : ValueType). Some t)) there))

pub all_fitted : (parameters : List (Option ValueType)) (types : List ValueType) (yielded values : List (Box TExpr Global)) {fs : List TExpr} → map (λ (b : Box TExpr Global). b) yielded ≡ values → length values ≡ length types → (TakesParallel parameters (trees values) → ⊥) → ((TakesParallel parameters (trees yielded) → ⊥) → AreFitted (take (length yielded) types) (trees yielded) fs) → AreFitted types (trees values) fs
all_fitted parameters types yielded values {fs = fs} all many none fitted =
    let same : yielded ≡ values = sym (map-id yielded) ∙ all in
    let whole : take (length values) types ≡ types = ap (λ (k : ℕ). take k types) many ∙ take-length types in
    subst (λ (ts : List ValueType). AreFitted ts (trees values) fs) whole (subst (λ (vs : List (Box TExpr Global)). (TakesParallel parameters (trees vs) → ⊥) → AreFitted (take (length vs) types) (trees vs) fs) same fitted none)

pub flattened : (o : Option (Option ValueType)) (ty : ValueType) → option_flatten o ≡ Some ty → o ≡ Some (Some ty)
flattened None ty is = absurd (cc)
flattened (Some None) ty is = absurd (cc)
flattened (Some (Some t)) ty is = ap (λ (k : Option ValueType). Some k) is
