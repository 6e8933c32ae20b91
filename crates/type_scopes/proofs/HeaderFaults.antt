-- The faults of a header, and what is recorded of them.
use Rattle.std.proofs.Common.{◌≡◌, ◌∙◌, ◌++◌, ◌⊎◌, inl, inr, ℕ, ◌+◌, Bool, true, false, not, List, [], ◌∷◌, Option, Some, None, Result, Ok, Err, refl, sym, ap, subst, true≢false}
use Rattle.std.specs.Option.{option_map}
use Rattle.std.specs.declared.alloc.Global.{Global}
use Rattle.std.specs.Prelude.{Vec, MatchOption, if◌then◌else◌}
use Rattle.cstar_base.specs.declared.faults.Fault.{Fault}
use Rattle.cstar_base.specs.declared.faults.Fault.TheVariants as F
use Rattle.cstar_base.specs.declared.operators.Place.{Place}
use Rattle.cstar_tree.specs.declared.syntax.Function.{Function}
use Rattle.cstar_tree.specs.declared.syntax.Parameter.{Parameter}
use Rattle.cstar_tree.specs.declared.syntax.ResultType.{ResultType}
use Rattle.cstar_tree.specs.declared.syntax.ResultType.TheVariants as T
use Rattle.cstar_tree.specs.declared.syntax.ShapeRef.{ShapeRef}
use Rattle.cstar_tree.specs.declared.syntax.ShapeRef.TheVariants as R
use Rattle.cstar_tree.specs.declared.syntax.TypeName.{TypeName}
use Rattle.cstar_tree.specs.declared.typed.ValueType.{ValueType}
use Rattle.cstar_tree.specs.ExpressionFaults.{kind_of, shape, variable}
use Rattle.cstar_tree.specs.FileFaults as P
use Rattle.cstar_tree.specs.FileFaults.{ParametersFault}
use Rattle.cstar_tree.specs.Headers.{behind_parameter}
use Rattle.cstar_tree.specs.Scopes.{Binding, Here, Meaning, a_function, a_shape, a_variable, find, meaning, of_shape, shape_meant}
use Rattle.cstar_tree.specs.StatementFaults.{ShapeFaultAt, TypeFaultAt, no_current, no_shape, unknown}
use Rattle.type_scopes.specs.declared.faults.Untyped.{Untyped}
use Rattle.type_scopes.specs.declared.faults.Untyped.TheVariants as U
use Rattle.type_scopes.specs.declared.file.File.{File}
use Rattle.type_scopes.specs.declared.headers.HeaderScope.{HeaderScope}
use Rattle.type_scopes.specs.declared.standing.Standing.{Standing}
use Rattle.type_scopes.specs.Answers.{IsSettled}
use Rattle.type_scopes.specs.Faults.{IsLeastOf, Records, lesser, told}
use Rattle.type_scopes.specs.Headers.{HeaderFault, IsKeptFor, NameFault, ResultFault, has_word, redeclared, written}
use Rattle.type_scopes.specs.Named as N
use Rattle.type_scopes.specs.Named.{IsTypeAmong, misnamed, no_type, of_written, shape_among, type_among}
use Rattle.type_scopes.proofs.RecordLemmas.{least_of, records_as, records_both, records_none, records_one}

abbrev around : Here → List Binding
around here = here.names.inner ++ here.names.outer

-- a shape that has a fault is none, and its fault is the one that is told
abbrev IsTold : Here → ShapeRef → Fault → Place → Type 0
IsTold here ref f p = (shape_among (around here) here.current ref ≡ None) × (N.no_shape (around here) ref ≡ Some (f, p))

other_kind : (m : Meaning) → (kind_of m ≡ shape → ⊥) → (shape_meant (Some m) ≡ None) × (misnamed (Some m) ≡ F.WrongKind)
other_kind (a_shape s) other = absurd (other refl)
other_kind (a_function f) other = (refl, refl)
other_kind (a_variable v t) other = (refl, refl)

shape_told : (here : Here) {ref : ShapeRef} {f : Fault} {p : Place} → ShapeFaultAt here ref f p → IsTold here ref f p
unfolding meaning
shape_told here (unknown {n = n} is) = (ap shape_meant is, ap (λ (m : Option Meaning). Some (misnamed m, n.place)) is)
shape_told here (no_shape {n = n} {m = m} is other) =
    let k = other_kind m other in
    (ap shape_meant is ∙ k.0, ap (λ (m : Option Meaning). Some (misnamed m, n.place)) is ∙ ap (λ (f : Fault). Some (f, n.place)) k.1)
shape_told here (no_current is) = (is, refl)

at_told : (here : Here) (ref : ShapeRef) (a b : Fault × Place) → a ≡ b → ShapeFaultAt here ref b.0 b.1 → ShapeFaultAt here ref a.0 a.1
at_told here ref a b is h = subst (λ (t : Fault × Place). ShapeFaultAt here ref t.0 t.1) (sym is) h

shape_stands : (here : Here) (ref : ShapeRef) (t : Fault × Place) → shape_among (around here) here.current ref ≡ None → Some t ≡ N.no_shape (around here) ref → ShapeFaultAt here ref t.0 t.1
unfolding meaning
shape_stands here (R.Current p) t none is = at_told here (R.Current p) t (F.NoShape, p) (cc) (no_current none)
shape_stands here (R.Named n) t none is = step (find (around here) n.word) refl
  where
    step : (m : Option Meaning) → find (around here) n.word ≡ m → ShapeFaultAt here (R.Named n) t.0 t.1
    step None found =
        let told_is : Some t ≡ Some (misnamed None, n.place) = is ∙ ap (λ (m : Option Meaning). Some (misnamed m, n.place)) found in
        at_told here (R.Named n) t (F.Unknown, n.place) (cc) (unknown found)
    step (Some (a_shape s)) found = absurd (let e : Some s ≡ None = sym (ap shape_meant found) ∙ none in cc)
    step (Some (a_function f)) found =
        let told_is : Some t ≡ Some (misnamed (Some (a_function f)), n.place) = is ∙ ap (λ (m : Option Meaning). Some (misnamed m, n.place)) found in
        at_told here (R.Named n) t (F.WrongKind, n.place) (cc) (no_shape found (λ (e : kind_of (a_function f) ≡ shape). cc))
    step (Some (a_variable v ty)) found =
        let told_is : Some t ≡ Some (misnamed (Some (a_variable v ty)), n.place) = is ∙ ap (λ (m : Option Meaning). Some (misnamed m, n.place)) found in
        at_told here (R.Named n) t (F.WrongKind, n.place) (cc) (no_shape found (λ (e : kind_of (a_variable v ty) ≡ shape). cc))

-- and so of a type that names one
type_told : (here : Here) (w : TypeName) (f : Fault) (p : Place) → TypeFaultAt here w f p → (type_among (around here) here.current w ≡ None) × (no_type (around here) w.shape ≡ Some (f, p))
type_told here w f p fault =
    let t = shape_told here fault.stands in
    (ap (of_written (around here) here.current w) fault.is_named ∙ ap (of_shape w) t.0, ap (no_type (around here)) fault.is_named ∙ t.1)

no_shape_among : (w : TypeName) (s : Option ℕ) → of_shape w s ≡ None → s ≡ None
no_shape_among w None none = refl
no_shape_among w (Some s) none = absurd (cc)

type_stands : (here : Here) (w : TypeName) (t : Fault × Place) → type_among (around here) here.current w ≡ None → Some t ≡ no_type (around here) w.shape → TypeFaultAt here w t.0 t.1
type_stands here w t none is = step w.shape refl
  where
    step : (ref : Option ShapeRef) → w.shape ≡ ref → TypeFaultAt here w t.0 t.1
    step None e = absurd (let n : Some t ≡ None = is ∙ ap (no_type (around here)) e in cc)
    step (Some ref) e = record {
      named = ref;
      is_named = e;
      stands = shape_stands here ref t (no_shape_among w (shape_among (around here) here.current ref) (sym (ap (of_written (around here) here.current w) e) ∙ none)) (is ∙ ap (no_type (around here)) e);
    }

has_type : (here : Here) (w : TypeName) → no_type (around here) w.shape ≡ None → type_among (around here) here.current w ≡ None → ⊥
has_type here w untold none = step w.shape refl
  where
    shaped : (ref : ShapeRef) → N.no_shape (around here) ref ≡ None → ⊥
    shaped (R.Named n) e = cc
    shaped (R.Current p) e = cc

    step : (ref : Option ShapeRef) → w.shape ≡ ref → ⊥
    step None e = let n = sym (ap (of_written (around here) here.current w) e) ∙ none in cc
    step (Some ref) e = shaped ref (sym (ap (no_type (around here)) e) ∙ untold)

-- a type that is settled has its faults recorded
pub type_records : (here : Here) (w : TypeName) (result : Result ValueType Untyped) (old new : Option Standing) → IsTypeAmong (around here) here.current w result → IsSettled old result new → Records (TypeFaultAt here w) old new
type_records here w (Ok ty) old new is settled = records_none (TypeFaultAt here w) old new none settled
  where
    none : (f : Fault) (p : Place) → TypeFaultAt here w f p → ⊥
    none f p h = let e : Some ty ≡ None = sym is ∙ (type_told here w f p h).0 in cc
type_records here w (Err (U.Fault s)) old new is settled = records_one (TypeFaultAt here w) old new s.fault s.place (type_stands here w (told s) is.0 is.1) only settled
  where
    only : (g : Fault) (q : Place) → TypeFaultAt here w g q → ◌≡◌ {A = Fault × Place} (g, q) (s.fault, s.place)
    only g q h = let e : Some (told s) ≡ Some (g, q) = is.1 ∙ (type_told here w g q h).1 in cc
type_records here w (Err U.Faulty) old new is settled = absurd (has_type here w (sym is.1) is.0)
type_records here w (Err U.Memory) old new is settled = absurd settled

-- a result
of_written_result : {here : Here} {w : TypeName} {f : Fault} {p : Place} → ResultFault here (T.Written w) f p → TypeFaultAt here w f p
of_written_result (written h) = h

pub result_records : (here : Here) (result : ResultType) (w : TypeName) (old new : Option Standing) → result ≡ T.Written w → Records (TypeFaultAt here w) old new → Records (ResultFault here result) old new
result_records here result w old new is all = rw is (records_as (TypeFaultAt here w) (ResultFault here (T.Written w)) old new (λ f p h. of_written_result h) (λ f p h. written h) all)

-- the name of a parameter
taken : (m : Option Meaning) → option_map kind_of m ≡ Some variable → (n : Meaning) × (m ≡ Some n)
taken None is = absurd (cc)
taken (Some m) is = (m, refl)

untaken : (m : Option Meaning) → option_map kind_of m ≡ None → m ≡ None
untaken None is = refl
untaken (Some m) is = absurd (cc)

denied : (b is r : Bool) → r ≡ not b → r ≡ not is → b ≡ is
denied true true r e f = refl
denied false false r e f = refl
denied true false r e f = absurd (true≢false (sym f ∙ e))
denied false true r e f = absurd (true≢false (sym e ∙ f))

pub was_taken : (keys : List (Vec ℕ Global)) (key : Vec ℕ Global) (word : List ℕ) (new is : Bool) → key.items ≡ word → new ≡ not (has_word keys key.items) → new ≡ not is → has_word keys word ≡ is
was_taken keys key word new is same added e = ap (has_word keys) (sym same) ∙ denied (has_word keys key.items) is new added e

named_fault : {here : Here} {q : Parameter} {f : Fault} {p : Place} → NameFault here q f p → ((m : Meaning) × (find here.names.inner q.name.word ≡ Some m)) × (◌≡◌ {A = Fault × Place} (f, p) (F.Redeclared, q.name.place))
named_fault (redeclared {m = m} is) = ((m, is), refl)

pub taken_records : (file : File) (scope : HeaderScope) (here : Here) (q : Parameter) (old new : Option Standing) → IsKeptFor file scope here → has_word scope.parameters.keys q.name.word ≡ true → MatchOption new ⊥ (λ least. told least ≡ lesser old F.Redeclared q.name.place) → Records (NameFault here q) old new
taken_records file scope here q old new kept has is =
    let t = taken (find here.names.inner q.name.word) (kept.inner q.name.word ∙ ap (λ (b : Bool). if b then Some variable else None) has) in
    records_one (NameFault here q) old new F.Redeclared q.name.place (redeclared t.1) (λ g o h. (named_fault h).1) is

pub untaken_records : (file : File) (scope : HeaderScope) (here : Here) (q : Parameter) (old new : Option Standing) → IsKeptFor file scope here → has_word scope.parameters.keys q.name.word ≡ false → new ≡ old → Records (NameFault here q) old new
untaken_records file scope here q old new kept has is =
    let none = untaken (find here.names.inner q.name.word) (kept.inner q.name.word ∙ ap (λ (b : Bool). if b then Some variable else None) has) in
    records_none (NameFault here q) old new (λ f p h. let n = sym (named_fault h).0.1 ∙ none in cc) is

-- the parameters
pub no_parameter : {here : Here} {i : ℕ} {f : Fault} {p : Place} → ParametersFault here i [] f p → ⊥
no_parameter h = elim h [ ]

first_or_later : {here : Here} {i : ℕ} {q : Parameter} {qs : List Parameter} {f : Fault} {p : Place} → ParametersFault here i (q ∷ qs) f p → TypeFaultAt here q.type_name f p ⊎ (NameFault here q f p ⊎ ParametersFault (behind_parameter here i q) (i + 1) qs f p)
first_or_later (P.written h) = inl h
first_or_later (P.redeclared is) = inr (inl (redeclared is))
first_or_later (P.later h) = inr (inr h)

of_name : {here : Here} {i : ℕ} {q : Parameter} {qs : List Parameter} {f : Fault} {p : Place} → NameFault here q f p → ParametersFault here i (q ∷ qs) f p
of_name (redeclared is) = P.redeclared is

abbrev Later : Here → ℕ → Parameter → List Parameter → Fault → Place → Type 0
Later here i q qs f p = NameFault here q f p ⊎ ParametersFault (behind_parameter here i q) (i + 1) qs f p

pub parameters_record : (here : Here) (i : ℕ) (q : Parameter) (qs : List Parameter) (old mid new final : Option Standing) → Records (TypeFaultAt here q.type_name) old mid → Records (NameFault here q) mid new → Records (ParametersFault (behind_parameter here i q) (i + 1) qs) new final → Records (ParametersFault here i (q ∷ qs)) old final
parameters_record here i q qs old mid new final typed named rest =
    let later = records_both (NameFault here q) (ParametersFault (behind_parameter here i q) (i + 1) qs) (Later here i q qs) mid new final (λ f p h. h) (λ f p h. inl h) (λ f p h. inr h) named rest in
    records_both (TypeFaultAt here q.type_name) (Later here i q qs) (ParametersFault here i (q ∷ qs)) old mid final (λ f p h. first_or_later h) (λ f p h. P.written h) (λ f p h. elim h [ inl n ↦ of_name n | inr r ↦ P.later r ]) typed later

pub header_records : (here : Here) (function : Function) (mid least : Option Standing) → Records (ResultFault here function.result) None mid → Records (ParametersFault here 0 function.parameters.items) mid least → IsLeastOf (HeaderFault here function) least
header_records here function mid least result parameters = least_of (HeaderFault here function) least (records_both (ResultFault here function.result) (ParametersFault here 0 function.parameters.items) (HeaderFault here function) None mid least (λ f p h. h) (λ f p h. inl h) (λ f p h. inr h) result parameters)
