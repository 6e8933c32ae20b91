-- The names around a type in a header, and the types of parameters.
use Rattle.std.proofs.Common.{◌≡◌, ◌<◌, ◌≤◌, zero, suc, add-one, append_assoc, drop-cons, length-append, drop, length, get_or, ◌==◌, Result, Ok, Err, ◌∙◌, ℕ, Bool, true, false, ◌||◌, ◌+◌, List, [], ◌∷◌, ◌++◌, Option, Some, None, refl, sym, ap, subst, arith, is_some, not, true≢false}
use Rattle.std.proofs.Math.Bool.{Bool-set}
use Rattle.std.proofs.lemmas.Bool.{eqb-true, eq-eqb}
use Rattle.std.proofs.Math.Seq.{get_or-append_seam}
use Rattle.std.proofs.lemmas.List.{append-nil, drop_all, get_or_append_left}
use Rattle.std.proofs.lemmas.List.Elements.{All-append, All-nil}
use Rattle.std.proofs.lemmas.List.Folds.{list_any-append}
use Rattle.std.specs.List.{All}
use Rattle.std.specs.Option.{option_eq, option_map, option_or}
use Rattle.std.specs.Prelude.{◌↔◌, Vec, bytes_eq, if◌then◌else◌}
use Rattle.std.specs.declared.alloc.Global.{Global}
use Rattle.indexmap.specs.IndexSet.{insert_key}
use Rattle.cstar_base.specs.Kinds.{is_kind}
use Rattle.cstar_base.specs.declared.faults.Fault.TheVariants as F
use Rattle.cstar_tree.specs.declared.syntax.Parameter.{Parameter}
use Rattle.cstar_tree.specs.declared.syntax.ShapeRef.{ShapeRef}
use Rattle.cstar_tree.specs.declared.syntax.ShapeRef.TheVariants as R
use Rattle.cstar_tree.specs.declared.syntax.TypeName.{TypeName}
use Rattle.cstar_tree.specs.declared.typed.ValueType.{ValueType}
use Rattle.cstar_tree.specs.declared.typed.Variable.{Variable}
use Rattle.cstar_tree.specs.Conversions as C
use Rattle.cstar_tree.specs.Conversions.{int}
use Rattle.cstar_tree.specs.ExpressionFaults.{kind_of, variable}
use Rattle.cstar_tree.specs.declared.typed.Variable.TheVariants as V
use Rattle.cstar_tree.specs.ExpressionTypes.{IsCallable, IsKnownAtHand, faulty, result_known, typed}
use Rattle.cstar_tree.specs.FileFaults.{ParametersFault}
use Rattle.cstar_tree.specs.Headers.{Returns, a_value, behind_parameter, parameter_types, plain_type}
use Rattle.cstar_tree.specs.Scopes as S
use Rattle.cstar_tree.specs.Scopes.{Binding, Here, IsAtHand, Meaning, Names, VariableType, a_function, a_shape, a_variable, declared, find, meaning, of_current, scalar, shape_meant, written_type}
use Rattle.type_scopes.specs.declared.file.File.{File}
use Rattle.type_scopes.specs.declared.headers.HeaderScope.{HeaderScope}
use Rattle.type_scopes.specs.declared.standing.Standing.{Standing}
use Rattle.type_scopes.specs.Faults.{Records}
use Rattle.type_scopes.specs.declared.names.Meaning as Kept
use Rattle.type_scopes.specs.declared.names.Meaning.TheVariants as M
use Rattle.type_scopes.specs.Bindings.{meant}
use Rattle.type_scopes.specs.FileBindings.{file_bindings}
use Rattle.type_scopes.specs.Headers.{IsKeptFor, NameFault, has_word}
use Rattle.type_scopes.specs.Answers.{part_of}
use Rattle.type_scopes.specs.declared.faults.Untyped.{Untyped}
use Rattle.type_scopes.specs.Named.{IsTypeAmong, misnamed, of_written, type_among}
use Rattle.cstar_tree.specs.StatementFaults.{TypeFaultAt}
use Rattle.type_scopes.proofs.HeaderFaults.{no_parameter, parameters_record}
use Rattle.type_scopes.proofs.RecordLemmas.{records_none}
use Rattle.type_scopes.proofs.FileLemmas.{find_first, turned_round}

-- a name that a parameter has stands for no shape
hidden : (m other : Option Meaning) → option_map kind_of m ≡ Some variable → (shape_meant (option_or m other) ≡ None) × (misnamed (option_or m other) ≡ F.WrongKind)
hidden None other is = absurd (cc)
hidden (Some (a_shape s)) other is = absurd (cc)
hidden (Some (a_function f)) other is = absurd (cc)
hidden (Some (a_variable v t)) other is = (refl, refl)

not_hidden : (m other : Option Meaning) → option_map kind_of m ≡ None → option_or m other ≡ other
not_hidden None other is = refl
not_hidden (Some m) other is = absurd (cc)

pub in_parameters : (file : File) (scope : HeaderScope) (here : Here) (word : List ℕ) → IsKeptFor file scope here → has_word scope.parameters.keys word ≡ true
    → (shape_meant (find (here.names.inner ++ here.names.outer) word) ≡ None) × (misnamed (find (here.names.inner ++ here.names.outer) word) ≡ F.WrongKind)
in_parameters file scope here word kept has =
    let kind : option_map kind_of (find here.names.inner word) ≡ Some variable = kept.inner word ∙ ap (λ (b : Bool). if b then Some variable else None) has in
    rw (find_first here.names.inner here.names.outer word) (hidden (find here.names.inner word) (find here.names.outer word) kind)

pub in_file : (file : File) (scope : HeaderScope) (here : Here) (word : List ℕ) → IsKeptFor file scope here → has_word scope.parameters.keys word ≡ false
    → find (here.names.inner ++ here.names.outer) word ≡ find (file_bindings file scope.known) word
in_file file scope here word kept has =
    let kind : option_map kind_of (find here.names.inner word) ≡ None = kept.inner word ∙ ap (λ (b : Bool). if b then Some variable else None) has in
    find_first here.names.inner here.names.outer word ∙ (not_hidden (find here.names.inner word) (find here.names.outer word) kind ∙ kept.outer word)

-- a parameter more
or_right : (b c : Bool) → c ≡ true → (b || (c || false)) ≡ true
or_right true c is = refl
or_right false c is = rw is refl

or_none : (b c : Bool) → c ≡ false → (b || (c || false)) ≡ b
or_none true c is = refl
or_none false c is = rw is refl

abbrev IsAmong : List Binding → List (Vec ℕ Global) → List ℕ → Type 0
IsAmong inner keys word = option_map kind_of (find inner word) ≡ (if has_word keys word then Some variable else None)

one_more : (inner : List Binding) (keys : List (Vec ℕ Global)) (key : Vec ℕ Global) (v : Variable) (t : Option VariableType) (word : List ℕ) → IsAmong inner keys word → IsAmong (record { word = key.items; meaning = a_variable v t } ∷ inner) (keys ++ key ∷ []) word
unfolding find
one_more inner keys key v t word among = rw (list_any-append (λ (k : Vec ℕ Global). bytes_eq word k.items) keys (key ∷ [])) (step (bytes_eq key.items word) refl)
  where
    step : (is : Bool) → bytes_eq key.items word ≡ is → option_map kind_of (find (record { word = key.items; meaning = a_variable v t } ∷ inner) word) ≡ (if has_word keys word || (bytes_eq word key.items || false) then Some variable else None)
    step true is = rw (is, or_right (has_word keys word) (bytes_eq word key.items) (turned_round key.items word true is)) refl
    step false is = rw (is, or_none (has_word keys word) (bytes_eq word key.items) (turned_round key.items word false is)) among

pub not_meant : (m : Kept.Meaning) → ((s : ℕ) → m ≡ M.Shape s → ⊥) → (shape_meant (Some (meant m)) ≡ None) × (misnamed (Some (meant m)) ≡ F.WrongKind)
not_meant (M.Shape s) other = absurd (other s refl)
not_meant (M.Function f) other = (refl, refl)
not_meant (M.Variable v t) other = (refl, refl)

abbrev same_names : Vec ℕ Global → Vec ℕ Global → Bool
same_names a b = bytes_eq a.items b.items

abbrev declared_variable : Names → List ℕ → Variable → Option VariableType → Names
declared_variable names word v t = declared names word (a_variable v t)

declared_outer : (names : Names) (word : List ℕ) (m : Meaning) → (declared names word m).outer ≡ names.outer
declared_outer names word m = step (is_some (find names.inner word))
  where
    step : (b : Bool) → (if b then names else record { inner = record { word = word; meaning = m } ∷ names.inner; outer = names.outer }).outer ≡ names.outer
    step true = refl
    step false = refl

declared_inner : (names : Names) (keys : List (Vec ℕ Global)) (key : Vec ℕ Global) (v : Variable) (t : Option VariableType) → ((word : List ℕ) → IsAmong names.inner keys word) → (word : List ℕ) → IsAmong (declared_variable names key.items v t).inner (insert_key same_names keys key) word
declared_inner names keys key v t among word = step (find names.inner key.items) refl (has_word keys key.items) refl
  where
    step : (m : Option Meaning) → find names.inner key.items ≡ m → (has : Bool) → has_word keys key.items ≡ has → IsAmong (declared_variable names key.items v t).inner (insert_key same_names keys key) word
    step (Some m) found true has = rw (found, has) (among word)
    step None none false has = rw (none, has) (one_more names.inner keys key v t word (among word))
    step (Some m) found false has = absurd (let e = sym (ap (option_map kind_of) found) ∙ (among key.items ∙ ap (λ (b : Bool). if b then Some variable else None) has) in cc)
    step None none true has = absurd (let e = sym (ap (option_map kind_of) none) ∙ (among key.items ∙ ap (λ (b : Bool). if b then Some variable else None) has) in cc)

pub kept_behind : (file : File) (scope new : HeaderScope) (here : Here) (number : ℕ) (p : Parameter) (key : Vec ℕ Global) → key.items ≡ p.name.word → new.current ≡ scope.current → new.known ≡ scope.known
    → new.parameters.keys ≡ insert_key same_names scope.parameters.keys key → IsKeptFor file scope here → IsKeptFor file new (behind_parameter here number p)
kept_behind file scope new here number p key is current known keys kept = record {
  current = kept.current ∙ sym current;
  inner = λ word. rw (keys, sym is) (declared_inner here.names scope.parameters.keys key (V.Param number) (plain_type (written_type here p.type_name)) kept.inner word);
  outer = λ word. rw (known, declared_outer here.names p.name.word (a_variable (V.Param number) (plain_type (written_type here p.type_name)))) (kept.outer word);
}

-- a shape that is the current one, if there is one
abbrev AreOne : Option ℕ → Option ℕ → Type 0
AreOne None current = Unit {0}
AreOne (Some s) None = ⊥
AreOne (Some s) (Some c) = c ≡ s

are_one : {current shape : Option ℕ} → IsAtHand current shape → AreOne shape current
are_one scalar = tt
are_one of_current = refl

pub scalar_at_hand : (current shape : Option ℕ) (r : Bool) → is_some shape ≡ false → r ≡ false → (r ≡ false) ↔ IsAtHand current shape
scalar_at_hand current None r none is = (λ e. scalar, λ h. is)
scalar_at_hand current (Some s) r none is = absurd (true≢false none)

pub parallel_at_hand : (current shape : Option ℕ) (r : Bool) → is_some shape ≡ true → r ≡ not (option_eq ◌==◌ shape current) → (r ≡ false) ↔ IsAtHand current shape
parallel_at_hand current None r some is = absurd (true≢false (sym some))
parallel_at_hand None (Some s) r some is = (λ e. absurd (true≢false (sym is ∙ e)), λ h. absurd (are_one h))
parallel_at_hand (Some c) (Some s) r some is = (λ e. at_hand (s == c) refl (sym is ∙ e), λ h. is ∙ ap not (eq-eqb s c (sym (are_one h))))
  where
    at_hand : (same : Bool) → (s == c) ≡ same → not (s == c) ≡ false → IsAtHand (Some c) (Some s)
    at_hand true same e = rw (eqb-true s c same) of_current
    at_hand false same e = absurd (true≢false (rw same at e))

-- what the names of a header say is what stands at its place
type_at : (here : Here) (written : TypeName) → type_among (here.names.inner ++ here.names.outer) here.current written ≡ written_type here written
unfolding meaning
type_at here written = step written.shape
  where
    step : (shape : Option ShapeRef) → of_written (here.names.inner ++ here.names.outer) here.current written shape ≡ S.of_written here written shape
    step None = refl
    step (Some (R.Named name)) = refl
    step (Some (R.Current p)) = refl

pub part_typed : (here : Here) (written : TypeName) (result : Result ValueType Untyped) → IsTypeAmong (here.names.inner ++ here.names.outer) here.current written result → part_of result ≡ written_type here written
part_typed here written (Ok ty) is = sym is ∙ type_at here written
part_typed here written (Err u) is = sym is.0 ∙ type_at here written

pub an_int : (kind : is_kind 32 true ≡ true) → a_value (record { elem = record { bits = 32; signed = true; kind = kind }; shape = None }) ≡ a_value (C.scalar int)
an_int kind = ap (λ (k : is_kind 32 true ≡ true). a_value (record { elem = record { bits = 32; signed = true; kind = k }; shape = None })) (Bool-set _ _ kind refl)

-- The types so far are those of the parameters before the next one, which stands at a place whose
-- names are kept, and the faults of these parameters are recorded.
pub record AreTyped (file : File) (scope : HeaderScope) (start : Here) (ps : List Parameter) (i : ℕ) (types : List (Option ValueType)) (old new : Option Standing) : Type 0 where
  pub here : Here
  pub kept : IsKeptFor file scope here
  pub all : types ++ parameter_types here i (drop i ps) ≡ parameter_types start 0 ps
  pub faults : (last : Option Standing) → Records (ParametersFault here i (drop i ps)) new last → Records (ParametersFault start 0 ps) old last

pub kept_at_start : (file : File) (scope : HeaderScope) (start : Here) → scope.parameters.keys ≡ [] → start.names.inner ≡ [] → start.current ≡ scope.current → ((word : List ℕ) → find start.names.outer word ≡ find (file_bindings file scope.known) word) → IsKeptFor file scope start
unfolding find
kept_at_start file scope start none first current outer = record {
  current = current;
  inner = λ word. rw (first, none) refl;
  outer = outer;
}

pub typed_more : (file : File) (scope new : HeaderScope) (start : Here) (ps : List Parameter) (i : ℕ) (types more : List (Option ValueType)) (p : Parameter) (ty : Option ValueType) (first old mid least : Option Standing) → i < length ps → p ≡ get_or ps i p → more ≡ types ++ ty ∷ []
    → ((here : Here) → IsKeptFor file scope here → (ty ≡ written_type here p.type_name) × Records (TypeFaultAt here p.type_name) old mid)
    → ((here : Here) → IsKeptFor file scope here → IsKeptFor file new (behind_parameter here i p) × Records (NameFault here p) mid least)
    → AreTyped file scope start ps i types first old → AreTyped file new start ps (i + 1) more first least
unfolding parameter_types
typed_more file scope new start ps i types more p ty first old mid least within is more_is is_typed behind so_far = record {
  here = behind_parameter so_far.here i p;
  kept = (behind so_far.here so_far.kept).0;
  all =
      let tail = parameter_types (behind_parameter so_far.here i p) (i + 1) (drop (i + 1) ps) in
      ap (λ (ts : List (Option ValueType)). ts ++ tail) more_is
      ∙ (append_assoc types (ty ∷ []) tail
      ∙ (ap (λ (t : Option ValueType). types ++ (t ∷ tail)) (is_typed so_far.here so_far.kept).0 ∙ (ap (λ (qs : List Parameter). types ++ parameter_types so_far.here i qs) (sym rest) ∙ so_far.all)));
  faults = λ last later.
      so_far.faults last (subst (λ (qs : List Parameter). Records (ParametersFault so_far.here i qs) old last) (sym rest) (parameters_record so_far.here i p (drop (i + 1) ps) old mid least last (is_typed so_far.here so_far.kept).1 (behind so_far.here so_far.kept).1 later));
}
  where
    rest : drop i ps ≡ p ∷ drop (i + 1) ps
    rest = rw add-one (drop-cons ps i p within ∙ ap (λ (q : Parameter). q ∷ drop (suc i) ps) (sym is))

pub all_typed : (file : File) (scope : HeaderScope) (start : Here) (ps : List Parameter) (i : ℕ) (types : List (Option ValueType)) (old new : Option Standing) → length ps ≤ i → AreTyped file scope start ps i types old new → (types ≡ parameter_types start 0 ps) × Records (ParametersFault start 0 ps) old new
unfolding parameter_types
all_typed file scope start ps i types old new past so_far = (
  sym (append-nil types) ∙ (ap (λ (qs : List Parameter). types ++ parameter_types so_far.here i qs) (sym none) ∙ so_far.all),
  so_far.faults new (subst (λ (qs : List Parameter). Records (ParametersFault so_far.here i qs) new new) (sym none) (records_none (ParametersFault so_far.here i []) new new (λ f p h. no_parameter h) refl)),
)
  where
    none : drop i ps ≡ []
    none = drop_all i ps past

-- what of the parameters and the result is known is at hand
abbrev IsKnown : Option ℕ → Option ValueType → Type 0
IsKnown current None = Unit {0}
IsKnown current (Some ty) = IsAtHand current ty.shape

is_known : {current : Option ℕ} {ty : Option ValueType} → IsKnownAtHand current ty → IsKnown current ty
is_known faulty = tt
is_known (typed hand) = hand

pub known_at_hand : (current : Option ℕ) (ty : ValueType) (away : Bool) → (away ≡ false) ↔ IsAtHand current ty.shape → (away ≡ false) ↔ IsKnownAtHand current (Some ty)
known_at_hand current ty away is = (λ e. typed (is.0 e), λ h. is.1 (is_known h))

pub faulty_at_hand : (current : Option ℕ) (away : Bool) → away ≡ false → (away ≡ false) ↔ IsKnownAtHand current None
faulty_at_hand current away is = (λ e. faulty, λ h. is)

pub callable_first : (current : Option ℕ) (returns : Returns) (away : Bool) → (away ≡ false) ↔ IsKnownAtHand current (result_known returns) → (away ≡ false) ↔ IsCallable current [] returns
callable_first current returns away is = (λ e. record { parameters_at_hand = All-nil (IsKnownAtHand current); result_at_hand = is.0 e }, λ h. is.1 h.result_at_hand)

one : {X : Type 0} (P : X → Type 0) (x : X) → P x → All P (x ∷ [])
one P x h zero d within = h
one P x h (suc k) d within = absurd (omega (arith, within))

long : (types : List (Option ValueType)) (ty : Option ValueType) → length (types ++ ty ∷ []) ≡ length types + 1
long types ty = length-append types (ty ∷ [])

pub callable_before : (current : Option ℕ) (returns : Returns) (types : List (Option ValueType)) (ty : Option ValueType) → IsCallable current (types ++ ty ∷ []) returns → IsCallable current types returns
callable_before current returns types ty h = record {
  parameters_at_hand = λ k d within. subst (IsKnownAtHand current) (get_or_append_left types (ty ∷ []) d k within) (h.parameters_at_hand k d (omega (arith, within, long types ty)));
  result_at_hand = h.result_at_hand;
}

pub callable_more : (current : Option ℕ) (returns : Returns) (types : List (Option ValueType)) (ty : Option ValueType) (away : Bool) → IsCallable current types returns → (away ≡ false) ↔ IsKnownAtHand current ty → (away ≡ false) ↔ IsCallable current (types ++ ty ∷ []) returns
callable_more current returns types ty away before is = (forth, back)
  where
    forth : away ≡ false → IsCallable current (types ++ ty ∷ []) returns
    forth e = record {
      parameters_at_hand = All-append (IsKnownAtHand current) types (ty ∷ []) before.parameters_at_hand (one (IsKnownAtHand current) ty (is.0 e));
      result_at_hand = before.result_at_hand;
    }

    back : IsCallable current (types ++ ty ∷ []) returns → away ≡ false
    back h = is.1 (subst (IsKnownAtHand current) (get_or-append_seam types ty [] ty) (h.parameters_at_hand (length types) ty (omega (arith, long types ty))))
