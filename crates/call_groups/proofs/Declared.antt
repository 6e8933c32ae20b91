-- What a walk over declarations adds.
use Rattle.std.proofs.Common.{◌≡◌, ◌<◌, ◌≤◌, ◌+◌, ℕ, zero, suc, List, [], ◌∷◌, ◌++◌, length, take, get_or, map, slice_get, Option, Some, None, refl, sym, ap, ◌∙◌, subst, arith, add-one, append_assoc, append-nil}
use Rattle.std.proofs.lemmas.Option.{same_Some, slice_get_read}
use Rattle.cstar_tree.specs.declared.syntax.Declaration.{Declaration}
use Rattle.cstar_tree.specs.declared.syntax.Declarator.{Declarator}
use Rattle.cstar_tree.specs.declared.syntax.Initializer.{Initializer}
use Rattle.cstar_tree.specs.declared.syntax.Parameter.{Parameter}
use Rattle.cstar_tree.specs.declared.typed.ValueType.{ValueType}
use Rattle.cstar_tree.specs.declared.typed.Variable.TheVariants as V
use Rattle.cstar_tree.specs.BlockScopes.{behind_declarations, behind_declarator, behind_declarators, declared_type}
use Rattle.cstar_tree.specs.Calls.{Call, calls_in, calls_in_declarations, calls_in_declarators, calls_in_each}
use Rattle.cstar_tree.specs.Headers.{behind_parameter, behind_parameters, plain_type}
use Rattle.cstar_tree.specs.Scopes.{Here, written_type}
use Rattle.cstar_tree.specs.SyntaxParts.{initial_values}
use Rattle.cstar_tree.specs.TypedParts.{concat, optional}
use Rattle.call_groups.specs.declared.calls.Calls.{Calls}
use Rattle.call_groups.specs.Called.{Adds, Declares, Walks}
use Rattle.call_groups.proofs.Adding.{none_added}
use Rattle.call_groups.proofs.Walking.{declares, each_at, goes_on, same_walk, stays}

pub take_all : {A : Type 0} (items : List A) (n : ℕ) → length items ≤ n → take n items ≡ items
take_all [] zero h = refl
take_all [] (suc n) h = refl
take_all (e ∷ items) zero h = absurd (omega arith)
take_all (e ∷ items) (suc n) h = ap (λ es. e ∷ es) (take_all items n (omega arith))

pub nothing_yet : (scope : ℕ) (calls : Calls) (on : Here → Here) (none : Here → List Call) → ((here : Here) → on here ≡ here) → ((here : Here) → none here ≡ []) → Walks scope calls calls on none
nothing_yet scope calls on none is_on is = same_walk scope calls calls (λ here. []) none (λ here. here) on (stays scope calls calls (λ here. []) (none_added calls (λ here. []) (λ here. refl))) is is_on

-- a declarator: its length, its name, its initialiser
pub declarator_walks : (scope : ℕ) (old a b new : Calls) (d : Declarator) → Adds old a (λ here. calls_in_each here (optional d.length)) → Declares scope a b d.name.word → Adds b new (λ here. calls_in_each here (initial_values d.initial))
    → (ty : Option ValueType) → Walks scope old new (λ here. behind_declarator here ty d) (λ here. calls_in_declarators here ty (d ∷ []))
unfolding calls_in_declarators
declarator_walks scope old a b new d first declared last ty =
    let on = λ (here : Here). behind_declarator here ty d in
    let values = λ (here : Here). calls_in_each here (initial_values d.initial) in
    let lengths = λ (here : Here). calls_in_each here (optional d.length) in
    goes_on scope old a new lengths (λ here. values (on here)) (λ here. calls_in_declarators here ty (d ∷ [])) (λ here. here) on on (stays scope old a lengths first)
    (goes_on scope a b new (λ here. []) values (λ here. values (on here)) on (λ here. here) on
    (declares scope a b d.name.word on (λ here. V.Local here.locals) (λ here. declared_type here ty d.length) declared (λ here. refl))
    (stays scope b new values last)
    (λ here. refl)
    (λ here. refl))
    (λ here. append-nil (lengths here ++ values (on here)))
    (λ here. refl)

pub initial_added : (old new : Calls) (o : Option Initializer) (i : Initializer) → o ≡ Some i → Adds old new (λ here. calls_in here i.value) → Adds old new (λ here. calls_in_each here (initial_values o))
unfolding concat
initial_added old new o i is adds =
    subst (λ x. Adds old new (λ here. calls_in_each here (initial_values x))) (sym is)
    (record {
      called = λ here known. adds.called here known ∙ ap (λ cs. old.called.items ++ map (λ (c : Call). c.function) cs) (sym (append-nil (calls_in here i.value)));
      names = adds.names;
      file = adds.file;
      known = adds.known;
    })

pub no_initial : (calls : Calls) (o : Option Initializer) → o ≡ None → Adds calls calls (λ here. calls_in_each here (initial_values o))
unfolding concat
no_initial calls o is = subst (λ x. Adds calls calls (λ here. calls_in_each here (initial_values x))) (sym is) (none_added calls (λ here. []) (λ here. refl))

behind_next : (here : Here) (ty : Option ValueType) (ds : List Declarator) (i : ℕ) (d : Declarator) → slice_get ds i ≡ Some d → behind_declarators here ty (take (suc i) ds) ≡ behind_declarator (behind_declarators here ty (take i ds)) ty d
unfolding behind_declarators
behind_next here ty [] i d is = cc
behind_next here ty (e ∷ ds) zero d is = ap (behind_declarator here ty) (same_Some e d is)
behind_next here ty (e ∷ ds) (suc i) d is = behind_next (behind_declarator here ty e) ty ds i d is

pub calls_next : (here : Here) (ty : Option ValueType) (ds : List Declarator) (i : ℕ) (d : Declarator) → slice_get ds i ≡ Some d → calls_in_declarators here ty (take (suc i) ds) ≡ calls_in_declarators here ty (take i ds) ++ calls_in_declarators (behind_declarators here ty (take i ds)) ty (d ∷ [])
unfolding behind_declarators calls_in_declarators
calls_next here ty [] i d is = cc
calls_next here ty (e ∷ ds) zero d is = ap (λ x. calls_in_declarators here ty (x ∷ [])) (same_Some e d is)
calls_next here ty (e ∷ ds) (suc i) d is =
    let own = calls_in_each here (optional e.length) ++ calls_in_each (behind_declarator here ty e) (initial_values e.initial) in
    let next = behind_declarator here ty e in
    ap (λ cs. own ++ cs) (calls_next next ty ds i d is)
    ∙ sym (append_assoc own (calls_in_declarators next ty (take i ds)) (calls_in_declarators (behind_declarators next ty (take i ds)) ty (d ∷ [])))

abbrev pub DeclaratorsWalk : ℕ → Calls → Calls → List Declarator → Type 0
DeclaratorsWalk scope old new ds = (ty : Option ValueType) → Walks scope old new (λ here. behind_declarators here ty ds) (λ here. calls_in_declarators here ty ds)

pub declarators_begin : (scope : ℕ) (calls : Calls) → DeclaratorsWalk scope calls calls []
unfolding behind_declarators calls_in_declarators
declarators_begin scope calls ty = nothing_yet scope calls (λ here. behind_declarators here ty []) (λ here. calls_in_declarators here ty []) (λ here. refl) (λ here. refl)

pub declarators_next : (scope : ℕ) (old mid new : Calls) (ds : List Declarator) (i : ℕ) (d : Declarator) → i < length ds → d ≡ get_or ds i d → DeclaratorsWalk scope old mid (take i ds) → ((ty : Option ValueType) → Walks scope mid new (λ here. behind_declarator here ty d) (λ here. calls_in_declarators here ty (d ∷ []))) → DeclaratorsWalk scope old new (take (i + 1) ds)
declarators_next scope old mid new ds i d less is before next ty =
    let at_i = slice_get_read ds (length ds) i d refl less is in
    let done = take i ds in
    subst (λ n. Walks scope old new (λ here. behind_declarators here ty (take n ds)) (λ here. calls_in_declarators here ty (take n ds))) (sym (add-one i))
    (goes_on scope old mid new (λ here. calls_in_declarators here ty done) (λ here. calls_in_declarators here ty (d ∷ [])) (λ here. calls_in_declarators here ty (take (suc i) ds)) (λ here. behind_declarators here ty done) (λ here. behind_declarator here ty d) (λ here. behind_declarators here ty (take (suc i) ds)) (before ty) (next ty)
    (λ here. calls_next here ty ds i d at_i)
    (λ here. behind_next here ty ds i d at_i))

-- ---- declarations

abbrev pub behind_one : Declaration → Here → Here
behind_one d here = behind_declarators here (written_type here d.type_name) d.variables.items

abbrev pub calls_in_one : Declaration → Here → List Call
calls_in_one d here = calls_in_declarators here (written_type here d.type_name) d.variables.items

behind_more : (here : Here) (ds : List Declaration) (i : ℕ) (d : Declaration) → slice_get ds i ≡ Some d → behind_declarations here (take (suc i) ds) ≡ behind_one d (behind_declarations here (take i ds))
unfolding behind_declarations
behind_more here [] i d is = cc
behind_more here (e ∷ ds) zero d is = ap (λ x. behind_one x here) (same_Some e d is)
behind_more here (e ∷ ds) (suc i) d is = behind_more (behind_one e here) ds i d is

pub calls_more : (here : Here) (ds : List Declaration) (i : ℕ) (d : Declaration) → slice_get ds i ≡ Some d → calls_in_declarations here (take (suc i) ds) ≡ calls_in_declarations here (take i ds) ++ calls_in_one d (behind_declarations here (take i ds))
unfolding behind_declarations calls_in_declarations
calls_more here [] i d is = cc
calls_more here (e ∷ ds) zero d is = append-nil (calls_in_one e here) ∙ ap (λ x. calls_in_one x here) (same_Some e d is)
calls_more here (e ∷ ds) (suc i) d is =
    ap (λ cs. calls_in_one e here ++ cs) (calls_more (behind_one e here) ds i d is)
    ∙ sym (append_assoc (calls_in_one e here) (calls_in_declarations (behind_one e here) (take i ds)) (calls_in_one d (behind_declarations (behind_one e here) (take i ds))))

abbrev pub DeclarationsWalk : ℕ → Calls → Calls → List Declaration → Type 0
DeclarationsWalk scope old new ds = Walks scope old new (λ here. behind_declarations here ds) (λ here. calls_in_declarations here ds)

pub declarations_begin : (scope : ℕ) (calls : Calls) → DeclarationsWalk scope calls calls []
unfolding behind_declarations calls_in_declarations
declarations_begin scope calls = nothing_yet scope calls (λ here. behind_declarations here []) (λ here. calls_in_declarations here []) (λ here. refl) (λ here. refl)

pub declarations_next : (scope : ℕ) (old mid new : Calls) (ds : List Declaration) (i : ℕ) (d : Declaration) → i < length ds → d ≡ get_or ds i d → DeclarationsWalk scope old mid (take i ds) → DeclaratorsWalk scope mid new d.variables.items → DeclarationsWalk scope old new (take (i + 1) ds)
declarations_next scope old mid new ds i d less is before next =
    let at_i = slice_get_read ds (length ds) i d refl less is in
    let done = take i ds in
    subst (λ n. DeclarationsWalk scope old new (take n ds)) (sym (add-one i))
    (goes_on scope old mid new (λ here. calls_in_declarations here done) (calls_in_one d) (λ here. calls_in_declarations here (take (suc i) ds)) (λ here. behind_declarations here done) (behind_one d) (λ here. behind_declarations here (take (suc i) ds)) before
    (each_at scope mid new (λ here ty. behind_declarators here ty d.variables.items) (λ here ty. calls_in_declarators here ty d.variables.items) (λ here. written_type here d.type_name) next None)
    (λ here. calls_more here ds i d at_i)
    (λ here. behind_more here ds i d at_i))

-- ---- parameters

behind_parameter_next : (here : Here) (n : ℕ) (ps : List Parameter) (i : ℕ) (p : Parameter) → slice_get ps i ≡ Some p → behind_parameters here n (take (suc i) ps) ≡ behind_parameter (behind_parameters here n (take i ps)) (n + i) p
unfolding behind_parameters
behind_parameter_next here n [] i p is = cc
behind_parameter_next here n (q ∷ ps) zero p is = ap (behind_parameter here n) (same_Some q p is) ∙ ap (λ m. behind_parameter here m p) (let e : n ≡ n + 0 = omega arith in e)
behind_parameter_next here n (q ∷ ps) (suc i) p is =
    behind_parameter_next (behind_parameter here n q) (n + 1) ps i p is
    ∙ ap (λ m. behind_parameter (behind_parameters (behind_parameter here n q) (n + 1) (take i ps)) m p) (let e : (n + 1) + i ≡ n + suc i = omega arith in e)

abbrev pub ParametersWalk : Calls → Calls → List Parameter → Type 0
ParametersWalk old new ps = Walks 0 old new (λ here. behind_parameters here 0 ps) (λ here. [])

pub parameters_begin : (calls : Calls) → ParametersWalk calls calls []
unfolding behind_parameters
parameters_begin calls = nothing_yet 0 calls (λ here. behind_parameters here 0 []) (λ here. []) (λ here. refl) (λ here. refl)

pub parameters_next : (old mid new : Calls) (ps : List Parameter) (i : ℕ) (p : Parameter) → i < length ps → p ≡ get_or ps i p → ParametersWalk old mid (take i ps) → Declares 0 mid new p.name.word → ParametersWalk old new (take (i + 1) ps)
parameters_next old mid new ps i p less is before next =
    let at_i = slice_get_read ps (length ps) i p refl less is in
    let done = take i ps in
    subst (λ n. ParametersWalk old new (take n ps)) (sym (add-one i))
    (goes_on 0 old mid new (λ here. []) (λ here. []) (λ here. []) (λ here. behind_parameters here 0 done) (λ here. behind_parameter here (0 + i) p) (λ here. behind_parameters here 0 (take (suc i) ps)) before
    (declares 0 mid new p.name.word (λ here. behind_parameter here (0 + i) p) (λ here. V.Param (0 + i)) (λ here. plain_type (written_type here p.type_name)) next (λ here. refl))
    (λ here. refl)
    (λ here. behind_parameter_next here 0 ps i p at_i))
