-- A call, from its function, its header, its instance and its typed arguments.
use Rattle.std.proofs.Common.{◌≡◌, ◌==◌, ◌||◌, if◌then◌else◌, ℕ, suc, Bool, true, false, List, [], ◌∷◌, ◌++◌, length, map, Option, Some, None, IfOk, Result, Ok, Err, Box, Vec, arith, refl, sym, ap, subst, ◌∙◌, true≢false}
use Rattle.std.proofs.lemmas.Cmp.{nat_eq_equiv}
use Rattle.std.proofs.lemmas.List.{length-map, map-append}
use Rattle.indexmap.specs.IndexSet.{insert_key}
use Rattle.std.specs.List.{list_all, list_any, slice_get}
use Rattle.std.specs.Option.{is_some, option_eq}
use Rattle.std.specs.declared.alloc.Global.{Global}
use Rattle.cstar_base.specs.declared.elem.Elem.{Elem}
use Rattle.cstar_tree.specs.declared.syntax.Expr.{Expr, items_hidden-the_row-Expr-0}
use Rattle.cstar_tree.specs.declared.syntax.Expr as E
use Rattle.cstar_tree.specs.declared.syntax.Name.{Name}
use Rattle.cstar_tree.specs.declared.typed.TExpr.{TExpr}
use Rattle.cstar_tree.specs.declared.typed.TExpr as T
use Rattle.cstar_tree.specs.declared.typed.ValueType.{ValueType}
use Rattle.cstar_tree.specs.Conversions.{AreFitted, int}
use Rattle.cstar_tree.specs.ExpressionTypes.{AreTaken, Gives, GivesOutside, IsCallable, Types, TypesEach}
use Rattle.cstar_tree.specs.ExpressionTypes as X
use Rattle.cstar_tree.specs.Headers.{Leads, Placed, Program, Returns, a_value, nothing, unknown}
use Rattle.cstar_tree.specs.Instances.{is_met, same_shape}
use Rattle.cstar_tree.specs.Scopes.{Binding, Here, a_function, find, meaning, part}
use Rattle.cstar_tree.specs.Typed.{type_of}
use Rattle.type_scopes.specs.Answers.{part_of}
use Rattle.type_scopes.specs.FileBindings.{names_at}
use Rattle.type_scopes.specs.Headers.{IsHeader, IsOfGroup, returned}
use Rattle.type_scopes.specs.Named.{IsFunctionAmong}
use Rattle.type_scopes.specs.declared.faults.Untyped.{Untyped}
use Rattle.type_scopes.specs.declared.file.File.{File}
use Rattle.type_scopes.specs.declared.headers.Header.{Header}
use Rattle.type_scopes.specs.declared.headers.Reached as Kept
use Rattle.type_scopes.specs.declared.locals.Locals.{Locals}
use Rattle.type_scopes.specs.declared.sites.Site.{Site}
use Rattle.type_expressions.specs.Answers.{trees}
use Rattle.type_expressions.specs.Calls.{HasTypes, IsCallTo, IsGiven, IsReached, TakesParallel}
use Rattle.type_expressions.specs.Calls as C
use Rattle.type_expressions.specs.Instances.{instance_of, is_same, kept_header, met, with_met}
use Rattle.type_expressions.specs.Programs.{HasItsCalls}
use Rattle.type_expressions.specs.Walks.{IsTypedFromList}
use Rattle.type_expressions.specs.declared.found.Instances.{Instances}
use Rattle.type_expressions.specs.declared.found.TypedExpr.{TypedExpr}
use Rattle.type_expressions.proofs.CallArguments.{scalar_too}
use Rattle.type_expressions.proofs.CallsWithin.{among_more, called_itself}
use Rattle.type_expressions.proofs.KeptHeaders.{kept_of_file}

-- arguments that are taken as they are
taken : (types : List ValueType) (es : List TExpr) → length (map (λ (t : ValueType). Some t) types) ≡ length es → (TakesParallel (map (λ (t : ValueType). Some t) types) es → ⊥) → AreTaken types es
taken [] [] many none = X.none
taken [] (e ∷ es) many none = absurd (omega (arith, many))
taken (ty ∷ types) [] many none = absurd (omega (arith, many))
taken (ty ∷ types) (e ∷ es) many none =
    X.next (scalar_too ty.shape (type_of e).shape (λ unfit. none (0, Some ty, e, refl, refl, unfit))) (taken types es (omega (arith, many)) (λ t. none (suc t.0, t.1, t.2, t.3, t.4, t.5)))

-- the function that is called does not lead back
away : {so_far : Instances} {file : File} {program : Program} {here : Here} {n : Name} {around f : ℕ} (given : Vec Expr Global) → HasItsCalls so_far file program here (E.Call n given) → meaning here n.word ≡ Some (a_function f) → here.around ≡ Some around → (IsOfGroup file (Some around) f → ⊥) → Leads program.calls f around → ⊥
away {n = n} {around = around} {f = f} given calls is there apart back =
    let leads = calls.called around (record { function = f; current = calls.place.current; typed = true }) there (called_itself calls.place n given f (calls.names n.word ∙ is)) in
    apart ((calls.of_file.groups around f (calls.of_file.around around there) (calls.of_file.named n.word f is)).1 (leads, back))

callable_as : {current : Option ℕ} {from to : List (Option ValueType)} {r s : Returns} → from ≡ to → r ≡ s → IsCallable current from r → IsCallable current to s
callable_as {current = current} {to = to} {r = r} types returns h = subst (λ (k : Returns). IsCallable current to k) returns (subst (λ (ps : List (Option ValueType)). IsCallable current ps r) types h)

pub call_types : {so_far : Instances} {file : File} {program : Program} {here : Here} {n : Name} {f : ℕ} {header : Header} {o : Option ℕ} {ts : List TExpr} {node : TExpr} {has_value : Bool} (given : Vec Expr Global) (function : Option ℕ) (placed : Placed) → here.around ≡ function → meaning here n.word ≡ Some (a_function f) → HasItsCalls so_far file program here (E.Call n given) → slice_get program.functions f ≡ Some placed → IsHeader placed (record { function = f; current = here.current }) header → header.other_shape ≡ false → (IsOfGroup file function f → ⊥) → IsReached (met so_far) function (record { function = f; current = here.current }) o → TypesEach program (part here) given.items ts → IsCallTo header ts o node has_value → Types program here (E.Call n given) node has_value
call_types given None placed there is calls in_program head same apart reached each (C.inside fitted types gives fit) = absurd (cc)
call_types {here = here} {f = f} given (Some around) placed there is calls in_program head same apart reached each (C.inside {ty = ty} {has_value = b} {instance = instance} fitted types gives fit) =
    X.call given fitted is in_program there (away given calls is there apart) (among_more instance (record { function = f; current = here.current }) calls.of_file.instances reached)
    (sym (head.parameters here.shapes) ∙ types) (callable_as types (head.returns here.shapes) (head.at_hand.0 same)) (subst (λ (r : Returns). Gives r ty b) (head.returns here.shapes) gives) each fit
call_types {program = program} {here = here} given None placed there is calls in_program head same apart reached each (C.outside {types = known} {ty = ty} {has_value = b} values types gives fit whole) =
    X.call_outside given values is in_program there
    (sym (head.parameters here.shapes) ∙ types) (callable_as types (head.returns here.shapes) (head.at_hand.0 same)) (subst (λ (r : Returns). GivesOutside r ty b) (head.returns here.shapes) gives)
    (subst (λ (es : List TExpr). TypesEach program (part here) given.items es) (sym whole) each) (subst (λ (es : List TExpr). AreTaken known es) (sym whole) fit)
call_types given (Some around) placed there is calls in_program head same apart reached each (C.outside values types gives fit whole) = absurd reached

pub called_function : (names : List Binding) (n : Name) (called : Result ℕ Untyped) (o : Option ℕ) {f : ℕ} → IsFunctionAmong names n called → o ≡ part_of called → o ≡ Some f → find names n.word ≡ Some (a_function f)
called_function names n (Ok g) o {f = f} is settled found = is ∙ (let e : Some (a_function g) ≡ Some (a_function f) = cc in e)
called_function names n (Err u) o is settled found = absurd (cc)

pub call_typed : (so_far : Instances) (file : File) (locals : Locals) (site : Site) (n : Name) (given : Vec Expr Global) (called : Result ℕ Untyped) (named : Option ℕ) (f : ℕ) (header : Header) (o : Option ℕ) (xs : Vec (Box TExpr Global) Global) (typed : Result TypedExpr Untyped) (r : Option TypedExpr) → IsFunctionAmong (names_at file locals site.known) n called → named ≡ part_of called → named ≡ Some f → kept_header so_far (record { function = f; current = site.current }) ≡ Some header → IsReached (met so_far) site.function (record { function = f; current = site.current }) o → IfOk typed (λ t. header.other_shape ≡ false) → IfOk typed (λ t. IsOfGroup file site.function f → ⊥) → IfOk typed (λ t. IsCallTo header (trees xs.items) o t.expr.value t.has_value) → r ≡ part_of typed → IsTypedFromList so_far (Some xs) file locals site (E.Call n given) r
call_typed so_far file locals site n given called named f header o xs typed None is settled found kept reached same apart to whole = tt
call_typed so_far file locals site n given called named f header o xs (Err u) (Some b) is settled found kept reached same apart to whole = absurd (cc)
call_typed so_far file locals site n given called named f header o xs (Ok t) (Some b) is settled found kept reached same apart to whole = λ program here a parts.
    let means = a.names n.word ∙ called_function (names_at file locals site.known) n called named is settled found in
    let function = parts.1.of_file.named n.word f means in
    let current = sym a.at_site.current in
    let head = kept_of_file file so_far (record { function = f; current = site.current }) header parts.1.of_file.headers kept in
    let each = subst (λ (es : List Expr). TypesEach program (part here) es (trees xs.items)) (items_hidden-the_row-Expr-0 given) parts.0 in
    rw (let e : b ≡ t = cc in e) (call_types given site.function function.placed a.at_site.around means parts.1 function.in_program
    (subst (λ (c : Option ℕ). IsHeader function.placed (record { function = f; current = c }) header) current (head function.placed function.in_file)) same apart
    (subst (λ (c : Option ℕ). IsReached (met so_far) site.function (record { function = f; current = c }) o) current reached) each to)

-- ---- instances that are met

turned : (a b : ℕ) → (a == b) ≡ (b == a)
turned a b = nat_eq_equiv.symm a b

same_shapes : (a b : Option ℕ) → same_shape b a ≡ option_eq ◌==◌ a b
same_shapes None None = refl
same_shapes None (Some y) = refl
same_shapes (Some x) None = refl
same_shapes (Some x) (Some y) = turned y x

tells_either : (b : Bool) (met told : Bool) → met ≡ told → (if b then true else met) ≡ (b || told)
tells_either true met told is = refl
tells_either false met told is = is

-- what the set of the instances tells
pub told_met : (r : Kept.Reached) (kept : List Kept.Reached) → is_met (instance_of r) (map instance_of kept) ≡ list_any (is_same r) kept
unfolding is_met
told_met r [] = refl
told_met r (k ∷ ks) = rw (turned k.function r.function, same_shapes r.current k.current) (tells_either (is_same r k) (is_met (instance_of r) (map instance_of ks)) (list_any (is_same r) ks) (told_met r ks))

pub met_more : (r : Kept.Reached) (kept new : List Kept.Reached) → new ≡ insert_key is_same kept r → map instance_of new ≡ with_met (instance_of r) (map instance_of kept)
met_more r kept new is = ap (λ (ks : List Kept.Reached). map instance_of ks) is ∙ by (list_any (is_same r) kept) (told_met r kept)
  where
    by : (b : Bool) → is_met (instance_of r) (map instance_of kept) ≡ b → map instance_of (if b then kept else kept ++ r ∷ []) ≡ with_met (instance_of r) (map instance_of kept)
    by true told = rw told refl
    by false told = rw told (map-append instance_of kept (r ∷ []))

-- ---- what a call becomes

pub all_typed : (ps : List (Option ValueType)) → list_all is_some ps ≡ true → HasTypes ps
all_typed [] all = ([], refl)
all_typed (None ∷ ps) all = absurd (true≢false (sym all))
all_typed (Some ty ∷ ps) all = let rest = all_typed ps all in (ty ∷ rest.0, ap (λ (l : List (Option ValueType)). Some ty ∷ l) rest.1)

pub nothing_given : (inside : Bool) (elem : Elem) → elem ≡ int → IsGiven inside nothing (record { elem = elem; shape = None }) false
nothing_given true elem is = rw is X.no_value
nothing_given false elem is = rw is (X.known X.no_value)

pub value_given : (inside : Bool) (ty : ValueType) → IsGiven inside (a_value ty) ty true
value_given true ty = X.value
value_given false ty = X.known X.value

pub unknown_given : (inside : Bool) (elem : Elem) → inside ≡ false → elem ≡ int → IsGiven inside unknown (record { elem = elem; shape = None }) true
unknown_given inside elem outside is = rw (outside, is) X.not_known

-- as many arguments as parameters
as_many : (parameters : List (Option ValueType)) (types : List ValueType) (count : ℕ) → parameters ≡ map (λ (t : ValueType). Some t) types → length parameters ≡ count → count ≡ length types
as_many parameters types count are many = sym many ∙ (ap length are ∙ length-map types (λ (t : ValueType). Some t))

pub call_inside : (header : Header) (arguments : List (Box TExpr Global)) (ty : ValueType) (has_value : Bool) (instance : ℕ) (fitted : Vec TExpr Global) (known : HasTypes header.parameters.items) → Gives (returned header.returns) ty has_value → length header.parameters.items ≡ length arguments → (TakesParallel header.parameters.items (trees arguments) → ⊥) → ((types : List ValueType) → header.parameters.items ≡ map (λ (t : ValueType). Some t) types → length arguments ≡ length types → (TakesParallel header.parameters.items (trees arguments) → ⊥) → AreFitted types (trees arguments) fitted.items) → IsCallTo header (trees arguments) (Some instance) (T.Call ty instance fitted) has_value
call_inside header arguments ty has_value instance fitted known gives many none fit =
    C.inside fitted known.1 gives (fit known.0 known.1 (as_many header.parameters.items known.0 (length arguments) known.1 many) none)

pub call_outside : (header : Header) (arguments : List (Box TExpr Global)) (ty : ValueType) (has_value : Bool) (values : Vec TExpr Global) (known : HasTypes header.parameters.items) → GivesOutside (returned header.returns) ty has_value → length header.parameters.items ≡ length arguments → (TakesParallel header.parameters.items (trees arguments) → ⊥) → values.items ≡ trees arguments → IsCallTo header (trees arguments) None (T.Call ty 0 values) has_value
call_outside header arguments ty has_value values known gives many none whole =
    let count : length (map (λ (t : ValueType). Some t) known.0) ≡ length (trees arguments) = ap length (sym known.1) ∙ (many ∙ sym (length-map arguments (λ (b : Box TExpr Global). b.value))) in
    C.outside values known.1 gives (taken known.0 (trees arguments) count (λ t. none (subst (λ (ps : List (Option ValueType)). TakesParallel ps (trees arguments)) (sym known.1) t))) whole
