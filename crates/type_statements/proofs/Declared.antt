-- Declared variables: their lengths, types and initialisers, and the place behind each.
use Rattle.std.proofs.Common.{◌≡◌, w64, ◌<◌, ◌+◌, ◌^◌, ℕ, ℤ, pos, negsuc, Bool, true, false, List, [], ◌∷◌, length, Option, Some, None, Box, IfOk, IfSome, Result, Ok, Err, is_none, arith, rules, refl, sym, ap, subst, ◌∙◌, if◌then◌else◌}
use Rattle.std.specs.Prelude.{FitsSigned, IsNone, OnOk}
use Rattle.std.specs.declared.alloc.Global.{Global}
use Rattle.std.proofs.lemmas.Bool.{lt-ltb}
use Rattle.cstar_tree.specs.declared.syntax.Declarator.{Declarator}
use Rattle.cstar_tree.specs.declared.syntax.Expr.{Expr}
use Rattle.cstar_tree.specs.declared.syntax.Initializer.{Initializer}
use Rattle.cstar_tree.specs.declared.syntax.ShapeRef.{ShapeRef}
use Rattle.cstar_tree.specs.declared.syntax.TypeName.{TypeName}
use Rattle.cstar_tree.specs.declared.typed.LocalVar.{LocalVar}
use Rattle.cstar_tree.specs.declared.typed.TExpr.{TExpr}
use Rattle.cstar_tree.specs.declared.typed.ValueType.{ValueType}
use Rattle.cstar_tree.specs.declared.typed.Variable.TheVariants as V
use Rattle.cstar_tree.specs.BlockScopes.{behind_declarator, declared_type, with_length}
use Rattle.cstar_tree.specs.ExpressionTypes.{Types}
use Rattle.cstar_tree.specs.Headers.{Program}
use Rattle.cstar_tree.specs.Scopes.{Binding, Here, IsAtHand, find, part, written_type}
use Rattle.cstar_tree.specs.Scopes as S
use Rattle.cstar_tree.specs.StatementTypes.{IsDeclarable, TypesInitial, TypesLocal, variable_info}
use Rattle.cstar_tree.specs.StatementTypes as Y
use Rattle.cstar_base.specs.declared.operators.Place.{Place}
use Rattle.type_scopes.specs.Answers.{part_of}
use Rattle.type_scopes.specs.declared.faults.Untyped.{Untyped}
use Rattle.type_scopes.specs.Bindings.{bindings, named, type_meant, variable_type, within}
use Rattle.type_scopes.specs.FileBindings.{names_at}
use Rattle.type_scopes.specs.Named.{IsTypeAmong}
use Rattle.type_scopes.specs.declared.file.File.{File}
use Rattle.type_scopes.specs.declared.locals.Locals.{Locals}
use Rattle.type_scopes.specs.declared.names.VariableType as Names
use Rattle.type_scopes.specs.declared.sites.Site.{Site}
use Rattle.type_expressions.specs.Walks.{IsAround, IsShape, IsValue}
use Rattle.type_expressions.specs.Walks as X
use Rattle.type_expressions.proofs.Walking as W
use Rattle.type_expressions.specs.declared.found.Instances.{Instances}
use Rattle.type_expressions.specs.declared.found.TypedExpr.{TypedExpr}
use Rattle.type_expressions.proofs.CallsWithin.{moved}
use Rattle.type_expressions.proofs.Walking.{in_part, is_shape, number_there}
use Rattle.type_statements.specs.Declarators.{FitsArray, IsConstantNumber, IsFitting, IsInitial, IsInitialisedIf, IsLength, IsVariable, counted, type_with}
use Rattle.type_statements.specs.Places.{HasItsShape, IsGrown, IsPlace}
use Rattle.type_expressions.specs.Instances.{Grows}
use Rattle.type_statements.specs.Ready.{IsReady}
use Rattle.type_statements.specs.Walks.{IsLocal}
use Rattle.type_statements.specs.declared.declarations.Initial.{Initial}
use Rattle.type_statements.specs.declared.declarations.Length.{Length}
use Rattle.type_statements.specs.declared.declarations.Length.TheVariants as L
use Rattle.type_statements.specs.declared.scopes.Scopes.{Scopes}
use Rattle.type_statements.proofs.Places.{behind_new, part_is}
use Rattle.type_statements.proofs.Ready.{earlier, some_brought}

-- ---- lengths

counted_fitting : (n : ℤ) → IsFitting n → counted n ≡ Some n
counted_fitting (pos n) fits = let few : n < 2 ^ 32 = omega (arith, fits.1) in ap (λ (b : Bool). if b then Some (pos n) else None) (lt-ltb n (2 ^ 32) few)
counted_fitting (negsuc n) fits = absurd fits

-- an array's length, where it fits, is the number of its constant expression
pub type_there : (so_far : Instances) (here : Here) (of : ValueType) (written : Option Expr) (length : Length) (file : File) (locals : Locals) (site : Site) (program : Program) (initial : Option Initializer) {t : S.VariableType} → IsAround file locals site here → IfSome written (IsReady so_far file program here) → IsLength so_far file locals site written length → FitsArray (Some of) length initial
    → type_with length (Some of) ≡ Some t → type_with length (Some of) ≡ declared_type here (Some of) written
type_there so_far here of None length file locals site program initial a plain is fits typed = rw is refl
type_there so_far here of (Some e) L.Absent file locals site program initial a plain is fits typed = absurd is
type_there so_far here of (Some e) L.Faulty file locals site program initial a plain is fits typed = absurd (cc)
type_there so_far here of (Some e) (L.Of n) file locals site program initial a plain is fits typed =
    ap (with_length of) (counted_fitting n fits.1 ∙ sym (is program here a plain))

one_type : (t : S.VariableType) {u : S.VariableType} → Some t ≡ Some u → t ≡ u
one_type t is = cc

pub declarable : (of : ValueType) (length : Length) (ty : Names.VariableType) (initial : Option Initializer) → FitsArray (Some of) length initial → type_meant (Some ty) ≡ type_with length (Some of) → IsDeclarable (variable_type ty) initial
declarable of L.Absent ty initial fits is = subst (λ (v : S.VariableType). IsDeclarable v initial) (sym (one_type (variable_type ty) is)) Y.IsDeclarable.plain
declarable of L.Faulty ty initial fits is = absurd (cc)
declarable of (L.Of (pos n)) ty initial fits is =
    let array : variable_type ty ≡ record { value = of; array = Some n } = one_type (variable_type ty) (is ∙ ap (with_length of) (counted_fitting (pos n) fits.1)) in
    rw (array, fits.2) (Y.IsDeclarable.array fits.0.1 fits.1.0 fits.1.1)
declarable of (L.Of (negsuc n)) ty initial fits is = absurd fits.1

-- ---- values

pub value_here : (so_far : Instances) {file : File} {scopes : Scopes} {site : Site} {program : Program} (here : Here) (e : Expr) (x : Box TExpr Global) → IsPlace file scopes site here → IsValue so_far file scopes.locals site e (Some x) → IsReady so_far file program here e → Types program here e x.value true
value_here so_far {program = program} here e x p v ready = subst (λ (place : Here). Types program place e x.value true) (part_is here p.not_whole) (v program here p.around ready.0 ready.1)

-- ---- a variable

initial_types : (so_far : Instances) (file : File) (scopes : Scopes) (site : Site) (program : Program) (here : Here) (ty : Names.VariableType) (written : Option Initializer) (initial : Option Initial) (f : Option TExpr) → IsPlace file scopes site here → IfSome written (λ (i : Initializer). IsReady so_far file program here i.value)
    → IsInitial so_far file scopes.locals site written initial → IsInitialisedIf site ty initial f → TypesInitial program here (variable_type ty).value written f
initial_types so_far file scopes site program here ty None initial f p plain is typed = let none = rw is at typed in rw none Y.no_initial
initial_types so_far file scopes site program here ty (Some i) None f p plain is typed = absurd is
initial_types so_far file scopes site program here ty (Some i) (Some x) None p plain is typed = absurd typed
initial_types so_far file scopes site program here ty (Some i) (Some x) (Some f) p plain is typed =
    let value = subst (IsValue so_far file scopes.locals site i.value) typed.is_typed is.1 in
    Y.initial (value_here so_far here i.value typed.value p value plain) (subst (λ (c : Option ℕ). IsAtHand c ty.shape) (sym p.around.at_site.current) typed.at_hand) typed.is_scalar typed.is_fitted

is_new : (m : Option S.Meaning) → is_none m ≡ true → IsNone m
is_new None is = search rules
is_new (Some m) is = absurd (cc)

pub local_typed : (first last : Instances) (file : File) (old new : Scopes) (site : Site) (scope : ℕ) (of : ValueType) (length : Length) (ty : Names.VariableType) (d : Declarator) (initial : Option Initial) (local : LocalVar)
    → Grows file first last → IsLength first file old.locals site d.length length → FitsArray (Some of) length d.initial → type_meant (Some ty) ≡ type_with length (Some of)
    → bindings new.locals ≡ named d.name.word (V.Local old.count) (Some ty) ∷ bindings old.locals → new.count ≡ old.count + 1 → is_none (find (within scope (bindings old.locals)) d.name.word) ≡ true
    → IsInitial last file new.locals site d.initial initial → IsVariable site ty d initial local → IsLocal last file old new site scope (Some of) d local
local_typed first last file old new site scope of length ty d initial local later is fits typed names count fresh written var = record {
  of = of;
  has_type = refl;
  typed = λ program here p shape plain.
      let there = type_there first here of d.length length file old.locals site program d.initial p.place.around (some_brought (earlier later) here d.length plain.0) is fits (sym typed) in
      let after = behind_new here of d (Some ty) p shape (typed ∙ there) fresh names count in (
        record {
          variable = variable_type ty;
          is_new = is_new (find here.names.inner d.name.word) (ap (λ (m : Option S.Meaning). is_none m) (p.inner d.name.word) ∙ fresh);
          its_type = sym (typed ∙ there);
          declarable = declarable of length ty d.initial fits typed;
          info = var.info;
          initial = initial_types last file new site program (behind_declarator here (Some of) d) ty d.initial initial local.initial after.place plain.1 written var.initialised;
        },
        after,
      );
  counted = count;
}

-- no type is that of a variable whose written type has a fault
no_type : (length : Length) (ty : Names.VariableType) → type_meant (Some ty) ≡ type_with length None → ⊥
no_type L.Absent ty is = cc
no_type L.Faulty ty is = cc
no_type (L.Of n) ty is = cc

pub local_settled : (first last : Instances) (file : File) (old new : Scopes) (site : Site) (scope : ℕ) (of : Option ValueType) (length : Length) (ty : Names.VariableType) (d : Declarator) (initial : Option Initial) (typed : Result LocalVar Untyped) (r : Option LocalVar)
    → Grows file first last → IsLength first file old.locals site d.length length → FitsArray of length d.initial → type_meant (Some ty) ≡ type_with length of
    → bindings new.locals ≡ named d.name.word (V.Local old.count) (Some ty) ∷ bindings old.locals → new.count ≡ old.count + 1 → is_none (find (within scope (bindings old.locals)) d.name.word) ≡ true
    → IsInitial last file new.locals site d.initial initial → IfOk typed (IsVariable site ty d initial) → r ≡ part_of typed → IfSome r (IsLocal last file old new site scope of d)
local_settled first last file old new site scope None length ty d initial typed r later is fits type_is names count fresh written var settled = absurd (no_type length ty type_is)
local_settled first last file old new site scope (Some of) length ty d initial typed None later is fits type_is names count fresh written var settled = tt
local_settled first last file old new site scope (Some of) length ty d initial (Ok local) (Some l) later is fits type_is names count fresh written var settled =
    local_typed first last file old new site scope of length ty d initial l later is fits type_is names count fresh written (subst (IsVariable site ty d initial) (let e : local ≡ l = cc in e) var)
local_settled first last file old new site scope (Some of) length ty d initial (Err u) (Some l) later is fits type_is names count fresh written var settled = absurd (cc)

-- the number of a constant expression
pub length_settled : (so_far : Instances) (file : File) (locals : Locals) (site : Site) (e : Expr) (p : Place) (typed : Option TypedExpr) (number : Result ℤ Untyped) (n : ℤ) (r : Option ℤ) → X.IsTyped so_far file locals (record site { whole = false }) e typed → IsConstantNumber p typed number → r ≡ part_of number → r ≡ Some n → IsLength so_far file locals site (Some e) (L.Of n)
length_settled so_far file locals site e p None (Ok m) n r h is settled found = absurd is
length_settled so_far file locals site e p (Some t) (Ok m) n r h is settled found = λ program here a plain.
    let same : m ≡ n = let e = sym settled ∙ found in cc in
    let typed = subst (λ (b : Bool). Types program (part here) e t.expr.value b) is.0 (h program (part here) (in_part a) (moved here.dot false plain.0) plain.1) in
    number_there program here e t.expr.value a.few plain.1 typed ∙ (is.1 ∙ ap (λ (k : ℤ). Some k) same)
length_settled so_far file locals site e p typed (Err u) n r h is settled found = absurd (let e = sym settled ∙ found in cc)

pub declared_grown : (old new : List Binding) (b : Binding) (fresh : Bool) → new ≡ (if fresh then b ∷ old else old) → IsGrown old new
declared_grown old new b true is = record { more = b ∷ []; grown = is }
declared_grown old new b false is = record { more = []; grown = is }

pub settled_local : {A E P : Type 0} (r : Result A E) → P → OnOk r P
settled_local (Ok x) p = p
settled_local (Err e) p = tt

pub fits_settled : (number : Result ℤ Untyped) (r : Option ℤ) (n : ℤ) → IfOk number (FitsSigned w64) → r ≡ part_of number → r ≡ Some n → FitsSigned w64 n
fits_settled (Ok m) r n fits settled is = subst (FitsSigned w64) (let e : m ≡ n = let k = sym settled ∙ is in cc in e) fits
fits_settled (Err u) r n fits settled is = absurd (let k = sym settled ∙ is in cc)

-- ---- the type that is written

same_type : (t : ValueType) {of : ValueType} → Some t ≡ Some of → t ≡ of
same_type t is = cc

written_shape : {file : File} {locals : Locals} {site : Site} {here : Here} {of : ValueType} (written : TypeName) (named : Option ShapeRef) → IsAround file locals site here → S.of_written here written named ≡ Some of → HasItsShape here of
written_shape written None a is = λ shape of_shape. absurd (let none = ap (λ (t : ValueType). t.shape) (same_type (record { elem = written.elem; shape = None }) is) in let k = none ∙ of_shape in cc)
written_shape {here = here} {of = of} written (Some named) a is = step (S.shape_of here named) refl is
  where
    step : (s : Option ℕ) → S.shape_of here named ≡ s → S.of_shape written s ≡ Some of → HasItsShape here of
    step None there is = absurd (cc)
    step (Some s) there is = λ shape of_shape.
        let same : s ≡ shape = let k = ap (λ (t : ValueType). t.shape) (same_type (record { elem = written.elem; shape = Some s }) is) ∙ of_shape in cc in
        subst (IsShape here) same (is_shape named a there)

pub type_written : (file : File) (locals : Locals) (site : Site) (here : Here) (written : TypeName) (typed : Result ValueType Untyped) (ty : Option ValueType) (of : ValueType) → IsAround file locals site here → IsTypeAmong (names_at file locals site.known) site.current written typed → ty ≡ part_of typed → ty ≡ Some of → (written_type here written ≡ Some of) × HasItsShape here of
type_written file locals site here written typed ty of a is settled found =
    let there = W.type_there written a ∙ W.type_found (names_at file locals site.known) site.current written typed ty of is settled found in
    (there, written_shape written written.shape a there)
