-- Statements over typed parts: what they become, and the faults at them.
use Rattle.std.proofs.Common.{◌≡◌, ℕ, Bool, true, false, not, true≢false, eqb, Option, Some, None, MatchBool, MatchResult, Result, Ok, Err, Box, refl, sym, ap, subst, ◌∙◌}
use Rattle.std.specs.Option.{is_some, option_eq}
use Rattle.std.proofs.lemmas.Bool.{eq-eqb, eqb-true}
use Rattle.std.specs.declared.alloc.Global.{Global}
use Rattle.cstar_base.specs.declared.faults.Fault.{Fault}
use Rattle.cstar_base.specs.declared.faults.Fault.TheVariants as Faults
use Rattle.cstar_base.specs.declared.operators.Place.{Place}
use Rattle.cstar_tree.specs.declared.syntax.Expr.{Expr}
use Rattle.cstar_tree.specs.declared.syntax.Stmt.{Stmt}
use Rattle.cstar_tree.specs.declared.syntax.Stmt as S
use Rattle.cstar_tree.specs.declared.typed.TExpr.{TExpr}
use Rattle.cstar_tree.specs.declared.typed.TStmt.{TStmt}
use Rattle.cstar_tree.specs.declared.typed.TStmt as T
use Rattle.cstar_tree.specs.declared.typed.ValueType.{ValueType}
use Rattle.cstar_tree.specs.BlockScopes.{behind, in_loop}
use Rattle.cstar_tree.specs.Conversions.{IsFitted}
use Rattle.cstar_tree.specs.ExpressionTypes.{Types}
use Rattle.cstar_tree.specs.Headers.{Program, Returns, a_value, nothing}
use Rattle.cstar_tree.specs.Scopes.{Here, IsAtHand}
use Rattle.cstar_tree.specs.Scopes as X
use Rattle.cstar_tree.specs.StatementFaults.{HasType, HasTypeIf, ReturnFault, StatementFaultAt, Tested, TestedWhere}
use Rattle.cstar_tree.specs.StatementFaults as F
use Rattle.cstar_tree.specs.StatementTypes.{TypesEffectIf, TypesStatement, TypesTestIf, TypesValueIf}
use Rattle.cstar_tree.specs.StatementTypes as Y
use Rattle.cstar_tree.specs.Typed.{type_of}
use Rattle.type_scopes.specs.Answers.{told_by}
use Rattle.type_scopes.specs.declared.faults.Untyped.{Untyped}
use Rattle.type_scopes.specs.declared.faults.Untyped.TheVariants as N
use Rattle.type_statements.specs.Answers.{AreBranches, IsFault, IsHeading, IsReturnFault, value_of}
use Rattle.type_statements.specs.declared.branches.Branches.{Branches}
use Rattle.type_statements.specs.declared.forms.Heading.{Heading}

-- ---- faults

abbrev at_told : Program → Returns → Here → Stmt → Option (Fault × Place) → Type 0
at_told program returns here s None = Unit {0}
at_told program returns here s (Some q) = StatementFaultAt program returns here s q.0 q.1

-- the fault that an answer tells stands
pub tells : {program : Program} {returns : Returns} {here : Here} {s : Stmt} (u : Untyped) {fault : Fault} {p : Place} → told_by u ≡ Some (fault, p) → StatementFaultAt program returns here s fault p → IsFault program returns here s u
tells {program} {returns} {here} {s} (N.Fault standing) is h = subst (at_told program returns here s) (sym is) h
tells N.Faulty is h = absurd (cc)
tells N.Memory is h = absurd (cc)

pub tells_return : {program : Program} {returns : Returns} {here : Here} {s : Stmt} (u : Untyped) {fault : Fault} {p : Place} → told_by u ≡ Some (fault, p) → StatementFaultAt program returns here s fault p → IsReturnFault program returns here s u
tells_return {program} {returns} {here} {s} (N.Fault standing) is h = subst (at_told program returns here s) (sym is) h
tells_return N.Faulty is h = absurd (cc)
tells_return N.Memory is h = absurd (cc)

-- ---- `if` and `where`

else_typed : (program : Program) (returns : Returns) (here : Here) (p : Place) (e : Expr) (second : Box Stmt Global) (third : Option (Box Stmt Global)) (x : Box TExpr Global) (a : Box TStmt Global) (b : Option (Box TStmt Global)) → AreBranches program returns here (S.If p e second third) (record { test = x; then = a; otherwise = b }) → HasTypeIf program returns (behind here second.value) third
else_typed program returns here p e second None x a b h = F.HasTypeIf.absent
else_typed program returns here p e second (Some third) x a None h = absurd h.2
else_typed program returns here p e second (Some third) x a (Some b) h = F.HasTypeIf.present third (F.typed h.2)

pub if_types : (program : Program) (returns : Returns) (here : Here) (p : Place) (e : Expr) (second : Box Stmt Global) (third : Option (Box Stmt Global)) (x : Box TExpr Global) (a : Box TStmt Global) (b : Option (Box TStmt Global)) (t : TExpr) → t ≡ x.value
    → AreBranches program returns here (S.If p e second third) (record { test = x; then = a; otherwise = b }) → (type_of x.value).shape ≡ None → TypesStatement program returns here (S.If p e second third) (T.If t a b)
if_types program returns here p e second None x a None t is h scalar = rw is (Y.if_alone second a (record { typed = h.0; is_scalar = scalar }) h.1)
if_types program returns here p e second None x a (Some b) t is h scalar = absurd h.2
if_types program returns here p e second (Some third) x a None t is h scalar = absurd h.2
if_types program returns here p e second (Some third) x a (Some b) t is h scalar = rw is (Y.if_else second third a b (record { typed = h.0; is_scalar = scalar }) h.1 h.2)

pub if_fault : (program : Program) (returns : Returns) (here : Here) (p : Place) (e : Expr) (second : Box Stmt Global) (third : Option (Box Stmt Global)) (parts : Branches) (u : Untyped) {of : ℕ} → AreBranches program returns here (S.If p e second third) parts → (type_of parts.test.value).shape ≡ Some of
    → told_by u ≡ Some (Faults.ScalarWanted, p) → IsFault program returns here (S.If p e second third) u
if_fault program returns here p e second third parts u h parallel is =
    tells u is (F.parallel_test (F.Tested.if second (F.typed h.1) (else_typed program returns here p e second third parts.test parts.then parts.otherwise h)) h.0 parallel)

pub where_types : (program : Program) (returns : Returns) (here : Here) (p : Place) (e : Expr) (second : Box Stmt Global) (third : Option (Box Stmt Global)) (x : Box TExpr Global) (a : Box TStmt Global) (b : Option (Box TStmt Global)) (t : TExpr) {shape of : ℕ} → t ≡ x.value
    → here.current ≡ Some shape → AreBranches program returns here (S.Where p e second third) (record { test = x; then = a; otherwise = b }) → (type_of x.value).shape ≡ Some of → TypesStatement program returns here (S.Where p e second third) (T.Where shape t a b)
where_types program returns here p e second None x a None t is current h parallel = rw is (Y.where_alone second a current h.0 parallel h.1)
where_types program returns here p e second None x a (Some b) t is current h parallel = absurd h.2
where_types program returns here p e second (Some third) x a None t is current h parallel = absurd h.2
where_types program returns here p e second (Some third) x a (Some b) t is current h parallel = rw is (Y.where_else second third a b current h.0 parallel h.1 h.2)

pub where_tested : (program : Program) (returns : Returns) (here : Here) (p : Place) (e : Expr) (second : Box Stmt Global) (third : Option (Box Stmt Global)) (parts : Branches) → AreBranches program returns here (S.Where p e second third) parts → TestedWhere program returns here p (S.Where p e second third) e
where_tested program returns here p e second third parts h = F.where_of second (F.typed h.1) (else_typed program returns here p e second third parts.test parts.then parts.otherwise (as_if third h))
  where
    as_if : (third : Option (Box Stmt Global)) → AreBranches program returns here (S.Where p e second third) parts → AreBranches program returns here (S.If p e second third) parts
    as_if None h = h
    as_if (Some third) h = h

-- ---- loops

pub while_types : (program : Program) (returns : Returns) (here : Here) (p : Place) (e : Expr) (s : Box Stmt Global) (x : Box TExpr Global) (b : Box TStmt Global) (t : TExpr) → t ≡ x.value → Types program here e x.value true → (type_of x.value).shape ≡ None → TypesStatement program returns (in_loop here) s.value b.value
    → TypesStatement program returns here (S.While p e s) (T.While t b)
while_types program returns here p e s x b t is h scalar inner = rw is (Y.while s b (record { typed = h; is_scalar = scalar }) inner)

pub do_types : (program : Program) (returns : Returns) (here : Here) (p : Place) (s : Box Stmt Global) (e : Expr) (b : Box TStmt Global) (x : Box TExpr Global) (t : TExpr) → t ≡ x.value → TypesStatement program returns (in_loop here) s.value b.value → Types program here e x.value true → (type_of x.value).shape ≡ None
    → TypesStatement program returns here (S.Do p s e) (T.Do b t)
do_types program returns here p s e b x t is inner h scalar = rw is (Y.do_while s b inner (record { typed = h; is_scalar = scalar }))

scalar_test : {program : Program} {here : Here} {e : Option Expr} {t : Option TExpr} → TypesValueIf program here e t → ((x : TExpr) → t ≡ Some x → (type_of x).shape ≡ None) → TypesTestIf program here e t
scalar_test Y.TypesValueIf.absent scalar = Y.TypesTestIf.absent
scalar_test (Y.TypesValueIf.present {t = t} h) scalar = Y.TypesTestIf.present (record { typed = h; is_scalar = scalar t refl })

same_value : (b : Box TExpr Global) {y : TExpr} → Some b.value ≡ Some y → b.value ≡ y
same_value b is = cc

scalar_value : (x : Option (Box TExpr Global)) → ((b : Box TExpr Global) → x ≡ Some b → (type_of b.value).shape ≡ None) → (y : TExpr) → value_of x ≡ Some y → (type_of y).shape ≡ None
scalar_value None scalar y is = absurd (cc)
scalar_value (Some b) scalar y is = subst (λ (t : TExpr). (type_of t).shape ≡ None) (same_value b is) (scalar b refl)

pub for_types : (program : Program) (returns : Returns) (here : Here) (p : Place) (first test step : Option Expr) (s : Box Stmt Global) (heading : Heading) (b : Box TStmt Global) (f t g : Option TExpr) → f ≡ value_of heading.first → t ≡ value_of heading.test → g ≡ value_of heading.step
    → IsHeading program here first test step heading → ((x : Box TExpr Global) → heading.test ≡ Some x → (type_of x.value).shape ≡ None) → TypesStatement program returns (in_loop here) s.value b.value → TypesStatement program returns here (S.For p first test step s) (T.For f t g b)
for_types program returns here p first test step s heading b f t g first_is test_is step_is h scalar inner =
    rw (first_is, test_is, step_is) (Y.for s b h.first_typed (scalar_test h.test_typed (scalar_value heading.test scalar)) h.step_typed inner)

pub for_fault : (program : Program) (returns : Returns) (here : Here) (p : Place) (first test step : Option Expr) (s : Box Stmt Global) (heading : Heading) (b : Box TStmt Global) (x : Box TExpr Global) (u : Untyped) {of : ℕ} → IsHeading program here first test step heading → heading.test ≡ Some x → (type_of x.value).shape ≡ Some of
    → told_by u ≡ Some (Faults.ScalarWanted, p) → TypesStatement program returns (in_loop here) s.value b.value → IsFault program returns here (S.For p first test step s) u
for_fault program returns here p first test step s heading b x u h is parallel told inner = by test (subst (TypesValueIf program here test) (ap value_of is) h.test_typed)
  where
    by : (e : Option Expr) → TypesValueIf program here e (Some x.value) → IsFault program returns here (S.For p first e step s) u
    by _ (Y.TypesValueIf.present typed) = tells u told (F.parallel_test (F.Tested.for s h.first_typed h.step_typed (F.typed inner)) typed parallel)

-- ---- `return`

pub returns_value : (program : Program) (here : Here) (p : Place) (e : Expr) (ty : ValueType) (x : TExpr) (b : Box TExpr Global) (t : TExpr) {current : Option ℕ} → t ≡ b.value → here.current ≡ current → IsAtHand current ty.shape × (ty.shape ≡ None → (type_of x).shape ≡ None) → Types program here e x true → IsFitted x ty b.value
    → TypesStatement program (a_value ty) here (S.Return p (Some e)) (T.Return (Some t))
returns_value program here p e ty x b t is current fits h fitted =
    rw is (Y.return_value h (Y.returned (subst (λ (c : Option ℕ). IsAtHand c ty.shape) (sym current) fits.0) fits.1 fitted))

not_fitting : (here : Here) (ty : ValueType) (x : TExpr) (shape of : Option ℕ) → ty.shape ≡ shape → (type_of x).shape ≡ of → (IsAtHand here.current ty.shape × (ty.shape ≡ None → (type_of x).shape ≡ None) → ⊥) → ReturnFault here (a_value ty) x
not_fitting here ty x None None is none unfit = absurd (unfit (subst (IsAtHand here.current) (sym is) X.scalar, λ k. none))
not_fitting here ty x None (Some s) is parallel unfit = F.ReturnFault.parallel is parallel
not_fitting here ty x (Some s) of is shape unfit = F.ReturnFault.away is (λ same. unfit (subst (IsAtHand here.current) (sym is) (subst (λ (c : Option ℕ). IsAtHand c (Some s)) (sym same) X.of_current), λ none. absurd (let k = sym is ∙ none in cc)))

pub return_fault : (program : Program) (here : Here) (p : Place) (e : Expr) (ty : ValueType) (x : TExpr) (u : Untyped) {current : Option ℕ} → here.current ≡ current → (IsAtHand current ty.shape × (ty.shape ≡ None → (type_of x).shape ≡ None) → ⊥) → Types program here e x true → told_by u ≡ Some (Faults.Return, p)
    → IsReturnFault program (a_value ty) here (S.Return p (Some e)) u
return_fault program here p e ty x u current unfit h told =
    tells_return u told (F.returned h (not_fitting here ty x ty.shape (type_of x).shape refl refl (subst (λ (c : Option ℕ). IsAtHand c ty.shape × (ty.shape ≡ None → (type_of x).shape ≡ None) → ⊥) (sym current) unfit)))

pub no_result : (program : Program) (here : Here) (p : Place) (e : Expr) (x : TExpr) (u : Untyped) → Types program here e x true → told_by u ≡ Some (Faults.Return, p) → IsReturnFault program nothing here (S.Return p (Some e)) u
no_result program here p e x u h told = tells_return u told (F.returned h F.no_result)

pub returns_alone : {program : Program} {returns : Returns} {here : Here} {p : Place} {e : Option Expr} {x : Option TExpr} → TypesValueIf program here e x → x ≡ None → TypesStatement program returns here (S.Return p e) (T.Return None)
returns_alone Y.TypesValueIf.absent is = Y.return_alone
returns_alone (Y.TypesValueIf.present h) is = absurd (cc)

-- which values fit a result
abbrev Takes : Option ℕ → Option ℕ → Option ℕ → Type 0
Takes current wanted value = IsAtHand current wanted × (wanted ≡ None → value ≡ None)

pub scalar_fits : (current value : Option ℕ) (b : Bool) → is_some value ≡ not b → MatchBool b (Takes current None value) (Takes current None value → ⊥)
scalar_fits current None true is = (X.scalar, λ k. refl)
scalar_fits current None false is = absurd (cc)
scalar_fits current (Some s) true is = absurd (cc)
scalar_fits current (Some s) false is = λ h. absurd (let k = h.1 refl in cc)

current_is : {current : Option ℕ} {shape : ℕ} → IsAtHand current (Some shape) → current ≡ Some shape
current_is X.of_current = refl

pub parallel_fits : (current value : Option ℕ) (shape : ℕ) (b : Bool) → b ≡ option_eq eqb current (Some shape) → MatchBool b (Takes current (Some shape) value) (Takes current (Some shape) value → ⊥)
parallel_fits None value shape true is = absurd (cc)
parallel_fits None value shape false is = λ h. absurd (let k = current_is h.0 in cc)
parallel_fits (Some c) value shape true is = (subst (λ (k : ℕ). IsAtHand (Some c) (Some k)) (eqb-true c shape (sym is)) X.of_current, λ none. absurd (cc))
parallel_fits (Some c) value shape false is = λ h. absurd (let k = current_is h.0 in let same : c ≡ shape = cc in true≢false (sym (eq-eqb c shape same) ∙ sym is))

pub only_some : {A : Type 0} {x y : A} → Some x ≡ Some y → x ≡ y
only_some is = cc

pub fit : (b : Bool) (P Q : Type 0) → b ≡ true → MatchBool b P Q → P
fit true P Q is h = h
fit false P Q is h = absurd (cc)

pub unfit : (b : Bool) (P Q : Type 0) → b ≡ false → MatchBool b P Q → Q
unfit true P Q is h = absurd (cc)
unfit false P Q is h = h

pub test_present : (test : Option (Box TExpr Global)) (b : Box TExpr Global) (p : Place) (r : Result (Unit {0}) Untyped) → test ≡ Some b → MatchResult r (λ _. (type_of b.value).shape ≡ None) (λ u. ((of : ℕ) × ((type_of b.value).shape ≡ Some of)) × (told_by u ≡ Some (Faults.ScalarWanted, p)))
    → MatchResult r (λ _. (x : Box TExpr Global) → test ≡ Some x → (type_of x.value).shape ≡ None) (λ u. (x : Box TExpr Global) × (test ≡ Some x) × ((of : ℕ) × ((type_of x.value).shape ≡ Some of)) × (told_by u ≡ Some (Faults.ScalarWanted, p)))
test_present test b p (Ok v) is h = λ x there. subst (λ (y : Box TExpr Global). (type_of y.value).shape ≡ None) (only_some (sym is ∙ there)) h
test_present test b p (Err u) is h = (b, is, h.0, h.1)
