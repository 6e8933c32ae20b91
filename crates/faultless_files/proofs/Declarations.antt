-- Typed declarations have no fault.
use Rattle.std.proofs.Common.{◌≡◌, ◌≤◌, ℕ, ℤ, pos, negsuc, true, IsNone, List, [], ◌∷◌, Option, Some, None, refl, sym, ap, subst, ◌∙◌}
use Rattle.std.proofs.lemmas.Option.{none-some, same_Some}
use Rattle.cstar_base.specs.declared.faults.Fault.{Fault}
use Rattle.cstar_base.specs.declared.operators.Place.{Place}
use Rattle.cstar_tree.specs.declared.syntax.Declaration.{Declaration}
use Rattle.cstar_tree.specs.declared.syntax.Declarator.{Declarator}
use Rattle.cstar_tree.specs.declared.syntax.Expr.{Expr}
use Rattle.cstar_tree.specs.declared.syntax.Initializer.{Initializer}
use Rattle.cstar_tree.specs.declared.syntax.ShapeRef.{ShapeRef}
use Rattle.cstar_tree.specs.declared.syntax.TypeName.{TypeName}
use Rattle.cstar_tree.specs.declared.typed.LocalVar.{LocalVar}
use Rattle.cstar_tree.specs.declared.typed.TExpr.{TExpr}
use Rattle.cstar_tree.specs.declared.typed.ValueType.{ValueType}
use Rattle.cstar_tree.specs.Typed.{type_of}
use Rattle.cstar_tree.specs.BlockScopes.{behind_declarator, behind_declarators, declared_type, with_length}
use Rattle.cstar_tree.specs.Constants.{constant_number}
use Rattle.cstar_tree.specs.ExpressionFaults.{IsAway, kind_of, shape}
use Rattle.cstar_tree.specs.ExpressionFaults as F
use Rattle.cstar_tree.specs.ExpressionTypes.{Types}
use Rattle.cstar_tree.specs.Headers.{Program}
use Rattle.cstar_tree.specs.Scopes.{Here, IsAtHand, Meaning, VariableType, a_function, a_shape, a_variable, meaning, of_shape, of_written, shape_meant, shape_of, written_type}
use Rattle.cstar_tree.specs.Scopes as S
use Rattle.cstar_tree.specs.StatementFaults.{ArrayFault, DeclarationsFault, DeclaratorFault, DeclaratorsFault, IsOutside, ShapeFaultAt, TypeFaultAt}
use Rattle.cstar_tree.specs.StatementFaults as W
use Rattle.cstar_tree.specs.StatementTypes.{IsDeclarable, TypesDeclarations, TypesInitial, TypesLocal, TypesLocals}
use Rattle.cstar_tree.specs.StatementTypes as Y
use Rattle.faultless_files.proofs.ExpressionLaws.{laws}
use Rattle.faultless_files.specs.Laws.{TypedDeclarationsHaveNoFault}
use Rattle.faultless_files.proofs.ValueTypes.{shape_is}
use Rattle.faultless_files.proofs.Lengths.{sound_length}

pub no_meaning : (m : Option Meaning) (n : Meaning) → IsNone m → m ≡ Some n → ⊥
no_meaning None n new is = none-some n is
no_meaning (Some m) n new is = absurd (cc)

-- ---- written types

meant_shape : (m : Meaning) (s : ℕ) → shape_meant (Some m) ≡ Some s → kind_of m ≡ shape
meant_shape (a_shape s) n is = refl
meant_shape (a_function f) n is = elim (none-some n is) [ ]
meant_shape (a_variable v t) n is = elim (none-some n is) [ ]

-- a shape that is named, and is one, has no fault
pub sound_shape : {here : Here} {named : ShapeRef} {fault : Fault} {p : Place} → ShapeFaultAt here named fault p → (s : ℕ) → shape_of here named ≡ Some s → ⊥
sound_shape (W.ShapeFaultAt.unknown absent) s is = elim (none-some s (sym (ap shape_meant absent) ∙ is)) [ ]
sound_shape (W.ShapeFaultAt.no_shape {m = m} stands other) s is = other (meant_shape m s (sym (ap shape_meant stands) ∙ is))
sound_shape (W.ShapeFaultAt.no_current absent) s is = elim (none-some s (sym absent ∙ is)) [ ]

written_shape : (here : Here) (written : TypeName) (s : Option ℕ) (ty : ValueType) → of_shape written s ≡ Some ty → (n : ℕ) × (s ≡ Some n)
written_shape here written None ty is = elim (none-some ty is) [ ]
written_shape here written (Some n) ty is = (n, refl)

pub sound_type : {here : Here} {written : TypeName} {fault : Fault} {p : Place} → TypeFaultAt here written fault p → (ty : ValueType) → written_type here written ≡ Some ty → ⊥
sound_type {here = here} {written = written} f ty is =
    let s = written_shape here written (shape_of here f.named) ty (sym (ap (of_written here written) f.is_named) ∙ is) in
    sound_shape f.stands s.0 s.1

-- ---- whole parallel values

pub current_is : {current wanted : Option ℕ} → IsAtHand current wanted → (s : ℕ) → wanted ≡ Some s → current ≡ Some s
current_is S.IsAtHand.scalar s is = elim (none-some s is) [ ]
current_is S.IsAtHand.of_current s is = is

pub not_away : {current : Option ℕ} {s : ℕ} {fault : Fault} → IsAway current s fault → current ≡ Some s → ⊥
not_away (F.IsAway.no_current {s = s}) is = elim (none-some s is) [ ]
not_away (F.IsAway.other {c = c} {s = s} differ) is = differ (same_Some c s is)

-- ---- arrays

-- the length of an array is a number, and its type is that which is written
pub record IsArray (here : Here) (ty : ValueType) (length : Expr) (variable : VariableType) : Type 0 where
  pub number : ℕ
  pub length_is : constant_number here length ≡ Some (pos number)
  pub array : variable.array ≡ Some number
  pub value : variable.value ≡ ty

array_with : (ty : ValueType) (n : Option ℤ) (variable : VariableType) → with_length ty n ≡ Some variable → (number : ℕ) × (n ≡ Some (pos number)) × (variable ≡ record { value = ty; array = Some number })
array_with ty None variable is = elim (none-some variable is) [ ]
array_with ty (Some (pos n)) variable is = (n, refl, sym (same_Some _ variable is))
array_with ty (Some (negsuc n)) variable is = elim (none-some variable is) [ ]

pub array_declared : (here : Here) (ty : ValueType) (length : Expr) (variable : VariableType) → declared_type here (Some ty) (Some length) ≡ Some variable → IsArray here ty length variable
array_declared here ty length variable is =
    let a = array_with ty (constant_number here length) variable is in
    record { number = a.0; length_is = a.1; array = ap (λ (v : VariableType). v.array) a.2; value = ap (λ (v : VariableType). v.value) a.2 }

-- what is declared as an array, if it may be
record IsSoundArray (variable : VariableType) (initial : Option Initializer) (number : ℕ) : Type 0 where
  of : ℕ
  shape_is : variable.value.shape ≡ Some of
  least : 1 ≤ number
  most : number ≤ 64
  no_initial : initial ≡ None

array_sound : {variable : VariableType} {initial : Option Initializer} → IsDeclarable variable initial → (number : ℕ) → variable.array ≡ Some number → IsSoundArray variable initial number
array_sound Y.IsDeclarable.plain number is = elim (none-some number is) [ ]
array_sound (Y.IsDeclarable.array {shape = of} {length = length} shaped least most) number is =
    let same = same_Some length number is in
    record { of = of; shape_is = shaped; least = subst (λ (n : ℕ). 1 ≤ n) same least; most = subst (λ (n : ℕ). n ≤ 64) same most; no_initial = refl }

inside : {n : ℤ} → IsOutside n → (number : ℕ) → n ≡ pos number → 1 ≤ number → number ≤ 64 → ⊥
inside (W.IsOutside.outside f) number is least most = f number is least most

pub sound_array : {here : Here} {ty : ValueType} {d : Declarator} (variable : VariableType) → declared_type here (Some ty) d.length ≡ Some variable → IsDeclarable variable d.initial → ArrayFault here (Some ty) d → ⊥
sound_array {here = here} {ty = ty} {d = d} variable is may f = by_fault f
  where
    array_of : (length : Expr) → d.length ≡ Some length → IsArray here ty length variable
    array_of length with = array_declared here ty length variable (sym (ap (declared_type here (Some ty)) with) ∙ is)

    sound_of : (length : Expr) (with : d.length ≡ Some length) → IsSoundArray variable d.initial (array_of length with).number
    sound_of length with = let a = array_of length with in array_sound may a.number a.array

    by_fault : ArrayFault here (Some ty) d → ⊥
    by_fault (W.ArrayFault.no_shape {t = t} {length = length} typed none with) =
        let a = array_of length with in
        let s = sound_of length with in
        elim (none-some s.of (sym none ∙ (shape_is (sym (same_Some ty t typed) ∙ sym a.value) ∙ s.shape_is))) [ ]
    by_fault (W.ArrayFault.with_initial {length = length} {i = i} with given) = let s = sound_of length with in elim (none-some i (sym s.no_initial ∙ given)) [ ]
    by_fault (W.ArrayFault.outside {length = length} {n = n} with number away) =
        let a = array_of length with in
        let s = sound_of length with in
        inside away a.number (same_Some n (pos a.number) (sym number ∙ a.length_is)) s.least s.most

-- what is not declared as an array has the type that is written
plain_declared : (here : Here) (ty : ValueType) (length : Option Expr) (variable : VariableType) → declared_type here (Some ty) length ≡ Some variable → length ≡ None → variable.value ≡ ty
plain_declared here ty length variable is none = sym (ap (λ (v : VariableType). v.value) (same_Some _ variable (sym (ap (declared_type here (Some ty)) none) ∙ is)))

-- ---- initialisers

-- an initialiser with its type
record IsInitial (program : Program) (here : Here) (ty : ValueType) (i : Initializer) : Type 0 where
  t : TExpr
  typed : Types program here i.value t true
  at_hand : IsAtHand here.current ty.shape
  takes : ty.shape ≡ None → (type_of t).shape ≡ None

initial_typed : {program : Program} {here : Here} {ty : ValueType} {given : Option Initializer} {local : Option TExpr} → TypesInitial program here ty given local → (i : Initializer) → given ≡ Some i → IsInitial program here ty i
initial_typed Y.TypesInitial.no_initial i is = elim (none-some i is) [ ]
initial_typed {program = program} {here = here} {ty = ty} (Y.TypesInitial.initial {i = j} {t = t} typed at_hand takes fit) i is =
    subst (IsInitial program here ty) (same_Some j i is) (record { t = t; typed = typed; at_hand = at_hand; takes = takes })

module _ (program : Program) where
  -- ---- declarators

  sound_declarator : {here : Here} {ty : ValueType} {d : Declarator} {local : LocalVar} {fault : Fault} {p : Place} → DeclaratorFault program here (Some ty) d fault p → TypesLocal program here ty d local → ⊥
  sound_declarator (W.DeclaratorFault.redeclared {m = m} stands) typed = no_meaning _ m typed.is_new stands
  sound_declarator {here = here} {ty = ty} (W.DeclaratorFault.in_length {e = e} with f) typed =
      let a = array_declared here ty e typed.variable (sym (ap (declared_type here (Some ty)) with) ∙ typed.its_type) in
      sound_length program here e (pos a.number) a.length_is f
  sound_declarator (W.DeclaratorFault.of_array f) typed = sound_array typed.variable typed.its_type typed.declarable f
  sound_declarator {here = here} {ty = ty} {d = d} (W.DeclaratorFault.in_initial {i = i} {fault = fault} {p = p} given f) typed =
      let it = initial_typed typed.initial i given in
      laws.no_value_fault program (behind_declarator here (Some ty) d) i.value it.t it.typed fault p f
  sound_declarator {here = here} {ty = ty} {d = d} (W.DeclaratorFault.away {i = i} {t = t} {s = s} new plain given value is shaped away) typed =
      let it = initial_typed typed.initial i given in
      let same = plain_declared here ty d.length typed.variable typed.its_type plain ∙ same_Some ty t is in
      not_away away (current_is it.at_hand s (shape_is same ∙ shaped))
  sound_declarator {here = here} {ty = ty} {d = d} (W.DeclaratorFault.parallel_initial {i = i} {t = t} {x = x} {s = s} new plain given value is scalar shaped) typed =
      let it = initial_typed typed.initial i given in
      let same = plain_declared here ty d.length typed.variable typed.its_type plain ∙ same_Some ty t is in
      let one = laws.unique program (behind_declarator here (Some ty) d) i.value x it.t _ _ value it.typed in
      elim (none-some s (sym (it.takes (shape_is same ∙ scalar)) ∙ (shape_is (sym one.0.type_is) ∙ shaped))) [ ]

  -- declarators one behind the other, as they are typed
  abbrev AreLocals : Here → ValueType → List Declarator → Type 0
  AreLocals here ty [] = Unit {0}
  AreLocals here ty (d ∷ ds) = ((local : LocalVar) × TypesLocal program here ty d local) × ((locals : List LocalVar) × TypesLocals program (behind_declarator here (Some ty) d) ty ds locals)

  locals_typed : {here : Here} {ty : ValueType} {ds : List Declarator} {locals : List LocalVar} → TypesLocals program here ty ds locals → AreLocals here ty ds
  locals_typed Y.no_variable = tt
  locals_typed (Y.next_variable {l = l} {ls = ls} typed more) = ((l, typed), (ls, more))

  sound_declarators : {here : Here} {wanted : Option ValueType} {ds : List Declarator} {fault : Fault} {p : Place} → DeclaratorsFault program here wanted ds fault p → (ty : ValueType) (locals : List LocalVar) → wanted ≡ Some ty → TypesLocals program here ty ds locals → ⊥
  sound_declarators {here = here} (W.DeclaratorsFault.first {d = d} {fault = fault} {p = p} f) ty locals is typed =
      let all = locals_typed typed in
      sound_declarator (subst (λ (w : Option ValueType). DeclaratorFault program here w d fault p) is f) all.0.1
  sound_declarators {here = here} (W.DeclaratorsFault.later {d = d} {ds = ds} f) ty locals is typed =
      let all = locals_typed typed in
      sound_declarators f ty all.1.0 is (subst (λ (w : Option ValueType). TypesLocals program (behind_declarator here w d) ty ds all.1.0) (sym is) all.1.1)

  abbrev AreDeclarations : Here → List Declaration → Type 0
  AreDeclarations here [] = Unit {0}
  AreDeclarations here (d ∷ ds) =
      (ty : ValueType) × (written_type here d.type_name ≡ Some ty) × ((first : List LocalVar) × TypesLocals program here ty d.variables.items first)
      × ((rest : List LocalVar) × TypesDeclarations program (behind_declarators here (Some ty) d.variables.items) ds rest)

  declarations_typed : {here : Here} {ds : List Declaration} {locals : List LocalVar} → TypesDeclarations program here ds locals → AreDeclarations here ds
  declarations_typed Y.no_declaration = tt
  declarations_typed (Y.next_declaration {ty = ty} {ls = ls} {rest = rest} is typed more) = (ty, is, (ls, typed), (rest, more))

  pub sound_declarations : {here : Here} {ds : List Declaration} {fault : Fault} {p : Place} → DeclarationsFault program here ds fault p → (locals : List LocalVar) → TypesDeclarations program here ds locals → ⊥
  sound_declarations (W.DeclarationsFault.written f) locals typed = let all = declarations_typed typed in sound_type f all.0 all.1
  sound_declarations (W.DeclarationsFault.first f) locals typed = let all = declarations_typed typed in sound_declarators f all.0 all.2.0 all.1 all.2.1
  sound_declarations {here = here} (W.DeclarationsFault.later {d = d} {ds = ds} f) locals typed =
      let all = declarations_typed typed in
      sound_declarations f all.3.0 (subst (λ (w : Option ValueType). TypesDeclarations program (behind_declarators here w d.variables.items) ds all.3.0) (sym all.1) all.3.1)

pub declarations_sound : TypedDeclarationsHaveNoFault
declarations_sound program here ds locals typed fault p f = sound_declarations program f locals typed
