-- Names in expressions: what they become, and the faults at them.
use Rattle.std.proofs.Common.{◌≡◌, ℕ, true, false, List, Option, Some, None, Err, refl, sym, ap, subst, ◌∙◌}
use Rattle.std.specs.Option.{is_some}
use Rattle.cstar_base.specs.declared.faults.Fault.{Fault}
use Rattle.cstar_base.specs.declared.faults.Fault.TheVariants as Faults
use Rattle.cstar_base.specs.declared.operators.Place.{Place}
use Rattle.cstar_tree.specs.declared.syntax.Expr as E
use Rattle.cstar_tree.specs.declared.syntax.Name.{Name}
use Rattle.cstar_tree.specs.declared.typed.TExpr as T
use Rattle.cstar_tree.specs.declared.typed.Variable.{Variable}
use Rattle.cstar_tree.specs.ExpressionFaults.{FaultAt, IsAway}
use Rattle.cstar_tree.specs.ExpressionFaults as F
use Rattle.cstar_tree.specs.ExpressionTypes.{IsVariable, Types}
use Rattle.cstar_tree.specs.ExpressionTypes as X
use Rattle.cstar_tree.specs.Headers.{Program}
use Rattle.cstar_tree.specs.Scopes.{Binding, Here, IsAtHand, Meaning, a_function, a_shape, a_variable, find, meaning}
use Rattle.cstar_tree.specs.Scopes as S
use Rattle.type_scopes.specs.Answers.{TellsAway, told_by}
use Rattle.type_scopes.specs.declared.faults.Untyped.{Untyped}
use Rattle.type_scopes.specs.declared.faults.Untyped.TheVariants as N
use Rattle.type_scopes.specs.declared.names.VariableType as Names
use Rattle.type_expressions.specs.Names.{HasNames, IsVariableMeant, IsNamed, TellsOther}
use Rattle.type_expressions.proofs.AtSites.{none_in}

abbrev at_told : Program → Here → Name → Option (Fault × Place) → Type 0
at_told program here n None = Unit {0}
at_told program here n (Some q) = FaultAt program here (E.Name n) q.0 q.1

named_fault : (program : Program) (here : Here) (n : Name) (u : Untyped) {fault : Fault} {p : Place} → told_by u ≡ Some (fault, p) → FaultAt program here (E.Name n) fault p → IsNamed program here n (Err u)
named_fault program here n (N.Fault standing) is h = subst (at_told program here n) (sym is) h
named_fault program here n N.Faulty is h = absurd (cc)
named_fault program here n N.Memory is h = absurd (cc)

-- an array's name alone
array_alone : {program : Program} {here : Here} {n : Name} {v : Variable} (t : S.VariableType) (array : Option ℕ) → t.array ≡ array → IsVariable here n v t → (is_some t.array ≡ false → ⊥) → FaultAt program here (E.Name n) Faults.ArrayUse n.place
array_alone t None is at other = absurd (other (ap is_some is))
array_alone {here = here} {n = n} {v = v} t (Some length) is at other = F.array_alone (subst (λ (a : Option ℕ). IsVariable here n v (record { value = t.value; array = a })) is at)

pub not_plain : (program : Program) (here : Here) (n : Name) (m : Option Meaning) (u : Untyped) → meaning here n.word ≡ m → TellsOther false m n.place u → IsNamed program here n (Err u)
not_plain program here n None u is tells = named_fault program here n u tells (F.unknown F.as_value is)
not_plain program here n (Some (a_shape s)) u is tells = named_fault program here n u tells (F.wrong_kind F.as_value is (λ same. cc))
not_plain program here n (Some (a_function f)) u is tells = named_fault program here n u tells (F.wrong_kind F.as_value is (λ same. cc))
not_plain program here n (Some (a_variable v None)) u is tells = subst (λ (w : Untyped). IsNamed program here n (Err w)) (sym tells) (v, is)
not_plain program here n (Some (a_variable v (Some t))) u is tells = named_fault program here n u tells.1 (array_alone t t.array refl is tells.0)

plain : (here : Here) (n : Name) (names : List Binding) (v : Variable) (ty : Names.VariableType) → HasNames names here → IsVariableMeant false (find names n.word) (v, ty) → IsVariable here n v (record { value = record { elem = ty.elem; shape = ty.shape }; array = None })
plain here n names v ty has found =
    subst (λ (a : Option ℕ). IsVariable here n v (record { value = record { elem = ty.elem; shape = ty.shape }; array = a })) (none_in ty.array found.1) (has n.word ∙ found.0)

pub name_types : (program : Program) (here : Here) (n : Name) (names : List Binding) (v : Variable) (ty : Names.VariableType) {current : Option ℕ} → HasNames names here → here.current ≡ current → IsVariableMeant false (find names n.word) (v, ty) → IsAtHand current ty.shape → Types program here (E.Name n) (T.Variable (record { elem = ty.elem; shape = ty.shape }) v) true
name_types program here n names v ty has current found hand = X.name (plain here n names v ty has found) (subst (λ (k : Option ℕ). IsAtHand k ty.shape) (sym current) hand)

pub name_away : (program : Program) (here : Here) (n : Name) (names : List Binding) (v : Variable) (ty : Names.VariableType) {current : Option ℕ} {u : Untyped} → HasNames names here → here.current ≡ current → IsVariableMeant false (find names n.word) (v, ty) → TellsAway current ty.shape n.place u → IsNamed program here n (Err u)
name_away program here n names v ty {u = u} has current found away =
    let of_shape = subst (λ (k : Option ℕ). IsVariable here n v (record { value = record { elem = ty.elem; shape = k }; array = None })) away.is_parallel (plain here n names v ty has found) in
    named_fault program here n u away.tells (F.variable_away of_shape (subst (λ (k : Option ℕ). IsAway k away.of away.fault) (sym current) away.away))
