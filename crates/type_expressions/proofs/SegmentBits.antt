-- Segment bits that are named: the variable that they are, and the faults of the name.
use Rattle.std.proofs.Common.{◌≡◌, ℕ, Bool, true, false, not, Option, Some, None, Err, refl, sym, ap, subst, true≢false, ◌∙◌}
use Rattle.std.specs.Option.{option_eq}
use Rattle.std.proofs.Math.Dec.{eqb}
use Rattle.std.proofs.lemmas.Bool.{eq-eqb, eqb-true}
use Rattle.cstar_base.specs.declared.elem.Elem.{Elem}
use Rattle.cstar_base.specs.declared.faults.Fault.{Fault}
use Rattle.cstar_base.specs.declared.faults.Fault.TheVariants as Faults
use Rattle.cstar_base.specs.declared.operators.Place.{Place}
use Rattle.cstar_tree.specs.declared.syntax.Name.{Name}
use Rattle.cstar_tree.specs.declared.typed.Variable.{Variable}
use Rattle.cstar_tree.specs.ExpressionFaults.{HoldsBits}
use Rattle.cstar_tree.specs.ExpressionFaults as F
use Rattle.cstar_tree.specs.ExpressionTypes.{IsVariable}
use Rattle.cstar_tree.specs.Headers.{Program}
use Rattle.cstar_tree.specs.Scopes.{Here, Meaning, VariableType, a_function, a_shape, a_variable, meaning}
use Rattle.type_scopes.specs.Answers.{told_by}
use Rattle.type_scopes.specs.Named.{TellsNoVariable}
use Rattle.type_scopes.specs.declared.faults.Untyped.{Untyped}
use Rattle.type_scopes.specs.declared.faults.Untyped.TheVariants as N
use Rattle.type_expressions.specs.Along.{AreBits, AreBitsNamed, IsFaultOfBits}
use Rattle.type_expressions.specs.Along as L

-- what the name breaks is told
abbrev at_told : Program → Here → Name → Option (Fault × Place) → Type 0
at_told program here n None = Unit {0}
at_told program here n (Some q) = IsFaultOfBits program here n q.0 q.1

pub tells_bits : (program : Program) (here : Here) (n : Name) (u : Untyped) {fault : Fault} {p : Place} → told_by u ≡ Some (fault, p) → IsFaultOfBits program here n fault p → AreBitsNamed program here (Some n) (Err u)
tells_bits program here n (N.Fault standing) is h = subst (at_told program here n) (sym is) h
tells_bits program here n N.Faulty is h = absurd (cc)
tells_bits program here n N.Memory is h = absurd (cc)

pub no_variable : (program : Program) (here : Here) (n : Name) (m : Option Meaning) (u : Untyped) → meaning here n.word ≡ m → TellsNoVariable m n.place u → AreBitsNamed program here (Some n) (Err u)
no_variable program here n None u is tells = tells_bits program here n u tells (λ e mode names. F.unknown (F.as_bit names) is)
no_variable program here n (Some (a_shape s)) u is tells = tells_bits program here n u tells (λ e mode names. F.wrong_kind (F.as_bit names) is (λ same. cc))
no_variable program here n (Some (a_function f)) u is tells = tells_bits program here n u tells (λ e mode names. F.wrong_kind (F.as_bit names) is (λ same. cc))
no_variable program here n (Some (a_variable v None)) u is tells = subst (λ (w : Untyped). AreBitsNamed program here (Some n) (Err w)) (sym tells) (v, is)
no_variable program here n (Some (a_variable v (Some t))) u is tells = absurd tells

pub found : {here : Here} {n : Name} {v : Variable} {t : VariableType} {s : ℕ} → IsVariable here n v t → HoldsBits t s → here.current ≡ t.value.shape → AreBits here (Some n) (Some v)
found is (F.holds_bits bits) current = L.bits is bits current

pub away : {program : Program} {here : Here} {n : Name} {v : Variable} {t : VariableType} {s : ℕ} → IsVariable here n v t → HoldsBits t s → (here.current ≡ t.value.shape → ⊥) → IsFaultOfBits program here n Faults.OtherShape n.place
away is (F.holds_bits bits) other = λ e mode names. F.bits_away names is (F.holds_bits bits) other

-- the type of a parallel `bool` that is no array, and none other
pub held : (t : VariableType) (s : ℕ) → HoldsBits t s → (t.array ≡ None) × (t.value.shape ≡ Some s) × (t.value.elem.bits ≡ 1)
held t s (F.holds_bits bits) = (refl, refl, bits)

pub holding : (elem : Elem) (shape array : Option ℕ) {s : ℕ} → array ≡ None → shape ≡ Some s → elem.bits ≡ 1 → (s : ℕ) × HoldsBits (record { value = record { elem = elem; shape = shape }; array = array }) s
holding elem shape array {s} none parallel bits = rw (none, parallel) (s, F.holds_bits bits)

-- whether two shapes are one, as the code asks
of_not : (b : Bool) → not b ≡ false → b ≡ true
of_not true is = refl
of_not false is = absurd (cc)

pub one_shape : (a b : Option ℕ) → not (option_eq eqb a b) ≡ false → b ≡ a
one_shape None None is = refl
one_shape None (Some y) is = absurd (cc)
one_shape (Some x) None is = absurd (cc)
one_shape (Some x) (Some y) is = sym (ap (λ (k : ℕ). Some k) (eqb-true x y (of_not (eqb x y) is)))

pub other_shape : (a b : Option ℕ) → not (option_eq eqb a b) ≡ true → b ≡ a → ⊥
other_shape None None is same = cc
other_shape None (Some y) is same = cc
other_shape (Some x) None is same = cc
other_shape (Some x) (Some y) is same =
    let one : x ≡ y = cc in
    true≢false (sym is ∙ ap not (eq-eqb x y one))
