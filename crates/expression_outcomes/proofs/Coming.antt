-- What an expression comes to, from what its parts and its names come to.
use Rattle.std.proofs.Common.{◌≡◌, ◌+◌, inl, inr, ℕ, zero, suc, Bool, sym, true, false, List, [], ◌∷◌, Option, Some, None, Box, refl, ap, subst, ◌∙◌, arith}
use Rattle.std.specs.List.{All, slice_get}
use Rattle.std.specs.declared.alloc.Global.{Global}
use Rattle.std.proofs.lemmas.Bool.Decides.{eqb_tells}
use Rattle.std.proofs.lemmas.List.Elements.{All-head, All-tail}
use Rattle.cstar_base.specs.declared.faults.Fault.{Fault}
use Rattle.cstar_base.specs.declared.operators.Place.{Place}
use Rattle.cstar_tree.specs.declared.syntax.Expr.{Expr}
use Rattle.cstar_tree.specs.declared.syntax.Expr as E
use Rattle.cstar_tree.specs.declared.syntax.Name.{Name}
use Rattle.cstar_tree.specs.declared.syntax.ShapeRef.{ShapeRef}
use Rattle.cstar_tree.specs.declared.syntax.ShapeRef.TheVariants as R
use Rattle.cstar_tree.specs.declared.typed.TExpr.{TExpr}
use Rattle.cstar_tree.specs.declared.typed.Variable.{Variable}
use Rattle.cstar_tree.specs.ExpressionFaults.{IsAway, IsPart, NamesShape, Uses}
use Rattle.cstar_tree.specs.ExpressionFaults as F
use Rattle.cstar_tree.specs.ExpressionTypes.{IsVariable, TypesEach, TypesIndexes}
use Rattle.cstar_tree.specs.ExpressionTypes as X
use Rattle.cstar_tree.specs.Headers.{Program}
use Rattle.cstar_tree.specs.Scopes.{Here, IsAtHand, Meaning, VariableType, a_function, a_shape, a_variable, extents_of, index_place, meaning, part, shape_meant, shape_of}
use Rattle.cstar_tree.specs.Scopes as S
use Rattle.expression_outcomes.specs.Outcomes.{IsOfProgram, HasItsNames, IsShape, Outcome}
use Rattle.expression_outcomes.specs.Outcomes as O
use Rattle.expression_outcomes.proofs.Called.{around_there, brackets_call, elsewhere, part_calls, place_there}
use Rattle.unique_types.proofs.Judged.{Operand}

-- ---- places of parts

known_elsewhere : {program : Program} (here : Here) (dot : Option ℕ) (whole : Bool) → HasItsNames program here → HasItsNames program (elsewhere here dot whole)
unfolding meaning extents_of
known_elsewhere here dot whole k = record { functions = k.functions; shapes = k.shapes; variables = k.variables; current = k.current }

pub known_there : {program : Program} {here there : Here} {e x : Expr} → IsPart here e there x → HasItsNames program here → HasItsNames program there
known_there {program} {here} {there} is k = subst (HasItsNames program) (sym (place_there is)) (known_elsewhere here there.dot there.whole k)

pub of_program_there : {program : Program} {here there : Here} {e x : Expr} → IsPart here e there x → IsOfProgram program here e → IsOfProgram program there x
of_program_there is i = record {
  instances = λ c around calls at_function. i.instances c around (part_calls is calls) (sym (around_there is) ∙ at_function);
  texts = λ p text arguments stands. i.texts p text arguments (O.in_part is stands);
}

pub of_program_inside : {program : Program} {here : Here} {p : Place} (inner : Box Expr Global) → IsOfProgram program here (E.Brackets p inner) → IsOfProgram program here inner.value
of_program_inside {here = here} {p = p} inner i = record {
  instances = λ c around calls at_function. i.instances c around (brackets_call here p inner calls) at_function;
  texts = λ q text arguments stands. i.texts q text arguments (O.in_brackets inner stands);
}

-- ---- parts

-- an expression has an outcome wherever what it names and calls is there
abbrev pub HasOutcome : Program → Expr → Type 0
HasOutcome program e = (here : Here) → HasItsNames program here → IsOfProgram program here e → Outcome program here e

from_part : {program : Program} {here there : Here} {e x : Expr} → IsPart here e there x → (Operand program there x → Outcome program here e) → Outcome program there x → Outcome program here e
from_part is goes_on (O.typed {t = t} {has_value = true} h) = goes_on (record { tree = t; types = h })
from_part is goes_on (O.typed {has_value = false} h) = O.faulty (F.no_value is h)
from_part is goes_on (O.faulty h) = O.faulty (F.in_part is h)
from_part is goes_on (O.rests h) = O.rests (O.in_part is h)

pub with_part : {program : Program} {here there : Here} {e x : Expr} → IsPart here e there x → HasOutcome program x → HasItsNames program here → IsOfProgram program here e → (Operand program there x → Outcome program here e) → Outcome program here e
with_part {there = there} is outcome k i goes_on = from_part is goes_on (outcome there (known_there is k) (of_program_there is i))

pub with_each : {program : Program} {here : Here} {e : Expr} (es : List Expr) → All (HasOutcome program) es → ((which : ℕ) (x : Expr) → slice_get es which ≡ Some x → IsPart here e (part here) x) → HasItsNames program here → IsOfProgram program here e → ((ts : List TExpr) → TypesEach program (part here) es ts → Outcome program here e) → Outcome program here e
with_each [] all parts k i goes_on = goes_on [] X.no_expression
with_each {program} (x ∷ es) all parts k i goes_on =
    with_part (parts zero x refl) (All-head (HasOutcome program) x es all) k i (λ t.
    with_each es (All-tail (HasOutcome program) x es all) (λ which y is. parts (suc which) y is) k i (λ ts h. goes_on (t.tree ∷ ts) (X.next_expression t.types h)))

pub with_indexes : {program : Program} {here : Here} {e : Expr} (n : Name) (axis : ℕ) (es : List Expr) → All (HasOutcome program) es → ((which : ℕ) (x : Expr) → slice_get es which ≡ Some x → IsPart here e (index_place here n.word (axis + which)) x) → HasItsNames program here → IsOfProgram program here e → ((ts : List TExpr) → TypesIndexes program here n axis es ts → Outcome program here e) → Outcome program here e
with_indexes n axis [] all parts k i goes_on = goes_on [] X.no_index
with_indexes {program} {here} {e} n axis (x ∷ es) all parts k i goes_on =
    let first : axis + zero ≡ axis = omega arith in
    with_part (subst (λ (a : ℕ). IsPart here e (index_place here n.word a) x) first (parts zero x refl)) (All-head (HasOutcome program) x es all) k i (λ t.
    with_indexes n (axis + 1) es (All-tail (HasOutcome program) x es all)
    (λ which y is. subst (λ (a : ℕ). IsPart here e (index_place here n.word a) y) (let next : axis + suc which ≡ (axis + 1) + which = omega arith in next) (parts (suc which) y is))
    k i (λ ts h. goes_on (t.tree ∷ ts) (X.next_index t.types h)))

-- ---- names

by_variable : {program : Program} {here : Here} {e : Expr} (n : Name) (o : Option Meaning) → Uses e F.variable n → meaning here n.word ≡ o → ((v : Variable) (ty : VariableType) → IsVariable here n v ty → Outcome program here e) → Outcome program here e
by_variable n None as_one is goes_on = O.faulty (F.at (F.unknown as_one is))
by_variable n (Some (a_shape s)) as_one is goes_on = O.faulty (F.at (F.wrong_kind as_one is (λ same. cc)))
by_variable n (Some (a_function f)) as_one is goes_on = O.faulty (F.at (F.wrong_kind as_one is (λ same. cc)))
by_variable n (Some (a_variable v None)) as_one is goes_on = O.rests (O.on_variable as_one is)
by_variable n (Some (a_variable v (Some ty))) as_one is goes_on = goes_on v ty is

pub with_variable : {program : Program} {here : Here} {e : Expr} (n : Name) → Uses e F.variable n → ((v : Variable) (ty : VariableType) → IsVariable here n v ty → Outcome program here e) → Outcome program here e
with_variable {here = here} n as_one goes_on = by_variable n (meaning here n.word) as_one refl goes_on

by_function : {program : Program} {here : Here} {e : Expr} (n : Name) (o : Option Meaning) → Uses e F.function n → meaning here n.word ≡ o → ((f : ℕ) → meaning here n.word ≡ Some (a_function f) → Outcome program here e) → Outcome program here e
by_function n None as_one is goes_on = O.faulty (F.at (F.unknown as_one is))
by_function n (Some (a_shape s)) as_one is goes_on = O.faulty (F.at (F.wrong_kind as_one is (λ same. cc)))
by_function n (Some (a_function f)) as_one is goes_on = goes_on f is
by_function n (Some (a_variable v ty)) as_one is goes_on = O.faulty (F.at (F.wrong_kind as_one is (λ same. cc)))

pub with_function : {program : Program} {here : Here} {e : Expr} (n : Name) → Uses e F.function n → ((f : ℕ) → meaning here n.word ≡ Some (a_function f) → Outcome program here e) → Outcome program here e
with_function {here = here} n as_one goes_on = by_function n (meaning here n.word) as_one refl goes_on

by_shape : {program : Program} {here : Here} {e : Expr} (n : Name) (o : Option Meaning) → NamesShape e (R.Named n) → meaning here n.word ≡ o → ((s : ℕ) → shape_of here (R.Named n) ≡ Some s → Outcome program here e) → Outcome program here e
by_shape n None names is goes_on = O.faulty (F.at (F.unknown (F.as_shape names) is))
by_shape n (Some (a_shape s)) names is goes_on = goes_on s (ap shape_meant is)
by_shape n (Some (a_function f)) names is goes_on = O.faulty (F.at (F.wrong_kind (F.as_shape names) is (λ same. cc)))
by_shape n (Some (a_variable v ty)) names is goes_on = O.faulty (F.at (F.wrong_kind (F.as_shape names) is (λ same. cc)))

by_current : {program : Program} {here : Here} {e : Expr} (p : Place) (o : Option ℕ) → NamesShape e (R.Current p) → here.current ≡ o → ((s : ℕ) → here.current ≡ Some s → Outcome program here e) → Outcome program here e
by_current p None names is goes_on = O.faulty (F.at (F.no_current names is))
by_current p (Some s) names is goes_on = goes_on s is

pub with_shape : {program : Program} {here : Here} {e : Expr} (s : ShapeRef) → NamesShape e s → ((k : ℕ) → shape_of here s ≡ Some k → Outcome program here e) → Outcome program here e
with_shape {here = here} (R.Named n) names goes_on = by_shape n (meaning here n.word) names refl goes_on
with_shape {here = here} (R.Current p) names goes_on = by_current p here.current names refl goes_on

shape_found : (o : Option Meaning) {s : ℕ} → shape_meant o ≡ Some s → o ≡ Some (a_shape s)
shape_found None is = absurd (cc)
shape_found (Some (a_shape s)) is = cc
shape_found (Some (a_function f)) is = absurd (cc)
shape_found (Some (a_variable v ty)) is = absurd (cc)

-- a shape that is named is there
pub is_shape : {program : Program} {here : Here} (s : ShapeRef) {k : ℕ} → HasItsNames program here → shape_of here s ≡ Some k → IsShape here k
is_shape {here = here} (R.Named n) {k = k} h is = h.shapes n.word k (shape_found (meaning here n.word) is)
is_shape (R.Current p) {k = k} h is = h.current k is

-- ---- shapes

-- a type is scalar or of the current shape, or away from it
pub data AtHandOrAway (current of : Option ℕ) : Type 0 where
  at_hand : IsAtHand current of → AtHandOrAway current of
  away : {s : ℕ} {fault : Fault} → of ≡ Some s → IsAway current s fault → AtHandOrAway current of

pub at_hand_or_away : (current of : Option ℕ) → AtHandOrAway current of
at_hand_or_away current None = at_hand S.scalar
at_hand_or_away None (Some s) = away refl F.no_current
at_hand_or_away (Some c) (Some s) = elim (eqb_tells c s) [
  | inl same ↦ at_hand (subst (λ (k : ℕ). IsAtHand (Some c) (Some k)) same.1 S.of_current)
  | inr other ↦ away refl (F.other other.1)
]
