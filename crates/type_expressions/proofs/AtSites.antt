-- Expressions where a site tells of the current shape: what they become, and the faults at them.
use Rattle.std.proofs.Common.{◌≡◌, ℕ, true, false, Option, Some, None, Box, refl, sym, ap, subst, ◌∙◌}
use Rattle.std.specs.Option.{is_some}
use Rattle.std.specs.declared.alloc.Global.{Global}
use Rattle.cstar_base.specs.declared.elem.Elem.{Elem}
use Rattle.cstar_base.specs.declared.faults.Fault.TheVariants as Faults
use Rattle.cstar_base.specs.declared.operators.Place.{Place}
use Rattle.cstar_tree.specs.declared.syntax.Expr.{Expr}
use Rattle.cstar_tree.specs.declared.syntax.Expr as E
use Rattle.cstar_tree.specs.declared.syntax.Name.{Name}
use Rattle.cstar_tree.specs.declared.syntax.TypeName.{TypeName}
use Rattle.cstar_tree.specs.declared.typed.TExpr.{TExpr}
use Rattle.cstar_tree.specs.declared.typed.TExpr as T
use Rattle.cstar_tree.specs.declared.typed.ValueType.{ValueType}
use Rattle.cstar_tree.specs.declared.typed.Variable.{Variable}
use Rattle.cstar_tree.specs.Conversions.{IsSpread, int}
use Rattle.cstar_tree.specs.ExpressionFaults.{FaultAt, IsAway}
use Rattle.cstar_tree.specs.ExpressionFaults as F
use Rattle.cstar_tree.specs.ExpressionTypes.{IsVariable, Types}
use Rattle.cstar_tree.specs.ExpressionTypes as X
use Rattle.cstar_tree.specs.Headers.{Program}
use Rattle.cstar_tree.specs.Scopes.{Here, IsAtHand, part, written_type}
use Rattle.cstar_tree.specs.Typed.{type_of}
use Rattle.type_scopes.specs.Answers.{TellsAway}
use Rattle.type_scopes.specs.declared.faults.Untyped.{Untyped}
use Rattle.type_scopes.specs.declared.names.VariableType as Names
use Rattle.type_expressions.specs.Answers.{IsFault, IsFaultOrMemory}
use Rattle.type_scopes.specs.Bindings.{variable_type}
use Rattle.type_expressions.proofs.OnOperands.{or_memory, tells}

pub some_in : (shape : Option ℕ) → is_some shape ≡ true → (s : ℕ) × (shape ≡ Some s)
some_in None is = absurd (cc)
some_in (Some s) is = (s, refl)

pub none_in : (shape : Option ℕ) → is_some shape ≡ false → shape ≡ None
none_in None is = refl
none_in (Some s) is = absurd (cc)

pub dot_types : (elem : Elem) {program : Program} {here : Here} {p : Place} {shape : Option ℕ} {axis : ℕ} → elem ≡ int → here.current ≡ shape → here.dot ≡ Some axis → Types program here (E.Dot p) (T.Dot (record { elem = elem; shape = shape }) axis) true
dot_types elem elem_is current is = rw (elem_is, ← current) (X.dot is)

-- a value away from its shape, told of at a place that is this one
away_at : {program : Program} {here : Here} {e : Expr} {current shape : Option ℕ} {p q : Place} {u : Untyped} → here.current ≡ current → q ≡ p → (away : TellsAway current shape p u) → (IsAway here.current away.of away.fault → FaultAt program here e away.fault q) → IsFault program here e u
away_at {u = u} current place away stands =
    tells u (away.tells ∙ ap (λ (p : Place). Some (away.fault, p)) (sym place)) (stands (subst (λ (k : Option ℕ). IsAway k away.of away.fault) (sym current) away.away))

abbrev IsArray : Here → Name → Variable → Elem → Option ℕ → Option ℕ → Type 0
IsArray here n v elem shape array = IsVariable here n v (record { value = record { elem = elem; shape = shape }; array = array })

pub element_types : {program : Program} {here : Here} {n : Name} {p : Place} {v : Variable} {length : ℕ} (ty : Names.VariableType) (index : Box Expr Global) (x : Box TExpr Global) → IsVariable here n v (variable_type ty) → ty.array ≡ Some length → Types program (part here) index.value x.value true → (type_of x.value).shape ≡ None → IsAtHand here.current ty.shape → Types program here (E.Element n p index) (T.Element (record { elem = ty.elem; shape = ty.shape }) p v x) true
element_types {here = here} {n = n} {v = v} ty index x is array h scalar hand = X.element index x (subst (IsArray here n v ty.elem ty.shape) array is) h scalar hand

pub parallel_index : {program : Program} {here : Here} {n : Name} {p : Place} {v : Variable} {length : ℕ} {x : TExpr} (ty : Names.VariableType) (index : Box Expr Global) → IsVariable here n v (variable_type ty) → ty.array ≡ Some length → Types program (part here) index.value x true → is_some (type_of x).shape ≡ true → FaultAt program here (E.Element n p index) Faults.ScalarWanted p
parallel_index {here = here} {n = n} {v = v} {x = x} ty index is array h parallel = let s = some_in (type_of x).shape parallel in F.parallel_index index (subst (IsArray here n v ty.elem ty.shape) array is) h s.1

pub element_away : (program : Program) (here : Here) (n : Name) (p : Place) {q : Place} {v : Variable} {length : ℕ} {x : TExpr} {current : Option ℕ} {u : Untyped} (ty : Names.VariableType) (index : Box Expr Global) → IsVariable here n v (variable_type ty) → ty.array ≡ Some length → Types program (part here) index.value x true → (type_of x).shape ≡ None → here.current ≡ current → n.place ≡ q → TellsAway current ty.shape q u → IsFault program here (E.Element n p index) u
element_away program here n p {v = v} {length = length} ty index is array h scalar current place away =
    let of_shape = subst (λ (k : Option ℕ). IsArray here n v ty.elem k (Some length)) away.is_parallel (subst (IsArray here n v ty.elem ty.shape) array is) in
    away_at {program = program} {e = E.Element n p index} current place away (λ a. F.element_away index of_shape h scalar a)

pub cast_types : {program : Program} {here : Here} {p : Place} {written : TypeName} {ty : ValueType} {a : TExpr} {current : Option ℕ} (operand : Box Expr Global) (x : Box TExpr Global) → here.current ≡ current → written_type here written ≡ Some ty → IsAtHand current ty.shape → Types program (part here) operand.value a true → IsSpread a ty.shape x.value → Types program here (E.ParallelCast p written operand) (T.ParallelCast ty x) true
cast_types {ty = ty} operand x current is hand h spread = X.parallel_cast operand x is (subst (λ (k : Option ℕ). IsAtHand k ty.shape) (sym current) hand) h spread

pub cast_away : (program : Program) (here : Here) (p : Place) (written : TypeName) {a : TExpr} {current : Option ℕ} {u : Untyped} (ty : ValueType) (operand : Box Expr Global) → here.current ≡ current → written_type here written ≡ Some ty → Types program (part here) operand.value a true → TellsAway current ty.shape p u → IsFaultOrMemory program here (E.ParallelCast p written operand) u
cast_away program here p written {a = a} {u = u} ty operand current is h away =
    let of_shape = subst (λ (k : Option ℕ). written_type here written ≡ Some (record { elem = ty.elem; shape = k })) away.is_parallel is in
    or_memory program here (E.ParallelCast p written operand) u (away_at {program = program} {e = E.ParallelCast p written operand} current refl away (λ far. F.cast_away operand of_shape (a, h) far))
