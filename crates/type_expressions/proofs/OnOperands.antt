-- Operators on typed operands: the trees that their expressions become, and the faults at them.
use Rattle.std.proofs.Common.{◌≡◌, ℕ, Bool, true, List, Option, Some, None, Result, Ok, Err, Box, Vec, refl, sym, ap, subst, ◌∙◌}
use Rattle.std.specs.declared.alloc.Global.{Global}
use Rattle.cstar_base.specs.declared.faults.Fault.{Fault}
use Rattle.cstar_base.specs.declared.operators.Place.{Place}
use Rattle.cstar_tree.specs.declared.syntax.Cast.{Cast}
use Rattle.cstar_tree.specs.declared.syntax.Expr.{Expr}
use Rattle.cstar_tree.specs.declared.syntax.Expr as E
use Rattle.cstar_tree.specs.declared.syntax.PrefixOp.{PrefixOp}
use Rattle.cstar_tree.specs.declared.syntax.PrefixOp.TheVariants as P
use Rattle.cstar_tree.specs.declared.syntax.ReduceOp.{ReduceOp}
use Rattle.cstar_tree.specs.declared.syntax.StepOp.{StepOp}
use Rattle.cstar_tree.specs.declared.typed.StepOrder.{StepOrder}
use Rattle.cstar_tree.specs.declared.typed.StepOrder.TheVariants as W
use Rattle.cstar_tree.specs.declared.typed.TExpr.{TExpr}
use Rattle.cstar_tree.specs.declared.typed.TExpr as T
use Rattle.cstar_tree.specs.declared.typed.UnaryOp.{UnaryOp}
use Rattle.cstar_tree.specs.declared.typed.UnaryOp.TheVariants as U
use Rattle.cstar_tree.specs.declared.typed.ValueType.{ValueType}
use Rattle.cstar_tree.specs.ExpressionFaults.{FaultAt, IsStep, last_place}
use Rattle.cstar_tree.specs.ExpressionFaults as F
use Rattle.cstar_tree.specs.ExpressionTypes.{Types}
use Rattle.cstar_tree.specs.ExpressionTypes as X
use Rattle.cstar_tree.specs.Headers.{Program}
use Rattle.cstar_tree.specs.Operations.{Target, one, target_of}
use Rattle.cstar_tree.specs.Scopes.{Here, part}
use Rattle.cstar_tree.specs.Typed.{type_of}
use Rattle.type_scopes.specs.Answers.{told_by}
use Rattle.type_scopes.specs.declared.faults.Untyped.{Untyped}
use Rattle.type_scopes.specs.declared.faults.Untyped.TheVariants as N
use Rattle.typed_nodes.specs.Operators.{IsCastChain, IsReduction, IsUnary}
use Rattle.type_expressions.specs.Answers.{IsAnswer, IsAnswerOrMemory, IsFault, IsFaultOrMemory, step_of, written_as}

abbrev at_told : Program → Here → Expr → Option (Fault × Place) → Type 0
at_told program here e None = Unit {0}
at_told program here e (Some q) = FaultAt program here e q.0 q.1

-- the fault that an answer tells stands
pub tells : {program : Program} {here : Here} {e : Expr} (u : Untyped) {fault : Fault} {p : Place} → told_by u ≡ Some (fault, p) → FaultAt program here e fault p → IsFault program here e u
tells {program} {here} {e} (N.Fault standing) is h = subst (at_told program here e) (sym is) h
tells N.Faulty is h = absurd (cc)
tells N.Memory is h = absurd (cc)

pub or_memory : (program : Program) (here : Here) (e : Expr) (u : Untyped) → IsFault program here e u → IsFaultOrMemory program here e u
or_memory program here e (N.Fault standing) h = h
or_memory program here e N.Faulty h = h
or_memory program here e N.Memory h = tt

pub tells_or_memory : {program : Program} {here : Here} {e : Expr} (u : Untyped) {fault : Fault} {p : Place} → told_by u ≡ Some (fault, p) → FaultAt program here e fault p → IsFaultOrMemory program here e u
tells_or_memory {program} {here} {e} u is h = or_memory program here e u (tells u is h)

pub unary_types : (op : UnaryOp) {program : Program} {here : Here} (p : Place) (x : Box TExpr Global) (t : TExpr) (operand : Box Expr Global) → IsUnary op x t → Types program (part here) operand.value x.value true → Types program here (E.Prefix p (written_as op) operand) t true
unary_types U.Not p x t operand is h = rw is (X.logical_not operand x h)
unary_types U.Plus p x t operand s h = rw s.node (X.signed operand s.x refl h s.operand)
unary_types U.Minus p x t operand s h = rw s.node (X.signed operand s.x refl h s.operand)
unary_types U.Complement p x t operand s h = rw s.node (X.signed operand s.x refl h s.operand)

pub reduction_types : {program : Program} {here : Here} {p : Place} {op : ReduceOp} {x t : TExpr} {shape : ℕ} (operand : Box Expr Global) → IsReduction op x t → (type_of x).shape ≡ Some shape → Types program (part here) operand.value x true → Types program here (E.Prefix p (P.Reduce op) operand) t true
reduction_types operand r parallel h = rw r.node (X.reduction operand r.x h parallel r.operand)

pub step_types : (order : StepOrder) (p : Place) (op : StepOp) {program : Program} {here : Here} (x : Box TExpr Global) (operand : Box Expr Global) → target_of x.value ≡ Some one → Types program (part here) operand.value x.value true → Types program here (step_of order p op operand) (T.Step (type_of x.value) op order x) true
step_types W.Prefix p op x operand is h = X.step_before operand x h is
step_types W.Postfix p op x operand is h = X.step_behind operand x h is

pub is_step : (order : StepOrder) (p : Place) (op : StepOp) (operand : Box Expr Global) → IsStep p operand.value (step_of order p op operand)
is_step W.Prefix p op operand = F.before operand
is_step W.Postfix p op operand = F.behind operand

pub cast_types : {program : Program} {here : Here} {casts : List Cast} (chain : Vec Cast Global) (x : Box TExpr Global) {t : TExpr} (operand : Box Expr Global) → chain.items ≡ casts → IsCastChain casts x t → (type_of x.value).shape ≡ None → Types program (part here) operand.value x.value true → Types program here (E.Casts chain operand) t true
cast_types chain x {t} operand is c scalar h =
    let of_chain = subst (λ (cs : List Cast). IsCastChain cs x t) (sym is) c in
    rw of_chain.node (X.casts chain operand of_chain.elems x h scalar of_chain.listed)

-- what a call answers of a part behind a pointer
pub shape_is : (t : TExpr) {u : TExpr} {ty : ValueType} {shape : Option ℕ} → ty ≡ type_of u → u ≡ t → ty.shape ≡ shape → (type_of t).shape ≡ shape
shape_is t ty_is u_is is = ap (λ (v : ValueType). v.shape) (sym (ty_is ∙ ap type_of u_is)) ∙ is

pub target_is : (t : TExpr) {u : TExpr} {target : Option Target} → target ≡ target_of u → u ≡ t → target_of t ≡ target
target_is t is u_is = sym (is ∙ ap target_of u_is)

pub answer_or_memory : (program : Program) (here : Here) (e : Expr) (r : Result TExpr Untyped) → IsAnswer program here e r → IsAnswerOrMemory program here e r
answer_or_memory program here e (Ok t) h = h
answer_or_memory program here e (Err u) h = or_memory program here e u h

pub of_prefix : {op written : PrefixOp} (p : Place) (program : Program) (here : Here) (operand : Box Expr Global) (r : Result TExpr Untyped) → op ≡ written → IsAnswerOrMemory program here (E.Prefix p written operand) r → IsAnswerOrMemory program here (E.Prefix p op operand) r
of_prefix p program here operand r is h = subst (λ (o : PrefixOp). IsAnswerOrMemory program here (E.Prefix p o operand) r) (sym is) h

pub bracket_types : {program : Program} {here : Here} {p : Place} {t u : TExpr} {ty : ValueType} {b : Bool} (inner : Box Expr Global) (x : Box TExpr Global) → t ≡ T.Brackets ty x → ty ≡ type_of u → u ≡ x.value → Types program here inner.value x.value b → Types program here (E.Brackets p inner) t b
bracket_types {ty = ty} inner x is ty_is u_is h = rw (is, ty_is, u_is) (X.brackets inner x h)

pub innermost_is : {casts chain : List Cast} {place otherwise of : Place} → place ≡ last_place casts otherwise → chain ≡ casts → of ≡ otherwise → place ≡ last_place chain of
innermost_is is chain_is of_is = rw (chain_is, of_is) is
