-- What is answered for an expression from its typed parts: the typed tree that it becomes, or a
-- fault that stands at it.
use Rattle.std.specs.Prelude.{◌≡◌, ℕ, ◌⊎◌, Bool, true, is_some, List, map, Option, Some, None, Result, Ok, Err, Box}
use Rattle.std.specs.declared.alloc.Global.{Global}
use Rattle.cstar_base.specs.declared.operators.Place.{Place}
use Rattle.cstar_tree.specs.declared.syntax.Expr.{Expr}
use Rattle.cstar_tree.specs.declared.syntax.Expr as E
use Rattle.cstar_tree.specs.declared.syntax.AssignOp.{AssignOp}
use Rattle.cstar_tree.specs.declared.syntax.PrefixOp.{PrefixOp}
use Rattle.cstar_tree.specs.declared.syntax.PrefixOp.TheVariants as P
use Rattle.cstar_tree.specs.declared.syntax.StepOp.{StepOp}
use Rattle.cstar_tree.specs.declared.typed.StepOrder.{StepOrder}
use Rattle.cstar_tree.specs.declared.typed.StepOrder.TheVariants as W
use Rattle.cstar_tree.specs.declared.typed.TExpr.{TExpr}
use Rattle.cstar_tree.specs.declared.typed.ShapeInfo.{ShapeInfo}
use Rattle.cstar_tree.specs.declared.typed.UnaryOp.{UnaryOp}
use Rattle.cstar_tree.specs.declared.typed.UnaryOp.TheVariants as U
use Rattle.cstar_tree.specs.ExpressionFaults.{FaultAt}
use Rattle.cstar_tree.specs.ExpressionTypes.{Types}
use Rattle.cstar_tree.specs.Headers.{Program}
use Rattle.cstar_tree.specs.Operations.{folds, many, sends, target_of}
use Rattle.cstar_tree.specs.Scopes.{Here, part}
use Rattle.cstar_tree.specs.Typed.{type_of}
use Rattle.type_expressions.specs.declared.found.TypedExpr.{TypedExpr}
use Rattle.type_scopes.specs.declared.faults.Untyped.{Untyped}
use Rattle.type_scopes.specs.declared.faults.Untyped.TheVariants as N
use Rattle.type_scopes.specs.declared.sites.Site.{Site}
use Rattle.type_scopes.specs.declared.standing.Standing.{Standing}
use Rattle.type_scopes.specs.Answers.{IsRecorded}

-- an expression that has no type though its parts have some: a fault stands at it
abbrev pub IsFault : Program → Here → Expr → Untyped → Type 0
IsFault program here e (N.Fault standing) = FaultAt program here e standing.fault standing.place
IsFault program here e N.Faulty = ⊥
IsFault program here e N.Memory = ⊥

abbrev pub IsAnswer : Program → Here → Expr → Result TExpr Untyped → Type 0
IsAnswer program here e (Ok t) = Types program here e t true
IsAnswer program here e (Err u) = IsFault program here e u

-- or memory is wanting, where the tree takes some
abbrev pub IsFaultOrMemory : Program → Here → Expr → Untyped → Type 0
IsFaultOrMemory program here e (N.Fault standing) = FaultAt program here e standing.fault standing.place
IsFaultOrMemory program here e N.Faulty = ⊥
IsFaultOrMemory program here e N.Memory = Unit {0}

abbrev pub IsAnswerOrMemory : Program → Here → Expr → Result TExpr Untyped → Type 0
IsAnswerOrMemory program here e (Ok t) = Types program here e t true
IsAnswerOrMemory program here e (Err u) = IsFaultOrMemory program here e u

-- the answer for an expression with one operand, which has become this tree, wherever it stands
abbrev pub WithOperand : TExpr → (Box Expr Global → Expr) → Result TExpr Untyped → Type 0
WithOperand x whole result = (program : Program) (here : Here) (operand : Box Expr Global) → Types program (part here) operand.value x true → IsAnswerOrMemory program here (whole operand) result

-- `++` or `--` before or behind its operand
abbrev pub step_of : StepOrder → Place → StepOp → Box Expr Global → Expr
step_of W.Prefix p op operand = E.Prefix p (P.Step op) operand
step_of W.Postfix p op operand = E.Postfix p op operand

-- the prefix operator that a node's operator is written as
abbrev pub written_as : UnaryOp → PrefixOp
written_as U.Plus = P.Plus
written_as U.Minus = P.Minus
written_as U.Complement = P.Complement
written_as U.Not = P.Not

-- brackets have a value where what stands in them has one
abbrev pub AreBrackets : Option TypedExpr → Option TypedExpr → Type 0
AreBrackets None None = Unit {0}
AreBrackets None (Some b) = ⊥
AreBrackets (Some i) None = ⊥
AreBrackets (Some i) (Some b) = (program : Program) (here : Here) (place : Place) (inner : Box Expr Global) → Types program here inner.value i.expr.value i.has_value → Types program here (E.Brackets place inner) b.expr.value b.has_value

-- the code's place is this one, as far as it tells: the names, the shapes and the count of locals
-- are those of the file and the function
pub record IsSite (site : Site) (here : Here) : Type 0 where
  pub current : here.current ≡ site.current
  pub around : here.around ≡ site.function
  pub dot : here.dot ≡ site.dot
  pub whole : here.whole ≡ site.whole

-- the answer for an expression, at whatever place the site is
abbrev pub AtSite : Site → Expr → Result TExpr Untyped → Type 0
AtSite site e result = (program : Program) (here : Here) → IsSite site here → IsAnswer program here e result

-- the operator sends where the target is one of many
abbrev pub CanSend : AssignOp → TExpr → Type 0
CanSend op t = (p : Place) → target_of t ≡ Some (many p) → sends op ≡ true

-- the target of an assignment, whatever its value is: as it is, or a fault stands at the assignment
abbrev pub IsSending : AssignOp → Box TExpr Global → Result (Box TExpr Global) Untyped → Type 0
IsSending op x (Ok t) = (t ≡ x) × CanSend op x.value
IsSending op x (Err u) = (program : Program) (here : Here) (p : Place) (target value : Box Expr Global) → Types program (part here) target.value x.value true → IsFault program here (E.Assign p op target value) u

-- a parallel value goes into a scalar target only by a fold
abbrev pub storable : AssignOp → Option ℕ → Option ℕ → Bool
storable op None (Some value) = folds op
storable op target value = true

-- what an expression with a value comes to, and the least fault then, from that before
abbrev pub IsOutcome : Result TExpr Untyped → Option Standing → Option Standing → Option TypedExpr → Type 0
IsOutcome (Ok t) old new (Some x) = (x.expr.value ≡ t) × (x.has_value ≡ true) × (new ≡ old)
IsOutcome (Ok t) old new None = ⊥
IsOutcome (Err u) old new (Some x) = ⊥
IsOutcome (Err u) old new None = IsRecorded old u new

-- an expression over two parts, where both have become these trees, and else nothing
abbrev pub OnBoth : Option (Box TExpr Global) → Option (Box TExpr Global) → (Box Expr Global → Box Expr Global → Expr) → Option TypedExpr → Type 0
OnBoth (Some x) (Some y) whole (Some t) = (program : Program) (here : Here) (a b : Box Expr Global) → Types program (part here) a.value x.value true → Types program (part here) b.value y.value true → Types program here (whole a b) t.expr.value t.has_value
OnBoth (Some x) (Some y) whole None = ⊥
OnBoth x y whole (Some t) = ⊥
OnBoth x y whole None = Unit {0}

-- an expression over three parts
abbrev pub OnThree : Option (Box TExpr Global) → Option (Box TExpr Global) → Option (Box TExpr Global) → (Box Expr Global → Box Expr Global → Box Expr Global → Expr) → Option TypedExpr → Type 0
OnThree (Some x) (Some y) (Some z) whole (Some t) = (program : Program) (here : Here) (a b c : Box Expr Global) → Types program (part here) a.value x.value true → Types program (part here) b.value y.value true → Types program (part here) c.value z.value true → Types program here (whole a b c) t.expr.value t.has_value
OnThree (Some x) (Some y) (Some z) whole None = ⊥
OnThree x y z whole (Some t) = ⊥
OnThree x y z whole None = Unit {0}

-- the trees in boxes
abbrev pub trees : List (Box TExpr Global) → List TExpr
trees boxes = map (λ (b : Box TExpr Global). b.value) boxes

abbrev pub is_parallel : Box TExpr Global → Bool
is_parallel b = is_some (type_of b.value).shape

-- the shapes of the file are those here
abbrev pub HasShapes : List ShapeInfo → Here → Type 0
HasShapes shapes here = here.shapes ≡ map (λ (s : ShapeInfo). s.extents.items) shapes

-- a fault that stands at an expression is recorded
abbrev pub IsFound : Program → Here → Expr → Option Standing → Option Standing → Type 0
IsFound program here e old new = (standing : Standing) × FaultAt program here e standing.fault standing.place × IsRecorded old (N.Fault standing) new

-- an expression over typed parts: its typed tree, or nothing, where a fault at it is recorded
abbrev pub IsTold : Program → Here → Expr → Option Standing → Option Standing → Option TypedExpr → Type 0
IsTold program here e old new (Some t) = Types program here e t.expr.value t.has_value × (new ≡ old)
IsTold program here e old new None = IsFound program here e old new

-- an assignment: of two typed sides, and of a typed target alone, which can have a fault
abbrev pub IsAssigned : Site → Place → AssignOp → Option (Box TExpr Global) → Option (Box TExpr Global) → Option Standing → Option Standing → Option TypedExpr → Type 0
IsAssigned site p op (Some x) (Some y) old new r = (program : Program) (here : Here) (t v : Box Expr Global) → IsSite site here → Types program (part here) t.value x.value true → Types program (part here) v.value y.value true → IsTold program here (E.Assign p op t v) old new r
IsAssigned site p op (Some x) None old new None = (program : Program) (here : Here) (t v : Box Expr Global) → Types program (part here) t.value x.value true → (CanSend op x.value × (new ≡ old)) ⊎ IsFound program here (E.Assign p op t v) old new
IsAssigned site p op None y old new None = new ≡ old
IsAssigned site p op x y old new (Some r) = ⊥
