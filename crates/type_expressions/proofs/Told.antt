-- What is recorded of an expression that has typed parts: its tree, or a fault that stands at it.
use Rattle.std.proofs.Common.{◌≡◌, inl, inr, Option, Some, None, Result, Ok, Err, Box, refl, subst, ◌∙◌}
use Rattle.std.specs.declared.alloc.Global.{Global}
use Rattle.cstar_base.specs.declared.operators.Place.{Place}
use Rattle.cstar_tree.specs.declared.syntax.AssignOp.{AssignOp}
use Rattle.cstar_tree.specs.declared.syntax.Expr.{Expr}
use Rattle.cstar_tree.specs.declared.syntax.Expr as E
use Rattle.cstar_tree.specs.declared.typed.TExpr.{TExpr}
use Rattle.cstar_tree.specs.Headers.{Program}
use Rattle.cstar_tree.specs.Scopes.{Here}
use Rattle.type_scopes.specs.Answers.{IsRecorded, IsSettled, part_of}
use Rattle.type_scopes.specs.declared.faults.Untyped.{Untyped}
use Rattle.type_scopes.specs.declared.faults.Untyped.TheVariants as N
use Rattle.type_scopes.specs.declared.sites.Site.{Site}
use Rattle.type_scopes.specs.declared.standing.Standing.{Standing}
use Rattle.type_expressions.specs.Answers.{CanSend, IsAnswerOrMemory, IsAssigned, IsFaultOrMemory, IsFound, IsOutcome, IsSending, IsTold}
use Rattle.type_expressions.specs.declared.found.TypedExpr.{TypedExpr}
use Rattle.type_expressions.proofs.OnOperands.{or_memory}

found : (program : Program) (here : Here) (e : Expr) (old new : Option Standing) (u : Untyped) → IsFaultOrMemory program here e u → IsRecorded old u new → IsFound program here e old new
found program here e old new (N.Fault standing) stands recorded = (standing, stands, recorded)
found program here e old new N.Faulty stands recorded = absurd stands
found program here e old new N.Memory stands recorded = absurd recorded

-- where nothing was recorded before it
pub told : (program : Program) (here : Here) (e : Expr) (old mid new : Option Standing) (typed : Result TExpr Untyped) (r : Option TypedExpr) → IsAnswerOrMemory program here e typed → IsOutcome typed mid new r → mid ≡ old → IsTold program here e old new r
told program here e old mid new (Ok t) None answer m same = absurd m
told program here e old mid new (Ok t) (Some b) answer m same = (rw (m.0, m.1) answer, m.2 ∙ same)
told program here e old mid new (Err u) (Some b) answer m same = absurd m
told program here e old mid new (Err u) None answer m same = found program here e old new u answer (subst (λ (k : Option Standing). IsRecorded k u new) same m)

-- a target that is settled is the one that was given, and nothing is recorded
pub sent : (op : AssignOp) (x : Box TExpr Global) (r : Result (Box TExpr Global) Untyped) (y : Box TExpr Global) {old new : Option Standing} → IsSending op x r → Some y ≡ part_of r → IsSettled old r new → (y ≡ x) × CanSend op x.value × (new ≡ old)
sent op x (Ok t) y is part settled = (let e : y ≡ t = cc in e ∙ is.0, is.1, settled)
sent op x (Err u) y is part settled = absurd (cc)

pub assigned_none : (site : Site) (p : Place) (op : AssignOp) (x : Box TExpr Global) (r : Result (Box TExpr Global) Untyped) (value target : Option (Box TExpr Global)) (old new : Option Standing) → IsSending op x r → target ≡ part_of r → IsSettled old r new → ((a b : Box TExpr Global) → target ≡ Some a → value ≡ Some b → ⊥) → IsAssigned site p op (Some x) value old new None
assigned_none site p op x (Ok t) None target old new is part settled never = λ program here e f h. inl (is.1, settled)
assigned_none site p op x (Ok t) (Some y) target old new is part settled never = absurd (never t y part refl)
assigned_none site p op x (Err u) None target old new is part settled never = λ program here e f h. inr (found program here (E.Assign p op e f) old new u (or_memory program here (E.Assign p op e f) u (is program here p e f h)) settled)
assigned_none site p op x (Err u) (Some y) target old new is part settled never = λ program here e f i h k. found program here (E.Assign p op e f) old new u (or_memory program here (E.Assign p op e f) u (is program here p e f h)) settled
