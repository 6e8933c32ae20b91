-- Each expression has a type, or a fault stands in it, or it rests on a faulty declaration.
use Rattle.std.proofs.Common.{List, [], ◌∷◌, map, Box, sym, subst}
use Rattle.std.specs.List.{All}
use Rattle.std.specs.declared.alloc.Global.{Global}
use Rattle.std.proofs.lemmas.List.Elements.{All-cons, All-nil}
use Rattle.cstar_tree.specs.declared.syntax.Expr.{Expr, roll-Expr}
use Rattle.cstar_tree.specs.declared.syntax.Expr as E
use Rattle.cstar_tree.specs.declared.syntax.Expr.TheFolds.{ind-Expr}
use Rattle.cstar_tree.specs.declared.syntax.Expr.TheOpen.{Expr-F}
use Rattle.cstar_tree.specs.declared.syntax.Expr.TheVariants as rolled
use Rattle.cstar_tree.specs.ExpressionTypes as X
use Rattle.cstar_tree.specs.Headers.{Program}
use Rattle.expression_outcomes.specs.Outcomes as O
use Rattle.expression_outcomes.proofs.Calls as Calls
use Rattle.expression_outcomes.proofs.Coming.{HasOutcome}
use Rattle.expression_outcomes.proofs.Intrinsics as Intrinsics
use Rattle.expression_outcomes.proofs.Naming as Naming
use Rattle.expression_outcomes.proofs.Operations as Operations

module _ (program : Program) where
  abbrev Part : Type 0
  Part = (e : Expr) × HasOutcome program e

  abbrev opened : Expr-F Part → Expr-F Expr
  opened y = E.map-Expr Part Expr (λ (part : Part). part.0) y

  abbrev box : Box Part Global → Box Expr Global
  box part = record { ptr = part.ptr; alloc = part.alloc; value = part.value.0 }

  each : (parts : List Part) → All (HasOutcome program) (map (λ (part : Part). part.0) parts)
  each [] = All-nil (HasOutcome program)
  each (part ∷ parts) = All-cons (HasOutcome program) part.0 (map (λ (part : Part). part.0) parts) part.1 (each parts)

  node : (y : Expr-F Part) → HasOutcome program (roll-Expr (opened y))
  node (Expr-F.Assign p op target value) = subst (HasOutcome program) (sym (rolled.rolls-Assign p op _ _)) (Operations.assign program p op (box target) (box value) target.value.1 value.value.1)
  node (Expr-F.Choice p test second third) = subst (HasOutcome program) (sym (rolled.rolls-Choice p _ _ _)) (Operations.choice program p (box test) (box second) (box third) test.value.1 second.value.1 third.value.1)
  node (Expr-F.Binary p op left right) = subst (HasOutcome program) (sym (rolled.rolls-Binary p op _ _)) (Operations.binary program p op (box left) (box right) left.value.1 right.value.1)
  node (Expr-F.Prefix p op operand) = subst (HasOutcome program) (sym (rolled.rolls-Prefix p op _)) (Operations.prefix program p op (box operand) operand.value.1)
  node (Expr-F.Casts chain operand) = subst (HasOutcome program) (sym (rolled.rolls-Casts chain _)) (Operations.casts program chain (box operand) operand.value.1)
  node (Expr-F.ParallelCast p written operand) = subst (HasOutcome program) (sym (rolled.rolls-ParallelCast p written _)) (Operations.parallel_cast program p written (box operand) operand.value.1)
  node (Expr-F.Postfix p op operand) = subst (HasOutcome program) (sym (rolled.rolls-Postfix p op _)) (Operations.postfix program p op (box operand) operand.value.1)
  node (Expr-F.Name n) = subst (HasOutcome program) (sym (rolled.rolls-Name n)) (Naming.name program n)
  node (Expr-F.Element n bracket index) = subst (HasOutcome program) (sym (rolled.rolls-Element n bracket _)) (Naming.element program n bracket (box index) index.value.1)
  node (Expr-F.Number p value u) = subst (HasOutcome program) (sym (rolled.rolls-Number p value u)) (λ here k i. O.typed X.number)
  node (Expr-F.Dot p) = subst (HasOutcome program) (sym (rolled.rolls-Dot p)) (Naming.dot program p)
  node (Expr-F.Brackets p inner) = subst (HasOutcome program) (sym (rolled.rolls-Brackets p _)) (Operations.brackets program p (box inner) inner.value.1)
  node (Expr-F.Call n arguments) = subst (HasOutcome program) (sym (rolled.rolls-Call n _)) (Calls.call program n _ (each arguments.items))
  node (Expr-F.LeftIndex p indexes n) = subst (HasOutcome program) (sym (rolled.rolls-LeftIndex p _ n)) (Naming.left_index program p _ n (each indexes.items))
  node (Expr-F.Pcoord p axis) = subst (HasOutcome program) (sym (rolled.rolls-Pcoord p _)) (Intrinsics.pcoord program p (box axis) axis.value.1)
  node (Expr-F.PositionsOf p written) = subst (HasOutcome program) (sym (rolled.rolls-PositionsOf p written)) (Naming.positions_of program p written)
  node (Expr-F.RankOf p written) = subst (HasOutcome program) (sym (rolled.rolls-RankOf p written)) (Naming.rank_of program p written)
  node (Expr-F.DimOf p written axis) = subst (HasOutcome program) (sym (rolled.rolls-DimOf p written _)) (Naming.dim_of program p written (box axis) axis.value.1)
  node (Expr-F.Scan p source axis combiner direction mode bit reach) = subst (HasOutcome program) (sym (rolled.rolls-Scan p _ _ combiner direction mode bit reach)) (Intrinsics.scan program p (box source) (box axis) combiner direction mode bit reach source.value.1 axis.value.1)
  node (Expr-F.Enumerate p axis direction reach mode bit) = subst (HasOutcome program) (sym (rolled.rolls-Enumerate p _ direction reach mode bit)) (Intrinsics.enumerate program p (box axis) direction reach mode bit axis.value.1)
  node (Expr-F.Printf p text arguments) = subst (HasOutcome program) (sym (rolled.rolls-Printf p text _)) (Naming.printf program p text _ (each arguments.items))
  node (Expr-F.GetChar p) = subst (HasOutcome program) (sym (rolled.rolls-GetChar p)) (λ here k i. O.typed X.getchar)

  pub expression : (e : Expr) → HasOutcome program e
  expression = ind-Expr (HasOutcome program) (λ x y is. subst (λ (z : Expr-F Expr). HasOutcome program (roll-Expr z)) is (node y))
