-- Expressions of no further kind.
use Rattle.std.proofs.Common.{◌≡◌, true, Option, Box, refl, sym, subst, ◌∙◌}
use Rattle.std.specs.declared.alloc.Global.{Global}
use Rattle.cstar_base.specs.declared.operators.Place.{Place}
use Rattle.cstar_tree.specs.declared.syntax.Expr.{Expr, out-Expr, roll-Expr, roll-out-Expr}
use Rattle.cstar_tree.specs.declared.syntax.Expr as E
use Rattle.cstar_tree.specs.declared.syntax.Expr.TheOpen.{Expr-F}
use Rattle.cstar_tree.specs.declared.syntax.Expr.TheVariants as rolled
use Rattle.cstar_tree.specs.declared.syntax.Name.{Name}
use Rattle.cstar_tree.specs.declared.syntax.TypeName.{TypeName}
use Rattle.cstar_tree.specs.declared.typed.TExpr.{TExpr}
use Rattle.cstar_tree.specs.Headers.{Program}
use Rattle.cstar_tree.specs.Scopes.{Here}
use Rattle.type_expressions.specs.Recorded.{HasList, HasOperands, IsOperator, has_source}
use Rattle.type_expressions.specs.Walks.{IsOperand}
use Rattle.type_expressions.proofs.NodeCalls.{NotAssign, NotBinary, NotCall, NotChoice, NotLeftIndex, NotPrintf, NotScan}

abbrev NotParallelCast : Expr → Type 0
NotParallelCast e = (p : Place) (written : TypeName) (operand : Box Expr Global) → e ≡ E.ParallelCast p written operand → ⊥

abbrev NotElement : Expr → Type 0
NotElement e = (n : Name) (bracket : Place) (index : Box Expr Global) → e ≡ E.Element n bracket index → ⊥

operand_of : (program : Program) (here : Here) (y : Box TExpr Global) (x : Expr-F Expr) (e : Expr) → roll-Expr x ≡ e → NotParallelCast e → NotElement e → IsOperand program here e y → IsOperator e
unfolding roll-Expr denote.Hole.Carrier.roll
operand_of program here y (Expr-F.ParallelCast p written operand) e is cast element = absurd (cast p written operand (sym is ∙ rolled.rolls-ParallelCast p written operand))
operand_of program here y (Expr-F.Element n bracket index) e is cast element = absurd (element n bracket index (sym is ∙ rolled.rolls-Element n bracket index))
operand_of program here y (Expr-F.Prefix p op operand) e is cast element = subst (λ (k : Expr). IsOperand program here k y → IsOperator k) is (λ h. tt)
operand_of program here y (Expr-F.Casts chain operand) e is cast element = subst (λ (k : Expr). IsOperand program here k y → IsOperator k) is (λ h. tt)
operand_of program here y (Expr-F.Postfix p op operand) e is cast element = subst (λ (k : Expr). IsOperand program here k y → IsOperator k) is (λ h. tt)
operand_of program here y x e is cast element = subst (λ (k : Expr). IsOperand program here k y → IsOperator k) is (λ h. absurd h)

pub an_operator : (program : Program) (here : Here) (y : Box TExpr Global) (e : Expr) → NotParallelCast e → NotElement e → IsOperand program here e y → IsOperator e
an_operator program here y e = operand_of program here y (out-Expr e) e (roll-out-Expr e)

operands_of : (x : Expr-F Expr) (e : Expr) → roll-Expr x ≡ e → NotAssign e → NotChoice e → NotBinary e → HasOperands e → ⊥
unfolding roll-Expr denote.Hole.Carrier.roll
operands_of (Expr-F.Assign p op target value) e is assign choice binary = absurd (assign p op target value (sym is ∙ rolled.rolls-Assign p op target value))
operands_of (Expr-F.Choice p test second third) e is assign choice binary = absurd (choice p test second third (sym is ∙ rolled.rolls-Choice p test second third))
operands_of (Expr-F.Binary p op left right) e is assign choice binary = absurd (binary p op left right (sym is ∙ rolled.rolls-Binary p op left right))
operands_of x e is assign choice binary = subst (λ (k : Expr). HasOperands k → ⊥) is (λ h. h)

pub without_operands : (e : Expr) → NotAssign e → NotChoice e → NotBinary e → HasOperands e → ⊥
without_operands e = operands_of (out-Expr e) e (roll-out-Expr e)

list_of : (x : Expr-F Expr) (e : Expr) → roll-Expr x ≡ e → NotCall e → NotPrintf e → NotLeftIndex e → HasList e → ⊥
unfolding roll-Expr denote.Hole.Carrier.roll
list_of (Expr-F.Call n arguments) e is call printf index = absurd (call n arguments (sym is ∙ rolled.rolls-Call n arguments))
list_of (Expr-F.Printf p text arguments) e is call printf index = absurd (printf p text arguments (sym is ∙ rolled.rolls-Printf p text arguments))
list_of (Expr-F.LeftIndex p indexes n) e is call printf index = absurd (index p indexes n (sym is ∙ rolled.rolls-LeftIndex p indexes n))
list_of x e is call printf index = subst (λ (k : Expr). HasList k → ⊥) is (λ h. h)

pub without_list : (e : Expr) → NotCall e → NotPrintf e → NotLeftIndex e → HasList e → ⊥
without_list e = list_of (out-Expr e) e (roll-out-Expr e)

source_of : (y : Option (Box TExpr Global)) (x : Expr-F Expr) (e : Expr) → roll-Expr x ≡ e → NotScan e → has_source e y ≡ true
unfolding roll-Expr denote.Hole.Carrier.roll
source_of y (Expr-F.Scan p source axis combiner direction mode bit inclusion) e is scan = absurd (scan p source axis combiner direction mode bit inclusion (sym is ∙ rolled.rolls-Scan p source axis combiner direction mode bit inclusion))
source_of y x e is scan = subst (λ (k : Expr). has_source k y ≡ true) is refl

pub sourceless : (y : Option (Box TExpr Global)) (e : Expr) → NotScan e → has_source e y ≡ true
sourceless y e = source_of y (out-Expr e) e (roll-out-Expr e)
