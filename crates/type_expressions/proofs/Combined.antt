-- Operators over two and three typed operands: the trees that their expressions become.
use Rattle.std.proofs.Common.{true, Option, Some, None, Ok, Box, refl}
use Rattle.std.specs.declared.alloc.Global.{Global}
use Rattle.cstar_base.specs.declared.operators.Place.{Place}
use Rattle.cstar_tree.specs.declared.syntax.BinaryOp.{BinaryOp}
use Rattle.cstar_tree.specs.declared.syntax.Expr.{Expr}
use Rattle.cstar_tree.specs.declared.syntax.Expr as E
use Rattle.cstar_tree.specs.declared.typed.TExpr.{TExpr}
use Rattle.cstar_tree.specs.ExpressionTypes.{Types}
use Rattle.cstar_tree.specs.ExpressionTypes as X
use Rattle.cstar_tree.specs.Headers.{Program}
use Rattle.cstar_tree.specs.Scopes.{Here, part}
use Rattle.type_scopes.specs.declared.standing.Standing.{Standing}
use Rattle.typed_nodes.specs.Operators.{IsBinary, IsChoice}
use Rattle.typed_nodes.specs.Operators as O
use Rattle.type_expressions.specs.Answers.{IsOutcome, OnBoth, OnThree}
use Rattle.type_expressions.specs.declared.found.TypedExpr.{TypedExpr}

binary_types : {program : Program} {here : Here} {p : Place} {op : BinaryOp} {x : Box TExpr Global} {y t : TExpr} (a b : Box Expr Global) → IsBinary p x y t op → Types program (part here) a.value x.value true → Types program (part here) b.value y true → Types program here (E.Binary p op a b) t true
binary_types a b (O.numeric n) h k = rw n.node (X.operation a b n.x n.y h k refl n.left n.right)
binary_types {x = x} a b (O.logical_or y s node) h k = rw node (X.logical_or a b x y h k s)
binary_types {x = x} a b (O.logical_and y s node) h k = rw node (X.logical_and a b x y h k s)

pub on_both : (p : Place) (op : BinaryOp) (x y : Box TExpr Global) (t : TExpr) (old new : Option Standing) (r : Option TypedExpr) → IsBinary p x y.value t op → IsOutcome (Ok t) old new r → OnBoth (Some x) (Some y) (E.Binary p op) r
on_both p op x y t old new None is m = absurd m
on_both p op x y t old new (Some r) is m = λ program here a b h k. rw (m.0, m.1) (binary_types a b is h k)

pub on_three : (p : Place) (x y z : Box TExpr Global) (t : TExpr) (old new : Option Standing) (r : Option TypedExpr) → IsChoice x y.value z.value t → IsOutcome (Ok t) old new r → OnThree (Some x) (Some y) (Some z) (E.Choice p) r
on_three p x y z t old new None is m = absurd m
on_three p x y z t old new (Some r) is m = λ program here a b c h k l. rw (m.0, m.1, is.node) (X.choice a b c x is.x is.y h k l refl is.second is.third)
