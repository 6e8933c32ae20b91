-- Expressions that fit into the bounds, from their parts.
use Rattle.std.proofs.Common.{◌≡◌, ℕ, ◌+◌, ◌<◌, ◌≤◌, max, List, [], ◌∷◌, ◌++◌, map, Option, Some, None, is_some, true, false, Vec, Box, arith, refl}
use Rattle.std.specs.declared.alloc.Global.{Global}
use Rattle.cstar_base.specs.declared.operators.Place.{Place}
use Rattle.cstar_tree.specs.declared.syntax.BinaryOp.{BinaryOp}
use Rattle.cstar_tree.specs.declared.syntax.Cast.{Cast}
use Rattle.cstar_tree.specs.declared.syntax.Expr.{Expr}
use Rattle.cstar_tree.specs.declared.syntax.Expr as E
use Rattle.cstar_tree.specs.declared.syntax.ShapeRef.{ShapeRef}
use Rattle.cstar_tree.specs.declared.syntax.TypeName.{TypeName}
use Rattle.cstar_tree.specs.Bounds.{levels_in, operators_in}
use Rattle.cstar_tree.specs.Room.{greatest}
use Rattle.cstar_tree.specs.TypedParts.{total}
use Rattle.cstar_parser.proofs.Sizes.{IsSized}
use Rattle.cstar_parser.proofs.Sizes as sizes
use Rattle.cstar_parser.specs.Fits.{FitParts, FitWhole, FitsPart, shape_operators}

-- a type has an operator where it has a shape
pub of_scalar : (shape : Option ShapeRef) → is_some shape ≡ false → shape_operators shape ≡ 0
of_scalar None none = refl
of_scalar (Some shape) none = absurd (cc)

pub of_parallel : (shape : Option ShapeRef) → is_some shape ≡ true → shape_operators shape ≡ 1
of_parallel None some = absurd (cc)
of_parallel (Some shape) some = refl

-- ---- lists, longer by one

pub greatest_more : {A : Type 0} (f : A → ℕ) (xs : List A) (x : A) → greatest (map f (xs ++ x ∷ [])) ≡ max (greatest (map f xs)) (f x)
unfolding greatest
greatest_more f [] x = omega arith
greatest_more f (y ∷ ys) x = let h = greatest_more f ys x in omega (arith, h)

pub total_more : {A : Type 0} (f : A → ℕ) (xs : List A) (x : A) → total (map f (xs ++ x ∷ [])) ≡ total (map f xs) + f x
unfolding total
total_more f [] x = omega arith
total_more f (y ∷ ys) x = let h = total_more f ys x in omega (arith, h)

pub no_parts : {around : ℕ} {list : List Expr} (a : ℕ) → list ≡ [] → around ≤ 100 → FitParts around list a a
unfolding greatest total
no_parts a is low = rw is (record { deep = omega arith; counted = omega arith })

pub one_part : {around a b : ℕ} {e : Expr} → FitsPart around e a b → FitParts around (e ∷ []) a b
unfolding greatest total
one_part f = let h = f.deep in let k = f.counted in record { deep = omega arith; counted = omega arith }

pub parts_more : {around a b c : ℕ} (list : List Expr) {e : Expr} → FitParts around list a b → FitsPart around e b c → FitParts around (list ++ e ∷ []) a c
parts_more list {e = e} x y =
    let h = x.deep in
    let k = y.deep in
    let m = x.counted in
    let n = y.counted in
    record { deep = omega (arith, greatest_more levels_in list e); counted = omega (arith, total_more operators_in list e) }

-- an expression whose operators are counted from 0
pub whole : {around b : ℕ} {e : Expr} → b ≤ 1000 → FitsPart around e 0 b → FitWhole around (e ∷ [])
unfolding greatest
whole few f = let h = f.deep in let n = f.counted in record { deep = omega arith; few = omega arith }

-- ---- operators behind and before an operand

fits : {e : Expr} {levels operators around a b : ℕ} → IsSized e levels operators → around + levels ≤ 100 → b ≡ a + operators → FitsPart around e a b
fits s deep counted = record { deep = rw s.deep deep; counted = rw s.many counted }

pub binary : {p : Place} {op : BinaryOp} {left right : Box Expr Global} {e : Expr} {around a b c d : ℕ} → e ≡ E.Binary p op left right → FitsPart around left.value a b → c ≡ b + 1 → FitsPart around right.value c d → FitsPart around e a d
binary is l o r = fits (sizes.binary is) (omega arith) (omega arith)

pub casts : {chain : Vec Cast Global} {operand : Box Expr Global} {e : Expr} {around a b : ℕ} → e ≡ E.Casts chain operand → around < 100 → FitsPart around operand.value a b → FitsPart around e a b
casts is low r = fits (sizes.casts is) (omega arith) (omega arith)

pub parallel_cast : {p : Place} {type_name : TypeName} {operand : Box Expr Global} {e : Expr} {around a b c : ℕ} → e ≡ E.ParallelCast p type_name operand → around < 100 → b ≡ a + 1 → FitsPart around operand.value b c → FitsPart around e a c
parallel_cast is low o r = fits (sizes.parallel_cast is) (omega arith) (omega arith)
