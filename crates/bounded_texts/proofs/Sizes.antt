-- The levels and the operators of lists of whole expressions, and of `if`, `where` and `for`.
use Rattle.std.proofs.Common.{◌≡◌, ℕ, ◌+◌, max, List, [], ◌∷◌, ◌++◌, map, Option, Some, None, Box, arith, sym, ap, ◌∙◌}
use Rattle.std.specs.declared.alloc.Global.{Global}
use Rattle.cstar_base.specs.declared.operators.Place.{Place}
use Rattle.cstar_tree.specs.declared.syntax.Expr.{Expr}
use Rattle.cstar_tree.specs.declared.syntax.Stmt.{Stmt}
use Rattle.cstar_tree.specs.declared.syntax.Stmt as S
use Rattle.cstar_tree.specs.declared.syntax.Stmt.TheFolds.{fold-roll-Stmt}
use Rattle.cstar_tree.specs.declared.syntax.Stmt.TheOpen.{Stmt-F}
use Rattle.cstar_tree.specs.declared.syntax.Stmt.TheVariants as rolled
use Rattle.cstar_tree.specs.Bounds.{among, block_step, in_statement, operators_in, statement_step}
use Rattle.cstar_tree.specs.Room.{greatest}
use Rattle.cstar_tree.specs.TypedParts.{concat, optional, total}
use Rattle.cstar_parser.specs.Fits.{operators_among}

-- ---- lists of expressions

pub greatest_one : (number : Expr → ℕ) (e : Expr) → among number (e ∷ []) ≡ number e
unfolding greatest
greatest_one number e = omega arith

pub total_one : (e : Expr) → operators_among (e ∷ []) ≡ operators_in e
unfolding total
total_one e = omega arith

pub among_both : (number : Expr → ℕ) (xs ys : List Expr) → among number (xs ++ ys) ≡ max (among number xs) (among number ys)
unfolding greatest
among_both number [] ys = omega arith
among_both number (x ∷ xs) ys = let h = among_both number xs ys in omega (arith, h)

pub among_more : {A : Type 0} (number : Expr → ℕ) (f : A → List Expr) (xs : List A) (x : A) → among number (concat (map f (xs ++ x ∷ []))) ≡ max (among number (concat (map f xs))) (among number (f x))
unfolding concat greatest
among_more number f [] x = let h = among_both number (f x) [] in omega (arith, h)
among_more number f (y ∷ ys) x =
    let h = among_more number f ys x in
    omega (arith, h, among_both number (f y) (concat (map f (ys ++ x ∷ []))), among_both number (f y) (concat (map f ys)))

pub among_first : {A : Type 0} (number : Expr → ℕ) (f : A → List Expr) (x : A) → among number (concat (map f (x ∷ []))) ≡ among number (f x)
unfolding concat greatest
among_first number f x = let h = among_both number (f x) [] in omega (arith, h)

-- ---- statements

pub if_alone_is : (p : Place) (e : Expr) (then : Box Stmt Global) (number : Expr → ℕ) (own : ℕ) → in_statement number own (S.If p e then None) ≡ own + max (among number (e ∷ [])) (in_statement number own then.value)
unfolding greatest
if_alone_is p e then number own = ap (in_statement number own) (sym (rolled.rolls-If p e then None)) ∙ fold-roll-Stmt ℕ ℕ (statement_step number own) (block_step number) (Stmt-F.If p e then None) ∙ omega arith

pub if_else_is : (p : Place) (e : Expr) (then otherwise : Box Stmt Global) (number : Expr → ℕ) (own : ℕ) → in_statement number own (S.If p e then (Some otherwise)) ≡ own + max (among number (e ∷ [])) (max (in_statement number own then.value) (in_statement number own otherwise.value))
unfolding greatest
if_else_is p e then otherwise number own = ap (in_statement number own) (sym (rolled.rolls-If p e then (Some otherwise))) ∙ fold-roll-Stmt ℕ ℕ (statement_step number own) (block_step number) (Stmt-F.If p e then (Some otherwise)) ∙ omega arith

pub where_alone_is : (p : Place) (e : Expr) (then : Box Stmt Global) (number : Expr → ℕ) (own : ℕ) → in_statement number own (S.Where p e then None) ≡ own + max (among number (e ∷ [])) (in_statement number own then.value)
unfolding greatest
where_alone_is p e then number own = ap (in_statement number own) (sym (rolled.rolls-Where p e then None)) ∙ fold-roll-Stmt ℕ ℕ (statement_step number own) (block_step number) (Stmt-F.Where p e then None) ∙ omega arith

pub where_else_is : (p : Place) (e : Expr) (then otherwise : Box Stmt Global) (number : Expr → ℕ) (own : ℕ) → in_statement number own (S.Where p e then (Some otherwise)) ≡ own + max (among number (e ∷ [])) (max (in_statement number own then.value) (in_statement number own otherwise.value))
unfolding greatest
where_else_is p e then otherwise number own = ap (in_statement number own) (sym (rolled.rolls-Where p e then (Some otherwise))) ∙ fold-roll-Stmt ℕ ℕ (statement_step number own) (block_step number) (Stmt-F.Where p e then (Some otherwise)) ∙ omega arith

pub for_is : (p : Place) (first test step : Option Expr) (body : Box Stmt Global) (number : Expr → ℕ) (own : ℕ) → in_statement number own (S.For p first test step body) ≡ own + max (among number (optional first ++ optional test ++ optional step)) (in_statement number own body.value)
unfolding greatest
for_is p first test step body number own = ap (in_statement number own) (sym (rolled.rolls-For p first test step body)) ∙ fold-roll-Stmt ℕ ℕ (statement_step number own) (block_step number) (Stmt-F.For p first test step body) ∙ omega arith
