-- Statements, declarations and items that fit into the bounds, from their parts.
use Rattle.std.proofs.Common.{◌≡◌, ℕ, ◌+◌, ◌≤◌, max, Bool, true, false, cond, List, [], ◌∷◌, ◌++◌, map, Option, Some, None, Vec, Box, append_assoc, arith, rules, sym, ap, ◌∙◌}
use Rattle.std.specs.declared.alloc.Global.{Global}
use Rattle.cstar_base.specs.declared.operators.Place.{Place}
use Rattle.cstar_tree.specs.declared.syntax.Block.{Block}
use Rattle.cstar_tree.specs.declared.syntax.Declaration.{Declaration}
use Rattle.cstar_tree.specs.declared.syntax.Expr.{Expr}
use Rattle.cstar_tree.specs.declared.syntax.Function.{Function}
use Rattle.cstar_tree.specs.declared.syntax.Item.{Item}
use Rattle.cstar_tree.specs.declared.syntax.Item.TheVariants as I
use Rattle.cstar_tree.specs.declared.syntax.ShapeDefinition.{ShapeDefinition}
use Rattle.cstar_tree.specs.declared.syntax.ShapeRef.{ShapeRef}
use Rattle.cstar_tree.specs.declared.syntax.Stmt.{Stmt}
use Rattle.cstar_tree.specs.declared.syntax.Stmt as S
use Rattle.cstar_tree.specs.declared.syntax.Stmt.TheFolds.{fold-roll-Stmt, fold_out-Block}
use Rattle.cstar_tree.specs.declared.syntax.Stmt.TheOpen.{Stmt-F}
use Rattle.cstar_tree.specs.declared.syntax.Stmt.TheVariants as rolled
use Rattle.cstar_tree.specs.declared.syntax.Tree.{Tree}
use Rattle.cstar_tree.specs.Bounds.{IsBounded, among, block_step, declaration_expressions, declared_expressions, in_block, in_item, in_statement, levels_in, operators_in, statement_step}
use Rattle.cstar_tree.specs.Room.{greatest}
use Rattle.cstar_tree.specs.TypedParts.{concat, optional}
use Rattle.cstar_parser.proofs.Fitting.{greatest_more}
use Rattle.cstar_parser.specs.declared.heads.BranchHead.{BranchHead}
use Rattle.cstar_parser.specs.declared.heads.ForHead.{ForHead}
use Rattle.cstar_parser.specs.Heads.{branch_of, loop_of, parts_of_head, unboxed_part}
use Rattle.cstar_parser.specs.Fits.{FitItems, FitStatements, FitWhole, FitsBlock, FitsItem, FitsStatement}

-- ---- lists of whole expressions

greatest_both : (f : Expr → ℕ) (xs ys : List Expr) → greatest (map f (xs ++ ys)) ≡ max (greatest (map f xs)) (greatest (map f ys))
unfolding greatest
greatest_both f [] ys = omega arith
greatest_both f (x ∷ xs) ys = let h = greatest_both f xs ys in omega (arith, h)

pub fit_none : {around : ℕ} → around ≤ 100 → FitWhole around []
unfolding greatest
fit_none low = record { deep = omega arith; few = omega arith }

pub fit_both : {around : ℕ} (xs ys : List Expr) → FitWhole around xs → FitWhole around ys → FitWhole around (xs ++ ys)
fit_both xs ys x y =
    let a = x.deep in
    let b = y.deep in
    let c = x.few in
    let d = y.few in
    record { deep = omega (arith, greatest_both levels_in xs ys); few = omega (arith, greatest_both operators_in xs ys) }

concat_more : {A : Type 0} (f : A → List Expr) (xs : List A) (x : A) → concat (map f (xs ++ x ∷ [])) ≡ concat (map f xs) ++ f x
unfolding concat
concat_more f [] x = search rules
concat_more f (y ∷ ys) x = ap (λ (l : List Expr). f y ++ l) (concat_more f ys x) ∙ sym (append_assoc (f y) (concat (map f ys)) (f x))

pub fit_more : {A : Type 0} {around : ℕ} (f : A → List Expr) (xs : List A) (x : A) → FitWhole around (concat (map f xs)) → FitWhole around (f x) → FitWhole around (concat (map f (xs ++ x ∷ [])))
fit_more f xs x before h = rw (concat_more f xs x) (fit_both (concat (map f xs)) (f x) before h)

pub fit_first : {A : Type 0} {around : ℕ} (f : A → List Expr) (x : A) → FitWhole around (f x) → FitWhole around (concat (map f (x ∷ [])))
unfolding concat
fit_first f x h = let a = h.deep in fit_both (f x) [] h (fit_none (omega arith))

pub fit_each_none : {A : Type 0} {around : ℕ} (f : A → List Expr) → around ≤ 100 → FitWhole around (concat (map f []))
unfolding concat
fit_each_none f low = fit_none low

-- ---- the number of a statement, from those of its parts

pub block_is : (block : Block) {s : Stmt} → s ≡ S.Block block → (number : Expr → ℕ) (own : ℕ) → in_statement number own s ≡ own + in_block number own block
block_is block is number own =
    ap (in_statement number own) is
    ∙ ap (in_statement number own) (sym (rolled.rolls-Block block))
    ∙ fold-roll-Stmt ℕ ℕ (statement_step number own) (block_step number) (Stmt-F.Block block)
    ∙ ap (λ n. own + n) (fold_out-Block ℕ ℕ (statement_step number own) (block_step number) block)

pub expression_is : {p : Place} {e : Expr} {s : Stmt} → s ≡ S.Expression p e → (number : Expr → ℕ) (own : ℕ) → in_statement number own s ≡ own + max (among number (e ∷ [])) (0)
unfolding greatest
expression_is {p = p} {e = e} is number own = ap (in_statement number own) is ∙ ap (in_statement number own) (sym (rolled.rolls-Expression p e)) ∙ fold-roll-Stmt ℕ ℕ (statement_step number own) (block_step number) (Stmt-F.Expression p e) ∙ omega arith

pub empty_is : {p : Place} {s : Stmt} → s ≡ S.Empty p → (number : Expr → ℕ) (own : ℕ) → in_statement number own s ≡ own + max (0) (0)
unfolding greatest
empty_is {p = p} is number own = ap (in_statement number own) is ∙ ap (in_statement number own) (sym (rolled.rolls-Empty p)) ∙ fold-roll-Stmt ℕ ℕ (statement_step number own) (block_step number) (Stmt-F.Empty p) ∙ omega arith

if_alone_is : {p : Place} {e : Expr} {then : Box Stmt Global} {s : Stmt} → s ≡ S.If p e then None → (number : Expr → ℕ) (own : ℕ) → in_statement number own s ≡ own + max (among number (e ∷ [])) (in_statement number own then.value)
unfolding greatest
if_alone_is {p = p} {e = e} {then = then} is number own = ap (in_statement number own) is ∙ ap (in_statement number own) (sym (rolled.rolls-If p e then None)) ∙ fold-roll-Stmt ℕ ℕ (statement_step number own) (block_step number) (Stmt-F.If p e then None) ∙ omega arith

pub if_alone_fits : {p : Place} {e : Expr} {then : Box Stmt Global} {s : Stmt} {around : ℕ} → s ≡ S.If p e then None → FitWhole around (e ∷ []) → FitsStatement (around + 1) then.value → FitsStatement around s
if_alone_fits is t x =
    let t1 = t.deep in let t2 = t.few in let x1 = x.deep in let x2 = x.few in
    record { deep = omega (arith, if_alone_is is levels_in 1); few = omega (arith, if_alone_is is operators_in 0) }

if_else_is : {p : Place} {e : Expr} {then : Box Stmt Global} {otherwise : Box Stmt Global} {s : Stmt} → s ≡ S.If p e then (Some otherwise) → (number : Expr → ℕ) (own : ℕ) → in_statement number own s ≡ own + max (among number (e ∷ [])) (max (in_statement number own then.value) (in_statement number own otherwise.value))
unfolding greatest
if_else_is {p = p} {e = e} {then = then} {otherwise = otherwise} is number own = ap (in_statement number own) is ∙ ap (in_statement number own) (sym (rolled.rolls-If p e then (Some otherwise))) ∙ fold-roll-Stmt ℕ ℕ (statement_step number own) (block_step number) (Stmt-F.If p e then (Some otherwise)) ∙ omega arith

pub if_else_fits : {p : Place} {e : Expr} {then : Box Stmt Global} {otherwise : Box Stmt Global} {s : Stmt} {around : ℕ} → s ≡ S.If p e then (Some otherwise) → FitWhole around (e ∷ []) → FitsStatement (around + 1) then.value → FitsStatement (around + 1) otherwise.value → FitsStatement around s
if_else_fits is t x y =
    let t1 = t.deep in let t2 = t.few in let x1 = x.deep in let x2 = x.few in let y1 = y.deep in let y2 = y.few in
    record { deep = omega (arith, if_else_is is levels_in 1); few = omega (arith, if_else_is is operators_in 0) }

where_alone_is : {p : Place} {e : Expr} {then : Box Stmt Global} {s : Stmt} → s ≡ S.Where p e then None → (number : Expr → ℕ) (own : ℕ) → in_statement number own s ≡ own + max (among number (e ∷ [])) (in_statement number own then.value)
unfolding greatest
where_alone_is {p = p} {e = e} {then = then} is number own = ap (in_statement number own) is ∙ ap (in_statement number own) (sym (rolled.rolls-Where p e then None)) ∙ fold-roll-Stmt ℕ ℕ (statement_step number own) (block_step number) (Stmt-F.Where p e then None) ∙ omega arith

pub where_alone_fits : {p : Place} {e : Expr} {then : Box Stmt Global} {s : Stmt} {around : ℕ} → s ≡ S.Where p e then None → FitWhole around (e ∷ []) → FitsStatement (around + 1) then.value → FitsStatement around s
where_alone_fits is t x =
    let t1 = t.deep in let t2 = t.few in let x1 = x.deep in let x2 = x.few in
    record { deep = omega (arith, where_alone_is is levels_in 1); few = omega (arith, where_alone_is is operators_in 0) }

where_else_is : {p : Place} {e : Expr} {then : Box Stmt Global} {otherwise : Box Stmt Global} {s : Stmt} → s ≡ S.Where p e then (Some otherwise) → (number : Expr → ℕ) (own : ℕ) → in_statement number own s ≡ own + max (among number (e ∷ [])) (max (in_statement number own then.value) (in_statement number own otherwise.value))
unfolding greatest
where_else_is {p = p} {e = e} {then = then} {otherwise = otherwise} is number own = ap (in_statement number own) is ∙ ap (in_statement number own) (sym (rolled.rolls-Where p e then (Some otherwise))) ∙ fold-roll-Stmt ℕ ℕ (statement_step number own) (block_step number) (Stmt-F.Where p e then (Some otherwise)) ∙ omega arith

pub where_else_fits : {p : Place} {e : Expr} {then : Box Stmt Global} {otherwise : Box Stmt Global} {s : Stmt} {around : ℕ} → s ≡ S.Where p e then (Some otherwise) → FitWhole around (e ∷ []) → FitsStatement (around + 1) then.value → FitsStatement (around + 1) otherwise.value → FitsStatement around s
where_else_fits is t x y =
    let t1 = t.deep in let t2 = t.few in let x1 = x.deep in let x2 = x.few in let y1 = y.deep in let y2 = y.few in
    record { deep = omega (arith, where_else_is is levels_in 1); few = omega (arith, where_else_is is operators_in 0) }

pub while_is : {p : Place} {e : Expr} {body : Box Stmt Global} {s : Stmt} → s ≡ S.While p e body → (number : Expr → ℕ) (own : ℕ) → in_statement number own s ≡ own + max (among number (e ∷ [])) (in_statement number own body.value)
unfolding greatest
while_is {p = p} {e = e} {body = body} is number own = ap (in_statement number own) is ∙ ap (in_statement number own) (sym (rolled.rolls-While p e body)) ∙ fold-roll-Stmt ℕ ℕ (statement_step number own) (block_step number) (Stmt-F.While p e body) ∙ omega arith

pub do_is : {p : Place} {body : Box Stmt Global} {e : Expr} {s : Stmt} → s ≡ S.Do p body e → (number : Expr → ℕ) (own : ℕ) → in_statement number own s ≡ own + max (among number (e ∷ [])) (in_statement number own body.value)
unfolding greatest
do_is {p = p} {body = body} {e = e} is number own = ap (in_statement number own) is ∙ ap (in_statement number own) (sym (rolled.rolls-Do p body e)) ∙ fold-roll-Stmt ℕ ℕ (statement_step number own) (block_step number) (Stmt-F.Do p body e) ∙ omega arith

for_is : {p : Place} {first : Option Expr} {test : Option Expr} {step : Option Expr} {body : Box Stmt Global} {s : Stmt} → s ≡ S.For p first test step body → (number : Expr → ℕ) (own : ℕ) → in_statement number own s ≡ own + max (among number (optional first ++ optional test ++ optional step)) (in_statement number own body.value)
unfolding greatest
for_is {p = p} {first = first} {test = test} {step = step} {body = body} is number own = ap (in_statement number own) is ∙ ap (in_statement number own) (sym (rolled.rolls-For p first test step body)) ∙ fold-roll-Stmt ℕ ℕ (statement_step number own) (block_step number) (Stmt-F.For p first test step body) ∙ omega arith

pub for_fits : {p : Place} {first : Option Expr} {test : Option Expr} {step : Option Expr} {body : Box Stmt Global} {s : Stmt} {around : ℕ} → s ≡ S.For p first test step body → FitWhole around (optional first ++ optional test ++ optional step) → FitsStatement (around + 1) body.value → FitsStatement around s
for_fits is t x =
    let t1 = t.deep in let t2 = t.few in let x1 = x.deep in let x2 = x.few in
    record { deep = omega (arith, for_is is levels_in 1); few = omega (arith, for_is is operators_in 0) }

pub break_is : {p : Place} {s : Stmt} → s ≡ S.Break p → (number : Expr → ℕ) (own : ℕ) → in_statement number own s ≡ own + max (0) (0)
unfolding greatest
break_is {p = p} is number own = ap (in_statement number own) is ∙ ap (in_statement number own) (sym (rolled.rolls-Break p)) ∙ fold-roll-Stmt ℕ ℕ (statement_step number own) (block_step number) (Stmt-F.Break p) ∙ omega arith

pub continue_is : {p : Place} {s : Stmt} → s ≡ S.Continue p → (number : Expr → ℕ) (own : ℕ) → in_statement number own s ≡ own + max (0) (0)
unfolding greatest
continue_is {p = p} is number own = ap (in_statement number own) is ∙ ap (in_statement number own) (sym (rolled.rolls-Continue p)) ∙ fold-roll-Stmt ℕ ℕ (statement_step number own) (block_step number) (Stmt-F.Continue p) ∙ omega arith

pub return_is : {p : Place} {value : Option Expr} {s : Stmt} → s ≡ S.Return p value → (number : Expr → ℕ) (own : ℕ) → in_statement number own s ≡ own + max (among number (optional value)) (0)
unfolding greatest
return_is {p = p} {value = value} is number own = ap (in_statement number own) is ∙ ap (in_statement number own) (sym (rolled.rolls-Return p value)) ∙ fold-roll-Stmt ℕ ℕ (statement_step number own) (block_step number) (Stmt-F.Return p value) ∙ omega arith

pub with_is : {p : Place} {shape : ShapeRef} {body : Box Stmt Global} {s : Stmt} → s ≡ S.With p shape body → (number : Expr → ℕ) (own : ℕ) → in_statement number own s ≡ own + max (0) (in_statement number own body.value)
unfolding greatest
with_is {p = p} {shape = shape} {body = body} is number own = ap (in_statement number own) is ∙ ap (in_statement number own) (sym (rolled.rolls-With p shape body)) ∙ fold-roll-Stmt ℕ ℕ (statement_step number own) (block_step number) (Stmt-F.With p shape body) ∙ omega arith

pub everywhere_is : {p : Place} {body : Box Stmt Global} {s : Stmt} → s ≡ S.Everywhere p body → (number : Expr → ℕ) (own : ℕ) → in_statement number own s ≡ own + max (0) (in_statement number own body.value)
unfolding greatest
everywhere_is {p = p} {body = body} is number own = ap (in_statement number own) is ∙ ap (in_statement number own) (sym (rolled.rolls-Everywhere p body)) ∙ fold-roll-Stmt ℕ ℕ (statement_step number own) (block_step number) (Stmt-F.Everywhere p body) ∙ omega arith

-- ---- heads with what stands under them

alone_by : {around : ℕ} (p : Place) (is_where : Bool) (test : Expr) (then : Box Stmt Global) {s : Stmt} → s ≡ cond is_where (S.Where p test then None) (S.If p test then None) → FitWhole around (test ∷ []) → FitsStatement (around + 1) then.value → FitsStatement around s
alone_by p true test then is t x = where_alone_fits is t x
alone_by p false test then is t x = if_alone_fits is t x

pub alone : {around : ℕ} (head : BranchHead) (then : Box Stmt Global) {s : Stmt} → s ≡ branch_of head then None → FitWhole around (head.test.value ∷ []) → FitsStatement (around + 1) then.value → FitsStatement around s
alone head then is t x = alone_by head.place head.is_where head.test.value then is t x

with_else_by : {around : ℕ} (p : Place) (is_where : Bool) (test : Expr) (then otherwise : Box Stmt Global) {s : Stmt} → s ≡ cond is_where (S.Where p test then (Some otherwise)) (S.If p test then (Some otherwise)) → FitWhole around (test ∷ []) → FitsStatement (around + 1) then.value → FitsStatement (around + 1) otherwise.value → FitsStatement around s
with_else_by p true test then otherwise is t x y = where_else_fits is t x y
with_else_by p false test then otherwise is t x y = if_else_fits is t x y

pub with_else : {around : ℕ} (head : BranchHead) (then otherwise : Box Stmt Global) {s : Stmt} → s ≡ branch_of head then (Some otherwise) → FitWhole around (head.test.value ∷ []) → FitsStatement (around + 1) then.value → FitsStatement (around + 1) otherwise.value → FitsStatement around s
with_else head then otherwise is t x y = with_else_by head.place head.is_where head.test.value then otherwise is t x y

pub head_fits : {around : ℕ} (head : ForHead) → FitWhole around (optional (unboxed_part head.first)) → FitWhole around (optional (unboxed_part head.test)) → FitWhole around (optional (unboxed_part head.step)) → FitWhole around (parts_of_head head)
head_fits head first test step = fit_both (optional (unboxed_part head.first) ++ optional (unboxed_part head.test)) (optional (unboxed_part head.step)) (fit_both (optional (unboxed_part head.first)) (optional (unboxed_part head.test)) first test) step

pub loop_fits : {around : ℕ} (head : ForHead) {body : Box Stmt Global} {s : Stmt} → s ≡ loop_of head body → FitWhole around (parts_of_head head) → FitsStatement (around + 1) body.value → FitsStatement around s
loop_fits head is t x = for_fits is t x

-- ---- blocks

pub no_statements : {around : ℕ} → around ≤ 100 → FitStatements around []
unfolding greatest
no_statements low = record { deep = omega arith; few = omega arith }

pub statements_more : {around : ℕ} (list : List Stmt) {s : Stmt} → FitStatements around list → FitsStatement (around + 1) s → FitStatements around (list ++ s ∷ [])
statements_more list {s = s} x y =
    let a = x.deep in
    let b = y.deep in
    let c = x.few in
    let d = y.few in
    record { deep = omega (arith, greatest_more (in_statement levels_in 1) list s); few = omega (arith, greatest_more (in_statement operators_in 0) list s) }

pub body_fits : {around : ℕ} (block : Block) → FitWhole around (declared_expressions block.declarations.items) → FitStatements around block.statements.items → FitsBlock around block
body_fits block x y =
    let a = x.deep in
    let b = y.deep in
    let c = x.few in
    let d = y.few in
    record { deep = omega arith; few = omega arith }

-- ---- items

pub shapes_fit : {p : Place} (shapes : Vec ShapeDefinition Global) → FitWhole 0 (concat (map (λ (s : ShapeDefinition). s.extents.items) shapes.items)) → FitsItem (I.Shapes p shapes)
unfolding in_item
shapes_fit shapes t = let a = t.deep in let b = t.few in record { deep = omega arith; few = b }

pub variables_fit : (d : Declaration) → FitWhole 0 (declaration_expressions d) → FitsItem (I.Variables d)
unfolding in_item
variables_fit d t = let a = t.deep in let b = t.few in record { deep = omega arith; few = b }

pub function_fits : (f : Function) → FitsBlock 0 f.body → FitsItem (I.Function f)
unfolding in_item
function_fits f t = let a = t.deep in let b = t.few in record { deep = omega arith; few = b }

pub no_items : FitItems []
unfolding greatest
no_items = record { deep = omega arith; few = omega arith }

pub items_more : (list : List Item) {item : Item} → FitItems list → FitsItem item → FitItems (list ++ item ∷ [])
items_more list {item = item} x y =
    let a = x.deep in
    let b = y.deep in
    let c = x.few in
    let d = y.few in
    record { deep = omega (arith, greatest_more (in_item levels_in 1) list item); few = omega (arith, greatest_more (in_item operators_in 0) list item) }

pub tree_bounded : {tree : Tree} → FitItems tree.items.items → IsBounded tree
tree_bounded f = record { levels = f.deep; operators = f.few }
