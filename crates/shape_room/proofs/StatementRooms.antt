-- The room of a statement, by its form.
use Rattle.std.proofs.Common.{◌≡◌, ℕ, ◌+◌, Option, Some, None, List, [], ◌∷◌, ◌++◌, map, max, sym, ap, ◌∙◌, Vec, Box, ◌⊎◌, inl, inr, arith}
use Rattle.std.specs.declared.alloc.Global.{Global}
use Rattle.cstar_tree.specs.declared.typed.LocalVar.{LocalVar}
use Rattle.cstar_tree.specs.declared.typed.TExpr.{TExpr}
use Rattle.cstar_tree.specs.declared.typed.TStmt.{TStmt, map-TStmt, roll-TStmt}
use Rattle.cstar_tree.specs.declared.typed.TStmt as T
use Rattle.cstar_tree.specs.declared.typed.TStmt.TheFolds.{fold-roll-TStmt}
use Rattle.cstar_tree.specs.declared.typed.TStmt.TheOpen.{TStmt-F}
use Rattle.cstar_tree.specs.declared.typed.TStmt.TheVariants.{rolls-Block, rolls-Break, rolls-Continue, rolls-Do, rolls-Empty, rolls-Everywhere, rolls-Expression, rolls-For, rolls-If, rolls-Return, rolls-Where, rolls-While, rolls-With}
use Rattle.cstar_tree.specs.Room.{bits_of, expression_room, greatest, of_shape, own_bits, statement_room, statement_step}
use Rattle.cstar_tree.specs.TypedParts.{concat, optional, optional_box, total}
use Rattle.shape_room.proofs.Counting.{of_current}

by_node : (shape : ℕ) (x : TStmt-F TStmt) {s : TStmt} → roll-TStmt x ≡ s → statement_room shape s ≡ statement_step shape (map-TStmt TStmt ℕ (statement_room shape) x)
unfolding statement_room
by_node shape x is = ap (statement_room shape) (sym is) ∙ fold-roll-TStmt ℕ (statement_step shape) x

-- the rooms of a condition and of the branches on it
abbrev pub branches : ℕ → TExpr → TStmt → Option (Box TStmt Global) → ℕ
branches shape test then otherwise = max (expression_room shape test) (greatest (map (statement_room shape) (then ∷ optional_box otherwise)))

pub branch_rooms : (shape : ℕ) (test : TExpr) (then : TStmt) (otherwise : Option (Box TStmt Global)) → max (max (expression_room shape test) (statement_room shape then)) (greatest (map (statement_room shape) (optional_box otherwise))) ≡ branches shape test then otherwise
unfolding greatest
branch_rooms shape test then otherwise = omega arith

pub block_room : (shape : ℕ) (s : TStmt) (locals : Vec LocalVar Global) (statements : Vec TStmt Global) → s ≡ T.Block locals statements →
    statement_room shape s ≡ total (map (λ (l : LocalVar). bits_of shape l.info) locals.items) + max (greatest (map (expression_room shape) (concat (map (λ (l : LocalVar). optional l.initial) locals.items)))) (greatest (map (statement_room shape) statements.items))
unfolding statement_step own_bits
block_room shape s locals statements is = by_node shape (TStmt-F.Block locals statements) (rolls-Block locals statements ∙ sym is)

-- what is alone is the greatest
one : (n : ℕ) → 0 + max (max n 0) 0 ≡ n
one n = omega arith

two : (a b : ℕ) → 0 + max (max a 0) (max b 0) ≡ max a b
two a b = omega arith

pub expression_statement : (shape : ℕ) (s : TStmt) (e : TExpr) → s ≡ T.Expression e → statement_room shape s ≡ expression_room shape e
unfolding statement_step own_bits greatest
expression_statement shape s e is = by_node shape (TStmt-F.Expression e) (rolls-Expression e ∙ sym is) ∙ one (expression_room shape e)

tested : (own a b : ℕ) → own + max (max a 0) b ≡ own + max a b
tested own a b = omega arith

nothing_more : (n : ℕ) → 0 + n ≡ n
nothing_more n = omega arith

pub if_room : (shape : ℕ) (s : TStmt) (test : TExpr) (then : Box TStmt Global) (otherwise : Option (Box TStmt Global)) → s ≡ T.If test then otherwise → statement_room shape s ≡ branches shape test then.value otherwise
unfolding statement_step own_bits greatest
if_room shape s test then None is = by_node shape (TStmt-F.If test then None) (rolls-If test then None ∙ sym is) ∙ tested 0 _ _ ∙ nothing_more _
if_room shape s test then (Some b) is = by_node shape (TStmt-F.If test then (Some b)) (rolls-If test then (Some b) ∙ sym is) ∙ tested 0 _ _ ∙ nothing_more _

pub where_room : (shape : ℕ) (s : TStmt) (current : ℕ) (test : TExpr) (then : Box TStmt Global) (otherwise : Option (Box TStmt Global)) → s ≡ T.Where current test then otherwise → statement_room shape s ≡ of_shape shape (Some current) 2 + branches shape test then.value otherwise
unfolding statement_step own_bits greatest
where_room shape s current test then None is = by_node shape (TStmt-F.Where current test then None) (rolls-Where current test then None ∙ sym is) ∙ tested _ _ _ ∙ ap (λ (n : ℕ). n + branches shape test then.value None) (of_current shape current 2)
where_room shape s current test then (Some b) is = by_node shape (TStmt-F.Where current test then (Some b)) (rolls-Where current test then (Some b) ∙ sym is) ∙ tested _ _ _ ∙ ap (λ (n : ℕ). n + branches shape test then.value (Some b)) (of_current shape current 2)

below : (own n : ℕ) → own + max 0 (max n 0) ≡ own + n
below own n = omega arith

pub everywhere_room : (shape : ℕ) (s : TStmt) (current : ℕ) (body : Box TStmt Global) → s ≡ T.Everywhere current body → statement_room shape s ≡ of_shape shape (Some current) 1 + statement_room shape body.value
unfolding statement_step own_bits greatest
everywhere_room shape s current body is = by_node shape (TStmt-F.Everywhere current body) (rolls-Everywhere current body ∙ sym is) ∙ below _ (statement_room shape body.value) ∙ ap (λ (n : ℕ). n + statement_room shape body.value) (of_current shape current 1)

pub with_room : (shape : ℕ) (s : TStmt) (current : ℕ) (body : Box TStmt Global) → s ≡ T.With current body → statement_room shape s ≡ statement_room shape body.value
unfolding statement_step own_bits greatest
with_room shape s current body is = by_node shape (TStmt-F.With current body) (rolls-With current body ∙ sym is) ∙ below 0 (statement_room shape body.value) ∙ nothing_more _

pub loop_room : (shape : ℕ) (s : TStmt) (test : TExpr) (body : Box TStmt Global) → (s ≡ T.While test body) ⊎ (s ≡ T.Do body test) → statement_room shape s ≡ max (expression_room shape test) (statement_room shape body.value)
unfolding statement_step own_bits greatest
loop_room shape s test body (inl is) = by_node shape (TStmt-F.While test body) (rolls-While test body ∙ sym is) ∙ two (expression_room shape test) (statement_room shape body.value)
loop_room shape s test body (inr is) = by_node shape (TStmt-F.Do body test) (rolls-Do body test ∙ sym is) ∙ two (expression_room shape test) (statement_room shape body.value)

-- the greatest room of lists, one behind the other
pub greatest_append : (shape : ℕ) (xs ys : List TExpr) → greatest (map (expression_room shape) (xs ++ ys)) ≡ max (greatest (map (expression_room shape) xs)) (greatest (map (expression_room shape) ys))
unfolding greatest
greatest_append shape [] ys = omega arith
greatest_append shape (x ∷ xs) ys = omega (arith, greatest_append shape xs ys)

alone : (n body : ℕ) → 0 + max n (max body 0) ≡ max n body
alone n body = omega arith

three : (shape : ℕ) (xs ys zs : List TExpr) (body : ℕ) → 0 + max (greatest (map (expression_room shape) (xs ++ ys ++ zs))) (max body 0) ≡ max (max (max (greatest (map (expression_room shape) xs)) (greatest (map (expression_room shape) ys))) (greatest (map (expression_room shape) zs))) body
three shape xs ys zs body =
    alone _ body
    ∙ ap (λ (n : ℕ). max n body) (greatest_append shape (xs ++ ys) zs ∙ ap (λ (n : ℕ). max n (greatest (map (expression_room shape) zs))) (greatest_append shape xs ys))

pub for_room : (shape : ℕ) (s : TStmt) (first test step : Option TExpr) (body : Box TStmt Global) → s ≡ T.For first test step body →
    statement_room shape s ≡ max (max (max (greatest (map (expression_room shape) (optional first))) (greatest (map (expression_room shape) (optional test)))) (greatest (map (expression_room shape) (optional step)))) (statement_room shape body.value)
unfolding statement_step own_bits greatest
for_room shape s first test step body is = by_node shape (TStmt-F.For first test step body) (rolls-For first test step body ∙ sym is) ∙ three shape (optional first) (optional test) (optional step) (statement_room shape body.value)

value_alone : (n : ℕ) → 0 + max n 0 ≡ n
value_alone n = omega arith

pub return_room : (shape : ℕ) (s : TStmt) (value : Option TExpr) → s ≡ T.Return value → statement_room shape s ≡ greatest (map (expression_room shape) (optional value))
unfolding statement_step own_bits greatest
return_room shape s value is = by_node shape (TStmt-F.Return value) (rolls-Return value ∙ sym is) ∙ value_alone (greatest (map (expression_room shape) (optional value)))

pub plain_room : (shape : ℕ) (s : TStmt) → (s ≡ T.Empty) ⊎ ((s ≡ T.Break) ⊎ (s ≡ T.Continue)) → statement_room shape s ≡ 0
unfolding statement_step own_bits greatest
plain_room shape s (inl is) = by_node shape TStmt-F.Empty (rolls-Empty ∙ sym is)
plain_room shape s (inr (inl is)) = by_node shape TStmt-F.Break (rolls-Break ∙ sym is)
plain_room shape s (inr (inr is)) = by_node shape TStmt-F.Continue (rolls-Continue ∙ sym is)
