-- The calls of a typed expression and of a typed statement, by its form.
use Rattle.std.proofs.Common.{◌≡◌, ℕ, Option, Some, None, List, [], ◌∷◌, ◌++◌, map, refl, sym, ap, ◌∙◌, Vec, Box, ◌⊎◌, inl, inr, append_assoc, append-nil}
use Rattle.std.specs.declared.alloc.Global.{Global}
use Rattle.cstar_base.specs.declared.operators.Place.{Place}
use Rattle.cstar_tree.specs.declared.syntax.AssignOp.{AssignOp}
use Rattle.cstar_tree.specs.declared.syntax.StepOp.{StepOp}
use Rattle.cstar_tree.specs.declared.typed.LocalVar.{LocalVar}
use Rattle.cstar_tree.specs.declared.typed.Piece.{Piece}
use Rattle.cstar_tree.specs.declared.typed.StepOrder.{StepOrder}
use Rattle.cstar_tree.specs.declared.typed.ValueType.{ValueType}
use Rattle.cstar_tree.specs.declared.typed.Variable.{Variable}
use Rattle.cstar_tree.specs.declared.typed.TExpr.{TExpr, map-TExpr, roll-TExpr}
use Rattle.cstar_tree.specs.declared.typed.TExpr as T
use Rattle.cstar_tree.specs.declared.typed.TExpr.TheFolds.{fold-roll-TExpr}
use Rattle.cstar_tree.specs.declared.typed.TExpr.TheOpen.{TExpr-F}
use Rattle.cstar_tree.specs.declared.typed.TExpr.TheVariants as rolled
use Rattle.cstar_tree.specs.declared.typed.TStmt.{TStmt, map-TStmt, roll-TStmt}
use Rattle.cstar_tree.specs.declared.typed.TStmt as S
use Rattle.cstar_tree.specs.declared.typed.TStmt.TheFolds.{fold-roll-TStmt}
use Rattle.cstar_tree.specs.declared.typed.TStmt.TheOpen.{TStmt-F}
use Rattle.cstar_tree.specs.declared.typed.TStmt.TheVariants as rolled_statement
use Rattle.cstar_tree.specs.TypedParts.{call_step, calls_in, calls_within, concat, optional, optional_box, statement_call_step}
use Rattle.shape_room.proofs.Rooms.{HasOperand, IsLeaf, IsPair}

-- ---- expressions

-- an expression that is rolled of a node has the calls of the node
by_node : (x : TExpr-F TExpr) {e : TExpr} → roll-TExpr x ≡ e → calls_in e ≡ call_step (map-TExpr TExpr (List ℕ) calls_in x)
by_node x is = ap calls_in (sym is) ∙ fold-roll-TExpr (List ℕ) call_step x

one : (xs : List ℕ) → concat (xs ∷ []) ≡ xs
unfolding concat
one xs = append-nil xs

two : (xs ys : List ℕ) → concat (xs ∷ ys ∷ []) ≡ xs ++ ys
unfolding concat
two xs ys = ap (λ (zs : List ℕ). xs ++ zs) (append-nil ys)

three : (xs ys zs : List ℕ) → concat (xs ∷ ys ∷ zs ∷ []) ≡ xs ++ (ys ++ zs)
unfolding concat
three xs ys zs = ap (λ (us : List ℕ). xs ++ (ys ++ us)) (append-nil zs)

pub pair_calls : (e : TExpr) (left right : Box TExpr Global) → IsPair e left right → calls_in e ≡ calls_in left.value ++ calls_in right.value
pair_calls e left right (inl (ty, is)) = by_node (TExpr-F.LogicalOr ty left right) (rolled.rolls-LogicalOr ty left right ∙ sym is) ∙ two (calls_in left.value) (calls_in right.value)
pair_calls e left right (inr (inl (ty, is))) = by_node (TExpr-F.LogicalAnd ty left right) (rolled.rolls-LogicalAnd ty left right ∙ sym is) ∙ two (calls_in left.value) (calls_in right.value)
pair_calls e left right (inr (inr (ty, place, op, is))) = by_node (TExpr-F.Binary ty place op left right) (rolled.rolls-Binary ty place op left right ∙ sym is) ∙ two (calls_in left.value) (calls_in right.value)

pub operand_calls : (e : TExpr) (operand : Box TExpr Global) → HasOperand e operand → calls_in e ≡ calls_in operand.value
operand_calls e operand (inl (ty, op, is)) = by_node (TExpr-F.Unary ty op operand) (rolled.rolls-Unary ty op operand ∙ sym is) ∙ one (calls_in operand.value)
operand_calls e operand (inr (inl (ty, op, is))) = by_node (TExpr-F.Reduce ty op operand) (rolled.rolls-Reduce ty op operand ∙ sym is) ∙ one (calls_in operand.value)
operand_calls e operand (inr (inr (inl (ty, elems, is)))) = by_node (TExpr-F.Casts ty elems operand) (rolled.rolls-Casts ty elems operand ∙ sym is) ∙ one (calls_in operand.value)
operand_calls e operand (inr (inr (inr (inl (ty, is))))) = by_node (TExpr-F.ParallelCast ty operand) (rolled.rolls-ParallelCast ty operand ∙ sym is) ∙ one (calls_in operand.value)
operand_calls e operand (inr (inr (inr (inr (inl (ty, is)))))) = by_node (TExpr-F.Convert ty operand) (rolled.rolls-Convert ty operand ∙ sym is) ∙ one (calls_in operand.value)
operand_calls e operand (inr (inr (inr (inr (inr (inl (ty, is))))))) = by_node (TExpr-F.Promote ty operand) (rolled.rolls-Promote ty operand ∙ sym is) ∙ one (calls_in operand.value)
operand_calls e operand (inr (inr (inr (inr (inr (inr (inl (ty, place, array, is)))))))) = by_node (TExpr-F.Element ty place array operand) (rolled.rolls-Element ty place array operand ∙ sym is) ∙ one (calls_in operand.value)
operand_calls e operand (inr (inr (inr (inr (inr (inr (inr (ty, axis, combiner, direction, mode, bit, inclusion, is)))))))) = by_node (TExpr-F.Scan ty operand axis combiner direction mode bit inclusion) (rolled.rolls-Scan ty operand axis combiner direction mode bit inclusion ∙ sym is) ∙ one (calls_in operand.value)

pub step_calls : (e : TExpr) (ty : ValueType) (op : StepOp) (order : StepOrder) (target : Box TExpr Global) → e ≡ T.Step ty op order target → calls_in e ≡ calls_in target.value
step_calls e ty op order target is = by_node (TExpr-F.Step ty op order target) (rolled.rolls-Step ty op order target ∙ sym is) ∙ one (calls_in target.value)

pub brackets_calls : (e : TExpr) (ty : ValueType) (inner : Box TExpr Global) → e ≡ T.Brackets ty inner → calls_in e ≡ calls_in inner.value
brackets_calls e ty inner is = by_node (TExpr-F.Brackets ty inner) (rolled.rolls-Brackets ty inner ∙ sym is) ∙ one (calls_in inner.value)

pub assign_calls : (e : TExpr) (ty : ValueType) (place : Place) (op : AssignOp) (target value : Box TExpr Global) → e ≡ T.Assign ty place op target value → calls_in e ≡ calls_in target.value ++ calls_in value.value
assign_calls e ty place op target value is = by_node (TExpr-F.Assign ty place op target value) (rolled.rolls-Assign ty place op target value ∙ sym is) ∙ two (calls_in target.value) (calls_in value.value)

pub choice_calls : (e : TExpr) (ty : ValueType) (test second third : Box TExpr Global) → e ≡ T.Choice ty test second third → calls_in e ≡ calls_in test.value ++ (calls_in second.value ++ calls_in third.value)
choice_calls e ty test second third is = by_node (TExpr-F.Choice ty test second third) (rolled.rolls-Choice ty test second third ∙ sym is) ∙ three (calls_in test.value) (calls_in second.value) (calls_in third.value)

abbrev IsList : TExpr → Vec TExpr Global → Type 0
IsList e parts = ((ty : ValueType) × (place : Place) × (variable : Variable) × (of : ℕ) × e ≡ T.LeftIndex ty place parts variable of) ⊎ ((ty : ValueType) × (pieces : Vec Piece Global) × e ≡ T.Printf ty pieces parts)

pub list_calls : (e : TExpr) (parts : Vec TExpr Global) → IsList e parts → calls_in e ≡ concat (map calls_in parts.items)
list_calls e parts (inl (ty, place, variable, of, is)) = by_node (TExpr-F.LeftIndex ty place parts variable of) (rolled.rolls-LeftIndex ty place parts variable of ∙ sym is)
list_calls e parts (inr (ty, pieces, is)) = by_node (TExpr-F.Printf ty pieces parts) (rolled.rolls-Printf ty pieces parts ∙ sym is)

-- a call is met behind its arguments
pub call_calls : (e : TExpr) (ty : ValueType) (instance : ℕ) (arguments : Vec TExpr Global) → e ≡ T.Call ty instance arguments → calls_in e ≡ concat (map calls_in arguments.items) ++ (instance ∷ [])
call_calls e ty instance arguments is = by_node (TExpr-F.Call ty instance arguments) (rolled.rolls-Call ty instance arguments ∙ sym is)

pub leaf_calls : (e : TExpr) → IsLeaf e → calls_in e ≡ []
unfolding concat
leaf_calls e (inl (ty, variable, is)) = by_node (TExpr-F.Variable ty variable) (rolled.rolls-Variable ty variable ∙ sym is)
leaf_calls e (inr (inl (ty, value, is))) = by_node (TExpr-F.Number ty value) (rolled.rolls-Number ty value ∙ sym is)
leaf_calls e (inr (inr (inl (ty, axis, is)))) = by_node (TExpr-F.Dot ty axis) (rolled.rolls-Dot ty axis ∙ sym is)
leaf_calls e (inr (inr (inr (inl (ty, axis, is))))) = by_node (TExpr-F.Pcoord ty axis) (rolled.rolls-Pcoord ty axis ∙ sym is)
leaf_calls e (inr (inr (inr (inr (inl (ty, of, value, is)))))) = by_node (TExpr-F.PositionsOf ty of value) (rolled.rolls-PositionsOf ty of value ∙ sym is)
leaf_calls e (inr (inr (inr (inr (inr (inl (ty, of, value, is))))))) = by_node (TExpr-F.RankOf ty of value) (rolled.rolls-RankOf ty of value ∙ sym is)
leaf_calls e (inr (inr (inr (inr (inr (inr (inl (ty, of, axis, value, is)))))))) = by_node (TExpr-F.DimOf ty of axis value) (rolled.rolls-DimOf ty of axis value ∙ sym is)
leaf_calls e (inr (inr (inr (inr (inr (inr (inr (inl (ty, axis, direction, inclusion, mode, bit, is))))))))) = by_node (TExpr-F.Enumerate ty axis direction inclusion mode bit) (rolled.rolls-Enumerate ty axis direction inclusion mode bit ∙ sym is)
leaf_calls e (inr (inr (inr (inr (inr (inr (inr (inr (ty, is))))))))) = by_node (TExpr-F.GetChar ty) (rolled.rolls-GetChar ty ∙ sym is)

-- ---- statements

statement_by : (x : TStmt-F TStmt) {s : TStmt} → roll-TStmt x ≡ s → calls_within s ≡ statement_call_step (map-TStmt TStmt (List ℕ) calls_within x)
statement_by x is = ap calls_within (sym is) ∙ fold-roll-TStmt (List ℕ) statement_call_step x

-- the calls of lists, one behind the other
pub calls_append : (xs ys : List TExpr) → concat (map calls_in (xs ++ ys)) ≡ concat (map calls_in xs) ++ concat (map calls_in ys)
unfolding concat
calls_append [] ys = refl
calls_append (x ∷ xs) ys = ap (λ (ns : List ℕ). calls_in x ++ ns) (calls_append xs ys) ∙ sym (append_assoc (calls_in x) (concat (map calls_in xs)) (concat (map calls_in ys)))

pub block_calls : (s : TStmt) (locals : Vec LocalVar Global) (statements : Vec TStmt Global) → s ≡ S.Block locals statements →
    calls_within s ≡ concat (map calls_in (concat (map (λ (l : LocalVar). optional l.initial) locals.items))) ++ concat (map calls_within statements.items)
block_calls s locals statements is = statement_by (TStmt-F.Block locals statements) (rolled_statement.rolls-Block locals statements ∙ sym is)

pub expression_calls : (s : TStmt) (e : TExpr) → s ≡ S.Expression e → calls_within s ≡ calls_in e
unfolding concat
expression_calls s e is = statement_by (TStmt-F.Expression e) (rolled_statement.rolls-Expression e ∙ sym is) ∙ append-nil (calls_in e ++ []) ∙ append-nil (calls_in e)

abbrev IsBranching : TStmt → TExpr → Box TStmt Global → Option (Box TStmt Global) → Type 0
IsBranching s test then otherwise = (s ≡ S.If test then otherwise) ⊎ ((current : ℕ) × s ≡ S.Where current test then otherwise)

pub branching_calls : (s : TStmt) (test : TExpr) (then : Box TStmt Global) (otherwise : Option (Box TStmt Global)) → IsBranching s test then otherwise →
    calls_within s ≡ calls_in test ++ (calls_within then.value ++ concat (map calls_within (optional_box otherwise)))
unfolding concat
branching_calls s test then None (inl is) = statement_by (TStmt-F.If test then None) (rolled_statement.rolls-If test then None ∙ sym is) ∙ ap (λ (ns : List ℕ). ns ++ (calls_within then.value ++ [])) (append-nil (calls_in test))
branching_calls s test then (Some b) (inl is) = statement_by (TStmt-F.If test then (Some b)) (rolled_statement.rolls-If test then (Some b) ∙ sym is) ∙ ap (λ (ns : List ℕ). ns ++ (calls_within then.value ++ (calls_within b.value ++ []))) (append-nil (calls_in test))
branching_calls s test then None (inr (current, is)) = statement_by (TStmt-F.Where current test then None) (rolled_statement.rolls-Where current test then None ∙ sym is) ∙ ap (λ (ns : List ℕ). ns ++ (calls_within then.value ++ [])) (append-nil (calls_in test))
branching_calls s test then (Some b) (inr (current, is)) = statement_by (TStmt-F.Where current test then (Some b)) (rolled_statement.rolls-Where current test then (Some b) ∙ sym is) ∙ ap (λ (ns : List ℕ). ns ++ (calls_within then.value ++ (calls_within b.value ++ []))) (append-nil (calls_in test))

pub loop_calls : (s : TStmt) (test : TExpr) (body : Box TStmt Global) → (s ≡ S.While test body) ⊎ (s ≡ S.Do body test) → calls_within s ≡ calls_in test ++ calls_within body.value
loop_calls s test body (inl is) = statement_by (TStmt-F.While test body) (rolled_statement.rolls-While test body ∙ sym is) ∙ ap (λ (ns : List ℕ). ns ++ concat (calls_within body.value ∷ [])) (one (calls_in test)) ∙ ap (λ (ns : List ℕ). calls_in test ++ ns) (one (calls_within body.value))
loop_calls s test body (inr is) = statement_by (TStmt-F.Do body test) (rolled_statement.rolls-Do body test ∙ sym is) ∙ ap (λ (ns : List ℕ). ns ++ concat (calls_within body.value ∷ [])) (one (calls_in test)) ∙ ap (λ (ns : List ℕ). calls_in test ++ ns) (one (calls_within body.value))

pub for_calls : (s : TStmt) (first test step : Option TExpr) (body : Box TStmt Global) → s ≡ S.For first test step body →
    calls_within s ≡ concat (map calls_in (optional first)) ++ (concat (map calls_in (optional test)) ++ (concat (map calls_in (optional step)) ++ calls_within body.value))
for_calls s first test step body is =
    let a = concat (map calls_in (optional first)) in
    let b = concat (map calls_in (optional test)) in
    let c = concat (map calls_in (optional step)) in
    let d = calls_within body.value in
    statement_by (TStmt-F.For first test step body) (rolled_statement.rolls-For first test step body ∙ sym is)
    ∙ ap (λ (ns : List ℕ). concat (map calls_in (optional first ++ optional test ++ optional step)) ++ ns) (one d)
    ∙ ap (λ (ns : List ℕ). ns ++ d) (calls_append (optional first ++ optional test) (optional step) ∙ ap (λ (ns : List ℕ). ns ++ c) (calls_append (optional first) (optional test)))
    ∙ append_assoc (a ++ b) c d ∙ append_assoc a b (c ++ d)

pub body_calls : (s : TStmt) (body : Box TStmt Global) → ((current : ℕ) × s ≡ S.With current body) ⊎ ((current : ℕ) × s ≡ S.Everywhere current body) → calls_within s ≡ calls_within body.value
unfolding concat
body_calls s body (inl (current, is)) = statement_by (TStmt-F.With current body) (rolled_statement.rolls-With current body ∙ sym is) ∙ append-nil (calls_within body.value)
body_calls s body (inr (current, is)) = statement_by (TStmt-F.Everywhere current body) (rolled_statement.rolls-Everywhere current body ∙ sym is) ∙ append-nil (calls_within body.value)

pub return_calls : (s : TStmt) (value : Option TExpr) → s ≡ S.Return value → calls_within s ≡ concat (map calls_in (optional value))
unfolding concat
return_calls s value is = statement_by (TStmt-F.Return value) (rolled_statement.rolls-Return value ∙ sym is) ∙ append-nil (concat (map calls_in (optional value)))

pub plain_calls : (s : TStmt) → (s ≡ S.Empty) ⊎ ((s ≡ S.Break) ⊎ (s ≡ S.Continue)) → calls_within s ≡ []
unfolding concat
plain_calls s (inl is) = statement_by TStmt-F.Empty (rolled_statement.rolls-Empty ∙ sym is)
plain_calls s (inr (inl is)) = statement_by TStmt-F.Break (rolled_statement.rolls-Break ∙ sym is)
plain_calls s (inr (inr is)) = statement_by TStmt-F.Continue (rolled_statement.rolls-Continue ∙ sym is)
