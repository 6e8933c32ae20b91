-- The calls of an expression, by its node.
use Rattle.std.proofs.Common.{◌≡◌, ◌⊎◌, inl, inr, ℕ, Bool, true, List, [], ◌∷◌, ◌++◌, append-nil, Option, Some, None, Box, Vec, refl, sym, ap, ◌∙◌}
use Rattle.std.proofs.Math.Path.{fun_ext}
use Rattle.std.specs.declared.alloc.Global.{Global}
use Rattle.cstar_base.specs.declared.operators.Combiner.{Combiner}
use Rattle.cstar_base.specs.declared.operators.Direction.{Direction}
use Rattle.cstar_base.specs.declared.operators.Inclusion.{Inclusion}
use Rattle.cstar_base.specs.declared.operators.Place.{Place}
use Rattle.cstar_base.specs.declared.operators.SegmentMode.{SegmentMode}
use Rattle.cstar_tree.specs.declared.syntax.AssignOp.{AssignOp}
use Rattle.cstar_tree.specs.declared.syntax.BinaryOp.{BinaryOp}
use Rattle.cstar_tree.specs.declared.syntax.Cast.{Cast}
use Rattle.cstar_tree.specs.declared.syntax.Expr.{Expr, map-Expr, out-Expr, out-roll-Expr, roll-Expr, roll-out-Expr}
use Rattle.cstar_tree.specs.declared.syntax.Expr as E
use Rattle.cstar_tree.specs.declared.syntax.Expr.TheFolds.{fold-Expr, fold-roll-Expr}
use Rattle.cstar_tree.specs.declared.syntax.Expr.TheOpen.{Expr-F}
use Rattle.cstar_tree.specs.declared.syntax.Expr.TheVariants as rolled
use Rattle.cstar_tree.specs.declared.syntax.Name.{Name}
use Rattle.cstar_tree.specs.declared.syntax.PrefixOp.{PrefixOp}
use Rattle.cstar_tree.specs.declared.syntax.ShapeRef.{ShapeRef}
use Rattle.cstar_tree.specs.declared.syntax.StepOp.{StepOp}
use Rattle.cstar_tree.specs.declared.syntax.TypeName.{TypeName}
use Rattle.cstar_tree.specs.Calls.{Call, call_of, call_step, calls_in, calls_in_each}
use Rattle.cstar_tree.specs.Scopes.{Here, Meaning, a_function, a_shape, a_variable, meaning}
use Rattle.cstar_tree.specs.TypedParts.{concat}
use Rattle.type_expressions.specs.Meetings.{list_calls, node_at, of_list, of_name, of_operands, of_source, operand_calls, own_calls, source_calls}

-- the node of an expression that is rolled of one, and its calls
at_node : (here : Here) (x : Expr-F Expr) {e : Expr} → roll-Expr x ≡ e → node_at here e ≡ map-Expr Expr (List Call) (calls_in here) x
at_node here x is = ap (λ (y : Expr-F Expr). map-Expr Expr (List Call) (calls_in here) y) (ap out-Expr (sym is) ∙ out-roll-Expr x)

pub by_node : (here : Here) (x : Expr-F Expr) {e : Expr} → roll-Expr x ≡ e → calls_in here e ≡ call_step here (map-Expr Expr (List Call) (calls_in here) x)
by_node here x is = ap (calls_in here) (sym is) ∙ fold-roll-Expr (List Call) (call_step here) x

none : concat {A = Call} [] ≡ []
unfolding concat
none = refl

one : (xs : List Call) → concat (xs ∷ []) ≡ xs
unfolding concat
one xs = append-nil xs

two : (xs ys : List Call) → concat (xs ∷ ys ∷ []) ≡ xs ++ ys
unfolding concat
two xs ys = ap (λ (l : List Call). xs ++ l) (append-nil ys)

three : (xs ys zs : List Call) → concat (xs ∷ ys ∷ zs ∷ []) ≡ xs ++ (ys ++ zs)
unfolding concat
three xs ys zs = ap (λ (l : List Call). xs ++ (ys ++ l)) (append-nil zs)

-- ---- one operand

pub calls_of_brackets : (here : Here) {e : Expr} (p : Place) (inner : Box Expr Global) → e ≡ E.Brackets p inner → calls_in here e ≡ calls_in here inner.value
calls_of_brackets here p inner is = by_node here (Expr-F.Brackets p inner) (rolled.rolls-Brackets p inner ∙ sym is) ∙ one (calls_in here inner.value)

abbrev pub HasOperand : Expr → Box Expr Global → Type 0
HasOperand e operand =
    ((p : Place) × (op : PrefixOp) × (e ≡ E.Prefix p op operand))
    ⊎ (((casts : Vec Cast Global) × (e ≡ E.Casts casts operand))
    ⊎ (((p : Place) × (written : TypeName) × (e ≡ E.ParallelCast p written operand))
    ⊎ (((p : Place) × (op : StepOp) × (e ≡ E.Postfix p op operand))
    ⊎ ((n : Name) × (p : Place) × (e ≡ E.Element n p operand)))))

pub calls_of_operand : (here : Here) {e : Expr} (operand : Box Expr Global) → HasOperand e operand → calls_in here e ≡ calls_in here operand.value
calls_of_operand here operand (inl (p, op, is)) = by_node here (Expr-F.Prefix p op operand) (rolled.rolls-Prefix p op operand ∙ sym is) ∙ one (calls_in here operand.value)
calls_of_operand here operand (inr (inl (casts, is))) = by_node here (Expr-F.Casts casts operand) (rolled.rolls-Casts casts operand ∙ sym is) ∙ one (calls_in here operand.value)
calls_of_operand here operand (inr (inr (inl (p, written, is)))) = by_node here (Expr-F.ParallelCast p written operand) (rolled.rolls-ParallelCast p written operand ∙ sym is) ∙ one (calls_in here operand.value)
calls_of_operand here operand (inr (inr (inr (inl (p, op, is))))) = by_node here (Expr-F.Postfix p op operand) (rolled.rolls-Postfix p op operand ∙ sym is) ∙ one (calls_in here operand.value)
calls_of_operand here operand (inr (inr (inr (inr (n, p, is))))) = by_node here (Expr-F.Element n p operand) (rolled.rolls-Element n p operand ∙ sym is) ∙ one (calls_in here operand.value)

-- ---- two or three operands

abbrev pub HasOperands : Expr → Type 0
HasOperands e =
    ((p : Place) × (op : AssignOp) × (target : Box Expr Global) × (value : Box Expr Global) × (e ≡ E.Assign p op target value))
    ⊎ (((p : Place) × (test : Box Expr Global) × (second : Box Expr Global) × (third : Box Expr Global) × (e ≡ E.Choice p test second third))
    ⊎ ((p : Place) × (op : BinaryOp) × (left : Box Expr Global) × (right : Box Expr Global) × (e ≡ E.Binary p op left right)))

pub operands_of_assign : (here : Here) {e : Expr} (p : Place) (op : AssignOp) (target value : Box Expr Global) → e ≡ E.Assign p op target value → operand_calls here e ≡ calls_in here target.value ++ calls_in here value.value
operands_of_assign here p op target value is = ap of_operands (at_node here (Expr-F.Assign p op target value) (rolled.rolls-Assign p op target value ∙ sym is))

pub operands_of_choice : (here : Here) {e : Expr} (p : Place) (test second third : Box Expr Global) → e ≡ E.Choice p test second third → operand_calls here e ≡ calls_in here test.value ++ (calls_in here second.value ++ calls_in here third.value)
operands_of_choice here p test second third is = ap of_operands (at_node here (Expr-F.Choice p test second third) (rolled.rolls-Choice p test second third ∙ sym is))

pub operands_of_binary : (here : Here) {e : Expr} (p : Place) (op : BinaryOp) (left right : Box Expr Global) → e ≡ E.Binary p op left right → operand_calls here e ≡ calls_in here left.value ++ calls_in here right.value
operands_of_binary here p op left right is = ap of_operands (at_node here (Expr-F.Binary p op left right) (rolled.rolls-Binary p op left right ∙ sym is))

pub calls_of_operands : (here : Here) {e : Expr} → HasOperands e → calls_in here e ≡ operand_calls here e
calls_of_operands here (inl (p, op, target, value, is)) = by_node here (Expr-F.Assign p op target value) (rolled.rolls-Assign p op target value ∙ sym is) ∙ (two (calls_in here target.value) (calls_in here value.value) ∙ sym (operands_of_assign here p op target value is))
calls_of_operands here (inr (inl (p, test, second, third, is))) = by_node here (Expr-F.Choice p test second third) (rolled.rolls-Choice p test second third ∙ sym is) ∙ (three (calls_in here test.value) (calls_in here second.value) (calls_in here third.value) ∙ sym (operands_of_choice here p test second third is))
calls_of_operands here (inr (inr (p, op, left, right, is))) = by_node here (Expr-F.Binary p op left right) (rolled.rolls-Binary p op left right ∙ sym is) ∙ (two (calls_in here left.value) (calls_in here right.value) ∙ sym (operands_of_binary here p op left right is))

-- ---- an axis, and the source of a scan before it

abbrev pub HasAxis : Expr → Box Expr Global → Type 0
HasAxis e axis =
    ((p : Place) × (e ≡ E.Pcoord p axis))
    ⊎ (((p : Place) × (shape : ShapeRef) × (e ≡ E.DimOf p shape axis))
    ⊎ (((p : Place) × (source : Box Expr Global) × (combiner : Combiner) × (direction : Direction) × (mode : SegmentMode) × (bit : Option Name) × (inclusion : Inclusion) × (e ≡ E.Scan p source axis combiner direction mode bit inclusion))
    ⊎ ((p : Place) × (direction : Direction) × (inclusion : Inclusion) × (mode : SegmentMode) × (bit : Option Name) × (e ≡ E.Enumerate p axis direction inclusion mode bit))))

-- the calls of the source, and others behind them
sourced : (here : Here) (x : Expr-F Expr) {e : Expr} (calls : List Call) → roll-Expr x ≡ e → of_source (map-Expr Expr (List Call) (calls_in here) x) ++ calls ≡ source_calls here e ++ calls
sourced here x calls is = sym (ap (λ (y : Expr-F (List Call)). of_source y ++ calls) (at_node here x is))

pub source_of_scan : (here : Here) {e : Expr} (p : Place) (source axis : Box Expr Global) (combiner : Combiner) (direction : Direction) (mode : SegmentMode) (bit : Option Name) (inclusion : Inclusion) → e ≡ E.Scan p source axis combiner direction mode bit inclusion → source_calls here e ≡ calls_in here source.value
source_of_scan here p source axis combiner direction mode bit inclusion is = ap of_source (at_node here (Expr-F.Scan p source axis combiner direction mode bit inclusion) (rolled.rolls-Scan p source axis combiner direction mode bit inclusion ∙ sym is))

pub calls_of_axis : (here : Here) {e : Expr} (axis : Box Expr Global) → HasAxis e axis → calls_in here e ≡ source_calls here e ++ calls_in here axis.value
calls_of_axis here axis (inl (p, is)) =
    let rolls = rolled.rolls-Pcoord p axis ∙ sym is in
    by_node here (Expr-F.Pcoord p axis) rolls ∙ (one (calls_in here axis.value) ∙ sourced here (Expr-F.Pcoord p axis) (calls_in here axis.value) rolls)
calls_of_axis here axis (inr (inl (p, shape, is))) =
    let rolls = rolled.rolls-DimOf p shape axis ∙ sym is in
    by_node here (Expr-F.DimOf p shape axis) rolls ∙ (one (calls_in here axis.value) ∙ sourced here (Expr-F.DimOf p shape axis) (calls_in here axis.value) rolls)
calls_of_axis here axis (inr (inr (inl (p, source, combiner, direction, mode, bit, inclusion, is)))) =
    let rolls = rolled.rolls-Scan p source axis combiner direction mode bit inclusion ∙ sym is in
    by_node here (Expr-F.Scan p source axis combiner direction mode bit inclusion) rolls ∙ (two (calls_in here source.value) (calls_in here axis.value) ∙ sourced here (Expr-F.Scan p source axis combiner direction mode bit inclusion) (calls_in here axis.value) rolls)
calls_of_axis here axis (inr (inr (inr (p, direction, inclusion, mode, bit, is)))) =
    let rolls = rolled.rolls-Enumerate p axis direction inclusion mode bit ∙ sym is in
    by_node here (Expr-F.Enumerate p axis direction inclusion mode bit) rolls ∙ (one (calls_in here axis.value) ∙ sourced here (Expr-F.Enumerate p axis direction inclusion mode bit) (calls_in here axis.value) rolls)

-- ---- a list of parts

abbrev pub HasList : Expr → Type 0
HasList e =
    ((n : Name) × (arguments : Vec Expr Global) × (e ≡ E.Call n arguments))
    ⊎ (((p : Place) × (text : List ℕ) × (arguments : Vec Expr Global) × (e ≡ E.Printf p text arguments))
    ⊎ ((p : Place) × (indexes : Vec Expr Global) × (n : Name) × (e ≡ E.LeftIndex p indexes n)))

pub list_of_call : (here : Here) {e : Expr} (n : Name) (arguments : Vec Expr Global) → e ≡ E.Call n arguments → list_calls here e ≡ calls_in_each here arguments.items
list_of_call here n arguments is = ap of_list (at_node here (Expr-F.Call n arguments) (rolled.rolls-Call n arguments ∙ sym is))

pub list_of_printf : (here : Here) {e : Expr} (p : Place) (text : List ℕ) (arguments : Vec Expr Global) → e ≡ E.Printf p text arguments → list_calls here e ≡ calls_in_each here arguments.items
list_of_printf here p text arguments is = ap of_list (at_node here (Expr-F.Printf p text arguments) (rolled.rolls-Printf p text arguments ∙ sym is))

pub list_of_index : (here : Here) {e : Expr} (p : Place) (indexes : Vec Expr Global) (n : Name) → e ≡ E.LeftIndex p indexes n → list_calls here e ≡ calls_in_each here indexes.items
list_of_index here p indexes n is = ap of_list (at_node here (Expr-F.LeftIndex p indexes n) (rolled.rolls-LeftIndex p indexes n ∙ sym is))

pub own_of_call : (here : Here) {e : Expr} (n : Name) (arguments : Vec Expr Global) → e ≡ E.Call n arguments → own_calls here e ≡ call_of here (meaning here n.word)
own_of_call here n arguments is = ap (of_name here) (at_node here (Expr-F.Call n arguments) (rolled.rolls-Call n arguments ∙ sym is))

pub own_of_printf : (here : Here) {e : Expr} (p : Place) (text : List ℕ) (arguments : Vec Expr Global) → e ≡ E.Printf p text arguments → own_calls here e ≡ []
own_of_printf here p text arguments is = ap (of_name here) (at_node here (Expr-F.Printf p text arguments) (rolled.rolls-Printf p text arguments ∙ sym is))

pub own_of_index : (here : Here) {e : Expr} (p : Place) (indexes : Vec Expr Global) (n : Name) → e ≡ E.LeftIndex p indexes n → own_calls here e ≡ []
own_of_index here p indexes n is = ap (of_name here) (at_node here (Expr-F.LeftIndex p indexes n) (rolled.rolls-LeftIndex p indexes n ∙ sym is))

-- the calls of the parts, where nothing is behind them
alone : {xs ys zs : List Call} → ys ≡ xs → zs ≡ [] → xs ≡ ys ++ zs
alone {xs = xs} {ys = ys} is none = sym (ap (λ (l : List Call). ys ++ l) none ∙ (append-nil ys ∙ is))

pub calls_of_list : (here : Here) {e : Expr} → HasList e → calls_in here e ≡ list_calls here e ++ own_calls here e
calls_of_list here (inl (n, arguments, is)) =
    let rolls = rolled.rolls-Call n arguments ∙ sym is in
    by_node here (Expr-F.Call n arguments) rolls ∙ sym (ap (λ (y : Expr-F (List Call)). of_list y ++ of_name here y) (at_node here (Expr-F.Call n arguments) rolls))
calls_of_list here (inr (inl (p, text, arguments, is))) =
    by_node here (Expr-F.Printf p text arguments) (rolled.rolls-Printf p text arguments ∙ sym is) ∙ alone (list_of_printf here p text arguments is) (own_of_printf here p text arguments is)
calls_of_list here (inr (inr (p, indexes, n, is))) =
    by_node here (Expr-F.LeftIndex p indexes n) (rolled.rolls-LeftIndex p indexes n ∙ sym is) ∙ alone (list_of_index here p indexes n is) (own_of_index here p indexes n is)

-- ---- no parts

abbrev pub IsLeaf : Expr → Type 0
IsLeaf e =
    ((n : Name) × (e ≡ E.Name n))
    ⊎ (((p : Place) × (value : ℕ) × (unsigned : Bool) × (e ≡ E.Number p value unsigned))
    ⊎ (((p : Place) × (e ≡ E.Dot p))
    ⊎ (((p : Place) × (shape : ShapeRef) × (e ≡ E.PositionsOf p shape))
    ⊎ (((p : Place) × (shape : ShapeRef) × (e ≡ E.RankOf p shape))
    ⊎ ((p : Place) × (e ≡ E.GetChar p))))))

pub calls_of_leaf : (here : Here) {e : Expr} → IsLeaf e → calls_in here e ≡ []
calls_of_leaf here (inl (n, is)) = by_node here (Expr-F.Name n) (rolled.rolls-Name n ∙ sym is) ∙ none
calls_of_leaf here (inr (inl (p, value, unsigned, is))) = by_node here (Expr-F.Number p value unsigned) (rolled.rolls-Number p value unsigned ∙ sym is) ∙ none
calls_of_leaf here (inr (inr (inl (p, is)))) = by_node here (Expr-F.Dot p) (rolled.rolls-Dot p ∙ sym is) ∙ none
calls_of_leaf here (inr (inr (inr (inl (p, shape, is))))) = by_node here (Expr-F.PositionsOf p shape) (rolled.rolls-PositionsOf p shape ∙ sym is) ∙ none
calls_of_leaf here (inr (inr (inr (inr (inl (p, shape, is)))))) = by_node here (Expr-F.RankOf p shape) (rolled.rolls-RankOf p shape ∙ sym is) ∙ none
calls_of_leaf here (inr (inr (inr (inr (inr (p, is)))))) = by_node here (Expr-F.GetChar p) (rolled.rolls-GetChar p ∙ sym is) ∙ none

-- ---- other expressions

abbrev pub NotAssign : Expr → Type 0
NotAssign e = (p : Place) (op : AssignOp) (target value : Box Expr Global) → e ≡ E.Assign p op target value → ⊥

abbrev pub NotChoice : Expr → Type 0
NotChoice e = (p : Place) (test second third : Box Expr Global) → e ≡ E.Choice p test second third → ⊥

abbrev pub NotBinary : Expr → Type 0
NotBinary e = (p : Place) (op : BinaryOp) (left right : Box Expr Global) → e ≡ E.Binary p op left right → ⊥

abbrev pub NotScan : Expr → Type 0
NotScan e = (p : Place) (source axis : Box Expr Global) (combiner : Combiner) (direction : Direction) (mode : SegmentMode) (bit : Option Name) (inclusion : Inclusion) → e ≡ E.Scan p source axis combiner direction mode bit inclusion → ⊥

abbrev pub NotCall : Expr → Type 0
NotCall e = (n : Name) (arguments : Vec Expr Global) → e ≡ E.Call n arguments → ⊥

abbrev pub NotPrintf : Expr → Type 0
NotPrintf e = (p : Place) (text : List ℕ) (arguments : Vec Expr Global) → e ≡ E.Printf p text arguments → ⊥

abbrev pub NotLeftIndex : Expr → Type 0
NotLeftIndex e = (p : Place) (indexes : Vec Expr Global) (n : Name) → e ≡ E.LeftIndex p indexes n → ⊥

other_operands : (here : Here) (x : Expr-F Expr) (e : Expr) → roll-Expr x ≡ e → NotAssign e → NotChoice e → NotBinary e → operand_calls here e ≡ []
other_operands here (Expr-F.Assign p op target value) e is assign choice binary = absurd (assign p op target value (sym is ∙ rolled.rolls-Assign p op target value))
other_operands here (Expr-F.Choice p test second third) e is assign choice binary = absurd (choice p test second third (sym is ∙ rolled.rolls-Choice p test second third))
other_operands here (Expr-F.Binary p op left right) e is assign choice binary = absurd (binary p op left right (sym is ∙ rolled.rolls-Binary p op left right))
other_operands here x e is assign choice binary = ap of_operands (at_node here x is)

pub no_operands : (here : Here) (e : Expr) → NotAssign e → NotChoice e → NotBinary e → operand_calls here e ≡ []
no_operands here e = other_operands here (out-Expr e) e (roll-out-Expr e)

other_source : (here : Here) (x : Expr-F Expr) (e : Expr) → roll-Expr x ≡ e → NotScan e → source_calls here e ≡ []
other_source here (Expr-F.Scan p source axis combiner direction mode bit inclusion) e is scan = absurd (scan p source axis combiner direction mode bit inclusion (sym is ∙ rolled.rolls-Scan p source axis combiner direction mode bit inclusion))
other_source here x e is scan = ap of_source (at_node here x is)

pub no_source : (here : Here) (e : Expr) → NotScan e → source_calls here e ≡ []
no_source here e = other_source here (out-Expr e) e (roll-out-Expr e)

other_list : (here : Here) (x : Expr-F Expr) (e : Expr) → roll-Expr x ≡ e → NotCall e → NotPrintf e → NotLeftIndex e → list_calls here e ≡ []
other_list here (Expr-F.Call n arguments) e is call printf index = absurd (call n arguments (sym is ∙ rolled.rolls-Call n arguments))
other_list here (Expr-F.Printf p text arguments) e is call printf index = absurd (printf p text arguments (sym is ∙ rolled.rolls-Printf p text arguments))
other_list here (Expr-F.LeftIndex p indexes n) e is call printf index = absurd (index p indexes n (sym is ∙ rolled.rolls-LeftIndex p indexes n))
other_list here x e is call printf index = ap of_list (at_node here x is)

pub no_list : (here : Here) (e : Expr) → NotCall e → NotPrintf e → NotLeftIndex e → list_calls here e ≡ []
no_list here e = other_list here (out-Expr e) e (roll-out-Expr e)

other_own : (here : Here) (x : Expr-F Expr) (e : Expr) → roll-Expr x ≡ e → NotCall e → own_calls here e ≡ []
other_own here (Expr-F.Call n arguments) e is call = absurd (call n arguments (sym is ∙ rolled.rolls-Call n arguments))
other_own here x e is call = ap (of_name here) (at_node here x is)

pub no_own : (here : Here) (e : Expr) → NotCall e → own_calls here e ≡ []
no_own here e = other_own here (out-Expr e) e (roll-out-Expr e)

-- ---- another place

same_call : (here there : Here) (m : Option Meaning) → here.current ≡ there.current → call_of here m ≡ call_of there m
same_call here there None current = refl
same_call here there (Some (a_shape s)) current = refl
same_call here there (Some (a_function f)) current = ap (λ (c : Option ℕ). record { function = f; current = c; typed = true } ∷ []) current
same_call here there (Some (a_variable v t)) current = refl

same_step : (here there : Here) → ((word : List ℕ) → meaning here word ≡ meaning there word) → here.current ≡ there.current → (node : Expr-F (List Call)) → call_step here node ≡ call_step there node
same_step here there names current (Expr-F.Call n arguments) =
    ap (λ (own : List Call). concat arguments.items ++ own) (ap (call_of here) (names n.word) ∙ same_call here there (meaning there n.word) current)
same_step here there names current node = refl

-- the calls of an expression are the same wherever names mean the same and the current shape is one
pub same_calls : (here there : Here) (e : Expr) → ((word : List ℕ) → meaning here word ≡ meaning there word) → here.current ≡ there.current → calls_in here e ≡ calls_in there e
same_calls here there e names current = ap (λ (step : Expr-F (List Call) → List Call). fold-Expr (List Call) step e) (fun_ext (same_step here there names current))

-- so it is whatever a `.` stands for there, and whether the expression is a whole one or a part
pub calls_elsewhere : (here : Here) (dot : Option ℕ) (whole : Bool) (e : Expr) → calls_in (record here { dot = dot; whole = whole }) e ≡ calls_in here e
unfolding meaning
calls_elsewhere here dot whole e = same_calls (record here { dot = dot; whole = whole }) here e (λ word. refl) refl
