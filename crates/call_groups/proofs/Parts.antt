-- The calls of an expression, from those of its parts.
use Rattle.std.proofs.Common.{◌≡◌, ℕ, ◌+◌, ◌<◌, ◌≤◌, zero, suc, Bool, List, [], ◌∷◌, ◌++◌, length, take, get_or, slice_get, Option, Some, Vec, Box, refl, arith, sym, ap, ◌∙◌, subst, add-one, append_assoc, append-nil}
use Rattle.std.proofs.lemmas.Option.{same_Some, slice_get_read}
use Rattle.std.specs.declared.alloc.Global.{Global}
use Rattle.cstar_base.specs.declared.operators.Place.{Place}
use Rattle.cstar_base.specs.declared.operators.Combiner.{Combiner}
use Rattle.cstar_base.specs.declared.operators.Direction.{Direction}
use Rattle.cstar_base.specs.declared.operators.Inclusion.{Inclusion}
use Rattle.cstar_base.specs.declared.operators.SegmentMode.{SegmentMode}
use Rattle.cstar_tree.specs.declared.syntax.AssignOp.{AssignOp}
use Rattle.cstar_tree.specs.declared.syntax.BinaryOp.{BinaryOp}
use Rattle.cstar_tree.specs.declared.syntax.Cast.{Cast}
use Rattle.cstar_tree.specs.declared.syntax.Expr.{Expr}
use Rattle.cstar_tree.specs.declared.syntax.Expr as E
use Rattle.cstar_tree.specs.declared.syntax.Expr.TheFolds.{fold-roll-Expr}
use Rattle.cstar_tree.specs.declared.syntax.Expr.TheOpen.{Expr-F}
use Rattle.cstar_tree.specs.declared.syntax.Expr.TheVariants as rolled
use Rattle.cstar_tree.specs.declared.syntax.Name.{Name}
use Rattle.cstar_tree.specs.declared.syntax.PrefixOp.{PrefixOp}
use Rattle.cstar_tree.specs.declared.syntax.ShapeRef.{ShapeRef}
use Rattle.cstar_tree.specs.declared.syntax.StepOp.{StepOp}
use Rattle.cstar_tree.specs.declared.syntax.TypeName.{TypeName}
use Rattle.cstar_tree.specs.Calls.{Call, call_of, call_step, calls_in, calls_in_each}
use Rattle.cstar_tree.specs.Scopes.{Here, meaning}
use Rattle.cstar_tree.specs.TypedParts.{concat, optional}
use Rattle.call_groups.specs.declared.calls.Calls.{Calls}
use Rattle.call_groups.specs.Called.{Adds}
use Rattle.call_groups.proofs.Adding.{both_added, none_added, same_added}

-- the calls of an expression are those of these parts
pub record AreParts (e : Expr) (parts : List Expr) : Type 0 where
  pub calls : (here : Here) → calls_in here e ≡ calls_in_each here parts

-- the calls of an expression are those of the arguments, and one of this name
pub record IsCall (e : Expr) (n : Name) (arguments : List Expr) : Type 0 where
  pub calls : (here : Here) → calls_in here e ≡ calls_in_each here arguments ++ call_of here (meaning here n.word)

pub assign : {p : Place} {op : AssignOp} {target : Box Expr Global} {value : Box Expr Global} {e : Expr} → e ≡ E.Assign p op target value → AreParts e (target.value ∷ value.value ∷ [])
assign {p = p} {op = op} {target = target} {value = value} is = record { calls = λ here. ap (calls_in here) (is ∙ sym (rolled.rolls-Assign p op target value)) ∙ fold-roll-Expr (List Call) (call_step here) (Expr-F.Assign p op target value) }

pub choice : {p : Place} {test : Box Expr Global} {then : Box Expr Global} {otherwise : Box Expr Global} {e : Expr} → e ≡ E.Choice p test then otherwise → AreParts e (test.value ∷ then.value ∷ otherwise.value ∷ [])
choice {p = p} {test = test} {then = then} {otherwise = otherwise} is = record { calls = λ here. ap (calls_in here) (is ∙ sym (rolled.rolls-Choice p test then otherwise)) ∙ fold-roll-Expr (List Call) (call_step here) (Expr-F.Choice p test then otherwise) }

pub binary : {p : Place} {op : BinaryOp} {left : Box Expr Global} {right : Box Expr Global} {e : Expr} → e ≡ E.Binary p op left right → AreParts e (left.value ∷ right.value ∷ [])
binary {p = p} {op = op} {left = left} {right = right} is = record { calls = λ here. ap (calls_in here) (is ∙ sym (rolled.rolls-Binary p op left right)) ∙ fold-roll-Expr (List Call) (call_step here) (Expr-F.Binary p op left right) }

pub prefix : {p : Place} {op : PrefixOp} {operand : Box Expr Global} {e : Expr} → e ≡ E.Prefix p op operand → AreParts e (operand.value ∷ [])
prefix {p = p} {op = op} {operand = operand} is = record { calls = λ here. ap (calls_in here) (is ∙ sym (rolled.rolls-Prefix p op operand)) ∙ fold-roll-Expr (List Call) (call_step here) (Expr-F.Prefix p op operand) }

pub casts : {chain : Vec Cast Global} {operand : Box Expr Global} {e : Expr} → e ≡ E.Casts chain operand → AreParts e (operand.value ∷ [])
casts {chain = chain} {operand = operand} is = record { calls = λ here. ap (calls_in here) (is ∙ sym (rolled.rolls-Casts chain operand)) ∙ fold-roll-Expr (List Call) (call_step here) (Expr-F.Casts chain operand) }

pub parallel_cast : {p : Place} {type_name : TypeName} {operand : Box Expr Global} {e : Expr} → e ≡ E.ParallelCast p type_name operand → AreParts e (operand.value ∷ [])
parallel_cast {p = p} {type_name = type_name} {operand = operand} is = record { calls = λ here. ap (calls_in here) (is ∙ sym (rolled.rolls-ParallelCast p type_name operand)) ∙ fold-roll-Expr (List Call) (call_step here) (Expr-F.ParallelCast p type_name operand) }

pub postfix : {p : Place} {op : StepOp} {operand : Box Expr Global} {e : Expr} → e ≡ E.Postfix p op operand → AreParts e (operand.value ∷ [])
postfix {p = p} {op = op} {operand = operand} is = record { calls = λ here. ap (calls_in here) (is ∙ sym (rolled.rolls-Postfix p op operand)) ∙ fold-roll-Expr (List Call) (call_step here) (Expr-F.Postfix p op operand) }

pub element : {n : Name} {bracket : Place} {index : Box Expr Global} {e : Expr} → e ≡ E.Element n bracket index → AreParts e (index.value ∷ [])
element {n = n} {bracket = bracket} {index = index} is = record { calls = λ here. ap (calls_in here) (is ∙ sym (rolled.rolls-Element n bracket index)) ∙ fold-roll-Expr (List Call) (call_step here) (Expr-F.Element n bracket index) }

pub dot : {p : Place} {e : Expr} → e ≡ E.Dot p → AreParts e ([])
dot {p = p} is = record { calls = λ here. ap (calls_in here) (is ∙ sym (rolled.rolls-Dot p)) ∙ fold-roll-Expr (List Call) (call_step here) (Expr-F.Dot p) }

pub brackets : {p : Place} {inner : Box Expr Global} {e : Expr} → e ≡ E.Brackets p inner → AreParts e (inner.value ∷ [])
brackets {p = p} {inner = inner} is = record { calls = λ here. ap (calls_in here) (is ∙ sym (rolled.rolls-Brackets p inner)) ∙ fold-roll-Expr (List Call) (call_step here) (Expr-F.Brackets p inner) }

pub call : {n : Name} (arguments : Vec Expr Global) {e : Expr} → e ≡ E.Call n arguments → IsCall e n arguments.items
call {n = n} arguments is = record { calls = λ here. ap (calls_in here) (is ∙ sym (rolled.rolls-Call n arguments)) ∙ fold-roll-Expr (List Call) (call_step here) (Expr-F.Call n arguments) }

pub left_index : {p : Place} (indexes : Vec Expr Global) {n : Name} {e : Expr} → e ≡ E.LeftIndex p indexes n → AreParts e indexes.items
left_index {p = p} indexes {n = n} is = record { calls = λ here. ap (calls_in here) (is ∙ sym (rolled.rolls-LeftIndex p indexes n)) ∙ fold-roll-Expr (List Call) (call_step here) (Expr-F.LeftIndex p indexes n) }

pub pcoord : {p : Place} {axis : Box Expr Global} {e : Expr} → e ≡ E.Pcoord p axis → AreParts e (axis.value ∷ [])
pcoord {p = p} {axis = axis} is = record { calls = λ here. ap (calls_in here) (is ∙ sym (rolled.rolls-Pcoord p axis)) ∙ fold-roll-Expr (List Call) (call_step here) (Expr-F.Pcoord p axis) }

pub positions_of : {p : Place} {shape : ShapeRef} {e : Expr} → e ≡ E.PositionsOf p shape → AreParts e ([])
positions_of {p = p} {shape = shape} is = record { calls = λ here. ap (calls_in here) (is ∙ sym (rolled.rolls-PositionsOf p shape)) ∙ fold-roll-Expr (List Call) (call_step here) (Expr-F.PositionsOf p shape) }

pub rank_of : {p : Place} {shape : ShapeRef} {e : Expr} → e ≡ E.RankOf p shape → AreParts e ([])
rank_of {p = p} {shape = shape} is = record { calls = λ here. ap (calls_in here) (is ∙ sym (rolled.rolls-RankOf p shape)) ∙ fold-roll-Expr (List Call) (call_step here) (Expr-F.RankOf p shape) }

pub dim_of : {p : Place} {shape : ShapeRef} {axis : Box Expr Global} {e : Expr} → e ≡ E.DimOf p shape axis → AreParts e (axis.value ∷ [])
dim_of {p = p} {shape = shape} {axis = axis} is = record { calls = λ here. ap (calls_in here) (is ∙ sym (rolled.rolls-DimOf p shape axis)) ∙ fold-roll-Expr (List Call) (call_step here) (Expr-F.DimOf p shape axis) }

pub scan : {p : Place} {source : Box Expr Global} {axis : Box Expr Global} {combiner : Combiner} {direction : Direction} {mode : SegmentMode} {bit : Option Name} {inclusion : Inclusion} {e : Expr} → e ≡ E.Scan p source axis combiner direction mode bit inclusion → AreParts e (source.value ∷ axis.value ∷ [])
scan {p = p} {source = source} {axis = axis} {combiner = combiner} {direction = direction} {mode = mode} {bit = bit} {inclusion = inclusion} is = record { calls = λ here. ap (calls_in here) (is ∙ sym (rolled.rolls-Scan p source axis combiner direction mode bit inclusion)) ∙ fold-roll-Expr (List Call) (call_step here) (Expr-F.Scan p source axis combiner direction mode bit inclusion) }

pub enumerate : {p : Place} {axis : Box Expr Global} {direction : Direction} {inclusion : Inclusion} {mode : SegmentMode} {bit : Option Name} {e : Expr} → e ≡ E.Enumerate p axis direction inclusion mode bit → AreParts e (axis.value ∷ [])
enumerate {p = p} {axis = axis} {direction = direction} {inclusion = inclusion} {mode = mode} {bit = bit} is = record { calls = λ here. ap (calls_in here) (is ∙ sym (rolled.rolls-Enumerate p axis direction inclusion mode bit)) ∙ fold-roll-Expr (List Call) (call_step here) (Expr-F.Enumerate p axis direction inclusion mode bit) }

pub printf : {p : Place} {text : List ℕ} (arguments : Vec Expr Global) {e : Expr} → e ≡ E.Printf p text arguments → AreParts e arguments.items
printf {p = p} {text = text} arguments is = record { calls = λ here. ap (calls_in here) (is ∙ sym (rolled.rolls-Printf p text arguments)) ∙ fold-roll-Expr (List Call) (call_step here) (Expr-F.Printf p text arguments) }

pub getchar : {p : Place} {e : Expr} → e ≡ E.GetChar p → AreParts e ([])
getchar {p = p} is = record { calls = λ here. ap (calls_in here) (is ∙ sym (rolled.rolls-GetChar p)) ∙ fold-roll-Expr (List Call) (call_step here) (Expr-F.GetChar p) }

pub number : {p : Place} {value : ℕ} {unsigned : Bool} {e : Expr} → e ≡ E.Number p value unsigned → AreParts e []
number {p = p} {value = value} {unsigned = unsigned} is = record { calls = λ here. ap (calls_in here) (is ∙ sym (rolled.rolls-Number p value unsigned)) ∙ fold-roll-Expr (List Call) (call_step here) (Expr-F.Number p value unsigned) }

pub name : {n : Name} {e : Expr} → e ≡ E.Name n → AreParts e []
name {n = n} is = record { calls = λ here. ap (calls_in here) (is ∙ sym (rolled.rolls-Name n)) ∙ fold-roll-Expr (List Call) (call_step here) (Expr-F.Name n) }

one : (here : Here) (a : Expr) → calls_in_each here (a ∷ []) ≡ calls_in here a
unfolding concat
one here a = append-nil (calls_in here a)

two : (here : Here) (a b : Expr) → calls_in_each here (a ∷ b ∷ []) ≡ calls_in here a ++ calls_in here b
unfolding concat
two here a b = ap (λ cs. calls_in here a ++ cs) (append-nil (calls_in here b))

three : (here : Here) (a b c : Expr) → calls_in_each here (a ∷ b ∷ c ∷ []) ≡ calls_in here a ++ (calls_in here b ++ calls_in here c)
unfolding concat
three here a b c = ap (λ cs. calls_in here a ++ (calls_in here b ++ cs)) (append-nil (calls_in here c))

none : (here : Here) → calls_in_each here [] ≡ []
unfolding concat
none here = refl

each_one : {old new : Calls} {a v : Expr} → v ≡ a → Adds old new (λ here. calls_in here v) → Adds old new (λ here. calls_in here a)
each_one {old = old} {new = new} same adds = subst (λ x. Adds old new (λ here. calls_in here x)) same adds

pub adds_none : {calls : Calls} {e : Expr} → AreParts e [] → Adds calls calls (λ here. calls_in here e)
adds_none {calls = calls} {e = e} is = none_added calls (λ here. calls_in here e) (λ here. is.calls here ∙ none here)

pub adds_one : {old new : Calls} {e a v : Expr} → v ≡ a → Adds old new (λ here. calls_in here v) → AreParts e (a ∷ []) → Adds old new (λ here. calls_in here e)
adds_one {old = old} {new = new} {e = e} {a = a} same adds is = same_added old new (λ here. calls_in here a) (λ here. calls_in here e) (each_one same adds) (λ here. is.calls here ∙ one here a)

pub adds_two : {old mid new : Calls} {e a b v w : Expr} → v ≡ a → w ≡ b → Adds old mid (λ here. calls_in here v) → Adds mid new (λ here. calls_in here w) → AreParts e (a ∷ b ∷ []) → Adds old new (λ here. calls_in here e)
adds_two {old = old} {mid = mid} {new = new} {e = e} {a = a} {b = b} is_v is_w first second is =
    both_added old mid new (λ here. calls_in here a) (λ here. calls_in here b) (λ here. calls_in here e) (each_one is_v first) (each_one is_w second) (λ here. is.calls here ∙ two here a b)

pub adds_three : {old mid last new : Calls} {e a b c v w x : Expr} → v ≡ a → w ≡ b → x ≡ c → Adds old mid (λ here. calls_in here v) → Adds mid last (λ here. calls_in here w) → Adds last new (λ here. calls_in here x) → AreParts e (a ∷ b ∷ c ∷ []) → Adds old new (λ here. calls_in here e)
adds_three {old = old} {mid = mid} {last = last} {new = new} {e = e} {a = a} {b = b} {c = c} is_v is_w is_x first second third is =
    both_added old mid new (λ here. calls_in here a) (λ here. calls_in here b ++ calls_in here c) (λ here. calls_in here e) (each_one is_v first)
    (both_added mid last new (λ here. calls_in here b) (λ here. calls_in here c) (λ here. calls_in here b ++ calls_in here c) (each_one is_w second) (each_one is_x third) (λ here. refl))
    (λ here. is.calls here ∙ three here a b c)

-- ---- lists of expressions

each_next : (here : Here) (items : List Expr) (index : ℕ) (v : Expr) → slice_get items index ≡ Some v → calls_in_each here (take (suc index) items) ≡ calls_in_each here (take index items) ++ calls_in here v
unfolding concat
each_next here [] index v is = cc
each_next here (e ∷ items) zero v is = append-nil (calls_in here e) ∙ ap (calls_in here) (same_Some e v is)
each_next here (e ∷ items) (suc index) v is =
    ap (λ cs. calls_in here e ++ cs) (each_next here items index v is)
    ∙ sym (append_assoc (calls_in here e) (calls_in_each here (take index items)) (calls_in here v))

take_all : (items : List Expr) (n : ℕ) → length items ≤ n → take n items ≡ items
take_all [] zero h = refl
take_all [] (suc n) h = refl
take_all (e ∷ items) zero h = absurd (omega arith)
take_all (e ∷ items) (suc n) h = ap (λ es. e ∷ es) (take_all items n (omega arith))

pub adds_next : {old mid new : Calls} (items : List Expr) (index : ℕ) {v : Expr} → index < length items → v ≡ get_or items index v → Adds old mid (λ here. calls_in_each here (take index items)) → Adds mid new (λ here. calls_in here v) → Adds old new (λ here. calls_in_each here (take (index + 1) items))
adds_next {old = old} {mid = mid} {new = new} items index {v = v} less is first second =
    both_added old mid new (λ here. calls_in_each here (take index items)) (λ here. calls_in here v) (λ here. calls_in_each here (take (index + 1) items)) first second
    (λ here. ap (λ n. calls_in_each here (take n items)) (add-one index) ∙ each_next here items index v (slice_get_read items (length items) index v refl less is))

abbrev pub before : List Expr → ℕ → Here → List Call
before items index here = calls_in_each here (take index items)

pub adds_all : {old new : Calls} (items : List Expr) (index : ℕ) {e : Expr} {parts : List Expr} → items ≡ parts → length items ≤ index → Adds old new (before items index) → AreParts e parts → Adds old new (λ here. calls_in here e)
adds_all {old = old} {new = new} items index {e = e} same long adds is =
    same_added old new (before items index) (λ here. calls_in here e) adds (λ here. is.calls here ∙ ap (calls_in_each here) (sym (take_all items index long ∙ same)))

pub adds_call : {old mid new : Calls} (items : List Expr) (index : ℕ) {e : Expr} {parts : List Expr} (n : Name) → items ≡ parts → length items ≤ index → Adds old mid (before items index) → Adds mid new (λ here. call_of here (meaning here n.word))
    → IsCall e n parts → Adds old new (λ here. calls_in here e)
adds_call {old = old} {mid = mid} {new = new} items index {e = e} n same long first second is =
    both_added old mid new (before items index) (λ here. call_of here (meaning here n.word)) (λ here. calls_in here e) first second
    (λ here. is.calls here ∙ ap (λ es. calls_in_each here es ++ call_of here (meaning here n.word)) (sym (take_all items index long ∙ same)))

pub adds_some : {old new : Calls} {o : Option Expr} {e : Expr} → o ≡ Some e → Adds old new (λ here. calls_in here e) → Adds old new (λ here. calls_in_each here (optional o))
adds_some {old = old} {new = new} {o = o} {e = e} is adds = same_added old new (λ here. calls_in here e) (λ here. calls_in_each here (optional o)) adds (λ here. ap (λ x. calls_in_each here (optional x)) is ∙ one here e)
