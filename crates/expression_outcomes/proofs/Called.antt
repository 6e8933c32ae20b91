-- What a part of an expression calls the expression calls.
use Rattle.std.proofs.Common.{◌≡◌, ℕ, zero, suc, Bool, true, List, [], ◌∷◌, ◌++◌, map, Option, Some, None, Box, Vec, refl, sym, ap, subst, ◌∙◌}
use Rattle.std.proofs.Math.Path.{fun_ext}
use Rattle.std.specs.List.{Contains, slice_get}
use Rattle.std.specs.Option.{option_map}
use Rattle.std.specs.declared.alloc.Global.{Global}
use Rattle.std.proofs.lemmas.List.Elements.{Contains-append_left, Contains-append_right, Contains-push}
use Rattle.std.proofs.lemmas.Option.{same_Some, slice_get-map}
use Rattle.cstar_base.specs.declared.operators.Place.{Place}
use Rattle.cstar_base.specs.declared.operators.SegmentMode.{SegmentMode}
use Rattle.cstar_tree.specs.declared.syntax.Expr.{Expr, map-Expr, roll-Expr}
use Rattle.cstar_tree.specs.declared.syntax.Expr as E
use Rattle.cstar_tree.specs.declared.syntax.Expr.TheFolds.{fold-Expr, fold-roll-Expr}
use Rattle.cstar_tree.specs.declared.syntax.Expr.TheOpen.{Expr-F}
use Rattle.cstar_tree.specs.declared.syntax.Expr.TheVariants as rolled
use Rattle.cstar_tree.specs.declared.syntax.Name.{Name}
use Rattle.cstar_tree.specs.Calls.{Call, call_of, call_step, calls_in}
use Rattle.cstar_tree.specs.ExpressionFaults.{GoesAlong, IsPart}
use Rattle.cstar_tree.specs.ExpressionFaults as F
use Rattle.cstar_tree.specs.Scopes.{Here, Meaning, a_function, a_shape, a_variable, index_place, meaning}
use Rattle.cstar_tree.specs.TypedParts.{concat}

-- ---- the place of a part

abbrev pub elsewhere : Here → Option ℕ → Bool → Here
elsewhere here dot whole = record here { dot = dot; whole = whole }

-- it differs in what a `.` stands for, and in that the part is no whole expression
pub place_there : {here there : Here} {e x : Expr} → IsPart here e there x → there ≡ elsewhere here there.dot there.whole
unfolding index_place
place_there (F.target target value) = refl
place_there (F.value target value) = refl
place_there (F.test test second third) = refl
place_there (F.second test second third) = refl
place_there (F.third test second third) = refl
place_there (F.left left right) = refl
place_there (F.right left right) = refl
place_there (F.of_prefix operand) = refl
place_there (F.of_postfix operand) = refl
place_there (F.of_casts chain operand) = refl
place_there (F.of_cast operand) = refl
place_there (F.right_index index) = refl
place_there (F.argument arguments which is) = refl
place_there (F.left_index indexes which is) = refl
place_there (F.IsPart.along g) = refl
place_there (F.IsPart.of_dim axis) = refl
place_there (F.IsPart.source source axis) = refl
place_there (F.printed arguments which is) = refl

pub around_there : {here there : Here} {e x : Expr} → IsPart here e there x → there.around ≡ here.around
around_there is = ap (λ (h : Here). h.around) (place_there is)

calls_elsewhere : (here : Here) (dot : Option ℕ) (whole : Bool) (x : Expr) → calls_in (elsewhere here dot whole) x ≡ calls_in here x
unfolding meaning
calls_elsewhere here dot whole x = ap (λ (step : Expr-F (List Call) → List Call). fold-Expr (List Call) step x) (fun_ext (λ node. same_step node))
  where
    same_step : (node : Expr-F (List Call)) → call_step (elsewhere here dot whole) node ≡ call_step here node
    same_step (Expr-F.Call n arguments) = ap (λ (own : List Call). concat arguments.items ++ own) (same_call (meaning here n.word))
      where
        same_call : (m : Option Meaning) → call_of (elsewhere here dot whole) m ≡ call_of here m
        same_call None = refl
        same_call (Some (a_shape s)) = refl
        same_call (Some (a_function f)) = refl
        same_call (Some (a_variable v t)) = refl
    same_step node = refl

calls_there : {here there : Here} {e x : Expr} → IsPart here e there x → calls_in there x ≡ calls_in here x
calls_there {here} {there} {x = x} is = ap (λ (h : Here). calls_in h x) (place_there is) ∙ calls_elsewhere here there.dot there.whole x

-- ---- the calls of the parts

in_concat : (xs : List (List Call)) (which : ℕ) {ys : List Call} {c : Call} → slice_get xs which ≡ Some ys → Contains ys c → Contains (concat xs) c
unfolding concat
in_concat [] which is h = absurd (cc)
in_concat (x ∷ xs) zero {c = c} is h = Contains-append_left x (concat xs) c (subst (λ (l : List Call). Contains l c) (sym (same_Some _ _ is)) h)
in_concat (x ∷ xs) (suc which) {c = c} is h = Contains-append_right x (concat xs) c (in_concat xs which is h)

in_each : (here : Here) (es : List Expr) (which : ℕ) {x : Expr} {c : Call} → slice_get es which ≡ Some x → Contains (calls_in here x) c → Contains (concat (map (calls_in here) es)) c
in_each here es which is h = in_concat (map (calls_in here) es) which (slice_get-map (calls_in here) es which ∙ ap (option_map (calls_in here)) is) h

by_node : (here : Here) (x : Expr-F Expr) {e : Expr} {c : Call} → roll-Expr x ≡ e → Contains (call_step here (map-Expr Expr (List Call) (calls_in here) x)) c → Contains (calls_in here e) c
by_node here x {c = c} is h = subst (λ (e : Expr). Contains (calls_in here e) c) is (subst (λ (l : List Call). Contains l c) (sym (fold-roll-Expr (List Call) (call_step here) x)) h)

along_axis : (here : Here) {e axis : Expr} {mode : SegmentMode} {bit : Option Name} {c : Call} → GoesAlong e axis mode bit → Contains (calls_in here axis) c → Contains (calls_in here e) c
along_axis here (F.pcoord {p = p} axis) h = by_node here (Expr-F.Pcoord p axis) (rolled.rolls-Pcoord p axis) (in_each here (axis.value ∷ []) 0 refl h)
along_axis here (F.scan {p = p} source axis {combiner = combiner} {direction = direction} {mode = mode} {bit = bit} {inclusion = inclusion}) h = by_node here (Expr-F.Scan p source axis combiner direction mode bit inclusion) (rolled.rolls-Scan p source axis combiner direction mode bit inclusion) (in_each here (source.value ∷ axis.value ∷ []) 1 refl h)
along_axis here (F.enumerate {p = p} axis {direction = direction} {mode = mode} {bit = bit} {inclusion = inclusion}) h = by_node here (Expr-F.Enumerate p axis direction inclusion mode bit) (rolled.rolls-Enumerate p axis direction inclusion mode bit) (in_each here (axis.value ∷ []) 0 refl h)

in_part : (here : Here) {there : Here} {e x : Expr} {c : Call} → IsPart here e there x → Contains (calls_in here x) c → Contains (calls_in here e) c
in_part here (F.target {p = p} {op = op} target value) h = by_node here (Expr-F.Assign p op target value) (rolled.rolls-Assign p op target value) (in_each here (target.value ∷ value.value ∷ []) 0 refl h)
in_part here (F.value {p = p} {op = op} target value) h = by_node here (Expr-F.Assign p op target value) (rolled.rolls-Assign p op target value) (in_each here (target.value ∷ value.value ∷ []) 1 refl h)
in_part here (F.test {p = p} test second third) h = by_node here (Expr-F.Choice p test second third) (rolled.rolls-Choice p test second third) (in_each here (test.value ∷ second.value ∷ third.value ∷ []) 0 refl h)
in_part here (F.second {p = p} test second third) h = by_node here (Expr-F.Choice p test second third) (rolled.rolls-Choice p test second third) (in_each here (test.value ∷ second.value ∷ third.value ∷ []) 1 refl h)
in_part here (F.third {p = p} test second third) h = by_node here (Expr-F.Choice p test second third) (rolled.rolls-Choice p test second third) (in_each here (test.value ∷ second.value ∷ third.value ∷ []) 2 refl h)
in_part here (F.left {p = p} {op = op} left right) h = by_node here (Expr-F.Binary p op left right) (rolled.rolls-Binary p op left right) (in_each here (left.value ∷ right.value ∷ []) 0 refl h)
in_part here (F.right {p = p} {op = op} left right) h = by_node here (Expr-F.Binary p op left right) (rolled.rolls-Binary p op left right) (in_each here (left.value ∷ right.value ∷ []) 1 refl h)
in_part here (F.of_prefix {p = p} {op = op} operand) h = by_node here (Expr-F.Prefix p op operand) (rolled.rolls-Prefix p op operand) (in_each here (operand.value ∷ []) 0 refl h)
in_part here (F.of_postfix {p = p} {op = op} operand) h = by_node here (Expr-F.Postfix p op operand) (rolled.rolls-Postfix p op operand) (in_each here (operand.value ∷ []) 0 refl h)
in_part here (F.of_casts chain operand) h = by_node here (Expr-F.Casts chain operand) (rolled.rolls-Casts chain operand) (in_each here (operand.value ∷ []) 0 refl h)
in_part here (F.of_cast {p = p} {written = written} operand) h = by_node here (Expr-F.ParallelCast p written operand) (rolled.rolls-ParallelCast p written operand) (in_each here (operand.value ∷ []) 0 refl h)
in_part here (F.right_index {n = n} {bracket = bracket} index) h = by_node here (Expr-F.Element n bracket index) (rolled.rolls-Element n bracket index) (in_each here (index.value ∷ []) 0 refl h)
in_part here {c = c} (F.argument {n = n} arguments which is) h = by_node here (Expr-F.Call n arguments) (rolled.rolls-Call n arguments) (Contains-append_left (concat (map (calls_in here) arguments.items)) (call_of here (meaning here n.word)) c (in_each here arguments.items which is h))
in_part here (F.left_index {p = p} {n = n} indexes which is) h = by_node here (Expr-F.LeftIndex p indexes n) (rolled.rolls-LeftIndex p indexes n) (in_each here indexes.items which is h)
in_part here (F.IsPart.along g) h = along_axis here g h
in_part here (F.IsPart.of_dim {p = p} {written = written} axis) h = by_node here (Expr-F.DimOf p written axis) (rolled.rolls-DimOf p written axis) (in_each here (axis.value ∷ []) 0 refl h)
in_part here (F.IsPart.source {p = p} source axis {combiner = combiner} {direction = direction} {mode = mode} {bit = bit} {inclusion = inclusion}) h = by_node here (Expr-F.Scan p source axis combiner direction mode bit inclusion) (rolled.rolls-Scan p source axis combiner direction mode bit inclusion) (in_each here (source.value ∷ axis.value ∷ []) 0 refl h)
in_part here (F.printed {p = p} {text = text} arguments which is) h = by_node here (Expr-F.Printf p text arguments) (rolled.rolls-Printf p text arguments) (in_each here arguments.items which is h)

-- what a part calls, the expression does
pub part_calls : {here there : Here} {e x : Expr} {c : Call} → IsPart here e there x → Contains (calls_in there x) c → Contains (calls_in here e) c
part_calls {here = here} {c = c} is h = in_part here is (subst (λ (l : List Call). Contains l c) (calls_there is) h)

-- so does what stands in brackets
pub brackets_call : (here : Here) (p : Place) (inner : Box Expr Global) {c : Call} → Contains (calls_in here inner.value) c → Contains (calls_in here (E.Brackets p inner)) c
brackets_call here p inner h = by_node here (Expr-F.Brackets p inner) (rolled.rolls-Brackets p inner) (in_each here (inner.value ∷ []) 0 refl h)

-- and a call calls its function
pub it_calls : (here : Here) (n : Name) {f : ℕ} (arguments : Vec Expr Global) → meaning here n.word ≡ Some (a_function f) → Contains (calls_in here (E.Call n arguments)) (record { function = f; current = here.current; typed = true })
it_calls here n {f = f} arguments is =
    let it : Call = record { function = f; current = here.current; typed = true } in
    let before = concat (map (calls_in here) arguments.items) in
    by_node here (Expr-F.Call n arguments) (rolled.rolls-Call n arguments) (subst (λ (l : List Call). Contains (before ++ l) it) (sym (ap (call_of here) is)) (Contains-push before it))
