-- The calls of the parts of an expression are among its own, and what was met before begins what is
-- met now.
use Rattle.std.proofs.Common.{◌≡◌, ◌<◌, ℕ, suc, zero, List, [], ◌∷◌, ◌++◌, append_assoc, get_or, length, Option, Some, OnOk, Result, Ok, Err, Box, Vec, arith, refl, sym, ap, subst, ◌∙◌, if◌then◌else◌, Bool, true, false}
use Rattle.std.specs.List.{All, Contains, slice_get}
use Rattle.std.specs.declared.alloc.Global.{Global}
use Rattle.std.proofs.lemmas.List.{append-nil}
use Rattle.std.proofs.lemmas.List.Elements.{Contains-append_left, Contains-append_right, Contains-push}
use Rattle.cstar_base.specs.declared.operators.Combiner.{Combiner}
use Rattle.cstar_base.specs.declared.operators.Direction.{Direction}
use Rattle.cstar_base.specs.declared.operators.Inclusion.{Inclusion}
use Rattle.cstar_base.specs.declared.operators.Place.{Place}
use Rattle.cstar_base.specs.declared.operators.SegmentMode.{SegmentMode}
use Rattle.cstar_tree.specs.declared.syntax.AssignOp.{AssignOp}
use Rattle.cstar_tree.specs.declared.syntax.BinaryOp.{BinaryOp}
use Rattle.cstar_tree.specs.declared.syntax.Cast.{Cast}
use Rattle.cstar_tree.specs.declared.syntax.Expr.{Expr}
use Rattle.cstar_tree.specs.declared.syntax.Expr as E
use Rattle.cstar_tree.specs.declared.syntax.Expr.TheOpen.{Expr-F}
use Rattle.cstar_tree.specs.declared.syntax.Expr.TheVariants as rolled
use Rattle.cstar_tree.specs.declared.syntax.Name.{Name}
use Rattle.cstar_tree.specs.declared.syntax.PrefixOp.{PrefixOp}
use Rattle.cstar_tree.specs.declared.syntax.ShapeRef.{ShapeRef}
use Rattle.cstar_tree.specs.declared.syntax.StepOp.{StepOp}
use Rattle.cstar_tree.specs.declared.syntax.TypeName.{TypeName}
use Rattle.cstar_tree.specs.Calls.{Call, call_of, calls_in, calls_in_each}
use Rattle.cstar_tree.specs.Headers.{Program, Reached}
use Rattle.cstar_tree.specs.Instances.{is_met}
use Rattle.cstar_tree.specs.Scopes.{Here, meaning}
use Rattle.cstar_tree.specs.Scopes as S
use Rattle.cstar_tree.specs.TypedParts.{concat}
use Rattle.type_scopes.specs.declared.file.File.{File}
use Rattle.type_expressions.specs.Instances.{AreHeaders, Grows, IsBeginning, met, with_met}
use Rattle.type_expressions.specs.Programs.{HasItsCalls}
use Rattle.type_expressions.specs.declared.found.Instances.{Instances}
use Rattle.type_expressions.proofs.NodeCalls.{by_node}

-- ---- beginnings of lists

pub beginning_same : {A : Type 0} {xs ys : List A} → ys ≡ xs → IsBeginning xs ys
beginning_same {xs = xs} same = record { rest = []; whole = same ∙ sym (append-nil xs) }

pub beginning_both : {A : Type 0} {xs ys zs : List A} → IsBeginning xs ys → IsBeginning ys zs → IsBeginning xs zs
beginning_both {xs = xs} b c = record {
  rest = b.rest ++ c.rest;
  whole = c.whole ∙ (ap (λ (l : List _). l ++ c.rest) b.whole ∙ append_assoc xs b.rest c.rest);
}

pub begins_met : (r : Reached) (before : List Reached) → IsBeginning before (with_met r before)
begins_met r before = by (is_met r before)
  where
    by : (b : Bool) → IsBeginning before (if b then before else before ++ r ∷ [])
    by true = beginning_same refl
    by false = record { rest = r ∷ []; whole = refl }

kept : {A : Type 0} (xs rest : List A) (k : ℕ) (x : A) → slice_get xs k ≡ Some x → slice_get (xs ++ rest) k ≡ Some x
kept [] rest k x is = absurd (cc)
kept (y ∷ ys) rest zero x is = is
kept (y ∷ ys) rest (suc k) x is = kept ys rest k x is

pub among_more : {A : Type 0} {xs ys : List A} (n : ℕ) (x : A) → IsBeginning xs ys → slice_get xs n ≡ Some x → slice_get ys n ≡ Some x
among_more {xs = xs} n x b is = subst (λ (l : List _). slice_get l n ≡ Some x) (sym b.whole) (kept xs b.rest n x is)

-- ---- instances that are met further on

pub begins_same : {file : File} {old new : Instances} → new ≡ old → Grows file old new
begins_same same = record { begins = beginning_same (ap met same); headers = (subst (AreHeaders _) (sym same), subst (AreHeaders _) same) }

pub begins_both : {file : File} {first second third : Instances} → Grows file first second → Grows file second third → Grows file first third
begins_both b c = record { begins = beginning_both b.begins c.begins; headers = (λ all. c.headers.0 (b.headers.0 all), λ all. b.headers.1 (c.headers.1 all)) }

-- so it is at an answer, whatever is answered
pub begins_answer : {A E : Type 0} {file : File} {old new : Instances} (r : Result A E) → Grows file old new → OnOk r (Grows file old new)
begins_answer (Ok x) grows = grows
begins_answer (Err e) grows = tt

pub begins_before : {A E : Type 0} {file : File} {first second : Instances} (r : Result A E) (third : Instances) → Grows file first second → OnOk r (Grows file second third) → OnOk r (Grows file first third)
begins_before (Ok x) third b c = begins_both b c
begins_before (Err e) third b c = tt

-- ---- the calls of parts

-- all calls of the one are calls of the other
abbrev pub AreCallsOf : Expr → Expr → Type 0
AreCallsOf p e = (here : Here) (c : Call) → Contains (calls_in here p) c → Contains (calls_in here e) c

first_of : (xs rest : List Call) (whole : List Call) (c : Call) → whole ≡ xs ++ rest → Contains xs c → Contains whole c
first_of xs rest whole c is h = subst (λ (l : List Call). Contains l c) (sym is) (Contains-append_left xs rest c h)

second_of : (before xs rest : List Call) (whole : List Call) (c : Call) → whole ≡ before ++ (xs ++ rest) → Contains xs c → Contains whole c
second_of before xs rest whole c is h = subst (λ (l : List Call). Contains l c) (sym is) (Contains-append_right before (xs ++ rest) c (Contains-append_left xs rest c h))

third_of : (before mid xs rest : List Call) (whole : List Call) (c : Call) → whole ≡ before ++ (mid ++ (xs ++ rest)) → Contains xs c → Contains whole c
third_of before mid xs rest whole c is h = subst (λ (l : List Call). Contains l c) (sym is) (Contains-append_right before (mid ++ (xs ++ rest)) c (Contains-append_right mid (xs ++ rest) c (Contains-append_left xs rest c h)))

pub in_brackets : (p : Place) (inner : Box Expr Global) → AreCallsOf inner.value (E.Brackets p inner)
unfolding concat
in_brackets p inner here c = first_of (calls_in here inner.value) [] (calls_in here (E.Brackets p inner)) c (by_node here (Expr-F.Brackets p inner) (rolled.rolls-Brackets p inner))

pub in_prefix : (p : Place) (op : PrefixOp) (operand : Box Expr Global) → AreCallsOf operand.value (E.Prefix p op operand)
unfolding concat
in_prefix p op operand here c = first_of (calls_in here operand.value) [] (calls_in here (E.Prefix p op operand)) c (by_node here (Expr-F.Prefix p op operand) (rolled.rolls-Prefix p op operand))

pub in_casts : (chain : Vec Cast Global) (operand : Box Expr Global) → AreCallsOf operand.value (E.Casts chain operand)
unfolding concat
in_casts chain operand here c = first_of (calls_in here operand.value) [] (calls_in here (E.Casts chain operand)) c (by_node here (Expr-F.Casts chain operand) (rolled.rolls-Casts chain operand))

pub in_parallel_cast : (p : Place) (written : TypeName) (operand : Box Expr Global) → AreCallsOf operand.value (E.ParallelCast p written operand)
unfolding concat
in_parallel_cast p written operand here c = first_of (calls_in here operand.value) [] (calls_in here (E.ParallelCast p written operand)) c (by_node here (Expr-F.ParallelCast p written operand) (rolled.rolls-ParallelCast p written operand))

pub in_postfix : (p : Place) (op : StepOp) (operand : Box Expr Global) → AreCallsOf operand.value (E.Postfix p op operand)
unfolding concat
in_postfix p op operand here c = first_of (calls_in here operand.value) [] (calls_in here (E.Postfix p op operand)) c (by_node here (Expr-F.Postfix p op operand) (rolled.rolls-Postfix p op operand))

pub in_element : (n : Name) (p : Place) (index : Box Expr Global) → AreCallsOf index.value (E.Element n p index)
unfolding concat
in_element n p index here c = first_of (calls_in here index.value) [] (calls_in here (E.Element n p index)) c (by_node here (Expr-F.Element n p index) (rolled.rolls-Element n p index))

pub in_pcoord : (p : Place) (axis : Box Expr Global) → AreCallsOf axis.value (E.Pcoord p axis)
unfolding concat
in_pcoord p axis here c = first_of (calls_in here axis.value) [] (calls_in here (E.Pcoord p axis)) c (by_node here (Expr-F.Pcoord p axis) (rolled.rolls-Pcoord p axis))

pub in_dim : (p : Place) (shape : ShapeRef) (axis : Box Expr Global) → AreCallsOf axis.value (E.DimOf p shape axis)
unfolding concat
in_dim p shape axis here c = first_of (calls_in here axis.value) [] (calls_in here (E.DimOf p shape axis)) c (by_node here (Expr-F.DimOf p shape axis) (rolled.rolls-DimOf p shape axis))

pub in_enumerate : (p : Place) (axis : Box Expr Global) (direction : Direction) (reach : Inclusion) (mode : SegmentMode) (bit : Option Name) → AreCallsOf axis.value (E.Enumerate p axis direction reach mode bit)
unfolding concat
in_enumerate p axis direction reach mode bit here c = first_of (calls_in here axis.value) [] (calls_in here (E.Enumerate p axis direction reach mode bit)) c (by_node here (Expr-F.Enumerate p axis direction reach mode bit) (rolled.rolls-Enumerate p axis direction reach mode bit))

pub in_scan_source : (p : Place) (source axis : Box Expr Global) (combiner : Combiner) (direction : Direction) (mode : SegmentMode) (bit : Option Name) (reach : Inclusion) → AreCallsOf source.value (E.Scan p source axis combiner direction mode bit reach)
unfolding concat
in_scan_source p source axis combiner direction mode bit reach here c = first_of (calls_in here source.value) (calls_in here axis.value ++ []) (calls_in here (E.Scan p source axis combiner direction mode bit reach)) c (by_node here (Expr-F.Scan p source axis combiner direction mode bit reach) (rolled.rolls-Scan p source axis combiner direction mode bit reach))

pub in_scan_axis : (p : Place) (source axis : Box Expr Global) (combiner : Combiner) (direction : Direction) (mode : SegmentMode) (bit : Option Name) (reach : Inclusion) → AreCallsOf axis.value (E.Scan p source axis combiner direction mode bit reach)
unfolding concat
in_scan_axis p source axis combiner direction mode bit reach here c = second_of (calls_in here source.value) (calls_in here axis.value) [] (calls_in here (E.Scan p source axis combiner direction mode bit reach)) c (by_node here (Expr-F.Scan p source axis combiner direction mode bit reach) (rolled.rolls-Scan p source axis combiner direction mode bit reach))

pub in_assignment_target : (p : Place) (op : AssignOp) (target value : Box Expr Global) → AreCallsOf target.value (E.Assign p op target value)
unfolding concat
in_assignment_target p op target value here c = first_of (calls_in here target.value) (calls_in here value.value ++ []) (calls_in here (E.Assign p op target value)) c (by_node here (Expr-F.Assign p op target value) (rolled.rolls-Assign p op target value))

pub in_assignment_value : (p : Place) (op : AssignOp) (target value : Box Expr Global) → AreCallsOf value.value (E.Assign p op target value)
unfolding concat
in_assignment_value p op target value here c = second_of (calls_in here target.value) (calls_in here value.value) [] (calls_in here (E.Assign p op target value)) c (by_node here (Expr-F.Assign p op target value) (rolled.rolls-Assign p op target value))

pub in_binary_left : (p : Place) (op : BinaryOp) (left right : Box Expr Global) → AreCallsOf left.value (E.Binary p op left right)
unfolding concat
in_binary_left p op left right here c = first_of (calls_in here left.value) (calls_in here right.value ++ []) (calls_in here (E.Binary p op left right)) c (by_node here (Expr-F.Binary p op left right) (rolled.rolls-Binary p op left right))

pub in_binary_right : (p : Place) (op : BinaryOp) (left right : Box Expr Global) → AreCallsOf right.value (E.Binary p op left right)
unfolding concat
in_binary_right p op left right here c = second_of (calls_in here left.value) (calls_in here right.value) [] (calls_in here (E.Binary p op left right)) c (by_node here (Expr-F.Binary p op left right) (rolled.rolls-Binary p op left right))

pub in_choice_test : (p : Place) (test second third : Box Expr Global) → AreCallsOf test.value (E.Choice p test second third)
unfolding concat
in_choice_test p test second third here c = first_of (calls_in here test.value) (calls_in here second.value ++ (calls_in here third.value ++ [])) (calls_in here (E.Choice p test second third)) c (by_node here (Expr-F.Choice p test second third) (rolled.rolls-Choice p test second third))

pub in_choice_second : (p : Place) (test second third : Box Expr Global) → AreCallsOf second.value (E.Choice p test second third)
unfolding concat
in_choice_second p test second third here c = second_of (calls_in here test.value) (calls_in here second.value) (calls_in here third.value ++ []) (calls_in here (E.Choice p test second third)) c (by_node here (Expr-F.Choice p test second third) (rolled.rolls-Choice p test second third))

pub in_choice_third : (p : Place) (test second third : Box Expr Global) → AreCallsOf third.value (E.Choice p test second third)
unfolding concat
in_choice_third p test second third here c = third_of (calls_in here test.value) (calls_in here second.value) (calls_in here third.value) [] (calls_in here (E.Choice p test second third)) c (by_node here (Expr-F.Choice p test second third) (rolled.rolls-Choice p test second third))

-- a list of parts
in_each : (here : Here) (es : List Expr) (c : Call) (k : ℕ) (d : Expr) → k < length es → Contains (calls_in here (get_or es k d)) c → Contains (calls_in_each here es) c
unfolding concat
in_each here [] c k d within h = absurd (omega (arith, within))
in_each here (e ∷ es) c zero d within h = Contains-append_left (calls_in here e) (calls_in_each here es) c h
in_each here (e ∷ es) c (suc k) d within h = Contains-append_right (calls_in here e) (calls_in_each here es) c (in_each here es c k d (omega (arith, within)) h)

-- each of them has its calls among those of the whole
abbrev pub AreCallsOfEach : List Expr → Expr → Type 0
AreCallsOfEach es e = All (λ (x : Expr). AreCallsOf x e) es

pub in_call : (n : Name) (arguments : Vec Expr Global) → AreCallsOfEach arguments.items (E.Call n arguments)
in_call n arguments k d within here c h =
    first_of (calls_in_each here arguments.items) (call_of here (meaning here n.word)) (calls_in here (E.Call n arguments)) c (by_node here (Expr-F.Call n arguments) (rolled.rolls-Call n arguments)) (in_each here arguments.items c k d within h)

pub in_printf : (p : Place) (text : List ℕ) (arguments : Vec Expr Global) → AreCallsOfEach arguments.items (E.Printf p text arguments)
in_printf p text arguments k d within here c h =
    subst (λ (l : List Call). Contains l c) (sym (by_node here (Expr-F.Printf p text arguments) (rolled.rolls-Printf p text arguments))) (in_each here arguments.items c k d within h)

pub in_left_index : (p : Place) (indexes : Vec Expr Global) (n : Name) → AreCallsOfEach indexes.items (E.LeftIndex p indexes n)
in_left_index p indexes n k d within here c h =
    subst (λ (l : List Call). Contains l c) (sym (by_node here (Expr-F.LeftIndex p indexes n) (rolled.rolls-LeftIndex p indexes n))) (in_each here indexes.items c k d within h)

-- the call itself
pub called_itself : (here : Here) (n : Name) (arguments : Vec Expr Global) (f : ℕ) → meaning here n.word ≡ Some (S.a_function f) → Contains (calls_in here (E.Call n arguments)) (record { function = f; current = here.current; typed = true })
called_itself here n arguments f is =
    let whole = by_node here (Expr-F.Call n arguments) (rolled.rolls-Call n arguments) in
    let all : calls_in here (E.Call n arguments) ≡ calls_in_each here arguments.items ++ record { function = f; current = here.current; typed = true } ∷ [] = whole ∙ ap (λ (m : Option S.Meaning). calls_in_each here arguments.items ++ call_of here m) is in
    subst (λ (l : List Call). Contains l (record { function = f; current = here.current; typed = true })) (sym all) (Contains-push (calls_in_each here arguments.items) (record { function = f; current = here.current; typed = true }))

-- ---- what is known of the calls of an expression

pub narrowed : {so_far : Instances} {file : File} {program : Program} {here : Here} {e p : Expr} → AreCallsOf p e → HasItsCalls so_far file program here e → HasItsCalls so_far file program here p
narrowed within calls = record {
  of_file = calls.of_file;
  place = calls.place;
  names = calls.names;
  called = λ f c is h. calls.called f c is (within calls.place c h);
}

-- a place that differs in the `.`, or is that of a part
pub moved : {so_far : Instances} {file : File} {program : Program} {here : Here} {e : Expr} (dot : Option ℕ) (whole : Bool) → HasItsCalls so_far file program here e → HasItsCalls so_far file program (record here { dot = dot; whole = whole }) e
unfolding meaning
moved dot whole calls = record {
  of_file = record { named = calls.of_file.named; around = calls.of_file.around; groups = calls.of_file.groups; instances = calls.of_file.instances; headers = calls.of_file.headers };
  place = calls.place;
  names = calls.names;
  called = calls.called;
}

pub earlier : {so_far later : Instances} {file : File} {program : Program} {here : Here} {e : Expr} → Grows file so_far later → HasItsCalls later file program here e → HasItsCalls so_far file program here e
earlier begins calls = record {
  of_file = record { named = calls.of_file.named; around = calls.of_file.around; groups = calls.of_file.groups; instances = beginning_both begins.begins calls.of_file.instances; headers = begins.headers.1 calls.of_file.headers };
  place = calls.place;
  names = calls.names;
  called = calls.called;
}
