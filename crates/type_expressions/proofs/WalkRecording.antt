-- What the walk over an expression records: from its parts to the whole.
use Rattle.std.proofs.Common.{◌≡◌, ◌==◌, ◌&&◌, ◌≤◌, ◌-◌, ◌⊎◌, inl, inr, ℕ, nat_lt, Bool, true, false, Option, Some, None, IfOk, IfSome, OnOk, MatchResult, Result, Ok, Err, Box, Vec, arith, refl, sym, ap, subst, ◌∙◌, true≢false, if◌then◌else◌}
use Rattle.std.proofs.lemmas.Bool.{eqb-false, eqb-true, le-ltb, ltb-false}
use Rattle.std.specs.Option.{is_some}
use Rattle.std.specs.declared.alloc.Global.{Global}
use Rattle.cstar_base.specs.declared.faults.Fault.{Fault}
use Rattle.cstar_base.specs.declared.faults.Fault.TheVariants as Faults
use Rattle.cstar_base.specs.declared.operators.Combiner.{Combiner}
use Rattle.cstar_base.specs.declared.operators.Direction.{Direction}
use Rattle.cstar_base.specs.declared.operators.Inclusion.{Inclusion}
use Rattle.cstar_base.specs.declared.operators.Place.{Place}
use Rattle.cstar_base.specs.declared.operators.SegmentMode.{SegmentMode}
use Rattle.cstar_base.specs.Faults.{number_of}
use Rattle.cstar_tree.specs.declared.syntax.AssignOp.{AssignOp}
use Rattle.cstar_tree.specs.declared.syntax.BinaryOp.{BinaryOp}
use Rattle.cstar_tree.specs.declared.syntax.Cast.{Cast}
use Rattle.cstar_tree.specs.declared.syntax.Expr.{Expr}
use Rattle.cstar_tree.specs.declared.syntax.Expr as E
use Rattle.cstar_tree.specs.declared.syntax.Name.{Name}
use Rattle.cstar_tree.specs.declared.syntax.PrefixOp.{PrefixOp}
use Rattle.cstar_tree.specs.declared.syntax.ShapeRef.{ShapeRef}
use Rattle.cstar_tree.specs.declared.syntax.StepOp.{StepOp}
use Rattle.cstar_tree.specs.declared.syntax.TypeName.{TypeName}
use Rattle.cstar_tree.specs.declared.typed.TExpr.{TExpr}
use Rattle.cstar_tree.specs.ExpressionFaults.{FaultAt, FaultIn, ValueFaultIn}
use Rattle.cstar_tree.specs.ExpressionFaults as F
use Rattle.cstar_tree.specs.ExpressionTypes.{Types}
use Rattle.cstar_tree.specs.FaultOrder.{comes_before}
use Rattle.cstar_tree.specs.Headers.{Program}
use Rattle.cstar_tree.specs.Scopes.{Here, part}
use Rattle.cstar_tree.specs.Syntax.{place_of}
use Rattle.type_scopes.specs.Answers.{IsSettled, part_of}
use Rattle.type_scopes.specs.Faults.{IsCovered, IsIncluded, told}
use Rattle.type_scopes.specs.declared.faults.Untyped.{Untyped}
use Rattle.type_scopes.specs.declared.file.File.{File}
use Rattle.type_scopes.specs.declared.locals.Locals.{Locals}
use Rattle.type_scopes.specs.declared.sites.Site.{Site}
use Rattle.type_scopes.specs.declared.standing.Standing.{Standing}
use Rattle.type_expressions.specs.Answers.{AreBrackets, IsAssigned, IsFound, IsOutcome, OnBoth, OnThree}
use Rattle.type_expressions.specs.Instances.{Grows}
use Rattle.type_expressions.specs.Programs.{HasItsCalls}
use Rattle.type_expressions.specs.Recorded.{Finds, FindsFrom, FindsFromList, FindsValue, HasNoValue, IfUntyped, IsExpected, IsLeaf, IsRecordable, IsUntyped, Rests, Tells, TellsAt, TellsOf}
use Rattle.type_expressions.specs.Recorded as R
use Rattle.type_expressions.specs.Walks.{AreListed, AreParts, IsAround, IsOperand, IsPart, IsPlain, IsTyped, IsValue}
use Rattle.type_expressions.specs.declared.found.Instances.{Instances}
use Rattle.type_expressions.specs.declared.found.TypedExpr.{TypedExpr}
use Rattle.type_expressions.proofs.CallsWithin.{AreCallsOf, earlier, in_assignment_target, in_assignment_value, in_binary_left, in_binary_right, in_brackets, in_casts, in_choice_second, in_choice_test, in_choice_third, in_dim, in_element, in_enumerate, in_parallel_cast, in_pcoord, in_postfix, in_prefix, in_scan_axis, in_scan_source, moved, narrowed}
use Rattle.type_expressions.proofs.NodeFaults.{at_node, untyped_told}
use Rattle.type_expressions.proofs.NodeRecording.{node_outcome}
use Rattle.type_expressions.proofs.Recording.{one_of, recordable_as, tells_as, tells_both, tells_of_part, tells_one, tells_same, tells_settled, tells_then}
use Rattle.type_expressions.proofs.Walking.{in_part}

-- ---- parts

-- a part that needs a value, at the place of a part
abbrev pub IsPartOf : Expr → Expr → Type 0
IsPartOf e x = AreCallsOf x e × (IsPlain e → IsPlain x) × ((here : Here) → F.IsPart here e (part here) x)

pub finds_part : (so_far : Instances) (file : File) (locals : Locals) (site : Site) (e x : Expr) (typed : Bool) (old new : Option Standing) → IsPartOf e x → FindsValue so_far file locals site x typed old new → Finds so_far file locals site e typed old new
finds_part so_far file locals site e x typed old new q v = λ program here a calls plain. tells_of_part here (q.2 here) refl refl (v program here a (narrowed q.0 calls) (q.1 plain))

pub finds_later : {before so_far : Instances} (file : File) (locals : Locals) (site : Site) (e : Expr) (typed : Bool) (old new : Option Standing) → Grows file before so_far → Finds before file locals site e typed old new → Finds so_far file locals site e typed old new
finds_later file locals site e typed old new begins v = λ program here a calls plain. v program here a (earlier begins calls) plain

pub value_found_later : {before so_far : Instances} (file : File) (locals : Locals) (site : Site) (e : Expr) (typed : Bool) (old new : Option Standing) → Grows file before so_far → FindsValue before file locals site e typed old new → FindsValue so_far file locals site e typed old new
value_found_later file locals site e typed old new begins v = λ program here a calls plain. v program here a (earlier begins calls) plain

pub finds_from : (so_far : Instances) (file : File) (locals : Locals) (site : Site) (e : Expr) (typed : Bool) (old mid new : Option Standing) → mid ≡ old → Finds so_far file locals site e typed mid new → Finds so_far file locals site e typed old new
finds_from so_far file locals site e typed old mid new is v = subst (λ (l : Option Standing). Finds so_far file locals site e typed l new) is v

pub value_there : (so_far : Instances) (file : File) (locals : Locals) (site : Site) (x : Expr) (o : Option (Box TExpr Global)) (program : Program) (here : Here) → IsValue so_far file locals site x o → IsAround file locals site here → HasItsCalls so_far file program here x → IsPlain x → IfSome o (IsPart program here x)
value_there so_far file locals site x None program here v a calls plain = tt
value_there so_far file locals site x (Some y) program here v a calls plain = v program here a calls plain

pub some_into : {A : Type 0} {P Q : A → Type 0} (o : Option A) → ((x : A) → P x → Q x) → IfSome o P → IfSome o Q
some_into None into h = tt
some_into (Some x) into h = into x h

target_part : (p : Place) (op : AssignOp) (target value : Box Expr Global) → IsPartOf (E.Assign p op target value) target.value
unfolding IsPlain
target_part p op target value = (in_assignment_target p op target value, λ plain. plain.0, λ here. F.target target value)

value_part : (p : Place) (op : AssignOp) (target value : Box Expr Global) → IsPartOf (E.Assign p op target value) value.value
unfolding IsPlain
value_part p op target value = (in_assignment_value p op target value, λ plain. plain.1, λ here. F.value target value)

test_part : (p : Place) (test second third : Box Expr Global) → IsPartOf (E.Choice p test second third) test.value
unfolding IsPlain
test_part p test second third = (in_choice_test p test second third, λ plain. plain.0, λ here. F.test test second third)

second_part : (p : Place) (test second third : Box Expr Global) → IsPartOf (E.Choice p test second third) second.value
unfolding IsPlain
second_part p test second third = (in_choice_second p test second third, λ plain. plain.1, λ here. F.second test second third)

third_part : (p : Place) (test second third : Box Expr Global) → IsPartOf (E.Choice p test second third) third.value
unfolding IsPlain
third_part p test second third = (in_choice_third p test second third, λ plain. plain.2, λ here. F.third test second third)

left_part : (p : Place) (op : BinaryOp) (left right : Box Expr Global) → IsPartOf (E.Binary p op left right) left.value
unfolding IsPlain
left_part p op left right = (in_binary_left p op left right, λ plain. plain.0, λ here. F.left left right)

right_part : (p : Place) (op : BinaryOp) (left right : Box Expr Global) → IsPartOf (E.Binary p op left right) right.value
unfolding IsPlain
right_part p op left right = (in_binary_right p op left right, λ plain. plain.1, λ here. F.right left right)

prefix_part : (p : Place) (op : PrefixOp) (operand : Box Expr Global) → IsPartOf (E.Prefix p op operand) operand.value
unfolding IsPlain
prefix_part p op operand = (in_prefix p op operand, λ plain. plain, λ here. F.of_prefix operand)

casts_part : (chain : Vec Cast Global) (operand : Box Expr Global) → IsPartOf (E.Casts chain operand) operand.value
unfolding IsPlain
casts_part chain operand = (in_casts chain operand, λ plain. plain, λ here. F.of_casts chain operand)

cast_part : (p : Place) (written : TypeName) (operand : Box Expr Global) → IsPartOf (E.ParallelCast p written operand) operand.value
unfolding IsPlain
cast_part p written operand = (in_parallel_cast p written operand, λ plain. plain, λ here. F.of_cast operand)

postfix_part : (p : Place) (op : StepOp) (operand : Box Expr Global) → IsPartOf (E.Postfix p op operand) operand.value
unfolding IsPlain
postfix_part p op operand = (in_postfix p op operand, λ plain. plain, λ here. F.of_postfix operand)

index_part : (n : Name) (bracket : Place) (index : Box Expr Global) → IsPartOf (E.Element n bracket index) index.value
unfolding IsPlain
index_part n bracket index = (in_element n bracket index, λ plain. plain, λ here. F.right_index index)

pub pcoord_part : (p : Place) (axis : Box Expr Global) → IsPartOf (E.Pcoord p axis) axis.value
unfolding IsPlain
pcoord_part p axis = (in_pcoord p axis, λ plain. plain, λ here. F.along (F.pcoord axis))

pub dim_part : (p : Place) (shape : ShapeRef) (axis : Box Expr Global) → IsPartOf (E.DimOf p shape axis) axis.value
unfolding IsPlain
dim_part p shape axis = (in_dim p shape axis, λ plain. plain, λ here. F.of_dim axis)

pub enumerate_part : (p : Place) (axis : Box Expr Global) (direction : Direction) (inclusion : Inclusion) (mode : SegmentMode) (bit : Option Name) → IsPartOf (E.Enumerate p axis direction inclusion mode bit) axis.value
unfolding IsPlain
enumerate_part p axis direction inclusion mode bit = (in_enumerate p axis direction inclusion mode bit, λ plain. plain, λ here. F.along (F.enumerate axis))

pub source_part : (p : Place) (source axis : Box Expr Global) (combiner : Combiner) (direction : Direction) (mode : SegmentMode) (bit : Option Name) (inclusion : Inclusion) → IsPartOf (E.Scan p source axis combiner direction mode bit inclusion) source.value
unfolding IsPlain
source_part p source axis combiner direction mode bit inclusion = (in_scan_source p source axis combiner direction mode bit inclusion, λ plain. plain.0, λ here. F.source source axis)

pub scan_part : (p : Place) (source axis : Box Expr Global) (combiner : Combiner) (direction : Direction) (mode : SegmentMode) (bit : Option Name) (inclusion : Inclusion) → IsPartOf (E.Scan p source axis combiner direction mode bit inclusion) axis.value
unfolding IsPlain
scan_part p source axis combiner direction mode bit inclusion = (in_scan_axis p source axis combiner direction mode bit inclusion, λ plain. plain.1, λ here. F.along (F.scan source axis))

-- ---- a value

valued_untyped : (program : Program) (here : Here) (e : Expr) (typed : Option TypedExpr) (valued : Result (Box TExpr Global) Untyped) → MatchResult valued (λ x. Unit {0}) (HasNoValue (place_of e) typed) → ((t : TypedExpr) → typed ≡ Some t → Types program (part here) e t.expr.value t.has_value) → IfUntyped (IsRecordable program here (ValueFaultIn program (part here) e)) (Rests program (part here) e ⊎ (is_some typed ≡ false)) valued
valued_untyped program here e typed (Ok x) h of = tt
valued_untyped program here e None (Err u) h of = subst (IsUntyped (IsRecordable program here (ValueFaultIn program (part here) e)) (Rests program (part here) e ⊎ (false ≡ false))) (sym h) (inr refl)
valued_untyped program here e (Some t) (Err u) h of =
    untyped_told (IsRecordable program here (ValueFaultIn program (part here) e)) (Rests program (part here) e ⊎ (true ≡ false)) u h.1 (R.stands (F.without_value (subst (λ (b : Bool). Types program (part here) e t.expr.value b) h.0 (of t refl))))

typed_there : (so_far : Instances) (file : File) (locals : Locals) (site : Site) (e : Expr) (typed : Option TypedExpr) (program : Program) (here : Here) → IsTyped so_far file locals site e typed → IsAround file locals site here → HasItsCalls so_far file program here e → IsPlain e → (t : TypedExpr) → typed ≡ Some t → Types program here e t.expr.value t.has_value
typed_there so_far file locals site e None program here h a calls plain t is = absurd (cc)
typed_there so_far file locals site e (Some r) program here h a calls plain t is = subst (λ (k : TypedExpr). Types program here e k.expr.value k.has_value) (let k : r ≡ t = cc in k) (h program here a calls plain)

pub value_finds : (so_far : Instances) (file : File) (locals : Locals) (site at_part : Site) (e : Expr) (typed : Option TypedExpr) (place : Place) (valued : Result (Box TExpr Global) Untyped) (r : Option (Box TExpr Global)) (old mid new : Option Standing) → at_part ≡ record site { whole = false } → Finds so_far file locals at_part e (is_some typed) old mid → IsTyped so_far file locals at_part e typed → MatchResult valued (λ x. Unit {0}) (HasNoValue place typed) → place ≡ place_of e → r ≡ part_of valued → IsSettled mid valued new → FindsValue so_far file locals site e (is_some r) old new
value_finds so_far file locals site at_part e typed place valued r old mid new there finds whole refused at part_is settled = λ program here a calls plain.
    let within = subst (λ (s : Site). Finds so_far file locals s e (is_some typed) old mid) there finds program (part here) (in_part a) (moved here.dot false calls) plain in
    let own = typed_there so_far file locals (record site { whole = false }) e typed program (part here) (subst (λ (s : Site). IsTyped so_far file locals s e typed) there whole) (in_part a) (moved here.dot false calls) plain in
    let no_value = subst (λ (p : Place). MatchResult valued (λ x. Unit {0}) (HasNoValue p typed)) at refused in
    tells_then (λ why. why) (tells_as (recordable_as {here = here} {there = part here} refl refl (λ f p h. F.within h)) (λ why. why) within)
    (tells_settled (IsRecordable program here (ValueFaultIn program (part here) e)) (Rests program (part here) e ⊎ (is_some typed ≡ false)) valued r mid new (valued_untyped program here e typed valued no_value own) part_is settled)

-- ---- an expression that is to be constant

module _ (a b c d e f : ℕ) where
  abbrev sooner : Bool
  sooner = if a == d then (if b == e then nat_lt c f else nat_lt b e) else nat_lt a d

  no_earlier : sooner ≡ false → (d ≤ a) × (a ≡ d → e ≤ b) × (a ≡ d → b ≡ e → f ≤ c)
  no_earlier is = step (a == d) (b == e) refl refl is
    where
      step : (l k : Bool) → (a == d) ≡ l → (b == e) ≡ k → (if l then (if k then nat_lt c f else nat_lt b e) else nat_lt a d) ≡ false → (d ≤ a) × (a ≡ d → e ≤ b) × (a ≡ d → b ≡ e → f ≤ c)
      step true true l k is = let s = eqb-true a d l in let t = eqb-true b e k in (omega arith, λ x. omega arith, λ x y. ltb-false c f is)
      step true false l k is = let s = eqb-true a d l in let t = ltb-false b e is in (omega arith, λ x. omega arith, λ x y. absurd (eqb-false b e k y))
      step false k l _ is = let s = ltb-false a d is in (omega arith, λ x. absurd (eqb-false a d l x), λ x y. absurd (eqb-false a d l x))

  late : d ≤ a → (a ≡ d → e ≤ b) → (a ≡ d → b ≡ e → f ≤ c) → sooner ≡ false
  late x y z = step (a == d) (b == e) refl refl
    where
      step : (l k : Bool) → (a == d) ≡ l → (b == e) ≡ k → (if l then (if k then nat_lt c f else nat_lt b e) else nat_lt a d) ≡ false
      step true true l k = le-ltb c f (z (eqb-true a d l) (eqb-true b e k))
      step true false l k = le-ltb b e (y (eqb-true a d l))
      step false k l _ = le-ltb a d x

no_sooner : (a b c d e f x y z : ℕ) → sooner a b c d e f ≡ false → sooner d e f x y z ≡ false → sooner a b c x y z ≡ false
no_sooner a b c d e f x y z first second =
    let n = no_earlier a b c d e f first in
    let m = no_earlier d e f x y z second in
    late a b c x y z (omega (arith, n.0, m.0)) (
    λ ax.
    let ad : a ≡ d = omega (arith, n.0, m.0) in
    let dx : d ≡ x = omega arith in
    omega (arith, n.1 ad, m.1 dx)
    ) (
    λ ax by.
    let ad : a ≡ d = omega (arith, n.0, m.0) in
    let dx : d ≡ x = omega arith in
    let be : b ≡ e = omega (arith, n.1 ad, m.1 dx) in
    let ey : e ≡ y = omega arith in
    omega (arith, n.2 ad be, m.2 dx ey)
    )

covered_as : (s t : Standing) (g : Fault) (q : Place) → told t ≡ told s → IsCovered (Some s) g q → IsCovered (Some t) g q
covered_as s t g q is h = subst (λ (k : Fault × Place). comes_before g q k.0 k.1 ≡ false) (sym is) h

-- what is recorded of it alone, behind what was recorded before
tells_behind : (S : Fault → Place → Type 0) (W : Type 0) (typed : Bool) (earlier own new : Option Standing) → Tells S W typed None own → IsIncluded own earlier new → Tells S W typed earlier new
tells_behind S W typed None own new all is = subst (λ (l : Option Standing). Tells S W typed None l) (sym is) all
tells_behind S W typed (Some o) own None all is = absurd is
tells_behind S W typed (Some o) None (Some n) all is = record {
  kept = λ g q h. covered_as o n g q is h;
  honest = inl (ap (λ (t : Fault × Place). Some t) is);
  untyped = λ none. inl refl;
}
tells_behind S W typed (Some o) (Some w) (Some n) all is = step (comes_before o.fault o.place w.fault w.place) refl is
  where
    step : (b : Bool) → comes_before o.fault o.place w.fault w.place ≡ b → told n ≡ (if b then (o.fault, o.place) else told w) → Tells S W typed (Some o) (Some n)
    step true e same = record {
      kept = λ g q h. covered_as o n g q same h;
      honest = inl (ap (λ (t : Fault × Place). Some t) same);
      untyped = λ none. inl refl;
    }
    step false e same = record {
      kept = λ g q h. covered_as w n g q same (no_sooner q.line q.col (number_of g) o.place.line o.place.col (number_of o.fault) w.place.line w.place.col (number_of w.fault) h e);
      honest = elim all.honest [ inl no_fault ↦ absurd (cc) | inr h ↦ inr (subst (λ (t : Fault × Place). S t.0 t.1) (sym same) h) ];
      untyped = λ none. inl refl;
    }

tells_expected : (S : Fault → Place → Type 0) (W : Type 0) (typed : Bool) (site : Site) (p : Place) (earlier mid new : Option Standing) → (site.function ≡ None → S Faults.Constant p) → Tells S W typed None mid → IsExpected site p earlier mid new → Tells S W typed earlier new
tells_expected S W typed site p earlier mid new outside all (own, included, inl same) = tells_behind S W typed earlier own new (subst (λ (l : Option Standing). Tells S W typed None l) (sym same) all) included
tells_expected S W typed site p earlier mid new outside all (own, included, inr one) =
    tells_behind S W typed earlier own new (tells_both (λ none. inl none) all (tells_one S W typed mid own Faults.Constant p (outside one.0) one.1)) included

pub value_expected : (so_far : Instances) (file : File) (locals : Locals) (site : Site) (e : Expr) (typed : Bool) (p : Place) (old earlier alone mid new : Option Standing) → earlier ≡ old → alone ≡ None → FindsValue so_far file locals site e typed alone mid → IsExpected site p earlier mid new → FindsValue so_far file locals site e typed old new
value_expected so_far file locals site e typed p old earlier alone mid new aside is v expected = λ program here a calls plain.
    let all = subst (λ (l : Option Standing). FindsValue so_far file locals site e typed l mid) is v program here a calls plain in
    tells_expected (IsRecordable program here (ValueFaultIn program (part here) e)) (Rests program (part here) e) typed site p old mid new (λ none. R.outside (a.at_site.around ∙ none)) all (subst (λ (l : Option Standing). IsExpected site p l mid new) aside expected)

pub constant_expected : (so_far : Instances) (file : File) (locals : Locals) (site at_part : Site) (e : Expr) (typed : Bool) (p : Place) (old earlier alone mid new : Option Standing) → at_part ≡ record site { whole = false } → earlier ≡ old → alone ≡ None → Finds so_far file locals at_part e typed alone mid → IsExpected site p earlier mid new → Finds so_far file locals (record site { whole = false }) e typed old new
constant_expected so_far file locals site at_part e typed p old earlier alone mid new there aside is v expected = λ program here a calls plain.
    let all = subst (λ (s : Site). Finds so_far file locals s e typed None mid) there (subst (λ (l : Option Standing). Finds so_far file locals at_part e typed l mid) is v) program here a calls plain in
    tells_expected (IsRecordable program here (FaultIn program here e)) (Rests program here e) typed site p old mid new (λ none. R.outside (a.at_site.around ∙ none)) all (subst (λ (l : Option Standing). IsExpected site p l mid new) aside expected)

-- ---- brackets

brackets_lack : (i r : Option TypedExpr) → AreBrackets i r → is_some r ≡ false → is_some i ≡ false
brackets_lack None r h none = refl
brackets_lack (Some i) None h none = absurd h
brackets_lack (Some i) (Some r) h none = none

pub brackets_find : (so_far : Instances) (file : File) (locals : Locals) (site : Site) (p : Place) (inner : Box Expr Global) (i r : Option TypedExpr) (old new : Option Standing) → Finds so_far file locals site inner.value (is_some i) old new → AreBrackets i r → Finds so_far file locals site (E.Brackets p inner) (is_some r) old new
unfolding IsPlain
brackets_find so_far file locals site p inner i r old new v b = λ program here a calls plain.
    let all = tells_as {T = IsRecordable program here (FaultIn program here (E.Brackets p inner))} {V = Rests program here (E.Brackets p inner)} (recordable_as {here = here} {there = here} refl refl (λ f q h. F.in_brackets inner h)) (λ why. R.in_brackets inner why) (v program here a (narrowed (in_brackets p inner) calls) plain) in
    record { kept = all.kept; honest = all.honest; untyped = λ none. all.untyped (brackets_lack i r b none) }

-- ---- one operand

finds_operand : (so_far : Instances) (file : File) (locals : Locals) (site : Site) (e x : Expr) (o : Option (Box TExpr Global)) (typed : Bool) (old mid new : Option Standing) → IsPartOf e x → ((program : Program) (here : Here) (y : Box TExpr Global) → IsPart program here x y → IsOperand program here e y) → IsValue so_far file locals site x o → FindsValue so_far file locals site x (is_some o) old mid → FindsFrom (λ program here y. IsOperand program here e y) o file locals site e typed mid new → Finds so_far file locals site e typed old new
finds_operand so_far file locals site e x o typed old mid new q brings value v w = λ program here a calls plain.
    tells_then (λ why. why) (finds_part so_far file locals site e x (is_some o) old mid q v program here a calls plain)
    (w program here a (some_into o (brings program here) (value_there so_far file locals site x o program here value a (narrowed q.0 calls) (q.1 plain))))

pub prefix_finds : (so_far : Instances) (file : File) (locals : Locals) (site : Site) (p : Place) (op : PrefixOp) (operand : Box Expr Global) (o : Option (Box TExpr Global)) (typed : Bool) (old mid new : Option Standing) → IsValue so_far file locals site operand.value o → FindsValue so_far file locals site operand.value (is_some o) old mid → FindsFrom (λ program here y. IsOperand program here (E.Prefix p op operand) y) o file locals site (E.Prefix p op operand) typed mid new → Finds so_far file locals site (E.Prefix p op operand) typed old new
prefix_finds so_far file locals site p op operand o typed old mid new = finds_operand so_far file locals site (E.Prefix p op operand) operand.value o typed old mid new (prefix_part p op operand) (λ program here y h. h)

pub casts_finds : (so_far : Instances) (file : File) (locals : Locals) (site : Site) (chain : Vec Cast Global) (operand : Box Expr Global) (o : Option (Box TExpr Global)) (typed : Bool) (old mid new : Option Standing) → IsValue so_far file locals site operand.value o → FindsValue so_far file locals site operand.value (is_some o) old mid → FindsFrom (λ program here y. IsOperand program here (E.Casts chain operand) y) o file locals site (E.Casts chain operand) typed mid new → Finds so_far file locals site (E.Casts chain operand) typed old new
casts_finds so_far file locals site chain operand o typed old mid new = finds_operand so_far file locals site (E.Casts chain operand) operand.value o typed old mid new (casts_part chain operand) (λ program here y h. h)

pub cast_finds : (so_far : Instances) (file : File) (locals : Locals) (site : Site) (p : Place) (written : TypeName) (operand : Box Expr Global) (o : Option (Box TExpr Global)) (typed : Bool) (old mid new : Option Standing) → IsValue so_far file locals site operand.value o → FindsValue so_far file locals site operand.value (is_some o) old mid → FindsFrom (λ program here y. IsOperand program here (E.ParallelCast p written operand) y) o file locals site (E.ParallelCast p written operand) typed mid new → Finds so_far file locals site (E.ParallelCast p written operand) typed old new
cast_finds so_far file locals site p written operand o typed old mid new = finds_operand so_far file locals site (E.ParallelCast p written operand) operand.value o typed old mid new (cast_part p written operand) (λ program here y h. h)

pub postfix_finds : (so_far : Instances) (file : File) (locals : Locals) (site : Site) (p : Place) (op : StepOp) (operand : Box Expr Global) (o : Option (Box TExpr Global)) (typed : Bool) (old mid new : Option Standing) → IsValue so_far file locals site operand.value o → FindsValue so_far file locals site operand.value (is_some o) old mid → FindsFrom (λ program here y. IsOperand program here (E.Postfix p op operand) y) o file locals site (E.Postfix p op operand) typed mid new → Finds so_far file locals site (E.Postfix p op operand) typed old new
postfix_finds so_far file locals site p op operand o typed old mid new = finds_operand so_far file locals site (E.Postfix p op operand) operand.value o typed old mid new (postfix_part p op operand) (λ program here y h. h)

pub index_finds : (so_far : Instances) (file : File) (locals : Locals) (site : Site) (n : Name) (p : Place) (index : Box Expr Global) (o : Option (Box TExpr Global)) (typed : Bool) (old mid new : Option Standing) → IsValue so_far file locals site index.value o → FindsValue so_far file locals site index.value (is_some o) old mid → FindsFrom (λ program here y. IsOperand program here (E.Element n p index) y) o file locals site (E.Element n p index) typed mid new → Finds so_far file locals site (E.Element n p index) typed old new
index_finds so_far file locals site n p index o typed old mid new = finds_operand so_far file locals site (E.Element n p index) index.value o typed old mid new (index_part n p index) (λ program here y h. h)

-- ---- two operands, or three

both_lack : (whole : Box Expr Global → Box Expr Global → Expr) (x y : Option (Box TExpr Global)) (r : Option TypedExpr) → OnBoth x y whole r → is_some r ≡ false → (is_some x ≡ false) ⊎ (is_some y ≡ false)
both_lack whole None y r h none = inl refl
both_lack whole (Some x) None r h none = inr refl
both_lack whole (Some x) (Some y) None h none = absurd h
both_lack whole (Some x) (Some y) (Some t) h none = absurd (true≢false none)

pub binary_finds : (so_far : Instances) (file : File) (locals : Locals) (site : Site) (p : Place) (op : BinaryOp) (left right : Box Expr Global) (x y : Option (Box TExpr Global)) (r : Option TypedExpr) (old mid far new : Option Standing) → FindsValue so_far file locals site left.value (is_some x) old mid → FindsValue so_far file locals site right.value (is_some y) mid far → OnBoth x y (E.Binary p op) r → new ≡ far → Finds so_far file locals site (E.Binary p op left right) (is_some r) old new
binary_finds so_far file locals site p op left right x y r old mid far new v w h same = λ program here a calls plain.
    let e = E.Binary p op left right in
    subst (λ (l : Option Standing). TellsOf program here e (is_some r) old l) (sym same) (tells_both (both_lack (E.Binary p op) x y r h) (finds_part so_far file locals site e left.value (is_some x) old mid (left_part p op left right) v program here a calls plain) (finds_part so_far file locals site e right.value (is_some y) mid far (right_part p op left right) w program here a calls plain))

three_lack : (whole : Box Expr Global → Box Expr Global → Box Expr Global → Expr) (x y z : Option (Box TExpr Global)) (r : Option TypedExpr) → OnThree x y z whole r → is_some r ≡ false → ((is_some x && is_some y) ≡ false) ⊎ (is_some z ≡ false)
three_lack whole None y z r h none = inl refl
three_lack whole (Some x) None z r h none = inl refl
three_lack whole (Some x) (Some y) None r h none = inr refl
three_lack whole (Some x) (Some y) (Some z) None h none = absurd h
three_lack whole (Some x) (Some y) (Some z) (Some t) h none = absurd (true≢false none)

pub choice_finds : (so_far : Instances) (file : File) (locals : Locals) (site : Site) (p : Place) (test second third : Box Expr Global) (x y z : Option (Box TExpr Global)) (r : Option TypedExpr) (old mid far last new : Option Standing) → FindsValue so_far file locals site test.value (is_some x) old mid → FindsValue so_far file locals site second.value (is_some y) mid far → FindsValue so_far file locals site third.value (is_some z) far last → OnThree x y z (E.Choice p) r → new ≡ last → Finds so_far file locals site (E.Choice p test second third) (is_some r) old new
choice_finds so_far file locals site p test second third x y z r old mid far last new u v w h same = λ program here a calls plain.
    let e = E.Choice p test second third in
    let both = tells_both (one_of (is_some x) (is_some y)) (finds_part so_far file locals site e test.value (is_some x) old mid (test_part p test second third) u program here a calls plain) (finds_part so_far file locals site e second.value (is_some y) mid far (second_part p test second third) v program here a calls plain) in
    subst (λ (l : Option Standing). TellsOf program here e (is_some r) old l) (sym same) (tells_both (three_lack (E.Choice p) x y z r h) both (finds_part so_far file locals site e third.value (is_some z) far last (third_part p test second third) w program here a calls plain))

found_tells : (program : Program) (here : Here) (e : Expr) (W : Type 0) (typed : Bool) (old new : Option Standing) → IsFound program here e old new → Tells (IsRecordable program here (FaultIn program here e)) W typed old new
found_tells program here e W typed old new is = tells_one (IsRecordable program here (FaultIn program here e)) W typed old new is.0.fault is.0.place (at_node {program = program} {here = here} {e = e} is.0.fault is.0.place is.1) is.2

assigned_tells : (file : File) (locals : Locals) (site : Site) (p : Place) (op : AssignOp) (target value : Box Expr Global) (x y : Option (Box TExpr Global)) (r : Option TypedExpr) (old new : Option Standing) (program : Program) (here : Here) → IsAround file locals site here → IfSome x (IsPart program here target.value) → IfSome y (IsPart program here value.value) → IsAssigned site p op x y old new r → TellsAt program here (E.Assign p op target value) ((is_some x && is_some y) ≡ false) (is_some r) old new
assigned_tells file locals site p op target value None y None old new program here a h k is = tells_same _ _ false old new is (λ none. inr refl)
assigned_tells file locals site p op target value None y (Some t) old new program here a h k is = absurd is
assigned_tells file locals site p op target value (Some x) None None old new program here a h k is = elim (is program here target value h) [
  | inl same ↦ tells_same _ _ false old new same.1 (λ none. inr refl)
  | inr found ↦ found_tells program here (E.Assign p op target value) _ false old new found
]
assigned_tells file locals site p op target value (Some x) None (Some t) old new program here a h k is = absurd is
assigned_tells file locals site p op target value (Some x) (Some y) None old new program here a h k is = found_tells program here (E.Assign p op target value) _ false old new (is program here target value a.at_site h k)
assigned_tells file locals site p op target value (Some x) (Some y) (Some t) old new program here a h k is = tells_same _ _ true old new (is program here target value a.at_site h k).1 (λ none. absurd (true≢false none))

pub assign_finds : (so_far : Instances) (file : File) (locals : Locals) (site : Site) (p : Place) (op : AssignOp) (target value : Box Expr Global) (x y : Option (Box TExpr Global)) (r : Option TypedExpr) (old mid far new : Option Standing) → IsValue so_far file locals site target.value x → IsValue so_far file locals site value.value y → FindsValue so_far file locals site target.value (is_some x) old mid → FindsValue so_far file locals site value.value (is_some y) mid far → IsAssigned site p op x y far new r → Finds so_far file locals site (E.Assign p op target value) (is_some r) old new
assign_finds so_far file locals site p op target value x y r old mid far new target_is value_is v w is = λ program here a calls plain.
    let e = E.Assign p op target value in
    let t = target_part p op target value in
    let s = value_part p op target value in
    let both = tells_both (one_of (is_some x) (is_some y)) (finds_part so_far file locals site e target.value (is_some x) old mid t v program here a calls plain) (finds_part so_far file locals site e value.value (is_some y) mid far s w program here a calls plain) in
    tells_then (λ why. why) both (assigned_tells file locals site p op target value x y r far new program here a (value_there so_far file locals site target.value x program here target_is a (narrowed t.0 calls) (t.1 plain)) (value_there so_far file locals site value.value y program here value_is a (narrowed s.0 calls) (s.1 plain)) is)

-- ---- an expression without parts

pub leaf_finds : (so_far : Instances) (file : File) (locals : Locals) (site : Site) (e : Expr) (typed : Result TExpr Untyped) (r : Option TypedExpr) (old new : Option Standing) → IsLeaf e → ((program : Program) (here : Here) → IsLeaf e → IsAround file locals site here → IfUntyped (FaultAt program here e) (Rests program here e) typed) → IsOutcome typed old new r → Finds so_far file locals site e (is_some r) old new
leaf_finds so_far file locals site e typed r old new leaf refused m = λ program here a calls plain.
    tells_as (λ f p h. h) (λ why. elim why [ inl rests ↦ rests | inr never ↦ absurd never ]) (node_outcome program here e ⊥ typed r old new (refused program here leaf a) m)

-- ---- an expression with a list of parts

pub list_finds : {X : Type 0} (before so_far : Instances) (file : File) (locals : Locals) (site : Site) (e : Expr) (xs : Option (Vec (Box TExpr Global) Global)) (typed : Result (Option TypedExpr) X) (old mid new : Option Standing) → AreListed before file locals site e xs → Finds before file locals site e (is_some xs) old mid → OnOk typed (Grows file before so_far) → IfOk typed (λ r. FindsFromList so_far xs file locals site e (is_some r) mid new) → IfOk typed (λ r. Finds so_far file locals site e (is_some r) old new)
list_finds before so_far file locals site e xs (Err error) old mid new listed v begins w = tt
list_finds before so_far file locals site e xs (Ok r) old mid new listed v begins w = λ program here a calls plain.
    tells_then (λ why. why) (v program here a (earlier begins calls) plain) (w program here a calls (listed_there xs listed program here a (earlier begins calls) plain))
  where
    listed_there : (xs : Option (Vec (Box TExpr Global) Global)) → AreListed before file locals site e xs → (program : Program) (here : Here) → IsAround file locals site here → HasItsCalls before file program here e → IsPlain e → IfSome xs (AreParts program here e)
    listed_there None listed program here a calls plain = tt
    listed_there (Some xs) listed program here a calls plain = listed program here a calls plain
