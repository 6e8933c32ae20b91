-- The walk over an expression: from the answers for its parts to the answer for the whole.
use Rattle.std.proofs.Common.{◌≡◌, ◌<◌, ◌^◌, ℕ, ℤ, pos, negsuc, Bool, true, false, List, length, Option, Some, None, IfOk, IfSome, OnOk, MatchResult, Result, Ok, Err, Box, Vec, refl, sym, ap, subst, ◌∙◌, if◌then◌else◌}
use Rattle.std.specs.List.{slice_get}
use Rattle.std.specs.Option.{is_some}
use Rattle.std.proofs.lemmas.List.Elements.{All-get_or}
use Rattle.std.proofs.lemmas.Option.{get_or_from_slice_get, slice_get_within}
use Rattle.std.specs.declared.alloc.Global.{Global}
use Rattle.cstar_base.specs.declared.elem.Elem.{Elem}
use Rattle.cstar_base.specs.declared.operators.Place.{Place}
use Rattle.cstar_tree.specs.declared.syntax.AssignOp.{AssignOp}
use Rattle.cstar_tree.specs.declared.syntax.BinaryOp.{BinaryOp}
use Rattle.cstar_tree.specs.declared.syntax.Cast.{Cast}
use Rattle.cstar_tree.specs.declared.syntax.Expr.{Expr, items_hidden-the_row-Expr-0}
use Rattle.cstar_tree.specs.declared.syntax.Expr as E
use Rattle.cstar_tree.specs.declared.syntax.Name.{Name}
use Rattle.cstar_tree.specs.declared.syntax.PrefixOp.{PrefixOp}
use Rattle.cstar_tree.specs.declared.syntax.ShapeRef.{ShapeRef}
use Rattle.cstar_tree.specs.declared.syntax.ShapeRef.TheVariants as R
use Rattle.cstar_tree.specs.declared.syntax.StepOp.{StepOp}
use Rattle.cstar_tree.specs.declared.syntax.TypeName.{TypeName}
use Rattle.cstar_tree.specs.declared.typed.TExpr.{TExpr}
use Rattle.cstar_tree.specs.declared.typed.TExpr as T
use Rattle.cstar_tree.specs.declared.typed.ValueType.{ValueType}
use Rattle.cstar_tree.specs.declared.typed.Variable.{Variable}
use Rattle.cstar_base.specs.declared.operators.Combiner.{Combiner}
use Rattle.cstar_base.specs.declared.operators.Direction.{Direction}
use Rattle.cstar_base.specs.declared.operators.Inclusion.{Inclusion}
use Rattle.cstar_base.specs.declared.operators.SegmentMode.{SegmentMode}
use Rattle.constant_trees.specs.Words.{HasFewPositions, HasWords, IsCounted}
use Rattle.constant_trees.proofs.Written.{in_part as constant_in_part, number_read, written as typed_as_written}
use Rattle.cstar_tree.specs.Constants.{axis_among, axis_of, constant, constant_number, number_meant, product}
use Rattle.cstar_tree.specs.Conversions.{int, unsigned}
use Rattle.cstar_tree.specs.ExpressionTypes.{IsVariable, Types, TypesIndexes}
use Rattle.cstar_tree.specs.ExpressionTypes as X
use Rattle.cstar_tree.specs.Headers.{Program}
use Rattle.cstar_tree.specs.Scopes.{Here, Meaning, a_function, a_shape, a_variable, extents_of, find, meaning, part, shape_meant, shape_of, written_type}
use Rattle.cstar_tree.specs.Scopes as S
use Rattle.type_scopes.specs.Answers.{part_of}
use Rattle.type_scopes.specs.Bindings.{variable_type}
use Rattle.type_scopes.specs.FileBindings.{names_at}
use Rattle.type_scopes.specs.Named.{IsShapeAmong, IsTypeAmong, of_written, shape_among, type_among}
use Rattle.type_scopes.specs.declared.faults.Untyped.{Untyped}
use Rattle.type_scopes.specs.declared.faults.Untyped.TheVariants as N
use Rattle.type_scopes.specs.declared.file.File.{File}
use Rattle.type_scopes.specs.declared.locals.Locals.{Locals}
use Rattle.type_scopes.specs.declared.names.VariableType as Names
use Rattle.type_scopes.specs.declared.sites.Site.{Site}
use Rattle.type_scopes.specs.declared.standing.Standing.{Standing}
use Rattle.type_scopes.specs.Shapes.{rank_of}
use Rattle.type_expressions.specs.Along.{AreBits, AreBitsNamed, HasExtents, IsAlong, IsAxisOf, axis_in, number_of_constant}
use Rattle.type_expressions.specs.Along as L
use Rattle.type_expressions.specs.Answers.{AreBrackets, AtSite, HasShapes, IsAnswer, IsAnswerOrMemory, IsAssigned, IsOutcome, IsSite, OnBoth, OnThree, trees}
use Rattle.type_expressions.specs.Names.{HasNames, IsNamed, IsVariableMeant}
use Rattle.type_expressions.specs.Instances.{Grows}
use Rattle.type_expressions.specs.Programs.{HasItsCalls}
use Rattle.type_expressions.specs.Walks.{AreFoundAlong, AreListed, AreParts, HasItsSource, IsAlongShape, IsAround, IsAxisTyped, IsFoundAlong, IsOperand, IsPart, IsPlain, IsShape, IsSource, IsSourceValue, IsTyped, IsTypedAlong, IsTypedFrom, IsTypedFromList, IsValue, rank_under}
use Rattle.type_expressions.specs.declared.found.Instances.{Instances}
use Rattle.type_expressions.specs.declared.found.TypedExpr.{TypedExpr}
use Rattle.type_expressions.specs.declared.intrinsics.Axis.{Axis}
use Rattle.type_expressions.specs.declared.intrinsics.Axis.TheVariants as A
use Rattle.type_expressions.specs.declared.along.Along.{Along}
use Rattle.type_expressions.proofs.CallsWithin.{AreCallsOf, earlier, in_assignment_target, in_assignment_value, in_binary_left, in_binary_right, in_brackets, in_casts, in_choice_second, in_choice_test, in_choice_third, in_dim, in_element, in_enumerate, in_parallel_cast, in_pcoord, in_postfix, in_prefix, in_scan_axis, in_scan_source, moved, narrowed}
use Rattle.type_expressions.proofs.OfShapes.{rank_is}
use Rattle.type_expressions.proofs.AtSites.{some_in}

-- ---- the place of a part

same_meaning : (here : Here) (word : List ℕ) → meaning (part here) word ≡ meaning here word
unfolding meaning
same_meaning here word = refl

same_extents : (here : Here) (shape : ℕ) → extents_of (part here) shape ≡ extents_of here shape
unfolding extents_of
same_extents here shape = refl

shape_in_part : (here : Here) (shape : ℕ) → IsShape here shape → IsShape (part here) shape
shape_in_part here shape c = (c.0, same_extents here shape ∙ c.1)

pub in_part : {file : File} {locals : Locals} {site : Site} {here : Here} → IsAround file locals site here → IsAround file locals (record site { whole = false }) (part here)
in_part {here = here} a = record {
  at_site = record { current = a.at_site.current; around = a.at_site.around; dot = a.at_site.dot; whole = refl };
  names = λ word. same_meaning here word ∙ a.names word;
  shapes = a.shapes;
  known = record {
    named = λ word shape is. shape_in_part here shape (a.known.named word shape (sym (same_meaning here word) ∙ is));
    of_variable = λ word v t shape is of. shape_in_part here shape (a.known.of_variable word v t shape (sym (same_meaning here word) ∙ is) of);
    current = λ shape is. shape_in_part here shape (a.known.current shape is);
  };
  few = a.few;
}

-- ---- what is named there

pub shape_there : {file : File} {locals : Locals} {site : Site} {here : Here} (written : ShapeRef) → IsAround file locals site here → shape_of here written ≡ shape_among (names_at file locals site.known) site.current written
shape_there (R.Named n) a = ap shape_meant (a.names n.word)
shape_there (R.Current p) a = a.at_site.current

meant_shape : (m : Option Meaning) {shape : ℕ} → shape_meant m ≡ Some shape → m ≡ Some (a_shape shape)
meant_shape None is = absurd (cc)
meant_shape (Some (a_shape s)) is = cc
meant_shape (Some (a_function f)) is = absurd (cc)
meant_shape (Some (a_variable v t)) is = absurd (cc)

pub is_shape : {file : File} {locals : Locals} {site : Site} {here : Here} {shape : ℕ} (written : ShapeRef) → IsAround file locals site here → shape_of here written ≡ Some shape → IsShape here shape
is_shape {here = here} {shape = shape} (R.Named n) a is = a.known.named n.word shape (meant_shape (meaning here n.word) is)
is_shape {shape = shape} (R.Current p) a is = a.known.current shape is

-- a shape that is there is counted
counted : (here : Here) (shape : ℕ) (extents : List ℕ) → HasFewPositions here → extents_of here shape ≡ Some extents → IsCounted extents
unfolding extents_of
counted here shape extents few is = subst IsCounted (get_or_from_slice_get here.shapes shape extents extents is) (All-get_or IsCounted here.shapes shape extents (slice_get_within here.shapes shape extents is) few)

pub record CountedShape (here : Here) (shape : ℕ) : Type 0 where
  pub extents : List ℕ
  pub has_extents : extents_of here shape ≡ Some extents
  pub few_axes : length extents < 2 ^ 32
  pub few_positions : product extents < 2 ^ 32

counted_shape : {here : Here} {shape : ℕ} → HasFewPositions here → IsShape here shape → CountedShape here shape
counted_shape {here = here} {shape = shape} few is =
    let c = counted here shape is.0 few is.1 in
    record { extents = is.0; has_extents = is.1; few_axes = c.rank; few_positions = c.positions }

pub counted_there : {file : File} {locals : Locals} {site : Site} {here : Here} {shape : ℕ} (written : ShapeRef) → IsAround file locals site here → shape_of here written ≡ Some shape → CountedShape here shape
counted_there written a is = counted_shape a.few (is_shape written a is)

written_there : {file : File} {locals : Locals} {site : Site} {here : Here} (written : TypeName) (shape : Option ShapeRef) → IsAround file locals site here → S.of_written here written shape ≡ of_written (names_at file locals site.known) site.current written shape
written_there written None a = refl
written_there written (Some shape) a = ap (S.of_shape written) (shape_there shape a)

pub type_there : {file : File} {locals : Locals} {site : Site} {here : Here} (written : TypeName) → IsAround file locals site here → written_type here written ≡ type_among (names_at file locals site.known) site.current written
type_there written a = written_there written written.shape a

-- ---- what is settled

pub found_of : {A : Type 0} (P : A → Type 0) (Q : Untyped → Type 0) (typed : Result A Untyped) (o : Option A) (x : A) → MatchResult typed P Q → o ≡ part_of typed → o ≡ Some x → P x
found_of P Q (Ok y) o x m settled is = subst P (let e : y ≡ x = cc in e) m
found_of P Q (Err u) o x m settled is = absurd (cc)

pub found_if : {A : Type 0} (P : A → Type 0) (Q : Untyped → Type 0) (typed : Result A Untyped) (o : Option A) → MatchResult typed P Q → o ≡ part_of typed → IfSome o P
found_if P Q typed None m settled = tt
found_if P Q typed (Some x) m settled = found_of P Q typed (Some x) x m settled refl

pub type_found : (names : List S.Binding) (current : Option ℕ) (written : TypeName) (typed : Result ValueType Untyped) (o : Option ValueType) (ty : ValueType) → IsTypeAmong names current written typed → o ≡ part_of typed → o ≡ Some ty → type_among names current written ≡ Some ty
type_found names current written (Ok t) o ty is settled found = is ∙ (let e : Some t ≡ Some ty = cc in e)
type_found names current written (Err u) o ty is settled found = absurd (cc)

pub shape_found : {file : File} {locals : Locals} {site : Site} {here : Here} {shape : ℕ} (written : ShapeRef) → IsAround file locals site here → shape_among (names_at file locals site.known) site.current written ≡ Some shape → shape_of here written ≡ Some shape
shape_found written a is = shape_there written a ∙ is

pub axis_settled : (axis : Option (Box TExpr Global)) (x : Box TExpr Global) (rank : Option ℕ) (place : Place) (typed : Result Axis Untyped) (r : Option Axis) → axis ≡ Some x → IsAxisOf (number_of_constant x.value) rank place typed → r ≡ part_of typed → IfSome r (λ a. (y : Box TExpr Global) × (axis ≡ Some y) × IsAxisOf (number_of_constant y.value) rank place (Ok a))
axis_settled axis x rank place (Ok a) None is h settled = tt
axis_settled axis x rank place (Ok a) (Some b) is h settled = (x, is, subst (λ (k : Axis). IsAxisOf (number_of_constant x.value) rank place (Ok k)) (let e : a ≡ b = cc in e) h)
axis_settled axis x rank place (Err u) None is h settled = tt
axis_settled axis x rank place (Err u) (Some b) is h settled = absurd (cc)

-- ---- answers

pub answer_or_memory : (program : Program) (here : Here) (e : Expr) (typed : Result TExpr Untyped) → IsAnswer program here e typed → IsAnswerOrMemory program here e typed
answer_or_memory program here e (Ok t) h = h
answer_or_memory program here e (Err (N.Fault standing)) h = h
answer_or_memory program here e (Err N.Faulty) h = h
answer_or_memory program here e (Err N.Memory) h = tt

-- an expression without parts
pub named_ok : (file : File) (locals : Locals) (site : Site) (n : Name) (typed : Result TExpr Untyped) → ((program : Program) (here : Here) → HasNames (names_at file locals site.known) here → IsSite site here → IsNamed program here n typed) → IfOk typed (λ t. (program : Program) (here : Here) → IsAround file locals site here → Types program here (E.Name n) t true)
named_ok file locals site n (Ok t) h = λ program here a. h program here a.names a.at_site
named_ok file locals site n (Err u) h = tt

pub at_site_ok : (file : File) (locals : Locals) (site : Site) (e : Expr) (typed : Result TExpr Untyped) → AtSite site e typed → IfOk typed (λ t. (program : Program) (here : Here) → IsAround file locals site here → Types program here e t true)
at_site_ok file locals site e (Ok t) h = λ program here a. h program here a.at_site
at_site_ok file locals site e (Err u) h = tt

pub number_types : (u : Bool) (elem : Elem) {program : Program} {here : Here} {p : Place} {value : ℕ} → elem ≡ (if u then unsigned else int) → Types program here (E.Number p value u) (T.Number (record { elem = elem; shape = None }) value) true
number_types u elem is = rw is X.number

pub getchar_types : (elem : Elem) {program : Program} {here : Here} {p : Place} → elem ≡ int → Types program here (E.GetChar p) (T.GetChar (record { elem = elem; shape = None })) true
getchar_types elem is = rw is X.getchar

-- ---- from typed parts to the whole

pub told_typed : {A : Type 0} (are : Program → Here → A → Type 0) (x : A) (file : File) (locals : Locals) (site : Site) (e : Expr) (typed : Result TExpr Untyped) (old new : Option Standing) (r : Option TypedExpr) → ((program : Program) (here : Here) → IsAround file locals site here → are program here x → IsAnswerOrMemory program here e typed) → IsOutcome typed old new r → IsTypedFrom are (Some x) file locals site e r
told_typed are x file locals site e (Ok t) old new None h m = tt
told_typed are x file locals site e (Ok t) old new (Some b) h m = λ program here a parts. rw (m.0, m.1) (h program here a parts)
told_typed are x file locals site e (Err u) old new None h m = tt
told_typed are x file locals site e (Err u) old new (Some b) h m = absurd m

pub if_answers : {A : Type 0} (are : Program → Here → A → Type 0) (x : A) (e : Expr) (typed : Result TExpr Untyped) → ((program : Program) (here : Here) → are program here x → IsAnswerOrMemory program here e typed) → IfOk typed (λ t. (program : Program) (here : Here) → are program here x → Types program here e t true)
if_answers are x e (Ok t) h = h
if_answers are x e (Err u) h = tt

pub extents_known : {file : File} {locals : Locals} {site : Site} {here : Here} (n : Name) (v : Variable) (ty : Names.VariableType) (shape : Option ℕ) → IsAround file locals site here → IsVariable here n v (variable_type ty) → ty.shape ≡ shape → HasExtents here shape
extents_known n v ty None a is of = tt
extents_known n v ty (Some s) a is of = let c = counted_shape a.few (a.known.of_variable n.word v (variable_type ty) s is of) in (c.extents, c.has_extents, c.few_axes)

pub no_array : (array : Option ℕ) → is_some array ≡ false → array ≡ None
no_array None is = refl
no_array (Some n) is = absurd (cc)

pub indexed_typed : (file : File) (locals : Locals) (site : Site) (p : Place) (n : Name) (given : Vec Expr Global) (v : Variable) (ty : Names.VariableType) (xs : Vec (Box TExpr Global) Global) (typed : Result TExpr Untyped) (old new : Option Standing) (r : Option TypedExpr) → IsVariableMeant false (find (names_at file locals site.known) n.word) (v, ty) → ((program : Program) (here : Here) (n : Name) (given : Vec Expr Global) → HasShapes file.shapes.items here → HasExtents here ty.shape → IsVariable here n v (variable_type ty) → ty.array ≡ None → TypesIndexes program here n 0 given.items (trees xs.items) → IsAnswerOrMemory program here (E.LeftIndex p given n) typed) → IsOutcome typed old new r → IsTypedFrom (λ program here xs. AreParts program here (E.LeftIndex p given n) xs) (Some xs) file locals site (E.LeftIndex p given n) r
indexed_typed file locals site p n given v ty xs typed old new r found h m =
    told_typed (λ program here xs. AreParts program here (E.LeftIndex p given n) xs) xs file locals site (E.LeftIndex p given n) typed old new r (λ program here a parts.
    let is : IsVariable here n v (variable_type ty) = a.names n.word ∙ found.0 in
    h program here n given a.shapes (extents_known n v ty ty.shape a is refl) is (no_array ty.array found.1) (subst (λ (es : List Expr). TypesIndexes program here n 0 es (trees xs.items)) (items_hidden-the_row-Expr-0 given) parts)) m

pub cast_typed : (file : File) (locals : Locals) (site : Site) (p : Place) (written : TypeName) (operand : Box Expr Global) (found : Result ValueType Untyped) (o : Option ValueType) (ty : ValueType) (x : Box TExpr Global) (typed : Result TExpr Untyped) (old new : Option Standing) (r : Option TypedExpr) → IsTypeAmong (names_at file locals site.known) site.current written found → o ≡ part_of found → o ≡ Some ty → ((program : Program) (here : Here) (written : TypeName) (e : Box Expr Global) → IsSite site here → written_type here written ≡ Some ty → Types program (part here) e.value x.value true → IsAnswerOrMemory program here (E.ParallelCast p written e) typed) → IsOutcome typed old new r → IsTypedFrom (λ program here x. IsPart program here operand.value x) (Some x) file locals site (E.ParallelCast p written operand) r
cast_typed file locals site p written operand found o ty x typed old new r among settled is h m =
    told_typed (λ program here x. IsPart program here operand.value x) x file locals site (E.ParallelCast p written operand) typed old new r (λ program here a part_typed.
    h program here written operand a.at_site (type_there written a ∙ type_found (names_at file locals site.known) site.current written found o ty among settled is) part_typed) m

pub element_typed : (file : File) (locals : Locals) (site : Site) (n : Name) (bracket : Place) (index : Box Expr Global) (v : Variable) (ty : Names.VariableType) (x : Box TExpr Global) (typed : Result TExpr Untyped) (old new : Option Standing) (r : Option TypedExpr) → IsVariableMeant true (find (names_at file locals site.known) n.word) (v, ty) → ((program : Program) (here : Here) (n' : Name) (length : ℕ) (i : Box Expr Global) → IsSite site here → n'.place ≡ n.place → IsVariable here n' v (variable_type ty) → ty.array ≡ Some length → Types program (part here) i.value x.value true → IsAnswer program here (E.Element n' bracket i) typed) → IsOutcome typed old new r → IsTypedFrom (λ program here x. IsPart program here index.value x) (Some x) file locals site (E.Element n bracket index) r
element_typed file locals site n bracket index v ty x typed old new r found h m =
    let array = some_in ty.array found.1 in
    told_typed (λ program here x. IsPart program here index.value x) x file locals site (E.Element n bracket index) typed old new r (λ program here a part_typed.
    answer_or_memory program here (E.Element n bracket index) typed (h program here n array.0 index a.at_site refl (a.names n.word ∙ found.0) array.1 part_typed)) m

-- ---- the whole from its walk

pub value_typed : (so_far : Instances) (file : File) (locals : Locals) (site at_part : Site) (e : Expr) (typed : Option TypedExpr) (valued : Result (Box TExpr Global) Untyped) (r : Option (Box TExpr Global)) → at_part ≡ record site { whole = false } → IsTyped so_far file locals at_part e typed → IfOk valued (λ x. typed ≡ Some (record { expr = x; has_value = true })) → r ≡ part_of valued → IsValue so_far file locals site e r
value_typed so_far file locals site at_part e typed valued None is h v settled = tt
value_typed so_far file locals site at_part e typed (Ok y) (Some x) is h v settled =
    let whole = subst (IsTyped so_far file locals at_part e) v h in
    let there = subst (λ (s : Site). IsTyped so_far file locals s e (Some (record { expr = y; has_value = true }))) is whole in
    λ program here a calls plain. rw (let k : x ≡ y = cc in k) (there program (part here) (in_part a) (moved here.dot false calls) plain)
value_typed so_far file locals site at_part e typed (Err u) (Some x) is h v settled = absurd (cc)

-- what was typed where less was met
pub value_later : {before so_far : Instances} (file : File) (locals : Locals) (site : Site) (e : Expr) (x : Option (Box TExpr Global)) → Grows file before so_far → IsValue before file locals site e x → IsValue so_far file locals site e x
value_later file locals site e None begins v = tt
value_later file locals site e (Some x) begins v = λ program here a calls plain. v program here a (earlier begins calls) plain

pub brackets_typed : (so_far : Instances) (file : File) (locals : Locals) (site : Site) (p : Place) (inner : Box Expr Global) (i r : Option TypedExpr) → IsTyped so_far file locals site inner.value i → AreBrackets i r → IsTyped so_far file locals site (E.Brackets p inner) r
unfolding IsPlain
brackets_typed so_far file locals site p inner i None h b = tt
brackets_typed so_far file locals site p inner None (Some t) h b = absurd b
brackets_typed so_far file locals site p inner (Some i) (Some t) h b = λ program here a calls plain. b program here p inner (h program here a (narrowed (in_brackets p inner) calls) plain)

-- an expression with one operand
pub from_operand : (so_far : Instances) (file : File) (locals : Locals) (site : Site) (e operand : Expr) (x : Option (Box TExpr Global)) (r : Option TypedExpr) → ((program : Program) (here : Here) (y : Box TExpr Global) → IsPart program here operand y → IsOperand program here e y) → AreCallsOf operand e → (IsPlain e → IsPlain operand) → IsValue so_far file locals site operand x → IsTypedFrom (λ program here x. IsOperand program here e x) x file locals site e r → IsTyped so_far file locals site e r
from_operand so_far file locals site e operand x None brings within plainly v h = tt
from_operand so_far file locals site e operand None (Some t) brings within plainly v h = absurd h
from_operand so_far file locals site e operand (Some x) (Some t) brings within plainly v h = λ program here a calls plain. h program here a (brings program here x (v program here a (narrowed within calls) (plainly plain)))

pub prefix_typed : (so_far : Instances) (file : File) (locals : Locals) (site : Site) (p : Place) (op : PrefixOp) (operand : Box Expr Global) (x : Option (Box TExpr Global)) (r : Option TypedExpr) → IsValue so_far file locals site operand.value x → IsTypedFrom (λ program here x. IsOperand program here (E.Prefix p op operand) x) x file locals site (E.Prefix p op operand) r → IsTyped so_far file locals site (E.Prefix p op operand) r
unfolding IsPlain
prefix_typed so_far file locals site p op operand x r = from_operand so_far file locals site (E.Prefix p op operand) operand.value x r (λ program here y h. h) (in_prefix p op operand) (λ plain. plain)

pub casts_typed : (so_far : Instances) (file : File) (locals : Locals) (site : Site) (chain : Vec Cast Global) (operand : Box Expr Global) (x : Option (Box TExpr Global)) (r : Option TypedExpr) → IsValue so_far file locals site operand.value x → IsTypedFrom (λ program here x. IsOperand program here (E.Casts chain operand) x) x file locals site (E.Casts chain operand) r → IsTyped so_far file locals site (E.Casts chain operand) r
unfolding IsPlain
casts_typed so_far file locals site chain operand x r = from_operand so_far file locals site (E.Casts chain operand) operand.value x r (λ program here y h. h) (in_casts chain operand) (λ plain. plain)

pub parallel_cast_typed : (so_far : Instances) (file : File) (locals : Locals) (site : Site) (p : Place) (written : TypeName) (operand : Box Expr Global) (x : Option (Box TExpr Global)) (r : Option TypedExpr) → IsValue so_far file locals site operand.value x → IsTypedFrom (λ program here x. IsOperand program here (E.ParallelCast p written operand) x) x file locals site (E.ParallelCast p written operand) r → IsTyped so_far file locals site (E.ParallelCast p written operand) r
unfolding IsPlain
parallel_cast_typed so_far file locals site p written operand x r = from_operand so_far file locals site (E.ParallelCast p written operand) operand.value x r (λ program here y h. h) (in_parallel_cast p written operand) (λ plain. plain)

pub postfix_typed : (so_far : Instances) (file : File) (locals : Locals) (site : Site) (p : Place) (op : StepOp) (operand : Box Expr Global) (x : Option (Box TExpr Global)) (r : Option TypedExpr) → IsValue so_far file locals site operand.value x → IsTypedFrom (λ program here x. IsOperand program here (E.Postfix p op operand) x) x file locals site (E.Postfix p op operand) r → IsTyped so_far file locals site (E.Postfix p op operand) r
unfolding IsPlain
postfix_typed so_far file locals site p op operand x r = from_operand so_far file locals site (E.Postfix p op operand) operand.value x r (λ program here y h. h) (in_postfix p op operand) (λ plain. plain)

pub at_index_typed : (so_far : Instances) (file : File) (locals : Locals) (site : Site) (n : Name) (p : Place) (index : Box Expr Global) (x : Option (Box TExpr Global)) (r : Option TypedExpr) → IsValue so_far file locals site index.value x → IsTypedFrom (λ program here x. IsOperand program here (E.Element n p index) x) x file locals site (E.Element n p index) r → IsTyped so_far file locals site (E.Element n p index) r
unfolding IsPlain
at_index_typed so_far file locals site n p index x r = from_operand so_far file locals site (E.Element n p index) index.value x r (λ program here y h. h) (in_element n p index) (λ plain. plain)

-- an expression with a list of parts
pub list_typed : {E : Type 0} (before so_far : Instances) (file : File) (locals : Locals) (site : Site) (e : Expr) (xs : Option (Vec (Box TExpr Global) Global)) (typed : Result (Option TypedExpr) E) → AreListed before file locals site e xs → OnOk typed (Grows file before so_far) → IfOk typed (IsTypedFromList so_far xs file locals site e) → IfOk typed (IsTyped so_far file locals site e)
list_typed before so_far file locals site e xs (Err error) l begins h = tt
list_typed before so_far file locals site e xs (Ok None) l begins h = tt
list_typed before so_far file locals site e None (Ok (Some t)) l begins h = absurd h
list_typed before so_far file locals site e (Some xs) (Ok (Some t)) l begins h = λ program here a calls plain. h program here a (l program here a (earlier begins calls) plain, calls)

-- what is typed of parts that are given, whatever is known of the calls
pub without_calls : (so_far : Instances) (parts : Option (Vec (Box TExpr Global) Global)) (file : File) (locals : Locals) (site : Site) (e : Expr) (r : Option TypedExpr) → IsTypedFrom (λ program here xs. AreParts program here e xs) parts file locals site e r → IsTypedFromList so_far parts file locals site e r
without_calls so_far parts file locals site e None h = tt
without_calls so_far None file locals site e (Some t) h = h
without_calls so_far (Some xs) file locals site e (Some t) h = λ program here a both. h program here a both.0

-- an expression with two operands, or three
pub both_typed : (so_far : Instances) (file : File) (locals : Locals) (site : Site) (p : Place) (op : BinaryOp) (left right : Box Expr Global) (x y : Option (Box TExpr Global)) (r : Option TypedExpr) → IsValue so_far file locals site left.value x → IsValue so_far file locals site right.value y → OnBoth x y (E.Binary p op) r → IsTyped so_far file locals site (E.Binary p op left right) r
unfolding IsPlain
both_typed so_far file locals site p op left right x y None v w h = tt
both_typed so_far file locals site p op left right (Some x) (Some y) (Some t) v w h = λ program here a calls plain. h program here left right (v program here a (narrowed (in_binary_left p op left right) calls) plain.0) (w program here a (narrowed (in_binary_right p op left right) calls) plain.1)
both_typed so_far file locals site p op left right None y (Some t) v w h = absurd h
both_typed so_far file locals site p op left right (Some x) None (Some t) v w h = absurd h

pub three_typed : (so_far : Instances) (file : File) (locals : Locals) (site : Site) (p : Place) (test second third : Box Expr Global) (x y z : Option (Box TExpr Global)) (r : Option TypedExpr) → IsValue so_far file locals site test.value x → IsValue so_far file locals site second.value y → IsValue so_far file locals site third.value z → OnThree x y z (E.Choice p) r → IsTyped so_far file locals site (E.Choice p test second third) r
unfolding IsPlain
three_typed so_far file locals site p test second third x y z None u v w h = tt
three_typed so_far file locals site p test second third (Some x) (Some y) (Some z) (Some t) u v w h = λ program here a calls plain. h program here test second third (u program here a (narrowed (in_choice_test p test second third) calls) plain.0) (v program here a (narrowed (in_choice_second p test second third) calls) plain.1) (w program here a (narrowed (in_choice_third p test second third) calls) plain.2)
three_typed so_far file locals site p test second third None y z (Some t) u v w h = absurd h
three_typed so_far file locals site p test second third (Some x) None z (Some t) u v w h = absurd h
three_typed so_far file locals site p test second third (Some x) (Some y) None (Some t) u v w h = absurd h

pub assigned_typed : (so_far : Instances) (file : File) (locals : Locals) (site : Site) (p : Place) (op : AssignOp) (target value : Box Expr Global) (x y : Option (Box TExpr Global)) (old new : Option Standing) (r : Option TypedExpr) → IsValue so_far file locals site target.value x → IsValue so_far file locals site value.value y → IsAssigned site p op x y old new r → IsTyped so_far file locals site (E.Assign p op target value) r
unfolding IsPlain
assigned_typed so_far file locals site p op target value x y old new None v w h = tt
assigned_typed so_far file locals site p op target value (Some x) (Some y) old new (Some t) v w h = λ program here a calls plain. (h program here target value a.at_site (v program here a (narrowed (in_assignment_target p op target value) calls) plain.0) (w program here a (narrowed (in_assignment_value p op target value) calls) plain.1)).0
assigned_typed so_far file locals site p op target value None y old new (Some t) v w h = absurd h
assigned_typed so_far file locals site p op target value (Some x) None old new (Some t) v w h = absurd h

-- ---- intrinsics along an axis

plain_words : (e : Expr) → IsPlain e → HasWords e
unfolding IsPlain HasWords
plain_words (E.Number p value u) h = h
plain_words (E.Brackets' p _ inner) h = plain_words inner h
plain_words (E.Casts' casts _ operand) h = plain_words operand h
plain_words (E.Prefix' p op _ operand) h = plain_words operand h
plain_words (E.Binary' p op _ left _ right) h = (plain_words left h.0, plain_words right h.1)
plain_words (E.Choice' p _ test _ second _ third) h = (plain_words test h.0, plain_words second h.1, plain_words third h.2)
plain_words _ h = tt

-- the number of a typed part is that of its text
pub number_there : (program : Program) (here : Here) (e : Expr) (x : TExpr) → HasFewPositions here → IsPlain e → Types program (part here) e x true → constant_number here e ≡ number_of_constant x
number_there program here e x few plain h = ap number_meant (sym (constant_in_part here e)) ∙ number_read (constant (part here) e) x (typed_as_written program h few (plain_words e plain))

axis_in_extents : (extents : List ℕ) (number : ℤ) {n : ℕ} → axis_in (length extents) number ≡ Some n → axis_among extents (Some number) ≡ Some n
axis_in_extents extents (pos n) is = is
axis_in_extents extents (negsuc n) is = is

along_of : {file : File} {locals : Locals} {site : Site} {program : Program} {here : Here} (axis : Expr) (x : TExpr) (number : Option ℤ) (current rank : Option ℕ) (place : Place) (found : Axis) → IsAround file locals site here → Types program (part here) axis x true → constant_number here axis ≡ number → here.current ≡ current → rank ≡ rank_under file.shapes.items current → IsAxisOf number rank place (Ok found) → IsAlong program here axis found
along_of axis x None current rank place found a h n c r is = absurd is
along_of axis x (Some number) None None place found a h n c r is = rw is (L.unknown c ((x, h), n))
along_of axis x (Some number) None (Some k) place found a h n c r is = absurd (cc)
along_of {file} {here = here} axis x (Some number) (Some s) None place found a h n c r is =
    let shape = counted_shape a.few (a.known.current s c) in
    let known = rank_is file.shapes.items here s a.shapes shape.has_extents shape.few_axes in
    absurd (let k = r ∙ known in cc)
along_of {file} {here = here} axis x (Some number) (Some s) (Some k) place found a h n c r is =
    let shape = counted_shape a.few (a.known.current s c) in
    let known = rank_is file.shapes.items here s a.shapes shape.has_extents shape.few_axes in
    let count : k ≡ length shape.extents = let both = r ∙ known in cc in
    rw is.1 (L.known c shape.has_extents ((x, h), n) (axis_in_extents shape.extents number (subst (λ (m : ℕ). axis_in m number ≡ Some is.0) count is.2)))

along_shape : {file : File} {locals : Locals} {site : Site} {here : Here} (axis : Expr) (x : TExpr) (number : Option ℤ) (s : ℕ) (rank named : Option ℕ) (place : Place) (found : Axis) (along : Along) → IsAround file locals site here → IsShape here s → constant_number here axis ≡ number → named ≡ Some s → rank ≡ rank_of (slice_get file.shapes.items s) → IsAxisOf number rank place (Ok found) → Some found ≡ Some along.axis → along.shape ≡ Some s → IsAlongShape here along named axis
along_shape axis x None s rank named place found along a shape n is r of goes has = absurd of
along_shape {file} {here = here} axis x (Some number) s None named place found along a shape n is r of goes has =
    let c = counted_shape a.few shape in
    let known = rank_is file.shapes.items here s a.shapes c.has_extents c.few_axes in
    absurd (let k = r ∙ known in cc)
along_shape {file} {here = here} axis x (Some number) s (Some k) named place found along a shape n is r of goes has =
    let c = counted_shape a.few shape in
    let known = rank_is file.shapes.items here s a.shapes c.has_extents c.few_axes in
    let count : k ≡ length c.extents = let both = r ∙ known in cc in
    record {
      number = of.0;
      extents = c.extents;
      of = s;
      named = is;
      found = has;
      has_extents = c.has_extents;
      axis_is = ap (axis_among c.extents) n ∙ axis_in_extents c.extents number (subst (λ (m : ℕ). axis_in m number ≡ Some of.0) count of.2);
      goes = (let e : along.axis ≡ found = cc in e) ∙ of.1;
    }

-- what is settled of an axis, and what is made of it
abbrev pub IsSettledAxis : Option (Box TExpr Global) → Option ℕ → Place → Axis → Type 0
IsSettledAxis axis rank place a = (x : Box TExpr Global) × (axis ≡ Some x) × IsAxisOf (number_of_constant x.value) rank place (Ok a)

abbrev pub IsKnownAlong : Option Axis → Option (Option Variable) → Option ℕ → Along → Type 0
IsKnownAlong axis bit shape a = (axis ≡ Some a.axis) × (bit ≡ Some a.bit) × (a.shape ≡ shape)

goes_by : {file : File} {locals : Locals} {site : Site} {program : Program} {here : Here} (written : Expr) (x : Box TExpr Global) (rank : Option ℕ) (place : Place) (b : Axis) (along : Along) → IsAround file locals site here → IsPlain written → IsPart program here written x → rank ≡ rank_under file.shapes.items site.current → IsAxisOf (number_of_constant x.value) rank place (Ok b) → Some b ≡ Some along.axis → IsAlong program here written along.axis
goes_by {program = program} {here = here} written x rank place b along a plain h r is goes =
    subst (IsAlong program here written) (let e : b ≡ along.axis = cc in e) (along_of written x.value (number_of_constant x.value) _ rank place b a h (number_there program here written x.value a.few plain h) a.at_site.current r is)

pub pcoord_along : (file : File) (locals : Locals) (site : Site) (p : Place) (written : Box Expr Global) (axis : Option (Box TExpr Global)) (rank : Option ℕ) (place : Place) (r : Option Axis) (bit : Option (Option Variable)) (shape : Option ℕ) (along : Option Along) → rank ≡ rank_under file.shapes.items site.current → IfSome r (IsSettledAxis axis rank place) → IfSome along (IsKnownAlong r bit shape) → AreFoundAlong file locals site (E.Pcoord p written) axis along
unfolding IsPlain
pcoord_along file locals site p written axis rank place r bit shape None under s k = tt
pcoord_along file locals site p written axis rank place None bit shape (Some along) under s k = absurd (cc)
pcoord_along file locals site p written axis rank place (Some b) bit shape (Some along) under s k =
    rw s.1 (λ program here a plain h. goes_by written.value s.0 rank place b along a plain h under s.2 k.0)

bits_found : (program : Program) (here : Here) (named : Option Name) (typed : Result (Option Variable) Untyped) (o : Option (Option Variable)) (v : Option Variable) → AreBitsNamed program here named typed → o ≡ part_of typed → o ≡ Some v → AreBits here named v
bits_found program here named (Ok b) o v are settled is = subst (AreBits here named) (let e : b ≡ v = cc in e) are
bits_found program here named (Err u) o v are settled is = absurd (cc)

abbrev AreNamedBits : File → Locals → Site → Option Name → Result (Option Variable) Untyped → Type 0
AreNamedBits file locals site written typed = (program : Program) (here : Here) → HasNames (names_at file locals site.known) here → IsSite site here → AreBitsNamed program here written typed

pub scan_along : (file : File) (locals : Locals) (site : Site) (p : Place) (source written : Box Expr Global) (combiner : Combiner) (direction : Direction) (mode : SegmentMode) (named : Option Name) (inclusion : Inclusion) (axis : Option (Box TExpr Global)) (rank : Option ℕ) (place : Place) (r : Option Axis) (typed : Result (Option Variable) Untyped) (bit : Option (Option Variable)) (shape : Option ℕ) (along : Option Along) → rank ≡ rank_under file.shapes.items site.current → IfSome r (IsSettledAxis axis rank place) → AreNamedBits file locals site named typed → bit ≡ part_of typed → IfSome along (IsKnownAlong r bit shape) → AreFoundAlong file locals site (E.Scan p source written combiner direction mode named inclusion) axis along
unfolding IsPlain
scan_along file locals site p source written combiner direction mode named reach axis rank place r typed bit shape None under s bits settled k = tt
scan_along file locals site p source written combiner direction mode named reach axis rank place None typed bit shape (Some along) under s bits settled k = absurd (cc)
scan_along file locals site p source written combiner direction mode named reach axis rank place (Some b) typed bit shape (Some along) under s bits settled k =
    rw s.1 (λ program here a plain h. (goes_by written.value s.0 rank place b along a plain.1 h under s.2 k.0, bits_found program here named typed bit along.bit (bits program here a.names a.at_site) settled k.1))

pub enumerate_along : (file : File) (locals : Locals) (site : Site) (p : Place) (written : Box Expr Global) (direction : Direction) (inclusion : Inclusion) (mode : SegmentMode) (named : Option Name) (axis : Option (Box TExpr Global)) (rank : Option ℕ) (place : Place) (r : Option Axis) (typed : Result (Option Variable) Untyped) (bit : Option (Option Variable)) (shape : Option ℕ) (along : Option Along) → rank ≡ rank_under file.shapes.items site.current → IfSome r (IsSettledAxis axis rank place) → AreNamedBits file locals site named typed → bit ≡ part_of typed → IfSome along (IsKnownAlong r bit shape) → AreFoundAlong file locals site (E.Enumerate p written direction inclusion mode named) axis along
unfolding IsPlain
enumerate_along file locals site p written direction reach mode named axis rank place r typed bit shape None under s bits settled k = tt
enumerate_along file locals site p written direction reach mode named axis rank place None typed bit shape (Some along) under s bits settled k = absurd (cc)
enumerate_along file locals site p written direction reach mode named axis rank place (Some b) typed bit shape (Some along) under s bits settled k =
    rw s.1 (λ program here a plain h. (goes_by written.value s.0 rank place b along a plain h under s.2 k.0, bits_found program here named typed bit along.bit (bits program here a.names a.at_site) settled k.1))

among_found : (names : List S.Binding) (current : Option ℕ) (written : ShapeRef) (typed : Result ℕ Untyped) (o : Option ℕ) (s : ℕ) → IsShapeAmong names current written typed → o ≡ part_of typed → o ≡ Some s → shape_among names current written ≡ Some s
among_found names current written (Ok t) o s is settled found = is ∙ (let e : Some t ≡ Some s = cc in e)
among_found names current written (Err u) o s is settled found = absurd (cc)

pub dim_along : (file : File) (locals : Locals) (site : Site) (p : Place) (shape_written : ShapeRef) (written : Box Expr Global) (axis : Option (Box TExpr Global)) (typed : Result ℕ Untyped) (shape : Option ℕ) (s : ℕ) (rank : Option ℕ) (place : Place) (r : Option Axis) (bit : Option (Option Variable)) (along : Option Along) → IsShapeAmong (names_at file locals site.known) site.current shape_written typed → shape ≡ part_of typed → shape ≡ Some s → rank ≡ rank_under file.shapes.items shape → IfSome r (IsSettledAxis axis rank place) → IfSome along (IsKnownAlong r bit shape) → AreFoundAlong file locals site (E.DimOf p shape_written written) axis along
unfolding IsPlain
dim_along file locals site p shape_written written axis typed shape s rank place r bit None among settled is under t k = tt
dim_along file locals site p shape_written written axis typed shape s rank place None bit (Some along) among settled is under t k = absurd (cc)
dim_along file locals site p shape_written written axis typed shape s rank place (Some b) bit (Some along) among settled is under t k =
    rw t.1 (λ program here a plain h.
    let named = shape_found shape_written a (among_found (names_at file locals site.known) site.current shape_written typed shape s among settled is) in
    along_shape written.value t.0.value (number_of_constant t.0.value) s rank (shape_of here shape_written) place b along a (is_shape shape_written a named) (number_there program here written.value t.0.value a.few plain h) named (under ∙ ap (rank_under file.shapes.items) is) t.2 k.0 (k.2 ∙ is))

pub told_along : (file : File) (locals : Locals) (site : Site) (e : Expr) (along : Along) (source : Option (Box TExpr Global)) (typed : Result TExpr Untyped) (old new : Option Standing) (r : Option TypedExpr) → IfOk typed (λ t. HasItsSource e source) → IfOk typed (λ t. (program : Program) (here : Here) → IsAround file locals site here → IsFoundAlong program here e along → IsSource program here e source → Types program here e t true) → IsOutcome typed old new r → IsTypedAlong file locals site e along source r
told_along file locals site e along source (Ok t) old new None s h m = tt
told_along file locals site e along source (Ok t) old new (Some b) s h m = (s, λ program here a found is. rw (m.0, m.1) (h program here a found is))
told_along file locals site e along source (Err u) old new None s h m = tt
told_along file locals site e along source (Err u) old new (Some b) s h m = absurd m

-- an intrinsic from its axis and its source
from_axis : (so_far : Instances) (file : File) (locals : Locals) (site : Site) (e axis : Expr) (x : Option (Box TExpr Global)) (found : Option Along) (along : Along) (source : Option (Box TExpr Global)) (r : Option TypedExpr) → ((program : Program) (here : Here) (y : Box TExpr Global) → IsPart program here axis y → IsAxisTyped program here e y) → AreCallsOf axis e → (IsPlain e → IsPlain axis) → (HasItsSource e source → (program : Program) (here : Here) → IsAround file locals site here → HasItsCalls so_far file program here e → IsPlain e → IsSource program here e source) → IsValue so_far file locals site axis x → AreFoundAlong file locals site e x found → found ≡ Some along → IsTypedAlong file locals site e along source r → IsTyped so_far file locals site e r
from_axis so_far file locals site e axis x found along source None brings within plainly has v f is h = tt
from_axis so_far file locals site e axis None None along source (Some t) brings within plainly has v f is h = absurd (cc)
from_axis so_far file locals site e axis None (Some b) along source (Some t) brings within plainly has v f is h = absurd f
from_axis so_far file locals site e axis (Some x) None along source (Some t) brings within plainly has v f is h = absurd (cc)
from_axis so_far file locals site e axis (Some x) (Some b) along source (Some t) brings within plainly has v f is h = λ program here a calls plain.
    let goes = subst (IsFoundAlong program here e) (let k : b ≡ along = cc in k) (f program here a plain (brings program here x (v program here a (narrowed within calls) (plainly plain)))) in
    h.1 program here a goes (has h.0 program here a calls plain)

pub pcoord_typed : (so_far : Instances) (file : File) (locals : Locals) (site : Site) (p : Place) (axis : Box Expr Global) (x : Option (Box TExpr Global)) (found : Option Along) (along : Along) (source : Option (Box TExpr Global)) (r : Option TypedExpr) → IsValue so_far file locals site axis.value x → AreFoundAlong file locals site (E.Pcoord p axis) x found → found ≡ Some along → IsSourceValue so_far file locals site (E.Pcoord p axis) source → IsTypedAlong file locals site (E.Pcoord p axis) along source r → IsTyped so_far file locals site (E.Pcoord p axis) r
unfolding IsPlain
pcoord_typed so_far file locals site p axis x found along source r v f is s h = from_axis so_far file locals site (E.Pcoord p axis) axis.value x found along source r (λ program here y k. k) (in_pcoord p axis) (λ plain. plain) (λ has program here a calls plain. tt) v f is h

pub dim_typed : (so_far : Instances) (file : File) (locals : Locals) (site : Site) (p : Place) (shape : ShapeRef) (axis : Box Expr Global) (x : Option (Box TExpr Global)) (found : Option Along) (along : Along) (source : Option (Box TExpr Global)) (r : Option TypedExpr) → IsValue so_far file locals site axis.value x → AreFoundAlong file locals site (E.DimOf p shape axis) x found → found ≡ Some along → IsSourceValue so_far file locals site (E.DimOf p shape axis) source → IsTypedAlong file locals site (E.DimOf p shape axis) along source r → IsTyped so_far file locals site (E.DimOf p shape axis) r
unfolding IsPlain
dim_typed so_far file locals site p shape axis x found along source r v f is s h = from_axis so_far file locals site (E.DimOf p shape axis) axis.value x found along source r (λ program here y k. k) (in_dim p shape axis) (λ plain. plain) (λ has program here a calls plain. tt) v f is h

pub enumerate_typed : (so_far : Instances) (file : File) (locals : Locals) (site : Site) (p : Place) (axis : Box Expr Global) (direction : Direction) (reach : Inclusion) (mode : SegmentMode) (bit : Option Name) (x : Option (Box TExpr Global)) (found : Option Along) (along : Along) (source : Option (Box TExpr Global)) (r : Option TypedExpr) → IsValue so_far file locals site axis.value x → AreFoundAlong file locals site (E.Enumerate p axis direction reach mode bit) x found → found ≡ Some along → IsSourceValue so_far file locals site (E.Enumerate p axis direction reach mode bit) source → IsTypedAlong file locals site (E.Enumerate p axis direction reach mode bit) along source r → IsTyped so_far file locals site (E.Enumerate p axis direction reach mode bit) r
unfolding IsPlain
enumerate_typed so_far file locals site p axis direction reach mode bit x found along source r v f is s h = from_axis so_far file locals site (E.Enumerate p axis direction reach mode bit) axis.value x found along source r (λ program here y k. k) (in_enumerate p axis direction reach mode bit) (λ plain. plain) (λ has program here a calls plain. tt) v f is h

source_there : (so_far : Instances) (file : File) (locals : Locals) (site : Site) (p : Place) (from axis : Box Expr Global) (combiner : Combiner) (direction : Direction) (mode : SegmentMode) (bit : Option Name) (reach : Inclusion) (source : Option (Box TExpr Global)) → IsValue so_far file locals site from.value source → HasItsSource (E.Scan p from axis combiner direction mode bit reach) source → (program : Program) (here : Here) → IsAround file locals site here → HasItsCalls so_far file program here (E.Scan p from axis combiner direction mode bit reach) → IsPlain (E.Scan p from axis combiner direction mode bit reach) → IsSource program here (E.Scan p from axis combiner direction mode bit reach) source
unfolding IsPlain
source_there so_far file locals site p from axis combiner direction mode bit reach None v has program here a calls plain = has
source_there so_far file locals site p from axis combiner direction mode bit reach (Some y) v has program here a calls plain = v program here a (narrowed (in_scan_source p from axis combiner direction mode bit reach) calls) plain.0

pub scan_typed : (so_far : Instances) (file : File) (locals : Locals) (site : Site) (p : Place) (from axis : Box Expr Global) (combiner : Combiner) (direction : Direction) (mode : SegmentMode) (bit : Option Name) (reach : Inclusion) (x : Option (Box TExpr Global)) (found : Option Along) (along : Along) (source : Option (Box TExpr Global)) (r : Option TypedExpr) → IsValue so_far file locals site axis.value x → AreFoundAlong file locals site (E.Scan p from axis combiner direction mode bit reach) x found → found ≡ Some along → IsSourceValue so_far file locals site (E.Scan p from axis combiner direction mode bit reach) source → IsTypedAlong file locals site (E.Scan p from axis combiner direction mode bit reach) along source r → IsTyped so_far file locals site (E.Scan p from axis combiner direction mode bit reach) r
unfolding IsPlain
scan_typed so_far file locals site p from axis combiner direction mode bit reach x found along source r v f is s h =
    from_axis so_far file locals site (E.Scan p from axis combiner direction mode bit reach) axis.value x found along source r (λ program here y k. k) (in_scan_axis p from axis combiner direction mode bit reach) (λ plain. plain.1) (source_there so_far file locals site p from axis combiner direction mode bit reach source s) v f is h

pub if_answer : (P : Program → Here → Type 0) (e : Expr) (typed : Result TExpr Untyped) → ((program : Program) (here : Here) → P program here → IsAnswerOrMemory program here e typed) → IfOk typed (λ t. (program : Program) (here : Here) → P program here → Types program here e t true)
if_answer P e (Ok t) h = h
if_answer P e (Err u) h = tt

pub dim_ok : (file : File) (locals : Locals) (site : Site) (p : Place) (written : ShapeRef) (axis : Box Expr Global) (along : Along) (source : Option (Box TExpr Global)) (s : ℕ) (typed : Result TExpr Untyped) → along.shape ≡ Some s → ((program : Program) (here : Here) (place : Place) (written : ShapeRef) (axis : Box Expr Global) (extents : List ℕ) (number : ℕ) → HasShapes file.shapes.items here → shape_of here written ≡ Some s → extents_of here s ≡ Some extents → axis_of here extents axis.value ≡ Some number → along.axis ≡ A.Number number → IsAnswer program here (E.DimOf place written axis) typed) → IfOk typed (λ t. (program : Program) (here : Here) → IsAround file locals site here → IsFoundAlong program here (E.DimOf p written axis) along → IsSource program here (E.DimOf p written axis) source → Types program here (E.DimOf p written axis) t true)
dim_ok file locals site p written axis along source s (Ok t) has h = λ program here a k none.
    let same : k.of ≡ s = let both = sym k.found ∙ has in cc in
    h program here p written axis k.extents k.number a.shapes (k.named ∙ ap (λ (n : ℕ). Some n) same) (subst (λ (n : ℕ). extents_of here n ≡ Some k.extents) same k.has_extents) k.axis_is k.goes
dim_ok file locals site p written axis along source s (Err u) has h = tt
