-- Lists of parts in the walk over an expression: the arguments of a call or of `printf`, and the
-- indexes of a left index.
use Rattle.std.proofs.Common.{◌≡◌, ◌<◌, ◌+◌, ◌-◌, ◌^◌, ℕ, suc, min, Bool, true, false, List, [], ◌∷◌, ◌++◌, get_or, length, take, Option, Some, None, Box, Vec, arith, refl, sym, ap, subst, ◌∙◌}
use Rattle.std.specs.List.{All}
use Rattle.std.specs.declared.alloc.Global.{Global}
use Rattle.std.proofs.Math.Seq.{take-length, take-suc}
use Rattle.std.proofs.lemmas.List.{length-take, map-append}
use Rattle.std.proofs.lemmas.List.Elements.{All-nil, All-cons, All-get_or}
use mathlib.Core.Former.{Count}
use Rattle.cstar_base.specs.declared.operators.Place.{Place}
use Rattle.cstar_tree.specs.declared.syntax.Expr.{Expr, Row_of-Expr, end_of-Expr, more_of-Expr, items-the_row-Expr, items_hidden-the_row-Expr-0}
use Rattle.cstar_tree.specs.declared.syntax.Expr as E
use Rattle.cstar_tree.specs.declared.syntax.Name.{Name}
use Rattle.cstar_tree.specs.declared.typed.TExpr.{TExpr}
use Rattle.cstar_tree.specs.ExpressionTypes.{Types, TypesEach, TypesIndexes}
use Rattle.cstar_tree.specs.ExpressionTypes as X
use Rattle.cstar_tree.specs.Headers.{Program}
use Rattle.cstar_tree.specs.Scopes.{Here, extents_of, find, index_place, meaning, part, stands_under}
use Rattle.type_scopes.specs.FileBindings.{names_at}
use Rattle.type_scopes.specs.declared.file.File.{File}
use Rattle.type_scopes.specs.declared.locals.Locals.{Locals}
use Rattle.type_scopes.specs.declared.sites.Site.{Site}
use Rattle.type_expressions.specs.Answers.{trees}
use Rattle.type_expressions.specs.Instances.{Grows}
use Rattle.type_expressions.specs.Programs.{HasItsCalls}
use Rattle.type_expressions.specs.declared.found.Instances.{Instances}
use Rattle.type_expressions.specs.Walks.{AreListed, AreMore, IsAround, IsPlain, ArePlain, IsValue, dot_at}
use Rattle.type_expressions.proofs.CallsWithin.{earlier, in_call, in_left_index, in_printf, moved, narrowed}

abbrev pub IsLeftIndexOf : Expr → Name → Type 0
IsLeftIndexOf e n = (p : Place) × (indexes : Vec Expr Global) × (e ≡ E.LeftIndex p indexes n)

-- of a left index it is told whether its variable is of the current shape
abbrev pub IsToldIndexed : File → Locals → Site → Expr → Option Bool → Type 0
IsToldIndexed file locals site e None = Unit {0}
IsToldIndexed file locals site e (Some b) = (n : Name) → IsLeftIndexOf e n → b ≡ stands_under site.current (find (names_at file locals site.known) n.word)

abbrev AreTyped : Program → Here → Expr → Option Bool → List Expr → List TExpr → Type 0
AreTyped program here e None es ts = TypesEach program (part here) es ts
AreTyped program here e (Some b) es ts = (n : Name) → IsLeftIndexOf e n → TypesIndexes program here n 0 es ts

abbrev AreFew : Option Bool → List Expr → Type 0
AreFew None items = Unit {0}
AreFew (Some b) items = length items < 2 ^ 32

-- the first so many of the parts have become these trees
abbrev pub AreListedTo : Instances → File → Locals → Site → Expr → Option Bool → List Expr → ℕ → Option (Vec (Box TExpr Global) Global) → Type 0
AreListedTo so_far file locals site e indexed items k None = Unit {0}
AreListedTo so_far file locals site e indexed items k (Some xs) = (program : Program) (here : Here) → IsAround file locals site here → All (HasItsCalls so_far file program here) items → All IsPlain items → AreFew indexed items → AreTyped program here e indexed (take k items) (trees xs.items)

abbrev left_name : Expr → Option Name
left_name (E.LeftIndex' p _ indexes n) = Some n
left_name _ = None

pub told_left : (file : File) (locals : Locals) (site : Site) (e : Expr) (p : Place) (indexes : Vec Expr Global) (n : Name) (b : Bool) → e ≡ E.LeftIndex p indexes n → b ≡ stands_under site.current (find (names_at file locals site.known) n.word) → IsToldIndexed file locals site e (Some b)
told_left file locals site e p indexes n b is told = λ m left.
    let names : Some n ≡ Some m = ap left_name (sym is ∙ left.2) in
    told ∙ ap (λ (k : Name). stands_under site.current (find (names_at file locals site.known) k.word)) (let k : n ≡ m = cc in k)

none_typed : (program : Program) (here : Here) (e : Expr) (indexed : Option Bool) → AreTyped program here e indexed [] []
none_typed program here e None = X.no_expression
none_typed program here e (Some b) = λ n left. X.no_index

pub none_listed : (so_far : Instances) (file : File) (locals : Locals) (site : Site) (e : Expr) (indexed : Option Bool) (items : List Expr) (xs : Vec (Box TExpr Global) Global) → xs.items ≡ [] → AreListedTo so_far file locals site e indexed items 0 (Some xs)
none_listed so_far file locals site e indexed items xs empty = λ program here a calls plain few. rw empty (none_typed program here e indexed)

-- ---- one part more

-- the place of a part of a list
pub around_dot : {file : File} {locals : Locals} {site : Site} (here : Here) (dot : Option ℕ) → IsAround file locals site here → IsAround file locals (record site { dot = dot }) (record here { dot = dot })
unfolding meaning extents_of
around_dot here dot a = record {
  at_site = record { current = a.at_site.current; around = a.at_site.around; dot = refl; whole = a.at_site.whole };
  names = a.names;
  shapes = a.shapes;
  known = record { named = a.known.named; of_variable = a.known.of_variable; current = a.known.current };
  few = a.few;
}

pub index_is : (here : Here) (n : Name) (k : ℕ) (b : Bool) → b ≡ stands_under here.current (meaning here n.word) → index_place here n.word k ≡ part (record here { dot = dot_at (Some b) here.dot k })
unfolding index_place
index_is here n k true is = rw (sym is) refl
index_is here n k false is = rw (sym is) refl

each_more : {program : Program} {here : Here} {es : List Expr} {ts : List TExpr} {e : Expr} {t : TExpr} → TypesEach program here es ts → Types program here e t true → TypesEach program here (es ++ e ∷ []) (ts ++ t ∷ [])
each_more X.no_expression h = X.next_expression h X.no_expression
each_more (X.next_expression k rest) h = X.next_expression k (each_more rest h)

indexes_more : {program : Program} {here : Here} {n : Name} {e : Expr} {t : TExpr} {from : ℕ} {es : List Expr} {ts : List TExpr} (count : ℕ) → TypesIndexes program here n from es ts → count ≡ from + length es → Types program (index_place here n.word count) e t true → TypesIndexes program here n from (es ++ e ∷ []) (ts ++ t ∷ [])
indexes_more {program = program} {here = here} {n = n} {e = e} {t = t} {from = from} count X.no_index is h =
    X.next_index (subst (λ (m : ℕ). Types program (index_place here n.word m) e t true) (let k : count ≡ from = omega (arith, is) in k) h) X.no_index
indexes_more {from = from} count (X.next_index {es = es} k rest) is h = X.next_index k (indexes_more count rest (omega (arith, is)) h)

typed_more : (so_far : Instances) (file : File) (locals : Locals) (site : Site) (e : Expr) (indexed : Option Bool) (items es : List Expr) (k axis : ℕ) (x : Expr) (y : Box TExpr Global) (ts : List TExpr) (program : Program) (here : Here) → IsAround file locals site here → length es ≡ k → k < length items → axis ≡ min k (2 ^ 32 - 1) → AreFew indexed items → HasItsCalls so_far file program here x → IsPlain x → IsToldIndexed file locals site e indexed → IsValue so_far file locals (record site { dot = dot_at indexed site.dot axis }) x (Some y) → AreTyped program here e indexed es ts → AreTyped program here e indexed (es ++ x ∷ []) (ts ++ y.value ∷ [])
typed_more so_far file locals site e None items es k axis x y ts program here a count within axis_is few calls plain told v h = each_more h (v program here a calls plain)
typed_more so_far file locals site e (Some b) items es k axis x y ts program here a count within axis_is few calls plain told v h = λ n left.
    let same : axis ≡ k = omega (arith, axis_is, within, few) in
    let current : b ≡ stands_under here.current (meaning here n.word) = told n left ∙ (ap (λ (c : Option ℕ). stands_under c (find (names_at file locals site.known) n.word)) (sym a.at_site.current) ∙ ap (stands_under here.current) (sym (a.names n.word))) in
    let there = v program (record here { dot = dot_at (Some b) here.dot axis }) (at_dot b a) (moved (dot_at (Some b) here.dot axis) here.whole calls) plain in
    indexes_more axis (h n left) (omega (arith, same, count)) (subst (λ (place : Here). Types program place x y.value true) (sym (index_is here n axis b current)) there)
  where
    at_dot : (b : Bool) → IsAround file locals site here → IsAround file locals (record site { dot = dot_at (Some b) site.dot axis }) (record here { dot = dot_at (Some b) here.dot axis })
    at_dot true a = around_dot here (Some axis) a
    at_dot false a = around_dot here None a

trees_more : (values : List (Box TExpr Global)) (x : Box TExpr Global) → trees (values ++ x ∷ []) ≡ trees values ++ x.value ∷ []
trees_more values x = map-append (λ (b : Box TExpr Global). b.value) values (x ∷ [])

-- the first so many, and one more
pub take_more : (items : List Expr) (k : ℕ) (x : Expr) → k < length items → x ≡ get_or items k x → take (k + 1) items ≡ take k items ++ x ∷ []
take_more items k x within is =
    let next : k + 1 ≡ suc k = omega arith in
    ap (λ (m : ℕ). take m items) next ∙ (take-suc items k x within ∙ ap (λ (z : Expr). take k items ++ z ∷ []) (sym is))

pub listed_more : (so_far : Instances) (file : File) (locals : Locals) (site : Site) (e : Expr) (indexed : Option Bool) (items : List Expr) (k axis : ℕ) (x : Expr) (typed : Option (Box TExpr Global)) (old new : Option (Vec (Box TExpr Global) Global)) → k < length items → x ≡ get_or items k x → axis ≡ min k (2 ^ 32 - 1) → IsToldIndexed file locals site e indexed → IsValue so_far file locals (record site { dot = dot_at indexed site.dot axis }) x typed → AreMore old typed new → AreListedTo so_far file locals site e indexed items k old → AreListedTo so_far file locals site e indexed items (k + 1) new
listed_more so_far file locals site e indexed items k axis x typed old None within is axis_is told v more h = tt
listed_more so_far file locals site e indexed items k axis x typed None (Some ys) within is axis_is told v more h = absurd more
listed_more so_far file locals site e indexed items k axis x None (Some xs) (Some ys) within is axis_is told v more h = absurd more
listed_more so_far file locals site e indexed items k axis x (Some y) (Some xs) (Some ys) within is axis_is told v more h = λ program here a calls plain few.
    let all = take_more items k x within is in
    let values = ap trees more ∙ trees_more xs.items y in
    let plain_x = subst IsPlain (sym is) (All-get_or IsPlain items k x within plain) in
    let calls_x = subst (HasItsCalls so_far file program here) (sym is) (All-get_or (HasItsCalls so_far file program here) items k x within calls) in
    let typed = typed_more so_far file locals site e indexed items (take k items) k axis x y (trees xs.items) program here a (omega (arith, length-take k items, within)) within axis_is few calls_x plain_x told v (h program here a calls plain few) in
    subst (λ (es : List Expr). AreTyped program here e indexed es (trees ys.items)) (sym all) (subst (AreTyped program here e indexed (take k items ++ x ∷ [])) (sym values) typed)

-- ---- the whole list

pub row_plain : (n : Count) (row : Row_of-Expr n) → ArePlain row → All IsPlain (items-the_row-Expr n row)
unfolding ArePlain
row_plain n end_of-Expr plain = All-nil IsPlain
row_plain n (more_of-Expr e rest) plain = All-cons IsPlain e _ plain.0 (row_plain _ rest plain.1)

abbrev pub written_row : Expr → (n : Count) × Row_of-Expr n
written_row (E.LeftIndex' _ _ row _) = (_, row)
written_row (E.Call' _ _ row) = (_, row)
written_row (E.Printf' _ _ _ row) = (_, row)
written_row _ = (_, end_of-Expr)

pub indexes_listed : (so_far : Instances) (file : File) (locals : Locals) (site : Site) (p : Place) (indexes : Vec Expr Global) (n : Name) (b : Bool) (r : Option (Vec (Box TExpr Global) Global)) → AreListedTo so_far file locals site (E.LeftIndex p indexes n) (Some b) indexes.items (length indexes.items) r → AreListed so_far file locals site (E.LeftIndex p indexes n) r
unfolding IsPlain
indexes_listed so_far file locals site p indexes n b None h = tt
indexes_listed so_far file locals site p indexes n b (Some xs) h = λ program here a calls plain.
    let row = items_hidden-the_row-Expr-0 indexes in
    let node = written_row (E.LeftIndex p indexes n) in
    let each = subst (All IsPlain) row (row_plain node.0 node.1 plain.1) in
    let few = subst (λ (es : List Expr). length es < 2 ^ 32) row plain.0 in
    let typed = h program here a (λ k d within. narrowed (in_left_index p indexes n k d within) calls) each few n (p, indexes, refl) in
    subst (λ (es : List Expr). TypesIndexes program here n 0 es (trees xs.items)) (take-length indexes.items ∙ sym row) typed

pub printed_listed : (so_far : Instances) (file : File) (locals : Locals) (site : Site) (p : Place) (text : List ℕ) (arguments : Vec Expr Global) (r : Option (Vec (Box TExpr Global) Global)) → AreListedTo so_far file locals site (E.Printf p text arguments) None arguments.items (length arguments.items) r → AreListed so_far file locals site (E.Printf p text arguments) r
unfolding IsPlain
printed_listed so_far file locals site p text arguments None h = tt
printed_listed so_far file locals site p text arguments (Some xs) h = λ program here a calls plain.
    let row = items_hidden-the_row-Expr-0 arguments in
    let node = written_row (E.Printf p text arguments) in
    let each = subst (All IsPlain) row (row_plain node.0 node.1 plain) in
    subst (λ (es : List Expr). TypesEach program (part here) es (trees xs.items)) (take-length arguments.items ∙ sym row) (h program here a (λ k d within. narrowed (in_printf p text arguments k d within) calls) each tt)

pub call_listed : (so_far : Instances) (file : File) (locals : Locals) (site : Site) (n : Name) (arguments : Vec Expr Global) (r : Option (Vec (Box TExpr Global) Global)) → AreListedTo so_far file locals site (E.Call n arguments) None arguments.items (length arguments.items) r → AreListed so_far file locals site (E.Call n arguments) r
unfolding IsPlain
call_listed so_far file locals site n arguments None h = tt
call_listed so_far file locals site n arguments (Some xs) h = λ program here a calls plain.
    let row = items_hidden-the_row-Expr-0 arguments in
    let node = written_row (E.Call n arguments) in
    let each = subst (All IsPlain) row (row_plain node.0 node.1 plain) in
    subst (λ (es : List Expr). TypesEach program (part here) es (trees xs.items)) (take-length arguments.items ∙ sym row) (h program here a (λ k d within. narrowed (in_call n arguments k d within) calls) each tt)

-- what was listed where less was met
pub listed_to_later : {before so_far : Instances} (file : File) (locals : Locals) (site : Site) (e : Expr) (indexed : Option Bool) (items : List Expr) (k : ℕ) (xs : Option (Vec (Box TExpr Global) Global)) → Grows file before so_far → AreListedTo before file locals site e indexed items k xs → AreListedTo so_far file locals site e indexed items k xs
listed_to_later file locals site e indexed items k None begins h = tt
listed_to_later file locals site e indexed items k (Some xs) begins h = λ program here a calls plain few. h program here a (λ n d within. earlier begins (calls n d within)) plain few
