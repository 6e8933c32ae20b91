-- What the walk records of intrinsics along an axis, and of lists of parts.
use Rattle.std.proofs.Common.{◌≡◌, ◌&&◌, ◌<◌, ◌^◌, ◌-◌, ◌⊎◌, inl, inr, ℕ, min, Bool, true, false, List, get_or, length, Option, Some, None, IfSome, Box, Vec, arith, refl, sym, ap, subst, ◌∙◌, true≢false}
use Rattle.std.proofs.lemmas.List.Elements.{All-get_or}
use Rattle.std.proofs.lemmas.Option.{slice_get-get_or}
use Rattle.std.specs.List.{All, slice_get}
use Rattle.std.specs.Option.{is_some}
use Rattle.std.specs.declared.alloc.Global.{Global}
use Rattle.cstar_base.specs.declared.operators.Combiner.{Combiner}
use Rattle.cstar_base.specs.declared.operators.Direction.{Direction}
use Rattle.cstar_base.specs.declared.operators.Inclusion.{Inclusion}
use Rattle.cstar_base.specs.declared.operators.Place.{Place}
use Rattle.cstar_base.specs.declared.operators.SegmentMode.{SegmentMode}
use Rattle.cstar_tree.specs.declared.syntax.Expr.{Expr, items_hidden-the_row-Expr-0}
use Rattle.cstar_tree.specs.declared.syntax.Expr as E
use Rattle.cstar_tree.specs.declared.syntax.Name.{Name}
use Rattle.cstar_tree.specs.declared.syntax.ShapeRef.{ShapeRef}
use Rattle.cstar_tree.specs.declared.typed.TExpr.{TExpr}
use Rattle.cstar_tree.specs.ExpressionFaults as F
use Rattle.cstar_tree.specs.Headers.{Program}
use Rattle.cstar_tree.specs.Scopes.{Here, find, index_place, meaning, part, stands_under}
use Rattle.type_scopes.specs.FileBindings.{names_at}
use Rattle.type_scopes.specs.declared.file.File.{File}
use Rattle.type_scopes.specs.declared.locals.Locals.{Locals}
use Rattle.type_scopes.specs.declared.sites.Site.{Site}
use Rattle.type_scopes.specs.declared.standing.Standing.{Standing}
use Rattle.type_expressions.specs.Programs.{HasItsCalls}
use Rattle.type_expressions.specs.Recorded.{Finds, FindsValue, HasList, HasOperands, IsLeaf, TellsAt, has_source}
use Rattle.type_expressions.specs.Walks.{AreFoundAlong, IsAround, IsAxisTyped, IsFoundAlong, IsPart, IsPlain, IsSource, IsValue, dot_at}
use Rattle.type_expressions.specs.declared.along.Along.{Along}
use Rattle.type_expressions.specs.declared.found.Instances.{Instances}
use Rattle.type_expressions.specs.declared.found.TypedExpr.{TypedExpr}
use Rattle.type_expressions.proofs.CallsWithin.{AreCallsOf, in_call, in_left_index, in_printf, moved, narrowed}
use Rattle.type_expressions.proofs.NodeCalls as N
use Rattle.type_expressions.proofs.Listing.{around_dot, index_is, row_plain, written_row}
use Rattle.type_expressions.proofs.Recording.{one_of, tells_both, tells_of_part, tells_same, tells_then}
use Rattle.type_expressions.proofs.WalkRecording.{IsPartOf, dim_part, enumerate_part, finds_part, pcoord_part, scan_part, some_into, source_part, value_there}

-- ---- intrinsics along an axis

-- what is answered for what it goes along, and what it then becomes
abbrev FindsAlong : File → Locals → Site → Expr → Option (Box TExpr Global) → Option Along → Option Standing → Option Standing → Type 0
FindsAlong file locals site e axis along old new = (program : Program) (here : Here) → IsAround file locals site here → IsPlain e → IfSome axis (IsAxisTyped program here e) → TellsAt program here e (is_some axis ≡ false) (is_some along) old new

abbrev FindsItself : File → Locals → Site → Expr → Along → Option (Box TExpr Global) → Option TypedExpr → Option Standing → Option Standing → Type 0
FindsItself file locals site e along source r old new = (program : Program) (here : Here) → IsAround file locals site here → IsFoundAlong program here e along → (has_source e source ≡ true → IsSource program here e source) → TellsAt program here e (has_source e source ≡ false) (is_some r) old new

along_there : (file : File) (locals : Locals) (site : Site) (e : Expr) (x : Option (Box TExpr Global)) (found : Option Along) (along : Along) (program : Program) (here : Here) → AreFoundAlong file locals site e x found → found ≡ Some along → IsAround file locals site here → IsPlain e → IfSome x (IsAxisTyped program here e) → IsFoundAlong program here e along
along_there file locals site e x None along program here f is a plain typed = absurd (cc)
along_there file locals site e None (Some b) along program here f is a plain typed = absurd f
along_there file locals site e (Some x) (Some b) along program here f is a plain typed = subst (IsFoundAlong program here e) (let k : b ≡ along = cc in k) (f program here a plain typed)

-- its source and its axis, and what it goes along
parts_find : (so_far : Instances) (file : File) (locals : Locals) (site : Site) (e axis : Expr) (source x : Option (Box TExpr Global)) (found : Option Along) (typed : Bool) (old first second third : Option Standing) → IsPartOf e axis → ((program : Program) (here : Here) (y : Box TExpr Global) → IsPart program here axis y → IsAxisTyped program here e y) → Finds so_far file locals site e (has_source e source) old first → IsValue so_far file locals site axis x → FindsValue so_far file locals site axis (is_some x) first second → FindsAlong file locals site e x found second third → (typed ≡ false → (has_source e source ≡ false) ⊎ (is_some found ≡ false)) → Finds so_far file locals site e typed old third
parts_find so_far file locals site e axis source x found typed old first second third q brings s value v f either = λ program here a calls plain.
    let axis_typed = some_into x (brings program here) (value_there so_far file locals site axis x program here value a (narrowed q.0 calls) (q.1 plain)) in
    let behind = tells_then (λ why. why) (finds_part so_far file locals site e axis (is_some x) first second q v program here a calls plain) (f program here a plain axis_typed) in
    tells_both either (s program here a calls plain) behind

whole_finds : (so_far : Instances) (file : File) (locals : Locals) (site : Site) (e axis : Expr) (source x : Option (Box TExpr Global)) (found : Option Along) (along : Along) (r : Option TypedExpr) (old first second third new : Option Standing) → IsPartOf e axis → ((program : Program) (here : Here) (y : Box TExpr Global) → IsPart program here axis y → IsAxisTyped program here e y) → ((program : Program) (here : Here) → IsAround file locals site here → HasItsCalls so_far file program here e → IsPlain e → has_source e source ≡ true → IsSource program here e source) → Finds so_far file locals site e (has_source e source) old first → IsValue so_far file locals site axis x → FindsValue so_far file locals site axis (is_some x) first second → FindsAlong file locals site e x found second third → AreFoundAlong file locals site e x found → found ≡ Some along → FindsItself file locals site e along source r third new → Finds so_far file locals site e (is_some r) old new
whole_finds so_far file locals site e axis source x found along r old first second third new q brings sourced s value v f goes is own = λ program here a calls plain.
    let axis_typed = some_into x (brings program here) (value_there so_far file locals site axis x program here value a (narrowed q.0 calls) (q.1 plain)) in
    tells_then (λ why. why) (parts_find so_far file locals site e axis source x found (has_source e source) old first second third q brings s value v f (λ none. inl none) program here a calls plain)
    (own program here a (along_there file locals site e x found along program here goes is a plain axis_typed) (sourced program here a calls plain))

pub pcoord_whole : (so_far : Instances) (file : File) (locals : Locals) (site : Site) (p : Place) (axis : Box Expr Global) (source x : Option (Box TExpr Global)) (found : Option Along) (along : Along) (r : Option TypedExpr) (old first second third new : Option Standing) → Finds so_far file locals site (E.Pcoord p axis) (has_source (E.Pcoord p axis) source) old first → IsValue so_far file locals site axis.value x → FindsValue so_far file locals site axis.value (is_some x) first second → FindsAlong file locals site (E.Pcoord p axis) x found second third → AreFoundAlong file locals site (E.Pcoord p axis) x found → found ≡ Some along → FindsItself file locals site (E.Pcoord p axis) along source r third new → Finds so_far file locals site (E.Pcoord p axis) (is_some r) old new
pcoord_whole so_far file locals site p axis source x found along r old first second third new = whole_finds so_far file locals site (E.Pcoord p axis) axis.value source x found along r old first second third new (pcoord_part p axis) (λ program here y h. h) (λ program here a calls plain has. tt)

pub dim_whole : (so_far : Instances) (file : File) (locals : Locals) (site : Site) (p : Place) (shape : ShapeRef) (axis : Box Expr Global) (source x : Option (Box TExpr Global)) (found : Option Along) (along : Along) (r : Option TypedExpr) (old first second third new : Option Standing) → Finds so_far file locals site (E.DimOf p shape axis) (has_source (E.DimOf p shape axis) source) old first → IsValue so_far file locals site axis.value x → FindsValue so_far file locals site axis.value (is_some x) first second → FindsAlong file locals site (E.DimOf p shape axis) x found second third → AreFoundAlong file locals site (E.DimOf p shape axis) x found → found ≡ Some along → FindsItself file locals site (E.DimOf p shape axis) along source r third new → Finds so_far file locals site (E.DimOf p shape axis) (is_some r) old new
dim_whole so_far file locals site p shape axis source x found along r old first second third new = whole_finds so_far file locals site (E.DimOf p shape axis) axis.value source x found along r old first second third new (dim_part p shape axis) (λ program here y h. h) (λ program here a calls plain has. tt)

pub enumerate_whole : (so_far : Instances) (file : File) (locals : Locals) (site : Site) (p : Place) (axis : Box Expr Global) (direction : Direction) (inclusion : Inclusion) (mode : SegmentMode) (bit : Option Name) (source x : Option (Box TExpr Global)) (found : Option Along) (along : Along) (r : Option TypedExpr) (old first second third new : Option Standing) → Finds so_far file locals site (E.Enumerate p axis direction inclusion mode bit) (has_source (E.Enumerate p axis direction inclusion mode bit) source) old first → IsValue so_far file locals site axis.value x → FindsValue so_far file locals site axis.value (is_some x) first second → FindsAlong file locals site (E.Enumerate p axis direction inclusion mode bit) x found second third → AreFoundAlong file locals site (E.Enumerate p axis direction inclusion mode bit) x found → found ≡ Some along → FindsItself file locals site (E.Enumerate p axis direction inclusion mode bit) along source r third new → Finds so_far file locals site (E.Enumerate p axis direction inclusion mode bit) (is_some r) old new
enumerate_whole so_far file locals site p axis direction inclusion mode bit source x found along r old first second third new = whole_finds so_far file locals site (E.Enumerate p axis direction inclusion mode bit) axis.value source x found along r old first second third new (enumerate_part p axis direction inclusion mode bit) (λ program here y h. h) (λ program here a calls plain has. tt)

scan_sourced : (so_far : Instances) (file : File) (locals : Locals) (site : Site) (p : Place) (from axis : Box Expr Global) (combiner : Combiner) (direction : Direction) (mode : SegmentMode) (bit : Option Name) (inclusion : Inclusion) (source : Option (Box TExpr Global)) → IsValue so_far file locals site from.value source → (program : Program) (here : Here) → IsAround file locals site here → HasItsCalls so_far file program here (E.Scan p from axis combiner direction mode bit inclusion) → IsPlain (E.Scan p from axis combiner direction mode bit inclusion) → has_source (E.Scan p from axis combiner direction mode bit inclusion) source ≡ true → IsSource program here (E.Scan p from axis combiner direction mode bit inclusion) source
scan_sourced so_far file locals site p from axis combiner direction mode bit inclusion None v program here a calls plain has = absurd (true≢false (sym has))
scan_sourced so_far file locals site p from axis combiner direction mode bit inclusion (Some y) v program here a calls plain has =
    let q = source_part p from axis combiner direction mode bit inclusion in v program here a (narrowed q.0 calls) (q.1 plain)

pub scan_whole : (so_far : Instances) (file : File) (locals : Locals) (site : Site) (p : Place) (from axis : Box Expr Global) (combiner : Combiner) (direction : Direction) (mode : SegmentMode) (bit : Option Name) (inclusion : Inclusion) (source x : Option (Box TExpr Global)) (found : Option Along) (along : Along) (r : Option TypedExpr) (old first second third new : Option Standing) → IsValue so_far file locals site from.value source → Finds so_far file locals site (E.Scan p from axis combiner direction mode bit inclusion) (has_source (E.Scan p from axis combiner direction mode bit inclusion) source) old first → IsValue so_far file locals site axis.value x → FindsValue so_far file locals site axis.value (is_some x) first second → FindsAlong file locals site (E.Scan p from axis combiner direction mode bit inclusion) x found second third → AreFoundAlong file locals site (E.Scan p from axis combiner direction mode bit inclusion) x found → found ≡ Some along → FindsItself file locals site (E.Scan p from axis combiner direction mode bit inclusion) along source r third new → Finds so_far file locals site (E.Scan p from axis combiner direction mode bit inclusion) (is_some r) old new
scan_whole so_far file locals site p from axis combiner direction mode bit inclusion source x found along r old first second third new value = whole_finds so_far file locals site (E.Scan p from axis combiner direction mode bit inclusion) axis.value source x found along r old first second third new (scan_part p from axis combiner direction mode bit inclusion) (λ program here y h. h) (scan_sourced so_far file locals site p from axis combiner direction mode bit inclusion source value)

-- where it goes along nothing
abbrev pub HasAxis : Expr → Box Expr Global → Type 0
HasAxis e axis = IsPartOf e axis.value × ((program : Program) (here : Here) (y : Box TExpr Global) → IsPart program here axis.value y → IsAxisTyped program here e y)

pub pcoord_axis : (p : Place) (axis : Box Expr Global) → HasAxis (E.Pcoord p axis) axis
pcoord_axis p axis = (pcoord_part p axis, λ program here y h. h)

pub dim_axis : (p : Place) (shape : ShapeRef) (axis : Box Expr Global) → HasAxis (E.DimOf p shape axis) axis
dim_axis p shape axis = (dim_part p shape axis, λ program here y h. h)

pub scan_axis : (p : Place) (source axis : Box Expr Global) (combiner : Combiner) (direction : Direction) (mode : SegmentMode) (bit : Option Name) (inclusion : Inclusion) → HasAxis (E.Scan p source axis combiner direction mode bit inclusion) axis
scan_axis p source axis combiner direction mode bit inclusion = (scan_part p source axis combiner direction mode bit inclusion, λ program here y h. h)

pub enumerate_axis : (p : Place) (axis : Box Expr Global) (direction : Direction) (inclusion : Inclusion) (mode : SegmentMode) (bit : Option Name) → HasAxis (E.Enumerate p axis direction inclusion mode bit) axis
enumerate_axis p axis direction inclusion mode bit = (enumerate_part p axis direction inclusion mode bit, λ program here y h. h)

pub nowhere_finds : (so_far : Instances) (file : File) (locals : Locals) (site : Site) (e : Expr) (axis : Box Expr Global) (source x : Option (Box TExpr Global)) (found : Option Along) (old first second third : Option Standing) → HasAxis e axis → Finds so_far file locals site e (has_source e source) old first → IsValue so_far file locals site axis.value x → FindsValue so_far file locals site axis.value (is_some x) first second → FindsAlong file locals site e x found second third → found ≡ None → Finds so_far file locals site e false old third
nowhere_finds so_far file locals site e axis source x found old first second third has s value v f is = parts_find so_far file locals site e axis.value source x found false old first second third has.0 has.1 s value v f (λ none. inr (ap is_some is))

-- ---- a list of parts

-- nothing is recorded yet
pub none_found : (so_far : Instances) (file : File) (locals : Locals) (site : Site) (e : Expr) (typed : Bool) (old new : Option Standing) → typed ≡ true → new ≡ old → Finds so_far file locals site e typed old new
none_found so_far file locals site e typed old new is same = λ program here a calls plain. tells_same _ _ typed old new same (λ none. absurd (true≢false (sym is ∙ none)))

-- one part more
plain_row : (e x : Expr) (items : List Expr) (k : ℕ) (d : Expr) → k < length items → x ≡ get_or items k d → All IsPlain items → IsPlain x
plain_row e x items k d within is all = subst IsPlain (sym is) (All-get_or IsPlain items k d within all)

at_number : (items : List Expr) (k : ℕ) (x : Expr) → k < length items → x ≡ get_or items k x → slice_get items k ≡ Some x
at_number items k x within is = slice_get-get_or items k x within ∙ ap (λ (y : Expr). Some y) (sym is)

pub argument_finds : (so_far : Instances) (file : File) (locals : Locals) (site : Site) (n : Name) (arguments : Vec Expr Global) (k axis : ℕ) (x : Expr) (typed : Bool) (old new : Option Standing) → k < length arguments.items → x ≡ get_or arguments.items k x → FindsValue so_far file locals (record site { dot = dot_at None site.dot axis }) x typed old new → Finds so_far file locals site (E.Call n arguments) typed old new
unfolding IsPlain
argument_finds so_far file locals site n arguments k axis x typed old new within is v = λ program here a calls plain.
    let node = written_row (E.Call n arguments) in
    let each = subst (All IsPlain) (items_hidden-the_row-Expr-0 arguments) (row_plain node.0 node.1 plain) in
    tells_of_part here (F.argument arguments k (at_number arguments.items k x within is)) refl refl (v program here a (narrowed (subst (λ (y : Expr). AreCallsOf y (E.Call n arguments)) (sym is) (in_call n arguments k x within)) calls) (plain_row (E.Call n arguments) x arguments.items k x within is each))

pub printed_finds : (so_far : Instances) (file : File) (locals : Locals) (site : Site) (p : Place) (text : List ℕ) (arguments : Vec Expr Global) (k axis : ℕ) (x : Expr) (typed : Bool) (old new : Option Standing) → k < length arguments.items → x ≡ get_or arguments.items k x → FindsValue so_far file locals (record site { dot = dot_at None site.dot axis }) x typed old new → Finds so_far file locals site (E.Printf p text arguments) typed old new
unfolding IsPlain
printed_finds so_far file locals site p text arguments k axis x typed old new within is v = λ program here a calls plain.
    let node = written_row (E.Printf p text arguments) in
    let each = subst (All IsPlain) (items_hidden-the_row-Expr-0 arguments) (row_plain node.0 node.1 plain) in
    tells_of_part here (F.printed arguments k (at_number arguments.items k x within is)) refl refl (v program here a (narrowed (subst (λ (y : Expr). AreCallsOf y (E.Printf p text arguments)) (sym is) (in_printf p text arguments k x within)) calls) (plain_row (E.Printf p text arguments) x arguments.items k x within is each))

around_index : {file : File} {locals : Locals} {site : Site} (here : Here) (b : Bool) (axis : ℕ) → IsAround file locals site here → IsAround file locals (record site { dot = dot_at (Some b) site.dot axis }) (record here { dot = dot_at (Some b) here.dot axis })
around_index here true axis a = around_dot here (Some axis) a
around_index here false axis a = around_dot here None a

pub left_index_finds : (so_far : Instances) (file : File) (locals : Locals) (site : Site) (p : Place) (indexes : Vec Expr Global) (n : Name) (b : Bool) (k axis : ℕ) (x : Expr) (typed : Bool) (old new : Option Standing) → k < length indexes.items → x ≡ get_or indexes.items k x → axis ≡ min k (2 ^ 32 - 1) → b ≡ stands_under site.current (find (names_at file locals site.known) n.word) → FindsValue so_far file locals (record site { dot = dot_at (Some b) site.dot axis }) x typed old new → Finds so_far file locals site (E.LeftIndex p indexes n) typed old new
unfolding IsPlain
left_index_finds so_far file locals site p indexes n b k axis x typed old new within is axis_is told v = λ program here a calls plain.
    let node = written_row (E.LeftIndex p indexes n) in
    let row = items_hidden-the_row-Expr-0 indexes in
    let each = subst (All IsPlain) row (row_plain node.0 node.1 plain.1) in
    let few = subst (λ (es : List Expr). length es < 2 ^ 32) row plain.0 in
    let same : axis ≡ k = omega (arith, axis_is, within, few) in
    let current : b ≡ stands_under here.current (meaning here n.word) = told ∙ (ap (λ (c : Option ℕ). stands_under c (find (names_at file locals site.known) n.word)) (sym a.at_site.current) ∙ ap (stands_under here.current) (sym (a.names n.word))) in
    let there : Here = record here { dot = dot_at (Some b) here.dot axis } in
    let place : F.IsPart here (E.LeftIndex p indexes n) (part there) x = subst (λ (h : Here). F.IsPart here (E.LeftIndex p indexes n) h x) (ap (λ (m : ℕ). index_place here n.word m) (sym same) ∙ index_is here n axis b current) (F.left_index indexes k (at_number indexes.items k x within is)) in
    tells_of_part there place refl refl (v program there (around_index here b axis a) (moved (dot_at (Some b) here.dot axis) here.whole (narrowed (subst (λ (y : Expr). AreCallsOf y (E.LeftIndex p indexes n)) (sym is) (in_left_index p indexes n k x within)) calls)) (plain_row (E.LeftIndex p indexes n) x indexes.items k x within is each))

pub more_finds : (so_far : Instances) (file : File) (locals : Locals) (site : Site) (e : Expr) (first second typed : Bool) (old mid new : Option Standing) → Finds so_far file locals site e first old mid → Finds so_far file locals site e second mid new → typed ≡ (first && second) → Finds so_far file locals site e typed old new
more_finds so_far file locals site e first second typed old mid new v w is = λ program here a calls plain.
    tells_both (λ none. one_of first second (sym is ∙ none)) (v program here a calls plain) (w program here a calls plain)

-- the parts of a list: the arguments of a call or of `printf`, or the indexes of a left index, of
-- which it is told whether its variable is of the current shape
abbrev pub IsListOf : File → Locals → Site → Expr → List Expr → Option Bool → Type 0
IsListOf file locals site e items indexed =
    ((n : Name) × (arguments : Vec Expr Global) × (e ≡ E.Call n arguments) × (items ≡ arguments.items) × (indexed ≡ None))
    ⊎ (((p : Place) × (text : List ℕ) × (arguments : Vec Expr Global) × (e ≡ E.Printf p text arguments) × (items ≡ arguments.items) × (indexed ≡ None))
    ⊎ ((p : Place) × (indexes : Vec Expr Global) × (n : Name) × (b : Bool) × (e ≡ E.LeftIndex p indexes n) × (items ≡ indexes.items) × (indexed ≡ Some b) × (b ≡ stands_under site.current (find (names_at file locals site.known) n.word))))

pub listed_finds : (so_far : Instances) (file : File) (locals : Locals) (site : Site) (e : Expr) (items : List Expr) (indexed : Option Bool) (k axis : ℕ) (x : Expr) (typed : Bool) (old new : Option Standing) → IsListOf file locals site e items indexed → k < length items → x ≡ get_or items k x → axis ≡ min k (2 ^ 32 - 1) → FindsValue so_far file locals (record site { dot = dot_at indexed site.dot axis }) x typed old new → Finds so_far file locals site e typed old new
listed_finds so_far file locals site e items indexed k axis x typed old new (inl (n, arguments, is, items_are, indexed_is)) within at axis_is v =
    rw is (argument_finds so_far file locals site n arguments k axis x typed old new (rw items_are at within) (rw items_are at at) (rw indexed_is at v))
listed_finds so_far file locals site e items indexed k axis x typed old new (inr (inl (p, text, arguments, is, items_are, indexed_is))) within at axis_is v =
    rw is (printed_finds so_far file locals site p text arguments k axis x typed old new (rw items_are at within) (rw items_are at at) (rw indexed_is at v))
listed_finds so_far file locals site e items indexed k axis x typed old new (inr (inr (p, indexes, n, b, is, items_are, indexed_is, told))) within at axis_is v =
    rw is (left_index_finds so_far file locals site p indexes n b k axis x typed old new (rw items_are at within) (rw items_are at at) axis_is told (rw indexed_is at v))

-- ---- the kind of an expression

pub of_operands : {e : Expr} → N.HasOperands e → HasOperands e
of_operands (inl (p, op, target, value, is)) = rw is tt
of_operands (inr (inl (p, test, second, third, is))) = rw is tt
of_operands (inr (inr (p, op, left, right, is))) = rw is tt

pub of_list : {e : Expr} → N.HasList e → HasList e
of_list (inl (n, arguments, is)) = rw is tt
of_list (inr (inl (p, text, arguments, is))) = rw is tt
of_list (inr (inr (p, indexes, n, is))) = rw is tt

pub of_leaf : {e : Expr} → N.IsLeaf e → IsLeaf e
of_leaf (inl (n, is)) = rw is tt
of_leaf (inr (inl (p, value, u, is))) = rw is tt
of_leaf (inr (inr (inl (p, is)))) = rw is tt
of_leaf (inr (inr (inr (inl (p, shape, is))))) = rw is tt
of_leaf (inr (inr (inr (inr (inl (p, shape, is)))))) = rw is tt
of_leaf (inr (inr (inr (inr (inr (p, is)))))) = rw is tt
