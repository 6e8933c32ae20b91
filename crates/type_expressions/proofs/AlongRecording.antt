-- What is recorded of an intrinsic along an axis: of its axis, its shape, its segment bits and itself.
use Rattle.std.proofs.Common.{◌≡◌, ◌&&◌, ◌⊎◌, inr, ℕ, Bool, true, false, Option, Some, None, IfSome, List, Result, Ok, Err, Box, refl, sym, ap, subst, ◌∙◌}
use Rattle.std.specs.Option.{is_some}
use Rattle.std.specs.declared.alloc.Global.{Global}
use Rattle.cstar_base.specs.declared.faults.Fault.{Fault}
use Rattle.cstar_base.specs.declared.operators.Combiner.{Combiner}
use Rattle.cstar_base.specs.declared.operators.Direction.{Direction}
use Rattle.cstar_base.specs.declared.operators.Inclusion.{Inclusion}
use Rattle.cstar_base.specs.declared.operators.Place.{Place}
use Rattle.cstar_base.specs.declared.operators.SegmentMode.{SegmentMode}
use Rattle.cstar_tree.specs.declared.syntax.Expr.{Expr}
use Rattle.cstar_tree.specs.declared.syntax.Expr as E
use Rattle.cstar_tree.specs.declared.syntax.Name.{Name}
use Rattle.cstar_tree.specs.declared.syntax.ShapeRef.{ShapeRef}
use Rattle.cstar_tree.specs.declared.typed.TExpr.{TExpr}
use Rattle.cstar_tree.specs.declared.typed.Variable.{Variable}
use Rattle.cstar_tree.specs.Constants.{axis_of}
use Rattle.cstar_tree.specs.ExpressionFaults.{FaultAt, FaultIn, GoesAlong}
use Rattle.cstar_tree.specs.ExpressionFaults as F
use Rattle.cstar_tree.specs.ExpressionTypes.{Types}
use Rattle.cstar_tree.specs.Headers.{Program}
use Rattle.cstar_tree.specs.Scopes.{Binding, Here, extents_of, part, shape_of}
use Rattle.cstar_tree.specs.Syntax.{place_of}
use Rattle.type_scopes.specs.Answers.{IsSettled, part_of}
use Rattle.type_scopes.specs.FileBindings.{names_at}
use Rattle.type_scopes.specs.Named.{IsShapeAmong, shape_among}
use Rattle.type_scopes.specs.declared.faults.Untyped.{Untyped}
use Rattle.type_scopes.specs.declared.faults.Untyped.TheVariants as N
use Rattle.type_scopes.specs.declared.file.File.{File}
use Rattle.type_scopes.specs.declared.locals.Locals.{Locals}
use Rattle.type_scopes.specs.declared.sites.Site.{Site}
use Rattle.type_scopes.specs.declared.standing.Standing.{Standing}
use Rattle.type_expressions.specs.Along.{AreBitsNamed, IsAxisOf, number_of_constant}
use Rattle.type_expressions.specs.Answers.{HasShapes, IsAnswer, IsOutcome, IsSite}
use Rattle.type_expressions.specs.Names.{HasNames}
use Rattle.type_expressions.specs.Recorded.{IfUntyped, IsAxisSettled, IsRecordable, IsUntyped, Rests, Tells, TellsAt, has_source}
use Rattle.type_expressions.specs.Walks.{IsAround, IsAxisTyped, IsFoundAlong, IsPlain, IsSource, rank_under}
use Rattle.type_expressions.specs.declared.along.Along.{Along}
use Rattle.type_expressions.specs.declared.found.TypedExpr.{TypedExpr}
use Rattle.type_expressions.specs.declared.intrinsics.Axis.{Axis}
use Rattle.type_expressions.specs.declared.intrinsics.Axis.TheVariants as A
use Rattle.type_expressions.proofs.NodeFaults.{axis_told, bits_told, dim_told, shape_told, untyped_as, untyped_plainly}
use Rattle.type_expressions.proofs.NodeRecording.{node_outcome, node_settled}
use Rattle.type_expressions.proofs.Recording.{one_of, tells_both, tells_outcome, tells_same}
use Rattle.type_expressions.proofs.Walking.{shape_there}

pub first_of : (a : Bool) → (a && true) ≡ false → a ≡ false
first_of false is = refl
first_of true is = is

pub tells_less : {S : Fault → Place → Type 0} {W : Type 0} {typed less : Bool} {old new : Option Standing} → (less ≡ false → typed ≡ false) → Tells S W typed old new → Tells S W less old new
tells_less without all = record { kept = all.kept; honest = all.honest; untyped = λ none. all.untyped (without none) }

axis_tells : (program : Program) (here : Here) (e : Expr) (axis : Option (Box TExpr Global)) (rank : Option ℕ) (place : Place) (r : Option Axis) (old new : Option Standing) → ((x : Box TExpr Global) (u : Untyped) → axis ≡ Some x → IsAxisOf (number_of_constant x.value) rank place (Err u) → IsUntyped (FaultAt program here e) (Rests program here e) u) → IsAxisSettled axis rank place r old new → TellsAt program here e (is_some axis ≡ false) (is_some r) old new
axis_tells program here e None rank place r old new told is = tells_same (IsRecordable program here (FaultIn program here e)) (Rests program here e ⊎ (false ≡ false)) (is_some r) old new is.1 (λ none. inr refl)
axis_tells program here e (Some x) rank place r old new told is = node_settled program here e (true ≡ false) is.0 r old new (by is.0 is.1) is.2 is.3
  where
    by : (typed : Result Axis Untyped) → IsAxisOf (number_of_constant x.value) rank place typed → IfUntyped (FaultAt program here e) (Rests program here e) typed
    by (Ok a) h = tt
    by (Err u) h = told x u refl h

-- an axis of the current shape
current_axis : (file : File) (locals : Locals) (site : Site) (program : Program) (here : Here) (e : Expr) (mode : SegmentMode) (bit : Option Name) (written : Expr) (axis : Option (Box TExpr Global)) (rank : Option ℕ) (place : Place) (r : Option Axis) (old new : Option Standing) → GoesAlong e written mode bit → IsAround file locals site here → IsPlain written → ((x : Box TExpr Global) → IsAxisTyped program here e x → Types program (part here) written x.value true) → rank ≡ rank_under file.shapes.items site.current → place ≡ place_of written → IfSome axis (IsAxisTyped program here e) → IsAxisSettled axis rank place r old new → TellsAt program here e (is_some axis ≡ false) (is_some r) old new
current_axis file locals site program here e mode bit written axis rank place r old new goes a plain of under at typed is =
    axis_tells program here e axis rank place r old new (λ x u has h. axis_told file locals site program here e mode bit (Rests program here e) written x.value rank place u goes a plain (of x (subst (λ (o : Option (Box TExpr Global)). IfSome o (IsAxisTyped program here e)) has typed)) under at h) is

pub pcoord_finds : (file : File) (locals : Locals) (site : Site) (p : Place) (written : Box Expr Global) (axis : Option (Box TExpr Global)) (rank : Option ℕ) (place : Place) (r : Option Axis) (along : Option Along) (old new : Option Standing) → rank ≡ rank_under file.shapes.items site.current → place ≡ place_of written.value → IsAxisSettled axis rank place r old new → is_some along ≡ (is_some r && true) → (program : Program) (here : Here) → IsAround file locals site here → IsPlain (E.Pcoord p written) → IfSome axis (IsAxisTyped program here (E.Pcoord p written)) → TellsAt program here (E.Pcoord p written) (is_some axis ≡ false) (is_some along) old new
unfolding IsPlain
pcoord_finds file locals site p written axis rank place r along old new under at is known program here a plain typed =
    tells_less (λ none. first_of (is_some r) (sym known ∙ none)) (current_axis file locals site program here (E.Pcoord p written) _ _ written.value axis rank place r old new (F.pcoord written) a plain (λ x h. h) under at typed is)

abbrev AreNamedBits : File → Locals → Site → Option Name → Result (Option Variable) Untyped → Type 0
AreNamedBits file locals site written typed = (program : Program) (here : Here) → HasNames (names_at file locals site.known) here → IsSite site here → AreBitsNamed program here written typed

pub scan_finds : (file : File) (locals : Locals) (site : Site) (p : Place) (source written : Box Expr Global) (combiner : Combiner) (direction : Direction) (mode : SegmentMode) (named : Option Name) (inclusion : Inclusion) (axis : Option (Box TExpr Global)) (rank : Option ℕ) (place : Place) (r : Option Axis) (found : Result (Option Variable) Untyped) (bit : Option (Option Variable)) (along : Option Along) (old mid new : Option Standing) → rank ≡ rank_under file.shapes.items site.current → place ≡ place_of written.value → IsAxisSettled axis rank place r old mid → AreNamedBits file locals site named found → bit ≡ part_of found → IsSettled mid found new → is_some along ≡ (is_some r && is_some bit) → (program : Program) (here : Here) → IsAround file locals site here → IsPlain (E.Scan p source written combiner direction mode named inclusion) → IfSome axis (IsAxisTyped program here (E.Scan p source written combiner direction mode named inclusion)) → TellsAt program here (E.Scan p source written combiner direction mode named inclusion) (is_some axis ≡ false) (is_some along) old new
unfolding IsPlain
scan_finds file locals site p source written combiner direction mode named inclusion axis rank place r found bit along old mid new under at is bits part_is settled known program here a plain typed =
    let e = E.Scan p source written combiner direction mode named inclusion in
    tells_both (λ none. one_of (is_some r) (is_some bit) (sym known ∙ none)) (current_axis file locals site program here e mode named written.value axis rank place r old mid (F.scan source written) a plain.1 (λ x h. h) under at typed is)
    (node_settled program here e (is_some axis ≡ false) found bit mid new (bits_told program here e mode named found F.in_scan (bits program here a.names a.at_site)) part_is settled)

pub enumerate_finds : (file : File) (locals : Locals) (site : Site) (p : Place) (written : Box Expr Global) (direction : Direction) (inclusion : Inclusion) (mode : SegmentMode) (named : Option Name) (axis : Option (Box TExpr Global)) (rank : Option ℕ) (place : Place) (r : Option Axis) (found : Result (Option Variable) Untyped) (bit : Option (Option Variable)) (along : Option Along) (old mid new : Option Standing) → rank ≡ rank_under file.shapes.items site.current → place ≡ place_of written.value → IsAxisSettled axis rank place r old mid → AreNamedBits file locals site named found → bit ≡ part_of found → IsSettled mid found new → is_some along ≡ (is_some r && is_some bit) → (program : Program) (here : Here) → IsAround file locals site here → IsPlain (E.Enumerate p written direction inclusion mode named) → IfSome axis (IsAxisTyped program here (E.Enumerate p written direction inclusion mode named)) → TellsAt program here (E.Enumerate p written direction inclusion mode named) (is_some axis ≡ false) (is_some along) old new
unfolding IsPlain
enumerate_finds file locals site p written direction inclusion mode named axis rank place r found bit along old mid new under at is bits part_is settled known program here a plain typed =
    let e = E.Enumerate p written direction inclusion mode named in
    tells_both (λ none. one_of (is_some r) (is_some bit) (sym known ∙ none)) (current_axis file locals site program here e mode named written.value axis rank place r old mid (F.enumerate written) a plain (λ x h. h) under at typed is)
    (node_settled program here e (is_some axis ≡ false) found bit mid new (bits_told program here e mode named found F.in_enumerate (bits program here a.names a.at_site)) part_is settled)

shape_is : (names : List Binding) (current : Option ℕ) (written : ShapeRef) (found : Result ℕ Untyped) (o : Option ℕ) → IsShapeAmong names current written found → o ≡ part_of found → shape_among names current written ≡ o
shape_is names current written (Ok s) o among is = among ∙ sym is
shape_is names current written (Err u) o among is = among.0 ∙ sym is

pub dim_finds : (file : File) (locals : Locals) (site : Site) (p : Place) (written : ShapeRef) (axis_written : Box Expr Global) (axis : Option (Box TExpr Global)) (found : Result ℕ Untyped) (shape rank : Option ℕ) (place : Place) (r : Option Axis) (typed : Bool) (old mid new : Option Standing) → IsShapeAmong (names_at file locals site.known) site.current written found → shape ≡ part_of found → IsSettled old found mid → rank ≡ rank_under file.shapes.items shape → place ≡ place_of axis_written.value → IsAxisSettled axis rank place r mid new → (typed ≡ false → (is_some shape ≡ false) ⊎ (is_some r ≡ false)) → (program : Program) (here : Here) → IsAround file locals site here → IsPlain (E.DimOf p written axis_written) → IfSome axis (IsAxisTyped program here (E.DimOf p written axis_written)) → TellsAt program here (E.DimOf p written axis_written) (is_some axis ≡ false) typed old new
unfolding IsPlain
dim_finds file locals site p written axis_written axis found shape rank place r typed old mid new among part_is settled under at is either program here a plain axis_typed =
    let e = E.DimOf p written axis_written in
    let named = shape_there written a ∙ shape_is (names_at file locals site.known) site.current written found shape among part_is in
    tells_both either (node_settled program here e (is_some axis ≡ false) found shape old mid (shape_told file locals site program here e (Rests program here e) written found F.in_dim a among) part_is settled)
    (axis_tells program here e axis rank place r mid new (λ x u has h. dim_told file locals site program here p (Rests program here e) written axis_written x.value shape rank place u a plain (subst (λ (o : Option (Box TExpr Global)). IfSome o (IsAxisTyped program here e)) has axis_typed) named under at h) is)

-- ---- the intrinsic itself

pub along_outcome : (file : File) (locals : Locals) (site : Site) (e : Expr) (along : Along) (source : Option (Box TExpr Global)) (typed : Result TExpr Untyped) (r : Option TypedExpr) (old new : Option Standing) → ((program : Program) (here : Here) → IsAround file locals site here → IsFoundAlong program here e along → IsSource program here e source → IfUntyped (FaultAt program here e) ⊥ typed) → (has_source e source ≡ false → typed ≡ Err N.Faulty) → IsOutcome typed old new r → (program : Program) (here : Here) → IsAround file locals site here → IsFoundAlong program here e along → (has_source e source ≡ true → IsSource program here e source) → TellsAt program here e (has_source e source ≡ false) (is_some r) old new
along_outcome file locals site e along source typed r old new refused without m program here a found sourced = by (has_source e source) refl
  where
    by : (b : Bool) → has_source e source ≡ b → TellsAt program here e (has_source e source ≡ false) (is_some r) old new
    by true is = node_outcome program here e (has_source e source ≡ false) typed r old new (untyped_as typed (λ f p h. h) (λ never. absurd never) (refused program here a found (sourced is))) m
    by false is = tells_outcome (IsRecordable program here (FaultIn program here e)) (Rests program here e ⊎ (has_source e source ≡ false)) typed r old new (subst (IfUntyped (IsRecordable program here (FaultIn program here e)) (Rests program here e ⊎ (has_source e source ≡ false))) (sym (without is)) (inr is)) m

pub dim_refused : (file : File) (locals : Locals) (site : Site) (p : Place) (written : ShapeRef) (axis : Box Expr Global) (along : Along) (s : ℕ) (typed : Result TExpr Untyped) → along.shape ≡ Some s → ((program : Program) (here : Here) (place : Place) (written : ShapeRef) (axis : Box Expr Global) (extents : List ℕ) (number : ℕ) → HasShapes file.shapes.items here → shape_of here written ≡ Some s → extents_of here s ≡ Some extents → axis_of here extents axis.value ≡ Some number → along.axis ≡ A.Number number → IsAnswer program here (E.DimOf place written axis) typed) → (program : Program) (here : Here) → IsAround file locals site here → IsFoundAlong program here (E.DimOf p written axis) along → IfUntyped (FaultAt program here (E.DimOf p written axis)) ⊥ typed
dim_refused file locals site p written axis along s typed has h program here a k =
    let same : k.of ≡ s = let both = sym k.found ∙ has in cc in
    untyped_plainly program here (E.DimOf p written axis) ⊥ typed (h program here p written axis k.extents k.number a.shapes (k.named ∙ ap (λ (n : ℕ). Some n) same) (subst (λ (n : ℕ). extents_of here n ≡ Some k.extents) same k.has_extents) k.axis_is k.goes)
