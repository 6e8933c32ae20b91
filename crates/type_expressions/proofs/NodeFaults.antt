-- Why an expression has no tree: a fault that stands at it, or a faulty declaration.
use Rattle.std.proofs.Common.{◌≡◌, ℕ, ℤ, pos, negsuc, List, length, Bool, true, false, Option, Some, None, Result, Ok, Err, Box, Vec, refl, sym, ap, subst, ◌∙◌}
use Rattle.std.specs.Option.{is_some}
use Rattle.std.specs.List.{slice_get}
use Rattle.std.specs.declared.alloc.Global.{Global}
use Rattle.cstar_base.specs.declared.faults.Fault.{Fault}
use Rattle.cstar_base.specs.declared.faults.Fault.TheVariants as Faults
use Rattle.cstar_base.specs.declared.operators.Place.{Place}
use Rattle.cstar_base.specs.declared.operators.SegmentMode.{SegmentMode}
use Rattle.cstar_tree.specs.declared.syntax.Expr.{Expr}
use Rattle.cstar_tree.specs.declared.syntax.Expr as E
use Rattle.cstar_tree.specs.declared.syntax.Name.{Name}
use Rattle.cstar_tree.specs.declared.syntax.ShapeRef.{ShapeRef}
use Rattle.cstar_tree.specs.declared.syntax.ShapeRef.TheVariants as Z
use Rattle.cstar_tree.specs.declared.syntax.TypeName.{TypeName}
use Rattle.cstar_tree.specs.declared.typed.TExpr.{TExpr}
use Rattle.cstar_tree.specs.declared.typed.ValueType.{ValueType}
use Rattle.cstar_tree.specs.declared.typed.Variable.{Variable}
use Rattle.cstar_tree.specs.Constants.{axis_among, constant_number}
use Rattle.cstar_tree.specs.ExpressionFaults.{FaultAt, FaultIn, GoesAlong, NamesBit, NamesShape, Uses, variable}
use Rattle.cstar_tree.specs.ExpressionFaults as F
use Rattle.cstar_tree.specs.ExpressionTypes.{IsVariable, Types}
use Rattle.cstar_tree.specs.Headers.{Program}
use Rattle.cstar_tree.specs.Scopes.{Here, Meaning, a_function, a_shape, a_variable, find, meaning, part, shape_meant, shape_of}
use Rattle.cstar_tree.specs.Scopes as S
use Rattle.cstar_tree.specs.Syntax.{place_of}
use Rattle.type_scopes.specs.Answers.{told_by}
use Rattle.type_scopes.specs.FileBindings.{names_at}
use Rattle.type_scopes.specs.Named.{misnamed, no_type, of_written, IsShapeAmong, IsTypeAmong, TellsNoFunction, shape_among}
use Rattle.type_scopes.specs.Shapes.{rank_of}
use Rattle.type_scopes.specs.declared.faults.Untyped.{Untyped}
use Rattle.type_scopes.specs.declared.faults.Untyped.TheVariants as N
use Rattle.type_scopes.specs.declared.file.File.{File}
use Rattle.type_scopes.specs.declared.locals.Locals.{Locals}
use Rattle.type_scopes.specs.declared.sites.Site.{Site}
use Rattle.type_expressions.specs.Along.{AreBitsNamed, IsAxisOf, axis_in, number_of_constant}
use Rattle.type_expressions.specs.Answers.{IsAnswer, IsAnswerOrMemory, IsFault, IsFaultOrMemory}
use Rattle.type_expressions.specs.Names.{IsNamed, TellsOther}
use Rattle.type_expressions.specs.Recorded.{IfUntyped, IsRecordable, IsUntyped, Rests}
use Rattle.type_expressions.specs.Recorded as R
use Rattle.type_expressions.specs.Walks.{IsAround, IsPlain, rank_under}
use Rattle.type_expressions.proofs.OfShapes.{rank_is}
use Rattle.type_expressions.proofs.Walking.{CountedShape, counted_there, number_there}

-- ---- in general

abbrev at_told : (Fault → Place → Type 0) → Option (Fault × Place) → Type 0
at_told S None = Unit {0}
at_told S (Some q) = S q.0 q.1

pub untyped_told : (S : Fault → Place → Type 0) (W : Type 0) (u : Untyped) {fault : Fault} {p : Place} → told_by u ≡ Some (fault, p) → S fault p → IsUntyped S W u
untyped_told S W (N.Fault standing) is h = subst (at_told S) (sym is) h
untyped_told S W N.Faulty is h = absurd (cc)
untyped_told S W N.Memory is h = absurd (cc)

pub untyped_at : (program : Program) (here : Here) (e : Expr) (W : Type 0) (u : Untyped) → IsFaultOrMemory program here e u → IsUntyped (FaultAt program here e) W u
untyped_at program here e W (N.Fault standing) h = h
untyped_at program here e W N.Faulty h = absurd h
untyped_at program here e W N.Memory h = tt

pub untyped_answer : (program : Program) (here : Here) (e : Expr) (W : Type 0) (typed : Result TExpr Untyped) → IsAnswerOrMemory program here e typed → IfUntyped (FaultAt program here e) W typed
untyped_answer program here e W (Ok t) h = tt
untyped_answer program here e W (Err u) h = untyped_at program here e W u h

pub untyped_fault : (program : Program) (here : Here) (e : Expr) (W : Type 0) (u : Untyped) → IsFault program here e u → IsUntyped (FaultAt program here e) W u
untyped_fault program here e W (N.Fault standing) h = h
untyped_fault program here e W N.Faulty h = absurd h
untyped_fault program here e W N.Memory h = absurd h

pub untyped_plainly : (program : Program) (here : Here) (e : Expr) (W : Type 0) (typed : Result TExpr Untyped) → IsAnswer program here e typed → IfUntyped (FaultAt program here e) W typed
untyped_plainly program here e W (Ok t) h = tt
untyped_plainly program here e W (Err u) h = untyped_fault program here e W u h

because : {S T : Fault → Place → Type 0} {W V : Type 0} (u : Untyped) → ((f : Fault) (p : Place) → S f p → T f p) → (W → V) → IsUntyped S W u → IsUntyped T V u
because (N.Fault standing) into why h = into standing.fault standing.place h
because N.Faulty into why h = why h
because N.Memory into why h = tt

pub untyped_as : {A : Type 0} {S T : Fault → Place → Type 0} {W V : Type 0} (typed : Result A Untyped) → ((f : Fault) (p : Place) → S f p → T f p) → (W → V) → IfUntyped S W typed → IfUntyped T V typed
untyped_as (Ok a) into why h = tt
untyped_as (Err u) into why h = because u into why h

-- a fault at an expression can be recorded of it
pub at_node : {program : Program} {here : Here} {e : Expr} (f : Fault) (p : Place) → FaultAt program here e f p → IsRecordable program here (FaultIn program here e) f p
at_node f p h = R.stands (F.at h)

-- ---- names

-- a name that is to be that of a variable, and of an array or of none
pub variable_told : (program : Program) (here : Here) (e : Expr) (n : Name) (array : Bool) (m : Option Meaning) (u : Untyped) → Uses e variable n → meaning here n.word ≡ m → ((v : Variable) (t : S.VariableType) → IsVariable here n v t → (is_some t.array ≡ array → ⊥) → FaultAt program here e Faults.ArrayUse n.place) → TellsOther array m n.place u → IsUntyped (FaultAt program here e) (Rests program here e) u
variable_told program here e n array None u uses is other tells = untyped_told (FaultAt program here e) (Rests program here e) u tells (F.unknown uses is)
variable_told program here e n array (Some (a_shape s)) u uses is other tells = untyped_told (FaultAt program here e) (Rests program here e) u tells (F.wrong_kind uses is (λ same. cc))
variable_told program here e n array (Some (a_function f)) u uses is other tells = untyped_told (FaultAt program here e) (Rests program here e) u tells (F.wrong_kind uses is (λ same. cc))
variable_told program here e n array (Some (a_variable v None)) u uses is other tells = subst (IsUntyped (FaultAt program here e) (Rests program here e)) (sym tells) (R.on_variable uses is)
variable_told program here e n array (Some (a_variable v (Some t))) u uses is other tells = untyped_told (FaultAt program here e) (Rests program here e) u tells.1 (other v t is tells.0)

-- an array where none is wanted, and the other way round
pub array_indexed : {program : Program} {here : Here} {p : Place} {n : Name} (indexes : Vec Expr Global) (v : Variable) (t : S.VariableType) (array : Option ℕ) → t.array ≡ array → IsVariable here n v t → (is_some t.array ≡ false → ⊥) → FaultAt program here (E.LeftIndex p indexes n) Faults.ArrayUse n.place
array_indexed indexes v t None at is other = absurd (other (ap is_some at))
array_indexed {here = here} {n = n} indexes v t (Some length) at is other = F.array_indexed indexes (subst (λ (a : Option ℕ). IsVariable here n v (record { value = t.value; array = a })) at is)

pub no_array : {program : Program} {here : Here} {n : Name} {bracket : Place} {index : Box Expr Global} (v : Variable) (t : S.VariableType) (array : Option ℕ) → t.array ≡ array → IsVariable here n v t → (is_some t.array ≡ true → ⊥) → FaultAt program here (E.Element n bracket index) Faults.ArrayUse n.place
no_array {here = here} {n = n} v t None at is other = F.no_array (subst (λ (a : Option ℕ). IsVariable here n v (record { value = t.value; array = a })) at is)
no_array v t (Some length) at is other = absurd (other (ap is_some at))

pub named_told : (program : Program) (here : Here) (n : Name) (typed : Result TExpr Untyped) → IsNamed program here n typed → IfUntyped (FaultAt program here (E.Name n)) (Rests program here (E.Name n)) typed
named_told program here n (Ok t) h = tt
named_told program here n (Err (N.Fault standing)) h = h
named_told program here n (Err N.Faulty) h = R.on_variable F.as_value h.1
named_told program here n (Err N.Memory) h = absurd h

pub function_told : (program : Program) (here : Here) (n : Name) (W : Type 0) (given : Vec Expr Global) (m : Option Meaning) (u : Untyped) → meaning here n.word ≡ m → TellsNoFunction m n.place u → IsUntyped (FaultAt program here (E.Call n given)) W u
function_told program here n W given None u is tells = untyped_told (FaultAt program here (E.Call n given)) W u tells (F.unknown (F.as_function given) is)
function_told program here n W given (Some (a_shape s)) u is tells = untyped_told (FaultAt program here (E.Call n given)) W u tells (F.wrong_kind (F.as_function given) is (λ same. cc))
function_told program here n W given (Some (a_function f)) u is tells = absurd tells
function_told program here n W given (Some (a_variable v t)) u is tells = untyped_told (FaultAt program here (E.Call n given)) W u tells (F.wrong_kind (F.as_function given) is (λ same. cc))

-- a shape that is written
no_shape_named : (program : Program) (here : Here) (e : Expr) (n : Name) (W : Type 0) (m : Option Meaning) (u : Untyped) → NamesShape e (Z.Named n) → meaning here n.word ≡ m → shape_meant m ≡ None → told_by u ≡ Some (misnamed m, n.place) → IsUntyped (FaultAt program here e) W u
no_shape_named program here e n W None u names is none tells = untyped_told (FaultAt program here e) W u tells (F.unknown (F.as_shape names) is)
no_shape_named program here e n W (Some (a_shape s)) u names is none tells = absurd (cc)
no_shape_named program here e n W (Some (a_function f)) u names is none tells = untyped_told (FaultAt program here e) W u tells (F.wrong_kind (F.as_shape names) is (λ same. cc))
no_shape_named program here e n W (Some (a_variable v t)) u names is none tells = untyped_told (FaultAt program here e) W u tells (F.wrong_kind (F.as_shape names) is (λ same. cc))

pub no_shape_told : (file : File) (locals : Locals) (site : Site) (program : Program) (here : Here) (e : Expr) (W : Type 0) (written : ShapeRef) (u : Untyped) → NamesShape e written → IsAround file locals site here → IsShapeAmong (names_at file locals site.known) site.current written (Err u) → IsUntyped (FaultAt program here e) W u
no_shape_told file locals site program here e W (Z.Named n) u names a is = no_shape_named program here e n W (find (names_at file locals site.known) n.word) u names (a.names n.word) is.0 is.1
no_shape_told file locals site program here e W (Z.Current p) u names a is = untyped_told (FaultAt program here e) W u is.1 (F.no_current names (a.at_site.current ∙ is.0))

pub shape_told : (file : File) (locals : Locals) (site : Site) (program : Program) (here : Here) (e : Expr) (W : Type 0) (written : ShapeRef) (found : Result ℕ Untyped) → NamesShape e written → IsAround file locals site here → IsShapeAmong (names_at file locals site.known) site.current written found → IfUntyped (FaultAt program here e) W found
shape_told file locals site program here e W written (Ok s) names a is = tt
shape_told file locals site program here e W written (Err u) names a is = no_shape_told file locals site program here e W written u names a is

type_shape : (file : File) (locals : Locals) (site : Site) (program : Program) (here : Here) (p : Place) (W : Type 0) (written : TypeName) (shape : Option ShapeRef) (operand : Box Expr Global) (u : Untyped) → written.shape ≡ shape → IsAround file locals site here → of_written (names_at file locals site.known) site.current written shape ≡ None → told_by u ≡ no_type (names_at file locals site.known) shape → IsUntyped (FaultAt program here (E.ParallelCast p written operand)) W u
type_shape file locals site program here p W written None operand u is a none tells = absurd (cc)
type_shape file locals site program here p W written (Some shape) operand u is a none tells = no_shape_told file locals site program here (E.ParallelCast p written operand) W shape u (F.in_cast is) a (lacks (shape_among (names_at file locals site.known) site.current shape) refl none, tells)
  where
    lacks : (o : Option ℕ) → shape_among (names_at file locals site.known) site.current shape ≡ o → S.of_shape written o ≡ None → shape_among (names_at file locals site.known) site.current shape ≡ None
    lacks None is none = is
    lacks (Some s) is none = absurd (cc)

pub type_told : (file : File) (locals : Locals) (site : Site) (program : Program) (here : Here) (p : Place) (W : Type 0) (written : TypeName) (operand : Box Expr Global) (found : Result ValueType Untyped) → IsAround file locals site here → IsTypeAmong (names_at file locals site.known) site.current written found → IfUntyped (FaultAt program here (E.ParallelCast p written operand)) W found
type_told file locals site program here p W written operand (Ok ty) a is = tt
type_told file locals site program here p W written operand (Err u) a is = type_shape file locals site program here p W written written.shape operand u refl a is.0 is.1

-- ---- axes and segment bits

among_none : (extents : List ℕ) (number : ℤ) (rank : ℕ) → rank ≡ length extents → axis_in rank number ≡ None → axis_among extents (Some number) ≡ None
among_none extents (pos n) rank count is = subst (λ (k : ℕ). axis_in k (pos n) ≡ None) count is
among_none extents (negsuc n) rank count is = refl

-- the rank of a shape that is there
counts : (file : File) (locals : Locals) (site : Site) {here : Here} {k s : ℕ} (shape : CountedShape here s) → IsAround file locals site here → Some k ≡ rank_of (slice_get file.shapes.items s) → k ≡ length shape.extents
counts file locals site {here = here} {s = s} shape a is =
    let known = rank_is file.shapes.items here s a.shapes shape.has_extents shape.few_axes in
    let both = is ∙ known in cc

axis_at : (file : File) (locals : Locals) (site : Site) (program : Program) (here : Here) (e axis : Expr) (mode : SegmentMode) (bit : Option Name) (W : Type 0) (x : TExpr) (number : Option ℤ) (current rank : Option ℕ) (u : Untyped) → GoesAlong e axis mode bit → IsAround file locals site here → Types program (part here) axis x true → constant_number here axis ≡ number → here.current ≡ current → rank ≡ rank_under file.shapes.items current → IsAxisOf number rank (place_of axis) (Err u) → IsUntyped (FaultAt program here e) W u
axis_at file locals site program here e axis mode bit W x None current rank u g a h n c r is = untyped_told (FaultAt program here e) W u is (F.axis_no_constant g (x, h) n)
axis_at file locals site program here e axis mode bit W x (Some number) current None u g a h n c r is = absurd is
axis_at file locals site program here e axis mode bit W x (Some number) None (Some k) u g a h n c r is = absurd (cc)
axis_at file locals site program here e axis mode bit W x (Some number) (Some s) (Some k) u g a h n c r is =
    let shape = counted_there (Z.Current (place_of e)) a c in
    untyped_told (FaultAt program here e) W u is.0 (F.axis_outside g ((x, h), n) c shape.has_extents (among_none shape.extents number k (counts file locals site shape a r) is.1))

pub axis_told : (file : File) (locals : Locals) (site : Site) (program : Program) (here : Here) (e : Expr) (mode : SegmentMode) (bit : Option Name) (W : Type 0) (axis : Expr) (x : TExpr) (rank : Option ℕ) (place : Place) (u : Untyped) → GoesAlong e axis mode bit → IsAround file locals site here → IsPlain axis → Types program (part here) axis x true → rank ≡ rank_under file.shapes.items site.current → place ≡ place_of axis → IsAxisOf (number_of_constant x) rank place (Err u) → IsUntyped (FaultAt program here e) W u
axis_told file locals site program here e mode bit W axis x rank place u g a plain h r at is =
    axis_at file locals site program here e axis mode bit W x (number_of_constant x) site.current rank u g a h (number_there program here axis x a.few plain h) a.at_site.current r (subst (λ (p : Place). IsAxisOf (number_of_constant x) rank p (Err u)) at is)

dim_at : (file : File) (locals : Locals) (site : Site) (program : Program) (here : Here) (p : Place) (written : ShapeRef) (W : Type 0) (axis : Box Expr Global) (x : TExpr) (number : Option ℤ) (shape rank : Option ℕ) (u : Untyped) → IsAround file locals site here → Types program (part here) axis.value x true → constant_number here axis.value ≡ number → shape_of here written ≡ shape → rank ≡ rank_under file.shapes.items shape → IsAxisOf number rank (place_of axis.value) (Err u) → IsUntyped (FaultAt program here (E.DimOf p written axis)) W u
dim_at file locals site program here p written W axis x None shape rank u a h n c r is = untyped_told (FaultAt program here (E.DimOf p written axis)) W u is (F.axis_no_constant_dim axis (x, h) n)
dim_at file locals site program here p written W axis x (Some number) shape None u a h n c r is = absurd is
dim_at file locals site program here p written W axis x (Some number) None (Some k) u a h n c r is = absurd (cc)
dim_at file locals site program here p written W axis x (Some number) (Some s) (Some k) u a h n c r is =
    let shape = counted_there written a c in
    untyped_told (FaultAt program here (E.DimOf p written axis)) W u is.0 (F.axis_outside_dim axis ((x, h), n) c shape.has_extents (among_none shape.extents number k (counts file locals site shape a r) is.1))

pub dim_told : (file : File) (locals : Locals) (site : Site) (program : Program) (here : Here) (p : Place) (W : Type 0) (written : ShapeRef) (axis : Box Expr Global) (x : TExpr) (shape rank : Option ℕ) (place : Place) (u : Untyped) → IsAround file locals site here → IsPlain axis.value → Types program (part here) axis.value x true → shape_of here written ≡ shape → rank ≡ rank_under file.shapes.items shape → place ≡ place_of axis.value → IsAxisOf (number_of_constant x) rank place (Err u) → IsUntyped (FaultAt program here (E.DimOf p written axis)) W u
dim_told file locals site program here p W written axis x shape rank place u a plain h named r at is =
    dim_at file locals site program here p written W axis x (number_of_constant x) shape rank u a h (number_there program here axis.value x a.few plain h) named r (subst (λ (p : Place). IsAxisOf (number_of_constant x) rank p (Err u)) at is)

pub bits_told : (program : Program) (here : Here) (e : Expr) (mode : SegmentMode) (written : Option Name) (found : Result (Option Variable) Untyped) → NamesBit e mode written → AreBitsNamed program here written found → IfUntyped (FaultAt program here e) (Rests program here e) found
bits_told program here e mode written (Ok bit) names h = tt
bits_told program here e mode None (Err u) names h = absurd h
bits_told program here e mode (Some n) (Err (N.Fault standing)) names h = h e mode names
bits_told program here e mode (Some n) (Err N.Faulty) names h = R.on_variable (F.as_bit names) h.1
bits_told program here e mode (Some n) (Err N.Memory) names h = absurd h
