-- What typing records of an expression, and when it answers no typed tree.
use Rattle.std.specs.Prelude.{◌≡◌, ℕ, ◌⊎◌, Bool, true, false, List, length, slice_get, Option, Some, None, IfSome, IsSome, MatchOption, Result, Ok, Err, Box, Vec, is_some}
use Rattle.std.specs.Option.{option_map}
use Rattle.std.specs.declared.alloc.Global.{Global}
use Rattle.cstar_base.specs.declared.faults.Fault.{Fault}
use Rattle.cstar_base.specs.declared.faults.Fault.TheVariants as F
use Rattle.cstar_base.specs.declared.operators.Place.{Place}
use Rattle.cstar_tree.specs.declared.syntax.Expr.{Expr}
use Rattle.cstar_tree.specs.declared.syntax.Expr as E
use Rattle.cstar_tree.specs.declared.syntax.Name.{Name}
use Rattle.cstar_tree.specs.declared.typed.TExpr.{TExpr}
use Rattle.cstar_tree.specs.declared.typed.Variable.{Variable}
use Rattle.cstar_tree.specs.ExpressionFaults.{FaultIn, IsPart, Uses, ValueFaultIn, parameters_of, variable}
use Rattle.cstar_tree.specs.ExpressionTypes.{callee}
use Rattle.cstar_tree.specs.Headers.{Placed, Program, Reached, header_place, returns_of, unknown}
use Rattle.cstar_tree.specs.Scopes.{Here, a_function, a_variable, meaning, part}
use Rattle.type_scopes.specs.Answers.{IsSettled, part_of, told_by}
use Rattle.type_scopes.specs.Faults.{IsCovered, IsIncluded, lesser, told}
use Rattle.type_scopes.specs.Headers.{HeaderFault, IsOfGroup, returned}
use Rattle.type_scopes.specs.declared.faults.Untyped.{Untyped}
use Rattle.type_scopes.specs.declared.faults.Untyped.TheVariants as N
use Rattle.type_scopes.specs.declared.file.File.{File}
use Rattle.type_scopes.specs.declared.headers.Header.{Header}
use Rattle.type_scopes.specs.declared.locals.Locals.{Locals}
use Rattle.type_scopes.specs.declared.sites.Site.{Site}
use Rattle.type_scopes.specs.declared.standing.Standing.{Standing}
use Rattle.type_expressions.specs.Along.{IsAxisOf, number_of_constant}
use Rattle.type_expressions.specs.Calls.{TakesParallel}
use Rattle.type_expressions.specs.Programs.{HasItsCalls}
use Rattle.type_expressions.specs.Walks.{AreParts, IsAround, IsPlain}
use Rattle.type_expressions.specs.declared.found.Instances.{Instances}
use Rattle.type_expressions.specs.declared.found.TypedExpr.{TypedExpr}
use Rattle.type_expressions.specs.declared.intrinsics.Axis.{Axis}

-- a fault stands in the header of an instance of the program
pub record IsOfHeader (program : Program) (shapes : List (List ℕ)) (fault : Fault) (p : Place) : Type 0 where
  pub number : ℕ
  pub reached : Reached
  pub placed : Placed
  pub is_instance : slice_get program.instances number ≡ Some reached
  pub is_placed : slice_get program.functions reached.function ≡ Some placed
  pub in_header : HeaderFault (header_place shapes placed reached) placed.function fault p

-- What may be recorded where these faults stand: one of them, or one of the header of an instance of
-- the program. Of an expression outside all functions that is told to be no constant nothing more is
-- asked.
pub data IsRecordable (program : Program) (here : Here) (Stands : Fault → Place → Type 0) : Fault → Place → Type 0 where
  stands : {fault : Fault} {p : Place} → Stands fault p → IsRecordable program here Stands fault p
  in_header : {fault : Fault} {p : Place} → IsOfHeader program here.shapes fault p → IsRecordable program here Stands fault p
  outside : {p : Place} → here.around ≡ None → IsRecordable program here Stands F.Constant p

-- the type of a parameter or of the result of a function has a fault
pub data HasFaultyHeader (here : Here) (placed : Placed) (f : ℕ) : Type 0 where
  parameter : (which : ℕ) → slice_get (parameters_of here placed f) which ≡ Some None → HasFaultyHeader here placed f
  result : returns_of (callee here placed f) placed.function.result ≡ unknown → HasFaultyHeader here placed f

-- an expression rests on a declaration that has a fault of its own
pub data Rests (program : Program) : Here → Expr → Type 0 where
  on_variable : {here : Here} {e : Expr} {n : Name} {v : Variable} → Uses e variable n → meaning here n.word ≡ Some (a_variable v None) → Rests program here e
  on_function : {here : Here} {n : Name} {f : ℕ} {placed : Placed} (arguments : Vec Expr Global) → meaning here n.word ≡ Some (a_function f) → slice_get program.functions f ≡ Some placed → HasFaultyHeader here placed f → Rests program here (E.Call n arguments)
  in_part : {here there : Here} {e x : Expr} → IsPart here e there x → Rests program there x → Rests program here e
  in_brackets : {here : Here} {p : Place} (inner : Box Expr Global) → Rests program here inner.value → Rests program here (E.Brackets p inner)

-- What is recorded of a part of a file: the least fault afterwards is the old one or one of these, and
-- never a later one. Where no tree is answered a fault is recorded, unless this is why.
pub record Tells (Recorded : Fault → Place → Type 0) (Why : Type 0) (typed : Bool) (old new : Option Standing) : Type 0 where
  pub kept : (fault : Fault) (p : Place) → IsCovered old fault p → IsCovered new fault p
  pub honest : (option_map told new ≡ option_map told old) ⊎ MatchOption new ⊥ (λ least. Recorded least.fault least.place)
  pub untyped : typed ≡ false → IsSome new ⊎ Why

-- what is recorded of an expression at its place, and of one that needs a value
abbrev pub TellsOf : Program → Here → Expr → Bool → Option Standing → Option Standing → Type 0
TellsOf program here e = Tells (IsRecordable program here (FaultIn program here e)) (Rests program here e)

abbrev pub Finds : Instances → File → Locals → Site → Expr → Bool → Option Standing → Option Standing → Type 0
Finds so_far file locals site e typed old new = (program : Program) (here : Here) → IsAround file locals site here → HasItsCalls so_far file program here e → IsPlain e → TellsOf program here e typed old new

abbrev pub FindsValue : Instances → File → Locals → Site → Expr → Bool → Option Standing → Option Standing → Type 0
FindsValue so_far file locals site e typed old new = (program : Program) (here : Here) → IsAround file locals site here → HasItsCalls so_far file program here e → IsPlain e → Tells (IsRecordable program here (ValueFaultIn program (part here) e)) (Rests program (part here) e) typed old new

-- why a part has no tree: one of these faults stands, or else this, or memory is wanting
abbrev pub IsUntyped : (Fault → Place → Type 0) → Type 0 → Untyped → Type 0
IsUntyped Stands Why (N.Fault standing) = Stands standing.fault standing.place
IsUntyped Stands Why N.Faulty = Why
IsUntyped Stands Why N.Memory = Unit {0}

abbrev pub IfUntyped : {A : Type 0} → (Fault → Place → Type 0) → Type 0 → Result A Untyped → Type 0
IfUntyped Stands Why (Ok a) = Unit {0}
IfUntyped Stands Why (Err u) = IsUntyped Stands Why u

-- so it is of an expression from its typed parts, which may be wanting
abbrev pub TellsAt : Program → Here → Expr → Type 0 → Bool → Option Standing → Option Standing → Type 0
TellsAt program here e Wanting = Tells (IsRecordable program here (FaultIn program here e)) (Rests program here e ⊎ Wanting)

abbrev pub FindsFrom : {X : Type 0} → (Program → Here → X → Type 0) → Option X → File → Locals → Site → Expr → Bool → Option Standing → Option Standing → Type 0
FindsFrom are parts file locals site e typed old new = (program : Program) (here : Here) → IsAround file locals site here → IfSome parts (are program here) → TellsAt program here e (is_some parts ≡ false) typed old new

abbrev pub FindsFromList : Instances → Option (Vec (Box TExpr Global) Global) → File → Locals → Site → Expr → Bool → Option Standing → Option Standing → Type 0
FindsFromList so_far parts file locals site e typed old new = (program : Program) (here : Here) → IsAround file locals site here → HasItsCalls so_far file program here e → IfSome parts (AreParts program here e) → TellsAt program here e (is_some parts ≡ false) typed old new

-- an expression without parts
abbrev pub IsLeaf : Expr → Type 0
IsLeaf (E.Name n) = Unit {0}
IsLeaf (E.Number p value u) = Unit {0}
IsLeaf (E.Dot p) = Unit {0}
IsLeaf (E.PositionsOf p shape) = Unit {0}
IsLeaf (E.RankOf p shape) = Unit {0}
IsLeaf (E.GetChar p) = Unit {0}
IsLeaf _ = ⊥

-- an operator on one operand, which names nothing itself
abbrev pub IsOperator : Expr → Type 0
IsOperator (E.Prefix' p op _ operand) = Unit {0}
IsOperator (E.Casts' chain _ operand) = Unit {0}
IsOperator (E.Postfix' p op _ operand) = Unit {0}
IsOperator _ = ⊥

-- an expression with two or three operands, and one with a list of parts
abbrev pub HasOperands : Expr → Type 0
HasOperands (E.Assign' p op _ target _ value) = Unit {0}
HasOperands (E.Choice' p _ test _ second _ third) = Unit {0}
HasOperands (E.Binary' p op _ left _ right) = Unit {0}
HasOperands _ = ⊥

abbrev pub HasList : Expr → Type 0
HasList (E.Call' n _ arguments) = Unit {0}
HasList (E.LeftIndex' p _ indexes n) = Unit {0}
HasList (E.Printf' p text _ arguments) = Unit {0}
HasList _ = ⊥

-- a scan has its source; no other expression wants one
abbrev pub has_source : Expr → Option (Box TExpr Global) → Bool
has_source (E.Scan' p _ source _ axis _ _ _ bit _) x = is_some x
has_source _ x = true

-- an expression that needs a value has none
abbrev pub HasNoValue : Place → Option TypedExpr → Untyped → Type 0
HasNoValue p None u = u ≡ N.Faulty
HasNoValue p (Some t) u = (t.has_value ≡ false) × (told_by u ≡ Some (F.WrongKind, p))

-- what the axis of an intrinsic comes to, if it has a tree, and the least fault then
abbrev pub IsAxisSettled : Option (Box TExpr Global) → Option ℕ → Place → Option Axis → Option Standing → Option Standing → Type 0
IsAxisSettled None rank p r old new = (r ≡ None) × (new ≡ old)
IsAxisSettled (Some x) rank p r old new = (typed : Result Axis Untyped) × IsAxisOf (number_of_constant x.value) rank p typed × (r ≡ part_of typed) × IsSettled old typed new

-- what is recorded of an expression that is to be constant, behind the faults before it
abbrev pub IsExpected : Site → Place → Option Standing → Option Standing → Option Standing → Type 0
IsExpected site p earlier old new = (own : Option Standing) × IsIncluded own earlier new × ((own ≡ old) ⊎ ((site.function ≡ None) × MatchOption own ⊥ (λ least. told least ≡ lesser old F.Constant p)))

-- the least fault of the header of a function that is reached is recorded, or nothing is
abbrev pub RecordsHeader : Option Header → Option Standing → Option Standing → Type 0
RecordsHeader None old new = new ≡ old
RecordsHeader (Some header) old new = (new ≡ old) ⊎ IsIncluded old header.faults.least new

abbrev pub RecordsReached : Option ℕ → Option Header → Option Standing → Option Standing → Type 0
RecordsReached None header old new = new ≡ old
RecordsReached (Some around) header old new = RecordsHeader header old new

-- a call that does not fit the header of its function
pub data IsUnfitting (file : File) (around : Option ℕ) (f : ℕ) (header : Header) (given : List TExpr) : Fault → Type 0 where
  other_shape : header.other_shape ≡ true → IsUnfitting file around f header given F.OtherShape
  parallel : TakesParallel header.parameters.items given → IsUnfitting file around f header given F.ScalarWanted
  count : (length header.parameters.items ≡ length given → ⊥) → IsUnfitting file around f header given F.Arguments
  recursion : IsOfGroup file around f → IsUnfitting file around f header given F.Recursion

-- a parameter or the result of a function has no type
pub data HasNoType (header : Header) : Type 0 where
  parameter : (which : ℕ) → slice_get header.parameters.items which ≡ Some None → HasNoType header
  result : returned header.returns ≡ unknown → HasNoType header

-- why a call has no tree
abbrev pub IsRefusedCall : File → Option ℕ → ℕ → Header → Place → List TExpr → Untyped → Type 0
IsRefusedCall file around f header p given (N.Fault standing) = (standing.place ≡ p) × IsUnfitting file around f header given standing.fault
IsRefusedCall file around f header p given N.Faulty = HasNoType header
IsRefusedCall file around f header p given N.Memory = Unit {0}
