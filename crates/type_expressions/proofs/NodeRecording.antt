-- What is recorded of an expression from its typed parts.
use Rattle.std.proofs.Common.{◌≡◌, ◌⊎◌, inl, inr, ℕ, List, length, Bool, true, false, Option, Some, None, IfErr, MatchResult, Result, Ok, Err, Box, Vec, refl, sym, subst, ◌∙◌}
use Rattle.std.specs.List.{slice_get}
use Rattle.std.specs.Option.{is_some}
use Rattle.std.specs.declared.alloc.Global.{Global}
use Rattle.cstar_base.specs.declared.faults.Fault.{Fault}
use Rattle.cstar_base.specs.declared.operators.Place.{Place}
use Rattle.cstar_tree.specs.declared.syntax.Expr.{Expr, items_hidden-the_row-Expr-0}
use Rattle.cstar_tree.specs.declared.syntax.Expr as E
use Rattle.cstar_tree.specs.declared.syntax.Name.{Name}
use Rattle.cstar_tree.specs.declared.syntax.TypeName.{TypeName}
use Rattle.cstar_tree.specs.declared.typed.TExpr.{TExpr}
use Rattle.cstar_tree.specs.declared.typed.ValueType.{ValueType}
use Rattle.cstar_tree.specs.declared.typed.Variable.{Variable}
use Rattle.cstar_tree.specs.ExpressionFaults.{FaultAt, FaultIn}
use Rattle.cstar_tree.specs.ExpressionFaults as F
use Rattle.cstar_tree.specs.ExpressionTypes.{IsVariable, Types, TypesEach, TypesIndexes}
use Rattle.cstar_tree.specs.Headers.{Placed, Program}
use Rattle.cstar_tree.specs.Scopes.{Here, a_function, find, meaning, part, written_type}
use Rattle.type_scopes.specs.Answers.{IsSettled, part_of}
use Rattle.type_scopes.specs.Bindings.{variable_type}
use Rattle.type_scopes.specs.FileBindings.{names_at}
use Rattle.type_scopes.specs.Headers.{IsHeader}
use Rattle.type_scopes.specs.Named.{IsFunctionAmong, IsTypeAmong}
use Rattle.type_scopes.specs.declared.faults.Untyped.{Untyped}
use Rattle.type_scopes.specs.declared.faults.Untyped.TheVariants as N
use Rattle.type_scopes.specs.declared.file.File.{File}
use Rattle.type_scopes.specs.declared.headers.Header.{Header}
use Rattle.type_scopes.specs.declared.locals.Locals.{Locals}
use Rattle.type_scopes.specs.declared.names.VariableType as Names
use Rattle.type_scopes.specs.declared.sites.Site.{Site}
use Rattle.type_scopes.specs.declared.standing.Standing.{Standing}
use Rattle.type_expressions.specs.Along.{HasExtents}
use Rattle.type_expressions.specs.Answers.{HasShapes, IsAnswer, IsAnswerOrMemory, IsFaultOrMemory, IsOutcome, IsSite, trees}
use Rattle.type_expressions.specs.Calls.{IsReached}
use Rattle.type_expressions.specs.Instances.{kept_header, met}
use Rattle.type_expressions.specs.Names.{IsVariableMeant, TellsOther}
use Rattle.type_expressions.specs.Programs.{HasItsCalls}
use Rattle.type_expressions.specs.Recorded.{FindsFrom, FindsFromList, IfUntyped, IsRecordable, IsRefusedCall, RecordsReached, Rests, Tells, TellsAt}
use Rattle.type_expressions.specs.Walks.{AreParts, IsAround, IsPart}
use Rattle.type_expressions.specs.declared.found.Instances.{Instances}
use Rattle.type_expressions.specs.declared.found.TypedExpr.{TypedExpr}
use Rattle.type_expressions.proofs.AtSites.{some_in}
use Rattle.type_expressions.proofs.CallFaults.{no_type_told, reached_tells, unfitting_told}
use Rattle.type_expressions.proofs.CalledFunctions.{called_function}
use Rattle.type_expressions.proofs.KeptHeaders.{kept_of_file}
use Rattle.type_expressions.proofs.NodeFaults.{array_indexed, at_node, function_told, type_told, untyped_answer, untyped_as, untyped_at, untyped_plainly, variable_told}
use Rattle.type_expressions.proofs.NodeFaults as B
use Rattle.type_expressions.proofs.Recording.{tells_outcome, tells_settled, tells_then}
use Rattle.type_expressions.proofs.Walking.{found_of, no_array, extents_known, type_found, type_there}

-- ---- what is answered for the names and nodes

abbrev ArrayAnswer : File → Locals → Site → Name → Result (Variable × Names.VariableType) Untyped → Type 0
ArrayAnswer file locals site n found = MatchResult found (IsVariableMeant true (find (names_at file locals site.known) n.word)) (TellsOther true (find (names_at file locals site.known) n.word) n.place)

abbrev PlainAnswer : File → Locals → Site → Name → Result (Variable × Names.VariableType) Untyped → Type 0
PlainAnswer file locals site n found = MatchResult found (IsVariableMeant false (find (names_at file locals site.known) n.word)) (TellsOther false (find (names_at file locals site.known) n.word) n.place)

abbrev LeftIndexAnswer : File → Place → Variable → Names.VariableType → Vec (Box TExpr Global) Global → Result TExpr Untyped → Type 0
LeftIndexAnswer file p v ty xs typed = (program : Program) (here : Here) (n : Name) (given : Vec Expr Global) → HasShapes file.shapes.items here → HasExtents here ty.shape → IsVariable here n v (variable_type ty) → ty.array ≡ None → TypesIndexes program here n 0 given.items (trees xs.items) → IsAnswerOrMemory program here (E.LeftIndex p given n) typed

abbrev PrintfAnswer : Place → List ℕ → Vec (Box TExpr Global) Global → Result TypedExpr Untyped → Type 0
PrintfAnswer p text xs typed = (program : Program) (here : Here) (given : Vec Expr Global) → TypesEach program (part here) given.items (trees xs.items) → MatchResult typed (λ t. Types program here (E.Printf p text given) t.expr.value t.has_value) (IsFaultOrMemory program here (E.Printf p text given))

-- ---- one part of an expression that is settled

pub node_settled : {A : Type 0} (program : Program) (here : Here) (e : Expr) (W : Type 0) (found : Result A Untyped) (o : Option A) (old new : Option Standing) → IfUntyped (FaultAt program here e) (Rests program here e) found → o ≡ part_of found → IsSettled old found new → TellsAt program here e W (is_some o) old new
node_settled program here e W found o old new h is settled = tells_settled (IsRecordable program here (FaultIn program here e)) (Rests program here e ⊎ W) found o old new (untyped_as found (at_node {program = program} {here = here} {e = e}) (λ r. inl r) h) is settled

pub node_outcome : (program : Program) (here : Here) (e : Expr) (W : Type 0) (typed : Result TExpr Untyped) (r : Option TypedExpr) (old new : Option Standing) → IfUntyped (FaultAt program here e) (Rests program here e) typed → IsOutcome typed old new r → TellsAt program here e W (is_some r) old new
node_outcome program here e W typed r old new h is = tells_outcome (IsRecordable program here (FaultIn program here e)) (Rests program here e ⊎ W) typed r old new (untyped_as typed (at_node {program = program} {here = here} {e = e}) (λ r. inl r) h) is

-- no tree, since a part is wanting
pub tells_wanting : {S : Fault → Place → Type 0} {W : Type 0} {typed : Bool} {old new : Option Standing} (first : Bool) → W → Tells S W first old new → Tells S W typed old new
tells_wanting first why all = record { kept = all.kept; honest = all.honest; untyped = λ none. inr why }

-- a name or type of the expression, and its operand: the one or the other is wanting
pub settled_none : {A X : Type 0} (program : Program) (here : Here) (e : Expr) (found : Result A Untyped) (o : Option A) (parts : Option X) (old new : Option Standing) → IfUntyped (FaultAt program here e) (Rests program here e) found → o ≡ part_of found → IsSettled old found new → ((a : A) (b : X) → o ≡ Some a → parts ≡ Some b → ⊥) → TellsAt program here e (is_some parts ≡ false) false old new
settled_none program here e found None parts old new h is settled never = node_settled program here e (is_some parts ≡ false) found None old new h is settled
settled_none program here e found (Some a) None old new h is settled never = tells_wanting true (inr refl) (node_settled program here e (false ≡ false) found (Some a) old new h is settled)
settled_none program here e found (Some a) (Some b) old new h is settled never = absurd (never a b refl refl)

-- or both are there
pub settled_outcome : {A : Type 0} (program : Program) (here : Here) (e : Expr) (W : Type 0) (found : Result A Untyped) (o : Option A) (made : Result TExpr Untyped) (r : Option TypedExpr) (old mid new : Option Standing) → IfUntyped (FaultAt program here e) (Rests program here e) found → o ≡ part_of found → IsSettled old found mid → IfUntyped (FaultAt program here e) (Rests program here e) made → IsOutcome made mid new r → TellsAt program here e W (is_some r) old new
settled_outcome program here e W found o made r old mid new h is settled k m =
    tells_then (λ why. inl why) (node_settled program here e W found o old mid h is settled) (node_outcome program here e W made r mid new k m)

pub cast_tells : (file : File) (locals : Locals) (site : Site) (p : Place) (written : TypeName) (operand : Box Expr Global) (found : Result ValueType Untyped) (o : Option ValueType) (ty : ValueType) (x : Box TExpr Global) (typed : Result TExpr Untyped) (old mid new : Option Standing) (r : Option TypedExpr) → IsTypeAmong (names_at file locals site.known) site.current written found → o ≡ part_of found → IsSettled old found mid → o ≡ Some ty → ((program : Program) (here : Here) (written : TypeName) (e : Box Expr Global) → IsSite site here → written_type here written ≡ Some ty → Types program (part here) e.value x.value true → IsAnswerOrMemory program here (E.ParallelCast p written e) typed) → IsOutcome typed mid new r → FindsFrom (λ program here x. IsPart program here operand.value x) (Some x) file locals site (E.ParallelCast p written operand) (is_some r) old new
cast_tells file locals site p written operand found o ty x typed old mid new r among part_is settled is h m = λ program here a typed_part.
    let e = E.ParallelCast p written operand in
    settled_outcome program here e (true ≡ false) found o typed r old mid new (type_told file locals site program here p (Rests program here e) written operand found a among) part_is settled (untyped_answer program here e (Rests program here e) typed (h program here written operand a.at_site (type_there written a ∙ type_found (names_at file locals site.known) site.current written found o ty among part_is is) typed_part)) m

pub cast_wanting : (file : File) (locals : Locals) (site : Site) (p : Place) (written : TypeName) (operand : Box Expr Global) (found : Result ValueType Untyped) (o : Option ValueType) (parts : Option (Box TExpr Global)) (old new : Option Standing) → IsTypeAmong (names_at file locals site.known) site.current written found → o ≡ part_of found → IsSettled old found new → ((a : ValueType) (b : Box TExpr Global) → o ≡ Some a → parts ≡ Some b → ⊥) → FindsFrom (λ program here x. IsPart program here operand.value x) parts file locals site (E.ParallelCast p written operand) false old new
cast_wanting file locals site p written operand found o parts old new among part_is settled never = λ program here a typed_parts.
    let e = E.ParallelCast p written operand in
    settled_none program here e found o parts old new (type_told file locals site program here p (Rests program here e) written operand found a among) part_is settled never

array_told : (file : File) (locals : Locals) (site : Site) (n : Name) (bracket : Place) (index : Box Expr Global) (found : Result (Variable × Names.VariableType) Untyped) (program : Program) (here : Here) → IsAround file locals site here → ArrayAnswer file locals site n found → IfUntyped (FaultAt program here (E.Element n bracket index)) (Rests program here (E.Element n bracket index)) found
array_told file locals site n bracket index (Ok v) program here a h = tt
array_told file locals site n bracket index (Err u) program here a h = variable_told program here (E.Element n bracket index) n true (find (names_at file locals site.known) n.word) u F.as_array (a.names n.word) (λ v t is other. B.no_array v t t.array refl is other) h

pub element_tells : (file : File) (locals : Locals) (site : Site) (n : Name) (bracket : Place) (index : Box Expr Global) (found : Result (Variable × Names.VariableType) Untyped) (o : Option (Variable × Names.VariableType)) (v : Variable) (ty : Names.VariableType) (x : Box TExpr Global) (typed : Result TExpr Untyped) (old mid new : Option Standing) (r : Option TypedExpr) → ArrayAnswer file locals site n found → o ≡ part_of found → IsSettled old found mid → o ≡ Some (v, ty) → ((program : Program) (here : Here) (n' : Name) (length : ℕ) (i : Box Expr Global) → IsSite site here → n'.place ≡ n.place → IsVariable here n' v (variable_type ty) → ty.array ≡ Some length → Types program (part here) i.value x.value true → IsAnswer program here (E.Element n' bracket i) typed) → IsOutcome typed mid new r → FindsFrom (λ program here x. IsPart program here index.value x) (Some x) file locals site (E.Element n bracket index) (is_some r) old new
element_tells file locals site n bracket index found o v ty x typed old mid new r among part_is settled is h m = λ program here a typed_part.
    let e = E.Element n bracket index in
    let m_of = find (names_at file locals site.known) n.word in
    let meant = found_of (IsVariableMeant true m_of) (TellsOther true m_of n.place) found o (v, ty) among part_is is in
    let array = some_in ty.array meant.1 in
    settled_outcome program here e (true ≡ false) found o typed r old mid new (array_told file locals site n bracket index found program here a among) part_is settled (untyped_plainly program here e (Rests program here e) typed (h program here n array.0 index a.at_site refl (a.names n.word ∙ meant.0) array.1 typed_part)) m

pub element_wanting : (file : File) (locals : Locals) (site : Site) (n : Name) (bracket : Place) (index : Box Expr Global) (found : Result (Variable × Names.VariableType) Untyped) (o : Option (Variable × Names.VariableType)) (parts : Option (Box TExpr Global)) (old new : Option Standing) → ArrayAnswer file locals site n found → o ≡ part_of found → IsSettled old found new → ((a : Variable × Names.VariableType) (b : Box TExpr Global) → o ≡ Some a → parts ≡ Some b → ⊥) → FindsFrom (λ program here x. IsPart program here index.value x) parts file locals site (E.Element n bracket index) false old new
element_wanting file locals site n bracket index found o parts old new among part_is settled never = λ program here a typed_parts.
    settled_none program here (E.Element n bracket index) found o parts old new (array_told file locals site n bracket index found program here a among) part_is settled never

-- ---- a left index

pub indexed_tells : (file : File) (locals : Locals) (site : Site) (p : Place) (n : Name) (given : Vec Expr Global) (W : Type 0) (v : Variable) (ty : Names.VariableType) (xs : Vec (Box TExpr Global) Global) (typed : Result TExpr Untyped) (old new : Option Standing) (r : Option TypedExpr) → IsVariableMeant false (find (names_at file locals site.known) n.word) (v, ty) → LeftIndexAnswer file p v ty xs typed → IsOutcome typed old new r → (program : Program) (here : Here) → IsAround file locals site here → AreParts program here (E.LeftIndex p given n) xs → TellsAt program here (E.LeftIndex p given n) W (is_some r) old new
indexed_tells file locals site p n given W v ty xs typed old new r found h m program here a parts =
    let e = E.LeftIndex p given n in
    let is : IsVariable here n v (variable_type ty) = a.names n.word ∙ found.0 in
    node_outcome program here e W typed r old new (untyped_answer program here e (Rests program here e) typed (h program here n given a.shapes (extents_known n v ty ty.shape a is refl) is (no_array ty.array found.1) (subst (λ (es : List Expr). TypesIndexes program here n 0 es (trees xs.items)) (items_hidden-the_row-Expr-0 given) parts))) m

-- its name is settled, and then it is typed
pub left_index_tells : (file : File) (locals : Locals) (site : Site) (p : Place) (n : Name) (given : Vec Expr Global) (found : Result (Variable × Names.VariableType) Untyped) (o : Option (Variable × Names.VariableType)) (parts : Option (Vec (Box TExpr Global) Global)) (typed : Bool) (old mid new : Option Standing) → PlainAnswer file locals site n found → o ≡ part_of found → IsSettled old found mid → (program : Program) (here : Here) → IsAround file locals site here → TellsAt program here (E.LeftIndex p given n) ((is_some o ≡ false) ⊎ (is_some parts ≡ false)) typed mid new → TellsAt program here (E.LeftIndex p given n) (is_some parts ≡ false) typed old new
left_index_tells file locals site p n given found o parts typed old mid new among part_is settled program here a rest =
    let e = E.LeftIndex p given n in
    tells_then (λ why. elim why [
      | inl rests ↦ inl (inl rests)
      | inr one ↦ elim one [ inl name ↦ inr name | inr list ↦ inl (inr list) ]
    ]) (node_settled program here e (is_some parts ≡ false) found o old mid (plain_told found among) part_is settled) rest
  where
    plain_told : (found : Result (Variable × Names.VariableType) Untyped) → PlainAnswer file locals site n found → IfUntyped (FaultAt program here (E.LeftIndex p given n)) (Rests program here (E.LeftIndex p given n)) found
    plain_told (Ok v) h = tt
    plain_told (Err u) h = variable_told program here (E.LeftIndex p given n) n false (find (names_at file locals site.known) n.word) u (F.as_indexed given) (a.names n.word) (λ v t is other. array_indexed given v t t.array refl is other) h

-- ---- `printf`

pub printf_tells : (p : Place) (text : List ℕ) (given : Vec Expr Global) (xs : Vec (Box TExpr Global) Global) (typed : Result TypedExpr Untyped) (r : Option TypedExpr) (old new : Option Standing) (program : Program) (here : Here) → PrintfAnswer p text xs typed → r ≡ part_of typed → IsSettled old typed new → AreParts program here (E.Printf p text given) xs → TellsAt program here (E.Printf p text given) (true ≡ false) (is_some r) old new
printf_tells p text given xs typed r old new program here h is settled parts =
    let e = E.Printf p text given in
    let each = subst (λ (es : List Expr). TypesEach program (part here) es (trees xs.items)) (items_hidden-the_row-Expr-0 given) parts in
    node_settled program here e (true ≡ false) typed r old new (told typed (h program here given each)) is settled
  where
    told : (typed : Result TypedExpr Untyped) → MatchResult typed (λ t. Types program here (E.Printf p text given) t.expr.value t.has_value) (IsFaultOrMemory program here (E.Printf p text given)) → IfUntyped (FaultAt program here (E.Printf p text given)) (Rests program here (E.Printf p text given)) typed
    told (Ok t) h = tt
    told (Err u) h = untyped_at program here (E.Printf p text given) (Rests program here (E.Printf p text given)) u h

-- ---- a call

pub no_function_tells : (so_far : Instances) (file : File) (locals : Locals) (site : Site) (n : Name) (given : Vec Expr Global) (called : Result ℕ Untyped) (named : Option ℕ) (parts : Option (Vec (Box TExpr Global) Global)) (old new : Option Standing) → IsFunctionAmong (names_at file locals site.known) n called → named ≡ part_of called → IsSettled old called new → ((f : ℕ) → named ≡ Some f → ⊥) → FindsFromList so_far parts file locals site (E.Call n given) false old new
no_function_tells so_far file locals site n given called None parts old new among part_is settled never = λ program here a calls typed_parts.
    node_settled program here (E.Call n given) (is_some parts ≡ false) called None old new (told called among program here (a.names n.word)) part_is settled
  where
    told : (called : Result ℕ Untyped) → IsFunctionAmong (names_at file locals site.known) n called → (program : Program) (here : Here) → meaning here n.word ≡ find (names_at file locals site.known) n.word → IfUntyped (FaultAt program here (E.Call n given)) (Rests program here (E.Call n given)) called
    told (Ok f) h program here means = tt
    told (Err u) h program here means = function_told program here n (Rests program here (E.Call n given)) given (find (names_at file locals site.known) n.word) u means h
no_function_tells so_far file locals site n given called (Some f) parts old new among part_is settled never = absurd (never f refl)

settled_some : {A : Type 0} (found : Result A Untyped) (o : Option A) {a : A} (old new : Option Standing) → o ≡ part_of found → o ≡ Some a → IsSettled old found new → new ≡ old
settled_some (Ok x) o old new is has settled = settled
settled_some (Err u) o old new is has settled = absurd (cc)

-- the function is reached, whatever its arguments are
pub call_reaches : (so_far : Instances) (file : File) (locals : Locals) (site : Site) (n : Name) (given : Vec Expr Global) (called : Result ℕ Untyped) (named : Option ℕ) (f : ℕ) (header : Option Header) (number : Option ℕ) (W : Type 0) (old mid new : Option Standing) → IsFunctionAmong (names_at file locals site.known) n called → named ≡ part_of called → named ≡ Some f → IsSettled old called mid → kept_header so_far (record { function = f; current = site.current }) ≡ header → IsReached (met so_far) site.function (record { function = f; current = site.current }) number → RecordsReached site.function header mid new → (program : Program) (here : Here) → IsAround file locals site here → HasItsCalls so_far file program here (E.Call n given) → Tells (IsRecordable program here (FaultIn program here (E.Call n given))) W true old new
call_reaches so_far file locals site n given called named f header number W old mid new among part_is is settled kept reached records program here a calls =
    let means = a.names n.word ∙ called_function (names_at file locals site.known) n called named among part_is is in
    let before = settled_some called named old mid part_is is settled in
    subst (λ (l : Option Standing). Tells (IsRecordable program here (FaultIn program here (E.Call n given))) W true l new) before (reached_tells so_far file program here n given site.function f site.current number header W mid new means calls kept reached records)

pub call_wanting : (so_far : Instances) (file : File) (locals : Locals) (site : Site) (n : Name) (given : Vec Expr Global) (called : Result ℕ Untyped) (named : Option ℕ) (f : ℕ) (header : Option Header) (number : Option ℕ) (parts : Option (Vec (Box TExpr Global) Global)) (old mid new : Option Standing) → IsFunctionAmong (names_at file locals site.known) n called → named ≡ part_of called → named ≡ Some f → IsSettled old called mid → kept_header so_far (record { function = f; current = site.current }) ≡ header → IsReached (met so_far) site.function (record { function = f; current = site.current }) number → RecordsReached site.function header mid new → is_some parts ≡ false → FindsFromList so_far parts file locals site (E.Call n given) false old new
call_wanting so_far file locals site n given called named f header number parts old mid new among part_is is settled kept reached records none = λ program here a calls typed_parts.
    tells_wanting true (inr none) (call_reaches so_far file locals site n given called named f header number (Rests program here (E.Call n given) ⊎ (is_some parts ≡ false)) old mid new among part_is is settled kept reached records program here a calls)

pub call_tells : (so_far : Instances) (file : File) (locals : Locals) (site : Site) (n : Name) (given : Vec Expr Global) (called : Result ℕ Untyped) (named : Option ℕ) (f : ℕ) (header : Header) (number : Option ℕ) (xs : Vec (Box TExpr Global) Global) (typed : Result TypedExpr Untyped) (r : Option TypedExpr) (old mid then new : Option Standing) → IsFunctionAmong (names_at file locals site.known) n called → named ≡ part_of called → named ≡ Some f → IsSettled old called mid → kept_header so_far (record { function = f; current = site.current }) ≡ Some header → IsReached (met so_far) site.function (record { function = f; current = site.current }) number → RecordsReached site.function (Some header) mid then → IfErr typed (IsRefusedCall file site.function f header n.place (trees xs.items)) → r ≡ part_of typed → IsSettled then typed new → FindsFromList so_far (Some xs) file locals site (E.Call n given) (is_some r) old new
call_tells so_far file locals site n given called named f header number xs typed r old mid then new among part_is is settled kept reached records refused typed_is typed_settled = λ program here a calls parts.
    let e = E.Call n given in
    let means = a.names n.word ∙ called_function (names_at file locals site.known) n called named among part_is is in
    let function = calls.of_file.named n.word f means in
    let kept_head = kept_of_file file so_far (record { function = f; current = site.current }) header calls.of_file.headers kept in
    let head = subst (λ (c : Option ℕ). IsHeader function.placed (record { function = f; current = c }) header) (sym a.at_site.current) (kept_head function.placed function.in_file) in
    let each = subst (λ (es : List Expr). TypesEach program (part here) es (trees xs.items)) (items_hidden-the_row-Expr-0 given) parts in
    tells_then (λ why. inl why) (call_reaches so_far file locals site n given called named f (Some header) number (Rests program here e ⊎ (true ≡ false)) old mid then among part_is is settled kept reached records program here a calls)
    (node_settled program here e (true ≡ false) typed r then new (told program here a calls function.placed means function.in_program head each typed refused) typed_is typed_settled)
  where
    told : (program : Program) (here : Here) → IsAround file locals site here → HasItsCalls so_far file program here (E.Call n given) → (placed : Placed) → meaning here n.word ≡ Some (a_function f) → slice_get program.functions f ≡ Some placed → IsHeader placed (record { function = f; current = here.current }) header → TypesEach program (part here) given.items (trees xs.items) → (typed : Result TypedExpr Untyped) → IfErr typed (IsRefusedCall file site.function f header n.place (trees xs.items)) → IfUntyped (FaultAt program here (E.Call n given)) (Rests program here (E.Call n given)) typed
    told program here a calls placed means is head each (Ok t) h = tt
    told program here a calls placed means is head each (Err (N.Fault standing)) h =
        subst (FaultAt program here (E.Call n given) standing.fault) (sym h.0) (unfitting_told {so_far = so_far} given site.function (record { is_function = means; is_placed = is; typed = each }) calls a.at_site.around head h.1)
    told program here a calls placed means is head each (Err N.Faulty) h = no_type_told given means is head h
    told program here a calls placed means is head each (Err N.Memory) h = tt
