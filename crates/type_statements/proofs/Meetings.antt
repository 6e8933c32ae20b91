-- What calls meet, one behind the other, and what the lists of a block meet.
use Rattle.std.proofs.Common.{◌≡◌, ◌<◌, ◌+◌, ℕ, Bool, true, false, List, [], ◌∷◌, ◌++◌, map, length, take, get_or, Option, Some, None, IfOk, IfSome, Result, Ok, Err, append-nil, add-one, refl, sym, ap, subst, ◌∙◌, if◌then◌else◌}
use Rattle.std.proofs.Math.Seq.{take-length}
use Rattle.std.proofs.lemmas.Option.{slice_get_read}
use Rattle.cstar_tree.specs.declared.syntax.Declaration.{Declaration}
use Rattle.cstar_tree.specs.declared.syntax.Declarator.{Declarator}
use Rattle.cstar_tree.specs.declared.syntax.Expr.{Expr}
use Rattle.cstar_tree.specs.declared.syntax.Stmt.{Stmt}
use Rattle.cstar_tree.specs.declared.typed.LocalVar.{LocalVar}
use Rattle.cstar_tree.specs.declared.typed.TStmt.{TStmt}
use Rattle.cstar_tree.specs.declared.typed.ValueType.{ValueType}
use Rattle.cstar_tree.specs.BlockScopes.{behind_declarations, behind_declarator, behind_declarators}
use Rattle.cstar_tree.specs.Calls.{Call, at_each, calls_in, calls_in_declarations, calls_in_declarators, calls_in_each, calls_in_statement}
use Rattle.cstar_tree.specs.Headers.{Program}
use Rattle.cstar_tree.specs.Headers as H
use Rattle.cstar_tree.specs.Instances.{reached_by}
use Rattle.cstar_tree.specs.Scopes.{Here, as_whole, written_type}
use Rattle.cstar_tree.specs.SyntaxParts.{initial_values}
use Rattle.cstar_tree.specs.TypedParts.{concat, optional}
use Rattle.type_scopes.specs.Bindings.{bindings}
use Rattle.type_scopes.specs.declared.file.File.{File}
use Rattle.type_scopes.specs.declared.locals.Locals.{Locals}
use Rattle.type_scopes.specs.declared.sites.Site.{Site}
use Rattle.type_expressions.specs.Instances.{Grows, met, with_met}
use Rattle.type_expressions.specs.Meetings.{Meets, meeting}
use Rattle.type_expressions.specs.declared.found.Instances.{Instances}
use Rattle.call_groups.proofs.Declared.{calls_more, calls_next}
use Rattle.call_groups.proofs.Statements.{each_more}
use Rattle.type_statements.specs.Meetings.{AreMet, MeetsCalls, MeetsDeclared, MeetsLocal}
use Rattle.type_statements.specs.Places.{HasItsShape, IsInScope, IsPlace}
use Rattle.type_statements.specs.Ready.{InDeclarations, InDeclarators, InStatements, IsReady}
use Rattle.type_statements.specs.Walks.{IsLocal}
use Rattle.type_statements.specs.declared.scopes.Scopes.{Scopes}
use Rattle.type_statements.proofs.Alike.{AreAlike, calls_alike, statement_alike}
use Rattle.type_statements.proofs.Listed.{AreDeclaredTo, AreLocals, AreTypedTo, after, all_locals, in_declaration_at, in_declarator_at, in_statement_at, shape_behind, shapes_are}
use Rattle.type_statements.proofs.Places.{behind_more, in_whole}
use Rattle.type_statements.proofs.Ready.{declarations_brought, declarators_brought, earlier, statements_brought}

-- ---- what calls meet, one behind the other

meeting_both : (before xs ys : List H.Reached) → meeting before (xs ++ ys) ≡ meeting (meeting before xs) ys
unfolding meeting
meeting_both before [] ys = refl
meeting_both before (x ∷ xs) ys = meeting_both (with_met x before) xs ys

reached_both : (xs ys : List Call) → reached_by (xs ++ ys) ≡ reached_by xs ++ reached_by ys
unfolding reached_by
reached_both [] ys = refl
reached_both (c ∷ xs) ys = by c.typed (reached_both xs ys)
  where
    by : (b : Bool) → reached_by (xs ++ ys) ≡ reached_by xs ++ reached_by ys
        → (if b then record { function = c.function; current = c.current } ∷ reached_by (xs ++ ys) else reached_by (xs ++ ys)) ≡ (if b then record { function = c.function; current = c.current } ∷ reached_by xs else reached_by xs) ++ reached_by ys
    by true same = ap (λ (rest : List H.Reached). record { function = c.function; current = c.current } ∷ rest) same
    by false same = same

pub both_met : (a b : Instances) {met_then : List H.Reached} (xs ys : List Call) → AreMet a b xs → met_then ≡ meeting (met b) (reached_by ys) → met_then ≡ meeting (met a) (reached_by (xs ++ ys))
both_met a b xs ys first second =
    second ∙ ap (λ (before : List H.Reached). meeting before (reached_by ys)) first ∙ sym (meeting_both (met a) (reached_by xs) (reached_by ys)) ∙ ap (meeting (met a)) (sym (reached_both xs ys))

pub none_met : {old new : Instances} → new ≡ old → AreMet old new []
unfolding meeting reached_by
none_met same = ap met same

pub as_met : (old : Instances) {met_then : List H.Reached} {xs ys : List Call} → xs ≡ ys → met_then ≡ meeting (met old) (reached_by xs) → met_then ≡ meeting (met old) (reached_by ys)
as_met old same h = h ∙ ap (λ (calls : List Call). meeting (met old) (reached_by calls)) same

-- ---- expressions

pub no_calls : {old new : Instances} (file : File) (locals : Locals) (site : Site) → new ≡ old → Meets old new file locals site (λ here. calls_in_each here [])
unfolding concat
no_calls file locals site same = record { outside = λ none. ap met same; inside = λ here f a around. none_met same }

pub one_meets : {old new : Instances} (file : File) (locals : Locals) (site : Site) (e : Expr) → Meets old new file locals site (λ here. calls_in here e) → Meets old new file locals site (λ here. calls_in_each here (e ∷ []))
unfolding concat
one_meets {old = old} file locals site e h = record { outside = h.outside; inside = λ here f a around. as_met old (sym (append-nil (calls_in here e))) (h.inside here f a around) }

whole_alike : (here : Here) → AreAlike (as_whole here) here
whole_alike here = record { inner = refl; outer = refl; current = refl }

-- the whole of a statement
pub whole_meets : {old new : Instances} (file : File) (locals : Locals) (site : Site) (e : Expr) → Meets old new file locals (record site { whole = true }) (λ here. calls_in here e) → Meets old new file locals site (λ here. calls_in here e)
whole_meets {old = old} file locals site e h = record {
  outside = h.outside;
  inside = λ here f a around. as_met old (calls_alike (whole_alike here) e) (h.inside (as_whole here) f (in_whole here a) around);
}

-- ---- declarators

behind_around : (here : Here) (ty : Option ValueType) (ds : List Declarator) → (behind_declarators here ty ds).around ≡ here.around
unfolding behind_declarators
behind_around here ty [] = refl
behind_around here ty (d ∷ ds) = behind_around (behind_declarator here ty d) ty ds

its_own : (P : ValueType → Type 0) (ty : Option ValueType) {of : ValueType} → ty ≡ Some of → IfSome ty P → P of
its_own P None is h = absurd (cc)
its_own P (Some t) {of} is h = subst P (let e : t ≡ of = cc in e) h

-- a length stands before the name, an initialiser behind it
pub local_meets : {old mid new : Instances} (file : File) (scopes behind : Scopes) (site : Site) (scope : ℕ) (ty : Option ValueType) (d : Declarator) (r : Option LocalVar) → Meets old mid file scopes.locals site (λ here. calls_in_each here (optional d.length))
    → Meets mid new file behind.locals site (λ here. calls_in_each here (initial_values d.initial)) → IfSome r (IsLocal new file scopes behind site scope ty d) → IfSome r (λ _. MeetsLocal old new file scopes site scope ty d)
unfolding calls_in_declarators
local_meets file scopes behind site scope ty d None length initial h = tt
local_meets {old = old} {mid = mid} file scopes behind site scope ty d (Some l) length initial h = λ program here f p shape ready around.
    let there = behind_declarator here ty d in
    let place = h.typed program here p (its_own (HasItsShape here) ty h.has_type shape) ready in
    let lengths = calls_in_each here (optional d.length) in
    let values = calls_in_each there (initial_values d.initial) in
    as_met old (sym (append-nil (lengths ++ values))) (both_met old mid lengths values (length.inside here f p.place.around around) (initial.inside there f place.1.place.around around))

-- the first so many declarators
abbrev pub AreLocalsMet : Instances → Instances → File → Scopes → Site → ℕ → Option ValueType → List Declarator → ℕ → Type 0
AreLocalsMet old new file scopes site scope ty items k =
    (program : Program) (here : Here) (f : ℕ) → IsInScope file scopes site scope here → IfSome ty (HasItsShape here) → InDeclarators (IsReady new file program) here ty items → here.around ≡ Some f → AreMet old new (calls_in_declarators here ty (take k items))

pub no_locals_met : (so_far : Instances) (file : File) (scopes : Scopes) (site : Site) (scope : ℕ) (ty : Option ValueType) (items : List Declarator) → AreLocalsMet so_far so_far file scopes site scope ty items 0
unfolding calls_in_declarators
no_locals_met so_far file scopes site scope ty items = λ program here f p shape ready around. none_met {old = so_far} refl

pub local_met_more : {before_it behind_it : Instances} (old : Instances) (file : File) (scopes mid : Scopes) (site : Site) (scope : ℕ) (ty : Option ValueType) (items : List Declarator) (k : ℕ) (before locals : List LocalVar) (d : Declarator) → k < length items → d ≡ get_or items k d
    → Grows file before_it behind_it → AreLocals before_it file scopes mid site scope ty items k before locals → AreLocalsMet old before_it file scopes site scope ty items k → MeetsLocal before_it behind_it file mid site scope ty d → AreLocalsMet old behind_it file scopes site scope ty items (k + 1)
local_met_more old file scopes mid site scope None items k before locals d within is later typed h next = absurd (let none = typed.has_type in cc)
local_met_more {before_it = before_it} {behind_it = behind_it} old file scopes mid site scope (Some of) items k before locals d within is later typed h next = λ program here f p shape ready around.
    let so_far = declarators_brought (earlier later) here (Some of) items ready in
    let there = behind_declarators here (Some of) (take k items) in
    let same : typed.of ≡ of = let is = typed.has_type in cc in
    let place = subst (λ (t : ValueType). IsInScope file mid site scope (behind_declarators here (Some t) (take k items))) same (typed.typed program here p (subst (HasItsShape here) (sym same) shape) so_far).1 in
    let own = next program there f place (shape_behind here there of (shapes_are here (Some of) (take k items)) shape) (in_declarator_at (IsReady behind_it file program) here (Some of) items k d within is ready) (behind_around here (Some of) (take k items) ∙ around) in
    let at_k = slice_get_read items (length items) k d refl within is in
    as_met old (sym (calls_next here (Some of) items k d at_k) ∙ ap (λ (n : ℕ). calls_in_declarators here (Some of) (take n items)) (sym (add-one k)))
    (both_met old before_it (calls_in_declarators here (Some of) (take k items)) (calls_in_declarators there (Some of) (d ∷ [])) (h program here f p shape so_far around) own)

-- ---- declarations

pub behind_all_around : (here : Here) (ds : List Declaration) → (behind_declarations here ds).around ≡ here.around
unfolding behind_declarations
behind_all_around here [] = refl
behind_all_around here (d ∷ ds) =
    behind_all_around (behind_declarators here (written_type here d.type_name) d.variables.items) ds ∙ behind_around here (written_type here d.type_name) d.variables.items

-- the declarators of one declaration, whose type is written
pub declaration_meets : {new : Instances} (old : Instances) (file : File) (scopes behind : Scopes) (site : Site) (scope : ℕ) (ty : Option ValueType) (d : Declaration) (k : ℕ) (before locals : List LocalVar) → k ≡ length d.variables.items → AreLocals new file scopes behind site scope ty d.variables.items k before locals
    → AreLocalsMet old new file scopes site scope ty d.variables.items k → ((here : Here) → IsPlace file scopes site here → (of : ValueType) → ty ≡ Some of → (written_type here d.type_name ≡ Some of) × HasItsShape here of) → MeetsDeclared old new file scopes site scope (d ∷ [])
unfolding calls_in_declarations InDeclarations
declaration_meets {new = new} old file scopes behind site scope ty d k before locals all typed h written = λ program here f p ready around.
    let is = written here p.place typed.of typed.has_type in
    let same : written_type here d.type_name ≡ ty = is.0 ∙ sym typed.has_type in
    let shape = subst (λ (t : Option ValueType). IfSome t (HasItsShape here)) (sym typed.has_type) is.1 in
    let calls = h program here f p shape (subst (λ (t : Option ValueType). InDeclarators (IsReady new file program) here t d.variables.items) same ready.0) around in
    let whole : take k d.variables.items ≡ d.variables.items = ap (λ (n : ℕ). take n d.variables.items) all ∙ take-length d.variables.items in
    as_met old (ap (calls_in_declarators here ty) whole ∙ ap (λ (t : Option ValueType). calls_in_declarators here t d.variables.items) (sym same) ∙ sym (append-nil (calls_in_declarators here (written_type here d.type_name) d.variables.items))) calls

-- the first so many declarations
abbrev pub AreDeclaredMet : Instances → Instances → File → Scopes → Site → ℕ → List Declaration → ℕ → Type 0
AreDeclaredMet old new file scopes site scope items k =
    (program : Program) (here : Here) (f : ℕ) → IsInScope file scopes site scope here → InDeclarations (IsReady new file program) here items → here.around ≡ Some f → AreMet old new (calls_in_declarations here (take k items))

pub none_declared_met : (so_far : Instances) (file : File) (scopes : Scopes) (site : Site) (scope : ℕ) (items : List Declaration) → AreDeclaredMet so_far so_far file scopes site scope items 0
unfolding calls_in_declarations
none_declared_met so_far file scopes site scope items = λ program here f p ready around. none_met {old = so_far} refl

one_declared : (here : Here) (d : Declaration) → calls_in_declarations here (d ∷ []) ≡ calls_in_declarators here (written_type here d.type_name) d.variables.items
unfolding calls_in_declarations
one_declared here d = append-nil (calls_in_declarators here (written_type here d.type_name) d.variables.items)

pub declaration_met_more : {before_it behind_it : Instances} (old : Instances) (file : File) (scopes mid : Scopes) (site : Site) (scope : ℕ) (items : List Declaration) (k : ℕ) (locals : List LocalVar) (d : Declaration) → k < length items → d ≡ get_or items k d
    → Grows file before_it behind_it → AreDeclaredTo before_it file scopes mid site scope items k locals → AreDeclaredMet old before_it file scopes site scope items k → MeetsDeclared before_it behind_it file mid site scope (d ∷ []) → AreDeclaredMet old behind_it file scopes site scope items (k + 1)
declaration_met_more {before_it = before_it} {behind_it = behind_it} old file scopes mid site scope items k locals d within is later typed h next = λ program here f p ready around.
    let so_far = declarations_brought (earlier later) here items ready in
    let there = behind_declarations here (take k items) in
    let own = next program there f (typed.typed program here p so_far).1 (in_declaration_at (IsReady behind_it file program) here items k d within is ready) (behind_all_around here (take k items) ∙ around) in
    let at_k = slice_get_read items (length items) k d refl within is in
    as_met old (sym (calls_more here items k d at_k) ∙ ap (λ (n : ℕ). calls_in_declarations here (take n items)) (sym (add-one k)))
    (both_met old before_it (calls_in_declarations here (take k items)) (calls_in_declarators there (written_type there d.type_name) d.variables.items) (h program here f p so_far around) (as_met before_it (one_declared there d) own))

pub all_declared_met : (old new : Instances) (file : File) (scopes : Scopes) (site : Site) (scope : ℕ) (items : List Declaration) (k : ℕ) → k ≡ length items → AreDeclaredMet old new file scopes site scope items k → MeetsDeclared old new file scopes site scope items
all_declared_met old new file scopes site scope items k all h = λ program here f p ready around.
    as_met old (ap (calls_in_declarations here) (ap (λ (n : ℕ). take n items) all ∙ take-length items)) (h program here f p ready around)

-- ---- statements

-- the first so many statements of a block
abbrev pub AreMetTo : Instances → Instances → File → Scopes → Site → List Stmt → ℕ → Type 0
AreMetTo old new file scopes site items k =
    (program : Program) (here : Here) (f : ℕ) → IsPlace file scopes site here → InStatements (IsReady new file program) here items → here.around ≡ Some f → AreMet old new (at_each here (map calls_in_statement (take k items)))

pub no_statements_met : (so_far : Instances) (file : File) (scopes : Scopes) (site : Site) (items : List Stmt) → AreMetTo so_far so_far file scopes site items 0
unfolding at_each
no_statements_met so_far file scopes site items = λ program here f p ready around. none_met {old = so_far} refl

-- variables that are declared before change no calls
after_alike : (here : Here) (n : ℕ) → AreAlike (after here n) here
after_alike here n = record { inner = refl; outer = refl; current = refl }

pub statement_met_more : {before_it behind_it : Instances} (old : Instances) (file : File) (scopes mid : Scopes) (site : Site) (items : List Stmt) (k : ℕ) (ts : List TStmt) (s : Stmt) → k < length items → s ≡ get_or items k s → bindings mid.locals ≡ bindings scopes.locals
    → Grows file before_it behind_it → AreTypedTo before_it file scopes mid site items k ts → AreMetTo old before_it file scopes site items k → MeetsCalls before_it behind_it file mid site s → AreMetTo old behind_it file scopes site items (k + 1)
statement_met_more {before_it = before_it} {behind_it = behind_it} old file scopes mid site items k ts s within is same later typed h next = λ program here f p ready around.
    let there = after here (all_locals (take k items)) in
    let own = next program there f (behind_more here (all_locals (take k items)) p same typed.counted) (in_statement_at (IsReady behind_it file program) here items k s within is ready) around in
    let at_k = slice_get_read items (length items) k s refl within is in
    as_met old (sym (each_more here items k s at_k) ∙ ap (λ (n : ℕ). at_each here (map calls_in_statement (take n items))) (sym (add-one k)))
    (both_met old before_it (at_each here (map calls_in_statement (take k items))) (calls_in_statement s here) (h program here f p (statements_brought (earlier later) here items ready) around) (as_met before_it (statement_alike s (after_alike here (all_locals (take k items)))) own))

-- ---- answers

pub ok_calls : {A E P : Type 0} (r : Result A E) → P → IfOk r (λ _. P)
ok_calls (Ok x) h = h
ok_calls (Err e) h = tt

pub some_calls : {A E P : Type 0} (r : Result (Option A) E) → P → IfOk r (λ t. IfSome t (λ _. P))
some_calls (Ok None) h = tt
some_calls (Ok (Some x)) h = h
some_calls (Err e) h = tt
