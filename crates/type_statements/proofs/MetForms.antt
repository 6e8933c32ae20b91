-- What a statement of each kind meets, from what its parts meet.
use Rattle.std.proofs.Common.{◌≡◌, ℕ, List, ◌++◌, length, map, take, Option, Some, None, true, IfOk, IfSome, Result, Ok, Err, Box, Vec, append_assoc, refl, sym, ap, subst, ◌∙◌, ◌+◌}
use Rattle.std.specs.declared.alloc.Global.{Global}
use Rattle.std.proofs.Math.Seq.{take-length}
use Rattle.cstar_base.specs.declared.operators.Place.{Place}
use Rattle.cstar_tree.specs.declared.syntax.Block.{Block}
use Rattle.cstar_tree.specs.declared.syntax.Expr.{Expr}
use Rattle.cstar_tree.specs.declared.syntax.ShapeRef.{ShapeRef}
use Rattle.cstar_tree.specs.declared.syntax.Stmt.{Stmt}
use Rattle.cstar_tree.specs.declared.syntax.Stmt as S
use Rattle.cstar_tree.specs.declared.typed.LocalVar.{LocalVar}
use Rattle.cstar_tree.specs.declared.typed.TExpr.{TExpr}
use Rattle.cstar_tree.specs.declared.typed.TStmt.{TStmt}
use Rattle.cstar_tree.specs.BlockScopes.{behind, behind_declarations, block_place, in_loop}
use Rattle.cstar_tree.specs.Calls.{at_each, calls_in, calls_in_declarations, calls_in_each, calls_in_statement, within}
use Rattle.cstar_tree.specs.Scopes.{Here, under}
use Rattle.cstar_tree.specs.SyntaxParts.{locals_in}
use Rattle.cstar_tree.specs.TypedParts.{optional}
use Rattle.type_scopes.specs.Answers.{part_of}
use Rattle.type_scopes.specs.Bindings.{bindings}
use Rattle.type_scopes.specs.FileBindings.{names_at}
use Rattle.type_scopes.specs.Named.{IsShapeAmong}
use Rattle.type_scopes.specs.declared.faults.Untyped.{Untyped}
use Rattle.type_scopes.specs.declared.file.File.{File}
use Rattle.type_scopes.specs.declared.locals.Locals.{Locals}
use Rattle.type_scopes.specs.declared.sites.Site.{Site}
use Rattle.type_scopes.specs.declared.standing.Standing.{Standing}
use Rattle.cstar_tree.specs.Headers as H
use Rattle.cstar_tree.specs.Instances.{reached_by}
use Rattle.type_expressions.specs.Instances.{Grows, met}
use Rattle.type_expressions.specs.Meetings.{Meets, meeting}
use Rattle.type_expressions.specs.declared.found.Instances.{Instances}
use Rattle.type_expressions.proofs.Meetings.{meets_both}
use Rattle.type_expressions.proofs.Walking.{is_shape, shape_found}
use Rattle.call_groups.proofs.Statements.{block_has, break_has, continue_has, do_has, empty_has, everywhere_has, expression_has, for_has, if_alone_has, if_else_has, return_has, where_alone_has, where_else_has, while_has, with_has}
use Rattle.type_statements.specs.Answers.{IsEverywhere, IsOutcome, IsUnder, IsWholeBlock}
use Rattle.type_statements.specs.Meetings.{MeetsCalls, MeetsCallsIf, MeetsCallsOf, MeetsDeclared, heading_calls}
use Rattle.type_statements.specs.Places.{IsInScope}
use Rattle.type_statements.specs.Ready.{InElse, InStatement, IsReady}
use Rattle.type_statements.specs.Walks.{AreDeclared, IsTypedIf}
use Rattle.type_statements.specs.declared.branches.Branches.{Branches}
use Rattle.type_statements.specs.declared.scopes.Scopes.{Scopes}
use Rattle.type_statements.proofs.Alike.{AreAlike, statement_alike}
use Rattle.type_statements.proofs.Meetings.{AreMetTo, as_met, behind_all_around, both_met, none_met}
use Rattle.type_statements.proofs.Places.{behind_more, in_block, in_body, in_shape}
use Rattle.type_statements.proofs.Ready.{brought, declarations_brought, earlier}
use Rattle.type_statements.proofs.Ready as ready
use Rattle.type_statements.proofs.Walking.{AreGiven, some_given, still_around, typed_of}

met_there : (old : Instances) {met_then : List H.Reached} {there here : Here} (s : Stmt) → AreAlike there here → met_then ≡ meeting (met old) (reached_by (calls_in_statement s there)) → met_then ≡ meeting (met old) (reached_by (calls_in_statement s here))
met_there old s alike h = as_met old (statement_alike s alike) h

looped : (here : Here) → AreAlike (in_loop here) here
looped here = record { inner = refl; outer = refl; current = refl }

behind_alike : (here : Here) (s : Stmt) → AreAlike (behind here s) here
behind_alike here s = record { inner = refl; outer = refl; current = refl }

-- what is typed was met
pub met_of : {A P : Type 0} (r : Option A) {b : A} → IfSome r (λ _. P) → r ≡ Some b → P
met_of None h is = absurd (cc)
met_of (Some b) h is = h

-- ---- a block

pub block_meets : (old new : Instances) (file : File) (scopes : Scopes) (site : Site) (scope : ℕ) (block : Block) (r : Option (Box TStmt Global)) → scope ≡ length (bindings scopes.locals) → IfSome r (λ _. MeetsCallsOf old new file scopes site scope block) → MeetsCallsIf old new file scopes site (S.Block block) r
block_meets old new file scopes site scope block None is h = tt
block_meets old new file scopes site scope block (Some b) is h = λ program here f p plain around.
    let place = subst (λ (n : ℕ). IsInScope file scopes site n (block_place here)) (sym is) (in_block here p) in
    as_met old (sym ((block_has block refl).at_place here)) (h program (block_place here) f place (ready.in_block (IsReady new file program) here block plain) around)

pub whole_block_meets : {mid new : Instances} (old : Instances) (file : File) (scopes inner : Scopes) (site : Site) (scope : ℕ) (block : Block) (k : ℕ) (locals : Option (Vec LocalVar Global)) (statements : Vec TStmt Global) (r : Option (Box TStmt Global)) → k ≡ length block.statements.items
    → Grows file mid new → IfSome locals (λ ls. AreDeclared mid file scopes inner site scope block.declarations.items ls.items) → IfSome locals (λ _. MeetsDeclared old mid file scopes site scope block.declarations.items)
    → AreMetTo mid new file inner site block.statements.items k → IsWholeBlock locals statements r → IfSome r (λ _. MeetsCallsOf old new file scopes site scope block)
whole_block_meets {mid = mid} old file scopes inner site scope block k None statements r all later typed declared h w = rw w tt
whole_block_meets {mid = mid} old file scopes inner site scope block k (Some locals) statements None all later typed declared h w = absurd w
whole_block_meets {mid = mid} old file scopes inner site scope block k (Some locals) statements (Some b) all later typed declared h w = λ program here f p plain around.
    let so_far = declarations_brought (earlier later) here block.declarations.items plain.0 in
    let there = behind_declarations here block.declarations.items in
    let place = (typed.typed program here p so_far).1 in
    let whole : take k block.statements.items ≡ block.statements.items = ap (λ (n : ℕ). take n block.statements.items) all ∙ take-length block.statements.items in
    both_met old mid (calls_in_declarations here block.declarations.items) (at_each there (map calls_in_statement block.statements.items)) (declared program here f p so_far around)
    (as_met mid (ap (λ (ss : List Stmt). at_each there (map calls_in_statement ss)) whole) (h program there f place.place plain.1 (behind_all_around here block.declarations.items ∙ around)))

-- ---- `if` and `where`

-- what stands behind `else` is met, if anything does
pub data IsElseMet (old new : Instances) (file : File) (scopes : Scopes) (site : Site) : Option (Box Stmt Global) → Option (Option (Box TStmt Global)) → Type 0 where
  none_else : new ≡ old → IsElseMet old new file scopes site None None
  else_met : {r : Option (Box TStmt Global)} (s : Box Stmt Global) → MeetsCallsIf old new file scopes site s.value r → IsElseMet old new file scopes site (Some s) (Some r)

pub if_meets : {old one two new : Instances} (file : File) (scopes inner : Scopes) (site : Site) (p : Place) (e : Expr) (second : Box Stmt Global) (third : Option (Box Stmt Global)) (test : Option (Box TExpr Global)) (a : Option (Box TStmt Global)) (b : Option (Option (Box TStmt Global))) (parts : Branches)
    → Grows file two new → Meets old one file scopes.locals site (λ here. calls_in here e) → IsTypedIf two file scopes inner site second.value a → MeetsCallsIf one two file scopes site second.value a → bindings inner.locals ≡ bindings scopes.locals → IsElseMet two new file inner site third b
    → AreGiven test a b parts → MeetsCalls old new file scopes site (S.If p e second third)
unfolding InStatement InElse
if_meets {old = old} {one = one} {two = two} file scopes inner site p e second None test a b parts later v typed h same (none_else is) given = λ program here f place plain around.
    let inside = met_of a h given.1 program here f place (brought (earlier later) here second.value plain.1) around in
    as_met old (sym ((if_alone_has refl).at_place here)) (both_met old one (calls_in here e) (calls_in_statement second.value here) (v.inside here f place.around around) (rw is inside))
if_meets {old = old} {one = one} {two = two} file scopes inner site p e second (Some third) test a b parts later v typed h same (else_met {r} _ k) given = λ program here f place plain around.
    let typed_one = typed_of file scopes inner site second.value a parts.then typed given.1 in
    let inside = met_of a h given.1 program here f place (brought (earlier later) here second.value plain.1) around in
    let other = met_of r k (some_given r parts.otherwise given.2).1 program (behind here second.value) f (behind_more here (locals_in second.value) place same typed_one.counted) plain.2 around in
    as_met old (sym ((if_else_has refl).at_place here))
    (both_met old one (calls_in here e) (calls_in_statement second.value here ++ calls_in_statement third.value here) (v.inside here f place.around around)
    (both_met one two (calls_in_statement second.value here) (calls_in_statement third.value here) inside (met_there two third.value (behind_alike here second.value) other)))

pub where_meets : {old one two new : Instances} (file : File) (scopes inner : Scopes) (site : Site) (p : Place) (e : Expr) (second : Box Stmt Global) (third : Option (Box Stmt Global)) (test : Option (Box TExpr Global)) (a : Option (Box TStmt Global)) (b : Option (Option (Box TStmt Global))) (parts : Branches)
    → Grows file two new → Meets old one file scopes.locals site (λ here. calls_in here e) → IsTypedIf two file scopes inner site second.value a → MeetsCallsIf one two file scopes site second.value a → bindings inner.locals ≡ bindings scopes.locals → IsElseMet two new file inner site third b
    → AreGiven test a b parts → MeetsCalls old new file scopes site (S.Where p e second third)
unfolding InStatement InElse
where_meets {old = old} {one = one} {two = two} file scopes inner site p e second None test a b parts later v typed h same (none_else is) given = λ program here f place plain around.
    let inside = met_of a h given.1 program here f place (brought (earlier later) here second.value plain.1) around in
    as_met old (sym ((where_alone_has refl).at_place here)) (both_met old one (calls_in here e) (calls_in_statement second.value here) (v.inside here f place.around around) (rw is inside))
where_meets {old = old} {one = one} {two = two} file scopes inner site p e second (Some third) test a b parts later v typed h same (else_met {r} _ k) given = λ program here f place plain around.
    let typed_one = typed_of file scopes inner site second.value a parts.then typed given.1 in
    let inside = met_of a h given.1 program here f place (brought (earlier later) here second.value plain.1) around in
    let other = met_of r k (some_given r parts.otherwise given.2).1 program (behind here second.value) f (behind_more here (locals_in second.value) place same typed_one.counted) plain.2 around in
    as_met old (sym ((where_else_has refl).at_place here))
    (both_met old one (calls_in here e) (calls_in_statement second.value here ++ calls_in_statement third.value here) (v.inside here f place.around around)
    (both_met one two (calls_in_statement second.value here) (calls_in_statement third.value here) inside (met_there two third.value (behind_alike here second.value) other)))

-- ---- under a shape

pub with_meets : (old new : Instances) (file : File) (scopes : Scopes) (site : Site) (p : Place) (written : ShapeRef) (body : Box Stmt Global) (named : Result ℕ Untyped) (found : Option ℕ) (shape : ℕ) (b r : Option (Box TStmt Global)) → IsShapeAmong (names_at file scopes.locals site.known) site.current written named → found ≡ part_of named → found ≡ Some shape
    → MeetsCallsIf old new file scopes (record site { current = Some shape }) body.value b → IsUnder shape b r → MeetsCallsIf old new file scopes site (S.With p written body) r
unfolding InStatement
with_meets old new file scopes site p written body named found shape b None n k is h m = tt
with_meets old new file scopes site p written body named found shape None (Some t) n k is h m = absurd (cc)
with_meets old new file scopes site p written body (Err u) found shape (Some b) (Some t) n k is h m = absurd (cc)
with_meets old new file scopes site p written body (Ok s) found shape (Some b) (Some t) n k is h m = λ program here f place plain around.
    let same : s ≡ shape = let e = sym k ∙ is in cc in
    let named = shape_found {here = here} written place.around (n ∙ ap (λ (k : ℕ). Some k) same) in
    as_met old (sym ((with_has refl).at_place here ∙ ap (λ (s : Option ℕ). within here s (calls_in_statement body.value)) named))
    (h program (under here shape) f (in_shape here shape place (is_shape written place.around named)) (plain shape named) around)

pub everywhere_meets : (old new : Instances) (file : File) (scopes : Scopes) (site : Site) (p : Place) (body : Box Stmt Global) (b r : Option (Box TStmt Global)) (before later : Option Standing) → MeetsCallsIf old new file scopes site body.value b → IsEverywhere site p b before later r → MeetsCallsIf old new file scopes site (S.Everywhere p body) r
unfolding InStatement
everywhere_meets old new file scopes site p body None r before later h m = rw m.0 tt
everywhere_meets old new file scopes site p body (Some b) None before later h m = tt
everywhere_meets old new file scopes site p body (Some b) (Some t) before later h m = λ program here f place plain around. as_met old (sym ((everywhere_has refl).at_place here)) (h program here f place plain around)

-- ---- loops

pub while_meets : {old mid : Instances} (new : Instances) (file : File) (scopes : Scopes) (site : Site) (p : Place) (e : Expr) (body : Box Stmt Global) (r : Option (Box TStmt Global)) {b : Box TStmt Global} → Meets old mid file scopes.locals site (λ here. calls_in here e) → MeetsCallsIf mid new file scopes (record site { in_loop = true }) body.value r → r ≡ Some b
    → MeetsCalls old new file scopes site (S.While p e body)
unfolding InStatement
while_meets {old = old} {mid = mid} new file scopes site p e body r test h is = λ program here f place plain around.
    as_met old (sym ((while_has refl).at_place here)) (both_met old mid (calls_in here e) (calls_in_statement body.value here) (test.inside here f place.around around)
    (met_there mid body.value (looped here) (met_of r h is program (in_loop here) f (in_body here place) plain.1 around)))

pub do_meets : {mid new : Instances} (old : Instances) (file : File) (scopes inner : Scopes) (site : Site) (p : Place) (body : Box Stmt Global) (e : Expr) (r : Option (Box TStmt Global)) {b : Box TStmt Global} → Grows file mid new → MeetsCallsIf old mid file scopes (record site { in_loop = true }) body.value r → r ≡ Some b
    → bindings inner.locals ≡ bindings scopes.locals → Meets mid new file inner.locals site (λ here. calls_in here e) → MeetsCalls old new file scopes site (S.Do p body e)
unfolding InStatement
do_meets {mid = mid} old file scopes inner site p body e r later h is same test = λ program here f place plain around.
    let inside = met_of r h is program (in_loop here) f (in_body here place) (brought (earlier later) (in_loop here) body.value plain.0) around in
    as_met old (sym ((do_has refl).at_place here)) (both_met old mid (calls_in_statement body.value here) (calls_in here e) (met_there old body.value (looped here) inside)
    (test.inside here f (still_around scopes.locals inner.locals same place.around) around))

pub for_meets : {old mid : Instances} (new : Instances) (file : File) (scopes : Scopes) (site : Site) (p : Place) (first test step : Option Expr) (body : Box Stmt Global) (r : Option (Box TStmt Global)) {b : Box TStmt Global}
    → Meets old mid file scopes.locals site (λ here. heading_calls here (S.For p first test step body)) → MeetsCallsIf mid new file scopes (record site { in_loop = true }) body.value r → r ≡ Some b → MeetsCalls old new file scopes site (S.For p first test step body)
unfolding InStatement
for_meets {old = old} {mid = mid} new file scopes site p first test step body r heading h is = λ program here f place plain around.
    let all = calls_in_statement body.value here in
    let one = calls_in_each here (optional first) in
    let two = calls_in_each here (optional test) in
    let three = calls_in_each here (optional step) in
    as_met old (append_assoc (one ++ two) three all ∙ append_assoc one two (three ++ all) ∙ sym ((for_has refl).at_place here)) (both_met old mid (heading_calls here (S.For p first test step body)) all (heading.inside here f place.around around)
    (met_there mid body.value (looped here) (met_of r h is program (in_loop here) f (in_body here place) plain.3 around)))

pub heading_meets : {one two three four : Instances} (file : File) (locals : Locals) (site : Site) (p : Place) (first test step : Option Expr) (body : Box Stmt Global) → Meets one two file locals site (λ here. calls_in_each here (optional first)) → Meets two three file locals site (λ here. calls_in_each here (optional test))
    → Meets three four file locals site (λ here. calls_in_each here (optional step)) → Meets one four file locals site (λ here. heading_calls here (S.For p first test step body))
heading_meets file locals site p first test step body h k l = meets_both (meets_both h k) l

-- ---- statements that have no statement as a part

pub expression_meets : {old new : Instances} (file : File) (scopes : Scopes) (site : Site) (p : Place) (e : Expr) → Meets old new file scopes.locals site (λ here. calls_in here e) → MeetsCalls old new file scopes site (S.Expression p e)
expression_meets {old = old} file scopes site p e h = λ program here f place plain around. as_met old (sym ((expression_has refl).at_place here)) (h.inside here f place.around around)

pub return_meets : {old new : Instances} (file : File) (scopes : Scopes) (site : Site) (p : Place) (value : Option Expr) → Meets old new file scopes.locals site (λ here. calls_in_each here (optional value)) → MeetsCalls old new file scopes site (S.Return p value)
return_meets {old = old} file scopes site p value h = λ program here f place plain around. as_met old (sym ((return_has refl).at_place here)) (h.inside here f place.around around)

pub break_meets : (so_far : Instances) (file : File) (scopes : Scopes) (site : Site) (p : Place) → MeetsCalls so_far so_far file scopes site (S.Break p)
break_meets so_far file scopes site p = λ program here f place plain around. as_met so_far (sym ((break_has refl).at_place here)) (none_met {old = so_far} refl)

pub continue_meets : (so_far : Instances) (file : File) (scopes : Scopes) (site : Site) (p : Place) → MeetsCalls so_far so_far file scopes site (S.Continue p)
continue_meets so_far file scopes site p = λ program here f place plain around. as_met so_far (sym ((continue_has refl).at_place here)) (none_met {old = so_far} refl)

pub empty_meets : (so_far : Instances) (file : File) (scopes : Scopes) (site : Site) (p : Place) → MeetsCalls so_far so_far file scopes site (S.Empty p)
empty_meets so_far file scopes site p = λ program here f place plain around. as_met so_far (sym ((empty_has refl).at_place here)) (none_met {old = so_far} refl)

-- ---- answers

-- what is answered was typed before the fault that stands at it
pub answered_calls : (P : Type 0) (typed : Result TStmt Untyped) (before later : Option Standing) (r : Option (Box TStmt Global)) → IsOutcome typed before later r → IfOk typed (λ _. P) → IfSome r (λ _. P)
answered_calls P typed before later None m h = tt
answered_calls P (Ok t) before later (Some b) m h = h
answered_calls P (Err u) before later (Some b) m h = absurd m
