-- The walk over a statement: from the answers for its parts to the answer for the whole.
use Rattle.std.proofs.Common.{◌≡◌, ◌+◌, ℕ, true, List, ◌++◌, length, take, map, Option, Some, None, IfOk, IfSome, MatchOption, MatchResult, Result, Ok, Err, Box, Vec, arith, refl, sym, ap, subst, ◌∙◌}
use Rattle.std.specs.Option.{option_map}
use Rattle.std.specs.declared.alloc.Global.{Global}
use Rattle.std.proofs.Math.Seq.{take-length}
use Rattle.cstar_base.specs.declared.operators.Place.{Place}
use Rattle.cstar_tree.specs.declared.syntax.Block.{Block}
use Rattle.cstar_tree.specs.declared.syntax.Expr.{Expr}
use Rattle.cstar_tree.specs.declared.syntax.ShapeRef.{ShapeRef}
use Rattle.cstar_tree.specs.declared.syntax.Stmt.{Stmt}
use Rattle.cstar_tree.specs.declared.syntax.Stmt as S
use Rattle.cstar_tree.specs.declared.typed.LocalVar.{LocalVar}
use Rattle.cstar_tree.specs.declared.typed.TExpr.{TExpr}
use Rattle.cstar_tree.specs.declared.typed.TStmt.{TStmt}
use Rattle.cstar_tree.specs.declared.typed.TStmt as T
use Rattle.cstar_tree.specs.BlockScopes.{behind, behind_declarations, block_place, in_loop}
use Rattle.cstar_tree.specs.ExpressionTypes.{Types}
use Rattle.cstar_tree.specs.Headers.{Program, Returns}
use Rattle.cstar_tree.specs.Scopes.{Binding, Here, as_whole, find, under}
use Rattle.cstar_tree.specs.StatementTypes.{TypesEffectIf, TypesStatement, TypesStatements, TypesValueIf}
use Rattle.cstar_tree.specs.StatementTypes as Y
use Rattle.cstar_tree.specs.SyntaxParts.{locals_in}
use Rattle.cstar_tree.specs.TypedParts.{total}
use Rattle.type_scopes.specs.Answers.{part_of}
use Rattle.type_scopes.specs.Bindings.{bindings}
use Rattle.type_scopes.specs.FileBindings.{file_bindings, names_at}
use Rattle.type_scopes.specs.Headers.{returned}
use Rattle.type_scopes.specs.Named.{IsShapeAmong}
use Rattle.type_scopes.specs.declared.faults.Untyped.{Untyped}
use Rattle.type_scopes.specs.declared.faults.Untyped.TheVariants as N
use Rattle.type_scopes.specs.declared.file.File.{File}
use Rattle.type_scopes.specs.declared.locals.Locals.{Locals}
use Rattle.type_scopes.specs.declared.sites.Site.{Site}
use Rattle.type_scopes.specs.declared.standing.Standing.{Standing}
use Rattle.type_expressions.specs.Walks.{IsAround, IsShape, IsValue}
use Rattle.type_expressions.specs.Walks as W
use Rattle.type_expressions.specs.declared.found.Instances.{Instances}
use Rattle.type_expressions.specs.declared.found.TypedExpr.{TypedExpr}
use Rattle.type_expressions.proofs.CallsWithin.{begins_both}
use Rattle.type_expressions.proofs.Walking.{is_shape, shape_found}
use Rattle.type_statements.specs.Answers.{AreBranches, IsAnswer, IsEverywhere, IsHeading, IsOutcome, IsReturnAnswer, IsUnder, IsWholeBlock, value_of}
use Rattle.type_statements.specs.Places.{IsInScope, IsPlace}
use Rattle.type_expressions.specs.Instances.{Grows}
use Rattle.type_statements.specs.Ready.{InElse, InStatement, IsReady}
use Rattle.type_statements.specs.Walks.{AreDeclared, IsEffectIf, IsTyped, IsTypedBlock, IsTypedHeading, IsTypedIf, IsValueIf}
use Rattle.type_statements.specs.declared.branches.Branches.{Branches}
use Rattle.type_statements.specs.declared.forms.Heading.{Heading}
use Rattle.type_statements.specs.declared.scopes.Scopes.{Scopes}
use Rattle.type_statements.proofs.Counted as count
use Rattle.type_statements.proofs.Counted.{else_locals}
use Rattle.type_statements.proofs.Declared.{value_here}
use Rattle.type_statements.proofs.Listed.{AreTypedTo}
use Rattle.type_statements.proofs.Places.{behind_more, in_block, in_body, in_shape, in_whole, part_is}
use Rattle.type_statements.proofs.Ready.{brought, declarations_brought, earlier, some_brought}
use Rattle.type_statements.proofs.Ready as ready

-- ---- answers

pub answered : (so_far : Instances) (file : File) (old new : Scopes) (site : Site) (s : Stmt) (typed : Result TStmt Untyped) (before later : Option Standing) (r : Option (Box TStmt Global)) → IsOutcome typed before later r → new.count ≡ old.count + locals_in s
    → IfOk typed (λ t. (program : Program) (here : Here) → IsPlace file old site here → InStatement (IsReady so_far file program) here s → TypesStatement program (returned site.returns) here s t) → IsTypedIf so_far file old new site s r
answered so_far file old new site s typed before later None m count h = tt
answered so_far file old new site s (Ok t) before later (Some b) m count h = record { typed = λ program here p plain. rw m.0 (h program here p plain); counted = count }
answered so_far file old new site s (Err u) before later (Some b) m count h = absurd m

-- an answer at each place
abbrev AnswersAt : Instances → File → Scopes → Site → Stmt → Result TStmt Untyped → Type 0
AnswersAt so_far file scopes site s typed = (program : Program) (here : Here) → IsPlace file scopes site here → InStatement (IsReady so_far file program) here s → IsAnswer program (returned site.returns) here s typed

pub answer_ok : (so_far : Instances) (file : File) (scopes : Scopes) (site : Site) (s : Stmt) (typed : Result TStmt Untyped) → AnswersAt so_far file scopes site s typed → IfOk typed (λ t. (program : Program) (here : Here) → IsPlace file scopes site here → InStatement (IsReady so_far file program) here s → TypesStatement program (returned site.returns) here s t)
answer_ok so_far file scopes site s (Ok t) h = h
answer_ok so_far file scopes site s (Err u) h = tt

pub told : (so_far : Instances) (file : File) (old new : Scopes) (site : Site) (s : Stmt) (typed : Result TStmt Untyped) (before later : Option Standing) (r : Option (Box TStmt Global)) → IsOutcome typed before later r → new.count ≡ old.count + locals_in s → AnswersAt so_far file old site s typed → IsTypedIf so_far file old new site s r
told so_far file old new site s typed before later r m count h = answered so_far file old new site s typed before later r m count (answer_ok so_far file old site s typed h)

-- the names at the place are kept
pub still_around : {file : File} {site : Site} {here : Here} (old new : Locals) → bindings new ≡ bindings old → IsAround file old site here → IsAround file new site here
still_around {file} {site} {here} old new same a = record {
  at_site = a.at_site;
  names = λ word. a.names word ∙ ap (λ (names : List Binding). find (names ++ file_bindings file site.known) word) (sym same);
  shapes = a.shapes;
  known = a.known;
  few = a.few;
}

-- ---- blocks

pub block_typed : (so_far : Instances) (file : File) (old within new : Scopes) (site : Site) (scope : ℕ) (block : Block) (r : Option (Box TStmt Global)) → scope ≡ length (bindings old.locals) → new.count ≡ within.count → IfSome r (λ b. IsTypedBlock so_far file old within site scope block b.value) → IsTypedIf so_far file old new site (S.Block block) r
block_typed so_far file old within new site scope block None is count h = tt
block_typed so_far file old within new site scope block (Some b) is count h = record {
  typed = λ program here p plain.
      let place = subst (λ (n : ℕ). IsInScope file old site n (block_place here)) (sym is) (in_block here p) in
      rw h.is_block (Y.block_is h.locals h.statements (h.typed program (block_place here) place (ready.in_block (IsReady so_far file program) here block plain)));
  counted = count ∙ h.counted;
}

pub whole_typed : {first last : Instances} (file : File) (old mid new : Scopes) (site : Site) (scope : ℕ) (block : Block) (k : ℕ) (locals : Option (Vec LocalVar Global)) (statements : Vec TStmt Global) (r : Option (Box TStmt Global)) → k ≡ length block.statements.items
    → Grows file first last → IfSome locals (λ ls. AreDeclared first file old mid site scope block.declarations.items ls.items) → AreTypedTo last file mid new site block.statements.items k statements.items → IsWholeBlock locals statements r → IfSome r (λ b. IsTypedBlock last file old new site scope block b.value)
whole_typed file old mid new site scope block k None statements r all later d h w = rw w tt
whole_typed file old mid new site scope block k (Some locals) statements None all later d h w = absurd w
whole_typed file old mid new site scope block k (Some locals) statements (Some b) all later d h w =
    let whole : take k block.statements.items ≡ block.statements.items = ap (λ (n : ℕ). take n block.statements.items) all ∙ take-length block.statements.items in
    record {
      locals = locals;
      statements = statements;
      is_block = w;
      typed = λ program here p plain.
          let declared = d.typed program here p (declarations_brought (earlier later) here block.declarations.items plain.0) in
          let each = h.typed program (behind_declarations here block.declarations.items) declared.1.place plain.1 in
          Y.block block declared.0 (subst (λ (ss : List Stmt). TypesStatements program (returned site.returns) (behind_declarations here block.declarations.items) ss statements.items) whole each);
      counted =
          let own = subst (λ (ss : List Stmt). new.count ≡ mid.count + total (map locals_in ss)) whole h.counted in
          omega (arith, own, d.counted, count.in_block block);
    }

-- ---- `if` and `where`

-- what stands behind `else` is typed, if anything does
pub data IsElseTyped (so_far : Instances) (file : File) (old new : Scopes) (site : Site) : Option (Box Stmt Global) → Option (Option (Box TStmt Global)) → Type 0 where
  no_else : new ≡ old → IsElseTyped so_far file old new site None None
  an_else : {r : Option (Box TStmt Global)} (s : Box Stmt Global) → IsTypedIf so_far file old new site s.value r → IsElseTyped so_far file old new site (Some s) (Some r)

pub typed_of : {so_far : Instances} (file : File) (old new : Scopes) (site : Site) (s : Stmt) (r : Option (Box TStmt Global)) (b : Box TStmt Global) → IsTypedIf so_far file old new site s r → r ≡ Some b → IsTyped so_far file old new site s b.value
typed_of {so_far} file old new site s r b h is = subst (IsTypedIf so_far file old new site s) is h

value_of_part : (so_far : Instances) {file : File} {scopes : Scopes} {site : Site} {program : Program} (here : Here) (e : Expr) (r : Option (Box TExpr Global)) (x : Box TExpr Global) → IsPlace file scopes site here → IsValue so_far file scopes.locals site e r → r ≡ Some x → IsReady so_far file program here e → Types program here e x.value true
value_of_part so_far {file} {scopes} {site} here e r x p v is plain = value_here so_far here e x p (subst (IsValue so_far file scopes.locals site e) is v) plain

none_given : (o : Option (Box TStmt Global)) → None ≡ option_map (λ (t : Box TStmt Global). Some t) o → o ≡ None
none_given None is = refl
none_given (Some b) is = absurd (cc)

pub some_given : (r o : Option (Box TStmt Global)) → Some r ≡ option_map (λ (t : Box TStmt Global). Some t) o → (b : Box TStmt Global) × (r ≡ Some b) × (o ≡ Some b)
some_given r None is = absurd (cc)
some_given r (Some b) is = (b, cc, refl)

abbrev pub AreGiven : Option (Box TExpr Global) → Option (Box TStmt Global) → Option (Option (Box TStmt Global)) → Branches → Type 0
AreGiven test second third parts = (test ≡ Some parts.test) × (second ≡ Some parts.then) × (third ≡ option_map (λ (t : Box TStmt Global). Some t) parts.otherwise)

-- the typed parts of an `if` or a `where`, and how many variables they declare
abbrev pub AreTypedBranches : Instances → File → Scopes → Scopes → Site → Stmt → Branches → Type 0
AreTypedBranches so_far file old new site s parts = ((program : Program) (here : Here) → IsPlace file old site here → InStatement (IsReady so_far file program) here s → AreBranches program (returned site.returns) here s parts) × (new.count ≡ old.count + locals_in s)

pub if_parts : (first mid_way last : Instances) (file : File) (old mid new : Scopes) (site : Site) (p : Place) (e : Expr) (second : Box Stmt Global) (third : Option (Box Stmt Global)) (test : Option (Box TExpr Global)) (a : Option (Box TStmt Global)) (b : Option (Option (Box TStmt Global))) (parts : Branches)
    → Grows file first mid_way → Grows file mid_way last → IsValue first file old.locals site e test → IsTypedIf mid_way file old mid site second.value a → bindings mid.locals ≡ bindings old.locals → IsElseTyped last file mid new site third b → AreGiven test a b parts → AreTypedBranches last file old new site (S.If p e second third) parts
unfolding InStatement InElse
if_parts first mid_way last file old mid new site p e second None test a b parts sooner later v h same (no_else is) given =
    let one = typed_of file old mid site second.value a parts.then h given.1 in (
      λ program here place plain. (value_of_part first here e test parts.test place v given.0 (earlier (begins_both sooner later) here e plain.0), one.typed program here place (brought (earlier later) here second.value plain.1), rw (none_given parts.otherwise given.2) tt),
      rw (count.in_if p e second None, is) (omega (arith, one.counted)),
    )
if_parts first mid_way last file old mid new site p e second (Some third) test a b parts sooner later v h same (an_else {r} _ k) given =
    let one = typed_of file old mid site second.value a parts.then h given.1 in
    let second_given = some_given r parts.otherwise given.2 in
    let other = typed_of file mid new site third.value r second_given.0 k second_given.1 in (
      λ program here place plain. (
        value_of_part first here e test parts.test place v given.0 (earlier (begins_both sooner later) here e plain.0),
        one.typed program here place (brought (earlier later) here second.value plain.1),
        rw second_given.2 (other.typed program (behind here second.value) (behind_more here (locals_in second.value) place same one.counted) plain.2),
      ),
      rw (count.in_if p e second (Some third)) (omega (arith, one.counted, other.counted)),
    )

pub where_parts : (first mid_way last : Instances) (file : File) (old mid new : Scopes) (site : Site) (p : Place) (e : Expr) (second : Box Stmt Global) (third : Option (Box Stmt Global)) (test : Option (Box TExpr Global)) (a : Option (Box TStmt Global)) (b : Option (Option (Box TStmt Global))) (parts : Branches)
    → Grows file first mid_way → Grows file mid_way last → IsValue first file old.locals site e test → IsTypedIf mid_way file old mid site second.value a → bindings mid.locals ≡ bindings old.locals → IsElseTyped last file mid new site third b → AreGiven test a b parts → AreTypedBranches last file old new site (S.Where p e second third) parts
unfolding InStatement InElse
where_parts first mid_way last file old mid new site p e second None test a b parts sooner later v h same (no_else is) given =
    let one = typed_of file old mid site second.value a parts.then h given.1 in (
      λ program here place plain. (value_of_part first here e test parts.test place v given.0 (earlier (begins_both sooner later) here e plain.0), one.typed program here place (brought (earlier later) here second.value plain.1), rw (none_given parts.otherwise given.2) tt),
      rw (count.in_where p e second None, is) (omega (arith, one.counted)),
    )
where_parts first mid_way last file old mid new site p e second (Some third) test a b parts sooner later v h same (an_else {r} _ k) given =
    let one = typed_of file old mid site second.value a parts.then h given.1 in
    let second_given = some_given r parts.otherwise given.2 in
    let other = typed_of file mid new site third.value r second_given.0 k second_given.1 in (
      λ program here place plain. (
        value_of_part first here e test parts.test place v given.0 (earlier (begins_both sooner later) here e plain.0),
        one.typed program here place (brought (earlier later) here second.value plain.1),
        rw second_given.2 (other.typed program (behind here second.value) (behind_more here (locals_in second.value) place same one.counted) plain.2),
      ),
      rw (count.in_where p e second (Some third)) (omega (arith, one.counted, other.counted)),
    )

pub chosen_typed : (so_far : Instances) (file : File) (old new : Scopes) (site : Site) (s : Stmt) (parts : Branches) (typed : Result TStmt Untyped) (before later : Option Standing) (r : Option (Box TStmt Global)) → AreTypedBranches so_far file old new site s parts
    → ((program : Program) (returns : Returns) (here : Here) → here.current ≡ site.current → AreBranches program returns here s parts → IsAnswer program returns here s typed) → IsOutcome typed before later r → IsTypedIf so_far file old new site s r
chosen_typed so_far file old new site s parts typed before later r h answers m =
    told _ file old new site s typed before later r m h.1 (λ program here p plain. answers program (returned site.returns) here p.around.at_site.current (h.0 program here p plain))

-- ---- under a shape

pub with_typed : (so_far : Instances) (file : File) (old new : Scopes) (site : Site) (p : Place) (written : ShapeRef) (body : Box Stmt Global) (named : Result ℕ Untyped) (found : Option ℕ) (shape : ℕ) (b r : Option (Box TStmt Global)) → IsShapeAmong (names_at file old.locals site.known) site.current written named → found ≡ part_of named → found ≡ Some shape
    → IsTypedIf so_far file old new (record site { current = Some shape }) body.value b → IsUnder shape b r → IsTypedIf so_far file old new site (S.With p written body) r
unfolding InStatement
with_typed so_far file old new site p written body named found shape b None n f is h m = tt
with_typed so_far file old new site p written body named found shape None (Some t) n f is h m = absurd (cc)
with_typed so_far file old new site p written body (Err u) found shape (Some b) (Some t) n f is h m = absurd (cc)
with_typed so_far file old new site p written body (Ok s) found shape (Some b) (Some t) n f is h m = record {
  typed = λ program here place plain.
      let same : s ≡ shape = let e = sym f ∙ is in cc in
      let named = shape_found {here = here} written place.around (n ∙ ap (λ (k : ℕ). Some k) same) in
      rw m (Y.with body b named (h.typed program (under here shape) (in_shape here shape place (is_shape written place.around named)) (plain shape named)));
  counted = rw (count.in_with p written body) h.counted;
}

pub everywhere_typed : (so_far : Instances) (file : File) (old new : Scopes) (site : Site) (p : Place) (body : Box Stmt Global) (b r : Option (Box TStmt Global)) (before later : Option Standing) → IsTypedIf so_far file old new site body.value b → IsEverywhere site p b before later r → IsTypedIf so_far file old new site (S.Everywhere p body) r
unfolding InStatement
everywhere_typed so_far file old new site p body None r before later h m = rw m.0 tt
everywhere_typed so_far file old new site p body (Some b) r before later h m =
    told _ file old new site (S.Everywhere p body) m.0 before later r m.1 (rw (count.in_everywhere p body) h.counted)
    (λ program here place plain. m.2 program (returned site.returns) here body place.around.at_site.current (h.typed program here place plain))

-- ---- loops

pub while_typed : (first last : Instances) (file : File) (old new : Scopes) (site : Site) (p : Place) (e : Expr) (body : Box Stmt Global) (test : Option (Box TExpr Global)) (second : Option (Box TStmt Global)) (x : Box TExpr Global) (b : Box TStmt Global) (typed : Result TStmt Untyped) (before later : Option Standing) (r : Option (Box TStmt Global))
    → Grows file first last → IsValue first file old.locals site e test → test ≡ Some x → IsTypedIf last file old new (record site { in_loop = true }) body.value second → second ≡ Some b
    → ((program : Program) (returns : Returns) (here : Here) (e : Expr) (s : Box Stmt Global) → Types program here e x.value true → TypesStatement program returns (in_loop here) s.value b.value → IsAnswer program returns here (S.While p e s) typed) → IsOutcome typed before later r → IsTypedIf last file old new site (S.While p e body) r
unfolding InStatement
while_typed first last file old new site p e body test second x b typed before later r after v is h found answers m =
    let inner = typed_of file old new (record site { in_loop = true }) body.value second b h found in
    told _ file old new site (S.While p e body) typed before later r m (rw (count.in_while p e body) inner.counted)
    (λ program here place plain. answers program (returned site.returns) here e body (value_of_part first here e test x place v is (earlier after here e plain.0)) (inner.typed program (in_loop here) (in_body here place) plain.1))

pub do_typed : (first last : Instances) (file : File) (old new : Scopes) (site : Site) (p : Place) (body : Box Stmt Global) (e : Expr) (second : Option (Box TStmt Global)) (test : Option (Box TExpr Global)) (b : Box TStmt Global) (x : Box TExpr Global) (typed : Result TStmt Untyped) (before later : Option Standing) (r : Option (Box TStmt Global))
    → Grows file first last → IsTypedIf first file old new (record site { in_loop = true }) body.value second → second ≡ Some b → bindings new.locals ≡ bindings old.locals → IsValue last file new.locals site e test → test ≡ Some x
    → ((program : Program) (returns : Returns) (here : Here) (s : Box Stmt Global) (e : Expr) → TypesStatement program returns (in_loop here) s.value b.value → Types program here e x.value true → IsAnswer program returns here (S.Do p s e) typed) → IsOutcome typed before later r → IsTypedIf last file old new site (S.Do p body e) r
unfolding InStatement
do_typed first last file old new site p body e second test b x typed before later r after h found same v is answers m =
    let inner = typed_of file old new (record site { in_loop = true }) body.value second b h found in
    told _ file old new site (S.Do p body e) typed before later r m (rw (count.in_do p body e) inner.counted)
    (λ program here place plain.
    let value = subst (IsValue last file new.locals site e) is v program here (still_around old.locals new.locals same place.around) plain.1.0 plain.1.1 in
    answers program (returned site.returns) here body e (inner.typed program (in_loop here) (in_body here place) (brought (earlier after) (in_loop here) body.value plain.0)) (subst (λ (there : Here). Types program there e x.value true) (part_is here place.not_whole) value))

pub for_typed : (first_of last_of : Instances) (file : File) (old new : Scopes) (site : Site) (p : Place) (first test step : Option Expr) (body : Box Stmt Global) (heading : Option Heading) (second : Option (Box TStmt Global)) (parts : Heading) (b : Box TStmt Global) (typed : Result TStmt Untyped) (before later : Option Standing) (r : Option (Box TStmt Global))
    → Grows file first_of last_of → IsTypedHeading first_of file old site (S.For p first test step body) heading → heading ≡ Some parts → IsTypedIf last_of file old new (record site { in_loop = true }) body.value second → second ≡ Some b
    → ((program : Program) (returns : Returns) (here : Here) (first test step : Option Expr) (s : Box Stmt Global) → IsHeading program here first test step parts → TypesStatement program returns (in_loop here) s.value b.value → IsAnswer program returns here (S.For p first test step s) typed) → IsOutcome typed before later r
    → IsTypedIf last_of file old new site (S.For p first test step body) r
unfolding InStatement
for_typed first_of last_of file old new site p first test step body heading second parts b typed before later r after k is h found answers m =
    let inner = typed_of file old new (record site { in_loop = true }) body.value second b h found in
    let head = subst (IsTypedHeading first_of file old site (S.For p first test step body)) is k in
    told _ file old new site (S.For p first test step body) typed before later r m (rw (count.in_for p first test step body) inner.counted)
    (λ program here place plain. answers program (returned site.returns) here first test step body (head program here place (brought (earlier after) here (S.For p first test step body) plain)) (inner.typed program (in_loop here) (in_body here place) plain.3))

-- ---- the parts in the brackets of a `for`, and the value of a `return`

pub effect_typed : (so_far : Instances) (file : File) (scopes : Scopes) (site : Site) (e : Expr) (t : TypedExpr) → W.IsTyped so_far file scopes.locals (record site { whole = true }) e (Some t) → IsEffectIf so_far file scopes site (Some e) (Some (Some t.expr))
effect_typed so_far file scopes site e t h = λ program here p plain. Y.TypesEffectIf.present (h program (as_whole here) (in_whole here p.around) plain.0 plain.1)

pub no_effect : (so_far : Instances) (file : File) (scopes : Scopes) (site : Site) → IsEffectIf so_far file scopes site None (Some None)
no_effect so_far file scopes site = λ program here p plain. Y.TypesEffectIf.absent

pub value_typed : (so_far : Instances) (file : File) (scopes : Scopes) (site : Site) (e : Expr) (x : Box TExpr Global) → IsValue so_far file scopes.locals site e (Some x) → IsValueIf so_far file scopes site (Some e) (Some (Some x))
value_typed so_far file scopes site e x h = λ program here p plain. Y.TypesValueIf.present (value_here so_far here e x p h plain)

pub no_value : (so_far : Instances) (file : File) (scopes : Scopes) (site : Site) → IsValueIf so_far file scopes site None (Some None)
no_value so_far file scopes site = λ program here p plain. Y.TypesValueIf.absent

pub heading_typed : (one two three : Instances) (file : File) (scopes : Scopes) (site : Site) (p : Place) (first test step : Option Expr) (body : Box Stmt Global) (f t s : Option (Option (Box TExpr Global))) (heading : Heading) → Grows file one two → Grows file two three → IsEffectIf one file scopes site first f → IsValueIf two file scopes site test t → IsEffectIf three file scopes site step s
    → f ≡ Some heading.first → t ≡ Some heading.test → s ≡ Some heading.step → IsTypedHeading three file scopes site (S.For p first test step body) (Some heading)
unfolding InStatement
heading_typed one two three file scopes site p first test step body f t s heading sooner later u v w a b c = λ program here place plain.
    record {
      first_typed = subst (IsEffectIf one file scopes site first) a u program here place (some_brought (earlier (begins_both sooner later)) (as_whole here) first plain.0);
      test_typed = subst (IsValueIf two file scopes site test) b v program here place (some_brought (earlier later) here test plain.1);
      step_typed = subst (IsEffectIf three file scopes site step) c w program here place plain.2;
    }

-- ---- statements that have no statement as a part

pub expression_typed : (so_far : Instances) (file : File) (scopes : Scopes) (site : Site) (p : Place) (e : Expr) (typed : Option TypedExpr) (r : Result TStmt Untyped) → W.IsTyped so_far file scopes.locals (record site { whole = true }) e typed → MatchOption typed (r ≡ Err N.Faulty) (λ t. r ≡ Ok (T.Expression t.expr.value)) → IfOk r (IsTyped so_far file scopes scopes site (S.Expression p e))
unfolding InStatement
expression_typed so_far file scopes site p e None r h is = rw is tt
expression_typed so_far file scopes site p e (Some t) r h is = rw is (record {
  typed = λ program here place plain. Y.expression (h program (as_whole here) (in_whole here place.around) plain.0 plain.1);
  counted = rw (count.in_expression p e) (omega arith);
})

pub break_typed : (so_far : Instances) (file : File) (scopes : Scopes) (site : Site) (p : Place) (Q : Untyped → Type 0) (r : Result TStmt Untyped) → MatchResult r (λ t. (site.in_loop ≡ true) × (t ≡ T.Break)) Q → IfOk r (IsTyped so_far file scopes scopes site (S.Break p))
break_typed so_far file scopes site p Q (Ok t) h = record { typed = λ program here place plain. rw h.1 (Y.break (place.loop ∙ h.0)); counted = rw (count.in_break p) (omega arith) }
break_typed so_far file scopes site p Q (Err u) h = tt

pub continue_typed : (so_far : Instances) (file : File) (scopes : Scopes) (site : Site) (p : Place) (Q : Untyped → Type 0) (r : Result TStmt Untyped) → MatchResult r (λ t. (site.in_loop ≡ true) × (t ≡ T.Continue)) Q → IfOk r (IsTyped so_far file scopes scopes site (S.Continue p))
continue_typed so_far file scopes site p Q (Ok t) h = record { typed = λ program here place plain. rw h.1 (Y.continue (place.loop ∙ h.0)); counted = rw (count.in_continue p) (omega arith) }
continue_typed so_far file scopes site p Q (Err u) h = tt

pub empty_typed : {so_far : Instances} (file : File) (scopes : Scopes) (site : Site) (p : Place) → IsTyped so_far file scopes scopes site (S.Empty p) T.Empty
empty_typed file scopes site p = record { typed = λ program here place plain. Y.empty; counted = rw (count.in_empty p) (omega arith) }

pub return_typed : (so_far : Instances) (file : File) (scopes : Scopes) (site : Site) (p : Place) (e : Option Expr) (value : Option (Option (Box TExpr Global))) (r : Result TStmt Untyped) → IsValueIf so_far file scopes site e value → (value ≡ None → r ≡ Err N.Faulty)
    → ((program : Program) (here : Here) (e : Option Expr) (x : Option (Box TExpr Global)) → value ≡ Some x → here.current ≡ site.current → TypesValueIf program here e (value_of x) → IsReturnAnswer program (returned site.returns) here (S.Return p e) r) → IfOk r (IsTyped so_far file scopes scopes site (S.Return p e))
unfolding InStatement
return_typed so_far file scopes site p e None r h none answers = rw (none refl) tt
return_typed so_far file scopes site p e (Some x) (Err u) h none answers = tt
return_typed so_far file scopes site p e (Some x) (Ok t) h none answers = record {
  typed = λ program here place plain. answers program here e x refl place.around.at_site.current (h program here place plain);
  counted = rw (count.in_return p e) (omega arith);
}
