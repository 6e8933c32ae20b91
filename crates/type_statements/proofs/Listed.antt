-- Lists of declarations and of statements: one more behind those that are typed.
use Rattle.std.proofs.Common.{◌≡◌, ◌<◌, ◌+◌, ℕ, suc, zero, Bool, true, is_some, List, [], ◌∷◌, ◌++◌, length, take, get_or, map, Option, Some, None, arith, refl, sym, ap, subst, ◌∙◌, append_assoc}
use Rattle.std.proofs.Math.Seq.{take-length, take-suc}
use Rattle.std.proofs.lemmas.List.{append-nil}
use Rattle.cstar_tree.specs.declared.syntax.Declaration.{Declaration}
use Rattle.cstar_tree.specs.declared.syntax.Declarator.{Declarator}
use Rattle.cstar_tree.specs.declared.syntax.Expr.{Expr}
use Rattle.cstar_tree.specs.declared.syntax.Stmt.{Stmt}
use Rattle.cstar_tree.specs.declared.typed.LocalVar.{LocalVar}
use Rattle.cstar_tree.specs.declared.typed.TStmt.{TStmt}
use Rattle.cstar_tree.specs.declared.typed.ValueType.{ValueType}
use Rattle.cstar_tree.specs.BlockScopes.{behind_declarations, behind_declarator, behind_declarators}
use Rattle.cstar_tree.specs.Headers.{Program, Returns}
use Rattle.cstar_tree.specs.Scopes.{Binding, Here, extents_of, written_type}
use Rattle.cstar_tree.specs.StatementTypes.{TypesDeclarations, TypesLocal, TypesLocals, TypesStatement, TypesStatements}
use Rattle.cstar_tree.specs.StatementTypes as Y
use Rattle.cstar_tree.specs.SyntaxParts.{declared_in, locals_in}
use Rattle.cstar_tree.specs.TypedParts.{total}
use Rattle.type_scopes.specs.Bindings.{bindings}
use Rattle.type_scopes.specs.Headers.{returned}
use Rattle.type_scopes.specs.declared.file.File.{File}
use Rattle.type_scopes.specs.declared.sites.Site.{Site}
use Rattle.type_expressions.specs.declared.found.Instances.{Instances}
use Rattle.type_statements.specs.Places.{HasItsShape, IsGrown, IsInScope, IsPlace}
use Rattle.type_expressions.specs.Instances.{Grows}
use Rattle.type_statements.specs.Ready.{InDeclarations, InDeclarator, InDeclarators, InStatement, InStatements, IsReady}
use Rattle.type_statements.specs.Walks.{AreDeclared, AreMore, IsLocal, IsTyped}
use Rattle.type_statements.specs.declared.scopes.Scopes.{Scopes}
use Rattle.type_statements.proofs.Places.{behind_more}
use Rattle.type_statements.proofs.Ready.{declarations_brought, declarators_brought, earlier, statements_brought}

-- ---- names

pub none_grown : (names : List Binding) → IsGrown names names
none_grown names = record { more = []; grown = refl }

pub more_grown : {a b c : List Binding} → IsGrown a b → IsGrown b c → IsGrown a c
more_grown {a = a} f g = record { more = g.more ++ f.more; grown = g.grown ∙ (ap (λ (names : List Binding). g.more ++ names) f.grown ∙ sym (append_assoc g.more f.more a)) }

-- ---- the next of a list

pub next_of : {A : Type 0} (items : List A) (k : ℕ) (x : A) → k < length items → x ≡ get_or items k x → take (k + 1) items ≡ take k items ++ x ∷ []
next_of {A} items k x within is =
    let next : k + 1 ≡ suc k = omega arith in
    ap (λ (n : ℕ). take n items) next ∙ (take-suc items k x within ∙ ap (λ (y : A). take k items ++ y ∷ []) (sym is))

-- ---- the variables of a declaration

behind_one_more : (here : Here) (ty : Option ValueType) (ds : List Declarator) (d : Declarator) → behind_declarators here ty (ds ++ d ∷ []) ≡ behind_declarator (behind_declarators here ty ds) ty d
unfolding behind_declarators
behind_one_more here ty [] d = refl
behind_one_more here ty (e ∷ ds) d = behind_one_more (behind_declarator here ty e) ty ds d

pub shapes_are : (here : Here) (ty : Option ValueType) (ds : List Declarator) → (behind_declarators here ty ds).shapes ≡ here.shapes
unfolding behind_declarators
shapes_are here ty [] = refl
shapes_are here ty (d ∷ ds) = shapes_are (behind_declarator here ty d) ty ds

pub shape_behind : (here there : Here) (of : ValueType) → there.shapes ≡ here.shapes → HasItsShape here of → HasItsShape there of
unfolding extents_of
shape_behind here there of same known = λ shape is. let k = known shape is in (k.0, rw same k.1)

locals_more : {program : Program} {here : Here} {of : ValueType} {ds : List Declarator} {ls : List LocalVar} {d : Declarator} {l : LocalVar} → TypesLocals program here of ds ls → TypesLocal program (behind_declarators here (Some of) ds) of d l → TypesLocals program here of (ds ++ d ∷ []) (ls ++ l ∷ [])
unfolding behind_declarators
locals_more Y.no_variable h = Y.next_variable h Y.no_variable
locals_more (Y.next_variable first rest) h = Y.next_variable first (locals_more rest h)

pub in_declarator_at : (P : Here → Expr → Type 0) (here : Here) (ty : Option ValueType) (ds : List Declarator) (k : ℕ) (d : Declarator) → k < length ds → d ≡ get_or ds k d → InDeclarators P here ty ds → InDeclarator P (behind_declarators here ty (take k ds)) ty d
unfolding InDeclarators behind_declarators
in_declarator_at P here ty [] k d within is h = absurd (omega (arith, within))
in_declarator_at P here ty (e ∷ ds) zero d within is h = subst (InDeclarator P here ty) (sym is) h.0
in_declarator_at P here ty (e ∷ ds) (suc k) d within is h = in_declarator_at P (behind_declarator here ty e) ty ds k d (omega (arith, within)) is h.1

-- the first so many declarators are typed
pub record AreLocals (so_far : Instances) (file : File) (old new : Scopes) (site : Site) (scope : ℕ) (ty : Option ValueType) (items : List Declarator) (k : ℕ) (before locals : List LocalVar) : Type 0 where
  pub of : ValueType
  pub has_type : ty ≡ Some of
  pub own : List LocalVar
  pub behind : locals ≡ before ++ own
  pub typed : (program : Program) (here : Here) → IsInScope file old site scope here → HasItsShape here of → InDeclarators (IsReady so_far file program) here ty items → TypesLocals program here of (take k items) own × IsInScope file new site scope (behind_declarators here (Some of) (take k items))
  pub counted : new.count ≡ old.count + k

pub no_locals : {so_far : Instances} (file : File) (scopes : Scopes) (site : Site) (scope : ℕ) (of : ValueType) (items : List Declarator) (before : List LocalVar) → AreLocals so_far file scopes scopes site scope (Some of) items 0 before before
unfolding behind_declarators
no_locals file scopes site scope of items before = record {
  of = of;
  has_type = refl;
  own = [];
  behind = sym (append-nil before);
  typed = λ program here p shape plain. (Y.no_variable, p);
  counted = omega arith;
}

pub local_more : {before_it behind_it : Instances} (file : File) (old scopes new : Scopes) (site : Site) (scope : ℕ) (ty : Option ValueType) (items : List Declarator) (k : ℕ) (before locals more : List LocalVar) (d : Declarator) (l : LocalVar) → k < length items → d ≡ get_or items k d → more ≡ locals ++ l ∷ []
    → Grows file before_it behind_it → AreLocals before_it file old scopes site scope ty items k before locals → IsLocal behind_it file scopes new site scope ty d l → AreLocals behind_it file old new site scope ty items (k + 1) before more
local_more {behind_it = behind_it} file old scopes new site scope ty items k before locals more d l within is pushed later h next = record {
  of = h.of;
  has_type = h.has_type;
  own = h.own ++ l ∷ [];
  behind = pushed ∙ (ap (λ (ls : List LocalVar). ls ++ l ∷ []) h.behind ∙ append_assoc before h.own (l ∷ []));
  typed = λ program here p shape plain.
      let first = h.typed program here p shape (declarators_brought (earlier later) here ty items plain) in
      let there = behind_declarators here (Some h.of) (take k items) in
      let one_type : next.of ≡ h.of = same_type ty (next.has_type) h.has_type in
      let known = subst (HasItsShape there) (sym one_type) (shape_behind here there h.of (shapes_are here (Some h.of) (take k items)) shape) in
      let typed = next.typed program there first.1 known (subst (λ (t : Option ValueType). InDeclarator (IsReady behind_it file program) (behind_declarators here t (take k items)) ty d) h.has_type (in_declarator_at (IsReady behind_it file program) here ty items k d within is plain)) in
      let local = subst (λ (of : ValueType). TypesLocal program there of d l) one_type typed.0 in
      let place = subst (λ (t : Option ValueType). IsInScope file new site scope (behind_declarator there t d)) h.has_type typed.1 in
      rw (next_of items k d within is) (locals_more first.0 local, rw (behind_one_more here (Some h.of) (take k items) d) place);
  counted = omega (arith, h.counted, next.counted);
}
  where
    same_type : (ty : Option ValueType) {a b : ValueType} → ty ≡ Some a → ty ≡ Some b → a ≡ b
    same_type ty is other = cc

-- ---- declarations

declarations_more : {program : Program} {here : Here} {ds : List Declaration} {ls own : List LocalVar} {d : Declaration} → TypesDeclarations program here ds ls → TypesDeclarations program (behind_declarations here ds) (d ∷ []) own → TypesDeclarations program here (ds ++ d ∷ []) (ls ++ own)
unfolding behind_declarations
declarations_more Y.no_declaration h = h
declarations_more {program} {own = own} {d = e} (Y.next_declaration {here = here} {ty = ty} {d = d} {ds = ds} {ls = ls} {rest = rest} is typed more) h =
    let behind = subst (λ (t : Option ValueType). TypesDeclarations program (behind_declarations (behind_declarators here t d.variables.items) ds) (e ∷ []) own) is h in
    subst (TypesDeclarations program here (d ∷ (ds ++ e ∷ []))) (sym (append_assoc ls rest own)) (Y.next_declaration is typed (declarations_more more behind))

behind_declaration_more : (here : Here) (ds : List Declaration) (d : Declaration) → behind_declarations here (ds ++ d ∷ []) ≡ behind_declarations (behind_declarations here ds) (d ∷ [])
unfolding behind_declarations
behind_declaration_more here [] d = refl
behind_declaration_more here (e ∷ ds) d = behind_declaration_more (behind_declarators here (written_type here e.type_name) e.variables.items) ds d

declared_more : (ds : List Declaration) (d : Declaration) → declared_in (ds ++ d ∷ []) ≡ declared_in ds + declared_in (d ∷ [])
unfolding total
declared_more [] d = omega arith
declared_more (e ∷ ds) d = let rest = declared_more ds d in omega (arith, rest)

-- the variables of one declaration, whose type is written
pub declaration_typed : {so_far : Instances} (file : File) (old new : Scopes) (site : Site) (scope : ℕ) (ty : Option ValueType) (d : Declaration) (k : ℕ) (before locals : List LocalVar) → k ≡ length d.variables.items → AreLocals so_far file old new site scope ty d.variables.items k before locals
    → ((here : Here) → IsPlace file old site here → (of : ValueType) → ty ≡ Some of → (written_type here d.type_name ≡ Some of) × HasItsShape here of) → AreMore so_far file old new site scope d before locals
unfolding behind_declarations InDeclarations total
declaration_typed {so_far} file old new site scope ty d k before locals all h written = record {
  own = h.own;
  behind = h.behind;
  declared = record {
    typed = λ program here p plain.
        let is = written here p.place h.of h.has_type in
        let typed = h.typed program here p is.1 (subst (λ (t : Option ValueType). InDeclarators (IsReady so_far file program) here t d.variables.items) (is.0 ∙ sym h.has_type) plain.0) in
        let whole : take k d.variables.items ≡ d.variables.items = ap (λ (n : ℕ). take n d.variables.items) all ∙ take-length d.variables.items in
        let locals = subst (λ (ds : List Declarator). TypesLocals program here h.of ds h.own) whole typed.0 in
        let place = subst (λ (ds : List Declarator). IsInScope file new site scope (behind_declarators here (Some h.of) ds)) whole typed.1 in
        (subst (TypesDeclarations program here (d ∷ [])) (append-nil h.own) (Y.next_declaration is.0 locals Y.no_declaration), rw is.0 place);
    counted = omega (arith, h.counted, all);
  };
}

pub in_declaration_at : (P : Here → Expr → Type 0) (here : Here) (ds : List Declaration) (k : ℕ) (d : Declaration) → k < length ds → d ≡ get_or ds k d → InDeclarations P here ds → InDeclarations P (behind_declarations here (take k ds)) (d ∷ [])
unfolding InDeclarations behind_declarations
in_declaration_at P here [] k d within is h = absurd (omega (arith, within))
in_declaration_at P here (e ∷ ds) zero d within is h = subst (λ (x : Declaration). InDeclarations P here (x ∷ [])) (sym is) (h.0, tt)
in_declaration_at P here (e ∷ ds) (suc k) d within is h = in_declaration_at P (behind_declarators here (written_type here e.type_name) e.variables.items) ds k d (omega (arith, within)) is h.1

-- the first so many declarations are typed
pub record AreDeclaredTo (so_far : Instances) (file : File) (old new : Scopes) (site : Site) (scope : ℕ) (items : List Declaration) (k : ℕ) (locals : List LocalVar) : Type 0 where
  pub typed : (program : Program) (here : Here) → IsInScope file old site scope here → InDeclarations (IsReady so_far file program) here items → TypesDeclarations program here (take k items) locals × IsInScope file new site scope (behind_declarations here (take k items))
  pub counted : new.count ≡ old.count + declared_in (take k items)

pub none_declared : {so_far : Instances} (file : File) (scopes : Scopes) (site : Site) (scope : ℕ) (items : List Declaration) → AreDeclaredTo so_far file scopes scopes site scope items 0 []
unfolding behind_declarations total
none_declared file scopes site scope items = record { typed = λ program here p plain. (Y.no_declaration, p); counted = omega arith }

pub declaration_more : {before_it behind_it : Instances} (file : File) (old scopes new : Scopes) (site : Site) (scope : ℕ) (items : List Declaration) (k : ℕ) (locals more : List LocalVar) (d : Declaration) → k < length items → d ≡ get_or items k d
    → Grows file before_it behind_it → AreDeclaredTo before_it file old scopes site scope items k locals → AreMore behind_it file scopes new site scope d locals more → AreDeclaredTo behind_it file old new site scope items (k + 1) more
declaration_more {behind_it = behind_it} file old scopes new site scope items k locals more d within is later h next = record {
  typed = λ program here p plain.
      let first = h.typed program here p (declarations_brought (earlier later) here items plain) in
      let there = behind_declarations here (take k items) in
      let typed = next.declared.typed program there first.1 (in_declaration_at (IsReady behind_it file program) here items k d within is plain) in
      rw (next_of items k d within is) (rw next.behind (declarations_more first.0 typed.0), rw (behind_declaration_more here (take k items) d) typed.1);
  counted = rw (next_of items k d within is) (let count = declared_more (take k items) d in omega (arith, count, h.counted, next.declared.counted));
}

pub all_declared : {so_far : Instances} (file : File) (old new : Scopes) (site : Site) (scope : ℕ) (items : List Declaration) (k : ℕ) (locals : List LocalVar) → k ≡ length items → AreDeclaredTo so_far file old new site scope items k locals → AreDeclared so_far file old new site scope items locals
all_declared file old new site scope items k locals all h =
    let whole : take k items ≡ items = ap (λ (n : ℕ). take n items) all ∙ take-length items in
    record {
      typed = λ program here p plain. subst (λ (ds : List Declaration). TypesDeclarations program here ds locals × IsInScope file new site scope (behind_declarations here ds)) whole (h.typed program here p plain);
      counted = subst (λ (ds : List Declaration). new.count ≡ old.count + declared_in ds) whole h.counted;
    }

-- ---- statements

-- the place behind so many variables
abbrev pub after : Here → ℕ → Here
after here n = record here { locals = here.locals + n }

abbrev pub all_locals : List Stmt → ℕ
all_locals ss = total (map locals_in ss)

locals_one_more : (ss : List Stmt) (s : Stmt) → all_locals (ss ++ s ∷ []) ≡ all_locals ss + locals_in s
unfolding total
locals_one_more [] s = omega arith
locals_one_more (first ∷ ss) s = let rest = locals_one_more ss s in omega (arith, rest)

after_none : (here : Here) → after here 0 ≡ here
after_none here = let same : here.locals + 0 ≡ here.locals = omega arith in ap (λ (n : ℕ). record here { locals = n }) same

after_both : (here : Here) (n m : ℕ) → after here (n + m) ≡ after (after here n) m
after_both here n m = let same : here.locals + (n + m) ≡ here.locals + n + m = omega arith in ap (λ (k : ℕ). record here { locals = k }) same

statements_more : {program : Program} {returns : Returns} {here : Here} {ss : List Stmt} {ts : List TStmt} {s : Stmt} {t : TStmt} → TypesStatements program returns here ss ts → TypesStatement program returns (after here (all_locals ss)) s t → TypesStatements program returns here (ss ++ s ∷ []) (ts ++ t ∷ [])
unfolding total
statements_more {program} {returns} {s = s} {t = t} (Y.no_statement {here = here}) h = Y.next_statement (subst (λ (place : Here). TypesStatement program returns place s t) (after_none here) h) Y.no_statement
statements_more {program} {returns} {s = s} {t = t} (Y.next_statement {here = here} {s = first} {ss = ss} at more) h =
    Y.next_statement at (statements_more more (subst (λ (place : Here). TypesStatement program returns place s t) (after_both here (locals_in first) (all_locals ss)) h))

pub in_statement_at : (P : Here → Expr → Type 0) (here : Here) (ss : List Stmt) (k : ℕ) (s : Stmt) → k < length ss → s ≡ get_or ss k s → InStatements P here ss → InStatement P (after here (all_locals (take k ss))) s
unfolding InStatements total
in_statement_at P here [] k s within is h = absurd (omega (arith, within))
in_statement_at P here (e ∷ ss) zero s within is h = subst (λ (place : Here). InStatement P place s) (sym (after_none here)) (subst (InStatement P here) (sym is) h.0)
in_statement_at P here (e ∷ ss) (suc k) s within is h =
    subst (λ (place : Here). InStatement P place s) (sym (after_both here (locals_in e) (all_locals (take k ss)))) (in_statement_at P (after here (locals_in e)) ss k s (omega (arith, within)) is h.1)

pub record AreTypedTo (so_far : Instances) (file : File) (old new : Scopes) (site : Site) (items : List Stmt) (k : ℕ) (ts : List TStmt) : Type 0 where
  pub typed : (program : Program) (here : Here) → IsPlace file old site here → InStatements (IsReady so_far file program) here items → TypesStatements program (returned site.returns) here (take k items) ts
  pub counted : new.count ≡ old.count + all_locals (take k items)

pub no_statements : {so_far : Instances} (file : File) (scopes : Scopes) (site : Site) (items : List Stmt) → AreTypedTo so_far file scopes scopes site items 0 []
unfolding total
no_statements file scopes site items = record { typed = λ program here p plain. Y.no_statement; counted = omega arith }

pub statement_more : {before_it behind_it : Instances} (file : File) (old scopes new : Scopes) (site : Site) (items : List Stmt) (k : ℕ) (ts more : List TStmt) (s : Stmt) (t : TStmt) → k < length items → s ≡ get_or items k s → more ≡ ts ++ t ∷ [] → bindings scopes.locals ≡ bindings old.locals
    → Grows file before_it behind_it → AreTypedTo before_it file old scopes site items k ts → IsTyped behind_it file scopes new site s t → AreTypedTo behind_it file old new site items (k + 1) more
statement_more {behind_it = behind_it} file old scopes new site items k ts more s t within is pushed same later h next = record {
  typed = λ program here p plain.
      let first = h.typed program here p (statements_brought (earlier later) here items plain) in
      let there = behind_more here (all_locals (take k items)) p same h.counted in
      let typed = next.typed program (after here (all_locals (take k items))) there (in_statement_at (IsReady behind_it file program) here items k s within is plain) in
      rw (next_of items k s within is, pushed) (statements_more first typed);
  counted = rw (next_of items k s within is) (let count = locals_one_more (take k items) s in omega (arith, count, h.counted, next.counted));
}

pub first_locals : {so_far : Instances} (file : File) (scopes : Scopes) (site : Site) (scope : ℕ) (ty : Option ValueType) (items : List Declarator) (before : List LocalVar) (b : Bool) → b ≡ is_some ty → b ≡ true → AreLocals so_far file scopes scopes site scope ty items 0 before before
first_locals file scopes site scope None items before b known complete = absurd (cc)
first_locals file scopes site scope (Some of) items before b known complete = no_locals file scopes site scope of items before
