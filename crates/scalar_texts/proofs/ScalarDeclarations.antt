-- What the rules of typing give declarations of a file without shapes is scalar, and the initialisers are of the
-- fragment.
use Rattle.std.proofs.Common.{◌≡◌, ℕ, ◌+◌, inl, IfSome, List, [], ◌∷◌, ◌++◌, map, Option, Some, None, refl, ap, ◌∙◌, sym, subst, append_assoc, append-nil}
use Rattle.std.specs.List.{All}
use Rattle.std.proofs.lemmas.List.Elements.{All-append, All-nil, All-cons, All-head, All-tail}
use Rattle.cstar_tree.specs.declared.syntax.Declaration.{Declaration}
use Rattle.cstar_tree.specs.declared.syntax.Declarator.{Declarator}
use Rattle.cstar_tree.specs.declared.syntax.Expr.{Expr}
use Rattle.cstar_tree.specs.declared.syntax.Initializer.{Initializer}
use Rattle.cstar_tree.specs.declared.typed.LocalVar.{LocalVar}
use Rattle.cstar_tree.specs.declared.typed.TExpr.{TExpr}
use Rattle.cstar_tree.specs.declared.typed.ValueType.{ValueType}
use Rattle.cstar_tree.specs.declared.typed.VarInfo.{VarInfo}
use Rattle.cstar_tree.specs.declared.typed.Variable.{Variable}
use Rattle.cstar_tree.specs.BlockScopes.{behind_declarations, behind_declarators}
use Rattle.cstar_tree.specs.Headers.{Program, Returns, a_value}
use Rattle.cstar_tree.specs.Scopes.{Here}
use Rattle.cstar_tree.specs.StatementTypes.{TypesDeclarations, TypesInitial, TypesLocal, TypesLocals}
use Rattle.cstar_tree.specs.StatementTypes as Y
use Rattle.cstar_tree.specs.TypedParts.{calls_in, concat, optional}
use Rattle.code_follows.specs.Fragment.{AreInitials, IsInitial, IsScalarLocal, May, within}
use Rattle.shape_room.proofs.CallsInParts.{calls_append}
use Rattle.shaped_trees.specs.Casts.{DeclarationNamesShapes, DeclaratorNamesShapes, ExpressionNamesShapes}
use Rattle.type_expressions.specs.Walks.{IsPlain}
use Rattle.type_statements.specs.Ready.{InDeclarations, InDeclarators}
use Rattle.scalar_texts.specs.Places.{AllowsCalls, IsScalarPlace}
use Rattle.scalar_texts.proofs.ScalarCalls.{AreCalled, both_called, fitted_called, same_called}
use Rattle.scalar_texts.proofs.ScalarConversions.{fitted}
use Rattle.scalar_texts.proofs.ScalarExpressions.{expression_is}
use Rattle.scalar_texts.proofs.ScalarPlaces.{behind_one, declared_plain, written_scalar}

-- the numbers of an expression have 32 bits, wherever it stands
abbrev pub Plainly : Here → Expr → Type 0
Plainly here e = IsPlain e

-- ---- the calls of initialisers

abbrev initials_of : List LocalVar → List TExpr
initials_of ls = concat (map (λ (l : LocalVar). optional l.initial) ls)

abbrev pub initial_calls : List LocalVar → List ℕ
initial_calls ls = concat (map calls_in (initials_of ls))

initials_append : (ls rest : List LocalVar) → initials_of (ls ++ rest) ≡ initials_of ls ++ initials_of rest
unfolding concat
initials_append [] rest = refl
initials_append (l ∷ ls) rest = ap (λ (ts : List TExpr). optional l.initial ++ ts) (initials_append ls rest) ∙ sym (append_assoc (optional l.initial) (initials_of ls) (initials_of rest))

-- what an expression that may be left out calls
abbrev pub IsCalledIf : (ℕ → Type 0) → Option TExpr → Type 0
IsCalledIf Called t = IfSome t (λ (t : TExpr). AreCalled Called (calls_in t))

pub called_if : (Called : ℕ → Type 0) (t : Option TExpr) → AreCalled Called (concat (map calls_in (optional t))) → IsCalledIf Called t
unfolding concat
called_if Called None c = tt
called_if Called (Some t) c = same_called Called (append-nil (calls_in t)) c

module _ (program : Program) (shapes : List (List ℕ)) (around : ℕ) (Called : ℕ → Type 0) (returns : Returns) where
  -- where all variables may be named, all calls made, and what the function returns may be returned
  pub record IsAllowing (may : May) : Type 0 where
    pub every : (x : Variable) → may.names x
    pub calls : AllowsCalls program shapes around Called may.calls
    pub returned : (ty : ValueType) → returns ≡ a_value ty → may.returns ty.elem

  -- within a block no less is allowed
  pub inside : {may : May} (n many : ℕ) → IsAllowing may → IsAllowing (within may n many)
  inside n many a = record { every = λ x. inl (a.every x); calls = a.calls; returned = a.returned }

  abbrev HasInitials : List LocalVar → Type 1
  HasInitials ls = (may : May) (n : ℕ) → IsAllowing may → AreInitials may n ls

  -- declarations, and the place behind them
  pub record Declares (here behind_them : Here) (ls : List LocalVar) : Type 1 where
    pub place : IsScalarPlace shapes around behind_them
    pub loop : behind_them.loop ≡ here.loop
    pub scalars : All IsScalarLocal ls
    pub initials : HasInitials ls

  initial_is : {here : Here} {ty : ValueType} {i : Option Initializer} {t : Option TExpr} (may : May) (n : ℕ) (local : LocalVar) → IsAllowing may → IsScalarPlace shapes around here → IfSome i (λ (i : Initializer). IsPlain i.value) →
      IfSome i (λ (i : Initializer). ExpressionNamesShapes i.value) → IsCalledIf Called t → ty.shape ≡ None → local.info.elem ≡ ty.elem → IsScalarLocal local → TypesInitial program here ty i t → IfSome t (IsInitial may n local)
  initial_is may m local a s n w c scalar same own Y.no_initial = tt
  initial_is may m local a s n w c scalar same own (Y.initial typed at_hand takes fit) =
      let v = fitted may fit scalar (expression_is program shapes around Called may a.every a.calls s n w (fitted_called Called fit c) typed) in
      inl (own, v.used, inl (v.elem_is ∙ sym same))

  both_initials : (ls rest : List LocalVar) (may : May) (n : ℕ) → IsAllowing may → AreInitials may n ls → HasInitials rest → AreInitials may n (ls ++ rest)
  unfolding AreInitials
  both_initials [] rest may n a h k = k may n a
  both_initials (l ∷ ls) rest may n a h k = (h.0, both_initials ls rest (within may n 1) (n + 1) (inside n 1 a) h.1 k)

  locals_are : {here : Here} {ty : ValueType} {ds : List Declarator} {ls : List LocalVar} → IsScalarPlace shapes around here → InDeclarators Plainly here (Some ty) ds → All DeclaratorNamesShapes ds → AreCalled Called (initial_calls ls) → ty.shape ≡ None →
      TypesLocals program here ty ds ls → Declares here (behind_declarators here (Some ty) ds) ls
  unfolding behind_declarators InDeclarators DeclaratorNamesShapes AreInitials concat
  locals_are s n w c scalar Y.no_variable = record { place = s; loop = refl; scalars = All-nil IsScalarLocal; initials = λ may m a. tt }
  locals_are {here = here} s n w c scalar (Y.next_variable {ty = ty} {d = d} {ds = ds} {l = l} {ls = ls} typed more) =
      let plain = declared_plain here ty d.length typed.its_type typed.declarable scalar in
      let place = behind_one typed plain s in
      let calls = both_called Called (concat (map calls_in (optional l.initial))) (initial_calls ls) (calls_append (optional l.initial) (initials_of ls)) c in
      let rest = locals_are place n.1 (All-tail DeclaratorNamesShapes d ds w) calls.1 scalar more in
      let names = All-head DeclaratorNamesShapes d ds w in
      let own : IsScalarLocal l = ap (λ (info : VarInfo). info.shape) typed.info ∙ plain.0 in
      record {
        place = rest.place;
        loop = rest.loop;
        scalars = All-cons IsScalarLocal l ls own rest.scalars;
        initials = λ may m a. (
          initial_is (within may m 1) m l (inside m 1 a) place n.0.1 names.1 (called_if Called l.initial calls.0) plain.0 (ap (λ (info : VarInfo). info.elem) typed.info) own typed.initial,
          rest.initials (within may m 1) (m + 1) (inside m 1 a),
        );
      }

  pub declarations_are : {here : Here} {ds : List Declaration} {ls : List LocalVar} → IsScalarPlace shapes around here → InDeclarations Plainly here ds → All DeclarationNamesShapes ds → AreCalled Called (initial_calls ls) →
      TypesDeclarations program here ds ls → Declares here (behind_declarations here ds) ls
  unfolding behind_declarations InDeclarations DeclarationNamesShapes AreInitials
  declarations_are s n w c Y.no_declaration = record { place = s; loop = refl; scalars = All-nil IsScalarLocal; initials = λ may m a. tt }
  declarations_are {here = here} s n w c (Y.next_declaration {ty = ty} {d = d} {ds = ds} {ls = ls} {rest = rest} is typed more) =
      let plain = subst (λ (known : Option ValueType). InDeclarators Plainly here known d.variables.items × InDeclarations Plainly (behind_declarators here known d.variables.items) ds) is n in
      let calls = both_called Called (initial_calls ls) (initial_calls rest) (ap (λ (ts : List TExpr). concat (map calls_in ts)) (initials_append ls rest) ∙ calls_append (initials_of ls) (initials_of rest)) c in
      let first = locals_are s plain.0 (All-head DeclarationNamesShapes d ds w) calls.0 (written_scalar here d.type_name s.means s.current is) typed in
      let others = declarations_are first.place plain.1 (All-tail DeclarationNamesShapes d ds w) calls.1 more in
      record {
        place = subst (λ (known : Option ValueType). IsScalarPlace shapes around (behind_declarations (behind_declarators here known d.variables.items) ds)) (sym is) others.place;
        loop = subst (λ (known : Option ValueType). (behind_declarations (behind_declarators here known d.variables.items) ds).loop ≡ here.loop) (sym is) (others.loop ∙ first.loop);
        scalars = All-append IsScalarLocal ls rest first.scalars others.scalars;
        initials = λ may m a. both_initials ls rest may m a (first.initials may m a) others.initials;
      }
