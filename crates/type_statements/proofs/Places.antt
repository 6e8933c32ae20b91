-- The place that is kept for a statement: within a block, a loop and a shape, and behind a statement.
use Rattle.std.proofs.Common.{◌≡◌, ◌⊎◌, inl, inr, ◌≤◌, ◌+◌, ◌-◌, ℕ, ℤ, pos, negsuc, suc, Bool, true, false, List, [], ◌∷◌, ◌++◌, length, take, Option, Some, None, is_some, is_none, bytes_eq, if◌then◌else◌, arith, refl, sym, ap, subst, ◌∙◌}
use Rattle.cstar_tree.specs.declared.syntax.Declarator.{Declarator}
use Rattle.cstar_tree.specs.declared.syntax.Expr.{Expr}
use Rattle.cstar_tree.specs.declared.typed.ValueType.{ValueType}
use Rattle.cstar_tree.specs.declared.typed.Variable.{Variable}
use Rattle.cstar_tree.specs.declared.typed.Variable.TheVariants as V
use Rattle.cstar_tree.specs.BlockScopes.{behind_declarator, block_place, declared_type, in_loop, with_length}
use Rattle.cstar_tree.specs.Constants.{constant_number}
use Rattle.cstar_tree.specs.Scopes.{Binding, Here, Meaning, VariableType, a_shape, a_variable, as_whole, declared, extents_of, find, meaning, part, under}
use Rattle.type_scopes.specs.Bindings.{bindings, named, type_meant, within}
use Rattle.type_scopes.specs.FileBindings.{file_bindings, names_at}
use Rattle.type_scopes.specs.declared.file.File.{File}
use Rattle.type_scopes.specs.declared.locals.Locals.{Locals}
use Rattle.type_scopes.specs.declared.names.VariableType as Names
use Rattle.type_scopes.specs.declared.sites.Site.{Site}
use Rattle.type_expressions.specs.Walks.{HasItsShapes, IsAround, IsShape}
use Rattle.type_statements.specs.Places.{HasItsShape, IsInScope, IsPlace}
use Rattle.type_statements.specs.declared.scopes.Scopes.{Scopes}

-- ---- the place of an expression

pub in_whole : {file : File} {locals : Locals} {site : Site} (here : Here) → IsAround file locals site here → IsAround file locals (record site { whole = true }) (as_whole here)
unfolding meaning extents_of
in_whole here a = record {
  at_site = record { current = a.at_site.current; around = a.at_site.around; dot = a.at_site.dot; whole = refl };
  names = a.names;
  shapes = a.shapes;
  known = record { named = a.known.named; of_variable = a.known.of_variable; current = a.known.current };
  few = a.few;
}

pub part_is : (here : Here) → here.whole ≡ false → part here ≡ here
part_is here whole = subst (λ (b : Bool). record here { whole = b } ≡ here) whole refl

-- ---- within a loop, a shape and a block

pub in_body : {file : File} {scopes : Scopes} {site : Site} (here : Here) → IsPlace file scopes site here → IsPlace file scopes (record site { in_loop = true }) (in_loop here)
unfolding meaning extents_of
in_body here p = record {
  around = record {
    at_site = record { current = p.around.at_site.current; around = p.around.at_site.around; dot = p.around.at_site.dot; whole = p.around.at_site.whole };
    names = p.around.names;
    shapes = p.around.shapes;
    known = record { named = p.around.known.named; of_variable = p.around.known.of_variable; current = p.around.known.current };
    few = p.around.few;
  };
  not_whole = p.not_whole;
  loop = refl;
  locals = p.locals;
}

only : (shape : ℕ) {other : ℕ} → Some shape ≡ Some other → shape ≡ other
only shape is = cc

pub in_shape : {file : File} {scopes : Scopes} {site : Site} (here : Here) (shape : ℕ) → IsPlace file scopes site here → IsShape here shape → IsPlace file scopes (record site { current = Some shape }) (under here shape)
unfolding meaning extents_of
in_shape here shape p known = record {
  around = record {
    at_site = record { current = refl; around = p.around.at_site.around; dot = p.around.at_site.dot; whole = p.around.at_site.whole };
    names = p.around.names;
    shapes = p.around.shapes;
    known = record { named = p.around.known.named; of_variable = p.around.known.of_variable; current = λ other is. subst (IsShape here) (only shape is) known };
    few = p.around.few;
  };
  not_whole = p.not_whole;
  loop = p.loop;
  locals = p.locals;
}

none_within : (names : List Binding) → take (length names - length names) names ≡ []
none_within names = let none : length names - length names ≡ 0 = omega arith in ap (λ (n : ℕ). take n names) none

pub in_block : {file : File} {scopes : Scopes} {site : Site} (here : Here) → IsPlace file scopes site here → IsInScope file scopes site (length (bindings scopes.locals)) (block_place here)
unfolding meaning extents_of
in_block {scopes = scopes} here p = record {
  place = record {
    around = record {
      at_site = record { current = p.around.at_site.current; around = p.around.at_site.around; dot = p.around.at_site.dot; whole = p.around.at_site.whole };
      names = p.around.names;
      shapes = p.around.shapes;
      known = record { named = p.around.known.named; of_variable = p.around.known.of_variable; current = p.around.known.current };
      few = p.around.few;
    };
    not_whole = p.not_whole;
    loop = p.loop;
    locals = p.locals;
  };
  inner = λ word. ap (λ (names : List Binding). find names word) (sym (none_within (bindings scopes.locals)));
  is_open = omega arith;
}

-- ---- behind a statement, whose own variables are not known any more

pub behind_more : {file : File} {old new : Scopes} {site : Site} (here : Here) (n : ℕ) → IsPlace file old site here → bindings new.locals ≡ bindings old.locals → new.count ≡ old.count + n → IsPlace file new site (record here { locals = here.locals + n })
unfolding meaning extents_of
behind_more {file} {old} {new} {site} here n p same count = record {
  around = record {
    at_site = record { current = p.around.at_site.current; around = p.around.at_site.around; dot = p.around.at_site.dot; whole = p.around.at_site.whole };
    names = λ word. p.around.names word ∙ ap (λ (names : List Binding). find (names ++ file_bindings file site.known) word) (sym same);
    shapes = p.around.shapes;
    known = record { named = p.around.known.named; of_variable = p.around.known.of_variable; current = p.around.known.current };
    few = p.around.few;
  };
  not_whole = p.not_whole;
  loop = p.loop;
  locals = omega (arith, p.locals, count);
}

-- ---- behind a declarator

declared_value : (here : Here) (of : ValueType) (length : Option Expr) {t : VariableType} → declared_type here (Some of) length ≡ Some t → t.value ≡ of
declared_value here of None is = cc
declared_value here of (Some e) is = step (constant_number here e) is
  where
    step : (n : Option ℤ) {t : VariableType} → with_length of n ≡ Some t → t.value ≡ of
    step None is = absurd (cc)
    step (Some (pos n)) is = cc
    step (Some (negsuc n)) is = absurd (cc)

-- a word stands for what it is declared as first, or for what it stands for before
one_or_other : (c : Bool) (x y : Option Meaning) {m : Meaning} → (if c then x else y) ≡ Some m → (x ≡ Some m) ⊎ (y ≡ Some m)
one_or_other true x y is = inl is
one_or_other false x y is = inr is

no_shape : (v : Variable) (t : Option VariableType) {shape : ℕ} → Some (a_variable v t) ≡ Some (a_shape shape) → ⊥
no_shape v t is = cc

its_type : (v w : Variable) (t : Option VariableType) {u : VariableType} → Some (a_variable v t) ≡ Some (a_variable w (Some u)) → t ≡ Some u
its_type v w t is = cc

new_names : (here : Here) (word : List ℕ) (m : Meaning) → is_some (find here.names.inner word) ≡ false → declared here.names word m ≡ record { inner = record { word = word; meaning = m } ∷ here.names.inner; outer = here.names.outer }
new_names here word m new = rw new refl

not_there : (m : Option Meaning) → is_none m ≡ true → is_some m ≡ false
not_there None is = refl
not_there (Some m) is = absurd (cc)

one_more : (names : List Binding) (b : Binding) (scope : ℕ) → scope ≤ length names → within scope (b ∷ names) ≡ b ∷ within scope names
one_more names b scope low = let more : length (b ∷ names) - scope ≡ suc (length names - scope) = omega (arith, low) in ap (λ (n : ℕ). take n (b ∷ names)) more

same_more : (b : Binding) (xs ys : List Binding) (word : List ℕ) → find xs word ≡ find ys word → find (b ∷ xs) word ≡ find (b ∷ ys) word
unfolding find
same_more b xs ys word same = ap (λ (m : Option Meaning). if bytes_eq b.word word then Some b.meaning else m) same

-- the shapes of variables and names are known behind a name more
shapes_behind : (here : Here) (word : List ℕ) (v : Variable) (of : ValueType) (t : Option VariableType) (locals : ℕ) → HasItsShapes here → HasItsShape here of → ((u : VariableType) → t ≡ Some u → u.value ≡ of)
    → HasItsShapes (record here { names = record { inner = record { word = word; meaning = a_variable v t } ∷ here.names.inner; outer = here.names.outer }; locals = locals })
unfolding meaning extents_of find
shapes_behind here word v of t locals known shape value = record {
  named = λ w s is. elim (one_or_other (bytes_eq word w) _ _ is) [
    | inl first ↦ absurd (no_shape v t first)
    | inr rest ↦ known.named w s rest
  ];
  of_variable = λ w x u s is of_shape. elim (one_or_other (bytes_eq word w) _ _ is) [
    | inl first ↦ shape s (subst (λ (k : ValueType). k.shape ≡ Some s) (value u (its_type v x t first)) of_shape)
    | inr rest ↦ known.of_variable w x u s rest of_shape
  ];
  current = known.current;
}

behind_name : {file : File} {old new : Scopes} {site : Site} {scope : ℕ} (here : Here) (word : List ℕ) (of : ValueType) (t : Option VariableType) (kept : Option Names.VariableType) → IsInScope file old site scope here → HasItsShape here of → ((u : VariableType) → t ≡ Some u → u.value ≡ of)
    → type_meant kept ≡ t → bindings new.locals ≡ named word (V.Local old.count) kept ∷ bindings old.locals → new.count ≡ old.count + 1
    → IsInScope file new site scope (record here { names = record { inner = record { word = word; meaning = a_variable (V.Local here.locals) t } ∷ here.names.inner; outer = here.names.outer }; locals = here.locals + 1 })
unfolding meaning extents_of
behind_name {file} {old} {new} {site} {scope} here word of t kept p shape value is names count =
    let b : Binding = record { word = word; meaning = a_variable (V.Local here.locals) t } in
    let same : named word (V.Local old.count) kept ≡ b = rw (is, sym p.place.locals) refl in
    let all : bindings new.locals ≡ b ∷ bindings old.locals = names ∙ ap (λ (k : Binding). k ∷ bindings old.locals) same in
    let around = p.place.around in
    record {
      place = record {
        around = record {
          at_site = record { current = around.at_site.current; around = around.at_site.around; dot = around.at_site.dot; whole = around.at_site.whole };
          names = λ w. same_more b (here.names.inner ++ here.names.outer) (names_at file old.locals site.known) w (around.names w) ∙ ap (λ (k : List Binding). find (k ++ file_bindings file site.known) w) (sym all);
          shapes = around.shapes;
          known = shapes_behind here word (V.Local here.locals) of t (here.locals + 1) around.known shape value;
          few = around.few;
        };
        not_whole = p.place.not_whole;
        loop = p.place.loop;
        locals = omega (arith, p.place.locals, count);
      };
      inner = λ w. same_more b here.names.inner (within scope (bindings old.locals)) w (p.inner w) ∙ ap (λ (k : List Binding). find k w) (sym (ap (within scope) all ∙ one_more (bindings old.locals) b scope p.is_open));
      is_open = let more = ap (λ (k : List Binding). length k) all in omega (arith, more, p.is_open);
    }

pub behind_new : {file : File} {old new : Scopes} {site : Site} {scope : ℕ} (here : Here) (of : ValueType) (d : Declarator) (kept : Option Names.VariableType) → IsInScope file old site scope here → HasItsShape here of
    → type_meant kept ≡ declared_type here (Some of) d.length → is_none (find (within scope (bindings old.locals)) d.name.word) ≡ true
    → bindings new.locals ≡ named d.name.word (V.Local old.count) kept ∷ bindings old.locals → new.count ≡ old.count + 1
    → IsInScope file new site scope (behind_declarator here (Some of) d)
behind_new {file} {old} {new} {site} {scope} here of d kept p shape is new_there names count =
    let there = not_there (find here.names.inner d.name.word) (ap (λ (m : Option Meaning). is_none m) (p.inner d.name.word) ∙ new_there) in
    rw (new_names here d.name.word (a_variable (V.Local here.locals) (declared_type here (Some of) d.length)) there)
    (behind_name here d.name.word of (declared_type here (Some of) d.length) kept p shape (λ u k. declared_value here of d.length k) is names count)
