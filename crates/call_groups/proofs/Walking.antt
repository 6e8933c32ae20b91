-- What a walk adds in its scope, where variables are declared.
use Rattle.std.proofs.Common.{◌≡◌, ◌≤◌, ◌-◌, ℕ, suc, List, [], ◌∷◌, ◌++◌, Bool, true, false, length, take, drop, is_none, is_some, bytes_eq, Option, Some, None, refl, sym, ap, ◌∙◌, subst, arith, append_assoc, append-nil, if◌then◌else◌}
use Rattle.cstar_tree.specs.declared.typed.Variable.{Variable}
use Rattle.cstar_tree.specs.declared.typed.Variable.TheVariants as V
use Rattle.cstar_tree.specs.Calls.{Call}
use Rattle.cstar_tree.specs.Instances.{function_meant}
use Rattle.cstar_tree.specs.Scopes.{Binding, Here, Meaning, Names, VariableType, a_variable, declared, find, meaning}
use Rattle.type_scopes.specs.Bindings.{around, bindings, named, within}
use Rattle.type_scopes.specs.FileBindings.{file_bindings, names_at}
use Rattle.type_scopes.specs.declared.file.File.{File}
use Rattle.call_groups.specs.declared.calls.Calls.{Calls}
use Rattle.call_groups.specs.Called.{Adds, Declares, IsKnown, IsKnownIn, Walks, functions_of}
use Rattle.call_groups.proofs.Adding.{functions-append, still_known}

-- a list of names is longer by one in its scope
within_more : (scope : ℕ) (b : Binding) (names : List Binding) → scope ≤ length names → within scope (b ∷ names) ≡ b ∷ within scope names
within_more scope b names deep =
    ap (λ n. take n (b ∷ names)) (let e : length (b ∷ names) - scope ≡ suc (length names - scope) = omega arith in e)

around_more : (scope : ℕ) (b : Binding) (names : List Binding) → scope ≤ length names → around scope (b ∷ names) ≡ around scope names
around_more scope b names deep =
    ap (λ n. drop n (b ∷ names)) (let e : length (b ∷ names) - scope ≡ suc (length names - scope) = omega arith in e)

same_none : (c : Bool) (m n : Meaning) (x y : Option Meaning) → is_none x ≡ is_none y → is_none (if c then Some m else x) ≡ is_none (if c then Some n else y)
same_none true m n x y h = refl
same_none false m n x y h = h

same_function : (c : Bool) (v w : Variable) (s t : Option VariableType) (x y : Option Meaning) → function_meant x ≡ function_meant y → function_meant (if c then Some (a_variable v s) else x) ≡ function_meant (if c then Some (a_variable w t) else y)
same_function true v w s t x y h = refl
same_function false v w s t x y h = h

-- the names of two places, in a scope of which the inner ones are known
record AreAlike (inner outer : List Binding) (inside all : List Binding) : Type 0 where
  pub same_inner : (word : List ℕ) → is_none (find inner word) ≡ is_none (find inside word)
  pub same_all : (word : List ℕ) → function_meant (find (inner ++ outer) word) ≡ function_meant (find all word)

alike_more : (inner outer inside all : List Binding) (word : List ℕ) (v w : Variable) (s t : Option VariableType) → AreAlike inner outer inside all
    → AreAlike (record { word = word; meaning = a_variable v s } ∷ inner) outer (record { word = word; meaning = a_variable w t } ∷ inside) (record { word = word; meaning = a_variable w t } ∷ all)
unfolding find
alike_more inner outer inside all word v w s t is = record {
  same_inner = λ x. same_none (bytes_eq word x) (a_variable v s) (a_variable w t) (find inner x) (find inside x) (is.same_inner x);
  same_all = λ x. same_function (bytes_eq word x) v w s t (find (inner ++ outer) x) (find all x) (is.same_all x);
}

alike_here : (scope : ℕ) (calls : Calls) (here : Here) → IsKnownIn scope calls here → AreAlike here.names.inner here.names.outer (within scope (bindings calls.locals)) (names_at calls.file.now calls.locals calls.known)
unfolding meaning
alike_here scope calls here is = record { same_inner = is.inner; same_all = is.all }

known_here : (scope : ℕ) (calls : Calls) (here : Here) → scope ≤ length (bindings calls.locals) → AreAlike here.names.inner here.names.outer (within scope (bindings calls.locals)) (names_at calls.file.now calls.locals calls.known) → IsKnownIn scope calls here
unfolding meaning
known_here scope calls here deep is = record { deep = deep; inner = is.same_inner; all = is.same_all }

kept_alike : (inner outer : List Binding) (scope known k : ℕ) (local names : List Binding) (file f : File) → names ≡ local → f ≡ file → k ≡ known → AreAlike inner outer (within scope local) (local ++ file_bindings file known) → AreAlike inner outer (within scope names) (names ++ file_bindings f k)
kept_alike inner outer scope known k local names file f same_names same_file same_known is =
    subst (λ (ns : List Binding). AreAlike inner outer (within scope ns) (ns ++ file_bindings f k)) (sym same_names)
    (subst (λ (g : File). AreAlike inner outer (within scope local) (local ++ file_bindings g k)) (sym same_file)
    (subst (λ n. AreAlike inner outer (within scope local) (local ++ file_bindings file n)) (sym same_known) is))

-- a declared word is known alike
declared_alike : (names : Names) (scope known k : ℕ) (local new : List Binding) (file f : File) (word : List ℕ) (v : Variable) (t : Option VariableType) (mine yours : Option Meaning)
    → find names.inner word ≡ mine → find (within scope local) word ≡ yours → is_none mine ≡ is_none yours
    → scope ≤ length local
    → new ≡ (if is_none yours then named word (V.Local 0) None ∷ local else local) → f ≡ file → k ≡ known
    → AreAlike names.inner names.outer (within scope local) (local ++ file_bindings file known)
    → AreAlike (if is_some mine then names else record { inner = record { word = word; meaning = a_variable v t } ∷ names.inner; outer = names.outer }).inner (if is_some mine then names else record { inner = record { word = word; meaning = a_variable v t } ∷ names.inner; outer = names.outer }).outer (within scope new) (new ++ file_bindings f k)
declared_alike names scope known k local new file f word v t None None at_mine at_yours same deep is_new is_f is_k is =
    kept_alike (record { word = word; meaning = a_variable v t } ∷ names.inner) names.outer scope known k (named word (V.Local 0) None ∷ local) new file f is_new is_f is_k
    (subst (λ ns. AreAlike (record { word = word; meaning = a_variable v t } ∷ names.inner) names.outer ns (named word (V.Local 0) None ∷ local ++ file_bindings file known)) (sym (within_more scope (named word (V.Local 0) None) local deep))
    (alike_more names.inner names.outer (within scope local) (local ++ file_bindings file known) word v (V.Local 0) t None is))
declared_alike names scope known k local new file f word v t None (Some y) at_mine at_yours same deep is_new is_f is_k is = cc
declared_alike names scope known k local new file f word v t (Some x) None at_mine at_yours same deep is_new is_f is_k is = cc
declared_alike names scope known k local new file f word v t (Some x) (Some y) at_mine at_yours same deep is_new is_f is_k is =
    kept_alike names.inner names.outer scope known k local new file f is_new is_f is_k is

longer : (scope : ℕ) (local new : List Binding) (b : Binding) (yours : Option Meaning) → scope ≤ length local → new ≡ (if is_none yours then b ∷ local else local) → (scope ≤ length new) × (around scope new ≡ around scope local)
longer scope local new b None deep is =
    (let more : length new ≡ suc (length local) = ap length is in omega arith, ap (around scope) is ∙ around_more scope b local deep)
longer scope local new b (Some y) deep is = (let more : length new ≡ length local = ap length is in omega arith, ap (around scope) is)

-- a variable that is declared
pub declares : (scope : ℕ) (old new : Calls) (word : List ℕ) (on : Here → Here) (v : Here → Variable) (t : Here → Option VariableType) → Declares scope old new word
    → ((here : Here) → (on here).names ≡ declared here.names word (a_variable (v here) (t here)))
    → Walks scope old new on (λ here. [])
declares scope old new word on v t is behind =
    let long = λ (deep : scope ≤ length (bindings old.locals)). longer scope (bindings old.locals) (bindings new.locals) (named word (V.Local 0) None) (find (within scope (bindings old.locals)) word) deep is.names in
    record {
      called = λ here known. is.called ∙ sym (append-nil old.called.items);
      knows = λ here known. known_here scope new (on here) (long known.deep).0
          (subst (λ (ns : Names). AreAlike ns.inner ns.outer (within scope (bindings new.locals)) (names_at new.file.now new.locals new.known)) (sym (behind here))
          (declared_alike here.names scope old.known new.known (bindings old.locals) (bindings new.locals) old.file.now new.file.now word (v here) (t here) (find here.names.inner word) (find (within scope (bindings old.locals)) word) refl refl (known.inner word) known.deep is.names is.file is.known (alike_here scope old here known)));
      outer = long;
      file = is.file;
      known = is.known;
    }

-- what is added where nothing is declared
pub stays : (scope : ℕ) (old new : Calls) (calls : Here → List Call) → Adds old new calls → Walks scope old new (λ here. here) calls
stays scope old new calls adds = record {
  called = λ here known. adds.called here known.all;
  knows = λ here known. record {
    deep = subst (λ names. scope ≤ length names) (sym adds.names) known.deep;
    inner = λ word. known.inner word ∙ ap (λ names. is_none (find (within scope names) word)) (sym adds.names);
    all = still_known old new calls here adds known.all;
  };
  outer = λ deep. (subst (λ names. scope ≤ length names) (sym adds.names) deep, ap (around scope) adds.names);
  file = adds.file;
  known = adds.known;
}

pub goes_on : (scope : ℕ) (old mid new : Calls) (first second all : Here → List Call) (on next both : Here → Here) → Walks scope old mid on first → Walks scope mid new next second → ((here : Here) → all here ≡ first here ++ second (on here)) → ((here : Here) → both here ≡ next (on here)) → Walks scope old new both all
goes_on scope old mid new first second all on next both a b is is_both = record {
  called = λ here known.
      b.called (on here) (a.knows here known)
      ∙ ap (λ fs. fs ++ functions_of (second (on here))) (a.called here known)
      ∙ append_assoc old.called.items (functions_of (first here)) (functions_of (second (on here)))
      ∙ ap (λ fs. old.called.items ++ fs) (sym (functions-append (first here) (second (on here))))
      ∙ ap (λ cs. old.called.items ++ functions_of cs) (sym (is here));
  knows = λ here known. subst (λ h. IsKnownIn scope new h) (sym (is_both here)) (b.knows (on here) (a.knows here known));
  outer = λ deep. let p = a.outer deep in let q = b.outer p.0 in (q.0, q.1 ∙ p.1);
  file = b.file ∙ a.file;
  known = b.known ∙ a.known;
}

pub same_walk : (scope : ℕ) (old new : Calls) (first all : Here → List Call) (on both : Here → Here) → Walks scope old new on first → ((here : Here) → all here ≡ first here) → ((here : Here) → both here ≡ on here) → Walks scope old new both all
same_walk scope old new first all on both a is is_both = record {
  called = λ here known. a.called here known ∙ ap (λ cs. old.called.items ++ functions_of cs) (sym (is here));
  knows = λ here known. subst (λ h. IsKnownIn scope new h) (sym (is_both here)) (a.knows here known);
  outer = a.outer;
  file = a.file;
  known = a.known;
}

-- at each place one of several walks
pub each_at : {T : Type 0} (scope : ℕ) (old new : Calls) (on : Here → T → Here) (calls : Here → T → List Call) (choice : Here → T) → ((t : T) → Walks scope old new (λ here. on here t) (λ here. calls here t)) → T → Walks scope old new (λ here. on here (choice here)) (λ here. calls here (choice here))
each_at scope old new on calls choice each some = record {
  called = λ here. (each (choice here)).called here;
  knows = λ here. (each (choice here)).knows here;
  outer = (each some).outer;
  file = (each some).file;
  known = (each some).known;
}

-- a scope of its own: behind it the names are those before it
pub scoped : (old mid new : Calls) (on : Here → Here) (calls all : Here → List Call) (inside : Here → Here)
    → Walks (length (bindings old.locals)) old mid on calls
    → bindings new.locals ≡ around (length (bindings old.locals)) (bindings mid.locals)
    → new.called.items ≡ mid.called.items → new.file.now ≡ mid.file.now → new.known ≡ mid.known
    → ((here : Here) → IsKnown old here → IsKnownIn (length (bindings old.locals)) old (inside here))
    → ((here : Here) → all here ≡ calls (inside here))
    → Adds old new all
scoped old mid new on calls all inside walk names called file known opens is = record {
  called = λ here k. called ∙ walk.called (inside here) (opens here k) ∙ ap (λ cs. old.called.items ++ functions_of cs) (sym (is here));
  names = names ∙ (walk.outer (omega arith)).1 ∙ ap (λ n. drop n (bindings old.locals)) (let e : length (bindings old.locals) - length (bindings old.locals) ≡ 0 = omega arith in e);
  file = file ∙ walk.file;
  known = known ∙ walk.known;
}
