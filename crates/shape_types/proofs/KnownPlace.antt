-- The place behind the first declarations of a file, and the program that it is in.
use Rattle.std.proofs.Common.{◌≡◌, ◌↔◌, ℕ, zero, suc, ◌-◌, ◌<◌, Bool, true, false, List, [], ◌∷◌, ◌++◌, get_or, length, Option, Some, None, refl, sym, ap, subst, ◌∙◌, arith}
use Rattle.std.proofs.lemmas.List.{length-map}
use Rattle.std.proofs.lemmas.List.Elements.{All-nil}
use Rattle.std.proofs.lemmas.Option.{same_Some, slice_get-get_or, slice_get-map, slice_get_within}
use Rattle.std.proofs.lemmas.Slice.Eq.{bytes_eq-Decides}
use Rattle.std.specs.List.{All, AllZip}
use Rattle.std.specs.Option.{option_map, option_or}
use Rattle.std.specs.Prelude.{bytes_eq, slice_get, slice_index}
use denote.Bor.{Bor}
use Rattle.call_groups.specs.Called.{AreFunctions, IsFunction}
use Rattle.cstar_tree.specs.declared.syntax.Expr.{Expr}
use Rattle.cstar_tree.specs.declared.syntax.Item.TheVariants as I
use Rattle.cstar_tree.specs.declared.syntax.Tree.{Tree}
use Rattle.cstar_tree.specs.FileScopes.{Known, file_functions, file_known, functions_named}
use Rattle.cstar_tree.specs.Headers.{Leads, Placed, Program}
use Rattle.cstar_tree.specs.Instances.{called_from, function_meant}
use Rattle.cstar_tree.specs.Scopes.{Binding, Here, Meaning, a_function, a_shape, a_variable, extents_of, find, meaning}
use Rattle.file_names.specs.Numbers.{AreApart, StandsAt}
use Rattle.file_names.proofs.Apart.{file_apart}
use Rattle.type_expressions.specs.Instances.{AreHeaders, Grows, IsHeaderOf, met}
use Rattle.type_expressions.specs.Programs.{HasItsCalls, IsFunctionOf}
use Rattle.type_expressions.specs.Walks.{IsAround, IsShape}
use Rattle.type_expressions.specs.declared.found.Instances.{Instances}
use Rattle.type_expressions.proofs.CallsWithin.{beginning_same}
use Rattle.type_scopes.specs.Bindings.{bindings}
use Rattle.type_scopes.specs.FileBindings.{file_bindings, file_meant, file_names, is_known, known_names}
use Rattle.type_scopes.specs.Headers.{group_of}
use Rattle.type_scopes.specs.declared.file.File.{File}
use Rattle.type_scopes.specs.declared.file.FunctionInfo.{FunctionInfo}
use Rattle.type_scopes.specs.declared.locals.Locals.{Locals}
use Rattle.type_scopes.specs.declared.names.FileName.{FileName}
use Rattle.type_scopes.specs.declared.names.FileName.TheVariants as N
use Rattle.type_scopes.specs.declared.names.FileNames.{FileNames}
use Rattle.type_scopes.specs.declared.names.VariableType as Names
use Rattle.type_scopes.specs.declared.sites.Returns.TheVariants as R
use Rattle.type_scopes.specs.declared.sites.Site.{Site}
use Rattle.type_scopes.proofs.FileLemmas.{find_first}
use Rattle.shape_types.specs.FileKnowledge.{groups_in}
use Rattle.shape_types.specs.FileWalk.{Knows, place_in}
use Rattle.shape_types.proofs.FunctionNames.{function_there, functions_are}
use Rattle.shape_types.proofs.KnownNames.{names_known, shape_within, told_of}
use Rattle.shape_types.proofs.NamesFound.{function_alone}
use Rattle.shape_types.proofs.ReadyBodies.{as_many}

names_there : (start : File) (k : Known) (file : File) (n : ℕ) → Knows start k file n → (word : List ℕ) → find (file_bindings file n) word ≡ find (k.names ++ functions_named start.tree.now) word
names_there start k file n knows word =
    names_known start.tree.now file.types.items file.names n knows.first.0 k.names (ap file_names knows.same_names ∙ knows.numbered.names) knows.first.1 knows.as_many (told_of file.types.items k.names knows.kept) word

is_there : (here : Here) (shape : ℕ) → shape < length here.shapes → IsShape here shape
unfolding extents_of
is_there here shape less = (get_or here.shapes shape [], slice_get-get_or here.shapes shape [] less)

-- ---- the place

abbrev pub file_site : ℕ → Site
file_site n = record { current = None; known = n; function = None; returns = R.Unknown; in_loop = false; dot = None; whole = false }

place_around : (start : File) (k : Known) (file : File) (n : ℕ) (locals : Locals) → Knows start k file n → bindings locals ≡ [] → IsAround file locals (file_site n) (place_in start k)
unfolding meaning
place_around start k file n locals knows none = record {
  at_site = record { current = refl; around = refl; dot = refl; whole = refl };
  names = λ word. sym (ap (λ (bs : List Binding). find (bs ++ file_bindings file n) word) none ∙ names_there start k file n knows word);
  shapes = knows.shapes;
  known = record {
    named = λ word shape is. is_there (place_in start k) shape (shape_within start.tree.now k.shapes k.names word (a_shape shape) knows.shaped is);
    of_variable = λ word v t shape is of. is_there (place_in start k) shape (shape_within start.tree.now k.shapes k.names word (a_variable v (Some t)) knows.shaped is shape of);
    current = λ shape is. absurd (cc);
  };
  few = knows.counted;
}

pub around_there : (start : File) (k : Known) (file : File) (n : ℕ) (locals : Locals) (site : Site) → Knows start k file n → bindings locals ≡ [] → site ≡ file_site n → IsAround file locals site (place_in start k)
around_there start k file n locals site knows none is = subst (λ (s : Site). IsAround file locals s (place_in start k)) (sym is) (place_around start k file n locals knows none)

-- ---- the program

-- the functions with what is known in them by now
pub placed_now : File → List FunctionInfo → List Placed → List Placed
placed_now file [] ps = []
placed_now file (i ∷ is) [] = []
placed_now file (i ∷ is) (p ∷ ps) = record { function = p.function; known = file_bindings file i.known } ∷ placed_now file is ps

abbrev functions_now : File → File → List Placed
functions_now start file = placed_now file start.functions.items (file_functions start.tree.now)

abbrev pub program_now : File → File → Instances → Program
program_now start file so_far = record {
  functions = functions_now start file;
  calls = called_from [] (functions_now start file) 0 (functions_now start file);
  instances = met so_far;
}

as_many_now : (tree : Tree) (file : File) (infos : List FunctionInfo) (ps : List Placed) → AllZip (StandsAt tree) infos ps → length (placed_now file infos ps) ≡ length infos
unfolding placed_now
as_many_now tree file [] [] all = refl
as_many_now tree file [] (p ∷ ps) all = absurd all
as_many_now tree file (i ∷ is) [] all = absurd all
as_many_now tree file (i ∷ is) (p ∷ ps) all = ap suc (as_many_now tree file is ps all.1)

as_many_placed : (tree : Tree) (infos : List FunctionInfo) (ps : List Placed) → AllZip (StandsAt tree) infos ps → length infos ≡ length ps
as_many_placed tree [] [] all = refl
as_many_placed tree [] (p ∷ ps) all = absurd all
as_many_placed tree (i ∷ is) [] all = absurd all
as_many_placed tree (i ∷ is) (p ∷ ps) all = ap suc (as_many_placed tree is ps all.1)

record IsPlacedNow (tree : Tree) (file : File) (functions : List Placed) (f : ℕ) (info : FunctionInfo) : Type 0 where
  placed : Placed
  in_program : slice_get functions f ≡ Some placed
  is_item : slice_get tree.items.items info.item ≡ Some (I.Function placed.function)
  known : placed.known ≡ file_bindings file info.known

placed_there : (tree : Tree) (file : File) (infos : List FunctionInfo) (ps : List Placed) (f : ℕ) (info : FunctionInfo) → AllZip (StandsAt tree) infos ps → slice_get infos f ≡ Some info → IsPlacedNow tree file (placed_now file infos ps) f info
unfolding placed_now
placed_there tree file [] ps f info all is = absurd (cc)
placed_there tree file (i ∷ is) [] f info all at_f = absurd all
placed_there tree file (i ∷ is) (p ∷ ps) zero info all at_f =
    let same : i ≡ info = same_Some i info at_f in record {
      placed = record { function = p.function; known = file_bindings file i.known };
      in_program = refl;
      is_item = subst (λ (x : FunctionInfo). slice_get tree.items.items x.item ≡ Some (I.Function p.function)) same all.0.is_item;
      known = ap (λ (x : FunctionInfo). file_bindings file x.known) same;
    }
placed_there tree file (i ∷ is) (p ∷ ps) (suc f) info all at_f =
    let rest = placed_there tree file is ps f info all.1 at_f in
    record { placed = rest.placed; in_program = rest.in_program; is_item = rest.is_item; known = rest.known }

some_there : {A : Type 0} (xs : List A) (k : ℕ) → k < length xs → (x : A) × (slice_get xs k ≡ Some x)
some_there [] k less = absurd (omega (arith, less))
some_there (x ∷ xs) zero less = (x, refl)
some_there (x ∷ xs) (suc k) less = some_there xs k (omega (arith, less))

-- what a name stands for as a function does not hang on the types that are known
same_name_meant : (types others : List (Option Names.VariableType)) (name : FileName) → function_meant (Some (file_meant types name)) ≡ function_meant (Some (file_meant others name))
same_name_meant types others (N.Shape s) = refl
same_name_meant types others (N.Function f) = refl
same_name_meant types others (N.Variable v) = refl

same_meant : (types others : List (Option Names.VariableType)) (n : ℕ) (es : List (List ℕ × FileName)) (word : List ℕ) → function_meant (find (known_names types n es) word) ≡ function_meant (find (known_names others n es) word)
unfolding known_names find
same_meant types others n [] word = refl
same_meant types others n (e ∷ es) word = by (is_known n e.1) refl (bytes_eq e.0 word) refl (same_meant types others (n - 1) es word)
  where
    by : (k : Bool) → is_known n e.1 ≡ k → (b : Bool) → bytes_eq e.0 word ≡ b → function_meant (find (known_names types (n - 1) es) word) ≡ function_meant (find (known_names others (n - 1) es) word)
        → function_meant (find (known_names types n (e ∷ es)) word) ≡ function_meant (find (known_names others n (e ∷ es)) word)
    by true is true same rest = rw (is, same) (same_name_meant types others e.1)
    by true is false other rest = rw (is, other) rest
    by false is b same rest = rw is rest

known_function : (m : Option Meaning) (f : ℕ) → function_alone m ≡ Some (a_function f) → m ≡ Some (a_function f)
known_function None f is = absurd (cc)
known_function (Some (a_shape s)) f is = absurd (cc)
known_function (Some (a_function g)) f is = is
known_function (Some (a_variable v t)) f is = absurd (cc)

-- a name that is known stands for the same among all
apart_kept : (later known : List Binding) (word : List ℕ) (m : Meaning) → AreApart (later ++ known) → find known word ≡ Some m → find (later ++ known) word ≡ Some m
unfolding AreApart find
apart_kept [] known word m apart is = is
apart_kept (b ∷ later) known word m apart is = by (bytes_eq b.word word) refl (apart_kept later known word m apart.1 is)
  where
    by : (e : Bool) → bytes_eq b.word word ≡ e → find (later ++ known) word ≡ Some m → find (b ∷ later ++ known) word ≡ Some m
    by true e there =
        let none : find (later ++ known) word ≡ None = subst (λ (w : List ℕ). find (later ++ known) w ≡ None) ((bytes_eq-Decides b.word word).0 e) apart.0 in
        absurd (let k = sym none ∙ there in cc)
    by false e there = rw e there

module _ (start : File) (k : Known) (file : File) (n : ℕ) (knows : Knows start k file n) (so_far : Instances) where
  abbrev tree : Tree
  tree = start.tree.now

  in_all : (word : List ℕ) (f : ℕ) → find (k.names ++ functions_named tree) word ≡ Some (a_function f) → find (file_known tree).names word ≡ Some (a_function f)
  in_all word f is = by (find k.names word) refl
    where
      by : (m : Option Meaning) → find k.names word ≡ m → find (file_known tree).names word ≡ Some (a_function f)
      by (Some m) there =
          let same : Some m ≡ Some (a_function f) = sym (find_first k.names (functions_named tree) word ∙ ap (λ (o : Option Meaning). option_or o (find (functions_named tree) word)) there) ∙ is in
          let all = apart_kept knows.first.0 k.names word m (subst AreApart knows.first.1 (file_apart tree)) there in
          ap (λ (bs : List Binding). find bs word) knows.first.1 ∙ all ∙ same
      by None none =
          let there = sym (find_first k.names (functions_named tree) word ∙ ap (λ (o : Option Meaning). option_or o (find (functions_named tree) word)) none) ∙ is in
          known_function (find (file_known tree).names word) f (sym (functions_are tree word) ∙ there)

  function_now : (f : ℕ) → f < length start.functions.items → IsFunctionOf file (program_now start file so_far) f
  function_now f less =
      let info = some_there start.functions.items f less in
      let p = placed_there tree file start.functions.items (file_functions tree) f info.0 knows.numbered.functions info.1 in
      record {
        placed = p.placed;
        in_program = p.in_program;
        in_file = record {
          info = info.0;
          is_listed = ap (λ fs. slice_get fs.items f) knows.same_functions ∙ info.1;
          is_item = ap (λ (t : Bor Tree). slice_get t.now.items.items info.0.item) knows.tree ∙ p.is_item;
          known = λ word. ap (λ (bs : List Binding). find bs word) p.known;
        };
      }

  are_functions : AreFunctions start (functions_now start file)
  are_functions = record {
    count = as_many_now tree file start.functions.items (file_functions tree) knows.numbered.functions;
    each = λ f placed is.
        let less = slice_get_within (functions_now start file) f placed is in
        let many = as_many_now tree file start.functions.items (file_functions tree) knows.numbered.functions in
        let info = some_there start.functions.items f (omega (arith, less, many)) in
        let p = placed_there tree file start.functions.items (file_functions tree) f info.0 knows.numbered.functions info.1 in
        let same : p.placed ≡ placed = same_Some p.placed placed (sym p.in_program ∙ is) in
        subst (IsFunction start f) same (record {
          info = info.0;
          is_listed = info.1;
          is_item = p.is_item;
          known = λ word.
              ap (λ (bs : List Binding). function_meant (find bs word)) p.known
              ∙ (same_meant file.types.items start.types.items info.0.known (file_names file.names) word
              ∙ ap (λ (names : FileNames). function_meant (find (known_names start.types.items info.0.known (file_names names)) word)) knows.same_names);
        });
  }

  group_is : (f : ℕ) → f < length start.functions.items → group_of file f ≡ Some (slice_index (groups_in start.functions.items) f)
  group_is f less =
      ap (λ fs. option_map (λ (info : FunctionInfo). info.group) (slice_get fs.items f)) knows.same_functions
      ∙ (sym (slice_get-map (λ (info : FunctionInfo). info.group) start.functions.items f)
      ∙ slice_get-get_or (groups_in start.functions.items) f 0 (let many = length-map start.functions.items (λ (info : FunctionInfo). info.group) in omega (arith, less, many)))

  groups_now : (f g : ℕ) → f < length start.functions.items → g < length start.functions.items
      → (group_of file f ≡ group_of file g) ↔ (Leads (program_now start file so_far).calls f g × Leads (program_now start file so_far).calls g f)
  groups_now f g less_f less_g =
      let size = as_many [] (functions_now start file) 0 (functions_now start file) in
      let many = as_many_now tree file start.functions.items (file_functions tree) knows.numbered.functions in
      let are = knows.numbered.groups (functions_now start file) [] are_functions f g (omega (arith, less_f, size, many)) (omega (arith, less_g, size, many)) in (
        λ same. are.0 (same_Some (slice_index (groups_in start.functions.items) f) (slice_index (groups_in start.functions.items) g) (sym (group_is f less_f) ∙ (same ∙ group_is g less_g))),
        λ lead. group_is f less_f ∙ (ap (λ (m : ℕ). Some m) (are.1 lead) ∙ sym (group_is g less_g)),
      )

  within_of : (f : ℕ) → IsFunctionOf file (program_now start file so_far) f → f < length start.functions.items
  within_of f is =
      let less = slice_get_within (functions_now start file) f is.placed is.in_program in
      let many = as_many_now tree file start.functions.items (file_functions tree) knows.numbered.functions in
      omega (arith, less, many)

  pub calls_there : (e : Expr) → AreHeaders file so_far → HasItsCalls so_far file (program_now start file so_far) (place_in start k) e
  unfolding meaning
  calls_there e headers = record {
    of_file = record {
      named = λ word f is.
          let less = function_there tree word f (in_all word f is) in
          let many = as_many_placed tree start.functions.items (file_functions tree) knows.numbered.functions in
          function_now f (omega (arith, less, many));
      around = λ f is. absurd (cc);
      groups = λ f g is_f is_g. groups_now f g (within_of f is_f) (within_of g is_g);
      instances = beginning_same refl;
      headers = headers;
    };
    place = place_in start k;
    names = λ word. refl;
    called = λ f c is has. absurd (cc);
  }

-- what is kept since nothing was is of the file
pub headers_since : (file : File) (old new : Instances) → old.headers.entries ≡ [] → Grows file old new → AreHeaders file new
headers_since file old new none grows = grows.headers.0 (subst (λ es. All (λ kept. IsHeaderOf file kept.0 kept.1) es) (sym none) (All-nil _))
