-- One declaration more: what is known behind it, and that it is typed as the rules say.
use Rattle.std.proofs.Common.{◌≡◌, ℕ, pos, zero, suc, ◌+◌, ◌-◌, ◌<◌, ◌≤◌, ◌^◌, Bool, true, false, List, [], ◌∷◌, ◌++◌, append_assoc, drop, get_or, length, length-append, map, take, Option, Some, None, Vec, is_some, refl, sym, ap, subst, ◌∙◌, arith, if◌then◌else◌}
use Rattle.std.proofs.lemmas.List.{append-nil, map_push, take-append-drop, take_all, take_more}
use Rattle.std.proofs.lemmas.List.Elements.{All-cons, All-nil, All-push, All-weaker}
use Rattle.std.proofs.lemmas.Bool.{le-leb}
use Rattle.std.specs.Int.{from_bool}
use Rattle.std.specs.List.{All}
use Rattle.std.specs.Option.{option_flatten}
use Rattle.std.specs.Prelude.{min, slice_get}
use Rattle.std.specs.declared.alloc.Global.{Global}
use Rattle.constant_trees.proofs.Bringing.{both_true}
use Rattle.constant_trees.specs.Words.{IsCounted}
use Rattle.cstar_base.specs.declared.elem.Elem.{Elem}
use Rattle.cstar_tree.specs.declared.syntax.Declarator.{Declarator}
use Rattle.cstar_tree.specs.declared.syntax.Expr.{Expr}
use Rattle.cstar_tree.specs.declared.syntax.Function.{Function}
use Rattle.cstar_tree.specs.declared.syntax.ShapeDefinition.{ShapeDefinition}
use Rattle.cstar_tree.specs.declared.typed.ShapeInfo.{ShapeInfo}
use Rattle.cstar_tree.specs.declared.typed.ValueType.{ValueType}
use Rattle.cstar_tree.specs.declared.typed.VarInfo.{VarInfo}
use Rattle.cstar_tree.specs.declared.typed.Variable.TheVariants as V
use Rattle.cstar_tree.specs.BlockScopes.{declared_type}
use Rattle.cstar_tree.specs.Constants.{constant_number, product}
use Rattle.cstar_tree.specs.FileScopes.{Known, behind_function, behind_shape, behind_shapes, behind_variable, behind_variables, bounded, defined_extents, extent_of, extents_from, file_known, file_place, functions_named, kept_extent, kept_extents}
use Rattle.cstar_tree.specs.ProgramTypes.{Starts, TypesShapes, TypesVariables}
use Rattle.cstar_tree.specs.ProgramTypes as Y
use Rattle.cstar_tree.specs.Scopes.{Binding, Here, Meaning, a_function, a_shape, a_variable, find}
use Rattle.cstar_tree.specs.StatementTypes.{variable_info}
use Rattle.file_names.proofs.Items.{Grows, shapes_grow, variables_grow}
use Rattle.file_names.proofs.Steps.{shapes_more, variables_more}
use Rattle.type_scopes.specs.Bindings.{type_meant, variable_type}
use Rattle.type_scopes.specs.declared.file.File.{File}
use Rattle.type_scopes.specs.declared.names.VariableType as Names
use Rattle.shape_types.specs.FileKnowledge.{IsOfShapes}
use Rattle.shape_types.specs.FileWalk.{AreDefined, AreFirst, AreVariables, HasItsType, IsDefined, IsKept, IsOfSome, Knows, place_in}
use Rattle.shape_types.proofs.FunctionNames.{function_behind}

-- ---- which names are first

pub first_before : {a b : Known} (all : List Binding) → Grows a b → AreFirst b.names all → AreFirst a.names all
first_before {a = a} all g first = (first.0 ++ g.new, first.1 ∙ (ap (λ (bs : List Binding). first.0 ++ bs) g.names ∙ sym (append_assoc first.0 g.new a.names)))

pub shapes_first : (functions : List Binding) (k : Known) (shapes : List ShapeDefinition) (i : ℕ) (all : List Binding) → AreFirst (behind_shapes functions k shapes).names all → AreFirst (behind_shapes functions k (take i shapes)).names all
shapes_first functions k shapes i all first =
    let whole = ap (behind_shapes functions k) (sym (take-append-drop i shapes)) ∙ shapes_more functions k (take i shapes) (drop i shapes) in
    first_before all (subst (Grows (behind_shapes functions k (take i shapes))) (sym whole) (shapes_grow functions (behind_shapes functions k (take i shapes)) (drop i shapes))) first

pub variables_first : (functions : List Binding) (ty : Option ValueType) (k : Known) (ds : List Declarator) (i : ℕ) (all : List Binding) → AreFirst (behind_variables functions ty k ds).names all → AreFirst (behind_variables functions ty k (take i ds)).names all
variables_first functions ty k ds i all first =
    let whole = ap (behind_variables functions ty k) (sym (take-append-drop i ds)) ∙ variables_more functions ty k (take i ds) (drop i ds) in
    first_before all (subst (Grows (behind_variables functions ty k (take i ds))) (sym whole) (variables_grow functions ty (behind_variables functions ty k (take i ds)) (drop i ds))) first

-- a name more is counted
counted_more : (count more : ℕ) (known all : List Binding) (b : Binding) → more ≡ min (count + from_bool true) (2 ^ 64 - 1) → count ≡ length known → AreFirst (b ∷ known) all → length all < 2 ^ 32 → more ≡ length (b ∷ known)
counted_more count more known all b is counted first few =
    let long : length all ≡ length first.0 + length (b ∷ known) = ap length first.1 ∙ length-append first.0 (b ∷ known) in
    omega (arith, is, counted, long, few)

-- ---- shapes

-- the numbers of extents, as they are kept
pub record AreExtents (here : Here) (es : List Expr) (ns : List ℕ) : Type 0 where
  pub from : extents_from here es ≡ Some ns
  pub kept : kept_extents here es ≡ ns
  pub each : All (λ n. n < 2 ^ 32) ns

pub no_extents : (here : Here) → AreExtents here [] []
unfolding extents_from kept_extents
no_extents here = record { from = refl; kept = refl; each = All-nil (λ n. n < 2 ^ 32) }

from_more : (here : Here) (es : List Expr) (ns : List ℕ) (e : Expr) (m : ℕ) → extents_from here es ≡ Some ns → extent_of (constant_number here e) ≡ Some m → extents_from here (es ++ e ∷ []) ≡ Some (ns ++ m ∷ [])
unfolding extents_from
from_more here [] ns e m is next =
    let none : [] ≡ ns = cc in
    rw next (ap (λ (l : List ℕ). Some (l ++ m ∷ [])) none)
from_more here (x ∷ es) ns e m is next = by (extent_of (constant_number here x)) refl (extents_from here es) refl (λ rest g. from_more here es rest e m g next)
  where
    by : (o : Option ℕ) → extent_of (constant_number here x) ≡ o → (rest : Option (List ℕ)) → extents_from here es ≡ rest
        → ((rest : List ℕ) → extents_from here es ≡ Some rest → extents_from here (es ++ e ∷ []) ≡ Some (rest ++ m ∷ []))
        → extents_from here (x ∷ es ++ e ∷ []) ≡ Some (ns ++ m ∷ [])
    by None f rest g further = let no : None ≡ Some ns = rw f at is in absurd (cc)
    by (Some n) f None g further = let no : None ≡ Some ns = rw (f, g) at is in absurd (cc)
    by (Some n) f (Some rest) g further =
        let whole : Some (n ∷ rest) ≡ Some ns = rw (f, g) at is in
        let all : n ∷ rest ≡ ns = cc in
        rw (f, further rest g) (ap (λ (l : List ℕ). Some (l ++ m ∷ [])) all)

kept_more : (here : Here) (es : List Expr) (e : Expr) (m : ℕ) → kept_extents here (e ∷ []) ≡ m ∷ [] → kept_extents here (es ++ e ∷ []) ≡ kept_extents here es ++ m ∷ []
unfolding kept_extents
kept_more here [] e m is = is
kept_more here (x ∷ es) e m is = ap (λ (l : List ℕ). kept_extent (constant_number here x) ∷ l) (kept_more here es e m is)

one_kept : (here : Here) (e : Expr) (m : ℕ) → constant_number here e ≡ Some (pos (suc m)) → kept_extents here (e ∷ []) ≡ suc m ∷ []
unfolding kept_extents
one_kept here e m is = rw is refl

pub extent_more : (here : Here) (es : List Expr) (ns : List ℕ) (e : Expr) (m : ℕ) → AreExtents here es ns → constant_number here e ≡ Some (pos (suc m)) → suc m < 2 ^ 32 → AreExtents here (es ++ e ∷ []) (ns ++ suc m ∷ [])
extent_more here es ns e m are is few = record {
  from = from_more here es ns e (suc m) are.from (ap extent_of is);
  kept = kept_more here es e (suc m) (one_kept here e m is) ∙ ap (λ (l : List ℕ). l ++ suc m ∷ []) are.kept;
  each = All-push (λ n. n < 2 ^ 32) ns (suc m) are.each few;
}

pub shape_is_defined : (here : Here) (s : ShapeDefinition) (info : ShapeInfo) → info.name ≡ s.name.word → AreExtents here s.extents.items info.extents.items → length info.extents.items ≤ 4 → product info.extents.items ≤ 2 ^ 20 → IsDefined here s info
unfolding defined_extents
shape_is_defined here s info name are short small = record {
  name = name;
  extents = ap bounded are.from ∙ ap (λ (b : Bool). if b then Some info.extents.items else None) (both_true _ _ (le-leb (length info.extents.items) 4 short) (le-leb (product info.extents.items) (2 ^ 20) small));
  kept = are.kept;
  counted = record { positions = omega (arith, small); rank = omega (arith, short); each = are.each };
}

shape_behind : (functions : List Binding) (k : Known) (s : ShapeDefinition) → find k.names s.name.word ≡ None → behind_shape functions k s ≡ record {
  names = record { word = s.name.word; meaning = a_shape (length k.shapes) } ∷ k.names;
  shapes = k.shapes ++ kept_extents (file_place functions k) s.extents.items ∷ [];
  variables = k.variables;
  functions = k.functions;
}
unfolding behind_shape
shape_behind functions k s new = rw new refl

of_more_shapes : (shapes : List (List ℕ)) (extents : List ℕ) (m : Meaning) → IsOfShapes shapes m → IsOfShapes (shapes ++ extents ∷ []) m
of_more_shapes shapes extents (a_shape s) is = omega (arith, is, length-append shapes (extents ∷ []))
of_more_shapes shapes extents (a_function f) is = tt
of_more_shapes shapes extents (a_variable v None) is = tt
of_more_shapes shapes extents (a_variable v (Some t)) is = λ shape of. let less = is shape of in omega (arith, less, length-append shapes (extents ∷ []))

pub shape_known : (start : File) (k : Known) (file : File) (count more : ℕ) (s : ShapeDefinition) (info : ShapeInfo) (shapes : Vec ShapeInfo Global)
    → Knows start k file count → find k.names s.name.word ≡ None → IsDefined (place_in start k) s info → AreFirst (behind_shape (functions_named start.tree.now) k s).names (file_known start.tree.now).names
    → shapes.items ≡ file.shapes.items ++ info ∷ [] → more ≡ min (count + from_bool true) (2 ^ 64 - 1) → Knows start (behind_shape (functions_named start.tree.now) k s) (record file { shapes = shapes }) more
shape_known start k file count more s info shapes knows new is first pushed counted =
    let functions = functions_named start.tree.now in
    let b : Binding = record { word = s.name.word; meaning = a_shape (length k.shapes) } in
    let behind = shape_behind functions k s new in
    let extents = kept_extents (place_in start k) s.extents.items in
    let own : AreFirst (b ∷ k.names) (file_known start.tree.now).names = subst (λ (x : Known). AreFirst x.names (file_known start.tree.now).names) behind first in
    rw behind (record {
      numbered = knows.numbered;
      few = knows.few;
      tree = knows.tree;
      same_names = knows.same_names;
      same_functions = knows.same_functions;
      first = own;
      as_many = counted_more count more k.names (file_known start.tree.now).names b counted knows.as_many own knows.few.all;
      shapes = ap (λ (x : List ℕ). k.shapes ++ x ∷ []) is.kept ∙ (ap (λ (xs : List (List ℕ)). xs ++ info.extents.items ∷ []) knows.shapes ∙ (sym (map_push (λ (i : ShapeInfo). i.extents.items) file.shapes.items info) ∙ ap (map (λ (i : ShapeInfo). i.extents.items)) (sym pushed)));
      counted = All-push IsCounted k.shapes extents knows.counted (subst IsCounted (sym is.kept) is.counted);
      types = knows.types;
      kept = All-cons (λ (c : Binding). IsKept file.types.items c.meaning) b k.names tt knows.kept;
      shaped = All-cons (λ (c : Binding). IsOfShapes (k.shapes ++ extents ∷ []) c.meaning) b k.names (omega (arith, length-append k.shapes (extents ∷ [])))
          (All-weaker (λ (c : Binding). IsOfShapes k.shapes c.meaning) (λ (c : Binding). IsOfShapes (k.shapes ++ extents ∷ []) c.meaning) (λ c of. of_more_shapes k.shapes extents c.meaning of) k.names knows.shaped);
    })

shapes_behind : {functions : List Binding} {k : Known} {ss : List ShapeDefinition} {infos : List ShapeInfo} (s : ShapeDefinition) (info : ShapeInfo) → TypesShapes functions k ss infos → info.name ≡ s.name.word → defined_extents (file_place functions (behind_shapes functions k ss)) s ≡ Some info.extents.items → TypesShapes functions k (ss ++ s ∷ []) (infos ++ info ∷ [])
unfolding behind_shapes
shapes_behind s info Y.no_shape name is = Y.next_shape name is Y.no_shape
shapes_behind s info (Y.next_shape n i rest) name is = Y.next_shape n i (shapes_behind s info rest name is)

pub none_defined : (start : File) (k : Known) (file : File) (count : ℕ) (definitions : List ShapeDefinition) → Knows start k file count → AreDefined start k (take 0 definitions) file.shapes.items file count
unfolding behind_shapes
none_defined start k file count definitions knows = record { own = []; behind = sym (append-nil file.shapes.items); typed = Y.no_shape; knows = knows }

pub shape_more : (start : File) (k : Known) (file : File) (count more i : ℕ) (definitions : List ShapeDefinition) (before : List ShapeInfo) (s : ShapeDefinition) (info : ShapeInfo) (shapes : Vec ShapeInfo Global)
    → AreDefined start k (take i definitions) before file count → i < length definitions → s ≡ get_or definitions i s → find (behind_shapes (functions_named start.tree.now) k (take i definitions)).names s.name.word ≡ None
    → IsDefined (place_in start (behind_shapes (functions_named start.tree.now) k (take i definitions))) s info → AreFirst (behind_shapes (functions_named start.tree.now) k definitions).names (file_known start.tree.now).names
    → shapes.items ≡ file.shapes.items ++ info ∷ [] → more ≡ min (count + from_bool true) (2 ^ 64 - 1) → AreDefined start k (take (i + 1) definitions) before (record file { shapes = shapes }) more
unfolding behind_shapes
shape_more start k file count more i definitions before s info shapes are within s_is new is first pushed counted =
    let functions = functions_named start.tree.now in
    let there = behind_shapes functions k (take i definitions) in
    let one : take (i + 1) definitions ≡ take i definitions ++ s ∷ [] = take_more definitions i s within ∙ ap (λ (x : ShapeDefinition). take i definitions ++ x ∷ []) (sym s_is) in
    let behind : behind_shapes functions k (take i definitions ++ s ∷ []) ≡ behind_shape functions there s = shapes_more functions k (take i definitions) (s ∷ []) in
    let own = shapes_first functions k definitions (i + 1) (file_known start.tree.now).names first in
    let first_there : AreFirst (behind_shape functions there s).names (file_known start.tree.now).names = subst (λ (x : Known). AreFirst x.names (file_known start.tree.now).names) (ap (behind_shapes functions k) one ∙ behind) own in
    rw one (record {
      own = are.own ++ info ∷ [];
      behind = pushed ∙ (ap (λ (xs : List ShapeInfo). xs ++ info ∷ []) are.behind ∙ append_assoc before are.own (info ∷ []));
      typed = shapes_behind s info are.typed is.name is.extents;
      knows = subst (λ (x : Known). Knows start x (record file { shapes = shapes }) more) (sym behind) (shape_known start there file count more s info shapes are.knows new is first_there pushed counted);
    })

pub all_defined : (start : File) (k : Known) (file : File) (count i : ℕ) (definitions : List ShapeDefinition) (before : List ShapeInfo) → length definitions ≤ i → AreDefined start k (take i definitions) before file count → AreDefined start k definitions before file count
all_defined start k file count i definitions before all are = subst (λ (ds : List ShapeDefinition). AreDefined start k ds before file count) (take_all i definitions all) are

-- ---- variables

variable_behind : (functions : List Binding) (ty : Option ValueType) (k : Known) (d : Declarator) → find k.names d.name.word ≡ None → behind_variable functions ty k d ≡ record {
  names = record { word = d.name.word; meaning = a_variable (V.File k.variables) (declared_type (file_place functions k) ty d.length) } ∷ k.names;
  shapes = k.shapes;
  variables = k.variables + 1;
  functions = k.functions;
}
unfolding behind_variable
variable_behind functions ty k d new = rw new refl

pub variables_shapes : (functions : List Binding) (ty : Option ValueType) (k : Known) (ds : List Declarator) → (behind_variables functions ty k ds).shapes ≡ k.shapes
unfolding behind_variables behind_variable
variables_shapes functions ty k [] = refl
variables_shapes functions ty k (d ∷ ds) = variables_shapes functions ty (behind_variable functions ty k d) ds ∙ by (is_some (find k.names d.name.word)) refl
  where
    by : (b : Bool) → is_some (find k.names d.name.word) ≡ b → (behind_variable functions ty k d).shapes ≡ k.shapes
    by true e = rw e refl
    by false e = rw e refl

at_end : (types : List (Option Names.VariableType)) (t : Option Names.VariableType) → slice_get (types ++ t ∷ []) (length types) ≡ Some t
at_end [] t = refl
at_end (x ∷ types) t = at_end types t

still_there : (types : List (Option Names.VariableType)) (t : Option Names.VariableType) (v : ℕ) → v < length types → slice_get (types ++ t ∷ []) v ≡ slice_get types v
still_there [] t v less = absurd (omega (arith, less))
still_there (x ∷ types) t zero less = refl
still_there (x ∷ types) t (suc v) less = still_there types t v (omega (arith, less))

kept_more_types : (types : List (Option Names.VariableType)) (t : Option Names.VariableType) (m : Meaning) → IsKept types m → IsKept (types ++ t ∷ []) m
kept_more_types types t (a_shape s) is = tt
kept_more_types types t (a_function f) is = tt
kept_more_types types t (a_variable (V.File v) ty) is = (
  (let less = is.0 in omega (arith, less, length-append types (t ∷ []))),
  ap (λ (o : Option (Option Names.VariableType)). type_meant (option_flatten o)) (still_there types t v is.0) ∙ is.1,
)
kept_more_types types t (a_variable (V.Param v) ty) is = absurd is
kept_more_types types t (a_variable (V.Local v) ty) is = absurd is

pub variable_known : (start : File) (k : Known) (file : File) (count more : ℕ) (of : ValueType) (d : Declarator) (found : Option Names.VariableType) (types : Vec (Option Names.VariableType) Global)
    → Knows start k file count → find k.names d.name.word ≡ None → HasItsType (place_in start k) of d found → IsOfSome k.shapes of → AreFirst (behind_variable (functions_named start.tree.now) (Some of) k d).names (file_known start.tree.now).names
    → types.items ≡ file.types.items ++ found ∷ [] → more ≡ min (count + from_bool true) (2 ^ 64 - 1) → Knows start (behind_variable (functions_named start.tree.now) (Some of) k d) (record file { types = types }) more
variable_known start k file count more of d found types knows new is of_shape first pushed counted =
    let functions = functions_named start.tree.now in
    let declared = declared_type (place_in start k) (Some of) d.length in
    let b : Binding = record { word = d.name.word; meaning = a_variable (V.File k.variables) declared } in
    let behind = variable_behind functions (Some of) k d new in
    let own : AreFirst (b ∷ k.names) (file_known start.tree.now).names = subst (λ (x : Known). AreFirst x.names (file_known start.tree.now).names) behind first in
    let size : length types.items ≡ length file.types.items + 1 = ap length pushed ∙ length-append file.types.items (found ∷ []) in
    let own_type : slice_get types.items k.variables ≡ Some found = ap (λ (ts : List (Option Names.VariableType)). slice_get ts k.variables) pushed ∙ (ap (slice_get (file.types.items ++ found ∷ [])) knows.types ∙ at_end file.types.items found) in
    let same : declared ≡ Some (variable_type is.of) = is.declared ∙ ap type_meant is.is_found in
    rw behind (record {
      numbered = knows.numbered;
      few = knows.few;
      tree = knows.tree;
      same_names = knows.same_names;
      same_functions = knows.same_functions;
      first = own;
      as_many = counted_more count more k.names (file_known start.tree.now).names b counted knows.as_many own knows.few.all;
      shapes = knows.shapes;
      counted = knows.counted;
      types = let before = knows.types in omega (arith, before, size);
      kept = All-cons (λ (c : Binding). IsKept types.items c.meaning) b k.names
          ((let before = knows.types in omega (arith, before, size)), ap (λ (o : Option (Option Names.VariableType)). type_meant (option_flatten o)) own_type ∙ sym is.declared)
          (subst (λ (ts : List (Option Names.VariableType)). All (λ (c : Binding). IsKept ts c.meaning) k.names) (sym pushed)
          (All-weaker (λ (c : Binding). IsKept file.types.items c.meaning) (λ (c : Binding). IsKept (file.types.items ++ found ∷ []) c.meaning) (λ c kept. kept_more_types file.types.items found c.meaning kept) k.names knows.kept));
      shaped = All-cons (λ (c : Binding). IsOfShapes k.shapes c.meaning) b k.names
          (subst (λ t. IsOfShapes k.shapes (a_variable (V.File k.variables) t)) (sym same) (λ shape shape_is. of_shape shape (sym (ap (λ (t : ValueType). t.shape) is.value) ∙ shape_is)))
          knows.shaped;
    })

pub one_variable : (start : File) (k : Known) (of : ValueType) (d : Declarator) (found : Option Names.VariableType) (elem : Elem) (word : ℕ) (ty : Names.VariableType) (before : List VarInfo) (info : VarInfo) (vars : List VarInfo)
    → find k.names d.name.word ≡ None → HasItsType (place_in start k) of d found → found ≡ Some ty → Starts (place_in start (behind_variable (functions_named start.tree.now) (Some of) k d)) ty.elem d.initial word
    → info ≡ variable_info d.name.word (variable_type ty) word → vars ≡ before ++ info ∷ [] → AreVariables start k of (d ∷ []) before vars
unfolding behind_variables
one_variable start k of d found elem word ty before info vars new is found_is starts info_is pushed = record {
  own = variable_info d.name.word (variable_type ty) word ∷ [];
  behind = pushed ∙ ap (λ (i : VarInfo). before ++ i ∷ []) info_is;
  typed = Y.next_variable (is.declared ∙ ap type_meant found_is) (is.declarable (variable_type ty) (ap type_meant found_is)) starts Y.no_variable;
  new = ap (λ (x : Known). x.variables) (variable_behind (functions_named start.tree.now) (Some of) k d new);
}

variables_behind : {functions : List Binding} {ty : ValueType} {k : Known} {ds : List Declarator} {vars : List VarInfo} (es : List Declarator) (more : List VarInfo) → TypesVariables functions ty k ds vars → TypesVariables functions ty (behind_variables functions (Some ty) k ds) es more → TypesVariables functions ty k (ds ++ es) (vars ++ more)
unfolding behind_variables
variables_behind es more Y.no_variable typed = typed
variables_behind es more (Y.next_variable declared allowed starts rest) typed = Y.next_variable declared allowed starts (variables_behind es more rest typed)

pub none_declared : (start : File) (k : Known) (of : ValueType) (ds : List Declarator) (before : List VarInfo) → AreVariables start k of (take 0 ds) before before
unfolding behind_variables
none_declared start k of ds before = record { own = []; behind = sym (append-nil before); typed = Y.no_variable; new = omega arith }

module _ (functions : List Binding) (ty : Option ValueType) (k : Known) (ds : List Declarator) (i : ℕ) (d : Declarator) (within : i < length ds) (is : d ≡ get_or ds i d) where
  pub one_taken : take (i + 1) ds ≡ take i ds ++ d ∷ []
  one_taken = take_more ds i d within ∙ ap (λ (x : Declarator). take i ds ++ x ∷ []) (sym is)

  pub next_behind : behind_variables functions ty k (take (i + 1) ds) ≡ behind_variable functions ty (behind_variables functions ty k (take i ds)) d
  unfolding behind_variables
  next_behind = ap (behind_variables functions ty k) one_taken ∙ variables_more functions ty k (take i ds) (d ∷ [])

pub variable_more : (start : File) (k : Known) (of : ValueType) (i : ℕ) (ds : List Declarator) (d : Declarator) (before middle vars : List VarInfo) → i < length ds → d ≡ get_or ds i d → AreVariables start k of (take i ds) before middle
    → AreVariables start (behind_variables (functions_named start.tree.now) (Some of) k (take i ds)) of (d ∷ []) middle vars → AreVariables start k of (take (i + 1) ds) before vars
variable_more start k of i ds d before middle vars within d_is are one =
    rw (one_taken (functions_named start.tree.now) (Some of) k ds i d within d_is) (record {
      own = are.own ++ one.own;
      behind = one.behind ∙ (ap (λ (xs : List VarInfo). xs ++ one.own) are.behind ∙ append_assoc before are.own one.own);
      typed = variables_behind (d ∷ []) one.own are.typed one.typed;
      new =
          let functions = functions_named start.tree.now in
          let behind = ap (λ (x : Known). x.variables) (variables_more functions (Some of) k (take i ds) (d ∷ [])) in
          let first = are.new in
          let next = one.new in
          let long = length-append are.own one.own in
          omega (arith, behind, first, next, long);
    })

-- ---- functions

pub function_known : (start : File) (k : Known) (file : File) (count more : ℕ) (f : Function) → Knows start k file count → find k.names f.name.word ≡ None → AreFirst (behind_function k f).names (file_known start.tree.now).names
    → more ≡ min (count + from_bool true) (2 ^ 64 - 1) → Knows start (behind_function k f) file more
function_known start k file count more f knows new first counted =
    let b : Binding = record { word = f.name.word; meaning = a_function k.functions } in
    let behind = function_behind k f new in
    let own : AreFirst (b ∷ k.names) (file_known start.tree.now).names = subst (λ (x : Known). AreFirst x.names (file_known start.tree.now).names) behind first in
    rw behind (record {
      numbered = knows.numbered;
      few = knows.few;
      tree = knows.tree;
      same_names = knows.same_names;
      same_functions = knows.same_functions;
      first = own;
      as_many = counted_more count more k.names (file_known start.tree.now).names b counted knows.as_many own knows.few.all;
      shapes = knows.shapes;
      counted = knows.counted;
      types = knows.types;
      kept = All-cons (λ (c : Binding). IsKept file.types.items c.meaning) b k.names tt knows.kept;
      shaped = All-cons (λ (c : Binding). IsOfShapes k.shapes c.meaning) b k.names tt knows.shaped;
    })
