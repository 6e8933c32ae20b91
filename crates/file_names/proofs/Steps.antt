-- One name more.
use Rattle.std.proofs.Common.{◌≡◌, ℕ, ◌+◌, ◌-◌, ◌^◌, ◌<◌, Bool, true, false, ◌||◌, List, [], ◌∷◌, ◌++◌, length, length-append, map, Option, Some, None, is_some, refl, sym, ap, subst, ◌∙◌, arith, add-one, get_or, take}
use Rattle.std.proofs.lemmas.List.{map-append, reverse-append, take_more}
use Rattle.std.specs.Prelude.{bytes_eq, is_none, min, reverse, if◌then◌else◌}
use Rattle.std.specs.Bool.{then_some}
use Rattle.std.specs.Int.{from_bool}
use Rattle.cstar_tree.specs.declared.syntax.Declarator.{Declarator}
use Rattle.cstar_tree.specs.declared.syntax.Function.{Function}
use Rattle.cstar_tree.specs.declared.syntax.ShapeDefinition.{ShapeDefinition}
use Rattle.cstar_tree.specs.declared.typed.ValueType.{ValueType}
use Rattle.cstar_tree.specs.BlockScopes.{declared_type}
use Rattle.cstar_tree.specs.declared.typed.Variable.TheVariants as V
use Rattle.cstar_tree.specs.FileScopes.{Known, behind_function, behind_shape, behind_shapes, behind_variable, behind_variables, file_place, kept_extents, with_name}
use Rattle.cstar_tree.specs.Scopes.{Binding, Meaning, VariableType, a_function, a_shape, a_variable, find}
use Rattle.type_scopes.specs.declared.names.FileName.{FileName}
use Rattle.type_scopes.specs.declared.names.FileName.TheVariants as N
use Rattle.type_scopes.specs.FileBindings.{file_names, numbered}
use Rattle.type_scopes.proofs.FileLemmas.{turned_round}
use Rattle.file_names.specs.declared.numbering.Numbering.{Numbering}
use Rattle.file_names.specs.Numbers.{AreApart, HasFewNames, IsNumbered, Numbers, name_of, new_at}

pub one_more : (b : Binding) (bs : List Binding) → map name_of (reverse (b ∷ bs)) ≡ map name_of (reverse bs) ++ name_of b ∷ []
one_more b bs = ap (map name_of) (reverse-append (b ∷ []) bs) ∙ map-append name_of (reverse bs) (b ∷ [])

-- a word has a number exactly where it stands for something
numbered_last : (k : ℕ) (es : List (List ℕ × FileName)) (e : List ℕ × FileName) (word : List ℕ) → is_some (numbered k (es ++ e ∷ []) word) ≡ (is_some (numbered k es word) || bytes_eq word e.0)
unfolding numbered
numbered_last k [] e word = step (bytes_eq word e.0) refl
  where
    step : (b : Bool) → bytes_eq word e.0 ≡ b → is_some (numbered k (e ∷ []) word) ≡ bytes_eq word e.0
    step true is = rw is refl
    step false is = rw is refl
numbered_last k (x ∷ es) e word = step (bytes_eq word x.0) refl (numbered_last (k + 1) es e word)
  where
    step : (b : Bool) → bytes_eq word x.0 ≡ b → is_some (numbered (k + 1) (es ++ e ∷ []) word) ≡ (is_some (numbered (k + 1) es word) || bytes_eq word e.0)
        → is_some (numbered k (x ∷ es ++ e ∷ []) word) ≡ (is_some (numbered k (x ∷ es) word) || bytes_eq word e.0)
    step true is rest = rw is refl
    step false is rest = rw is rest

has_first : (b : Binding) (bs : List Binding) (word : List ℕ) → (is_some (find bs word) || bytes_eq word b.word) ≡ is_some (find (b ∷ bs) word)
unfolding find
has_first b bs word = step (bytes_eq b.word word) refl (is_some (find bs word)) refl
  where
    step : (is : Bool) → bytes_eq b.word word ≡ is → (has : Bool) → is_some (find bs word) ≡ has → (is_some (find bs word) || bytes_eq word b.word) ≡ is_some (find (b ∷ bs) word)
    step true e true f = rw (e, f) refl
    step true e false f = rw (e, f, turned_round b.word word true e) refl
    step false e true f = rw (e, f) refl
    step false e false f = rw (e, f, turned_round b.word word false e) refl

pub has_number : (bs : List Binding) (word : List ℕ) → is_some (numbered 0 (map name_of (reverse bs)) word) ≡ is_some (find bs word)
unfolding numbered find
has_number [] word = refl
has_number (b ∷ bs) word =
    ap (λ es. is_some (numbered 0 es word)) (one_more b bs) ∙ (numbered_last 0 (map name_of (reverse bs)) (name_of b) word
    ∙ (ap (λ has. has || bytes_eq word b.word) (has_number bs word) ∙ has_first b bs word))

as_none : {A B : Type 0} (x : Option A) (y : Option B) → is_some x ≡ is_some y → is_none x ≡ is_none y
as_none None None e = refl
as_none None (Some y) e = absurd (cc)
as_none (Some x) None e = absurd (cc)
as_none (Some x) (Some y) e = refl

-- whether a name is new
is_new : (n : Numbering) (known : Known) (word : List ℕ) → IsNumbered n known → is_none (numbered 0 (file_names n.names) word) ≡ is_none (find known.names word)
is_new n known word is =
    ap (λ es. is_none (numbered 0 es word)) is.names ∙ as_none (numbered 0 (map name_of (reverse known.names)) word) (find known.names word) (has_number known.names word)

-- what `declare` leaves: one name more, or as many
pub record Declares (n : Numbering) (word : List ℕ) (name : FileName) (new : Bool) (after : Numbering) : Type 0 where
  pub is_new : new ≡ is_none (numbered 0 (file_names n.names) word)
  pub names : file_names after.names ≡ (if new then file_names n.names ++ (word, name) ∷ [] else file_names n.names)
  pub all : after.all ≡ (if new then min (n.all + 1) (2 ^ 64 - 1) else n.all)

same_kept : (n after : Numbering) (known : Known) (word : List ℕ) (name : FileName) (new : Bool) → Declares n word name new after → new ≡ false
    → after.shapes ≡ n.shapes → after.functions ≡ n.functions → after.variables ≡ n.variables → IsNumbered n known → IsNumbered after known
same_kept n after known word name new d old shapes functions variables is =
    let names = rw old at d.names in
    let all = rw old at d.all in
    record {
      names = names ∙ is.names;
      apart = is.apart;
      all = all ∙ is.all;
      shapes = shapes ∙ is.shapes;
      functions = functions ∙ is.functions;
      variables = variables ∙ is.variables;
      kinds = is.kinds;
    }

more_kept : (n after : Numbering) (known more : Known) (b : Binding) (new : Bool) → Declares n b.word (name_of b).1 new after → new ≡ true → find known.names b.word ≡ None → more.names ≡ b ∷ known.names → length known.names + 1 < 2 ^ 32
    → after.shapes ≡ length more.shapes → after.functions ≡ more.functions → after.variables ≡ more.variables
    → length more.shapes + more.functions + more.variables ≡ length known.names + 1 → IsNumbered n known → IsNumbered after more
unfolding AreApart
more_kept n after known more b new d is_new none names few shapes functions variables kinds is =
    let own = rw is_new at d.names in
    let all = rw is_new at d.all in
    let long : length more.names ≡ length known.names + 1 = ap length names ∙ sym (add-one (length known.names)) in
    record {
      names = own ∙ (ap (λ es. es ++ name_of b ∷ []) is.names ∙ (sym (one_more b known.names) ∙ ap (λ bs. map name_of (reverse bs)) (sym names)));
      apart = rw names (none, is.apart);
      all = omega (arith, long, is.all, all, few);
      shapes = shapes;
      functions = functions;
      variables = variables;
      kinds = kinds ∙ sym long;
    }

few_before : (known : Known) (b : Binding) (shapes : List (List ℕ)) (variables functions : ℕ) → HasFewNames (record { names = b ∷ known.names; shapes = known.shapes ++ shapes; variables = variables; functions = functions }) → HasFewNames known
few_before known b shapes variables functions few =
    let longer = length-append known.shapes shapes in
    let fits = few.shapes in
    let all = few.all in
    record { shapes = omega (arith, longer, fits); all = omega (arith, add-one (length known.names), all) }

new_shape : (n after : Numbering) (known : Known) (word extents : List ℕ) (new : Bool) → Declares n word (N.Shape n.shapes) new after
    → after.shapes ≡ min (n.shapes + from_bool new) (2 ^ 16 - 1) → after.functions ≡ n.functions → after.variables ≡ n.variables → Numbers n known → find known.names word ≡ None
    → Numbers after (record { names = with_name known word (a_shape (length known.shapes)); shapes = known.shapes ++ extents ∷ []; variables = known.variables; functions = known.functions })
new_shape n after known word extents new d shapes functions variables numbers none few =
    let b : Binding = record { word = word; meaning = a_shape (length known.shapes) } in
    let is = numbers (few_before known b (extents ∷ []) known.variables known.functions few) in
    let is_there : new ≡ true = d.is_new ∙ (is_new n known word is ∙ ap is_none none) in
    let own = subst (λ (k : ℕ). Declares n word (N.Shape k) new after) is.shapes d in
    let more : Known = record { names = b ∷ known.names; shapes = known.shapes ++ extents ∷ []; variables = known.variables; functions = known.functions } in
    let count = rw is_there at shapes in
    let longer = length-append known.shapes (extents ∷ []) in
    let fits = few.shapes in
    let all = few.all in
    let one = add-one (length known.names) in
    more_kept n after known more b new own is_there none refl (omega arith) (omega (arith, is.shapes)) (functions ∙ is.functions) (variables ∙ is.variables) (omega (arith, is.kinds)) is

new_variable : (n after : Numbering) (known : Known) (word : List ℕ) (ty : Option VariableType) (new : Bool) → Declares n word (N.Variable n.variables) new after
    → after.shapes ≡ n.shapes → after.functions ≡ n.functions → after.variables ≡ min (n.variables + from_bool new) (2 ^ 32 - 1) → Numbers n known → find known.names word ≡ None
    → Numbers after (record { names = with_name known word (a_variable (V.File known.variables) ty); shapes = known.shapes; variables = known.variables + 1; functions = known.functions })
new_variable n after known word ty new d shapes functions variables numbers none few =
    let b : Binding = record { word = word; meaning = a_variable (V.File known.variables) ty } in
    let all = few.all in
    let one = add-one (length known.names) in
    let is = numbers (record { shapes = few.shapes; all = omega arith }) in
    let is_there : new ≡ true = d.is_new ∙ (is_new n known word is ∙ ap is_none none) in
    let own = subst (λ (k : ℕ). Declares n word (N.Variable k) new after) is.variables d in
    let more : Known = record { names = b ∷ known.names; shapes = known.shapes; variables = known.variables + 1; functions = known.functions } in
    let count = rw is_there at variables in
    let kinds = is.kinds in
    more_kept n after known more b new own is_there none refl (omega arith) (shapes ∙ is.shapes) (functions ∙ is.functions) (omega (arith, is.variables)) (omega arith) is

new_function : (n after : Numbering) (known : Known) (word : List ℕ) (new : Bool) → Declares n word (N.Function n.functions) new after
    → after.shapes ≡ n.shapes → after.functions ≡ min (n.functions + from_bool new) (2 ^ 32 - 1) → after.variables ≡ n.variables → Numbers n known → find known.names word ≡ None
    → Numbers after (record { names = with_name known word (a_function known.functions); shapes = known.shapes; variables = known.variables; functions = known.functions + 1 })
new_function n after known word new d shapes functions variables numbers none few =
    let b : Binding = record { word = word; meaning = a_function known.functions } in
    let all = few.all in
    let one = add-one (length known.names) in
    let is = numbers (record { shapes = few.shapes; all = omega arith }) in
    let is_there : new ≡ true = d.is_new ∙ (is_new n known word is ∙ ap is_none none) in
    let own = subst (λ (k : ℕ). Declares n word (N.Function k) new after) is.functions d in
    let more : Known = record { names = b ∷ known.names; shapes = known.shapes; variables = known.variables; functions = known.functions + 1 } in
    let count = rw is_there at functions in
    let kinds = is.kinds in
    more_kept n after known more b new own is_there none refl (omega arith) (shapes ∙ is.shapes) (omega (arith, is.functions)) (variables ∙ is.variables) (omega arith) is

pub shape_step : (functions : List Binding) (n after : Numbering) (known : Known) (s : ShapeDefinition) (new : Bool) → Declares n s.name.word (N.Shape n.shapes) new after
    → after.shapes ≡ min (n.shapes + from_bool new) (2 ^ 16 - 1) → after.functions ≡ n.functions → after.variables ≡ n.variables → Numbers n known → Numbers after (behind_shape functions known s)
unfolding behind_shape
shape_step functions n after known s new d shapes of_functions of_variables numbers = by (find known.names s.name.word) refl
  where
    by : (m : Option Meaning) → find known.names s.name.word ≡ m → Numbers after (behind_shape functions known s)
    by (Some m) e = rw e (λ few.
        let is = numbers few in
        let old : new ≡ false = d.is_new ∙ (is_new n known s.name.word is ∙ ap is_none e) in
        let none_more = rw old at shapes in
        let fits = few.shapes in
        same_kept n after known s.name.word (N.Shape n.shapes) new d old (omega (arith, is.shapes)) of_functions of_variables is)
    by None e = rw e (new_shape n after known s.name.word (kept_extents (file_place functions known) s.extents.items) new d shapes of_functions of_variables numbers e)

pub variable_step : (functions : List Binding) (ty : Option ValueType) (n after : Numbering) (known : Known) (v : Declarator) (new : Bool) → Declares n v.name.word (N.Variable n.variables) new after
    → after.shapes ≡ n.shapes → after.functions ≡ n.functions → after.variables ≡ min (n.variables + from_bool new) (2 ^ 32 - 1) → Numbers n known → Numbers after (behind_variable functions ty known v)
unfolding behind_variable
variable_step functions ty n after known v new d of_shapes of_functions variables numbers = by (find known.names v.name.word) refl
  where
    by : (m : Option Meaning) → find known.names v.name.word ≡ m → Numbers after (behind_variable functions ty known v)
    by (Some m) e = rw e (λ few.
        let is = numbers few in
        let old : new ≡ false = d.is_new ∙ (is_new n known v.name.word is ∙ ap is_none e) in
        let none_more = rw old at variables in
        let fits = few.all in
        let kinds = is.kinds in
        same_kept n after known v.name.word (N.Variable n.variables) new d old of_shapes of_functions (omega (arith, is.variables)) is)
    by None e = rw e (new_variable n after known v.name.word (declared_type (file_place functions known) ty v.length) new d of_shapes of_functions variables numbers e)

pub function_step : (n after : Numbering) (known : Known) (f : Function) (new : Bool) → Declares n f.name.word (N.Function n.functions) new after
    → after.shapes ≡ n.shapes → after.functions ≡ min (n.functions + from_bool new) (2 ^ 32 - 1) → after.variables ≡ n.variables → Numbers n known → Numbers after (behind_function known f)
unfolding behind_function
function_step n after known f new d of_shapes functions of_variables numbers = by (find known.names f.name.word) refl
  where
    by : (m : Option Meaning) → find known.names f.name.word ≡ m → Numbers after (behind_function known f)
    by (Some m) e = rw e (λ few.
        let is = numbers few in
        let old : new ≡ false = d.is_new ∙ (is_new n known f.name.word is ∙ ap is_none e) in
        let none_more = rw old at functions in
        let fits = few.all in
        let kinds = is.kinds in
        same_kept n after known f.name.word (N.Function n.functions) new d old of_shapes (omega (arith, is.functions)) of_variables is)
    by None e = rw e (new_function n after known f.name.word new d of_shapes functions of_variables numbers e)

-- items one behind the other
pub shapes_more : (functions : List Binding) (known : Known) (shapes rest : List ShapeDefinition) → behind_shapes functions known (shapes ++ rest) ≡ behind_shapes functions (behind_shapes functions known shapes) rest
unfolding behind_shapes
shapes_more functions known [] rest = refl
shapes_more functions known (s ∷ ss) rest = shapes_more functions (behind_shape functions known s) ss rest

pub variables_more : (functions : List Binding) (ty : Option ValueType) (known : Known) (variables rest : List Declarator) → behind_variables functions ty known (variables ++ rest) ≡ behind_variables functions ty (behind_variables functions ty known variables) rest
unfolding behind_variables
variables_more functions ty known [] rest = refl
variables_more functions ty known (v ∷ vs) rest = variables_more functions ty (behind_variable functions ty known v) vs rest

pub next_shape : (functions : List Binding) (known : Known) (shapes : List ShapeDefinition) (i : ℕ) (s : ShapeDefinition) → i < length shapes → s ≡ get_or shapes i s
    → behind_shapes functions known (take (i + 1) shapes) ≡ behind_shape functions (behind_shapes functions known (take i shapes)) s
unfolding behind_shapes
next_shape functions known shapes i s within is =
    ap (behind_shapes functions known) (take_more shapes i s within ∙ ap (λ x. take i shapes ++ x ∷ []) (sym is)) ∙ shapes_more functions known (take i shapes) (s ∷ [])

pub next_variable : (functions : List Binding) (ty : Option ValueType) (known : Known) (variables : List Declarator) (i : ℕ) (v : Declarator) → i < length variables → v ≡ get_or variables i v
    → behind_variables functions ty known (take (i + 1) variables) ≡ behind_variable functions ty (behind_variables functions ty known (take i variables)) v
unfolding behind_variables
next_variable functions ty known variables i v within is =
    ap (behind_variables functions ty known) (take_more variables i v within ∙ ap (λ x. take i variables ++ x ∷ []) (sym is)) ∙ variables_more functions ty known (take i variables) (v ∷ [])

-- how many names are known before a new one
pub known_before : (n : Numbering) (known : Known) (word : List ℕ) (new : Bool) → new ≡ is_none (numbered 0 (file_names n.names) word) → IsNumbered n known → then_some new n.all ≡ new_at known word
known_before n known word new is_first is = by (find known.names word) refl
  where
    by : (m : Option Meaning) → find known.names word ≡ m → then_some new n.all ≡ new_at known word
    by (Some m) e =
        let old : new ≡ false = is_first ∙ (is_new n known word is ∙ ap is_none e) in
        rw (old, e) refl
    by None e =
        let there : new ≡ true = is_first ∙ (is_new n known word is ∙ ap is_none e) in
        rw (there, e, is.all) refl
