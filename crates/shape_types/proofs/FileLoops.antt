-- The functions that walk over the declarations of a file: from what each part answers to what is
-- answered behind it.
use Rattle.std.proofs.Common.{◌≡◌, ℕ, zero, suc, pos, ◌+◌, ◌-◌, ◌<◌, ◌^◌, Bool, true, false, ◌&&◌, List, [], ◌∷◌, ◌++◌, get_or, length, map, take, Option, Some, None, Vec, IfOk, Result, Ok, Err, is_some, refl, sym, ap, subst, ◌∙◌, arith}
use Rattle.std.proofs.lemmas.List.{take_more}
use Rattle.std.proofs.lemmas.List.Elements.{All-get_or}
use Rattle.std.proofs.lemmas.Option.{same_Some, slice_get_within}
use Rattle.std.specs.Int.{from_bool}
use Rattle.std.specs.List.{All}
use Rattle.std.specs.Option.{unwrap_or}
use Rattle.std.specs.Prelude.{min, reverse}
use Rattle.std.specs.declared.alloc.Global.{Global}
use Rattle.cstar_tree.specs.declared.syntax.Declarator.{Declarator}
use Rattle.cstar_tree.specs.declared.syntax.Expr.{Expr}
use Rattle.cstar_tree.specs.declared.syntax.ShapeDefinition.{ShapeDefinition}
use Rattle.cstar_tree.specs.declared.syntax.TypeName.{TypeName}
use Rattle.cstar_tree.specs.declared.typed.ShapeInfo.{ShapeInfo}
use Rattle.cstar_tree.specs.declared.typed.ValueType.{ValueType}
use Rattle.cstar_tree.specs.declared.typed.VarInfo.{VarInfo}
use Rattle.cstar_tree.specs.Constants.{constant_number}
use Rattle.cstar_tree.specs.FileScopes.{Known, behind_shapes, behind_variable, behind_variables, file_known, functions_named}
use Rattle.cstar_tree.specs.Scopes.{Binding, Here, Meaning, extents_of, find, written_type}
use Rattle.cstar_tree.specs.StatementTypes.{variable_info}
use Rattle.file_names.specs.Numbers.{name_of}
use Rattle.type_expressions.specs.Walks.{IsPlain}
use Rattle.type_scopes.specs.Answers.{part_of}
use Rattle.type_scopes.specs.Bindings.{bindings, variable_type}
use Rattle.type_scopes.specs.FileBindings.{file_names, names_at, numbered}
use Rattle.type_scopes.specs.Named.{IsTypeAmong}
use Rattle.type_scopes.specs.declared.faults.Untyped.{Untyped}
use Rattle.type_scopes.specs.declared.file.File.{File}
use Rattle.type_scopes.specs.declared.locals.Locals.{Locals}
use Rattle.type_scopes.specs.declared.names.FileName.{FileName}
use Rattle.type_scopes.specs.declared.names.VariableType as Names
use Rattle.type_scopes.specs.declared.sites.Site.{Site}
use Rattle.type_statements.proofs.Declared.{type_written}
use Rattle.type_statements.specs.declared.declarations.Initial.{Initial}
use Rattle.shape_types.specs.FileWalk.{AreDefined, AreFirst, AreVariables, HasItsType, IsDefined, IsOfSome, IsStartOf, Knows, StartsAs, place_in}
use Rattle.shape_types.specs.Plain.{IsPlainDeclarator}
use Rattle.shape_types.specs.declared.declarations.Declared.{Declared}
use Rattle.shape_types.proofs.FileSteps.{AreExtents, extent_more, next_behind, none_declared, none_defined, one_variable, shape_more, variable_known, variable_more, variables_first, variables_shapes}
use Rattle.shape_types.proofs.KnownPlace.{around_there, file_site}
use Rattle.shape_types.proofs.NamesFound.{known_number}

pub both_parts : (a b : Bool) → (a && b) ≡ true → (a ≡ true) × (b ≡ true)
both_parts true b is = (refl, is)
both_parts false b is = absurd (let other : false ≡ true = is in cc)

pub not_both : (b : Bool) → b ≡ true → b ≡ false → ⊥
not_both b holds fails = let other : true ≡ false = sym holds ∙ fails in cc

-- a name whose number is that of the next one is not known yet
pub new_name : (start : File) (k : Known) (file : File) (n : ℕ) (word : List ℕ) (number : ℕ) (name : FileName) → Knows start k file n → numbered 0 (file_names file.names) word ≡ Some (number, name) → number ≡ n → find k.names word ≡ None
new_name start k file n word number name knows is same = by (find k.names word) refl
  where
    names : file_names file.names ≡ map name_of (reverse (knows.first.0 ++ k.names))
    names = ap file_names knows.same_names ∙ (knows.numbered.names ∙ ap (λ (bs : List Binding). map name_of (reverse bs)) knows.first.1)

    by : (m : Option Meaning) → find k.names word ≡ m → find k.names word ≡ None
    by None e = e
    by (Some m) e =
        let less = known_number knows.first.0 k.names word m number name e (ap (λ es. numbered 0 es word) (sym names) ∙ is) in
        let many = knows.as_many in
        absurd (omega (arith, less, same, many))

-- ---- shapes

-- the first definitions are those of shapes, where all declarations are whole
abbrev pub ShapesSo : File → Declared → File → Declared → List ShapeDefinition → ℕ → Type 0
ShapesSo old before file declared definitions i =
    (start : File) (k : Known) → Knows start k old before.known → All (λ d. All IsPlain d.extents.items) definitions → AreFirst (behind_shapes (functions_named start.tree.now) k definitions).names (file_known start.tree.now).names
    → declared.is_whole ≡ true → AreDefined start k (take i definitions) old.shapes.items file declared.known

pub no_shapes : (old : File) (before : Declared) (definitions : List ShapeDefinition) → ShapesSo old before old before definitions 0
no_shapes old before definitions start k knows plain first whole = none_defined start k old before.known definitions knows

pub next_shapes : (old : File) (before : Declared) (file : File) (declared middle after : Declared) (definitions : List ShapeDefinition) (i : ℕ) (s : ShapeDefinition) (info : ShapeInfo) (shapes : Vec ShapeInfo Global) (new : Bool)
    → ShapesSo old before file declared definitions i → i < length definitions → s ≡ get_or definitions i s
    → ((start : File) (k : Known) → Knows start k file declared.known → new ≡ true → find k.names s.name.word ≡ None)
    → ((start : File) (k : Known) → Knows start k file declared.known → All IsPlain s.extents.items → middle.is_whole ≡ true → IsDefined (place_in start k) s info)
    → middle.known ≡ declared.known → (middle.is_whole ≡ true → declared.is_whole ≡ true) → (after.is_whole ≡ true → middle.is_whole ≡ true) → new ≡ true
    → after.known ≡ min (middle.known + from_bool true) (2 ^ 64 - 1) → shapes.items ≡ file.shapes.items ++ info ∷ [] → ShapesSo old before (record file { shapes = shapes }) after definitions (i + 1)
next_shapes old before file declared middle after definitions i s info shapes new are within s_is is_new defined same whole_before whole_after is counted pushed start k knows plain first whole =
    let there = are start k knows plain first (whole_before (whole_after whole)) in
    let own = subst (λ (d : ShapeDefinition). All IsPlain d.extents.items) (sym s_is) (All-get_or (λ (d : ShapeDefinition). All IsPlain d.extents.items) definitions i s within plain) in
    shape_more start k file declared.known after.known i definitions old.shapes.items s info shapes there within s_is (is_new start _ there.knows is) (defined start _ there.knows own (whole_after whole)) first pushed
    (counted ∙ ap (λ (n : ℕ). min (n + from_bool true) (2 ^ 64 - 1)) same)

-- one extent more, of this size
pub next_extent : (here : Here) (es : List Expr) (i : ℕ) (e : Expr) (ns new : List ℕ) (size : ℕ) → i < length es → e ≡ get_or es i e → AreExtents here (take i es) ns → (0 < size → constant_number here e ≡ Some (pos size))
    → 0 < size → size < 2 ^ 32 → new ≡ ns ++ size ∷ [] → AreExtents here (take (i + 1) es) new
next_extent here es i e ns new zero within is are constant some few pushed = absurd (let no : 0 < 0 = some in omega (arith, no))
next_extent here es i e ns new (suc m) within is are constant some few pushed =
    let one : take (i + 1) es ≡ take i es ++ e ∷ [] = take_more es i e within ∙ ap (λ (x : Expr). take i es ++ x ∷ []) (sym is) in
    rw (one, pushed) (extent_more here (take i es) ns e m are (constant some) few)

-- ---- variables

-- what is settled of a start
pub start_settled : (P : ℕ → Type 0) (r : Result ℕ Untyped) (o : Option ℕ) → IfOk r P → o ≡ part_of r → is_some o ≡ true → P (unwrap_or o 0)
start_settled P (Ok n) None holds settled has = absurd (cc)
start_settled P (Ok n) (Some m) holds settled has = subst P (same_Some n m (sym settled)) holds
start_settled P (Err u) None holds settled has = absurd (cc)
start_settled P (Err u) (Some m) holds settled has = absurd (cc)

-- a variable, and what is known behind it
pub variable_whole : (start : File) (k : Known) (of : ValueType) (file : File) (count more : ℕ) (d : Declarator) (found : Option Names.VariableType) (ty : Names.VariableType) (types : Vec (Option Names.VariableType) Global) (initial : Option Initial) (word : ℕ) (before : List VarInfo) (info : VarInfo) (vars : List VarInfo)
    → Knows start k file count → find k.names d.name.word ≡ None → HasItsType (place_in start k) of d found → IsOfSome k.shapes of → AreFirst (behind_variable (functions_named start.tree.now) (Some of) k d).names (file_known start.tree.now).names
    → types.items ≡ file.types.items ++ found ∷ [] → more ≡ min (count + from_bool true) (2 ^ 64 - 1) → found ≡ Some ty
    → (Knows start (behind_variable (functions_named start.tree.now) (Some of) k d) (record file { types = types }) more → StartsAs (place_in start (behind_variable (functions_named start.tree.now) (Some of) k d)) d.initial initial)
    → IsStartOf ty.elem initial d.initial word → info ≡ variable_info d.name.word (variable_type ty) word → vars ≡ before ++ info ∷ []
    → AreVariables start k of (d ∷ []) before vars × Knows start (behind_variable (functions_named start.tree.now) (Some of) k d) (record file { types = types }) more
variable_whole start k of file count more d found ty types initial word before info vars knows new is of_shape first pushed counted found_is starts start_is info_is vars_is =
    let after = variable_known start k file count more of d found types knows new is of_shape first pushed counted in
    (one_variable start k of d found ty.elem word ty before info vars new is found_is (starts after ty.elem word start_is) info_is vars_is, after)

-- the first variables of a declaration of this type are typed, and so much is known behind them
pub record VariablesSo (start : File) (k : Known) (of : ValueType) (ds : List Declarator) (i : ℕ) (before : List VarInfo) (file : File) (declared : Declared) : Type 0 where
  pub typed : AreVariables start k of (take i ds) before declared.vars.items
  pub knows : Knows start (behind_variables (functions_named start.tree.now) (Some of) k (take i ds)) file declared.known

pub no_variables : (start : File) (k : Known) (of : ValueType) (ds : List Declarator) (file : File) (declared : Declared) (vars : List VarInfo) → declared.vars.items ≡ vars → Knows start k file declared.known → VariablesSo start k of ds 0 vars file declared
unfolding behind_variables
no_variables start k of ds file declared vars same knows = record {
  typed = subst (AreVariables start k of [] vars) (sym same) (none_declared start k of ds vars);
  knows = knows;
}

pub next_variables : (start : File) (k : Known) (of : ValueType) (ds : List Declarator) (i : ℕ) (d : Declarator) (before : List VarInfo) (file after_file : File) (declared after : Declared) → VariablesSo start k of ds i before file declared → i < length ds → d ≡ get_or ds i d
    → All IsPlainDeclarator ds → AreFirst (behind_variables (functions_named start.tree.now) (Some of) k ds).names (file_known start.tree.now).names → IsOfSome k.shapes of
    → ((there : Known) → Knows start there file declared.known → IsPlainDeclarator d → AreFirst (behind_variable (functions_named start.tree.now) (Some of) there d).names (file_known start.tree.now).names → IsOfSome there.shapes of
    → AreVariables start there of (d ∷ []) declared.vars.items after.vars.items × Knows start (behind_variable (functions_named start.tree.now) (Some of) there d) after_file after.known)
    → VariablesSo start k of ds (i + 1) before after_file after
next_variables start k of ds i d before file after_file declared after so within d_is plain first of_shape step =
    let functions = functions_named start.tree.now in
    let there = behind_variables functions (Some of) k (take i ds) in
    let next = next_behind functions (Some of) k ds i d within d_is in
    let own = subst IsPlainDeclarator (sym d_is) (All-get_or IsPlainDeclarator ds i d within plain) in
    let first_there = subst (λ (x : Known). AreFirst x.names (file_known start.tree.now).names) next (variables_first functions (Some of) k ds (i + 1) (file_known start.tree.now).names first) in
    let shaped = subst (λ (shapes : List (List ℕ)). IsOfSome shapes of) (sym (variables_shapes functions (Some of) k (take i ds))) of_shape in
    let one = step there so.knows own first_there shaped in
    record {
      typed = variable_more start k of i ds d before declared.vars.items after.vars.items within d_is so.typed one.0;
      knows = subst (λ (x : Known). Knows start x after_file after.known) (sym next) one.1;
    }

-- a type that is written has been found, and is scalar or of one of the shapes
pub found_type : (start : File) (k : Known) (file : File) (n : ℕ) (locals : Locals) (site : Site) (written : TypeName) (typed : Result ValueType Untyped) (ty : Option ValueType) → Knows start k file n → bindings locals ≡ [] → site ≡ file_site n
    → IsTypeAmong (names_at file locals site.known) site.current written typed → ty ≡ part_of typed → is_some ty ≡ true
    → (of : ValueType) × (ty ≡ Some of) × (written_type (place_in start k) written ≡ Some of) × IsOfSome k.shapes of
unfolding extents_of
found_type start k file n locals site written typed None knows empty site_is among settled has = absurd (cc)
found_type start k file n locals site written typed (Some of) knows empty site_is among settled has =
    let there = type_written file locals site (place_in start k) written typed (Some of) of (around_there start k file n locals site knows empty site_is) among settled refl in
    (of, refl, there.0, λ shape is. slice_get_within k.shapes shape _ (there.1 shape is).1)
