-- The place of the body of an instance is the one that is kept for it.
use Rattle.std.proofs.Common.{◌≡◌, ◌⊎◌, inl, inr, bytes_eq, if◌then◌else◌, ◌<◌, ◌+◌, ℕ, zero, suc, false, true, Bool, length, slice_get, List, [], ◌∷◌, ◌++◌, Option, Some, None, is_some, arith, refl, sym, ap, subst, ◌∙◌}
use Rattle.std.specs.Option.{option_or}
use Rattle.cstar_tree.specs.declared.syntax.Parameter.{Parameter}
use Rattle.cstar_tree.specs.declared.syntax.ShapeRef.{ShapeRef}
use Rattle.cstar_tree.specs.declared.syntax.ShapeRef.TheVariants as R
use Rattle.cstar_tree.specs.declared.syntax.Tree.{Tree}
use Rattle.cstar_tree.specs.declared.syntax.TypeName.{TypeName}
use Rattle.cstar_tree.specs.declared.typed.ValueType.{ValueType}
use Rattle.cstar_tree.specs.declared.typed.Variable.{Variable}
use Rattle.cstar_tree.specs.declared.typed.Variable.TheVariants as V
use Rattle.cstar_tree.specs.Conversions.{int, scalar}
use Rattle.cstar_tree.specs.FileScopes.{file_known, functions_named}
use Rattle.cstar_tree.specs.Headers.{Placed, Reached, behind_parameter, behind_parameters, body_place, header_place, plain_type}
use Rattle.cstar_tree.specs.Scopes.{Binding, Here, Meaning, VariableType, a_function, a_shape, a_variable, extents_of, find, meaning, of_shape, of_written, shape_meant, written_type}
use Rattle.file_names.specs.Numbers.{StandsAt, first_names}
use Rattle.shape_types.specs.FileKnowledge.{IsKnownFile}
use Rattle.shape_types.specs.Reached.{site_of}
use Rattle.shape_types.proofs.Heads.{all_within, declared_outer}
use Rattle.type_expressions.specs.Walks.{HasItsShapes}
use Rattle.type_scopes.proofs.FileLemmas.{find_first}
use Rattle.type_scopes.specs.Bindings.{bindings, within}
use Rattle.type_scopes.specs.FileBindings.{file_bindings}
use Rattle.type_scopes.specs.Headers.{IsPlaced}
use Rattle.type_scopes.specs.declared.file.File.{File}
use Rattle.type_scopes.specs.declared.file.FunctionInfo.{FunctionInfo}
use Rattle.type_scopes.specs.declared.headers.Reached as Kept
use Rattle.type_scopes.specs.declared.sites.Returns.{Returns}
use Rattle.type_statements.specs.Places.{HasItsShape, IsInScope}
use Rattle.type_statements.specs.declared.scopes.Scopes.{Scopes}

-- ---- parameters change the innermost names alone

-- the place with these innermost names
abbrev pub with_inner : Here → List Binding → Here
with_inner here inner = record here { names = record { inner = inner; outer = here.names.outer } }

pub same_around : (here : Here) (number : ℕ) (ps : List Parameter) → behind_parameters here number ps ≡ with_inner here (behind_parameters here number ps).names.inner
unfolding behind_parameters
same_around here number [] = refl
same_around here number (p ∷ ps) =
    let next = behind_parameter here number p in
    same_around next (number + 1) ps
    ∙ ap (λ (outer : List Binding). record here { names = record { inner = (behind_parameters next (number + 1) ps).names.inner; outer = outer } }) (declared_outer here.names p.name.word (a_variable (V.Param number) (plain_type (written_type here p.type_name))))

-- ---- shapes

of_its_shape : (written : TypeName) (shape : Option ℕ) {ty : ValueType} (s : ℕ) → of_shape written shape ≡ Some ty → ty.shape ≡ Some s → shape ≡ Some s
of_its_shape written None s is of = absurd (cc)
of_its_shape written (Some t) {ty} s is of = let e : record { elem = written.elem; shape = Some t } ≡ ty = cc in ap (λ (v : ValueType). v.shape) e ∙ of

named_shape : (m : Option Meaning) {shape : ℕ} → shape_meant m ≡ Some shape → m ≡ Some (a_shape shape)
named_shape None is = absurd (cc)
named_shape (Some (a_shape s)) is = cc
named_shape (Some (a_function f)) is = absurd (cc)
named_shape (Some (a_variable v t)) is = absurd (cc)

written_shape : (here : Here) (written : TypeName) (shape : Option ShapeRef) (ty : ValueType) → HasItsShapes here → of_written here written shape ≡ Some ty → HasItsShape here ty
written_shape here written None ty known is s of = let e : record { elem = written.elem; shape = None } ≡ ty = cc in absurd (let none = ap (λ (v : ValueType). v.shape) e ∙ of in cc)
written_shape here written (Some (R.Named n)) ty known is s of = known.named n.word s (named_shape (meaning here n.word) (of_its_shape written (shape_meant (meaning here n.word)) s is of))
written_shape here written (Some (R.Current p)) ty known is s of = known.current s (of_its_shape written here.current s is of)

plain_value : (ty : ValueType) (u : VariableType) → plain_type (Some ty) ≡ Some u → u.value ≡ ty
plain_value ty u is = let e : record { value = ty; array = None } ≡ u = cc in sym (ap (λ (v : VariableType). v.value) e)

-- a word stands for what it is declared as first, or for what it stands for before
one_or_other : (c : Bool) (x y : Option Meaning) {m : Meaning} → (if c then x else y) ≡ Some m → (x ≡ Some m) ⊎ (y ≡ Some m)
one_or_other true x y is = inl is
one_or_other false x y is = inr is

no_shape : (v : Variable) (t : Option VariableType) {shape : ℕ} → Some (a_variable v t) ≡ Some (a_shape shape) → ⊥
no_shape v t is = cc

its_type : (v w : Variable) (t : Option VariableType) {u : VariableType} → Some (a_variable v t) ≡ Some (a_variable w (Some u)) → t ≡ Some u
its_type v w t is = cc

shapes_behind : (here : Here) (word : List ℕ) (v : Variable) (of : ValueType) (t : Option VariableType) → HasItsShapes here → HasItsShape here of → ((u : VariableType) → t ≡ Some u → u.value ≡ of) → HasItsShapes (with_inner here (record { word = word; meaning = a_variable v t } ∷ here.names.inner))
unfolding meaning extents_of find
shapes_behind here word v of t known shape value = record {
  named = λ w s is. elim (one_or_other (bytes_eq word w) _ _ is) [
    | inl first ↦ absurd (no_shape v t first)
    | inr rest ↦ known.named w s rest
  ];
  of_variable = λ w x u s is of_shape. elim (one_or_other (bytes_eq word w) _ _ is) [
    | inl first ↦ shape s (subst (λ (k : ValueType). k.shape ≡ Some s) (value u (its_type v x t first)) of_shape)
    | inr rest ↦ known.of_variable w x u s rest of_shape
  ];
  current = known.current;
}

shaped_behind : (here : Here) (number : ℕ) (p : Parameter) → HasItsShapes here → HasItsShapes (behind_parameter here number p)
unfolding meaning extents_of
shaped_behind here number p known = by (is_some (find here.names.inner p.name.word))
  where
    own : (ty : Option ValueType) → written_type here p.type_name ≡ ty → HasItsShapes (with_inner here (record { word = p.name.word; meaning = a_variable (V.Param number) (plain_type ty) } ∷ here.names.inner))
    own None is = shapes_behind here p.name.word (V.Param number) (scalar int) None known (λ s of. absurd (cc)) (λ u none. absurd (cc))
    own (Some ty) is = shapes_behind here p.name.word (V.Param number) ty (plain_type (Some ty)) known (written_shape here p.type_name p.type_name.shape ty known is) (plain_value ty)

    by : (b : Bool) → HasItsShapes (record here { names = (if b then here.names else record { inner = record { word = p.name.word; meaning = a_variable (V.Param number) (plain_type (written_type here p.type_name)) } ∷ here.names.inner; outer = here.names.outer }) })
    by true = known
    by false = own (written_type here p.type_name) refl

all_shaped : (here : Here) (number : ℕ) (ps : List Parameter) → HasItsShapes here → HasItsShapes (behind_parameters here number ps)
unfolding behind_parameters
all_shaped here number [] known = known
all_shaped here number (p ∷ ps) known = all_shaped (behind_parameter here number p) (number + 1) ps (shaped_behind here number p known)

there : {A : Type 0} (xs : List A) (k : ℕ) → k < length xs → (x : A) × (slice_get xs k ≡ Some x)
there [] k within = absurd (omega arith)
there (x ∷ xs) zero within = (x, refl)
there (x ∷ xs) (suc k) within = there xs k (omega (arith, within))

header_shaped : (tree : Tree) (file : File) (info : FunctionInfo) (placed : Placed) (r : Reached) → IsKnownFile tree file → StandsAt tree info placed → ((shape : ℕ) → r.current ≡ Some shape → shape < length (file_known tree).shapes) → HasItsShapes (header_place (file_known tree).shapes placed r)
unfolding meaning extents_of
header_shaped tree file info placed r known stands current = record {
  named = λ word shape is. there (file_known tree).shapes shape (known.shaped info.known word (a_shape shape) stands.within (of_file word is));
  of_variable = λ word v t shape is of. there (file_known tree).shapes shape (known.shaped info.known word (a_variable v (Some t)) stands.within (of_file word is) shape of);
  current = λ shape is. there (file_known tree).shapes shape (current shape is);
}
  where
    of_file : (word : List ℕ) {m : Meaning} → find placed.known word ≡ Some m → find (first_names info.known (file_known tree).names ++ functions_named tree) word ≡ Some m
    of_file word is = ap (λ (names : List Binding). find names word) (sym stands.known_there) ∙ is

-- ---- the function

pub is_placed : (tree : Tree) (file : File) (f : ℕ) (info : FunctionInfo) (placed : Placed) → IsKnownFile tree file → slice_get file.functions.items f ≡ Some info → StandsAt tree info placed → IsPlaced file f placed
is_placed tree file f info placed known is stands = record {
  info = info;
  is_listed = is;
  is_item = ap (λ (t : Tree). slice_get t.items.items info.item) known.is_tree ∙ stands.is_item;
  known = λ word. ap (λ (names : List Binding). find names word) stands.known_there ∙ sym (known.names info.known word stands.within);
}

-- ---- the body

-- names that agree one by one agree one behind the other
both_found : (inner first rest other : List Binding) (word : List ℕ) → inner ≡ first → find rest word ≡ find other word → find (inner ++ rest) word ≡ find (first ++ other) word
both_found inner first rest other word same is =
    find_first inner rest word ∙ (ap (λ (m : Option Meaning). option_or (find inner word) m) is ∙ (ap (λ (names : List Binding). option_or (find names word) (find other word)) same ∙ sym (find_first first other word)))

pub body_in_scope : (tree : Tree) (file : File) (scopes : Scopes) (info : FunctionInfo) (placed : Placed) (r : Kept.Reached) (returns : Returns) → IsKnownFile tree file → StandsAt tree info placed → ((shape : ℕ) → r.current ≡ Some shape → shape < length (file_known tree).shapes)
    → scopes.count ≡ 0 → (body_place (file_known tree).shapes placed (record { function = r.function; current = r.current })).names.inner ≡ bindings scopes.locals
    → IsInScope file scopes (site_of info r returns) 0 (body_place (file_known tree).shapes placed (record { function = r.function; current = r.current }))
unfolding meaning
body_in_scope tree file scopes info placed r returns known stands current none names =
    subst (IsInScope file scopes (site_of info r returns) 0) (sym same) (record {
      place = record {
        around = record {
          at_site = record { current = refl; around = refl; dot = refl; whole = refl };
          names = λ word. both_found place.names.inner (bindings scopes.locals) placed.known (file_bindings file info.known) word names (ap (λ (bs : List Binding). find bs word) stands.known_there ∙ sym (known.names info.known word stands.within));
          shapes = known.shapes;
          known = subst HasItsShapes same (all_shaped head 0 placed.function.parameters.items (header_shaped tree file info placed (record { function = r.function; current = r.current }) known stands current));
          few = known.few;
        };
        not_whole = refl;
        loop = refl;
        locals = sym none;
      };
      inner = λ word. ap (λ (bs : List Binding). find bs word) (names ∙ sym (all_within (bindings scopes.locals)));
      is_open = omega arith;
    })
  where
    head : Here
    head = header_place (file_known tree).shapes placed (record { function = r.function; current = r.current })

    place : Here
    place = body_place (file_known tree).shapes placed (record { function = r.function; current = r.current })

    same : place ≡ with_inner head place.names.inner
    same = same_around head 0 placed.function.parameters.items
