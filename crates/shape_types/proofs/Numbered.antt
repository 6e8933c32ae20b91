-- The functions of a file, whose names are numbered, in their groups; and the file behind its
-- declarations.
use Rattle.std.proofs.Common.{◌≡◌, ◌<◌, ◌≤◌, ◌+◌, ◌-◌, ℕ, zero, suc, add-one, append_assoc, drop, drop-cons, get_or, length, slice_get, bytes_eq, unwrap_or, Bool, true, false, List, [], ◌∷◌, ◌++◌, Option, Some, if◌then◌else◌, arith, refl, sym, ap, subst, ◌∙◌}
use Rattle.std.proofs.lemmas.List.{append-nil, drop_all}
use Rattle.std.proofs.lemmas.List.Elements.{All-get_or}
use Rattle.std.proofs.lemmas.Option.{get_or_from_slice_get, same_Some, slice_get_within}
use Rattle.std.proofs.lemmas.Slice.Zip.{AllZip-long}
use Rattle.std.specs.List.{All, AllZip}
use Rattle.call_graph.specs.Graph.{AreGroups}
use Rattle.call_groups.specs.Called.{AreFunctions}
use Rattle.cstar_tree.specs.declared.syntax.Item.TheVariants as I
use Rattle.cstar_tree.specs.declared.syntax.Tree.{Tree}
use Rattle.cstar_tree.specs.declared.typed.VarInfo.{VarInfo}
use Rattle.cstar_tree.specs.FileScopes.{file_functions, file_known}
use Rattle.cstar_tree.specs.Headers.{Placed}
use Rattle.cstar_tree.specs.Instances.{called_from, function_meant, main_of, program_of}
use Rattle.cstar_tree.specs.Scopes.{Binding, find}
use Rattle.faultless_files.specs.Files.{IsWellNamed}
use Rattle.file_names.specs.Numbers.{MayBeMain, StandsAt, in_text_order}
use Rattle.shape_types.proofs.Functions.{zipped}
use Rattle.shape_types.specs.FileKnowledge.{IsDeclaredFile, IsKnownFile, IsNumberedFile, groups_in}
use Rattle.shape_types.specs.Groups.{in_groups}
use Rattle.shape_types.specs.Reached.{HasOwnParameters, IsWholeFile}
use Rattle.type_scopes.specs.FileBindings.{file_binding, file_meant, file_names, is_known, known_names}
use Rattle.type_scopes.specs.Headers.{function_of, in_item, listed_in}
use Rattle.type_scopes.specs.declared.file.File.{File}
use Rattle.type_scopes.specs.declared.file.FunctionInfo.{FunctionInfo}
use Rattle.type_scopes.specs.declared.names.FileName.{FileName}
use Rattle.type_scopes.specs.declared.names.FileName.TheVariants as N
use Rattle.type_scopes.specs.declared.names.VariableType.{VariableType}

-- ---- groups

pub next_in_groups : (info : FunctionInfo) (rest : List FunctionInfo) (groups : List ℕ) (k : ℕ) → in_groups (info ∷ rest) (drop k groups) ≡ record info { group = unwrap_or (slice_get groups k) info.group } ∷ in_groups rest (drop (suc k) groups)
unfolding in_groups
next_in_groups info rest [] zero = refl
next_in_groups info rest [] (suc k) = refl
next_in_groups info rest (g ∷ groups) zero = refl
next_in_groups info rest (g ∷ groups) (suc k) = next_in_groups info rest groups k

pub one_more_grouped : (functions : List FunctionInfo) (groups : List ℕ) (k : ℕ) (all more : List FunctionInfo) (info default : FunctionInfo) → k < length functions → info ≡ get_or functions k default → more ≡ all ++ record info { group = unwrap_or (slice_get groups k) info.group } ∷ []
    → all ++ in_groups (drop k functions) (drop k groups) ≡ in_groups functions groups → more ++ in_groups (drop (k + 1) functions) (drop (k + 1) groups) ≡ in_groups functions groups
one_more_grouped functions groups k all more info default within is pushed so_far =
    let rest : drop k functions ≡ info ∷ drop (suc k) functions = drop-cons functions k default within ∙ ap (λ (i : FunctionInfo). i ∷ drop (suc k) functions) (sym is) in
    let own : FunctionInfo = record info { group = unwrap_or (slice_get groups k) info.group } in
    let left = in_groups (drop (suc k) functions) (drop (suc k) groups) in
    rw add-one (ap (λ (l : List FunctionInfo). l ++ left) pushed ∙ (append_assoc all (own ∷ []) left ∙ (ap (λ (l : List FunctionInfo). all ++ l) (sym (ap (λ (l : List FunctionInfo). in_groups l (drop k groups)) rest ∙ next_in_groups info (drop (suc k) functions) groups k)) ∙ so_far)))

pub all_grouped : (functions : List FunctionInfo) (groups : List ℕ) (k : ℕ) (all : List FunctionInfo) → length functions ≤ k → all ++ in_groups (drop k functions) (drop k groups) ≡ in_groups functions groups → all ≡ in_groups functions groups
unfolding in_groups
all_grouped functions groups k all past so_far =
    let none : drop k functions ≡ [] = drop_all k functions past in
    sym (append-nil all) ∙ (ap (λ (l : List FunctionInfo). all ++ in_groups l (drop k groups)) (sym none) ∙ so_far)

groups_are : (functions : List FunctionInfo) (groups : List ℕ) → length groups ≡ length functions → groups_in (in_groups functions groups) ≡ groups
unfolding in_groups
groups_are [] [] same = refl
groups_are [] (g ∷ groups) same = absurd (omega (arith, same))
groups_are (info ∷ functions) [] same = absurd (omega (arith, same))
groups_are (info ∷ functions) (g ∷ groups) same = ap (λ (l : List ℕ). g ∷ l) (groups_are functions groups (omega (arith, same)))

as_many : (functions : List FunctionInfo) (groups : List ℕ) → length (in_groups functions groups) ≡ length functions
unfolding in_groups
as_many [] groups = refl
as_many (info ∷ functions) [] = ap suc (as_many functions [])
as_many (info ∷ functions) (g ∷ groups) = ap suc (as_many functions groups)

stand_in_groups : (tree : Tree) (functions : List FunctionInfo) (groups : List ℕ) (all : List Placed) → AllZip (StandsAt tree) functions all → AllZip (StandsAt tree) (in_groups functions groups) all
unfolding in_groups
stand_in_groups tree [] groups all h = h
stand_in_groups tree (info ∷ functions) [] [] h = h
stand_in_groups tree (info ∷ functions) [] (p ∷ all) h = (h.0, stand_in_groups tree functions [] all h.1)
stand_in_groups tree (info ∷ functions) (g ∷ groups) [] h = h
stand_in_groups tree (info ∷ functions) (g ∷ groups) (p ∷ all) h = (record { is_item = h.0.is_item; within = h.0.within; known_there = h.0.known_there }, stand_in_groups tree functions groups all h.1)

-- the function of a number before it was put into its group
record IsFrom (functions : List FunctionInfo) (k : ℕ) (info : FunctionInfo) : Type 0 where
  pub old : FunctionInfo
  pub was : slice_get functions k ≡ Some old
  pub item : old.item ≡ info.item
  pub known : old.known ≡ info.known

from : (functions : List FunctionInfo) (groups : List ℕ) (k : ℕ) (info : FunctionInfo) → slice_get (in_groups functions groups) k ≡ Some info → IsFrom functions k info
unfolding in_groups
from [] groups k info is = absurd (cc)
from (f ∷ functions) [] zero info is = let same = same_Some f info is in record { old = f; was = refl; item = ap (λ (i : FunctionInfo). i.item) same; known = ap (λ (i : FunctionInfo). i.known) same }
from (f ∷ functions) [] (suc k) info is = let rest = from functions [] k info is in record { old = rest.old; was = rest.was; item = rest.item; known = rest.known }
from (f ∷ functions) (g ∷ groups) zero info is = let same = same_Some (record f { group = g }) info is in record { old = f; was = refl; item = ap (λ (i : FunctionInfo). i.item) same; known = ap (λ (i : FunctionInfo). i.known) same }
from (f ∷ functions) (g ∷ groups) (suc k) info is = let rest = from functions groups k info is in record { old = rest.old; was = rest.was; item = rest.item; known = rest.known }

functions_before : (file : File) (groups : List ℕ) (grouped : File) (functions : List Placed) → grouped.functions.items ≡ in_groups file.functions.items groups → grouped.tree.now ≡ file.tree.now → grouped.names ≡ file.names → grouped.types ≡ file.types → AreFunctions grouped functions → AreFunctions file functions
functions_before file groups grouped functions are tree names types h = record {
  count = h.count ∙ (ap (λ (l : List FunctionInfo). length l) are ∙ as_many file.functions.items groups);
  each = λ f placed is.
      let one = h.each f placed is in
      let old = from file.functions.items groups f one.info (ap (λ (l : List FunctionInfo). slice_get l f) (sym are) ∙ one.is_listed) in
      record {
        info = old.old;
        is_listed = old.was;
        is_item = ap (λ (k : ℕ). slice_get file.tree.now.items.items k) old.item ∙ (ap (λ (t : Tree). slice_get t.items.items one.info.item) (sym tree) ∙ one.is_item);
        known = λ word. one.known word ∙ ap (λ (bs : List Binding). function_meant (find bs word)) (ap (λ ts. known_names ts one.info.known (file_names grouped.names)) (ap (λ ts. ts.items) types) ∙ (ap (λ ns. known_names file.types.items one.info.known (file_names ns)) names ∙ ap (λ (k : ℕ). known_names file.types.items k (file_names file.names)) (sym old.known)));
      };
}

pub numbered_file : (file grouped : File) (groups : List ℕ) → file_names file.names ≡ in_text_order (file_known file.tree.now) → AllZip (StandsAt file.tree.now) file.functions.items (file_functions file.tree.now) → length groups ≡ length file.functions.items
    → ((functions : List Placed) → AreFunctions file functions → (shapes : List (List ℕ)) → AreGroups (called_from shapes functions 0 functions) groups)
    → grouped.functions.items ≡ in_groups file.functions.items groups → grouped.tree.now ≡ file.tree.now → grouped.names ≡ file.names → grouped.types ≡ file.types → grouped.shapes ≡ file.shapes → file.shapes.items ≡ [] → file.types.items ≡ [] → IsNumberedFile grouped
numbered_file file grouped groups named stand many exact are tree names types shapes no_shapes no_types = record {
  names = ap file_names names ∙ (named ∙ ap (λ (t : Tree). in_text_order (file_known t)) (sym tree));
  functions = subst (λ (t : Tree). AllZip (StandsAt t) grouped.functions.items (file_functions t)) (sym tree) (subst (λ (l : List FunctionInfo). AllZip (StandsAt file.tree.now) l (file_functions file.tree.now)) (sym are) (stand_in_groups file.tree.now file.functions.items groups (file_functions file.tree.now) stand));
  groups = λ functions over these. subst (λ (gs : List ℕ). AreGroups (called_from over functions 0 functions) gs) (sym (ap groups_in are ∙ groups_are file.functions.items groups many)) (exact functions (functions_before file groups grouped functions are tree names types these) over);
  no_shapes = ap (λ v. v.items) shapes ∙ no_shapes;
  no_types = ap (λ v. v.items) types ∙ no_types;
}

-- ---- behind the declarations

-- which function a name stands for does not depend on the types of variables
same_functions : (types other : List (Option VariableType)) (known : ℕ) (es : List (List ℕ × FileName)) (word : List ℕ) → function_meant (find (known_names types known es) word) ≡ function_meant (find (known_names other known es) word)
unfolding known_names find
same_functions types other known [] word = refl
same_functions types other known (e ∷ es) word = by (is_known known e.1) (same_functions types other (known - 1) es word)
  where
    own : (name : FileName) → function_meant (Some (file_meant types name)) ≡ function_meant (Some (file_meant other name))
    own (N.Shape s) = refl
    own (N.Function f) = refl
    own (N.Variable v) = refl

    named : (same : Bool) → function_meant (find (known_names types (known - 1) es) word) ≡ function_meant (find (known_names other (known - 1) es) word)
        → function_meant (if same then Some (file_meant types e.1) else find (known_names types (known - 1) es) word) ≡ function_meant (if same then Some (file_meant other e.1) else find (known_names other (known - 1) es) word)
    named true rest = own e.1
    named false rest = rest

    by : (b : Bool) → function_meant (find (known_names types (known - 1) es) word) ≡ function_meant (find (known_names other (known - 1) es) word)
        → function_meant (find (if b then file_binding types e ∷ known_names types (known - 1) es else known_names types (known - 1) es) word) ≡ function_meant (find (if b then file_binding other e ∷ known_names other (known - 1) es else known_names other (known - 1) es) word)
    by true rest = named (bytes_eq e.0 word) rest
    by false rest = rest

are_functions : (tree : Tree) (file last : File) → file.tree.now ≡ tree → AllZip (StandsAt tree) file.functions.items (file_functions tree) → IsKnownFile tree last → last.names ≡ file.names → AreFunctions file (file_functions tree)
are_functions tree file last same stand known names = record {
  count = AllZip-long (StandsAt tree) file.functions.items (file_functions tree) stand;
  each = λ f placed is.
      let z = zipped (StandsAt tree) file.functions.items (file_functions tree) f placed stand is in
      record {
        info = z.0;
        is_listed = z.1;
        is_item = ap (λ (t : Tree). slice_get t.items.items z.0.item) same ∙ z.2.is_item;
        known = λ word.
            ap (λ (bs : List Binding). function_meant (find bs word)) z.2.known_there
            ∙ (ap function_meant (sym (known.names z.0.known word z.2.within))
            ∙ (ap (λ ns. function_meant (find (known_names last.types.items z.0.known (file_names ns)) word)) names
            ∙ same_functions last.types.items file.types.items z.0.known (file_names file.names) word));
      };
}

pub whole_file : (tree : Tree) (file last : File) → file.tree.now ≡ tree → IsNumberedFile file → IsKnownFile tree last → last.names ≡ file.names → last.functions ≡ file.functions → IsWholeFile tree last
whole_file tree file last same numbered known names functions =
    let stand = subst (λ (t : Tree). AllZip (StandsAt t) file.functions.items (file_functions t)) same numbered.functions in
    let groups = numbered.groups (file_functions tree) (file_known tree).shapes (are_functions tree file last same stand known names) in
    record {
      known = known;
      names = ap file_names names ∙ (numbered.names ∙ ap (λ (t : Tree). in_text_order (file_known t)) same);
      functions = rw functions stand;
      groups = rw functions groups;
    }

-- the function of a number, as it stands in the file
pub function_there : (tree : Tree) (file : File) (f : ℕ) (placed : Placed) → IsWholeFile tree file → slice_get (file_functions tree) f ≡ Some placed → (info : FunctionInfo) × (function_of file f ≡ Some (info, placed.function))
function_there tree file f placed whole is =
    let z = zipped (StandsAt tree) file.functions.items (file_functions tree) f placed whole.functions is in
    let item : slice_get file.tree.now.items.items z.0.item ≡ Some (I.Function placed.function) = ap (λ (t : Tree). slice_get t.items.items z.0.item) whole.known.is_tree ∙ z.2.is_item in
    (z.0, ap (listed_in file.tree.now.items.items) z.1 ∙ ap (in_item z.0) item)

-- Behind the declarations of a file whose names are declared once, with the instances of its program, whose
-- parameters are.
pub well_named : (tree : Tree) (file : File) (vars : List VarInfo) (main : ℕ) → IsDeclaredFile tree file vars → IsWholeFile tree file → main_of tree ≡ Some main → MayBeMain (function_of file main) → All (HasOwnParameters tree) (program_of tree).instances → IsWellNamed tree
well_named tree file vars main declared whole is may parameters = record {
  names = declared.once;
  parameters = λ r placed reached.
      let own = All-get_or (HasOwnParameters tree) (program_of tree).instances reached.which r (slice_get_within (program_of tree).instances reached.which r reached.is_instance) parameters in
      subst (HasOwnParameters tree) (get_or_from_slice_get (program_of tree).instances reached.which r r reached.is_instance) own placed reached.is_function;
  main = λ f placed is_main function.
      let same : main ≡ f = same_Some main f (sym is ∙ is_main) in
      let there = function_there tree file main placed whole (ap (slice_get (file_functions tree)) same ∙ function) in
      subst MayBeMain there.1 may;
}
