-- All that is asked of the expressions of a body is there: the program knows of their calls, and they
-- are plain.
use Rattle.std.proofs.Common.{◌≡◌, ◌<◌, ◌+◌, ◌↔◌, ℕ, zero, suc, length, slice_get, List, [], ◌∷◌, Some, arith, refl, sym, ap, subst, ◌∙◌}
use Rattle.std.proofs.lemmas.List.Elements.{All-get_or}
use Rattle.std.proofs.lemmas.Option.{get_or_from_slice_get, same_Some, slice_get-map, slice_get_within}
use Rattle.std.specs.List.{AllZip}
use Rattle.std.specs.Option.{option_map}
use Rattle.std.specs.Prelude.{slice_index}
use Rattle.cstar_tree.specs.declared.syntax.Expr.{Expr}
use Rattle.cstar_tree.specs.declared.syntax.Item.TheVariants as I
use Rattle.cstar_tree.specs.declared.syntax.Tree.{Tree}
use Rattle.cstar_tree.specs.FileScopes.{file_functions, file_known}
use Rattle.cstar_tree.specs.Headers.{Leads, Placed, Reached, body_place}
use Rattle.cstar_tree.specs.Instances.{called_from}
use Rattle.cstar_tree.specs.Scopes.{Binding, Here, a_function, find}
use Rattle.file_names.specs.Numbers.{StandsAt}
use Rattle.program_laws.proofs.Bodies.{bodies_call}
use Rattle.program_laws.proofs.InBlocks.{in_block_both, in_block_map}
use Rattle.program_laws.specs.Bodies.{IsInBody}
use Rattle.shape_types.proofs.BodyPlaces.{is_placed}
use Rattle.shape_types.proofs.Functions.{is_of_file, zipped}
use Rattle.shape_types.specs.FileKnowledge.{groups_in}
use Rattle.shape_types.specs.Plain.{IsPlainItem, IsPlainTree}
use Rattle.shape_types.specs.Reached.{IsWholeFile, with_instances}
use Rattle.type_expressions.specs.Instances.{AreHeaders, IsBeginning, met}
use Rattle.type_expressions.specs.Programs.{IsFunctionOf}
use Rattle.type_expressions.specs.Walks.{IsPlain}
use Rattle.type_expressions.specs.declared.found.Instances.{Instances}
use Rattle.type_scopes.specs.FileBindings.{file_names, known_names}
use Rattle.type_scopes.specs.Headers.{group_of}
use Rattle.type_scopes.specs.declared.file.File.{File}
use Rattle.type_scopes.specs.declared.file.FunctionInfo.{FunctionInfo}
use Rattle.type_statements.specs.Ready.{InBlock, IsReady}

-- ---- the functions of the file

pub record IsListed (tree : Tree) (file : File) (f : ℕ) (placed : Placed) : Type 0 where
  pub info : FunctionInfo
  pub is_listed : slice_get file.functions.items f ≡ Some info
  pub stands : StandsAt tree info placed

pub listed_at : (tree : Tree) (file : File) (f : ℕ) (placed : Placed) → IsWholeFile tree file → slice_get (file_functions tree) f ≡ Some placed → IsListed tree file f placed
listed_at tree file f placed whole is =
    let z = zipped (StandsAt tree) file.functions.items (file_functions tree) f placed whole.functions is in
    record { info = z.0; is_listed = z.1; stands = z.2 }

-- the function of a number that has one
pub function_at : (tree : Tree) (file : File) (f : ℕ) (info : FunctionInfo) → IsWholeFile tree file → slice_get file.functions.items f ≡ Some info → (placed : Placed) × (slice_get (file_functions tree) f ≡ Some placed) × StandsAt tree info placed
function_at tree file f info whole is = turned file.functions.items (file_functions tree) f whole.functions is
  where
    turned : (xs : List FunctionInfo) (ys : List Placed) (k : ℕ) → AllZip (StandsAt tree) xs ys → slice_get xs k ≡ Some info → (y : Placed) × (slice_get ys k ≡ Some y) × StandsAt tree info y
    turned [] [] k all is = absurd (cc)
    turned [] (y ∷ ys) k all is = absurd all
    turned (x ∷ xs) [] k all is = absurd all
    turned (x ∷ xs) (y ∷ ys) zero all is = (y, refl, subst (λ (i : FunctionInfo). StandsAt tree i y) (same_Some x info is) all.0)
    turned (x ∷ xs) (y ∷ ys) (suc k) all is = turned xs ys k all.1 is

placed_there : (functions : List Placed) (k : ℕ) → k < length functions → (placed : Placed) × (slice_get functions k ≡ Some placed)
placed_there [] k within = absurd (omega arith)
placed_there (p ∷ ps) zero within = (p, refl)
placed_there (p ∷ ps) (suc k) within = placed_there ps k (omega (arith, within))

function_of : (tree : Tree) (file : File) (all : List Reached) (f : ℕ) (placed : Placed) → IsWholeFile tree file → slice_get (file_functions tree) f ≡ Some placed → IsFunctionOf file (with_instances tree all) f
function_of tree file all f placed whole is =
    let l = listed_at tree file f placed whole is in
    record { placed = placed; in_program = is; in_file = is_placed tree file f l.info placed whole.known l.is_listed l.stands }

-- a function that is known in another one
named_function : (tree : Tree) (file : File) (all : List Reached) (info : FunctionInfo) (placed : Placed) (word : List ℕ) (f : ℕ) → IsWholeFile tree file → StandsAt tree info placed → find placed.known word ≡ Some (a_function f) → IsFunctionOf file (with_instances tree all) f
named_function tree file all info placed word f whole stands is =
    let found : find (known_names file.types.items info.known (file_names file.names)) word ≡ Some (a_function f) = whole.known.names info.known word stands.within ∙ (ap (λ (names : List Binding). find names word) (sym stands.known_there) ∙ is) in
    let there = placed_there (file_functions tree) f (is_of_file tree file.types.items info.known word f (ap (λ es. find (known_names file.types.items info.known es) word) (sym whole.names) ∙ found)) in
    function_of tree file all f there.0 whole there.1

-- ---- groups

pub as_many : (shapes : List (List ℕ)) (functions : List Placed) (n : ℕ) (rest : List Placed) → length (called_from shapes functions n rest) ≡ length rest
unfolding called_from
as_many shapes functions n [] = refl
as_many shapes functions n (p ∷ rest) = ap suc (as_many shapes functions (n + 1) rest)

group_at : (functions : List FunctionInfo) (f : ℕ) (info : FunctionInfo) → slice_get functions f ≡ Some info → slice_index (groups_in functions) f ≡ info.group
group_at functions f info is = get_or_from_slice_get (groups_in functions) f info.group _ (slice_get-map (λ (i : FunctionInfo). i.group) functions f ∙ ap (option_map (λ (i : FunctionInfo). i.group)) is)

same_group : (tree : Tree) (file : File) (all : List Reached) (f g : ℕ) → IsWholeFile tree file → (a : IsFunctionOf file (with_instances tree all) f) → (b : IsFunctionOf file (with_instances tree all) g)
    → (group_of file f ≡ group_of file g) ↔ (Leads (with_instances tree all).calls f g × Leads (with_instances tree all).calls g f)
same_group tree file all f g whole a b =
    let many = as_many (file_known tree).shapes (file_functions tree) 0 (file_functions tree) in
    let first = slice_get_within (file_functions tree) f a.placed a.in_program in
    let second = slice_get_within (file_functions tree) g b.placed b.in_program in
    let same = whole.groups f g (omega (arith, many, first)) (omega (arith, many, second)) in
    let own = group_at file.functions.items f a.in_file.info a.in_file.is_listed in
    let other = group_at file.functions.items g b.in_file.info b.in_file.is_listed in
    let at_f : group_of file f ≡ Some a.in_file.info.group = ap (option_map (λ (i : FunctionInfo). i.group)) a.in_file.is_listed in
    let at_g : group_of file g ≡ Some b.in_file.info.group = ap (option_map (λ (i : FunctionInfo). i.group)) b.in_file.is_listed in
    (λ e. same.0 (own ∙ (same_Some a.in_file.info.group b.in_file.info.group (sym at_f ∙ (e ∙ at_g)) ∙ sym other)), λ h. at_f ∙ (ap Some (sym own ∙ (same.1 h ∙ other)) ∙ sym at_g))

-- ---- the body

abbrev IsPlainInBody : List (List ℕ) → Placed → ℕ → Here → Expr → Type 0
IsPlainInBody calls placed f here e = IsInBody calls placed f here e × IsPlain e

is_ready : (tree : Tree) (file : File) (so_far : Instances) (all : List Reached) (f : ℕ) (placed : Placed) → IsWholeFile tree file → AreHeaders file so_far → IsBeginning (met so_far) all → slice_get (file_functions tree) f ≡ Some placed
    → (here : Here) (e : Expr) → IsPlainInBody (with_instances tree all).calls placed f here e → IsReady so_far file (with_instances tree all) here e
is_ready tree file so_far all f placed whole headers begins is here e h =
    let l = listed_at tree file f placed whole is in
    let own : (g : ℕ) → here.around ≡ Some g → f ≡ g = λ g around. same_Some f g (sym h.0.around ∙ around) in (
      record {
        of_file = record {
          named = λ word g meant. named_function tree file all l.info placed word g whole l.stands (h.0.named word g meant);
          around = λ g around. subst (IsFunctionOf file (with_instances tree all)) (own g around) (function_of tree file all f placed whole is);
          groups = λ g k a b. same_group tree file all g k whole a b;
          instances = begins;
          headers = headers;
        };
        place = here;
        names = λ word. refl;
        called = λ g c around called. subst (λ (k : ℕ). Leads (with_instances tree all).calls k c.function) (own g around) (h.0.called c called);
      },
      h.1,
    )

plain_body : (tree : Tree) (info : FunctionInfo) (placed : Placed) → IsPlainTree tree → StandsAt tree info placed → (here : Here) → InBlock (λ h e. IsPlain e) here placed.function.body
plain_body tree info placed plain stands =
    subst IsPlainItem (get_or_from_slice_get tree.items.items info.item (I.Function placed.function) (I.Function placed.function) stands.is_item)
    (All-get_or IsPlainItem tree.items.items info.item (I.Function placed.function) (slice_get_within tree.items.items info.item (I.Function placed.function) stands.is_item) plain)

pub ready_body : (tree : Tree) (file : File) (so_far : Instances) (all : List Reached) (r : Reached) (placed : Placed) → IsWholeFile tree file → IsPlainTree tree → AreHeaders file so_far → IsBeginning (met so_far) all → slice_get (file_functions tree) r.function ≡ Some placed
    → InBlock (IsReady so_far file (with_instances tree all)) (body_place (file_known tree).shapes placed r) placed.function.body
ready_body tree file so_far all r placed whole plain headers begins is =
    let calls = (with_instances tree all).calls in
    let here = body_place (file_known tree).shapes placed r in
    let l = listed_at tree file r.function placed whole is in
    in_block_map (IsPlainInBody calls placed r.function) (IsReady so_far file (with_instances tree all)) (is_ready tree file so_far all r.function placed whole headers begins is) here placed.function.body
    (in_block_both (IsInBody calls placed r.function) (λ h e. IsPlain e) here placed.function.body (bodies_call tree r placed is) (plain_body tree l.info placed plain l.stands here))
