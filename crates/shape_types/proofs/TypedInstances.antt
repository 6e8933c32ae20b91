-- An instance is typed from its head and its body.
use Rattle.std.proofs.Common.{◌≡◌, ◌<◌, ◌+◌, ℕ, length, slice_get, List, [], Option, Some, None, arith, refl, sym, ap, subst, ◌∙◌}
use Rattle.std.proofs.lemmas.List.{length-map}
use Rattle.std.proofs.lemmas.Option.{same_Some, some_pair_parts}
use Rattle.cstar_tree.specs.declared.syntax.Function.{Function}
use Rattle.cstar_tree.specs.declared.syntax.Item.{Item}
use Rattle.cstar_tree.specs.declared.syntax.Item.TheVariants as I
use Rattle.cstar_tree.specs.declared.syntax.Tree.{Tree}
use Rattle.cstar_tree.specs.declared.typed.Instance.{Instance}
use Rattle.cstar_tree.specs.declared.typed.ShapeInfo.{ShapeInfo}
use Rattle.cstar_tree.specs.Calls.{Call}
use Rattle.cstar_tree.specs.FileScopes.{file_functions, file_known}
use Rattle.cstar_tree.specs.Headers as H
use Rattle.cstar_tree.specs.Headers.{Placed, Reached, behind_parameters, body_place, header_place, parameter_types, returns_of}
use Rattle.cstar_tree.specs.Instances.{calls_of, calls_of_placed, reached_by}
use Rattle.cstar_tree.specs.ProgramTypes.{IsBody, TypesParameters, TypesResult}
use Rattle.cstar_tree.specs.ProgramTypes as P
use Rattle.cstar_tree.specs.Scopes.{Here}
use Rattle.cstar_tree.specs.StatementTypes.{TypesBlock}
use Rattle.file_names.specs.Numbers.{StandsAt}
use Rattle.shape_types.proofs.BodyPlaces.{body_in_scope, is_placed, same_around}
use Rattle.shape_types.proofs.ReadyBodies.{function_at, ready_body}
use Rattle.shape_types.specs.Plain.{IsPlainTree}
use Rattle.shape_types.specs.Reached.{IsTypedInstance, IsWholeFile, site_of, with_instances}
use Rattle.type_expressions.proofs.CallsWithin.{beginning_same}
use Rattle.type_expressions.proofs.KeptHeaders.{kept_of_file}
use Rattle.type_expressions.specs.Instances.{AreHeaders, Grows, instance_of, kept_header, met}
use Rattle.type_expressions.specs.Meetings.{meeting}
use Rattle.type_expressions.specs.declared.found.Instances.{Instances}
use Rattle.type_scopes.specs.Bindings.{bindings}
use Rattle.type_scopes.specs.Headers.{IsHeader, function_of, in_item, listed_in, returned}
use Rattle.type_scopes.specs.declared.file.File.{File}
use Rattle.type_scopes.specs.declared.file.FunctionInfo.{FunctionInfo}
use Rattle.type_scopes.specs.declared.headers.Header.{Header}
use Rattle.type_scopes.specs.declared.headers.Reached as Kept
use Rattle.type_statements.specs.Meetings.{MeetsCallsOf}
use Rattle.type_statements.specs.Places.{IsInScope}
use Rattle.type_statements.specs.Walks.{IsTypedBlock}
use Rattle.type_statements.specs.declared.scopes.Scopes.{Scopes}

-- the instance is made of its kept header, its parameters, its result and its block
pub record IsMade (file : File) (old new : Instances) (r : Kept.Reached) (info : FunctionInfo) (function : Function) (i : Instance) : Type 0 where
  pub header : Header
  pub kept : kept_header old r ≡ Some header
  pub start : Scopes
  pub first : Scopes
  pub last : Scopes
  pub none : bindings start.locals ≡ []
  pub count : first.count ≡ 0
  pub names : (here : Here) → here.names.inner ≡ bindings start.locals → header.parameters.items ≡ parameter_types here 0 function.parameters.items → (behind_parameters here 0 function.parameters.items).names.inner ≡ bindings first.locals
  pub parameters : (here : Here) → here.names.inner ≡ bindings start.locals → header.parameters.items ≡ parameter_types here 0 function.parameters.items → TypesParameters here 0 function.parameters.items i.params.items
  pub once : (here : Here) → here.names.inner ≡ bindings start.locals → header.parameters.items ≡ parameter_types here 0 function.parameters.items → length (behind_parameters here 0 function.parameters.items).names.inner ≡ length here.names.inner + length function.parameters.items
  pub result : TypesResult function.name.word (returned header.returns) i.result
  pub block : IsTypedBlock new file first last (site_of info r header.returns) 0 function.body i.body
  pub calls : MeetsCallsOf old new file first (site_of info r header.returns) 0 function.body
  pub later : Grows file old new
  pub its_name : i.name ≡ function.name.word
  pub its_current : i.current ≡ r.current

-- ---- the function of the file

in_item_is : (i info : FunctionInfo) (item : Option Item) (function : Function) → in_item i item ≡ Some (info, function) → (i ≡ info) × (item ≡ Some (I.Function function))
in_item_is i info None function is = absurd (cc)
in_item_is i info (Some (I.Shapes p shapes)) function is = absurd (cc)
in_item_is i info (Some (I.Variables d)) function is = absurd (cc)
in_item_is i info (Some (I.Function f)) function is =
    let parts = some_pair_parts i info f function is in (parts.0, ap (λ (g : Function). Some (I.Function g)) parts.1)

listed_is : (items : List Item) (listed : Option FunctionInfo) (info : FunctionInfo) (function : Function) → listed_in items listed ≡ Some (info, function) → (listed ≡ Some info) × (slice_get items info.item ≡ Some (I.Function function))
listed_is items None info function is = absurd (cc)
listed_is items (Some i) info function is =
    let parts = in_item_is i info (slice_get items i.item) function is in
    (ap Some parts.0, ap (λ (k : FunctionInfo). slice_get items k.item) (sym parts.0) ∙ parts.1)

same_function : (f g : Function) → I.Function f ≡ I.Function g → f ≡ g
same_function f g is = cc

-- ---- the instance

made : (tree : Tree) (file : File) (old new : Instances) (r : Kept.Reached) (info : FunctionInfo) (placed : Placed) (i : Instance) → IsWholeFile tree file → IsPlainTree tree → AreHeaders file old
    → slice_get file.functions.items r.function ≡ Some info → slice_get (file_functions tree) r.function ≡ Some placed → StandsAt tree info placed → ((shape : ℕ) → r.current ≡ Some shape → shape < length (file_known tree).shapes)
    → IsMade file old new r info placed.function i → IsTypedInstance tree old new (instance_of r) i
unfolding calls_of
made tree file old new r info placed i whole plain headers listed is stands shape m = record {
  typed = λ all begins. record {
    placed = placed;
    is_function = is;
    its_name = m.its_name;
    its_current = m.its_current;
    parameters = m.parameters head (sym m.none) types;
    result = subst (λ (x : H.Returns). TypesResult placed.function.name.word x i.result) returns m.result;
    locals = m.block.locals.items;
    statements = m.block.statements.items;
    block = subst (λ (x : H.Returns). TypesBlock (with_instances tree all) x here placed.function.body m.block.locals.items m.block.statements.items) returns (m.block.typed (with_instances tree all) here place (ready_body tree file new all (instance_of r) placed whole plain (m.later.headers.0 headers) begins is));
    body = subst (IsBody m.block.locals.items m.block.statements.items) (sym m.block.is_block) (P.body m.block.locals m.block.statements refl refl);
  };
  calls =
      m.calls (with_instances tree (met new)) here r.function place (ready_body tree file new (met new) (instance_of r) placed whole plain (m.later.headers.0 headers) (beginning_same refl) is) (ap (λ (h : Here). h.around) (same_around head 0 placed.function.parameters.items))
      ∙ ap (λ (cs : List Call). meeting (met old) (reached_by cs)) (sym (ap (calls_of_placed (file_known tree).shapes (instance_of r)) is));
  parameters = λ other other_is.
      let once : length here.names.inner ≡ length placed.function.parameters.items = let all = m.once head (sym m.none) types in omega (arith, all) in
      subst (λ (p : Placed). length (body_place (file_known tree).shapes p (instance_of r)).names.inner ≡ length p.function.parameters.items) (same_Some placed other (sym is ∙ other_is)) once;
}
  where
    head : Here
    head = header_place (file_known tree).shapes placed (instance_of r)

    here : Here
    here = body_place (file_known tree).shapes placed (instance_of r)

    its : IsHeader placed r m.header
    its = kept_of_file file old r m.header headers m.kept placed (is_placed tree file r.function info placed whole.known listed stands)

    types : m.header.parameters.items ≡ parameter_types head 0 placed.function.parameters.items
    types = its.parameters (file_known tree).shapes

    returns : returned m.header.returns ≡ returns_of head placed.function.result
    returns = its.returns (file_known tree).shapes

    place : IsInScope file m.first (site_of info r m.header.returns) 0 here
    place = body_in_scope tree file m.first info placed r m.header.returns whole.known stands shape m.count (m.names head (sym m.none) types)

pub instance_made : (tree : Tree) (file : File) (old new : Instances) (r : Kept.Reached) (info : FunctionInfo) (function : Function) (i : Instance) → IsWholeFile tree file → IsPlainTree tree → AreHeaders file old
    → Some (info, function) ≡ function_of file r.function → ((shape : ℕ) → r.current ≡ Some shape → shape < length file.shapes.items)
    → IsMade file old new r info function i → IsTypedInstance tree old new (instance_of r) i
instance_made tree file old new r info function i whole plain headers found shape m =
    let listed = listed_is file.tree.now.items.items (slice_get file.functions.items r.function) info function (sym found) in
    let placed = function_at tree file r.function info whole listed.0 in
    let item : Some (I.Function function) ≡ Some (I.Function placed.0.function) = sym listed.1 ∙ (ap (λ (t : Tree). slice_get t.items.items info.item) whole.known.is_tree ∙ placed.2.is_item) in
    let same = same_function function placed.0.function (same_Some (I.Function function) (I.Function placed.0.function) item) in
    let long : length (file_known tree).shapes ≡ length file.shapes.items = ap (λ (l : List (List ℕ)). length l) whole.known.shapes ∙ length-map file.shapes.items (λ (s : ShapeInfo). s.extents.items) in
    made tree file old new r info placed.0 i whole plain headers listed.0 placed.1 placed.2 (λ s is. subst (λ (n : ℕ). s < n) (sym long) (shape s is)) (subst (λ (f : Function). IsMade file old new r info f i) same m)
