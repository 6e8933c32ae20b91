-- In a file without shapes what the rules of typing allow to be called may be called: with arguments that the
-- parameters take, for a result that there is, and never `main`, which leads to every function that is reached.
use Rattle.std.proofs.Common.{◌≡◌, ◌<◌, ℕ, zero, suc, ◌+◌, Bool, List, [], ◌∷◌, map, Option, Some, None, IfSome, inl, inr, refl, sym, ap, ◌∙◌, subst, arith}
use Rattle.std.specs.List.{All, Contains, slice_get}
use Rattle.std.proofs.lemmas.List.Elements.{All-contains_itself, All-nil, All-weaker}
use Rattle.std.proofs.lemmas.Option.{none-some, same_Some}
use Rattle.cstar_base.specs.declared.elem.Elem.{Elem}
use Rattle.cstar_tree.specs.declared.syntax.Parameter.{Parameter}
use Rattle.cstar_tree.specs.declared.syntax.Tree.{Tree}
use Rattle.cstar_tree.specs.declared.typed.Instance.{Instance}
use Rattle.cstar_tree.specs.declared.typed.Typed.{Typed}
use Rattle.cstar_tree.specs.declared.typed.ValueType.{ValueType}
use Rattle.cstar_tree.specs.declared.typed.VarInfo.{VarInfo}
use Rattle.cstar_tree.specs.Calls.{Call}
use Rattle.cstar_tree.specs.ExpressionTypes.{Gives, result_known}
use Rattle.cstar_tree.specs.ExpressionTypes as E
use Rattle.cstar_tree.specs.FileScopes.{file_functions, file_known}
use Rattle.cstar_tree.specs.Headers.{Leads, Placed, Reached, Returns, a_value, behind_parameter, header_place, is_it, parameter_types, returns_of}
use Rattle.cstar_tree.specs.Instances.{calls_of, calls_of_placed, instances_of, main_of, program_of}
use Rattle.cstar_tree.specs.ProgramTypes.{TypesFile, TypesInstance, TypesParameters, TypesResult, plain_info}
use Rattle.cstar_tree.specs.ProgramTypes as Y
use Rattle.cstar_tree.specs.Scopes.{Here, written_type}
use Rattle.cstar_tree.specs.TypedParts.{calls_within}
use Rattle.code_follows.specs.Fragment.{AreTaken, IsResult, Takes, may_of, nothing_beside}
use Rattle.code_lengths.proofs.Declaring.{all_at}
use Rattle.program_laws.proofs.Bodies.{blocks_call}
use Rattle.call_graph.proofs.WalkLemmas.{leads_on}
use Rattle.scalar_texts.specs.Places.{AllowsCalls, IsUsed}
use Rattle.scalar_texts.proofs.InstancesMet.{all_met, at_reached}

-- ---- from `main` on

module _ (tree : Tree) where
  -- what a function leads to goes on with the calls of its body
  leads_to_calls : (f : ℕ) (r : Reached) → Leads (program_of tree).calls f r.function → All (λ (c : Call). Leads (program_of tree).calls f c.function) (calls_of (file_known tree).shapes (file_functions tree) r)
  unfolding calls_of
  leads_to_calls f r leads = by_function (slice_get (file_functions tree) r.function) refl
    where
      by_function : (found : Option Placed) → slice_get (file_functions tree) r.function ≡ found → All (λ (c : Call). Leads (program_of tree).calls f c.function) (calls_of_placed (file_known tree).shapes r found)
      by_function None found = All-nil (λ (c : Call). Leads (program_of tree).calls f c.function)
      by_function (Some placed) found =
          let cs = calls_of_placed (file_known tree).shapes r (Some placed) in
          All-weaker (Contains cs) (λ (c : Call). Leads (program_of tree).calls f c.function) (λ c among. leads_on leads (blocks_call tree r placed found c among)) cs (All-contains_itself cs)

  main_leads : (number : ℕ) (r first : Reached) → slice_get (instances_of tree) 0 ≡ Some first → slice_get (instances_of tree) number ≡ Some r → Leads (program_of tree).calls first.function r.function
  main_leads number r first at_first at =
      all_at (λ (r : Reached). Leads (program_of tree).calls first.function r.function) (instances_of tree) number r
      (all_met (file_known tree).shapes (file_functions tree) (λ (r : Reached). Leads (program_of tree).calls first.function r.function) (leads_to_calls first.function) (main_of tree) first at_first is_it) at

-- ---- arguments and results

taken : {here : Here} {number : ℕ} {ps : List Parameter} {infos : List VarInfo} → TypesParameters here number ps infos → (types : List ValueType) → parameter_types here number ps ≡ map Some types → AreTaken infos (map (λ (ty : ValueType). ty.elem) types)
unfolding parameter_types
taken Y.no_parameter [] are = tt
taken Y.no_parameter (t ∷ types) are = absurd (cc)
taken (Y.next_parameter is more) [] are = absurd (cc)
taken (Y.next_parameter {here = here} {number = number} {p = p} {ps = ps} {ty = ty} is more) (t ∷ types) are =
    let own : written_type here p.type_name ≡ Some t = cc in
    let rest : parameter_types (behind_parameter here number p) (number + 1) ps ≡ map Some types = cc in
    (inl (ap (λ (ty : ValueType). ty.elem) (same_Some t ty (sym own ∙ is))), taken more types rest)

-- the value that a call is for
used_result : {word : List ℕ} {returns : Returns} {result : Option VarInfo} {ty : ValueType} {has_value : Bool} → TypesResult word returns result → Gives returns ty has_value → (used : Option Elem) → IsUsed used ty has_value → IfSome used (λ elem. IsResult result elem)
used_result {result = result} typed gives used (inl none) = subst (λ (used : Option Elem). IfSome used (λ elem. IsResult result elem)) (sym none) tt
used_result Y.no_result E.no_value used (inr is) = absurd (let no = is.0 in cc)
used_result {word = word} (Y.result {ty = ty}) E.value used (inr is) =
    subst (λ (used : Option Elem). IfSome used (λ elem. IsResult (Some (plain_info word ty)) elem)) (sym is.1) (plain_info word ty, (refl, inl refl))

-- what is returned is one of the result's type
pub returned : {word : List ℕ} {returns : Returns} {result : Option VarInfo} → TypesResult word returns result → (ty : ValueType) → returns ≡ a_value ty → (info : VarInfo) → result ≡ Some info → Takes info.elem ty.elem
returned Y.no_result ty is info found = elim (none-some info found) [ ]
returned {word = word} (Y.result {ty = own}) ty is info found =
    inl (ap (λ (ty : ValueType). ty.elem) (sym (same_Some own ty (ap result_known is))) ∙ ap (λ (info : VarInfo). info.elem) (same_Some (plain_info word own) info found))

-- ---- calls

module _ (tree : Tree) (typed : Typed) (file : TypesFile tree typed) where
  abbrev shapes : List (List ℕ)
  shapes = (file_known tree).shapes

  -- instance 0 is not called: it is `main`'s
  not_first : (number : ℕ) (r : Reached) (index : ℕ) (callee : Reached) → slice_get (instances_of tree) number ≡ Some r → slice_get (instances_of tree) index ≡ Some callee → (Leads (program_of tree).calls callee.function r.function → ⊥) → 0 < index
  not_first number r zero callee at at_callee no_way = elim (no_way (main_leads tree number r callee at_callee at)) [ ]
  not_first number r (suc index) callee at at_callee no_way = omega arith

  pub calls_allowed : (number : ℕ) (r : Reached) (i : Instance) → slice_get (instances_of tree) number ≡ Some r → AllowsCalls (program_of tree) shapes r.function (Contains (calls_within i.body)) (may_of nothing_beside typed i).calls
  calls_allowed number r i at f index placed types ty has_value used is_function no_way called at_index parameters_are gives is_used =
      let callee = at_reached file.instances index (record { function = f; current = None }) at_index in
      let is = callee.2 in
      let same : is.placed ≡ placed = same_Some is.placed placed (sym is.is_function ∙ is_function) in
      let here = λ (placed : Placed). header_place shapes placed (record { function = f; current = None }) in
      let parameters = subst (λ (placed : Placed). TypesParameters (here placed) 0 placed.function.parameters.items callee.0.params.items) same is.parameters in
      let result = subst (λ (placed : Placed). TypesResult placed.function.name.word (returns_of (here placed) placed.function.result) callee.0.result) same is.result in
      (callee.0, (callee.1, not_first number r index (record { function = f; current = None }) at at_index no_way, called, used_result result gives used is_used, taken parameters types parameters_are))
