-- Typed instances have no fault, where the names of their parameters are new.
use Rattle.std.proofs.Common.{◌≡◌, ◌+◌, ℕ, zero, suc, List, [], ◌∷◌, slice_get, Option, Some, None, refl, sym, subst, ◌∙◌}
use Rattle.std.proofs.lemmas.Option.{none-some, same_Some}
use Rattle.cstar_base.specs.declared.faults.Fault.{Fault}
use Rattle.cstar_base.specs.declared.operators.Place.{Place}
use Rattle.cstar_tree.specs.declared.syntax.Parameter.{Parameter}
use Rattle.cstar_tree.specs.declared.syntax.ResultType.{ResultType}
use Rattle.cstar_tree.specs.declared.typed.Instance.{Instance}
use Rattle.cstar_tree.specs.declared.typed.ValueType.{ValueType}
use Rattle.cstar_tree.specs.declared.typed.VarInfo.{VarInfo}
use Rattle.cstar_tree.specs.FileFaults.{InstanceFault, ParametersFault}
use Rattle.cstar_tree.specs.FileFaults as W
use Rattle.cstar_tree.specs.Headers.{Placed, Program, Reached, Returns, a_result, behind_parameter, header_place, returns_of, unknown}
use Rattle.cstar_tree.specs.ProgramTypes.{TypesInstance, TypesInstances, TypesParameters, TypesResult}
use Rattle.cstar_tree.specs.ProgramTypes as Y
use Rattle.cstar_tree.specs.Scopes.{Here, written_type}
use Rattle.faultless_files.proofs.NewNames.{NewParameters}
use Rattle.faultless_files.proofs.Declarations.{sound_type}
use Rattle.faultless_files.proofs.Statements.{block_typed, sound_block}

-- ---- headers

known_result : {word : List ℕ} {returns : Returns} {result : Option VarInfo} → TypesResult word returns result → returns ≡ unknown → ⊥
known_result Y.no_result is = absurd (cc)
known_result Y.TypesResult.result is = absurd (cc)

written_result : {word : List ℕ} {result : Option VarInfo} (ty : Option ValueType) → TypesResult word (a_result ty) result → (t : ValueType) × (ty ≡ Some t)
written_result None typed = absurd (known_result typed refl)
written_result (Some ty) typed = (ty, refl)

abbrev AreParameters : Here → ℕ → List Parameter → Type 0
AreParameters here number [] = Unit {0}
AreParameters here number (p ∷ ps) = (ty : ValueType) × (written_type here p.type_name ≡ Some ty) × ((rest : List VarInfo) × TypesParameters (behind_parameter here number p) (number + 1) ps rest)

parameters_typed : {here : Here} {number : ℕ} {ps : List Parameter} {infos : List VarInfo} → TypesParameters here number ps infos → AreParameters here number ps
parameters_typed Y.no_parameter = tt
parameters_typed (Y.next_parameter {ty = ty} {rest = rest} is more) = (ty, is, (rest, more))

sound_parameters : {here : Here} {number : ℕ} {ps : List Parameter} {fault : Fault} {p : Place} → ParametersFault here number ps fault p → (infos : List VarInfo) → TypesParameters here number ps infos → NewParameters here number ps → ⊥
unfolding NewParameters
sound_parameters (W.ParametersFault.written f) infos typed new = let all = parameters_typed typed in sound_type f all.0 all.1
sound_parameters (W.ParametersFault.redeclared {m = m} stands) infos typed new = none-some m (sym new.0 ∙ stands)
sound_parameters (W.ParametersFault.later f) infos typed new = let all = parameters_typed typed in sound_parameters f all.2.0 all.2.1 new.1

-- ---- instances

pub instance_at : {program : Program} {shapes : List (List ℕ)} {reached : List Reached} {instances : List Instance} → TypesInstances program shapes reached instances → (which : ℕ) (r : Reached) → slice_get reached which ≡ Some r
    → (i : Instance) × TypesInstance program shapes r i
instance_at Y.no_instance which r stands = elim (none-some r stands) [ ]
instance_at {program = program} {shapes = shapes} (Y.next_instance {r = first} {i = i} typed more) zero r stands = subst (λ (s : Reached). (j : Instance) × TypesInstance program shapes s j) (same_Some first r stands) (i, typed)
instance_at (Y.next_instance typed more) (suc which) r stands = instance_at more which r stands

module _ (program : Program) (shapes : List (List ℕ)) (r : Reached) where
  sound_in : {placed : Placed} {fault : Fault} {p : Place} → InstanceFault program shapes r placed fault p → (i : Instance) (typed : TypesInstance program shapes r i) → typed.placed ≡ placed
      → NewParameters (header_place shapes typed.placed r) 0 typed.placed.function.parameters.items → ⊥
  sound_in {fault = fault} {p = p} f i typed same new = by_fault (subst (λ (x : Placed). InstanceFault program shapes r x fault p) (sym same) f)
    where
      by_fault : {fault : Fault} {p : Place} → InstanceFault program shapes r typed.placed fault p → ⊥
      by_fault (W.InstanceFault.result {written = written} is f) =
          let here = header_place shapes typed.placed r in
          let known = written_result (written_type here written) (subst (λ (w : ResultType). TypesResult typed.placed.function.name.word (returns_of here w) i.result) is typed.result) in
          sound_type f known.0 known.1
      by_fault (W.InstanceFault.parameters f) = sound_parameters f i.params.items typed.parameters new
      by_fault (W.InstanceFault.body f) =
          let returns = returns_of (header_place shapes typed.placed r) typed.placed.function.result in
          sound_block program returns f (block_typed program returns typed.block)

  pub sound_instance : {placed : Placed} {fault : Fault} {p : Place} → InstanceFault program shapes r placed fault p → (i : Instance) → TypesInstance program shapes r i → slice_get program.functions r.function ≡ Some placed
      → NewParameters (header_place shapes placed r) 0 placed.function.parameters.items → ⊥
  sound_instance {placed = placed} f i typed is new =
      let same = same_Some typed.placed placed (sym typed.is_function ∙ is) in
      sound_in f i typed same (subst (λ (x : Placed). NewParameters (header_place shapes x r) 0 x.function.parameters.items) (sym same) new)
