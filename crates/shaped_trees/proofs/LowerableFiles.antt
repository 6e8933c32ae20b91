-- The instances of a typed file have lowerable bodies.
use Rattle.std.proofs.Common.{◌≡◌, ℕ, ◌+◌, zero, suc, false, List, [], ◌∷◌, slice_get, Option, Some, unwrap_or, refl, ap, ◌∙◌, sym, subst}
use Rattle.std.specs.List.{All}
use Rattle.std.proofs.lemmas.List.Elements.{All-nil, All-cons}
use Rattle.std.proofs.lemmas.Option.{none-some}
use Rattle.cstar_tree.specs.declared.syntax.Parameter.{Parameter}
use Rattle.cstar_tree.specs.declared.syntax.Tree.{Tree}
use Rattle.cstar_tree.specs.declared.typed.Instance.{Instance}
use Rattle.cstar_tree.specs.declared.typed.LocalVar.{LocalVar}
use Rattle.cstar_tree.specs.declared.typed.TStmt.{TStmt}
use Rattle.cstar_tree.specs.declared.typed.Typed.{Typed}
use Rattle.cstar_tree.specs.declared.typed.VarInfo.{VarInfo}
use Rattle.cstar_tree.specs.Headers.{Placed, Program, Reached, behind_parameter, behind_parameters, header_place, returns_of}
use Rattle.cstar_tree.specs.ProgramTypes.{IsBody, TypesFile, TypesInstance, TypesInstances, TypesParameters, TypesResult}
use Rattle.cstar_tree.specs.ProgramTypes as Y
use Rattle.cstar_tree.specs.Scopes.{Here}
use Rattle.shaped_trees.specs.Casts.{NamesShapes}
use Rattle.shaped_trees.specs.Laws.{HasLowerableBody}
use Rattle.code_lengths.proofs.Declaring.{all_at}
use Rattle.code_lengths.specs.LowerableStatements.{IsLowerableLocal, IsLowerableStatement}
use Rattle.shaped_trees.specs.Places.{HasInstance, IsInside}
use Rattle.shaped_trees.proofs.FileShapes.{IsFit, body_sound, placed_fit}
use Rattle.shaped_trees.proofs.Known.{MeansParallel, function_is_parallel}
use Rattle.shaped_trees.proofs.LowerableStatements.{parts_lowerable}
use Rattle.shaped_trees.proofs.Meanings.{functions_mean}
use Rattle.shaped_trees.proofs.Rows.{block_lowerable}

-- the instance of a number
instance_at : {program : Program} {shapes : List (List ℕ)} {rs : List Reached} {is : List Instance} → TypesInstances program shapes rs is → (number : ℕ) (r : Reached) → slice_get rs number ≡ Some r →
    (i : Instance) × (slice_get is number ≡ Some i) × TypesInstance program shapes r i
instance_at Y.no_instance number r found = elim (none-some r found) [ ]
instance_at {program = program} {shapes = shapes} (Y.next_instance {i = i} typed more) zero r found =
    (i, refl, subst (λ (r : Reached). TypesInstance program shapes r i) (ap (λ (o : Option Reached). unwrap_or o r) found) typed)
instance_at (Y.next_instance typed more) (suc number) r found = instance_at more number r found

has_instance : {program : Program} {shapes : List (List ℕ)} (typed : Typed) → TypesInstances program shapes program.instances typed.instances.items → (number : ℕ) (r : Reached) (placed : Placed) →
    slice_get program.instances number ≡ Some r → slice_get program.functions r.function ≡ Some placed → HasInstance typed shapes number r placed
has_instance {shapes = shapes} typed all number r placed found known =
    let at = instance_at all number r found in
    let i = at.0 in
    let is = at.2 in
    let same : is.placed ≡ placed = ap (λ (o : Option Placed). unwrap_or o placed) (sym is.is_function ∙ known) in
    record {
      instance = i;
      found = at.1;
      parameters = subst (λ (placed : Placed). TypesParameters (header_place shapes placed r) 0 placed.function.parameters.items i.params.items) same is.parameters;
      result = subst (λ (placed : Placed). TypesResult placed.function.name.word (returns_of (header_place shapes placed r) placed.function.result) i.result) same is.result;
    }

-- the place behind parameters is in the same function
behind_them : {program : Program} {typed : Typed} (here : Here) (number : ℕ) (ps : List Parameter) → IsInside program typed here → here.whole ≡ false →
    IsInside program typed (behind_parameters here number ps) × ((behind_parameters here number ps).whole ≡ false)
unfolding behind_parameters
behind_them here number [] k not_whole = (k, not_whole)
behind_them here number (p ∷ ps) k not_whole = behind_them (behind_parameter here number p) (number + 1) ps (record { around = k.around; instances = k.instances }) not_whole

body_lowerable : {locals : List LocalVar} {statements : List TStmt} {t : TStmt} (typed : Typed) (result : Option VarInfo) → IsBody locals statements t →
    All (IsLowerableLocal typed) locals → All (IsLowerableStatement typed result) statements → IsLowerableStatement typed result t
body_lowerable typed result (Y.body ls ss same_locals same_statements) locals statements =
    block_lowerable typed result ls ss (subst (All (IsLowerableLocal typed)) (sym same_locals) locals) (subst (All (IsLowerableStatement typed result)) (sym same_statements) statements)

module _ (program : Program) (shapes : List (List ℕ)) (typed : Typed) (all : TypesInstances program shapes program.instances typed.instances.items) (fit : All IsFit program.functions) where
  instance_lowerable : (r : Reached) (i : Instance) → TypesInstance program shapes r i → HasLowerableBody typed i
  instance_lowerable r i is =
      let own = all_at IsFit program.functions r.function is.placed fit is.is_function in
      let there = behind_them (header_place shapes is.placed r) 0 is.placed.function.parameters.items (record { around = refl; instances = has_instance typed all }) refl in
      let parts = parts_lowerable program typed is.result is.block (record { sound = body_sound shapes is.placed r own.arrays; inside = there.0; not_whole = there.1 }) own.casts in
      body_lowerable typed i.result is.body parts.0 parts.1

  instances_lowerable : {rs : List Reached} {is : List Instance} → TypesInstances program shapes rs is → All (HasLowerableBody typed) is
  instances_lowerable Y.no_instance = All-nil (HasLowerableBody typed)
  instances_lowerable (Y.next_instance {r = r} {i = i} {is = is} own more) = All-cons (HasLowerableBody typed) i is (instance_lowerable r i own) (instances_lowerable more)

pub file_lowerable : (tree : Tree) (typed : Typed) → NamesShapes tree → TypesFile tree typed → All (HasLowerableBody typed) typed.instances.items
file_lowerable tree typed w file =
    instances_lowerable _ _ typed file.instances (placed_fit file.items (functions_mean MeansParallel function_is_parallel [] 0 tree.items.items) w) file.instances
