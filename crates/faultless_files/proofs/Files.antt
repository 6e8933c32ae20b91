-- A typed file that is well formed has no fault; it is accepted where it has room, and else refused for
-- want of it.
use Rattle.std.proofs.Common.{◌≡◌, ◌≤◌, ◌^◌, ℕ, List, [], length, refl, ap, subst, arith, Bool, true, false, ◌==◌, nat_lt, if◌then◌else◌}
use Rattle.std.proofs.lemmas.Bool.Decides.{nat_tests}
use Rattle.cstar_base.specs.declared.faults.Fault.{Fault}
use Rattle.cstar_base.specs.declared.faults.Fault.TheVariants as F
use Rattle.cstar_base.specs.declared.operators.Place.{Place}
use Rattle.cstar_tree.specs.declared.typed.Instance.{Instance}
use Rattle.cstar_base.specs.Faults.{number_of}
use Rattle.cstar_tree.specs.FaultOrder.{comes_before}
use Rattle.cstar_tree.specs.FileFaults.{FaultOf, Stands}
use Rattle.cstar_tree.specs.FileFaults as W
use Rattle.cstar_tree.specs.FileScopes.{file_functions, file_known, functions_named, nothing_known}
use Rattle.cstar_tree.specs.Headers.{Program, Reached, header_place}
use Rattle.cstar_tree.specs.Instances.{instances_from, program_of}
use Rattle.cstar_tree.specs.ProgramTypes.{TypesFile, TypesInstances}
use Rattle.cstar_tree.specs.ProgramTypes as Y
use Rattle.faultless_files.specs.Laws.{FilesWithoutRoomAreRefused, TypedFilesAreAccepted, TypedFilesHaveNoFault}
use Rattle.faultless_files.proofs.FileInstances.{instance_at, sound_instance}
use Rattle.faultless_files.proofs.NewNames.{new_items, new_parameters}
use Rattle.faultless_files.proofs.SameRooms.{same_machine_bits}
use Rattle.faultless_files.proofs.FileItems.{sound_items}

no_instances : {program : Program} {shapes : List (List ℕ)} {reached : List Reached} {instances : List Instance} → TypesInstances program shapes reached instances → reached ≡ [] → length instances ≡ 0
no_instances Y.no_instance is = refl
no_instances (Y.next_instance typed more) is = absurd (cc)

pub files_sound : TypedFilesHaveNoFault
files_sound tree typed types is_typed well fault p f = by_fault f
  where
    by_fault : {fault : Fault} {p : Place} → FaultOf tree fault p → ⊥
    by_fault (W.FaultOf.in_items f) =
        let few = is_typed.few_shapes in
        let as_many = well.named.names in
        sound_items (program_of tree) (functions_named tree) f typed.shapes.items typed.vars.items types.items
        (new_items (functions_named tree) nothing_known tree.items.items (omega (arith, as_many))) (omega (arith, few))
    by_fault (W.FaultOf.in_instance {r = r} {placed = placed} which is function f) =
        let it = instance_at types.instances which r is in
        let as_many = well.named.parameters r placed (record { which = which; is_instance = is; is_function = function }) in
        sound_instance (program_of tree) (file_known tree).shapes r f it.0 it.1 function
        (new_parameters (header_place (file_known tree).shapes placed r) 0 placed.function.parameters.items (omega (arith, as_many)))
    by_fault (W.FaultOf.absent_main none) =
        let main = is_typed.main in
        let nothing : length typed.instances.items ≡ 0 = no_instances types.instances (ap (instances_from (file_known tree).shapes (file_functions tree)) none) in
        absurd (omega (arith, main, nothing))
    by_fault (W.FaultOf.no_main {f = g} {placed = placed} is function f) = well.named.main g placed is function f
    by_fault (W.FaultOf.too_many_nodes many) = let few = well.few_nodes in absurd (omega (arith, few, many))

pub files_accepted : TypedFilesAreAccepted
files_accepted tree typed types is_typed well room = record { no_fault = none_stands; types = types }
  where
    none_stands : (fault : Fault) (p : Place) → Stands tree fault p → ⊥
    none_stands fault p (W.Stands.of_file f) = files_sound tree typed types is_typed well fault p f
    none_stands fault p (W.Stands.no_room {typed = other} none others no_room) = no_room (subst (λ (bits : ℕ). bits ≤ 2 ^ 30) (same_machine_bits tree typed other types others) room)

-- ---- without room

not_below : (n : ℕ) → nat_lt n n ≡ false
not_below n = grind (arith, nat_tests)

either_false : (b c d : Bool) → c ≡ false → d ≡ false → (if b then c else d) ≡ false
either_false true c d first second = first
either_false false c d first second = second

-- no fault comes before itself
not_before : (fault : Fault) (p : Place) → comes_before fault p fault p ≡ false
not_before fault p =
    either_false (p.line == p.line) (if p.col == p.col then nat_lt (number_of fault) (number_of fault) else nat_lt p.col p.col) (nat_lt p.line p.line)
    (either_false (p.col == p.col) (nat_lt (number_of fault) (number_of fault)) (nat_lt p.col p.col) (not_below (number_of fault)) (not_below p.col))
    (not_below p.line)

pub files_refused : FilesWithoutRoomAreRefused
files_refused tree typed types is_typed well no_room = record { stands = W.Stands.no_room none types no_room; least = least }
  where
    none : (fault : Fault) (p : Place) → FaultOf tree fault p → ⊥
    none fault p f = files_sound tree typed types is_typed well fault p f

    least : (other : Fault) (q : Place) → Stands tree other q → comes_before other q F.Space tree.end ≡ false
    least other q (W.Stands.of_file f) = absurd (none other q f)
    least other q (W.Stands.no_room nothing others full) = not_before F.Space tree.end
