-- The typed programs that a file becomes need the same room.
use Rattle.std.proofs.Common.{◌≡◌, max, ℕ, zero, suc, ◌+◌, ◌*◌, List, [], ◌∷◌, length, map, slice_get, refl, sym, ap, ap₂, ◌∙◌}
use Rattle.std.specs.List.{AllZip}
use Rattle.cstar_tree.specs.declared.typed.Instance.{Instance}
use Rattle.cstar_tree.specs.declared.typed.ShapeInfo.{ShapeInfo}
use Rattle.cstar_tree.specs.declared.typed.VarInfo.{VarInfo}
use Rattle.cstar_tree.specs.Instances.{program_of}
use Rattle.cstar_tree.specs.Room.{bits_of, blocks, greatest, instance_room, machine_bits, need, needs_from, with_called}
use Rattle.cstar_tree.specs.TypedParts.{calls_within, total}
use Rattle.faultless_files.proofs.Numbered.{programs_numbered}
use Rattle.faultless_files.specs.Laws.{TypedProgramsNeedTheSameRoom}
use Rattle.faultless_files.proofs.SameInstances.{InstancesAlike, same_instances}
use Rattle.faultless_files.proofs.SameItems.{SameExtents, same_items}

-- ---- the rooms of instances

same_length : (is js : List Instance) → AllZip InstancesAlike is js → length is ≡ length js
same_length [] [] all = refl
same_length [] (j ∷ js) all = absurd all
same_length (i ∷ is) [] all = absurd all
same_length (i ∷ is) (j ∷ js) all = ap suc (same_length is js all.1)

same_greatest : (f g : ℕ → ℕ) → ((n : ℕ) → f n ≡ g n) → (ns : List ℕ) → greatest (map f ns) ≡ greatest (map g ns)
unfolding greatest
same_greatest f g same [] = refl
same_greatest f g same (n ∷ ns) = ap₂ max (same n) (same_greatest f g same ns)

same_called : (shape : ℕ) (f g : ℕ → ℕ) → ((n : ℕ) → f n ≡ g n) → (is js : List Instance) → AllZip InstancesAlike is js → (number : ℕ) → with_called shape f (slice_get is number) ≡ with_called shape g (slice_get js number)
unfolding with_called
same_called shape f g same [] [] all number = refl
same_called shape f g same [] (j ∷ js) all number = absurd all
same_called shape f g same (i ∷ is) [] all number = absurd all
same_called shape f g same (i ∷ is) (j ∷ js) all zero =
    ap₂ (λ (n m : ℕ). n + m) (all.0.rooms shape) (same_greatest f g same (calls_within i.body) ∙ ap (λ (ns : List ℕ). greatest (map g ns)) all.0.calls)
same_called shape f g same (i ∷ is) (j ∷ js) all (suc number) = same_called shape f g same is js all.1 number

same_room : (calls shape : ℕ) (is js : List Instance) → AllZip InstancesAlike is js → (number : ℕ) → instance_room calls shape is number ≡ instance_room calls shape js number
unfolding instance_room
same_room zero shape is js all number = refl
same_room (suc calls) shape is js all number = same_called shape (instance_room calls shape is) (instance_room calls shape js) (same_room calls shape is js all) is js all number

same_need : (v w : List VarInfo) (is js : List Instance) → v ≡ w → AllZip InstancesAlike is js → (shape : ℕ) → need v is shape ≡ need w js shape
unfolding need
same_need v w is js same all shape =
    ap₂ (λ (n m : ℕ). n + m) (ap (λ (vars : List VarInfo). 2 + total (map (bits_of shape) vars)) same)
    (ap (λ (calls : ℕ). instance_room calls shape is 0) (same_length is js all) ∙ same_room (length js) shape is js all 0)

-- ---- the room of all shapes

machine_same : (v w : List VarInfo) (is js : List Instance) → ((shape : ℕ) → need v is shape ≡ need w js shape) → (number : ℕ) (a b : List ShapeInfo) → AllZip SameExtents a b
    → machine_bits a (needs_from v is number a) ≡ machine_bits b (needs_from w js number b)
unfolding machine_bits needs_from
machine_same v w is js same number [] [] all = refl
machine_same v w is js same number [] (y ∷ b) all = absurd all
machine_same v w is js same number (x ∷ a) [] all = absurd all
machine_same v w is js same number (x ∷ a) (y ∷ b) all =
    ap₂ (λ (n m : ℕ). n + m) (ap₂ (λ (n : ℕ) (ns : List ℕ). n * 512 * blocks ns) (same number) all.0) (machine_same v w is js same (number + 1) a b all.1)

pub same_machine_bits : TypedProgramsNeedTheSameRoom
same_machine_bits tree a b x y =
    let items = same_items x.items y.items in
    let instances = same_instances (program_of tree) (programs_numbered tree) x.instances y.instances in
    ap (machine_bits a.shapes.items) x.needs
    ∙ machine_same a.vars.items b.vars.items a.instances.items b.instances.items (same_need a.vars.items b.vars.items a.instances.items b.instances.items items.variables instances) 0 a.shapes.items b.shapes.items items.shapes
    ∙ ap (machine_bits b.shapes.items) (sym y.needs)
