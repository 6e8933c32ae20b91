-- The bits of a unit are below those of every unit that a chain of calls leads to.
use Rattle.std.proofs.Common.{ℕ, ◌<◌, ◌≤◌, List, [], ◌∷◌, length, ap, arith}
use Rattle.paris_code.specs.declared.program.Program.{Program}
use Rattle.paris_code.specs.Proper.{EndsWith, IsCallChain}
use Rattle.field_alloc.specs.Placed.{AreCallersBelow, IsPlaced, of_set}

-- the bases along a chain do not fall
bases_rise : (before after : Program) (p : IsPlaced before after) (set first last : ℕ) (chain : List ℕ) → set < length before.shapes.items → IsCallChain before (first ∷ chain) → EndsWith last (first ∷ chain) → of_set p.bases first set ≤ of_set p.bases last set
bases_rise before after p set first last [] in_sets calls ends = omega (arith, ap (λ k. of_set p.bases k set) ends)
bases_rise before after p set first last (next ∷ chain) in_sets calls ends =
    let call = calls.0 in
    let b = p.behind first next call.1.0 set call.0 call.1.1 call.1.2 in_sets in
    let r = bases_rise before after p set next last chain in_sets calls.1 ends in
    omega arith

pub callers_below : (before after : Program) (p : IsPlaced before after) → AreCallersBelow before p.places
callers_below before after p caller next last chain unit owner calls ends is_unit is_owner entry other set len over used in_sets is_entry is_other in_code in_use =
    let call = calls.0 in
    let u = p.under caller entry set len used unit is_unit in_sets is_entry in_code in_use in
    let b = p.behind caller next call.1.0 set call.0 call.1.1 call.1.2 in_sets in
    let r = bases_rise before after p set next last chain in_sets calls.1 ends in
    let a = p.above last other set over owner is_owner in_sets is_other in
    omega arith
