use Rattle.std.proofs.Common.{◌≡◌, All, map, take}
use Rattle.block_store.specs.Stored.{shape_of_plan}
use Rattle.paris_code.specs.Shapes.{shape_of}
use Rattle.paris_code.specs.Sound.{IsShape}
use Rattle.paris_phases.proofs.machine.plans_for.Given as goal

abbrev pub invariant-shapes : goal.invariant-shapes
invariant-shapes l =
    (map shape_of_plan l.plans.items ≡ map shape_of (take l.shape-index l.shape-items))
    × All (λ plan. IsShape (shape_of_plan plan)) l.plans.items
