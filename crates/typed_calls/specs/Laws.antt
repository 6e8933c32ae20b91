-- The law: the calls of a typed program have no cycle.
use Rattle.std.specs.Prelude.{◌≡◌, ℕ, List, map, slice_get, Some}
use Rattle.std.specs.List.{Contains}
use Rattle.cstar_tree.specs.declared.typed.Instance.{Instance}
use Rattle.cstar_tree.specs.Calls.{Call, calls_in_block}
use Rattle.cstar_tree.specs.Headers.{Leads, Placed, Program, Reached, body_place}
use Rattle.cstar_tree.specs.ProgramTypes.{TypesInstances}
use Rattle.cstar_tree.specs.TypedParts.{calls_within}
use Rattle.shape_room.specs.CallOrders.{HasNoCycle}

-- each function calls what the calls of its body name
abbrev pub BodiesCall : Program → List (List ℕ) → Type 0
BodiesCall program shapes =
    (r : Reached) (placed : Placed) (c : Call) → slice_get program.functions r.function ≡ Some placed → Contains (calls_in_block placed.function.body (body_place shapes placed r)) c →
    Leads program.calls r.function c.function

abbrev pub TypedProgramsHaveNoCycle : Type 0
TypedProgramsHaveNoCycle =
    (program : Program) (shapes : List (List ℕ)) (instances : List Instance) → BodiesCall program shapes → TypesInstances program shapes program.instances instances →
    HasNoCycle (map (λ (i : Instance). calls_within i.body) instances)
