use Rattle.std.proofs.Common.{List, map, drop}
use Rattle.cstar_tree.specs.declared.typed.LocalVar.{LocalVar}
use Rattle.cstar_tree.specs.TypedParts.{calls_in, concat, optional}
use Rattle.shape_room.proofs.AddedCalls.{IsBegun}
use Rattle.shape_room.proofs.calls.initials.Given as goal

abbrev pub invariant-loop-local : goal.invariant-loop-local
invariant-loop-local l =
    let calls = λ (ls : List LocalVar). concat (map calls_in (concat (map (λ (local : LocalVar). optional local.initial) ls))) in
    IsBegun l.fn.called.items l.called.items (calls (drop l.local-index l.locals)) (calls l.locals)
