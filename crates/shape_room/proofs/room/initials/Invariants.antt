use Rattle.std.proofs.Common.{List, map, drop}
use Rattle.cstar_tree.specs.declared.typed.LocalVar.{LocalVar}
use Rattle.cstar_tree.specs.Room.{expression_room, greatest}
use Rattle.cstar_tree.specs.TypedParts.{concat, optional}
use Rattle.shape_room.proofs.Counting.{IsGreatest}
use Rattle.shape_room.proofs.room.initials.Given as goal

abbrev pub invariant-loop-local : goal.invariant-loop-local
invariant-loop-local l =
    let rooms = λ (ls : List LocalVar). greatest (map (expression_room l.shape) (concat (map (λ (local : LocalVar). optional local.initial) ls))) in
    IsGreatest l.greatest (rooms (drop l.local-index l.locals)) (rooms l.locals)
