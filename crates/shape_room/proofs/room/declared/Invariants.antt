use Rattle.std.proofs.Common.{List, map, drop}
use Rattle.cstar_tree.specs.declared.typed.LocalVar.{LocalVar}
use Rattle.cstar_tree.specs.Room.{bits_of}
use Rattle.cstar_tree.specs.TypedParts.{total}
use Rattle.shape_room.proofs.Counting.{IsSum}
use Rattle.shape_room.proofs.room.declared.Given as goal

abbrev pub invariant-loop-local : goal.invariant-loop-local
invariant-loop-local l =
    let rooms = λ (ls : List LocalVar). total (map (λ (local : LocalVar). bits_of l.shape local.info) ls) in
    IsSum l.sum (rooms (drop l.local-index l.locals)) (rooms l.locals)
