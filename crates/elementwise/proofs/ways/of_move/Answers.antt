use Rattle.std.proofs.Common.{sym, subst}
use Rattle.elementwise.specs.declared.ways.Way.{Way}
use Rattle.elementwise.specs.Ways.{IsWayOf}
use Rattle.elementwise.proofs.Copies.{copies, resizes}
use Rattle.elementwise.proofs.ways.of_move.Goals as goal

pub returns-then-dest-source : goal.returns-then-dest-source
returns-then-dest-source c = λ shapes args instr moves.
    subst (λ (w : Way). IsWayOf shapes instr args w) (sym c.of_one.ensures) (copies shapes instr args c.args.signed c.args.dest c.args.source c.if-dest-source.true moves)

pub returns-else-dest-source : goal.returns-else-dest-source
returns-else-dest-source c = λ shapes args instr moves. resizes shapes instr args c.args.signed c.args.dest c.args.source moves
