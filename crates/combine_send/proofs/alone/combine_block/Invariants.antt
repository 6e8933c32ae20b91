use Rattle.std.proofs.Common.{◌*◌}
use Rattle.combine_send.specs.Alone.{HasCombined}
use Rattle.combine_send.proofs.alone.combine_block.Given as goal

abbrev pub invariant-loop-i : goal.invariant-loop-i
invariant-loop-i g l = HasCombined (g.C.Combine.combines l.combiner) l.senders (512 * l.k) l.i l.initial.cells l.cells
