use Rattle.std.proofs.Common.{◌*◌, min}
use Rattle.combine_send.specs.Alone.{HasCombined}
use Rattle.combine_send.proofs.alone.combine_blocks.Given as goal

abbrev pub invariant-loop-k : goal.invariant-loop-k
invariant-loop-k g l = HasCombined (g.C.Combine.combines l.combiner) l.senders (512 * l.first) (min (512 * l.k) l.count) l.initial.cells l.cells
