use Rattle.std.proofs.Common.{◌*◌, length, min}
use Rattle.combine_send.specs.Alone.{HasCombined}
use Rattle.combine_send.proofs.apart.combine_apart.Given as goal

abbrev pub invariant-loop-part : goal.invariant-loop-part
invariant-loop-part g l = HasCombined (g.C.Combine.combines l.combiner) l.senders 0 (min (512 * (length l.yielded * l.size)) l.fn.count) l.initial.cells l.cells
