use Rattle.std.proofs.Common.{◌≡◌, map, take}
use Rattle.combine_core.specs.Encodings.{encoded_home}
use Rattle.combine_core.proofs.machine.Machine.new.Given as goal

abbrev pub invariant-loop-w : goal.invariant-loop-w
invariant-loop-w g l = l.cells.items ≡ map (encoded_home (g.C.Combine.combines l.combiner)) (take l.w-index l.fn.home.items)
