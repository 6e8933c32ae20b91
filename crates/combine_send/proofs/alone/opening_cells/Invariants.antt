use Rattle.std.proofs.Common.{◌≡◌, map, take}
use Rattle.combine_core.specs.Encodings.{encoded_home}
use Rattle.combine_send.proofs.alone.opening_cells.Given as goal

abbrev pub invariant-loop-word : goal.invariant-loop-word
invariant-loop-word g l = l.cells.items ≡ map (encoded_home (g.C.Combine.combines l.combiner)) (take l.word-index l.home)
