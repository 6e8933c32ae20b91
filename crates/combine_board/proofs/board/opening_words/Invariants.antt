use Rattle.std.proofs.Common.{◌≡◌, ◌∷◌, map, take}
use Rattle.combine_core.specs.Encodings.{encoded_home}
use Rattle.combine_board.proofs.board.opening_words.Given as goal

abbrev pub invariant-loop-w : goal.invariant-loop-w
invariant-loop-w g l = l.words.items ≡ 0 ∷ map (encoded_home (g.C.Combine.combines l.combiner)) (take l.w-index l.home)
