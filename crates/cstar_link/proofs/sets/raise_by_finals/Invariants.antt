use Rattle.std.proofs.Common.{[], ◌∷◌, take}
use Rattle.std.specs.List.{flat_map}
use Rattle.cstar_link.specs.Sets.{AreRaised, final_field}
use Rattle.cstar_link.proofs.sets.raise_by_finals.Given as goal

abbrev pub invariant-loop-last : goal.invariant-loop-last
invariant-loop-last l = AreRaised (flat_map (λ last. final_field last ∷ []) (take l.last-index l.finals)) l.initial.ends l.ends
