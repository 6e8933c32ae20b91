use Rattle.std.proofs.Common.{sym, subst}
use Rattle.combine_core.specs.Kept.{Kept}
use Rattle.combine_core.proofs.Steps.{opening_kept}
use Rattle.combine_core.proofs.phase.Phase.new.Goals as goal

pub invariant_of-result : goal.invariant_of-result
invariant_of-result g c =
    subst Kept (sym c.in_ok-machine.ensures.opening)
    (opening_kept (g.C.Combine.combines c.args.combiner) c.args.slots.items c.args.home.items
    record { rises = c.requires.senders; targets = c.requires.targets; words = c.new.ensures.words; few_slots = c.requires.few_slots; few_cells = c.requires.few_cells })
