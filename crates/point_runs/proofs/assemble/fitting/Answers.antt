use Rattle.std.proofs.Common.{◌<◌, ◌⊎◌, inl, inr, sym, subst, refl, arith}
use Rattle.point_runs.specs.declared.refusal.NoImage.{NoImage}
use Rattle.point_runs.specs.Assembled.{FitsMachine, RefusesListing}
use Rattle.point_runs.specs.Refusals.{TellsWhy}
use Rattle.point_runs.proofs.Refusing.{rules_why}
use Rattle.point_runs.proofs.assemble.fitting.Goals as goal
use Rattle.point_runs.proofs.assemble.fitting.Goals.{then-image-gt-MOST_SLOTS-via-then-image-gt-MOST_SLOTS, then-image-gt-MOST_SLOTS-via-else-image-gt-MOST_SLOTS+then-image-gt-MOST_SLOTS-2}

pub returns-then-image-gt-MOST_SLOTS-clause-refused : goal.returns-then-image-gt-MOST_SLOTS-clause-refused
returns-then-image-gt-MOST_SLOTS-clause-refused c =
    let over : (67108864 < c.args.image.slots) ⊎ (67108864 < c.args.image.depth) =
    elim c.then-image-gt-MOST_SLOTS.branch [
      | then-image-gt-MOST_SLOTS-via-then-image-gt-MOST_SLOTS w ↦ inl (omega arith)
      | then-image-gt-MOST_SLOTS-via-else-image-gt-MOST_SLOTS+then-image-gt-MOST_SLOTS-2 w ↦ inr (omega arith)
    ] in
    subst (λ (none : NoImage). TellsWhy (RefusesListing c.args.text.now) none) (sym c.refused.ensures) (refl, (c.args.image, c.requires.listed, c.requires.fits, over))

pub returns-clause-refused : goal.returns-clause-refused
returns-clause-refused c =
    let fits : FitsMachine c.args.image = record { sets = c.requires.fits; slots = omega arith; depth = omega arith } in
    rules_why c.args.text.now c.args.image c.checked.result c.requires.listed fits c.checked.ensures.refused
