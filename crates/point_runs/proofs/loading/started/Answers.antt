use Rattle.std.proofs.Common.{List, ℕ, subst, sym, refl}
use Rattle.point_runs.specs.declared.refusal.NoImage.{NoImage}
use Rattle.point_runs.specs.Assembled.{IsListed, RefusesPart}
use Rattle.point_runs.specs.Points.{CanGoOn, RefusesState, kept_in}
use Rattle.point_runs.specs.Refusals.{TellsWhy}
use Rattle.point_runs.proofs.Points.{part_states}
use Rattle.point_runs.proofs.loading.started.Goals as goal

pub returns-in-Err-clause-refused : goal.returns-in-Err-clause-refused
returns-in-Err-clause-refused c =
    part_states c.args.point c.in-Err.no_image (subst (λ (text : List ℕ). TellsWhy (RefusesPart text) c.in-Err.no_image) c.bytes.ensures c.in-Err.ensures.refused)

pub returns-then-not-can_go_on-clause-refused : goal.returns-then-not-can_go_on-clause-refused
returns-then-not-can_go_on-clause-refused c =
    let point = c.args.point in
    let image = c.in-Ok.sound in
    let listed = subst (λ (text : List ℕ). IsListed text image) c.bytes.ensures c.in-Ok.ensures.listed in
    let not = λ (goes : CanGoOn image (kept_in point) point.bits). c.if-not-can_go_on.ensures (subst (λ (bits : List ℕ). CanGoOn image (kept_in point) bits) (sym c.bytes-2.ensures) goes) in
    subst (λ (none : NoImage). TellsWhy (RefusesState point) none) (sym c.refused.ensures) (refl, (image, (c.in-Ok.ensures.sound, c.in-Ok.ensures.listable, listed, c.in-Ok.ensures.fits), not))
