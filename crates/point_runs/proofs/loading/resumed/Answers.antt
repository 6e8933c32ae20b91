use Rattle.std.proofs.Common.{ℕ, List, length, ap, arith}
use Rattle.point_runs.proofs.Points.{listing_within, state_points_in}
use Rattle.point_runs.proofs.loading.resumed.Goals as goal

pub returns-in-Ok-clause-refused : goal.returns-in-Ok-clause-refused
returns-in-Ok-clause-refused c =
    state_points_in c.args.text.items c.in-Ok.point c.started.result c.in-Ok.ensures.point c.started.ensures.refused

pub started-requires : goal.started-requires
started-requires c =
    let is = c.in-Ok.ensures.point in
    omega (arith, listing_within c.in-Ok.point, ap (λ (bytes : List ℕ). length bytes) is.bytes, is.within)
