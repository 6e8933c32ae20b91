use Rattle.std.proofs.Common.{◌<◌, length, arith}
use Rattle.field_alloc.proofs.stretches.behind_ends.Goals as goal

pub returns : goal.returns
returns c = λ k at stretch is in_behind.
    let flags = c.in_ok-ends.ensures k stretch is in
    let ends = c.in_ok-ends.ends.items in
    let in_ends : at < length ends = omega (arith, c.in_ok-ends.ends.ok.0) in
    (λ low. c.loop-at.invariant.rows at stretch.first (omega arith) low (flags.0 (omega arith)), λ low. c.loop-at.invariant.rows at stretch.last (omega arith) low (flags.1 (omega arith)))
