use Rattle.std.proofs.Common.{◌*◌, ◌+◌, ◌≤◌, length, sym, ap, ◌∙◌, subst, arith}
use Rattle.combine_core.specs.declared.worker.Worker.{Worker}
use Rattle.combine_core.specs.Machine.{spent}
use Rattle.combine_core.specs.Kept.{Kept}
use Rattle.combine_core.proofs.Steps.{last_small, read_default}
use Rattle.combine_core.proofs.machine.Machine.ahead.Goals as goal

small : (g : _) (c : goal.After-as_slice g) → (c.in-Some.last.passed ≤ 512) × (512 * c.in-Some.last.claim + c.in-Some.last.passed ≤ length c.self.inside.slots.items)
small g c =
    let w = c.index.result.now in
    let here = read_default c.self.inside.workers.items c.args.w w spent (omega (arith, c.if-at-len.false, c.len.ensures, c.self.inside.workers.ok.0)) c.index.ensures in
    last_small _ (subst Kept (sym c.self.view_is) c.requires) c.args.w c.in-Some.last (ap (λ (v : Worker). v.last) here ∙ c.in-Some.is)

pub next-requires-clause-passed : goal.next-requires-clause-passed
next-requires-clause-passed g c = (small g c).0

pub next-requires-clause-within : goal.next-requires-clause-within
next-requires-clause-within g c = let s = (small g c).1 in let e = ap length c.as_slice.ensures.value in omega arith
