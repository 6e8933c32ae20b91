use Rattle.std.proofs.Common.{ℕ, ◌<◌, ◌≤◌, get_or}
use Rattle.vp_sets.specs.Blocks.{block_count}
use Rattle.block_store.specs.declared.set.SetPlan.{SetPlan}
use Rattle.block_store.proofs.store.most_blocks.Given as goal

abbrev pub invariant-plans : goal.invariant-plans
invariant-plans l = (k : ℕ) (none : SetPlan) → k < l.plan-index → block_count (get_or l.plans k none).geometry ≤ l.most
