use Rattle.std.proofs.Common.{ℕ, true, List, map, sym, ap, subst, arith}
use Rattle.vp_sets.specs.Blocks.{block_count}
use Rattle.cstar_base.specs.Numbers.{number_of}
use Rattle.block_store.specs.Stored.{shape_of_plan}
use Rattle.block_store.proofs.Fetches.{bits_of}
use Rattle.news_grid.specs.Steps.{Leads}
use Rattle.instruction_runs.proofs.Sources.{held_steps}
use Rattle.instruction_runs.proofs.settling.Pass.shift.Goals as goal

pub step_block-requires-clause-taking : goal.step_block-requires-clause-taking
step_block-requires-clause-taking c =
    let plans = c.args.self.now.plans.now in
    let news = c.args.news in
    let dest = c.requires.dest in
    let fits = c.requires.fits in
    let plan = bits_of plans news.dest.set c.from.result c.index-plans-from.result dest.0 c.from.ensures c.index-plans-from.is in
    record {
      len = (dest.1, dest.2);
      dest = omega (arith, dest.3, plan.0);
      blocks = c.block_count.ensures.value;
      few = omega (arith, c.block_count.ensures.value, ap block_count plan.1, fits.few);
      held = omega (arith, c.block_count.ensures.value, ap block_count plan.1, fits.enough);
      leads = subst (λ (xs : List ℕ). Leads xs news.axis (number_of 32 true news.by) c.args.step) (sym plan.1) c.requires.leads;
    }

pub step_block-requires-clause-block : goal.step_block-requires-clause-block
step_block-requires-clause-block c =
    let plans = c.args.self.now.plans.now in
    let news = c.args.news in
    let plan = bits_of plans news.dest.set c.from.result c.index-plans-from.result c.requires.dest.0 c.from.ensures c.index-plans-from.is in
    (omega (arith, c.block_count.ensures.value, ap block_count plan.1, c.requires.block), omega (arith, c.requires.fits.few, c.requires.block))

pub step_block-requires-clause-planes : goal.step_block-requires-clause-planes
step_block-requires-clause-planes c =
    let plans = c.args.self.now.plans.now in
    let news = c.args.news in
    let plan = bits_of plans news.dest.set c.from.result c.index-plans-from.result c.requires.dest.0 c.from.ensures c.index-plans-from.is in
    omega (arith, plan.0, c.requires.planes)

pub returns : goal.returns
returns c = λ instr.
    let plans = c.args.self.now.plans.now in
    let news = c.args.news in
    let plan = bits_of plans news.dest.set c.from.result c.index-plans-from.result c.requires.dest.0 c.from.ensures c.index-plans-from.is in
    held_steps (map shape_of_plan plans) instr c.args.step c.args.k c.args.block.now.planes.items c.step_block.new.block.planes.items c.step_block.ensures plan.1 plan.0 c.requires.lens c.requires.together
