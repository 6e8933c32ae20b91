use Rattle.std.proofs.Common.{ℕ, ◌<◌, true, List, length, ◌∙◌, subst, sym, FitsSigned, w32, rules}
use Rattle.std.specs.Prelude.{ℤ}
use Rattle.std.proofs.lemmas.Int.{to_z-of_z}
use Rattle.cstar_base.specs.Numbers.{number_of}
use Rattle.block_store.proofs.Fetches.{bits_of}
use Rattle.news_grid.specs.Steps.{Leads}
use Rattle.instruction_runs.proofs.Deferrals.{in_shapes}
use Rattle.instruction_runs.proofs.deferring.step_of.Goals as goal

pub along-requires : goal.along-requires
along-requires c =
    let news = c.args.news.now in
    let plan = bits_of c.args.plans.now news.dest.set c.from.result c.index-plans-from.result (in_shapes c.args.plans.now news.dest.set c.requires.set) c.from.ensures c.index-plans-from.is in
    subst (λ (xs : List ℕ). news.axis < length xs) (sym plan.1) c.requires.axis

pub returns : goal.returns
returns c =
    let news = c.args.news.now in
    let plan = bits_of c.args.plans.now news.dest.set c.from.result c.index-plans-from.result (in_shapes c.args.plans.now news.dest.set c.requires.set) c.from.ensures c.index-plans-from.is in
    let fits : FitsSigned w32 c.signed.result = search rules in
    subst (λ (xs : List ℕ). Leads xs news.axis (number_of 32 true news.by) c.along.result) plan.1
    (subst (λ (by : ℤ). Leads c.index-plans-from.result.geometry news.axis by c.along.result) (to_z-of_z w32 c.signed.result fits ∙ c.signed.ensures) c.along.ensures)
