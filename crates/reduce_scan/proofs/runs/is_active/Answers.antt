use Rattle.std.proofs.Common.{eqb, ap, ◌∙◌}
use Rattle.phase_meaning.proofs.RunBits.{run_number_one}
use Rattle.block_store.specs.Planes.{block_bit}
use Rattle.reduce_scan.proofs.runs.is_active.Goals as goal

pub returns : goal.returns
returns c = ap (λ n. eqb n 1) (c.number.ensures ∙ run_number_one (block_bit c.args.set.now.blocks.items c.args.position) c.args.scan.now.context)
