use Rattle.cstar_tree.specs.ProgramTypes as P
use Rattle.shape_types.proofs.instances.result_info.Goals as goal
use Rattle.shape_types.proofs.instances.result_info.Goals.{in-Nothing, in-Value+in_ok-value_info-in-Value, in-Unknown}

pub returns : goal.returns
returns c = elim c.match-returns.branch [
  | in-Nothing w ↦ rw (w.result-is, w.in-Nothing.is) P.no_result
  | in-Value+in_ok-value_info-in-Value w ↦ rw (w.result-is, w.in-Value.is, w.in_ok-value_info-in-Value.ensures) P.result
  | in-Unknown w ↦ rw w.result-is tt
]
