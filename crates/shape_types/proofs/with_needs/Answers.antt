use Rattle.program_laws.proofs.Bodies.{blocks_call}
use Rattle.cstar_tree.specs.FileScopes.{file_known}
use Rattle.cstar_tree.specs.Instances.{program_of}
use Rattle.typed_calls.proofs.NoCycle.{no_cycle}
use Rattle.shape_types.proofs.with_needs.Goals as goal

pub returns-clause-exact : goal.returns-clause-exact
returns-clause-exact c tree items new instances =
    let bodies = no_cycle (program_of tree) (file_known tree).shapes c.args.program.instances.items (λ r placed call is h. blocks_call tree r placed is call h) instances in
    record {
      items = items;
      instances = instances;
      needs = (let told = rw (c.as_slice.ensures.value, c.as_slice-2.ensures.value, c.as_slice-3.ensures.value) at c.in-Ok.ensures.needs in told bodies);
      new = new;
    }
