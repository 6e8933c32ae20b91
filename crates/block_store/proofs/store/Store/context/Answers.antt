use Rattle.std.proofs.Common.{eqb, ap, ◌∙◌}
use Rattle.paris_code.specs.Memory.{field_number, is_active}
use Rattle.block_store.specs.Stored.{memory_in}
use Rattle.phase_meaning.proofs.RunBits.{run_number_one}
use Rattle.block_store.proofs.store.Store.context.Goals as goal

pub returns : goal.returns
unfolding field_number is_active
returns c = λ w. ap (λ n. eqb n 1)
    (c.read.ensures w ∙ run_number_one ((memory_in c.args.self.now w).bit c.args.set c.args.position) c.plan.result.now.bits
    ∙ ap ((memory_in c.args.self.now w).bit c.args.set c.args.position) c.plan.ensures.bits)
