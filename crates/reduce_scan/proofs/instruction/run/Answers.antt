use Rattle.std.proofs.Common.{ℕ, List, ap, refl, sym, subst}
use Rattle.cstar_base.specs.declared.operators.Winner.{Winner}
use Rattle.paris_code.specs.declared.instr.Instr.{Instr}
use Rattle.paris_code.specs.declared.program.Reply.{Reply}
use Rattle.paris_code.specs.declared.program.Reply.TheVariants as R
use Rattle.paris_code.specs.Meaning.{Means, after}
use Rattle.paris_code.specs.Memory.{BitMemory, SameBits}
use Rattle.phase_meaning.proofs.Replies.{same_bits}
use Rattle.block_store.specs.declared.store.Store.{Store}
use Rattle.block_store.specs.Stored.{shapes_in, memory_in}
use Rattle.reduce_scan.proofs.instruction.run.Goals as goal

-- what an instruction leaves and replies
abbrev Leaves : Store → List ℕ → Store → Winner → Reply → Instr → Type 0
Leaves old args new w reply instr = Means (shapes_in old) instr args (memory_in old w) (memory_in new w) reply

pub returns-in-Global-clause-meaning : goal.returns-in-Global-clause-meaning
unfolding after
returns-in-Global-clause-meaning g c = λ w.
    let old = memory_in c.args.store.now w in
    subst (Leaves c.args.store.now c.args.args.now c.reduce.new.store w (R.Value c.reduce.result)) (sym c.in-Global.is)
    (ap R.Value (c.reduce.ensures.result w), subst (λ (m : BitMemory). SameBits (shapes_in c.args.store.now) m old) (sym (c.reduce.ensures.memory w)) (same_bits (shapes_in c.args.store.now) old))

pub returns-in-Scan-clause-meaning : goal.returns-in-Scan-clause-meaning
unfolding after
returns-in-Scan-clause-meaning g c = λ w.
    subst (Leaves c.args.store.now c.args.args.now c.scan.new.store w R.Nothing) (sym c.in-Scan.is) (refl, c.scan.ensures.memory w)
