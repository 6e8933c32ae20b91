use Rattle.std.proofs.Common.{true, false, ℕ, List, get_or, drop, ap, refl, sym, subst, ◌∙◌, arith, length-drop}
use Rattle.paris_code.specs.Arguments.{konst_number}
use Rattle.phase_meaning.proofs.Replies.{same_bits}
use Rattle.std.proofs.lemmas.List.{take_all}
use Rattle.cstar_base.specs.declared.operators.Winner.{Winner}
use Rattle.paris_code.specs.declared.instr.Instr.{Instr}
use Rattle.paris_code.specs.declared.program.Reply.TheVariants as R
use Rattle.paris_code.specs.Fetching.{at_one, of_neighbour}
use Rattle.paris_code.specs.Meaning.{Means, after}
use Rattle.paris_code.specs.Memory.{SameBits}
use Rattle.paris_code.specs.Writes.{written}
use Rattle.phase_meaning.specs.Gathered.{gathered}
use Rattle.block_store.specs.declared.store.Store.{Store}
use Rattle.block_store.specs.Stored.{shapes_in, memory_in}
use Rattle.news_grid.proofs.instruction.run.Goals as goal

-- what an instruction of no reply leaves
abbrev Leaves : Store → List ℕ → Store → Winner → Instr → Type 0
Leaves old args new w instr = Means (shapes_in old) instr args (memory_in old w) (memory_in new w) R.Nothing

pub returns-in-GetFromNews-clause-meaning : goal.returns-in-GetFromNews-clause-meaning
unfolding after
returns-in-GetFromNews-clause-meaning g c = λ w.
    let shapes = shapes_in c.args.store.now in
    let old = memory_in c.args.store.now w in
    let s = c.in-GetFromNews in
    subst (Leaves c.args.store.now c.args.args.now c.shift.new.store w) (sym s.is)
    (refl, subst (λ (k : ℕ). SameBits shapes (memory_in c.shift.new.store w) (written (gathered shapes old s.dest false (of_neighbour shapes old s.source s.axis k)) old)) c.konst.ensures (c.shift.ensures.memory w))

pub returns-in-GetFromNewsAlways-clause-meaning : goal.returns-in-GetFromNewsAlways-clause-meaning
unfolding after
returns-in-GetFromNewsAlways-clause-meaning g c = λ w.
    let shapes = shapes_in c.args.store.now in
    let old = memory_in c.args.store.now w in
    let s = c.in-GetFromNewsAlways in
    subst (Leaves c.args.store.now c.args.args.now c.shift-in-GetFromNewsAlways.new.store w) (sym s.is)
    (refl, subst (λ (k : ℕ). SameBits shapes (memory_in c.shift-in-GetFromNewsAlways.new.store w) (written (gathered shapes old s.dest true (of_neighbour shapes old s.source s.axis k)) old)) c.konst-in-GetFromNewsAlways.ensures (c.shift-in-GetFromNewsAlways.ensures.memory w))

pub returns-in-Get-clause-meaning : goal.returns-in-Get-clause-meaning
unfolding after
returns-in-Get-clause-meaning g c = λ w.
    subst (Leaves c.args.store.now c.args.args.now c.gather.new.store w) (sym c.in-Get.is) (refl, c.gather.ensures.memory w)

pub returns-in-ReadFromProcessor-clause-meaning : goal.returns-in-ReadFromProcessor-clause-meaning
unfolding after
returns-in-ReadFromProcessor-clause-meaning g c = λ w.
    let shapes = shapes_in c.args.store.now in
    let old = memory_in c.args.store.now w in
    subst (λ (i : Instr). Means shapes i c.args.args.now old old (R.Value c.read_one.result)) (sym c.in-ReadFromProcessor.is) (ap R.Value (c.read_one.ensures w), same_bits shapes old)

pub returns-in-WriteToProcessor-clause-meaning : goal.returns-in-WriteToProcessor-clause-meaning
unfolding after
returns-in-WriteToProcessor-clause-meaning g c = λ w.
    let shapes = shapes_in c.args.store.now in
    let old = memory_in c.args.store.now w in
    let s = c.in-WriteToProcessor in
    subst (Leaves c.args.store.now c.args.args.now c.write_one.new.store w) (sym s.is) (
      refl,
      subst (λ (n : ℕ). SameBits shapes (memory_in c.write_one.new.store w) (written (at_one s.dest (get_or c.args.args.now 0 0) n) old))
          (c.konst-in-WriteToProcessor.ensures ∙ ap (konst_number s.value) (take_all _ (drop 1 c.args.args.now) (omega (arith, length-drop 1 c.args.args.now)))) (c.write_one.ensures.memory w),
    )
