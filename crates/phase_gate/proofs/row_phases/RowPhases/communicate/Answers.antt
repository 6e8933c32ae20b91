use Rattle.std.proofs.Common.{◌≡◌, true, false, List, ℕ, drop, get_or, sym, subst, ap, ◌∙◌, refl, length-drop, arith}
use Rattle.std.proofs.lemmas.List.{take_all}
use Rattle.paris_code.specs.declared.instr.Instr.{Instr}
use Rattle.paris_code.specs.declared.instr.Instr.TheVariants as I
use Rattle.paris_code.specs.declared.operands.Field.{Field}
use Rattle.paris_code.specs.declared.operands.Konst.{Konst}
use Rattle.phase_meaning.specs.Apply.{is_fetch}
use Rattle.paris_code.specs.Arguments.{konst_number}
use Rattle.paris_code.specs.Fetching.{at_one, of_neighbour}
use Rattle.paris_code.specs.Meaning.{after}
use Rattle.paris_code.specs.Memory.{SameBits}
use Rattle.paris_code.specs.Writes.{written}
use Rattle.phase_gate.specs.declared.row_phases.RowPhases.{RowPhases}
use Rattle.phase_meaning.specs.Gathered.{gathered}
use Rattle.phase_gate.specs.Rows.{sets_of, memory_of}
use Rattle.phase_gate.proofs.row_phases.RowPhases.communicate.Goals as goal

pub returns-in-WriteToProcessor-clause-memory : goal.returns-in-WriteToProcessor-clause-memory
unfolding after
returns-in-WriteToProcessor-clause-memory c =
    let now = sets_of c.args.self.now in
    let d = c.in-WriteToProcessor.dest in
    subst (λ (i : Instr). SameBits now (memory_of c.write_one.new.self) (after now i c.args.args.now (memory_of c.args.self.now))) (sym c.in-WriteToProcessor.is)
    (subst (λ (n : ℕ). SameBits now (memory_of c.write_one.new.self) (written (at_one d (get_or c.args.args.now 0 0) n) (memory_of c.args.self.now))) (c.konst-in-WriteToProcessor.ensures ∙ ap (konst_number c.in-WriteToProcessor.value) (take_all _ (drop 1 c.args.args.now) (omega (arith, length-drop 1 c.args.args.now))))
    c.write_one.ensures.memory)

-- a write of words that were gathered is what the instruction means
abbrev Becomes : RowPhases → List ℕ → RowPhases → Instr → Type 0
Becomes self args new instr = SameBits (sets_of self) (memory_of new) (after (sets_of self) instr args (memory_of self))

pub returns-in-GetFromNews-clause-memory : goal.returns-in-GetFromNews-clause-memory
unfolding after
returns-in-GetFromNews-clause-memory c =
    let now = sets_of c.args.self.now in
    let old = memory_of c.args.self.now in
    let d = c.in-GetFromNews.dest in
    let a = c.in-GetFromNews.source in
    let axis = c.in-GetFromNews.axis in
    subst (Becomes c.args.self.now c.args.args.now c.do_shift.new.self) (sym c.in-GetFromNews.is)
    (subst (λ (k : ℕ). SameBits now (memory_of c.do_shift.new.self) (written (gathered now old d false (of_neighbour now old a axis k)) old)) c.konst.ensures c.do_shift.ensures.memory)

pub returns-in-GetFromNewsAlways-clause-memory : goal.returns-in-GetFromNewsAlways-clause-memory
unfolding after
returns-in-GetFromNewsAlways-clause-memory c =
    let now = sets_of c.args.self.now in
    let old = memory_of c.args.self.now in
    let d = c.in-GetFromNewsAlways.dest in
    let a = c.in-GetFromNewsAlways.source in
    let axis = c.in-GetFromNewsAlways.axis in
    subst (Becomes c.args.self.now c.args.args.now c.do_shift-in-GetFromNewsAlways.new.self) (sym c.in-GetFromNewsAlways.is)
    (subst (λ (k : ℕ). SameBits now (memory_of c.do_shift-in-GetFromNewsAlways.new.self) (written (gathered now old d true (of_neighbour now old a axis k)) old)) c.konst-in-GetFromNewsAlways.ensures c.do_shift-in-GetFromNewsAlways.ensures.memory)

pub returns-in-Get-clause-memory : goal.returns-in-Get-clause-memory
unfolding after
returns-in-Get-clause-memory c =
    subst (Becomes c.args.self.now c.args.args.now c.do_get.new.self) (sym c.in-Get.is) c.do_get.ensures.memory

no_fetch : (instr : Instr) → ((d a : Field) (axis : ℕ) (k : Konst) → instr ≡ I.GetFromNews d a axis k → ⊥) → ((d a : Field) (axis : ℕ) (k : Konst) → instr ≡ I.GetFromNewsAlways d a axis k → ⊥)
    → ((d address a : Field) → instr ≡ I.Get d address a → ⊥) → ((d : Field) (processor : ℕ) (k : Konst) → instr ≡ I.WriteToProcessor d processor k → ⊥) → is_fetch instr ≡ false
no_fetch (I.GetFromNews d a axis k) o p q r = absurd (o d a axis k refl)
no_fetch (I.GetFromNewsAlways d a axis k) o p q r = absurd (p d a axis k refl)
no_fetch (I.Get d address a) o p q r = absurd (q d address a refl)
no_fetch (I.WriteToProcessor d processor k) o p q r = absurd (r d processor k refl)
no_fetch _ o p q r = refl

pub scan_or_send-requires-clause-other : goal.scan_or_send-requires-clause-other
scan_or_send-requires-clause-other c =
    (c.requires.other, no_fetch c.args.instr.now c.in_default.not-GetFromNews c.in_default.not-GetFromNewsAlways c.in_default.not-Get c.in_default.not-WriteToProcessor)
