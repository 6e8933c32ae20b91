use Rattle.std.proofs.Common.{◌≡◌, ℕ, List, Option, false, refl, sym, subst}
use Rattle.paris_code.specs.declared.instr.Instr.{Instr}
use Rattle.paris_code.specs.declared.instr.Instr.TheVariants as I
use Rattle.paris_code.specs.declared.operands.Field.{Field}
use Rattle.paris_code.specs.declared.operands.Reduction.{Reduction}
use Rattle.cstar_base.specs.declared.elem.Elem.{Elem}
use Rattle.cstar_base.specs.declared.operators.Direction.{Direction}
use Rattle.cstar_base.specs.declared.operators.Inclusion.{Inclusion}
use Rattle.cstar_base.specs.declared.operators.SegmentMode.{SegmentMode}
use Rattle.paris_code.specs.Elementwise.{is_elementwise}
use Rattle.paris_code.specs.Meaning.{after}
use Rattle.paris_code.specs.Memory.{BitMemory, SameBits}
use Rattle.paris_code.specs.Shapes.{SetShape}
use Rattle.phase_meaning.specs.Apply.{CanApply, is_fetch}
use Rattle.phase_gate.specs.Rows.{sets_of, memory_of}
use Rattle.phase_meaning.proofs.FieldLemmas.{scan_lies}
use Rattle.phase_meaning.proofs.Replies.{same_bits}
use Rattle.phase_gate.proofs.row_phases.RowPhases.scan_or_send.Goals as goal

pub returns-in-SendWithOverwrite-clause-memory : goal.returns-in-SendWithOverwrite-clause-memory
unfolding after
returns-in-SendWithOverwrite-clause-memory c =
    subst (λ (i : Instr). SameBits (sets_of c.args.self.now) (memory_of c.overwrite.new.self) (after (sets_of c.args.self.now) i c.args.args.now (memory_of c.args.self.now))) (sym c.in-SendWithOverwrite.is) c.overwrite.ensures.memory

pub returns-in-SendWithCombiner-clause-memory : goal.returns-in-SendWithCombiner-clause-memory
unfolding after
returns-in-SendWithCombiner-clause-memory c =
    subst (λ (i : Instr). SameBits (sets_of c.args.self.now) (memory_of c.send.new.self) (after (sets_of c.args.self.now) i c.args.args.now (memory_of c.args.self.now))) (sym c.in-SendWithCombiner.is) c.send.ensures.memory

pub returns-in-Scan-clause-memory : goal.returns-in-Scan-clause-memory
unfolding after
returns-in-Scan-clause-memory c =
    subst (λ (i : Instr). SameBits (sets_of c.args.self.now) (memory_of c.do_scan.new.self) (after (sets_of c.args.self.now) i c.args.args.now (memory_of c.args.self.now))) (sym c.in-Scan.is) c.do_scan.ensures.memory

pub do_scan-requires : goal.do_scan-requires
do_scan-requires c =
    let s = c.in-Scan in
    let is = scan_lies (sets_of c.args.self.now) c.args.args.now s.combiner s.dest s.source s.axis s.direction s.mode s.bit s.inclusion
    (subst (λ (i : Instr). CanApply (sets_of c.args.self.now) i c.args.args.now) s.is c.requires.can) in
    record { dest = is.0; scan = (is.1, is.2, is.3); together = is.4 }

-- an instruction of no family moves nothing
unmoved : (shapes : List SetShape) (instr : Instr) (args : List ℕ) (m : BitMemory) → is_elementwise instr ≡ false → is_fetch instr ≡ false
    → ((r : Reduction) (d a : Field) (axis : ℕ) (direction : Direction) (mode : SegmentMode) (bit : Option Field) (within : Inclusion) → instr ≡ I.Scan r d a axis direction mode bit within → ⊥)
    → ((d : Field) (kind : Elem) (address a : Field) → instr ≡ I.SendWithOverwrite d kind address a → ⊥) → ((r : Reduction) (d : Field) (kind : Elem) (address a : Field) → instr ≡ I.SendWithCombiner r d kind address a → ⊥)
    → after shapes instr args m ≡ m
unfolding after
unmoved shapes (I.Scan r d a axis direction mode bit within) args m e f o p q = absurd (o r d a axis direction mode bit within refl)
unmoved shapes (I.SendWithOverwrite d kind address a) args m e f o p q = absurd (p d kind address a refl)
unmoved shapes (I.SendWithCombiner r d kind address a) args m e f o p q = absurd (q r d kind address a refl)
unmoved shapes _ args m e f o p q = cc

pub returns-in_default-clause-memory : goal.returns-in_default-clause-memory
returns-in_default-clause-memory c =
    let now = sets_of c.args.self.now in
    let old = memory_of c.args.self.now in
    subst (λ (m : BitMemory). SameBits now old m)
    (sym (unmoved now c.args.instr.now c.args.args.now old c.requires.other.0 c.requires.other.1 c.in_default.not-Scan c.in_default.not-SendWithOverwrite c.in_default.not-SendWithCombiner)) (same_bits now old)
