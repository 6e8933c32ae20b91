use Rattle.std.proofs.Common.{◌≡◌, ℕ, List, Option, Some, sym, subst}
use Rattle.std.specs.Prelude.{IfSome}
use Rattle.cstar_base.specs.declared.operators.Place.{Place}
use Rattle.cstar_base.specs.declared.faults.RunFault.{RunFault}
use Rattle.paris_code.specs.declared.instr.Instr.{Instr}
use Rattle.paris_code.specs.declared.program.Image.{Image}
use Rattle.paris_code.specs.declared.program.Reply.TheVariants as R
use Rattle.paris_code.specs.Code.{Fault, fault_at}
use Rattle.paris_code.specs.Meaning.{Means}
use Rattle.paris_code.specs.Memory.{BitMemory}
use Rattle.paris_code.specs.Shapes.{SetShape, shapes_of}
use Rattle.front_end.specs.Front.{state_of}
use Rattle.paris_machine.specs.declared.outcome.End.TheVariants as E
use Rattle.paris_machine.specs.Runs.{RepliesTo}
use Rattle.paris_machine.proofs.Applied.{can_apply, same_instr}
use Rattle.paris_machine.proofs.Following.{replies_bad}
use Rattle.paris_machine.proofs.steps.apply.Goals as goal

pub apply-requires-clause-can : goal.apply-requires-clause-can
apply-requires-clause-can g c =
    can_apply c.args.sound.now (g.P.Phases.shapes c.args.p.now) c.args.at c.instr_at-instr.result.now (state_of c.args.front.now) c.args-2.result.now
    c.requires.shapes c.requires.asked c.instr_at-instr.ensures.is c.instr_at-instr.ensures.keeps c.args-2.ensures

pub returns-in-Bad-clause-meaning : goal.returns-in-Bad-clause-meaning
returns-in-Bad-clause-meaning g c = λ instr here.
    let image : Image = c.args.sound.now in
    let m : BitMemory = g.P.Phases.memory c.args.p.now in
    let n : BitMemory = g.P.Phases.memory c.apply.new.self in
    let read : Instr = c.instr_at-instr.result.now in
    let position : ℕ = c.in-Bad.position in
    let means : Means (shapes_of image) read c.args.front.now.args.items m n (R.Bad position) =
    subst (λ (shapes : List SetShape). Means shapes read c.args.front.now.args.items m n (R.Bad position)) c.requires.shapes
    (subst (λ (args : List ℕ). Means (g.P.Phases.shapes c.args.p.now) read args m n (R.Bad position)) c.args-2.ensures c.in-Bad.ensures.meaning) in
    let fault : fault_at read position ≡ Fault c.unwrap-fault.result.0 c.unwrap-fault.result.1 (Some position) =
    subst (λ (o : Option (RunFault × Place)). IfSome o (λ f. fault_at read position ≡ Fault f.0 f.1 (Some position))) c.unwrap-fault.ensures (c.fault_of.ensures.fault position) in
    subst (λ (i : Instr). RepliesTo image i (state_of c.args.front.now) m (Some (E.Fault c.number.result c.unwrap-fault.result.1 (Some position))) (state_of c.args.front.now) n)
    (same_instr image c.args.at read instr c.instr_at-instr.ensures.is here)
    (replies_bad image read (state_of c.args.front.now) m n position c.number.result c.unwrap-fault.result.0 c.unwrap-fault.result.1 (sym c.number.ensures) fault means)
