use Rattle.std.proofs.Common.{◌≡◌, false, ◌∙◌, sym, ap, inl, inr, arith}
use Rattle.std.proofs.lemmas.Bool.{cases_eq}
use Rattle.paris_code.specs.Fetching.{of_named, number_or_zero}
use Rattle.paris_code.specs.Memory.{BitMemory, field_number}
use Rattle.paris_code.specs.Shapes.{SetShape}
use Rattle.std.proofs.Common.{List}
use Rattle.phase_meaning.specs.Gathered.{word_if}
use Rattle.phase_gate.specs.Rows.{sets_of, memory_of, room_of}
use Rattle.phase_gate.proofs.row_phases.RowPhases.gather_named.Goals as goal

pub positions-preserved : goal.positions-preserved
unfolding of_named
positions-preserved c =
    let here = c.positions.invariant in
    let a = c.args.address in
    let now = sets_of c.args.self.now in
    let m = memory_of c.args.self.now in
    let k = c.positions.position in
    let word : c.field_or_zero-word.result ≡ of_named now m a c.args.source k =
    c.field_or_zero-word.ensures.value
    ∙ ap (λ (s : List SetShape). number_or_zero s (memory_of c.positions.self) c.args.source c.field-from.result) here.0
    ∙ ap (λ (n : BitMemory). number_or_zero now n c.args.source c.field-from.result) here.1
    ∙ ap (number_or_zero now m c.args.source) (c.field-from.ensures.value ∙ ap (λ (n : BitMemory). field_number n a k) here.1) in (
      c.hold.ensures.sets ∙ here.0,
      c.hold.ensures.memory ∙ here.1,
      λ p b. elim (cases_eq p k) [
        | inl e ↦
            ap (room_of c.hold.new.self a.set) e ∙ c.hold.ensures.held
            ∙ ap (λ (s : List SetShape). word_if s (memory_of c.positions.self) a.set false k c.field_or_zero-word.result) here.0
            ∙ ap (λ (n : BitMemory). word_if now n a.set false k c.field_or_zero-word.result) here.1
            ∙ ap (word_if now m a.set false k) word ∙ ap (λ q. word_if now m a.set false q (of_named now m a c.args.source q)) (sym e)
        | inr n ↦ c.hold.ensures.others a.set p (inr n) ∙ here.2 p (omega arith)
      ],
    )
