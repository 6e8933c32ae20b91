use Rattle.std.proofs.Common.{◌∙◌, inl, inr}
use Rattle.cstar_top.proofs.Drills.{of_text}
use Rattle.cstar_top.proofs.EveryUnit.{every_unit}
use Rattle.cstar_top.proofs.drill.drill.Goals as goal

pub drill_program-requires-clause-units : goal.drill_program-requires-clause-units
drill_program-requires-clause-units g c κs lives = every_unit c.as_slice.result.now c.in-Ok-accepted.program.typed c.in-Ok-accepted.ensures.program

pub returns-in-Ok-accepted-clause-line : goal.returns-in-Ok-accepted-clause-line
returns-in-Ok-accepted-clause-line g c done =
    let put = c.drill_program.ensures.line c.as_slice.result.now c.in-Ok-accepted.ensures.program done in
    (put.0, of_text c.args.seed c.args.winner c.as_slice.result.now c.in-Ok-accepted.program.tokens put.0 (c.as_slice.ensures.value ∙ c.in-Ok.ensures) c.in-Ok-accepted.ensures.read put.1, put.2)

pub returns-in-Ok-accepted-clause-part : goal.returns-in-Ok-accepted-clause-part
returns-in-Ok-accepted-clause-part g c =
    elim (c.drill_program.ensures.part c.as_slice.result.now c.in-Ok-accepted.ensures.program) [
      | inl nothing ↦ inl nothing
      | inr put ↦ inr (put.0, of_text c.args.seed c.args.winner c.as_slice.result.now c.in-Ok-accepted.program.tokens put.0 (c.as_slice.ensures.value ∙ c.in-Ok.ensures) c.in-Ok-accepted.ensures.read put.1, put.2)
    ]
