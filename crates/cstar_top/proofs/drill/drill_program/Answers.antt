use Rattle.std.proofs.Common.{inl, inr, subst}
use Rattle.paris_code.specs.declared.program.Image.{Image}
use Rattle.paris_code.specs.Sound.{IsSound}
use Rattle.cstar_top.proofs.drill.drill_program.Goals as goal

pub returns-in-Ok-clause-line : goal.returns-in-Ok-clause-line
returns-in-Ok-clause-line g c text of done =
    let image = c.in-Ok.sound in
    let sound : IsSound image = subst (λ (i : Image). IsSound i) c.sound.view_is c.sound.invariant.0 in
    let put = c.drill_image.ensures.line done in
    (put.0, (image, sound, (c.args.program.now.typed, of, c.in-Ok.ensures.compiled), put.1), put.2)

pub returns-in-Ok-clause-part : goal.returns-in-Ok-clause-part
returns-in-Ok-clause-part g c text of =
    let image = c.in-Ok.sound in
    let sound : IsSound image = subst (λ (i : Image). IsSound i) c.sound.view_is c.sound.invariant.0 in
    elim c.drill_image.ensures.part [
      | inl nothing ↦ inl nothing
      | inr put ↦ inr (put.0, (image, sound, (c.args.program.now.typed, of, c.in-Ok.ensures.compiled), put.1), put.2)
    ]
