use Rattle.std.proofs.Common.{◌<◌, refl, sym, subst, length}
use Rattle.std.proofs.lemmas.Option.{slice_get_read}
use Rattle.paris_code.specs.declared.program.Image.{Image}
use Rattle.paris_code.specs.Units.{IsAt}
use Rattle.front_end.proofs.step.instr_at.Goals as goal

-- the rules hold of the instruction that was read
pub returns-clause-keeps : goal.returns-clause-keeps
returns-clause-keeps c =
    let family : Image → Type 0 = λ image. IsAt image c.args.at c.index.result.now in
    let within : Image → Type 0 = λ image. c.args.at < length image.code.items in
    let is : IsAt c.image.result.now c.args.at c.index.result.now =
    slice_get_read c.image.result.now.code.items _ c.args.at c.index.result.now refl
    (subst within (sym c.image.ensures.same) c.requires) c.index.ensures in
    c.image.ensures.sound.each c.args.at c.index.result.now (subst family c.image.ensures.same is)
