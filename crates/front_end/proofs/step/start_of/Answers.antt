use Rattle.std.proofs.Common.{◌≡◌, ◌<◌, ◌∙◌, length, ap, sym, subst}
use Rattle.std.proofs.lemmas.List.{get_or-map}
use Rattle.paris_code.specs.declared.program.Image.{Image}
use Rattle.paris_code.specs.Units.{start_at, start_of}
use Rattle.front_end.proofs.step.start_of.Goals as goal

pub returns : goal.returns
returns c =
    let within : Image → Type 0 = λ image. c.args.unit < length image.units.items in
    let is_start : Image → Type 0 = λ image. c.index.result.now.start ≡ start_at image c.args.unit in
    let bound = subst within (sym c.image.ensures.same) c.requires in
    let read = get_or-map start_of c.image.result.now.units.items c.args.unit c.index.result.now 0 bound in
    subst is_start c.image.ensures.same (ap start_of c.index.ensures ∙ sym read)
