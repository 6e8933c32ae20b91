use Rattle.std.proofs.Common.{rules, true, ◌≡◌, ◌<◌, ◌∙◌, ap, sym, length, true≢false}
use Rattle.std.proofs.lemmas.List.{length-map}
use Rattle.vp_sets.specs.Positions.{is_geometry}
use Rattle.paris_code.specs.Sound.{IsSound}
use Rattle.final_values.proofs.Shapes.{shape_kept}
use Rattle.final_values.proofs.lines.positions.Goals as goal

pub unreachable-requires : goal.unreachable-requires
unreachable-requires c =
    let sound : IsSound c.image.result.now = rw c.image.ensures.same c.image.ensures.sound in
    let within : c.from.result < length c.image.result.now.shapes.items = search (rules, length-map) in
    let kept = shape_kept c.image.result.now.shapes.items c.from.result c.index.result.now sound.shapes.1 within c.index.ensures in
    let valid : is_geometry c.as_slice.result.now ≡ true = ap is_geometry c.as_slice.ensures.value ∙ kept.0 in
    true≢false (sym valid ∙ c.in-Err.ensures)
