use Rattle.std.proofs.Common.{rules, true, ◌≡◌, ◌<◌, ◌≤◌, ◌∙◌, ap, sym, length, true≢false, arith}
use Rattle.std.proofs.lemmas.List.{length-map}
use Rattle.vp_sets.specs.Positions.{is_geometry}
use Rattle.paris_code.specs.Sound.{IsSound}
use Rattle.point_bits.proofs.Shapes.{shape_kept}
use Rattle.point_bits.proofs.strings.string_of.Goals as goal

pub overflow_add-result : goal.overflow_add-result
overflow_add-result c =
    let sound : IsSound c.image.result.now = rw c.image.ensures.same c.image.ensures.sound in
    let within : c.from.result < length c.image.result.now.shapes.items = search (rules, length-map) in
    let kept = shape_kept c.image.result.now.shapes.items c.from.result c.index-shape.result.now sound.shapes.1 within c.index-shape.ensures in
    let few : c.index-shape.result.now.bits ≤ 1073741824 = kept.1 in
    record { fits = omega (arith, few) }

pub unreachable-requires : goal.unreachable-requires
unreachable-requires c =
    let sound : IsSound c.image.result.now = rw c.image.ensures.same c.image.ensures.sound in
    let within : c.from.result < length c.image.result.now.shapes.items = search (rules, length-map) in
    let kept = shape_kept c.image.result.now.shapes.items c.from.result c.index-shape.result.now sound.shapes.1 within c.index-shape.ensures in
    let valid : is_geometry c.as_slice.result.now ≡ true = ap is_geometry c.as_slice.ensures.value ∙ kept.0 in
    true≢false (sym valid ∙ c.in-Err.ensures)

pub returns-clause-small : goal.returns-clause-small
returns-clause-small c =
    let sound : IsSound c.image.result.now = rw c.image.ensures.same c.image.ensures.sound in
    let within : c.from.result < length c.image.result.now.shapes.items = search (rules, length-map) in
    let kept = shape_kept c.image.result.now.shapes.items c.from.result c.index-shape.result.now sound.shapes.1 within c.index-shape.ensures in
    let few : c.index-shape.result.now.bits ≤ 1073741824 = kept.1 in
    record { few = c.positions.ensures.bound; some = c.positions.ensures.positive; narrow = omega (arith, few); wide = omega arith }
