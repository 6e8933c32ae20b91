use Rattle.std.proofs.Common.{◌≡◌, ◌+◌, ◌<◌, ◌∙◌, ap, sym, length, arith}
use Rattle.std.proofs.lemmas.List.{length-map}
use Rattle.paris_code.specs.Shapes.{shape_of, shapes_of}
use Rattle.paris_code.specs.Sound.{IsSound}
use Rattle.paris_code.specs.declared.program.Image.{Image}
use Rattle.point_bits.specs.Strings.{set_size, start_of}
use Rattle.point_bits.proofs.Sizes.{size_is, size_small, start_more, start_none}
use Rattle.point_bits.proofs.gathering.total_size.Goals as goal
use Rattle.point_bits.proofs.gathering.total_size.Goals.{After-size-size}

own : (c : After-size-size) → c.size-size.result ≡ set_size (shapes_of c.args.sound.now) c.sets.set
own c = c.size-size.ensures ∙ sym (size_is (shapes_of c.args.sound.now) c.string_of.result c.string_of.ensures.string) ∙ ap (set_size (shapes_of c.args.sound.now)) c.string_of.ensures.set

few : (c : After-size-size) → c.sets.set < 65536
few c =
    let sound : IsSound c.image.result.now = rw c.image.ensures.same c.image.ensures.sound in
    omega (arith, sound.shapes.0, c.sets-test.true, c.sets.auto.set-end, c.len-set-end.ensures, c.image.result.now.shapes.ok.0, length-map c.image.result.now.shapes.items shape_of)

pub sets-init : goal.sets-init
sets-init c = record { size = sym (start_none (shapes_of c.args.sound.now)); small = omega arith }

pub overflow_add-size : goal.overflow_add-size
overflow_add-size c = record {
  fits = omega (arith, few c, c.sets.invariant.small, c.size-size.ensures, size_small c.string_of.result c.string_of.ensures.small);
}

pub sets-preserved : goal.sets-preserved
sets-preserved c = record {
  size = ap (λ n. n + c.size-size.result) c.sets.invariant.size ∙ ap (λ n. start_of (shapes_of c.args.sound.now) c.sets.set + n) (own c) ∙ sym (start_more (shapes_of c.args.sound.now) c.sets.set);
  small = omega (arith, c.sets.invariant.small, c.size-size.ensures, size_small c.string_of.result c.string_of.ensures.small);
}

pub returns-clause-few : goal.returns-clause-few
returns-clause-few c =
    let sound : IsSound c.image.result.now = rw c.image.ensures.same c.image.ensures.sound in
    omega (arith, sound.shapes.0, ap (λ (i : Image). length i.shapes.items) c.image.ensures.same, length-map c.image.result.now.shapes.items shape_of, length-map c.args.sound.now.shapes.items shape_of)

pub returns-clause-size : goal.returns-clause-size
returns-clause-size c =
    let all : c.sets.set ≡ length (shapes_of c.args.sound.now) =
    let last : c.sets.set ≡ length c.image.result.now.shapes.items =
    omega (arith, c.sets-test.false, c.sets.auto.set-end, c.len-set-end.ensures, c.image.result.now.shapes.ok.0) in
    last ∙ (ap (λ (i : Image). length i.shapes.items) c.image.ensures.same ∙ sym (length-map c.args.sound.now.shapes.items shape_of)) in
    c.sets.invariant.size ∙ ap (start_of (shapes_of c.args.sound.now)) all
