use Rattle.std.proofs.Common.{◌≡◌, ℕ, ◌+◌, ◌*◌, ◌/◌, ◌<◌, List, [], ◌∷◌, length, drop, ap, sym, subst, ◌∙◌, arith}
use Rattle.std.specs.Prelude.{reverse}
use Rattle.std.proofs.Math.Seq.{drop-drop}
use Rattle.std.proofs.lemmas.List.{length-append, length-drop, length-map, length-reverse, reverse-reverse}
use Rattle.block_store.specs.declared.set.BlockSet.{BlockSet}
use Rattle.block_store.specs.Stored.{blocks_at, blocks_in}
use Rattle.paris_code.specs.Shapes.{shape_of, shapes_of}
use Rattle.paris_code.specs.declared.program.Image.{Image}
use Rattle.point_bits.specs.Strings.{set_size, start_of}
use Rattle.point_bits.proofs.Fillings.{IsSetFor, all_restored, all_whole, set_for, set_more}
use Rattle.point_bits.proofs.Sizes.{set_within, size_is, start_more, start_none}
use Rattle.point_bits.proofs.putting_back.restored.Goals as goal

pub each-init : goal.each-init
each-init c = record {
  count = ap length c.new-sets.ensures.items;
  rest = ap reverse c.reverse.ensures.items ∙ reverse-reverse c.args.bytes.items ∙ ap (λ n. drop n c.args.bytes.items) (sym (start_none (shapes_of c.args.sound.now)));
  each = λ j h. absurd (omega (arith, h, ap length c.new-sets.ensures.items));
}

pub set_of-requires-clause-long : goal.set_of-requires-clause-long
set_of-requires-clause-long c =
    let shapes = shapes_of c.args.sound.now in
    let all = c.args.bytes.items in
    let k : ℕ = c.each.set in
    let left = reverse c.each.bytes.items in
    let below : k < length c.image.result.now.shapes.items = omega (arith, c.each-test.true, c.each.auto.set-end, c.len-set-end.ensures, c.image.result.now.shapes.ok.0) in
    let same : length c.image.result.now.shapes.items ≡ length shapes = ap (λ (i : Image). length i.shapes.items) c.image.ensures.same ∙ sym (length-map c.args.sound.now.shapes.items shape_of) in
    let exists : k < length shapes = omega (arith, below, same) in
    let here = c.string_of.ensures.set in
    let size : (c.string_of.result.positions * c.string_of.result.width + 7) / 8 ≡ set_size shapes k = sym (size_is shapes c.string_of.result c.string_of.ensures.string) ∙ ap (set_size shapes) here in
    omega (arith, size, set_within shapes k exists, c.requires.long, length-reverse c.each.bytes.items, ap length c.each.invariant.rest, length-drop (start_of shapes k) all)

pub each-preserved : goal.each-preserved
each-preserved c =
    let shapes = shapes_of c.args.sound.now in
    let all = c.args.bytes.items in
    let k : ℕ = c.each.set in
    let left = reverse c.each.bytes.items in
    let below : k < length c.image.result.now.shapes.items = omega (arith, c.each-test.true, c.each.auto.set-end, c.len-set-end.ensures, c.image.result.now.shapes.ok.0) in
    let same : length c.image.result.now.shapes.items ≡ length shapes = ap (λ (i : Image). length i.shapes.items) c.image.ensures.same ∙ sym (length-map c.args.sound.now.shapes.items shape_of) in
    let exists : k < length shapes = omega (arith, below, same) in
    let here = c.string_of.ensures.set in
    let size : (c.string_of.result.positions * c.string_of.result.width + 7) / 8 ≡ set_size shapes k = sym (size_is shapes c.string_of.result c.string_of.ensures.string) ∙ ap (set_size shapes) here in
    let set = c.in_ok-set_of.field-0 in
    let items = c.in_ok-push.ensures.items in
    let new : IsSetFor shapes all k (blocks_in set) =
    subst (λ n. IsSetFor shapes all n (blocks_in set)) here
    (set_for shapes c.string_of.result all left (blocks_in set) c.string_of.ensures.string c.requires.long (c.each.invariant.rest ∙ ap (λ n. drop (start_of shapes n) all) (sym here)) c.in_ok-set_of.ensures.set) in
    record {
      count = omega (arith, ap length items, length-append c.each.sets.items (set ∷ []), c.each.invariant.count);
      rest = c.in_ok-set_of.ensures.rest ∙ ap (λ n. drop n left) size ∙ ap (drop (set_size shapes k)) c.each.invariant.rest
          ∙ drop-drop (set_size shapes k) (start_of shapes k) all ∙ ap (λ n. drop n all) (sym (start_more shapes k));
      each = λ j h.
          subst (λ (ss : List BlockSet). IsSetFor shapes all j (blocks_at ss j)) (sym items)
          (set_more shapes all c.each.sets.items set c.each.invariant.each (subst (λ n. IsSetFor shapes all n (blocks_in set)) (sym c.each.invariant.count) new) j (omega (arith, h, ap length items)));
    }

pub returns-clause-whole : goal.returns-clause-whole
returns-clause-whole c =
    let last : c.each.set ≡ length c.image.result.now.shapes.items = omega (arith, c.each-test.false, c.each.auto.set-end, c.len-set-end.ensures, c.image.result.now.shapes.ok.0) in
    let same : length c.image.result.now.shapes.items ≡ length (shapes_of c.args.sound.now) = ap (λ (i : Image). length i.shapes.items) c.image.ensures.same ∙ sym (length-map c.args.sound.now.shapes.items shape_of) in
    let count : length c.each.sets.items ≡ length (shapes_of c.args.sound.now) = omega (arith, c.each.invariant.count, last, same) in
    all_whole (shapes_of c.args.sound.now) c.args.bytes.items c.each.sets.items count c.each.invariant.each c.image.ensures.sound.shapes.1

pub returns-clause-memory : goal.returns-clause-memory
returns-clause-memory c =
    let last : c.each.set ≡ length c.image.result.now.shapes.items = omega (arith, c.each-test.false, c.each.auto.set-end, c.len-set-end.ensures, c.image.result.now.shapes.ok.0) in
    let same : length c.image.result.now.shapes.items ≡ length (shapes_of c.args.sound.now) = ap (λ (i : Image). length i.shapes.items) c.image.ensures.same ∙ sym (length-map c.args.sound.now.shapes.items shape_of) in
    let count : length c.each.sets.items ≡ length (shapes_of c.args.sound.now) = omega (arith, c.each.invariant.count, last, same) in
    all_restored (shapes_of c.args.sound.now) c.args.bytes.items c.each.sets.items count c.each.invariant.each
