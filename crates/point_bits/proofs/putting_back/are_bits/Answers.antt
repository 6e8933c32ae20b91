use Rattle.std.proofs.Common.{◌≡◌, ℕ, ◌+◌, ◌*◌, ◌<◌, ◌∙◌, List, length, drop, take, ap, sym, inl, inr, arith}
use Rattle.std.proofs.Math.ListN.{length-drop}
use Rattle.std.proofs.lemmas.Bool.{cases_eq}
use Rattle.std.proofs.lemmas.List.{length-map}
use Rattle.paris_code.specs.Shapes.{shape_of, shapes_of}
use Rattle.paris_code.specs.declared.program.Image.{Image}
use Rattle.point_bits.specs.Strings.{bit_count, byte_bit, set_size, start_of}
use Rattle.point_bits.proofs.Sizes.{count_is, own_bit, rest_more, set_within, size_is, start_more, start_none}
use Rattle.point_bits.proofs.putting_back.are_bits.Goals as goal

pub sets-init : goal.sets-init
sets-init c = record {
  rest = ap (λ n. drop n c.args.bytes.now) (sym (start_none (shapes_of c.args.sound.now)));
  filled = λ set n h _ _. absurd (omega arith);
}

pub split_at-requires : goal.split_at-requires
split_at-requires c =
    let shapes = shapes_of c.args.sound.now in
    let own : c.size.result ≡ set_size shapes c.sets.set = c.size.ensures ∙ sym (size_is shapes c.string_of-string.result c.string_of-string.ensures.string) ∙ ap (set_size shapes) c.string_of-string.ensures.set in
    let below : c.sets.set < length c.image.result.now.shapes.items = omega (arith, c.sets-test.true, c.sets.auto.set-end, c.len-set-end.ensures, c.image.result.now.shapes.ok.0) in
    let same : length c.image.result.now.shapes.items ≡ length shapes = ap (λ (i : Image). length i.shapes.items) c.image.ensures.same ∙ sym (length-map c.args.sound.now.shapes.items shape_of) in
    omega (arith, own, set_within shapes c.sets.set (omega (arith, below, same)), ap length c.sets.invariant.rest, length-drop (start_of shapes c.sets.set) c.args.bytes.now, c.if-bytes-total_size.false, c.total_size.ensures.size)

pub returns-then-not-is_filled : goal.returns-then-not-is_filled
returns-then-not-is_filled c = λ are.
    let shapes = shapes_of c.args.sound.now in
    let s = c.string_of-string.result in
    let set = c.sets.set in
    let own : c.size.result ≡ set_size shapes set = c.size.ensures ∙ sym (size_is shapes s c.string_of-string.ensures.string) ∙ ap (set_size shapes) c.string_of-string.ensures.set in
    let count : bit_count shapes set ≡ s.positions * s.width = ap (bit_count shapes) (sym c.string_of-string.ensures.set) ∙ count_is shapes s c.string_of-string.ensures.string in
    let below : set < length c.image.result.now.shapes.items = omega (arith, c.sets-test.true, c.sets.auto.set-end, c.len-set-end.ensures, c.image.result.now.shapes.ok.0) in
    let same : length c.image.result.now.shapes.items ≡ length shapes = ap (λ (i : Image). length i.shapes.items) c.image.ensures.same ∙ sym (length-map c.args.sound.now.shapes.items shape_of) in
    let part : c.split_at.result.0.now ≡ take c.size.result (drop (start_of shapes set) c.args.bytes.now) = c.split_at.ensures.front ∙ ap (take c.size.result) c.sets.invariant.rest in
    c.if-not-is_filled.ensures (λ n low high.
    let inside : n < 8 * c.size.result = omega (arith, high, c.split_at.ensures.front_len) in
    ap (λ (bs : List ℕ). byte_bit bs n) part ∙ own_bit c.args.bytes.now (start_of shapes set) c.size.result n inside
    ∙ are.filled set n (omega (arith, below, same)) (omega (arith, low, count)) (omega (arith, inside, own)))

pub sets-preserved : goal.sets-preserved
sets-preserved c =
    let shapes = shapes_of c.args.sound.now in
    let s = c.string_of-string.result in
    let set = c.sets.set in
    let own : c.size.result ≡ set_size shapes set = c.size.ensures ∙ sym (size_is shapes s c.string_of-string.ensures.string) ∙ ap (set_size shapes) c.string_of-string.ensures.set in
    let count : bit_count shapes set ≡ s.positions * s.width = ap (bit_count shapes) (sym c.string_of-string.ensures.set) ∙ count_is shapes s c.string_of-string.ensures.string in
    let part : c.split_at.result.0.now ≡ take c.size.result (drop (start_of shapes set) c.args.bytes.now) = c.split_at.ensures.front ∙ ap (take c.size.result) c.sets.invariant.rest in
    record {
      rest =
          c.split_at.ensures.back ∙ ap (drop c.size.result) c.sets.invariant.rest ∙ rest_more c.args.bytes.now (start_of shapes set) c.size.result
          ∙ ap (λ n. drop n c.args.bytes.now) (ap (λ n. start_of shapes set + n) own ∙ sym (start_more shapes set));
      filled = λ k n h low high. elim (cases_eq k set) [
        | inr other ↦ c.sets.invariant.filled k n (omega arith) low high
        | inl e ↦
            let inside : n < 8 * c.size.result = omega (arith, high, own, ap (set_size shapes) e) in
            ap (λ q. byte_bit c.args.bytes.now (8 * start_of shapes q + n)) e
            ∙ sym (own_bit c.args.bytes.now (start_of shapes set) c.size.result n inside) ∙ sym (ap (λ (bs : List ℕ). byte_bit bs n) part)
            ∙ c.if-not-is_filled.ensures n (omega (arith, low, count, ap (bit_count shapes) e)) (omega (arith, inside, c.split_at.ensures.front_len))
      ];
    }
