use Rattle.std.proofs.Common.{◌≡◌, ℕ, ◌+◌, ◌*◌, ◌/◌, ◌<◌, ◌≤◌, List, [], ◌∷◌, length, take, drop, ap, sym, subst, ◌∙◌, arith}
use Rattle.std.specs.Prelude.{reverse}
use Rattle.std.proofs.lemmas.List.{length-append, length-reverse, length-take}
use Rattle.bit_planes.specs.declared.block.Block.{Block}
use Rattle.block_store.specs.Planes.{planes_at, planes_in}
use Rattle.point_bits.proofs.Fillings.{IsBlockFor, all_blocks, block_for, block_more, end_last, part_within, rest_of}
use Rattle.point_bits.proofs.putting_back.set_of.Goals as goal

pub taken-requires : goal.taken-requires
taken-requires c =
    let s = c.args.string in
    let all = reverse c.args.backward.now.items in
    let k : ℕ = c.each.block in
    let part = c.part-part.result in
    let left = reverse c.each.backward.items in
    let few = c.part-part.ensures.positions in
    let width = c.part-part.ensures.width in
    let long : (s.positions * s.width + 7) / 8 ≤ length all = omega (arith, c.requires.long, length-reverse c.args.backward.now.items) in
    let exists : 512 * k < s.positions = omega (arith, c.each-test.true, c.each.auto.block-end, c.blocks-block-end.ensures) in
    let size : c.size.result ≡ (part.positions * s.width + 7) / 8 = c.size.ensures ∙ ap (λ w. (part.positions * w + 7) / 8) width in
    omega (arith, size, part_within s part k all left exists few width long c.each.invariant.rest, length-reverse c.each.backward.items)

pub block_of-requires-clause-bytes : goal.block_of-requires-clause-bytes
block_of-requires-clause-bytes c =
    let s = c.args.string in
    let all = reverse c.args.backward.now.items in
    let k : ℕ = c.each.block in
    let part = c.part-part.result in
    let left = reverse c.each.backward.items in
    let few = c.part-part.ensures.positions in
    let width = c.part-part.ensures.width in
    let long : (s.positions * s.width + 7) / 8 ≤ length all = omega (arith, c.requires.long, length-reverse c.args.backward.now.items) in
    let exists : 512 * k < s.positions = omega (arith, c.each-test.true, c.each.auto.block-end, c.blocks-block-end.ensures) in
    let size : c.size.result ≡ (part.positions * s.width + 7) / 8 = c.size.ensures ∙ ap (λ w. (part.positions * w + 7) / 8) width in
    omega (
      arith,
      size,
      part_within s part k all left exists few width long c.each.invariant.rest,
      ap length (c.as_slice.ensures.value ∙ c.in_ok-own.ensures.own),
      length-take c.size.result left,
      ap (λ w. part.positions * w) width,
    )

pub each-preserved : goal.each-preserved
each-preserved c =
    let s = c.args.string in
    let all = reverse c.args.backward.now.items in
    let k : ℕ = c.each.block in
    let part = c.part-part.result in
    let left = reverse c.each.backward.items in
    let few = c.part-part.ensures.positions in
    let width = c.part-part.ensures.width in
    let long : (s.positions * s.width + 7) / 8 ≤ length all = omega (arith, c.requires.long, length-reverse c.args.backward.now.items) in
    let exists : 512 * k < s.positions = omega (arith, c.each-test.true, c.each.auto.block-end, c.blocks-block-end.ensures) in
    let size : c.size.result ≡ (part.positions * s.width + 7) / 8 = c.size.ensures ∙ ap (λ w. (part.positions * w + 7) / 8) width in
    let block = c.in_ok-block_of.field-0 in
    let items = c.in_ok-push.ensures.items in
    record {
      count = omega (arith, ap length items, length-append c.each.blocks.items (block ∷ []), c.each.invariant.count);
      rest = rest_of s part k all left exists few width long c.each.invariant.rest (reverse c.taken.new.backward.items) (c.in_ok-own.ensures.rest ∙ ap (λ n. drop n left) size);
      each = λ j h.
          let new : IsBlockFor s all k (planes_in block) =
          block_for s part k all left exists few width long c.each.invariant.rest c.as_slice.result.now (planes_in block) (c.as_slice.ensures.value ∙ c.in_ok-own.ensures.own ∙ ap (λ n. take n left) size) c.in_ok-block_of.ensures in
          subst (λ (bs : List Block). IsBlockFor s all j (planes_at bs j)) (sym items)
          (block_more s all c.each.blocks.items block c.each.invariant.each (subst (λ n. IsBlockFor s all n (planes_in block)) (sym c.each.invariant.count) new) j (omega (arith, h, ap length items)));
    }

pub returns-clause-rest : goal.returns-clause-rest
returns-clause-rest c =
    let s = c.args.string in
    c.each.invariant.rest ∙ ap (λ n. drop n (reverse c.args.backward.now.items)) (end_last s c.each.block (omega (arith, c.each-test.false, c.blocks-block-end.ensures)))

pub returns-clause-set : goal.returns-clause-set
returns-clause-set c =
    all_blocks c.args.string (reverse c.args.backward.now.items) c.each.blocks.items (omega (arith, c.each.invariant.count, c.each-test.false, c.each.auto.block-end, c.blocks-block-end.ensures)) c.each.invariant.each
