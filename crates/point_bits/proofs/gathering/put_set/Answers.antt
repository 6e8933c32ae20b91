use Rattle.std.proofs.Common.{◌≡◌, ℕ, ◌+◌, ◌*◌, ◌≤◌, ◌++◌, List, length, drop, ap, sym, ◌∙◌, append_assoc, arith}
use Rattle.std.specs.Prelude.{reverse}
use Rattle.std.proofs.Math.Seq.{take-length}
use Rattle.std.proofs.lemmas.List.{length-append}
use Rattle.bit_planes.specs.declared.block.Block.{Block}
use Rattle.block_store.specs.Planes.{planes_in}
use Rattle.point_bits.specs.Strings.{set_bytes}
use Rattle.point_bits.proofs.Cuts.{all_cut, part_cut}
use Rattle.point_bits.proofs.Takings.{Taken, block_at, put_backward, taken}
use Rattle.point_bits.proofs.gathering.put_set.Goals as goal

pub each-init : goal.each-init
each-init c = record {
  left = sym (take-length c.args.set.blocks.items);
  done = λ shapes m is holds. sym (ap (λ (t : List ℕ). t ++ reverse c.args.backward.now.items) (all_cut shapes m c.args.string (length c.args.set.blocks.items) is (omega (arith, c.requires.count))));
}

pub part_of-requires-clause-planes : goal.part_of-requires-clause-planes
part_of-requires-clause-planes c =
    let t : Taken c.args.set.blocks.items c.pop.new.self.items c.in-Some.block = taken c.args.set.blocks.items c.each.blocks.items c.pop.new.self.items c.in-Some.block c.each.invariant.left c.in-Some.ensures.items in
    omega (arith, c.requires.planes (length c.pop.new.self.items) c.in-Some.block t.within, ap (λ (b : Block). length (planes_in b)) t.is, c.part.ensures.width)

pub each-preserved : goal.each-preserved
each-preserved c =
    let s = c.args.string in
    let blocks = c.args.set.blocks.items in
    let block = c.in-Some.block in
    let k : ℕ = length c.pop.new.self.items in
    let t : Taken blocks c.pop.new.self.items block = taken blocks c.each.blocks.items c.pop.new.self.items block c.each.invariant.left c.in-Some.ensures.items in
    let part = c.in_ok-part.part.items in
    let few : c.part.result.positions ≤ 512 = omega (arith, c.part.ensures.positions) in
    let count : length c.each.blocks.items ≡ k + 1 = ap length c.in-Some.ensures.items ∙ length-append c.pop.new.self.items _ in
    let back = put_backward c.each.backward.items c.extend_from_slice.new.self.items part _ (c.as_slice.ensures.value ∙ c.reverse.ensures.items) c.in_ok-extend_from_slice.ensures.items in
    record {
      left = t.left;
      done = λ shapes m is holds.
          let all = set_bytes shapes m s.set in
          let before = reverse c.args.backward.now.items in
          back
          ∙ ap (λ (xs : List ℕ). part ++ xs) (c.each.invariant.done shapes m is holds ∙ ap (λ n. drop (n * (64 * s.width)) all ++ before) count)
          ∙ sym (append_assoc part (drop ((k + 1) * (64 * s.width)) all) before)
          ∙ ap (λ (xs : List ℕ). xs ++ before)
          (part_cut shapes m s c.part.result k block.planes.items part is (omega (arith, c.requires.string.wide)) (omega (arith, t.within, c.requires.count)) (omega (arith, c.part.ensures.positions, c.len.ensures, c.pop.new.self.ok.0)) c.part.ensures.width c.in_ok-part.ensures
          (λ p i low short. holds (512 * k + p) i (omega (arith, low, c.part.ensures.positions, c.len.ensures, c.pop.new.self.ok.0)) short ∙ block_at blocks block k p i t.within t.is (omega (arith, low, few))));
    }
