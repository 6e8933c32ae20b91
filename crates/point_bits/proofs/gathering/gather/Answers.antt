use Rattle.std.proofs.Common.{◌≡◌, [], ℕ, ◌+◌, ◌-◌, ◌/◌, ◌++◌, List, length, map, ap, sym, subst, ◌∙◌, arith}
use Rattle.std.specs.List.{concat, range_with_len}
use Rattle.std.specs.Prelude.{reverse}
use Rattle.std.proofs.lemmas.List.{length-append}
use Rattle.bit_planes.specs.declared.block.Block.{Block}
use Rattle.block_store.specs.Planes.{HasPlanes, block_bit}
use Rattle.block_store.specs.Stored.{blocks_at, blocks_in, stored}
use Rattle.paris_code.specs.Shapes.{bits_at, extents_at, shapes_of}
use Rattle.phase_meaning.proofs.Entries.{entry}
use Rattle.vp_sets.specs.Positions.{position_count}
use Rattle.point_bits.specs.Strings.{bits_bytes, set_bytes}
use Rattle.point_bits.proofs.Takings.{Taken, blocks_of, front_more, taken}
use Rattle.point_bits.proofs.gathering.gather.Goals as goal

pub overflow_cast-len : goal.overflow_cast-len
overflow_cast-len c =
    let k : ℕ = length c.pop.new.self.items in
    let t : Taken c.args.sets.items c.pop.new.self.items c.in-Some.set = taken c.args.sets.items c.sets.sets.items c.pop.new.self.items c.in-Some.set c.sets.invariant.left c.in-Some.ensures.items in
    record { fits = omega (arith, c.len.ensures, c.pop.new.self.ok.0, t.within, c.requires.count, c.total_size.ensures.few) }

pub put_set-requires-clause-count : goal.put_set-requires-clause-count
put_set-requires-clause-count c =
    let k : ℕ = length c.pop.new.self.items in
    let t : Taken c.args.sets.items c.pop.new.self.items c.in-Some.set = taken c.args.sets.items c.sets.sets.items c.pop.new.self.items c.in-Some.set c.sets.invariant.left c.in-Some.ensures.items in
    let own : blocks_in c.in-Some.set ≡ blocks_at c.args.sets.items k = entry blocks_in c.args.sets.items k c.in-Some.set [] t.within t.is in
    let here : c.string_of-string.result.set ≡ k = omega (arith, c.string_of-string.ensures.set, c.len.ensures, c.pop.new.self.ok.0) in
    let shapes = shapes_of c.args.sound.now in
    ap length own ∙ (c.requires.each k (omega (arith, t.within, c.requires.count))).count
    ∙ blocks_of (extents_at shapes k) ∙ ap (λ n. (n + 511) / 512) (sym (c.string_of-string.ensures.string.positions ∙ ap (λ j. position_count (extents_at shapes j)) here))

pub put_set-requires-clause-planes : goal.put_set-requires-clause-planes
put_set-requires-clause-planes c =
    let k : ℕ = length c.pop.new.self.items in
    let t : Taken c.args.sets.items c.pop.new.self.items c.in-Some.set = taken c.args.sets.items c.sets.sets.items c.pop.new.self.items c.in-Some.set c.sets.invariant.left c.in-Some.ensures.items in
    let own : blocks_in c.in-Some.set ≡ blocks_at c.args.sets.items k = entry blocks_in c.args.sets.items k c.in-Some.set [] t.within t.is in
    let here : c.string_of-string.result.set ≡ k = omega (arith, c.string_of-string.ensures.set, c.len.ensures, c.pop.new.self.ok.0) in
    let shapes = shapes_of c.args.sound.now in
    subst (λ n. HasPlanes n (blocks_in c.in-Some.set)) (sym (c.string_of-string.ensures.string.width ∙ ap (λ j. bits_at shapes j + 2) here))
    (subst (λ (bs : List Block). HasPlanes (bits_at shapes k + 2) bs) (sym own) (c.requires.each k (omega (arith, t.within, c.requires.count))).planes)

pub sets-preserved : goal.sets-preserved
unfolding stored
sets-preserved c =
    let k : ℕ = length c.pop.new.self.items in
    let t : Taken c.args.sets.items c.pop.new.self.items c.in-Some.set = taken c.args.sets.items c.sets.sets.items c.pop.new.self.items c.in-Some.set c.sets.invariant.left c.in-Some.ensures.items in
    let own : blocks_in c.in-Some.set ≡ blocks_at c.args.sets.items k = entry blocks_in c.args.sets.items k c.in-Some.set [] t.within t.is in
    let here : c.string_of-string.result.set ≡ k = omega (arith, c.string_of-string.ensures.set, c.len.ensures, c.pop.new.self.ok.0) in
    let shapes = shapes_of c.args.sound.now in
    let string = c.string_of-string.result in
    let count : length c.sets.sets.items ≡ k + 1 = ap length c.in-Some.ensures.items ∙ length-append c.pop.new.self.items _ in
    record {
      left = t.left;
      done = λ w.
          let f : ℕ → List ℕ = set_bytes shapes (stored c.args.sets.items w) in
          c.in_ok-put_set.ensures shapes (stored c.args.sets.items w) c.string_of-string.ensures.string
          (λ p i low short. ap (λ j. block_bit (blocks_at c.args.sets.items j) p i) here ∙ ap (λ (bs : List Block). block_bit bs p i) (sym own))
          ∙ ap (λ j. f j ++ reverse c.sets.backward.items) here
          ∙ ap (λ (xs : List ℕ). f k ++ xs) (c.sets.invariant.done w ∙ ap (λ n. concat (map f (range_with_len n (length shapes - n)))) count)
          ∙ front_more f k (length shapes) (omega (arith, t.within, c.requires.count));
    }

pub returns : goal.returns
unfolding bits_bytes
returns c = λ w.
    let none : length c.sets.sets.items ≡ 0 = omega (arith, c.in_default.ensures.cases.0, c.sets.sets.ok.0) in
    let count : ℕ = length (shapes_of c.args.sound.now) in
    c.reverse.ensures.items ∙ c.sets.invariant.done w
    ∙ ap (λ n. concat (map (set_bytes (shapes_of c.args.sound.now) (stored c.args.sets.items w)) (range_with_len n (count - n)))) none
    ∙ ap (λ n. concat (map (set_bytes (shapes_of c.args.sound.now) (stored c.args.sets.items w)) (range_with_len 0 n))) (let e : count - 0 ≡ count = omega arith in e)
