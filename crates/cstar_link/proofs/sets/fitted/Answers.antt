use Rattle.std.proofs.Common.{◌≡◌, ℕ, ◌+◌, ◌<◌, min, List, ◌∷◌, [], ◌++◌, length, slice_index, ap, sym, ◌∙◌, arith}
use Rattle.std.proofs.lemmas.Iterator.Adapters.{YieldsList-from_vec}
use Rattle.std.proofs.lemmas.Iterator.Consumers.{YieldsList-turn}
use Rattle.std.proofs.lemmas.List.{get_or_default, length_push}
use Rattle.paris_code.specs.declared.program.ShapeBits.{ShapeBits}
use Rattle.cstar_link.specs.Sets.{fields_named, fitted_from, furthest}
use Rattle.cstar_link.proofs.Ends.{fitted_more}
use Rattle.cstar_link.proofs.sets.fitted.Goals as goal

pub loop-shape-init : goal.loop-shape-init
unfolding fitted_from
loop-shape-init c = record { long = ap length c.new-over.ensures.items; fitted = c.new-over.ensures.items }

pub loop-shape-preserved : goal.loop-shape-preserved
loop-shape-preserved c =
    let inv = c.loop-shape.invariant in
    let over = c.loop-shape.over.items in
    let done = c.loop-shape.yielded in
    let shape = c.in-Some.shape in
    let began = c.into_iter-shape-iterator.ensures.into_iter_gives in
    let shapes = c.args.shapes in
    let turn = YieldsList-turn (YieldsList-from_vec {s = c.into_iter-shape-iterator.result} shapes.items began.0 (began.1 ∙ shapes.ok.0)) done c.loop-shape.shape-iterator c.loop-shape.yielded_by c.next.result c.next.new.self shape c.in-Some.is c.next.ensures.steps in
    let ends = c.in_ok-ends.ends.items in
    let fields = fields_named c.args.code.now c.args.finals.now in
    let pushed = c.in_ok-push.ensures.items in
    let new : ShapeBits = record { extents = shape.extents; bits = c.lesser-bits.result } in
    let set = c.len-in-loop-shape.result in
    let at : set ≡ 0 + length done = omega (arith, c.len-in-loop-shape.ensures, c.loop-shape.over.ok.0, inv.long) in
    let inside : 0 + length done < c.len.result = omega (arith, turn.0, c.len.ensures, shapes.ok.0) in
    let there : set < length ends = omega (arith, at, inside, c.in_ok-ends.ensures.length) in
    let end : c.index.result.now ≡ slice_index ends (0 + length done) =
    c.index.ensures ∙ get_or_default ends set c.index.result.now 0 there ∙ ap (slice_index ends) at in
    let bits : c.lesser-bits.result ≡ min shape.bits (furthest (0 + length done) fields) = c.lesser-bits.ensures ∙ ap (min shape.bits) (end ∙ c.in_ok-ends.ensures.furthest (0 + length done) inside) in
    record {
      long = omega (arith, ap length pushed, length_push over new, length_push done shape, inv.long);
      fitted =
          pushed ∙ ap (λ (v : List ShapeBits). v ++ new ∷ []) inv.fitted
          ∙ ap (λ (n : ℕ). fitted_from fields 0 done ++ record { extents = shape.extents; bits = n } ∷ []) bits
          ∙ sym (fitted_more fields 0 done shape);
    }
