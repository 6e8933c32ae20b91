use Rattle.std.proofs.Common.{◌≡◌, ◌<◌, ◌≤◌, ◌+◌, ◌*◌, min, [], ◌∷◌, ◌++◌, length, replicate, sym, ap, ◌∙◌, subst, arith}
use Rattle.std.specs.Prelude.{IfOk, slice_index}
use Rattle.std.proofs.lemmas.Iterator.Adapters.{YieldsList-from_vec}
use Rattle.std.proofs.lemmas.Iterator.Consumers.{YieldsList-turn, YieldsList-end}
use Rattle.std.proofs.lemmas.List.{length_push}
use Rattle.combine_core.specs.Encodings.{joined}
use Rattle.combine_send.specs.Alone.{HasCombined}
use Rattle.combine_send.specs.Apart.{blank, part_count}
use Rattle.combine_send.proofs.Combining.{none_combined}
use Rattle.combine_send.proofs.Parts.{joined_apart, then_apart, parts_cover}
use Rattle.combine_send.proofs.apart.combine_apart.Goals as goal

pub loop-part-init : goal.loop-part-init
loop-part-init g c =
    let kind = g.C.Combine.combines c.args.combiner.now in
    let cells = c.args.cells.now in
    subst (λ n. HasCombined kind c.args.senders.now 0 n cells cells) (let e : 0 ≡ min (512 * (0 * c.div_ceil.result)) c.args.count = omega arith in e) (none_combined kind c.args.senders.now 0 cells)

pub loop-part-preserved : goal.loop-part-preserved
loop-part-preserved g c =
    let kind = g.C.Combine.combines c.args.combiner.now in
    let senders = c.args.senders.now in
    let count = c.args.count in
    let size = c.div_ceil.result in
    let old = c.loop-part.cells in
    let new = c.join_cells.new.cells in
    let w = length c.loop-part.yielded in
    let own = c.in_ok-part.field-0.items in
    let parts = c.in_ok-parts.parts in
    let began = c.into_iter-part-iterator.ensures.into_iter_gives in
    let turn = YieldsList-turn (YieldsList-from_vec {s = c.into_iter-part-iterator.result} parts.items began.0 (began.1 ∙ parts.ok.0)) c.loop-part.yielded c.loop-part.part-iterator c.loop-part.yielded_by c.next.result c.next.new.self c.in-Some.part c.in-Some.is c.next.ensures.steps in
    let below : w < c.args.workers = omega (arith, turn.0, c.in_ok-parts.ensures.len, parts.ok.0) in
    let call = (c.in_ok-parts.ensures.each w c.in-Some.part below).1.met in
    let part : HasCombined kind senders (512 * (w * size)) (part_count count (w * size) size) (replicate senders.targets (blank kind)) own =
    subst (λ r. IfOk r (λ cells. HasCombined kind senders (512 * (w * size)) (part_count count (w * size) size) (replicate senders.targets (blank kind)) cells.items)) (sym turn.1 ∙ c.in_ok-part.was) call in
    let next : HasCombined kind senders (512 * (w * size)) (part_count count (w * size) size) old new =
    joined_apart kind senders (512 * (w * size)) (part_count count (w * size) size) senders.targets old own new (c.requires.targets ∙ sym c.loop-part.invariant.wide) part c.join_cells.ensures.small c.join_cells.ensures.wide
    (λ t h. c.join_cells.ensures.joined t h ∙ ap (λ xs. joined kind (slice_index old t) (slice_index xs t)) c.as_slice.ensures.value) in
    subst (λ n. HasCombined kind senders 0 (min (512 * (n * size)) count) c.args.cells.now new) (let e : w + 1 ≡ length (c.loop-part.yielded ++ c.in-Some.part ∷ []) = sym (length_push c.loop-part.yielded c.in-Some.part) in e)
    (then_apart kind senders size w count c.args.cells.now old new c.loop-part.invariant next)

pub returns : goal.returns
returns g c =
    let kind = g.C.Combine.combines c.args.combiner.now in
    let size = c.div_ceil.result in
    let parts = c.in_ok-parts.parts in
    let began = c.into_iter-part-iterator.ensures.into_iter_gives in
    let end = YieldsList-end (YieldsList-from_vec {s = c.into_iter-part-iterator.result} parts.items began.0 (began.1 ∙ parts.ok.0)) c.loop-part.yielded c.loop-part.part-iterator c.loop-part.yielded_by c.next.result c.next.new.self c.in-None.is c.next.ensures.steps in
    let all : length c.loop-part.yielded ≡ c.args.workers = end.1 ∙ sym parts.ok.0 ∙ c.in_ok-parts.ensures.len in
    let cover : length c.args.senders.now.blocks.now ≤ c.args.workers * size = subst (λ n. length c.args.senders.now.blocks.now ≤ c.args.workers * n) (sym c.div_ceil.ensures) (parts_cover (length c.args.senders.now.blocks.now) c.args.workers (omega (arith, c.requires.workers.0))) in
    let enough : min (512 * (length c.loop-part.yielded * size)) c.args.count ≡ c.args.count =
    ap (λ n. min (512 * (n * size)) c.args.count) all ∙ (let e : min (512 * (c.args.workers * size)) c.args.count ≡ c.args.count = omega (arith, cover, c.requires.within) in e) in
    subst (λ n. HasCombined kind c.args.senders.now 0 n c.args.cells.now c.loop-part.cells) enough c.loop-part.invariant
