use Rattle.std.proofs.Common.{◌≡◌, ◌<◌, ◌^◌, length, map, sym, ◌∙◌, ap, subst, arith}
use Rattle.std.specs.Prelude.{slice_index}
use Rattle.block_store.proofs.Kernels.{refilled}
use Rattle.combine_core.specs.Encodings.{encoded_home, decoded}
use Rattle.combine_send.specs.Alone.{AreCombined, HasCombined}
use Rattle.combine_send.proofs.Combining.{all_combined, cell_fits}
use Rattle.combine_send.proofs.alone.combined.Goals as goal

pub decode_all-requires-clause-fits : goal.decode_all-requires-clause-fits
decode_all-requires-clause-fits g c t below =
    let kind = g.C.Combine.combines c.args.combiner in
    let senders = c.args.senders.now in
    let home = c.args.home.items in
    let new = c.combine_all.new.cells in
    let at_home : c.as_mut_slice-2.result.now ≡ home = c.as_mut_slice-2.ensures.value in
    let cells : c.as_slice-2.result.now ≡ new =
    c.as_slice-2.ensures.value ∙ refilled c.in_ok-cells.cells.len new c.in_ok-cells.cells.items (omega (arith, c.in_ok-combine_all.ensures.wide, c.as_mut_slice.ensures.len)) in
    let all : HasCombined kind senders 0 c.args.count (map (encoded_home kind) home) new =
    subst (λ xs. HasCombined kind senders 0 c.args.count xs new) (c.as_mut_slice.ensures.value ∙ c.in_ok-cells.ensures.cells ∙ ap (map (encoded_home kind)) c.as_slice.ensures.value) c.in_ok-combine_all.ensures in
    let small : slice_index home t < 2 ^ 32 = subst (λ xs. slice_index xs t < 2 ^ 32) c.as_slice.ensures.value (c.in_ok-cells.ensures.fits t) in
    subst (λ xs. decoded kind (slice_index xs t) (slice_index c.as_slice-2.result.now t) < 2 ^ 32) (sym at_home)
    (subst (λ xs. decoded kind (slice_index home t) (slice_index xs t) < 2 ^ 32) (sym cells) (cell_fits kind senders c.args.count home new all t (omega (arith, below, ap length at_home)) small))

pub returns : goal.returns
returns g c =
    let kind = g.C.Combine.combines c.args.combiner in
    let senders = c.args.senders.now in
    let home = c.args.home.items in
    let new = c.combine_all.new.cells in
    let words = c.decode_all.new.home in
    let at_home : c.as_mut_slice-2.result.now ≡ home = c.as_mut_slice-2.ensures.value in
    let cells : c.as_slice-2.result.now ≡ new =
    c.as_slice-2.ensures.value ∙ refilled c.in_ok-cells.cells.len new c.in_ok-cells.cells.items (omega (arith, c.in_ok-combine_all.ensures.wide, c.as_mut_slice.ensures.len)) in
    let all : HasCombined kind senders 0 c.args.count (map (encoded_home kind) home) new =
    subst (λ xs. HasCombined kind senders 0 c.args.count xs new) (c.as_mut_slice.ensures.value ∙ c.in_ok-cells.ensures.cells ∙ ap (map (encoded_home kind)) c.as_slice.ensures.value) c.in_ok-combine_all.ensures in
    let wide : length words ≡ length home = c.decode_all.ensures.wide ∙ ap length at_home in
    subst (λ xs. AreCombined kind senders c.args.count home xs) (sym (refilled c.args.home.len words home (omega (arith, c.decode_all.ensures.wide, c.as_mut_slice-2.ensures.len))))
    (all_combined kind senders c.args.count home new all words wide
    (λ t b. c.decode_all.ensures.words t (omega (arith, b, ap length at_home)) ∙ ap (λ xs. decoded kind (slice_index xs t) (slice_index c.as_slice-2.result.now t)) at_home
    ∙ ap (λ xs. decoded kind (slice_index home t) (slice_index xs t)) cells))
