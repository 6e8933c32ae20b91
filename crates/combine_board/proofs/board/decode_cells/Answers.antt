use Rattle.std.proofs.Common.{◌≡◌, ◌<◌, ◌+◌, ◌^◌, ℕ, length, slice_index, sym, ap, ◌∙◌, subst, length-set, arith}
use Rattle.std.proofs.lemmas.List.{get_or-set_other}
use Rattle.std.specs.Mem.Slots.{slots_items}
use Rattle.combine_core.specs.Encodings.{decoded}
use Rattle.combine_core.proofs.Steps.{read_default}
use Rattle.combine_board.proofs.Calls.{element_is, written}
use Rattle.combine_board.proofs.board.decode_cells.Goals as goal

pub decode-requires : goal.decode-requires
decode-requires g c =
    let t = c.loop-t.t in
    let below : t < length c.args.home.now.items = (let l = c.loop-t.invariant.len in omega arith) in
    let value : slice_index c.args.home.now.items t ≡ c.index.result.now =
    sym (c.loop-t.invariant.behind t (omega arith)) ∙ read_default c.loop-t.home.items t c.index.result.now 0 (let l = c.loop-t.invariant.len in omega arith) c.index.ensures in
    let word : slice_index (slots_items c.args.closed.now.words) (t + 1) ≡ c.word.result = element_is (slots_items c.args.closed.now.words) (t + 1) c.word.result c.word.ensures in
    let k = g.C.Combine.combines c.args.combiner.now in
    subst (λ (x : ℕ). decoded k c.index.result.now x < 2 ^ 32) word
    (subst (λ (x : ℕ). decoded k x (slice_index (slots_items c.args.closed.now.words) (t + 1)) < 2 ^ 32) value (c.requires.fits t below))

pub loop-t-preserved : goal.loop-t-preserved
loop-t-preserved g c =
    let t = c.loop-t.t in
    let k = g.C.Combine.combines c.args.combiner.now in
    let within : t < length c.loop-t.home.items = (let l = c.loop-t.invariant.len in omega arith) in
    let value : c.index.result.now ≡ slice_index c.args.home.now.items t =
    sym (read_default c.loop-t.home.items t c.index.result.now 0 within c.index.ensures) ∙ c.loop-t.invariant.behind t (omega arith) in
    let word : c.word.result ≡ slice_index (slots_items c.args.closed.now.words) (t + 1) = sym (element_is (slots_items c.args.closed.now.words) (t + 1) c.word.result c.word.ensures) in
    let is : c.decode.result ≡ decoded k (slice_index c.args.home.now.items t) (slice_index (slots_items c.args.closed.now.words) (t + 1)) =
    c.decode.ensures ∙ ap (λ (x : ℕ). decoded k x c.word.result) value ∙ ap (decoded k (slice_index c.args.home.now.items t)) word in
    record {
      len = length-set c.loop-t.home.items t c.decode.result ∙ c.loop-t.invariant.len;
      before = written (λ (j : ℕ). decoded k (slice_index c.args.home.now.items j) (slice_index (slots_items c.args.closed.now.words) (j + 1))) c.loop-t.home.items t c.decode.result within is c.loop-t.invariant.before;
      behind = λ j h. get_or-set_other c.loop-t.home.items t j c.decode.result 0 (λ e. omega arith) ∙ c.loop-t.invariant.behind j (omega arith);
    }
