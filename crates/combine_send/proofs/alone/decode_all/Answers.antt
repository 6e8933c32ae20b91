use Rattle.std.proofs.Common.{◌≡◌, ◌<◌, ◌^◌, sym, ap, ◌∙◌, subst, length, length-set, arith}
use Rattle.std.specs.Prelude.{slice_index}
use Rattle.std.proofs.lemmas.List.{get_or-set_other}
use Rattle.combine_core.specs.Encodings.{decoded}
use Rattle.combine_board.proofs.Calls.{written}
use Rattle.combine_send.proofs.alone.decode_all.Goals as goal

pub decode-requires : goal.decode-requires
decode-requires g c =
    let t = c.loop-t.t in
    subst (λ x. decoded (g.C.Combine.combines c.args.combiner.now) x (slice_index c.args.cells.now t) < 2 ^ 32) (sym (c.loop-t.invariant.behind t (omega arith))) (c.requires.fits t (omega arith))

pub loop-t-preserved : goal.loop-t-preserved
loop-t-preserved g c =
    let t = c.loop-t.t in
    let k = g.C.Combine.combines c.args.combiner.now in
    let within : t < length c.loop-t.home = (let l = c.loop-t.invariant.wide in omega arith) in
    let value : slice_index c.loop-t.home t ≡ slice_index c.args.home.now t = c.loop-t.invariant.behind t (omega arith) in
    record {
      wide = length-set c.loop-t.home t c.decode.result ∙ c.loop-t.invariant.wide;
      before = written (λ j. decoded k (slice_index c.args.home.now j) (slice_index c.args.cells.now j)) c.loop-t.home t c.decode.result within
          (c.decode.ensures ∙ ap (λ x. decoded k x (slice_index c.args.cells.now t)) value) c.loop-t.invariant.before;
      behind = λ j h. get_or-set_other c.loop-t.home t j c.decode.result 0 (λ e. omega arith) ∙ c.loop-t.invariant.behind j (omega arith);
    }
