use Rattle.std.proofs.Common.{◌≡◌, ◌<◌, ap, ◌∙◌, length, length-set, arith}
use Rattle.std.specs.Prelude.{slice_index}
use Rattle.std.proofs.lemmas.List.{get_or-set_other}
use Rattle.combine_core.specs.Encodings.{joined}
use Rattle.combine_board.proofs.Calls.{written}
use Rattle.combine_send.proofs.apart.join_cells.Goals as goal

pub loop-t-preserved : goal.loop-t-preserved
loop-t-preserved g c =
    let t = c.loop-t.t in
    let k = g.C.Combine.combines c.args.combiner.now in
    let within : t < length c.loop-t.cells = (let l = c.loop-t.invariant.wide in omega arith) in
    let value : slice_index c.loop-t.cells t ≡ slice_index c.args.cells.now t = c.loop-t.invariant.behind t (omega arith) in
    record {
      wide = length-set c.loop-t.cells t c.join.result ∙ c.loop-t.invariant.wide;
      before = written (λ j. joined k (slice_index c.args.cells.now j) (slice_index c.args.others.now j)) c.loop-t.cells t c.join.result within
          (c.join.ensures ∙ ap (λ x. joined k x (slice_index c.args.others.now t)) value) c.loop-t.invariant.before;
      behind = λ j h. get_or-set_other c.loop-t.cells t j c.join.result 0 (λ e. omega arith) ∙ c.loop-t.invariant.behind j (omega arith);
    }
