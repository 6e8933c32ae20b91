use Rattle.std.proofs.Common.{ℕ, ◌%◌, ◌^◌, ap, sym, subst, List, arith}
use Rattle.std.specs.Prelude.{slice_index}
use Rattle.bit_planes.specs.declared.plane.Plane.{Plane}
use Rattle.lane_kernels.specs.Kernels.{Becomes}
use Rattle.lane_kernels.proofs.Lifted.{same_change}
use Rattle.block_store.specs.Phases.{LanesWritten}
use Rattle.block_store.proofs.Kernels.{refilled, put_at}
use Rattle.block_store.proofs.words.put_words.Goals as goal

pub returns : goal.returns
returns c =
    let old = c.args.block.now.planes.items in
    let to = c.at-to.result in
    let new = c.put_values.new.planes in
    let f = λ (i : ℕ). slice_index c.args.words.now i % 2 ^ c.args.len in
    subst (λ (new : List Plane). LanesWritten c.args.offset c.args.len c.args.lanes f old new) (sym (refilled c.args.block.now.planes.len new old (omega (arith, c.put_values.ensures.long, c.deref_mut.ensures.len))))
    (put_at to c.args.offset c.args.len c.args.lanes f old new c.at-to.ensures.offset c.at-to.ensures.len c.at-to.ensures.lanes
    (same_change to (λ i. slice_index c.args.words.now i % 2 ^ to.len) f old new
    (λ i _. ap (λ n. slice_index c.args.words.now i % 2 ^ n) c.at-to.ensures.len)
    (subst (λ (m : List Plane). Becomes to (λ i. slice_index c.args.words.now i % 2 ^ to.len) m new) c.deref_mut.ensures.value c.put_values.ensures)))
