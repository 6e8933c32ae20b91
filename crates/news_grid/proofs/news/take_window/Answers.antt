use Rattle.std.proofs.Common.{ℕ, List, sym, subst, arith}
use Rattle.bit_planes.specs.declared.plane.Plane.{Plane}
use Rattle.lane_kernels.specs.Kernels.{Becomes}
use Rattle.block_store.specs.Phases.{LanesWritten}
use Rattle.block_store.proofs.Kernels.{refilled}
use Rattle.news_grid.specs.Steps.{number_seen}
use Rattle.news_grid.proofs.Windows.{target_written}
use Rattle.news_grid.proofs.news.take_window.Goals as goal

pub returns : goal.returns
returns c =
    let dest = c.args.dest in
    let planes = c.args.block.now.planes in
    let to = c.at-to.result in
    let new = c.put_window.new.planes in
    let numbers : ℕ → ℕ → ℕ = λ len i. number_seen c.args.held.now c.args.window.now len i in
    subst (λ (ps : List Plane). LanesWritten dest.offset dest.len c.args.lanes (numbers dest.len) planes.items ps) (sym (refilled planes.len new planes.items (omega (arith, c.put_window.ensures.long, c.deref_mut.ensures.len))))
    (target_written to dest.offset dest.len c.args.lanes numbers planes.items new c.at-to.ensures.offset c.at-to.ensures.len c.at-to.ensures.lanes
    (subst (λ (ps : List Plane). Becomes to (numbers to.len) ps new) c.deref_mut.ensures.value c.put_window.ensures))
