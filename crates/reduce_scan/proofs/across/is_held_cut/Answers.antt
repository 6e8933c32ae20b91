use Rattle.std.proofs.Common.{ℕ, [], ◌/◌, ◌%◌, ◌∙◌, eqb, List, ap}
use Rattle.bit_planes.specs.Bits.{bit}
use Rattle.phase_meaning.proofs.Entries.{entry}
use Rattle.reduce_scan.specs.Across.{cuts_of, is_held_cut}
use Rattle.reduce_scan.proofs.across.is_held_cut.Goals as goal

pub returns : goal.returns
unfolding is_held_cut
returns c =
    let p = c.args.position in
    let cells = c.args.room.now.cells.items in
    ap (λ n. eqb n 1) c.lane.ensures
    ∙ ap (λ (q : List ℕ). eqb (bit q (p % 512)) 1) (entry cuts_of cells (p / 512) c.index-cell.result.now [] c.requires c.index-cell.ensures)
