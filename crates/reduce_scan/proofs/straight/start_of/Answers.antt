use Rattle.std.proofs.Common.{[], sym, ap}
use Rattle.std.specs.Prelude.{slice_index}
use Rattle.std.proofs.lemmas.List.{get_or-map}
use Rattle.block_store.specs.Stored.{words_in}
use Rattle.reduce_scan.proofs.straight.start_of.Goals as goal

pub returns : goal.returns
returns c = ap (λ ws. slice_index ws 0) (sym (get_or-map words_in c.args.cells.now c.args.k (record { words = []; cuts = record { bits = [] } }) [] c.requires))
