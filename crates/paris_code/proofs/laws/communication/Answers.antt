use Rattle.std.proofs.Common.{refl}
use Rattle.vp_sets.specs.Positions.{position_count, coordinate, coordinates, number_at}
use Rattle.cstar_base.specs.Folds.{fold_once, identity_of}
use Rattle.cstar_base.specs.Numbers.{residue, number_of, least_of, greatest_of}
use Rattle.cstar_base.specs.Operators.{sum_of, greater_of, operand}
use Rattle.paris_code.specs.Examples.{memory_by, row}
use Rattle.paris_code.specs.Fetching.{of_named, number_or_zero, folded_word, global_fold}
use Rattle.paris_code.specs.Memory.{run_number, field_number, whole_number, is_active}
use Rattle.cstar_base.specs.Orders.{fold_below, least_below, greatest_below, any_of}
use Rattle.paris_code.specs.Scanning.{own_step, on_line, parts_behind, fold_before, scanned}
use Rattle.paris_code.specs.Sending.{sends_to, winning_sender}
use Rattle.paris_code.proofs.laws.communication.Goals as goal

pub returns : goal.returns
unfolding position_count coordinate coordinates number_at fold_once identity_of residue number_of least_of greatest_of sum_of greater_of operand memory_by row of_named number_or_zero folded_word global_fold run_number field_number whole_number is_active fold_below least_below greatest_below any_of own_step on_line parts_behind fold_before scanned sends_to winning_sender
returns c = record {
  segment_at_inactive = refl;
  before_segment = refl;
  last_wins = refl;
  first_wins = refl;
  nobody_wins = refl;
  no_processor = refl;
  sum_with_a_sign = refl;
  greatest_with_a_sign = refl;
  greatest_without_a_sign = refl;
  ones_of_all = refl;
  minimum_of_nothing = refl;
  least_of_two = refl;
}
