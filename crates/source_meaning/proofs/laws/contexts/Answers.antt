use Rattle.std.proofs.Common.{refl}
use Rattle.vp_sets.specs.Positions.{position_count, coordinate, coordinates, number_at}
use Rattle.cstar_base.specs.Folds.{fold_once, identity_of}
use Rattle.cstar_base.specs.Numbers.{residue, number_of, converted, truth_of, least_of, greatest_of}
use Rattle.cstar_base.specs.Numerals.{numeral_in, word_text}
use Rattle.cstar_base.specs.Operators.{outcome, operand, sum_of, difference_of, quotient_of, is_below, lesser_of, divides}
use Rattle.cstar_base.specs.Orders.{fold_below, least_below, greatest_below, any_of}
use Rattle.cstar_tree.specs.TypedParts.{concat}
use Rattle.cstar_tree.specs.Variables.{declared_by, variables_step}
use Rattle.source_meaning.specs.Expressions.{operated, mapped, reduction_of, scan_over, scan_of, values_of, next_byte, evaluated, located, operands}
use Rattle.source_meaning.specs.Gets.{index_at, is_within, are_within, coordinates_of, named_by, gotten}
use Rattle.source_meaning.specs.Narrowing.{narrowed, where_nonzero, where_zero, widened, and_then, or_then, choose}
use Rattle.source_meaning.specs.Printing.{printed}
use Rattle.source_meaning.specs.Programs.{extents_of, array_length, variable_info, scope_of, is_active_in, by_owner, scalar_given, parallel_given, entered, left, result_of, run_body, calls, start_of, start_state, run_of, meaning}
use Rattle.source_meaning.specs.Reductions.{promoted, step_of, divides_by_zero, working_type, updated, folded_into, combiner_of, folded, reduced}
use Rattle.source_meaning.specs.Scans.{bit_at, begins, is_parted, counts_for, fold_before, scanned}
use Rattle.source_meaning.specs.Sends.{sends_to, is_sent_to, winning_sender, received, sent}
use Rattle.source_meaning.specs.State.{then_do, is_same, with_scalar, with_positions, spend_turn, with_output, is_among, zeroed}
use Rattle.source_meaning.specs.Statements.{then_go, then_round, rounds, done, passes, passes_or_absent, returned, initialised_one, initialised, declared, executed, all_executed, else_executed}
use Rattle.source_meaning.specs.Targets.{variable_target, element_target, position_target, indexed_target, read, stored, new_value, assign_to, assigned, stepped}
use Rattle.source_meaning.specs.Values.{number, at, each, positions, failing, unless, convert_to, cast_type, cast_through, unary_of, own_coordinate}
use Rattle.source_meaning.proofs.laws.contexts.Goals as goal

pub returns : goal.returns
unfolding position_count coordinate coordinates number_at fold_once identity_of residue number_of converted truth_of least_of greatest_of outcome operand sum_of difference_of quotient_of is_below lesser_of divides operated mapped reduction_of scan_over scan_of values_of next_byte evaluated located operands index_at is_within are_within coordinates_of named_by gotten narrowed where_nonzero where_zero widened and_then or_then choose fold_below least_below greatest_below any_of numeral_in word_text printed extents_of array_length variable_info scope_of is_active_in by_owner scalar_given parallel_given entered left result_of run_body calls start_of start_state run_of meaning promoted step_of divides_by_zero working_type updated folded_into combiner_of folded reduced bit_at begins is_parted counts_for fold_before scanned sends_to is_sent_to winning_sender received sent then_do is_same with_scalar with_positions spend_turn with_output is_among zeroed then_go then_round rounds done passes passes_or_absent returned initialised_one initialised declared concat declared_by variables_step executed all_executed else_executed variable_target element_target position_target indexed_target read stored new_value assign_to assigned stepped number at each positions failing unless convert_to cast_type cast_through unary_of own_coordinate
returns c = record {
  else_inside = refl;
  after_break = refl;
  one_turn = refl;
  after_return = refl;
  one_call = refl;
}
