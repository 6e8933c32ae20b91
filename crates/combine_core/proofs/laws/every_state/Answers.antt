use Rattle.combine_core.proofs.Steps.{opening_kept, run_keeps}
use Rattle.combine_core.proofs.Points.{cells_are_joined, held_once, held_range, last_is_held, passed_in_claim, none_left_out, numbers_count, misses_are_past, draws_count, whole_holds_all, complete_is_folded}
use Rattle.combine_core.proofs.laws.every_state.Goals as goal

pub returns-clause-cells : goal.returns-clause-cells
returns-clause-cells c = λ k os home events a. cells_are_joined _ (run_keeps events _ (opening_kept k os home a))

pub returns-clause-once : goal.returns-clause-once
returns-clause-once c = λ k os home events a. held_once _ (run_keeps events _ (opening_kept k os home a))

pub returns-clause-range : goal.returns-clause-range
returns-clause-range c = λ k os home events a. held_range _ (run_keeps events _ (opening_kept k os home a))

pub returns-clause-last : goal.returns-clause-last
returns-clause-last c = λ k os home events a. last_is_held _ (run_keeps events _ (opening_kept k os home a))

pub returns-clause-passed : goal.returns-clause-passed
returns-clause-passed c = λ k os home events a. passed_in_claim _ (run_keeps events _ (opening_kept k os home a))

pub returns-clause-all : goal.returns-clause-all
returns-clause-all c = λ k os home events a. none_left_out _ (run_keeps events _ (opening_kept k os home a))

pub returns-clause-numbers : goal.returns-clause-numbers
returns-clause-numbers c = λ k os home events a. numbers_count _ (run_keeps events _ (opening_kept k os home a))

pub returns-clause-misses : goal.returns-clause-misses
returns-clause-misses c = λ k os home events a. misses_are_past _ (run_keeps events _ (opening_kept k os home a))

pub returns-clause-draws : goal.returns-clause-draws
returns-clause-draws c = λ k os home events a. draws_count _ (run_keeps events _ (opening_kept k os home a))

pub returns-clause-whole : goal.returns-clause-whole
returns-clause-whole c = λ k os home events a. whole_holds_all _ (run_keeps events _ (opening_kept k os home a))

pub returns-clause-folds : goal.returns-clause-folds
returns-clause-folds c = λ k os home events a. complete_is_folded _ (run_keeps events _ (opening_kept k os home a))
