use Rattle.combine_core.proofs.Points.{cells_are_joined, held_once, held_range, last_is_held, passed_in_claim, none_left_out, numbers_count, misses_are_past, draws_count, whole_holds_all, complete_is_folded}
use Rattle.combine_board.specs.Rule.{shown}
use Rattle.combine_board.proofs.laws.every_moment.Goals as goal

pub returns-clause-cells : goal.returns-clause-cells
returns-clause-cells c a s h = cells_are_joined (shown a s.words s.views) h.kept

pub returns-clause-once : goal.returns-clause-once
returns-clause-once c a s h = held_once (shown a s.words s.views) h.kept

pub returns-clause-range : goal.returns-clause-range
returns-clause-range c a s h = held_range (shown a s.words s.views) h.kept

pub returns-clause-last : goal.returns-clause-last
returns-clause-last c a s h = last_is_held (shown a s.words s.views) h.kept

pub returns-clause-passed : goal.returns-clause-passed
returns-clause-passed c a s h = passed_in_claim (shown a s.words s.views) h.kept

pub returns-clause-all : goal.returns-clause-all
returns-clause-all c a s h = none_left_out (shown a s.words s.views) h.kept

pub returns-clause-numbers : goal.returns-clause-numbers
returns-clause-numbers c a s h = numbers_count (shown a s.words s.views) h.kept

pub returns-clause-misses : goal.returns-clause-misses
returns-clause-misses c a s h = misses_are_past (shown a s.words s.views) h.kept

pub returns-clause-draws : goal.returns-clause-draws
returns-clause-draws c a s h = draws_count (shown a s.words s.views) h.kept

pub returns-clause-whole : goal.returns-clause-whole
returns-clause-whole c a s h = whole_holds_all (shown a s.words s.views) h.kept

pub returns-clause-folds : goal.returns-clause-folds
returns-clause-folds c a s h = complete_is_folded (shown a s.words s.views) h.kept
