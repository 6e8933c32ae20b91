-- The word of a target after all messages: a fold in the order of the senders.
use Rattle.std.specs.Prelude.{ℕ, if◌then◌else◌, List, reverse, fold, Option}
use Rattle.cstar_base.specs.Folds.{fold_once}
use Rattle.combine_core.specs.declared.kind.Kind.{Kind}
use Rattle.combine_core.specs.declared.message.Message.{Message}
use Rattle.combine_core.specs.Encodings.{combiner_of, is_descending}
use Rattle.combine_core.specs.Cells.{values_to}

-- these values folded into a word one after another
abbrev pub fold_values : Kind → ℕ → List ℕ → ℕ
fold_values k home vs = fold (λ acc v. fold_once (combiner_of k).0 (combiner_of k).1 acc v) home vs

-- the word of target t after all messages: the values sent to it, folded in the order of the senders, or from the last sender down
abbrev pub folded : Kind → ℕ → ℕ → List (Option Message) → ℕ
folded k t home os = fold_values k home (if is_descending k then reverse (values_to t os) else values_to t os)
