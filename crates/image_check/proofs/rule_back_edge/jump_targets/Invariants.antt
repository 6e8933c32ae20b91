use Rattle.std.proofs.Common.{◌≡◌, length}
use Rattle.image_check.specs.Tables.{MarksTargets}
use Rattle.image_check.proofs.rule_back_edge.jump_targets.Given as goal

abbrev pub invariant-loop-place : goal.invariant-loop-place
invariant-loop-place l =
    (length l.marks.items ≡ length l.image.code.items) × MarksTargets l.image.code.items l.place l.marks.items
