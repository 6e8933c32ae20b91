use Rattle.std.proofs.Common.{◌≡◌, ◌++◌, drop}
use Rattle.shape_types.specs.Groups.{in_groups}
use Rattle.shape_types.proofs.in_groups.Given as goal

abbrev pub invariant-loop-number : goal.invariant-loop-number
invariant-loop-number l = l.all.items ++ in_groups (drop l.number l.functions) (drop l.number l.groups) ≡ in_groups l.functions l.groups
