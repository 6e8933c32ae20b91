use Rattle.std.proofs.Common.{◌≡◌, ◌++◌, length, take}
use Rattle.std.specs.List.{flat_map}
use Rattle.checkpoint.specs.Bytes.{four_bytes}
use Rattle.checkpoint.proofs.saving.push_numbers.Given as goal

abbrev pub invariant-loop-number : goal.invariant-loop-number
invariant-loop-number l =
    l.bytes.items ≡ l.fn.bytes.items ++ (four_bytes (length l.list) ++ flat_map four_bytes (take l.number-index l.list))
