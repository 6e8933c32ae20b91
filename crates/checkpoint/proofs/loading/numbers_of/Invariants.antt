use Rattle.std.proofs.Common.{◌≡◌, ◌++◌, length}
use Rattle.std.specs.List.{flat_map}
use Rattle.checkpoint.specs.Bytes.{AreWords, four_bytes}
use Rattle.checkpoint.proofs.loading.numbers_of.Given as goal

abbrev pub invariant-loop : goal.invariant-loop
invariant-loop l = record {
  count : length l.list.items ≡ l.counter;
  words : AreWords l.list.items;
  read : l.initial.rest ≡ flat_map four_bytes l.list.items ++ l.rest;
}
