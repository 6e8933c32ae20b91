use Rattle.std.proofs.Common.{◌≡◌, ℕ, Vec, Some, length, slice_get}
use Rattle.std.specs.declared.alloc.Global.{Global}
use Rattle.call_groups.specs.Called.{HasCalls}
use Rattle.call_groups.proofs.function_groups.Given as goal

abbrev pub invariant-loop-number : goal.invariant-loop-number
invariant-loop-number l = record {
  count : length l.called.items ≡ l.number;
  each : (f : ℕ) (v : Vec ℕ Global) → slice_get l.called.items f ≡ Some v → HasCalls l.file f v.items;
}
