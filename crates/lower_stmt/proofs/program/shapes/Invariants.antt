use Rattle.std.proofs.Common.{◌≡◌, ◌++◌, drop, length, map}
use Rattle.lower_stmt.specs.Programs.{space, spaces_of}
use Rattle.lower_stmt.proofs.program.shapes.Given as goal

-- the sets so far, and those that are left, are the whole
abbrev pub invariant-loop-number : goal.invariant-loop-number
invariant-loop-number l = record {
  spaces :
      map space l.shapes.items ++ spaces_of (drop l.number l.t.shapes.items) (drop l.number l.t.need.items)
      ≡ spaces_of l.t.shapes.items l.t.need.items;
  count : length l.shapes.items ≡ l.number;
}
