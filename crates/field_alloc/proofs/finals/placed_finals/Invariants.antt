use Rattle.std.proofs.Common.{◌≡◌, length}
use Rattle.std.specs.List.{AllZip}
use Rattle.field_alloc.specs.Files.{AreFilesStacked, AreFilesUnder}
use Rattle.field_alloc.specs.Placed.{IsPlacedFinal}
use Rattle.field_alloc.proofs.finals.placed_finals.Given as goal

abbrev pub invariant-loop-last : goal.invariant-loop-last
invariant-loop-last l = record {
  kept : AllZip IsPlacedFinal l.yielded l.over.items;
  long : length l.ends.items ≡ length l.initial.ends.items;
  under : AreFilesUnder l.over.items l.ends.items;
  stacked : AreFilesStacked (length l.initial.ends.items) l.over.items;
}
