use Rattle.field_alloc.specs.Sweep.{AreBelow, IsSwept}
use Rattle.field_alloc.proofs.offsets.place_set.Given as goal

abbrev pub invariant-loop-number : goal.invariant-loop-number
invariant-loop-number l = record {
  swept : IsSwept l.fields l.spans l.size l.set l.number l.initial.starts.items l.starts.items l.heights.items;
  below : AreBelow l.fields l.spans l.set l.number l.starts.items l.greatest;
}
