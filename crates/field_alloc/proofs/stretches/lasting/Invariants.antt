use Rattle.std.proofs.Common.{◌+◌, ◌-◌, ◌^◌, ◌<◌, ◌≤◌}
use Rattle.field_alloc.specs.Lasting.{IsClosed}
use Rattle.field_alloc.proofs.stretches.lasting.Given as goal

abbrev pub invariant-more : goal.invariant-more
invariant-more l = record {
  first : l.wide.first ≤ l.fn.span.first;
  last : l.fn.span.last ≤ l.wide.last;
  next_first : l.next.first ≤ l.wide.first;
  next_last : l.wide.last ≤ l.next.last;
  fits : l.next.last < 2 ^ 32;
  closed : l.wide.first ≤ l.next.first → l.next.last ≤ l.wide.last → IsClosed l.loops l.wide;
}

abbrev pub decreases-more : goal.decreases-more
decreases-more l = l.wide.first + (2 ^ 32 - l.wide.last)
