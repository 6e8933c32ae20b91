use Rattle.std.proofs.Common.{take}
use Rattle.std.specs.List.{flat_map}
use Rattle.paris_code.specs.Spans.{fields_of}
use Rattle.cstar_link.specs.Sets.{AreRaised}
use Rattle.cstar_link.proofs.sets.raise_by_code.Given as goal

abbrev pub invariant-loop-instr : goal.invariant-loop-instr
invariant-loop-instr l = AreRaised (flat_map fields_of (take l.instr-index l.code)) l.initial.ends l.ends
