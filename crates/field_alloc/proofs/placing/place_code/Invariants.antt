use Rattle.std.proofs.Common.{◌≡◌, take, drop}
use Rattle.std.specs.List.{AllZip}
use Rattle.paris_code.specs.Moving.{IsMoved}
use Rattle.field_alloc.proofs.placing.place_code.Given as goal

abbrev pub invariant-loop-instr : goal.invariant-loop-instr
invariant-loop-instr l =
    AllZip (IsMoved l.places) (take l.instr-index l.fn.code) (take l.instr-index l.code) × (drop l.instr-index l.code ≡ drop l.instr-index l.fn.code)
