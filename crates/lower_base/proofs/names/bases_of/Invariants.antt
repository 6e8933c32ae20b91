use Rattle.std.proofs.Common.{◌≡◌, fold, length, take, []}
use Rattle.lower_base.specs.Layouts.{Registers, with_instance}
use Rattle.lower_base.proofs.names.bases_of.Given as goal

abbrev pub invariant-loop-instance : goal.invariant-loop-instance
invariant-loop-instance l =
    let start : Registers = record { bases = []; end = l.initial.end } in
    let now : Registers = record { bases = l.bases.items; end = l.end } in
    (fold (with_instance l.instances) start (take l.instance-index l.instances) ≡ now) × (length l.bases.items ≡ l.instance-index)
