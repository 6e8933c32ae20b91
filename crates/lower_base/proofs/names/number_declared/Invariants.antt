use Rattle.std.proofs.Common.{◌≡◌, map, take}
use Rattle.cstar_tree.specs.declared.typed.LocalVar.{LocalVar}
use Rattle.lower_base.specs.Layouts.{Numbering, numbered}
use Rattle.lower_base.proofs.names.number_declared.Given as goal

abbrev pub invariant-loop-local : goal.invariant-loop-local
invariant-loop-local l =
    let start : Numbering = record { locals = l.initial.locals.items; homes = l.initial.homes } in
    let now : Numbering = record { locals = l.locals.items; homes = l.homes } in
    numbered (map (λ (local : LocalVar). local.info) (take l.local-index l.declared)) start ≡ now
