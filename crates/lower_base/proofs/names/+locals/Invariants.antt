use Rattle.std.proofs.Common.{◌≡◌, map, drop}
use Rattle.cstar_tree.specs.TypedParts.{concat}
use Rattle.cstar_tree.specs.Variables.{variables_of}
use Rattle.lower_base.specs.Layouts.{Numbering, numbered}
use Rattle.lower_base.proofs.names.+locals.Given as goal

abbrev pub invariant-number_each-loop-statement : goal.invariant-number_each-loop-statement
invariant-number_each-loop-statement l =
    let start : Numbering = record { locals = l.initial.locals.items; homes = l.initial.homes } in
    let now : Numbering = record { locals = l.locals.items; homes = l.homes } in
    numbered (concat (map variables_of (drop l.statement-index l.statements))) now ≡ numbered (concat (map variables_of l.statements)) start
