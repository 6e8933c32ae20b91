use Rattle.std.proofs.Common.{◌+◌, ◌∙◌, ap, arith, take}
use Rattle.std.specs.Prelude.{min}
use Rattle.cstar_tree.specs.FileScopes.{behind_variables}
use Rattle.file_names.proofs.Steps.{next_variable, variable_step}
use Rattle.file_names.proofs.numbering.Numbering.variables.Goals as goal

pub loop-variable-init : goal.loop-variable-init
unfolding behind_variables
loop-variable-init c functions ty known numbers = numbers

pub loop-variable-preserved : goal.loop-variable-preserved
loop-variable-preserved c functions ty known numbers =
    let new = c.in_ok-new.ensures in
    let count = c.saturating_add-self.ensures ∙ ap (λ n. min (n + c.from.result) 4294967295) new.variables ∙ ap (λ n. min (c.loop-variable.self.variables + n) 4294967295) c.from.ensures in
    rw (next_variable functions ty known c.args.variables.now c.loop-variable.variable-index c.variable-item.result (omega arith) c.variable-item.is)
    (variable_step functions ty c.loop-variable.self _ (behind_variables functions ty known (take c.loop-variable.variable-index c.args.variables.now)) c.variable-item.result c.in_ok-new.new
    (record { is_new = new.is_new; names = new.names; all = new.all }) new.shapes new.functions count (c.loop-variable.invariant functions ty known numbers))
