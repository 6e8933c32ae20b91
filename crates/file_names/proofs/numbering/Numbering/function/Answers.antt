use Rattle.std.proofs.Common.{◌+◌, ◌∙◌, ap}
use Rattle.std.specs.Prelude.{min}
use Rattle.file_names.proofs.Steps.{function_step, known_before}
use Rattle.file_names.proofs.numbering.Numbering.function.Goals as goal

pub returns-clause-numbers : goal.returns-clause-numbers
returns-clause-numbers c known numbers =
    let new = c.in_ok-new.ensures in
    let count = c.saturating_add-self.ensures ∙ ap (λ n. min (n + c.from.result) 4294967295) new.functions ∙ ap (λ n. min (c.args.self.now.functions + n) 4294967295) c.from.ensures in
    function_step c.args.self.now _ known c.args.function.now c.in_ok-new.new (record { is_new = new.is_new; names = new.names; all = new.all }) new.shapes count new.variables numbers

pub returns-clause-place : goal.returns-clause-place
returns-clause-place c known numbers few = c.then_some.ensures ∙ known_before c.args.self.now known c.args.function.now.name.word c.in_ok-new.new c.in_ok-new.ensures.is_new (numbers few)
