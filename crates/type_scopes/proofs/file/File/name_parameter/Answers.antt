use Rattle.std.proofs.Common.{◌∙◌, refl, true, false}
use Rattle.type_scopes.specs.declared.headers.HeaderScope.{HeaderScope}
use Rattle.type_scopes.proofs.HeaderFaults.{taken_records, untaken_records, was_taken}
use Rattle.type_scopes.proofs.HeaderLemmas.{kept_behind}
use Rattle.type_scopes.proofs.file.File.name_parameter.Goals as goal

pub returns-else-not-branch-clause-kept : goal.returns-else-not-branch-clause-kept
returns-else-not-branch-clause-kept c here number kept =
    let scope : HeaderScope = record c.args.scope.now { parameters = c.insert.new.self } in
    kept_behind c.args.self.now c.args.scope.now scope here number c.args.parameter.now c.in_ok-name.name (c.in_ok-name.ensures.items ∙ c.bytes.ensures) refl refl c.in_ok-insert.ensures.keys kept

pub returns-then-not-branch-clause-faults : goal.returns-then-not-branch-clause-faults
returns-then-not-branch-clause-faults c here kept =
    let scope = c.args.scope.now in
    let has = was_taken scope.parameters.keys c.in_ok-name.name c.args.parameter.now.name.word c.in_ok-insert.field-0 true (c.in_ok-name.ensures.items ∙ c.bytes.ensures) c.in_ok-insert.ensures.added c.if-not-branch.true in
    taken_records c.args.self.now scope here c.args.parameter.now c.args.faults.now.least c.stands.new.self.least kept has c.stands.ensures

pub returns-else-not-branch-clause-faults : goal.returns-else-not-branch-clause-faults
returns-else-not-branch-clause-faults c here kept =
    let scope = c.args.scope.now in
    let has = was_taken scope.parameters.keys c.in_ok-name.name c.args.parameter.now.name.word c.in_ok-insert.field-0 false (c.in_ok-name.ensures.items ∙ c.bytes.ensures) c.in_ok-insert.ensures.added c.if-not-branch.false in
    untaken_records c.args.self.now scope here c.args.parameter.now c.args.faults.now.least c.args.faults.now.least kept has refl
