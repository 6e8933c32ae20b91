use Rattle.std.proofs.Common.{◌∙◌, ap, sym}
use Rattle.std.specs.Option.{option_or}
use Rattle.cstar_tree.specs.Scopes.{find}
use Rattle.type_scopes.specs.Bindings.{bindings}
use Rattle.type_scopes.specs.FileBindings.{file_bindings}
use Rattle.type_scopes.proofs.FileLemmas.{find_first}
use Rattle.type_scopes.proofs.file.File.meaning.Goals as goal

pub returns-in-Some : goal.returns-in-Some
returns-in-Some c =
    let outer = file_bindings c.args.self.now c.args.site.known in
    sym (find_first (bindings c.args.locals.now) outer c.args.name.now.word ∙ ap (λ inner. option_or inner (find outer c.args.name.now.word)) (sym c.in-Some.ensures))

pub returns-in-None : goal.returns-in-None
returns-in-None c =
    let outer = file_bindings c.args.self.now c.args.site.known in
    c.file_meaning.ensures ∙ sym (find_first (bindings c.args.locals.now) outer c.args.name.now.word ∙ ap (λ inner. option_or inner (find outer c.args.name.now.word)) (sym c.in-None.ensures))
