use Rattle.std.proofs.Common.{◌∙◌, Option, Some, ap, sym}
use Rattle.std.specs.Option.{option_map}
use Rattle.cstar_tree.specs.declared.typed.Variable.TheVariants as V
use Rattle.cstar_tree.specs.Scopes.{a_variable}
use Rattle.type_scopes.specs.declared.names.VariableType.{VariableType}
use Rattle.type_scopes.specs.Bindings.{meant, type_meant}
use Rattle.type_scopes.specs.FileBindings.{file_meant}
use Rattle.type_scopes.proofs.FileLemmas.{file_meaning}
use Rattle.type_scopes.proofs.file.File.file_meaning.Goals as goal

pub returns-in_err-shape : goal.returns-in_err-shape
returns-in_err-shape c =
    let there = file_meaning c.args.self.now.types.items c.args.known c.args.self.now.names.names.entries c.args.name.now.word c.known.result c.known.ensures.apart c.known.ensures.known in
    ap (option_map meant) c.from_residual.ensures ∙ sym (there ∙ ap (option_map (file_meant c.args.self.now.types.items)) c.in_err-shape.was)

pub returns-in-Shape : goal.returns-in-Shape
returns-in-Shape c =
    let there = file_meaning c.args.self.now.types.items c.args.known c.args.self.now.names.names.entries c.args.name.now.word c.known.result c.known.ensures.apart c.known.ensures.known in
    sym (there ∙ ap (option_map (file_meant c.args.self.now.types.items)) (c.in_ok-shape.was ∙ ap Some c.in-Shape.is))

pub returns-in-Function : goal.returns-in-Function
returns-in-Function c =
    let there = file_meaning c.args.self.now.types.items c.args.known c.args.self.now.names.names.entries c.args.name.now.word c.known.result c.known.ensures.apart c.known.ensures.known in
    sym (there ∙ ap (option_map (file_meant c.args.self.now.types.items)) (c.in_ok-shape.was ∙ ap Some c.in-Function.is))

pub returns-in-Variable : goal.returns-in-Variable
returns-in-Variable c =
    let there = file_meaning c.args.self.now.types.items c.args.known c.args.self.now.names.names.entries c.args.name.now.word c.known.result c.known.ensures.apart c.known.ensures.known in
    let all = sym (there ∙ ap (option_map (file_meant c.args.self.now.types.items)) (c.in_ok-shape.was ∙ ap Some c.in-Variable.is)) in
    ap (λ (t : Option VariableType). Some (a_variable (V.File c.in-Variable.number) (type_meant t))) c.type_at.ensures ∙ all
