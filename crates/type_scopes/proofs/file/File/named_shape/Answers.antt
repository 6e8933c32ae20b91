use Rattle.std.proofs.Common.{◌≡◌, ◌∙◌, ℕ, Some, rules, true, false, ap, sym}
use Rattle.cstar_base.specs.declared.faults.Fault.{Fault}
use Rattle.cstar_tree.specs.Scopes.{shape_meant}
use Rattle.type_scopes.specs.Bindings.{meant}
use Rattle.type_scopes.specs.declared.names.Meaning.TheVariants as M
use Rattle.type_scopes.specs.Headers.{has_word}
use Rattle.type_scopes.specs.Named.{misnamed}
use Rattle.std.specs.Option.{option_map}
use Rattle.type_scopes.proofs.HeaderLemmas.{in_file, in_parameters, not_meant}
use Rattle.type_scopes.proofs.file.File.named_shape.Goals as goal

pub returns-then-contains : goal.returns-then-contains
returns-then-contains c here kept =
    let has : has_word c.args.scope.now.parameters.keys c.args.name.now.word ≡ true = ap (has_word c.args.scope.now.parameters.keys) (sym c.bytes.ensures) ∙ (sym c.contains.ensures ∙ c.if-contains.true) in
    let p = in_parameters c.args.self.now c.args.scope.now here c.args.name.now.word kept has in
    (p.0, c.fault.ensures ∙ ap (λ (f : Fault). Some (f, c.args.name.now.place)) (sym p.1))

pub returns-in-Some-Shape : goal.returns-in-Some-Shape
returns-in-Some-Shape c here kept =
    let has : has_word c.args.scope.now.parameters.keys c.args.name.now.word ≡ false = ap (has_word c.args.scope.now.parameters.keys) (sym c.bytes.ensures) ∙ (sym c.contains.ensures ∙ c.if-contains.false) in
    let there = in_file c.args.self.now c.args.scope.now here c.args.name.now.word kept has ∙ (sym c.file_meaning.ensures ∙ ap (option_map meant) (c.in-Some-Shape.is ∙ ap Some c.in-Some-Shape.field-0-is)) in
    ap shape_meant there

pub returns-in-Some-Function : goal.returns-in-Some-Function
returns-in-Some-Function c here kept =
    let has : has_word c.args.scope.now.parameters.keys c.args.name.now.word ≡ false = ap (has_word c.args.scope.now.parameters.keys) (sym c.bytes.ensures) ∙ (sym c.contains.ensures ∙ c.if-contains.false) in
    let there = in_file c.args.self.now c.args.scope.now here c.args.name.now.word kept has ∙ (sym c.file_meaning.ensures ∙ ap (option_map meant) c.in-Some-Function.is) in
    let other : (s : ℕ) → c.in-Some-Function.field-0 ≡ M.Shape s → ⊥ = λ s is. search rules in
    let no_shape = not_meant c.in-Some-Function.field-0 other in
    (ap shape_meant there ∙ no_shape.0, c.fault-in-Some-Function.ensures ∙ ap (λ (f : Fault). Some (f, c.args.name.now.place)) (sym (ap misnamed there ∙ no_shape.1)))

pub returns-in-None : goal.returns-in-None
returns-in-None c here kept =
    let has : has_word c.args.scope.now.parameters.keys c.args.name.now.word ≡ false = ap (has_word c.args.scope.now.parameters.keys) (sym c.bytes.ensures) ∙ (sym c.contains.ensures ∙ c.if-contains.false) in
    let there = in_file c.args.self.now c.args.scope.now here c.args.name.now.word kept has ∙ (sym c.file_meaning.ensures ∙ ap (option_map meant) c.in-None.is) in
    (ap shape_meant there, c.fault-in-None.ensures ∙ ap (λ (f : Fault). Some (f, c.args.name.now.place)) (sym (ap misnamed there)))
