use Rattle.std.proofs.Common.{Some, eqb, not, ap, ◌∙◌}
use Rattle.std.specs.Int.{from_bool}
use Rattle.std.specs.Option.{option_eq}
use Rattle.cstar_base.specs.Operators.{operate}
use Rattle.paris_code.specs.Operators.{comparison_of}
use Rattle.phase_meaning.proofs.Operations.{word, compared}
use Rattle.phase_meaning.proofs.arith.holds.Goals as goal

pub returns : goal.returns
returns c =
    let o = comparison_of c.args.relation in
    let len = c.args.len in
    ap from_bool (
    c.eq.ensures ∙ ap (λ r. option_eq eqb r (Some 1)) (
    c.op.ensures
    ∙ ap (λ r. operate r.0 r.1 c.extended-left.result c.extended-right.result) c.operator-operator.ensures
    ∙ ap (λ x. operate o.0 o.1 x c.extended-right.result) (c.extended-left.ensures ∙ ap (λ r. word len (not r.1) c.args.a) c.operator-operator.ensures)
    ∙ ap (λ y. operate o.0 o.1 (word len (not o.1) c.args.a) y) (c.extended-right.ensures ∙ ap (λ r. word len (not r.1) c.args.b) c.operator-operator.ensures)))
    ∙ compared c.args.relation len c.args.a c.args.b c.requires.len.0 c.requires.len.1 c.requires.left c.requires.right
