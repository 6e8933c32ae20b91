use Rattle.std.proofs.Common.{◌^◌, ◌%◌, not, ap, ◌∙◌}
use Rattle.std.specs.Option.{unwrap_or}
use Rattle.cstar_base.specs.Operators.{operate}
use Rattle.paris_code.specs.Operators.{operator_of}
use Rattle.phase_meaning.proofs.Operations.{word, operated}
use Rattle.phase_meaning.proofs.arith.operate.Goals as goal

pub returns : goal.returns
returns c =
    let o = operator_of c.args.operation in
    let len = c.args.len in
    ap (λ n. n % 2 ^ len) (
    c.unwrap_or.ensures ∙ ap (λ r. unwrap_or r 0) (
    c.op.ensures
    ∙ ap (λ r. operate r.0 r.1 c.extended-left.result c.right_word.result) c.operator-operator.ensures
    ∙ ap (λ x. operate o.0 o.1 x c.right_word.result) (c.extended-left.ensures ∙ ap (λ r. word len (not r.1) c.args.a) c.operator-operator.ensures)
    ∙ ap (λ y. operate o.0 o.1 (word len (not o.1) c.args.a) y) c.right_word.ensures))
    ∙ operated c.args.operation len c.args.a c.args.b c.requires.len.0 c.requires.len.1 c.requires.left c.requires.right
