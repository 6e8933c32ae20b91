use Rattle.std.proofs.Common.{List, [], ◌∷◌, ◌++◌, ap, sym, ◌∙◌}
use Rattle.cstar_tree.specs.declared.typed.TExpr.{TExpr}
use Rattle.type_expressions.specs.Answers.{trees}
use Rattle.type_expressions.proofs.CallArguments.{trees_more}
use Rattle.type_expressions.proofs.calls.unboxed.Goals as goal

pub loop-argument-preserved : goal.loop-argument-preserved
loop-argument-preserved c =
    c.in_ok-push.ensures.items
    ∙ (ap (λ (es : List TExpr). es ++ c.into_inner.result ∷ []) c.loop-argument.invariant
    ∙ (ap (λ (e : TExpr). trees c.loop-argument.yielded ++ e ∷ []) c.into_inner.ensures ∙ sym (trees_more c.loop-argument.yielded c.in-Some.argument)))
