use Rattle.std.proofs.Common.{Box, ◌∙◌}
use Rattle.std.proofs.lemmas.List.{length-map}
use Rattle.std.specs.declared.alloc.Global.{Global}
use Rattle.cstar_tree.specs.declared.typed.TExpr.{TExpr}
use Rattle.type_expressions.specs.Answers.{trees}
use Rattle.type_expressions.specs.Recorded as R
use Rattle.type_expressions.proofs.CallFaults.{refused_call}
use Rattle.type_expressions.proofs.calls.call_fits.Goals as goal

pub returns-then-header-clause-refused : goal.returns-then-header-clause-refused
returns-then-header-clause-refused c = refused_call c.args.file.now c.args.site.function c.args.function c.args.header.now c.args.place (trees c.args.arguments.now) c.fault.result c.fault.ensures (R.other_shape c.if-header.true)

pub returns-then-has_parallel_argument-clause-refused : goal.returns-then-has_parallel_argument-clause-refused
returns-then-has_parallel_argument-clause-refused c = refused_call c.args.file.now c.args.site.function c.args.function c.args.header.now c.args.place (trees c.args.arguments.now) c.fault-then-has_parallel_argument.result c.fault-then-has_parallel_argument.ensures (R.parallel (c.has_parallel_argument.ensures.0 c.if-has_parallel_argument.true))

pub returns-then-len-arguments-clause-refused : goal.returns-then-len-arguments-clause-refused
returns-then-len-arguments-clause-refused c = refused_call c.args.file.now c.args.site.function c.args.function c.args.header.now c.args.place (trees c.args.arguments.now) c.fault-then-len-arguments.result c.fault-then-len-arguments.ensures (R.count (λ same. c.if-len-arguments.true (c.len.ensures ∙ c.args.header.now.parameters.ok.0 ∙ same ∙ length-map c.args.arguments.now (λ (b : Box TExpr Global). b.value))))

pub returns-then-is_recursive-clause-refused : goal.returns-then-is_recursive-clause-refused
returns-then-is_recursive-clause-refused c = refused_call c.args.file.now c.args.site.function c.args.function c.args.header.now c.args.place (trees c.args.arguments.now) c.fault-then-is_recursive.result c.fault-then-is_recursive.ensures (R.recursion (c.is_recursive.ensures.0 c.if-is_recursive.true))
