use Rattle.std.proofs.Common.{◌≡◌, ◌++◌, map, ap, ◌∙◌, arith, rules}
use Rattle.cstar_tree.specs.declared.typed.LocalVar.{LocalVar}
use Rattle.cstar_tree.specs.TypedParts.{concat}
use Rattle.cstar_tree.specs.Variables.{variables_of}
use Rattle.lower_base.proofs.Numbering.{each_step, each_done, variables_block, numbered_append}
use Rattle.lower_base.proofs.names.+locals.Goals as goal

pub number_each-loop-statement-preserved : goal.number_each-loop-statement-preserved
number_each-loop-statement-preserved t c = each_step c.args.statements.now c.loop-statement.statement-index c.statement-item.result _ _ _ (omega arith) c.statement-item.is c.in_ok-number_locals.ensures c.loop-statement.invariant

pub number_each-returns : goal.number_each-returns
number_each-returns t c = each_done c.args.statements.now c.loop-statement.statement-index _ _ (omega arith) c.loop-statement.invariant

pub number_locals-returns-in_ok-number_declared-in-Block : goal.number_locals-returns-in_ok-number_declared-in-Block
number_locals-returns-in_ok-number_declared-in-Block t c =
    let e : variables_of c.args.s.now ≡ map (λ (local : LocalVar). local.info) c.in-Block.declared.items ++ concat (map variables_of c.in-Block.statements.items) = ap variables_of c.in-Block.is ∙ variables_block c.in-Block.declared c.in-Block.statements in
    rw e (rw (numbered_append (map (λ (local : LocalVar). local.info) c.in-Block.declared.items) (concat (map variables_of c.in-Block.statements.items))) (search rules))
