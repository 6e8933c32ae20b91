use Rattle.std.proofs.Common.{[], refl}
use Rattle.std.proofs.lemmas.Result.{IfOk-weaker}
use Rattle.cstar_tree.specs.BlockScopes.{behind_declarations}
use Rattle.cstar_tree.specs.Calls.{calls_in_block}
use Rattle.cstar_tree.specs.Headers.{behind_parameters}
use Rattle.call_groups.proofs.Walking.{goes_on}
use Rattle.call_groups.proofs.calls.Calls.function.Goals as goal

pub returns : goal.returns
returns c =
    let f = c.args.function.now in
    IfOk-weaker c.block_in.result _ _
    (λ _ body. goes_on 0 c.args.self.now c.parameters.new.self c.block_in.new.self (λ here. []) (calls_in_block f.body) (λ here. calls_in_block f.body (behind_parameters here 0 f.parameters.items)) (λ here. behind_parameters here 0 f.parameters.items) (λ here. behind_declarations here f.body.declarations.items) (λ here. behind_declarations (behind_parameters here 0 f.parameters.items) f.body.declarations.items) c.in_ok-parameters.ensures body (λ here. refl) (λ here. refl))
    c.block_in.ensures
