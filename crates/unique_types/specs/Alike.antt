-- What two typed trees of one expression have in common.
use Rattle.std.specs.Prelude.{◌≡◌}
use Rattle.cstar_tree.specs.declared.typed.TExpr.{TExpr}
use Rattle.cstar_tree.specs.Operations.{target_of}
use Rattle.cstar_tree.specs.Typed.{type_of}

-- Two typed trees are one to the expression that they are parts of: they have one type, and as
-- targets they are one. Where their parts lie in memory may differ.
pub record IsAlike (t u : TExpr) : Type 0 where
  pub type_is : type_of t ≡ type_of u
  pub target_is : target_of t ≡ target_of u
