use Rattle.std.proofs.Common.{◌≡◌, ◌↔◌, false}
use Rattle.cstar_tree.specs.ExpressionTypes.{IsCallable}
use Rattle.cstar_tree.specs.Scopes.{Here}
use Rattle.type_scopes.specs.Headers.{IsKeptFor, returned}
use Rattle.type_scopes.proofs.HeaderLemmas.{AreTyped}
use Rattle.type_scopes.proofs.file.File.header_at.Given as goal

abbrev pub invariant-loop-parameter : goal.invariant-loop-parameter
invariant-loop-parameter l = record {
  typed : (start : Here) → IsKeptFor l.self l.initial.scope start → AreTyped l.self l.scope start l.parameter-items l.parameter-index l.parameters.items l.initial.faults.least l.faults.least;
  at_hand : (l.other_shape ≡ false) ↔ IsCallable l.current l.parameters.items (returned l.returns);
}
