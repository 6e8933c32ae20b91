use Rattle.std.proofs.Common.{◌≡◌}
use Rattle.cstar_tree.specs.Headers.{parameter_types}
use Rattle.cstar_tree.specs.Scopes.{Here}
use Rattle.type_scopes.specs.Bindings.{bindings}
use Rattle.shape_types.proofs.Heads.{AreParametersTo}
use Rattle.shape_types.proofs.instances.parameters.Given as goal

abbrev pub invariant-loop-number : goal.invariant-loop-number
invariant-loop-number l = record {
  count : l.scopes.count ≡ l.fn.scopes.count;
  types : l.types ≡ l.header.parameters.items;
  typed : (start : Here) → start.names.inner ≡ bindings l.fn.scopes.locals → l.header.parameters.items ≡ parameter_types start 0 l.parameters → AreParametersTo start l.types l.parameters l.number (bindings l.scopes.locals) l.complete l.infos.items;
}
