use Rattle.std.proofs.Common.{sym, ◌∙◌, subst, Option, ℕ}
use Rattle.std.proofs.lemmas.Result.{err_from_is_err_and}
use Rattle.cstar_tree.specs.Scopes.{IsAtHand}
use Rattle.type_expressions.proofs.AtSites.{element_away, element_types, none_in, parallel_index}
use Rattle.type_expressions.proofs.OnOperands.{tells}
use Rattle.type_expressions.proofs.references.element.Goals as goal

pub returns-then-is_some : goal.returns-then-is_some
returns-then-is_some c program here n length i site place is array h =
    tells c.fault.result c.fault.ensures (parallel_index c.args.array.1 i is array h (rw (c.ty.ensures, c.deref.ensures) at (sym c.is_some.ensures ∙ c.if-is_some.true)))

pub returns-in_err-holds : goal.returns-in_err-holds
returns-in_err-holds c program here n length i site place is array h =
    let p = err_from_is_err_and c.from_residual.result c.from_residual.ensures.1 in
    let scalar = none_in _ (rw (c.ty.ensures, c.deref.ensures) at (sym c.is_some.ensures ∙ c.if-is_some.false)) in
    rw (p.1, p.2) (element_away program here n c.args.bracket c.args.array.1 i is array h scalar site.current place c.in_err-holds.ensures)

pub returns : goal.returns
returns c program here n length i site place is array h =
    let scalar = none_in _ (rw (c.ty.ensures, c.deref.ensures) at (sym c.is_some.ensures ∙ c.if-is_some.false)) in
    rw c.value.ensures (element_types c.args.array.1 i c.args.index is array h scalar (subst (λ (k : Option ℕ). IsAtHand k c.args.array.1.shape) (sym site.current) c.in_ok-holds.ensures))
