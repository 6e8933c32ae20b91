use Rattle.std.proofs.Common.{sym, ap, ◌∙◌}
use Rattle.cstar_tree.specs.Syntax.{place_of}
use Rattle.cstar_tree.specs.declared.syntax.Expr as E
use Rattle.type_expressions.specs.Walks.{IsPart}
use Rattle.type_expressions.proofs.Walking.{if_answers}
use Rattle.type_expressions.proofs.walk.on_operand.Goals as goal
use Rattle.type_expressions.proofs.NodeFaults.{untyped_answer}

pub returns-in-Casts-clause-typed : goal.returns-in-Casts-clause-typed
returns-in-Casts-clause-typed c =
    rw c.in-Casts.is (if_answers (λ program here x. IsPart program here c.in-Casts.inner.value x) c.args.operand (E.Casts c.in-Casts.chain c.in-Casts.inner) c.casts.result (λ program here h. c.casts.ensures program here c.in-Casts.chain c.in-Casts.inner (sym c.as_slice.ensures.value) (sym (c.place.ensures ∙ ap place_of c.deref.ensures)) h))

pub returns-in-Casts-clause-refused : goal.returns-in-Casts-clause-refused
returns-in-Casts-clause-refused c program here kind typed =
    rw c.in-Casts.is (untyped_answer program here (E.Casts c.in-Casts.chain c.in-Casts.inner) ⊥ c.casts.result (c.casts.ensures program here c.in-Casts.chain c.in-Casts.inner (sym c.as_slice.ensures.value) (sym (c.place.ensures ∙ ap place_of c.deref.ensures)) (rw c.in-Casts.is at typed)))
