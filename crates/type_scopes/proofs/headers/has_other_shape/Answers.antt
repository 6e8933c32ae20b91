use Rattle.std.proofs.Common.{◌∙◌, refl, sym}
use Rattle.type_scopes.proofs.HeaderLemmas.{faulty_at_hand, known_at_hand, parallel_at_hand, scalar_at_hand}
use Rattle.type_scopes.proofs.headers.has_other_shape.Goals as goal

pub returns-then-is_some : goal.returns-then-is_some
returns-then-is_some c = rw c.in-Some.is (known_at_hand c.args.current c.in-Some.ty c.ne.result (parallel_at_hand c.args.current c.in-Some.ty.shape c.ne.result (sym c.is_some.ensures ∙ c.if-is_some.true) c.ne.ensures))

pub returns-else-is_some : goal.returns-else-is_some
returns-else-is_some c = rw c.in-Some.is (known_at_hand c.args.current c.in-Some.ty c.is_some.result (scalar_at_hand c.args.current c.in-Some.ty.shape c.is_some.result (sym c.is_some.ensures ∙ c.if-is_some.false) c.if-is_some.false))

pub returns-in-None : goal.returns-in-None
returns-in-None c = rw c.in-None.is (faulty_at_hand c.args.current _ refl)
