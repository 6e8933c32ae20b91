use Rattle.std.proofs.Common.{sym, true≢false, ◌∙◌}
use Rattle.std.proofs.lemmas.Result.{err_from_is_err_and}
use Rattle.cstar_tree.specs.ExpressionFaults as F
use Rattle.cstar_tree.specs.Scopes.{find}
use Rattle.type_scopes.specs.FileBindings.{names_at}
use Rattle.type_expressions.specs.Along as L
use Rattle.type_expressions.proofs.SegmentBits.{away, found, no_variable, one_shape, other_shape, tells_bits}
use Rattle.type_expressions.proofs.intrinsics.segment_bit.Goals as goal

pub returns-in_default : goal.returns-in_default
returns-in_default c program here has site = rw c.in_default.is L.no_bits

pub returns-in_err-variable : goal.returns-in_err-variable
returns-in_err-variable c program here has site =
    let p = err_from_is_err_and c.from_residual.result c.from_residual.ensures.1 in
    rw (c.in-Some.is, p.1, p.2) (no_variable program here c.in-Some.name (find (names_at c.args.file.now c.args.locals.now c.args.site.known) c.in-Some.name.word) c.in_err-variable.field-0.0 (has c.in-Some.name.word) c.in_err-variable.ensures)

pub returns-then-not-holds_bits : goal.returns-then-not-holds_bits
returns-then-not-holds_bits c program here has site =
    rw c.in-Some.is (tells_bits program here c.in-Some.name c.fault.result c.fault.ensures (λ e mode names. F.no_bits names (has c.in-Some.name.word ∙ c.in_ok-variable.ensures) (λ s h. true≢false (sym (c.holds_bits.ensures.1 (s, h)) ∙ c.if-not-holds_bits.true))))

pub returns-then-ne : goal.returns-then-ne
returns-then-ne c program here has site =
    let bits = c.holds_bits.ensures.0 c.if-not-holds_bits.false in
    rw c.in-Some.is (tells_bits program here c.in-Some.name c.fault-then-ne.result c.fault-then-ne.ensures (away (has c.in-Some.name.word ∙ c.in_ok-variable.ensures) bits.1 (λ same. other_shape c.in_ok-variable.ty.shape c.args.site.current (sym c.ne.ensures ∙ c.if-ne.true) (sym site.current ∙ same))))

pub returns : goal.returns
returns c program here has site =
    let bits = c.holds_bits.ensures.0 c.if-not-holds_bits.false in
    rw c.in-Some.is (found (has c.in-Some.name.word ∙ c.in_ok-variable.ensures) bits.1 (site.current ∙ one_shape c.in_ok-variable.ty.shape c.args.site.current (sym c.ne.ensures ∙ c.if-ne.false)))
