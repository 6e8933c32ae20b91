use Rattle.std.proofs.Common.{refl, sym, ◌∙◌}
use Rattle.cstar_tree.specs.Conversions.{int}
use Rattle.cstar_tree.specs.ExpressionFaults as F
use Rattle.typed_nodes.proofs.Elems.{same_parts}
use Rattle.type_expressions.proofs.OnOperands.{tells_or_memory}
use Rattle.type_expressions.proofs.Printed.{as_many, parallel_among, printf_types}
use Rattle.type_expressions.proofs.calls.printf.Goals as goal

pub returns-then-has_parallel : goal.returns-then-has_parallel
returns-then-has_parallel c program here given h =
    let found = parallel_among _ (rw c.as_slice.ensures.value at (sym c.has_parallel.ensures ∙ c.if-has_parallel.true)) in
    tells_or_memory c.fault.result c.fault.ensures (F.parallel_printed given found.0 h found.3 found.4)

pub returns-in_default : goal.returns-in_default
returns-in_default c program here given h =
    tells_or_memory c.fault-in_default.result c.fault-in_default.ensures (F.no_format given h (rw (c.bytes.ensures, c.in_default.is) at c.in_ok-cut.ensures))

pub returns-then-cut-len : goal.returns-then-cut-len
returns-then-cut-len c program here given h =
    let cut = rw (c.bytes.ensures, c.in-Some.is) at c.in_ok-cut.ensures in
    tells_or_memory c.fault-then-cut-len.result c.fault-then-cut-len.ensures (F.value_count given h cut.0 (λ same. c.if-cut-len.true (cut.1 ∙ same ∙ sym (as_many c.args.arguments.items h) ∙ sym c.args.arguments.ok.0 ∙ sym c.len.ensures)))

pub returns : goal.returns
returns c program here given h =
    let none = rw c.as_slice.ensures.value at (sym c.has_parallel.ensures ∙ c.if-has_parallel.false) in
    let cut = rw (c.bytes.ensures, c.in-Some.is) at c.in_ok-cut.ensures in
    rw c.in_ok-new.ensures.ok (printf_types _ given c.args.arguments.items c.in-Some.cut.pieces c.in_ok-promoted_arguments.field-0 (same_parts _ int refl refl) h none cut (c.if-cut-len.false ∙ c.len.ensures ∙ c.args.arguments.ok.0) c.in_ok-promoted_arguments.ensures)
