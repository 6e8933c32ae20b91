use Rattle.std.proofs.Common.{subst, sym, ◌∙◌}
use Rattle.type_expressions.specs.Along.{HasExtents}
use Rattle.type_expressions.proofs.Indexed.{left_index_types, scalar_indexed, wrong_count}
use Rattle.type_expressions.proofs.OnOperands.{tells_or_memory}
use Rattle.type_expressions.proofs.references.left_index.Goals as goal

pub returns-in_default : goal.returns-in_default
returns-in_default c program here n given has extents is array h =
    tells_or_memory c.fault.result c.fault.ensures (scalar_indexed c.args.variable.1 given is array c.in_default.is h)

pub returns-then-not-is_rank : goal.returns-then-not-is_rank
returns-then-not-is_rank c program here n given has extents is array h =
    let known = subst (HasExtents here) c.in-Some.is extents in
    tells_or_memory c.fault-then-not-is_rank.result c.fault-then-not-is_rank.ensures (wrong_count c.args.variable.1 c.args.file.now.shapes.items c.in-Some.of given c.args.indexes.items c.rank.result c.len.result has is array c.in-Some.is known h c.rank.ensures (c.len.ensures ∙ c.args.indexes.ok.0) (sym c.is_rank.ensures ∙ c.if-not-is_rank.true))

pub returns : goal.returns
returns c program here n given has extents is array h =
    let known = subst (HasExtents here) c.in-Some.is extents in
    let shape = rw c.as_slice.ensures.value at c.shape_among-shape.ensures in
    left_index_types c.args.variable.1 c.args.file.now.shapes.items c.in-Some.of given c.args.indexes.items c.in_ok-indexes.indexes c.shape_among-shape.result c.rank.result c.len.result has is array c.in-Some.is known h c.rank.ensures (c.len.ensures ∙ c.args.indexes.ok.0) (sym c.is_rank.ensures ∙ c.if-not-is_rank.false) shape c.in_ok-indexes.ensures
