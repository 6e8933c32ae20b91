use Rattle.std.proofs.Common.{refl}
use Rattle.cstar_tree.specs.Conversions.{int}
use Rattle.cstar_tree.specs.declared.syntax.Expr as E
use Rattle.typed_nodes.proofs.Elems.{same_parts}
use Rattle.type_expressions.proofs.Walking.{at_site_ok, counted_there, getchar_types, named_ok, shape_found}
use Rattle.type_expressions.proofs.walk.leaf.Goals as goal
use Rattle.std.proofs.lemmas.Result.{err_from_is_err_and}
use Rattle.cstar_tree.specs.ExpressionFaults as F
use Rattle.type_expressions.proofs.NodeFaults.{named_told, no_shape_told, untyped_plainly}

pub returns-in-Name-clause-typed : goal.returns-in-Name-clause-typed
returns-in-Name-clause-typed c = rw c.in-Name.is (named_ok c.args.file.now c.args.locals.now c.args.site c.in-Name.written c.name.result c.name.ensures)

pub returns-in-Number-clause-typed : goal.returns-in-Number-clause-typed
returns-in-Number-clause-typed c = rw c.in-Number.is (λ program here a. c.number.ensures program here c.in-Number.place)

pub returns-in-Dot-clause-typed : goal.returns-in-Dot-clause-typed
returns-in-Dot-clause-typed c = rw c.in-Dot.is (at_site_ok c.args.file.now c.args.locals.now c.args.site (E.Dot c.in-Dot.place) c.dot.result c.dot.ensures)

pub returns-in_ok-shape-in-PositionsOf-clause-typed : goal.returns-in_ok-shape-in-PositionsOf-clause-typed
returns-in_ok-shape-in-PositionsOf-clause-typed c = rw c.in-PositionsOf.is (λ program here a.
    let is = shape_found c.in-PositionsOf.shape a c.in_ok-shape-in-PositionsOf.ensures in
    let counted = counted_there c.in-PositionsOf.shape a is in
    c.positions_of.ensures program here c.in-PositionsOf.place c.in-PositionsOf.shape counted.extents a.shapes is counted.has_extents counted.few_positions)

pub returns-in_ok-shape-in-RankOf-clause-typed : goal.returns-in_ok-shape-in-RankOf-clause-typed
returns-in_ok-shape-in-RankOf-clause-typed c = rw c.in-RankOf.is (λ program here a.
    let is = shape_found c.in-RankOf.shape a c.in_ok-shape-in-RankOf.ensures in
    let counted = counted_there c.in-RankOf.shape a is in
    c.rank_of.ensures program here c.in-RankOf.place c.in-RankOf.shape counted.extents a.shapes is counted.has_extents counted.few_axes)

pub returns-in-GetChar-clause-typed : goal.returns-in-GetChar-clause-typed
returns-in-GetChar-clause-typed c = rw c.in-GetChar.is (λ program here a. getchar_types _ (same_parts _ int refl refl))

pub returns-in-Name-clause-refused : goal.returns-in-Name-clause-refused
returns-in-Name-clause-refused c program here leaf a = rw c.in-Name.is (named_told program here c.in-Name.written c.name.result (c.name.ensures program here a.names a.at_site))

pub returns-in-Dot-clause-refused : goal.returns-in-Dot-clause-refused
returns-in-Dot-clause-refused c program here leaf a = rw c.in-Dot.is (untyped_plainly program here (E.Dot c.in-Dot.place) _ c.dot.result (c.dot.ensures program here a.at_site))

pub returns-in_err-shape-in-PositionsOf-clause-refused : goal.returns-in_err-shape-in-PositionsOf-clause-refused
returns-in_err-shape-in-PositionsOf-clause-refused c program here leaf a =
    let p = err_from_is_err_and c.from_residual.result c.from_residual.ensures.1 in
    rw (p.1, p.2, c.in-PositionsOf.is) (no_shape_told c.args.file.now c.args.locals.now c.args.site program here (E.PositionsOf c.in-PositionsOf.place c.in-PositionsOf.shape) _ c.in-PositionsOf.shape _ F.in_positions a c.in_err-shape-in-PositionsOf.ensures)

pub returns-in_err-shape-in-RankOf-clause-refused : goal.returns-in_err-shape-in-RankOf-clause-refused
returns-in_err-shape-in-RankOf-clause-refused c program here leaf a =
    let p = err_from_is_err_and c.from_residual-in_err-shape-in-RankOf.result c.from_residual-in_err-shape-in-RankOf.ensures.1 in
    rw (p.1, p.2, c.in-RankOf.is) (no_shape_told c.args.file.now c.args.locals.now c.args.site program here (E.RankOf c.in-RankOf.place c.in-RankOf.shape) _ c.in-RankOf.shape _ F.in_rank a c.in_err-shape-in-RankOf.ensures)
