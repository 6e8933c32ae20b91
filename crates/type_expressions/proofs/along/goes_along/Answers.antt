use Rattle.std.proofs.Common.{inl, inr, ap, sym, ◌∙◌}
use Rattle.type_expressions.proofs.Walking.{dim_along, enumerate_along, pcoord_along, scan_along}
use Rattle.type_expressions.proofs.along.goes_along.Goals as goal
use Rattle.std.specs.Option.{is_some}
use Rattle.cstar_tree.specs.Syntax.{place_of}
use Rattle.type_expressions.proofs.AlongRecording.{dim_finds, enumerate_finds, first_of, pcoord_finds, scan_finds}

pub returns-in-Some-clause-along : goal.returns-in-Some-clause-along
returns-in-Some-clause-along c =
    rw c.in-DimOf.is (dim_along c.args.file.now c.args.locals.now c.args.site c.in-DimOf.place c.in-DimOf.shape c.in-DimOf.written c.args.axis c.shape.result c.in_ok-shape-in-DimOf.shape c.in-Some.field-0 c.rank_of_shape-rank.result c.place.result c.in_ok-axis-in-DimOf.axis _ c.known_along.result c.shape.ensures c.in_ok-shape-in-DimOf.ensures.part c.in-Some.is c.rank_of_shape-rank.ensures c.in_ok-axis-in-DimOf.ensures.axis c.known_along.ensures.along)

pub returns-in_ok-axis-in-Pcoord-clause-along : goal.returns-in_ok-axis-in-Pcoord-clause-along
returns-in_ok-axis-in-Pcoord-clause-along c =
    rw c.in-Pcoord.is (pcoord_along c.args.file.now c.args.locals.now c.args.site c.in-Pcoord.place c.in-Pcoord.written c.args.axis c.rank_of_shape-rank-in-Pcoord.result c.place-in-Pcoord.result c.in_ok-axis-in-Pcoord.axis _ _ c.known_along-in-Pcoord.result c.rank_of_shape-rank-in-Pcoord.ensures c.in_ok-axis-in-Pcoord.ensures.axis c.known_along-in-Pcoord.ensures.along)

pub returns-in_ok-bit-in-Scan-clause-along : goal.returns-in_ok-bit-in-Scan-clause-along
returns-in_ok-bit-in-Scan-clause-along c =
    elim c.in-Scan.is [
      | inl k ↦ rw k.6 (scan_along c.args.file.now c.args.locals.now c.args.site k.0 k.1 c.in-Scan.written k.2 k.3 k.4 c.in-Scan.bit k.5 c.args.axis c.rank_of_shape-rank-in-Scan.result c.place-in-Scan.result c.in_ok-axis-in-Scan.axis c.segment_bit.result c.in_ok-bit-in-Scan.bit _ c.known_along-in-Scan.result c.rank_of_shape-rank-in-Scan.ensures c.in_ok-axis-in-Scan.ensures.axis c.segment_bit.ensures c.in_ok-bit-in-Scan.ensures.part c.known_along-in-Scan.ensures.along)
      | inr k ↦ rw k.4 (enumerate_along c.args.file.now c.args.locals.now c.args.site k.0 c.in-Scan.written k.1 k.2 k.3 c.in-Scan.bit c.args.axis c.rank_of_shape-rank-in-Scan.result c.place-in-Scan.result c.in_ok-axis-in-Scan.axis c.segment_bit.result c.in_ok-bit-in-Scan.bit _ c.known_along-in-Scan.result c.rank_of_shape-rank-in-Scan.ensures c.in_ok-axis-in-Scan.ensures.axis c.segment_bit.ensures c.in_ok-bit-in-Scan.ensures.part c.known_along-in-Scan.ensures.along)
    ]

pub returns-in-Some-clause-faults : goal.returns-in-Some-clause-faults
returns-in-Some-clause-faults c =
    rw c.in-DimOf.is (dim_finds c.args.file.now c.args.locals.now c.args.site c.in-DimOf.place c.in-DimOf.shape c.in-DimOf.written c.args.axis c.shape.result c.in_ok-shape-in-DimOf.shape c.rank_of_shape-rank.result c.place.result c.in_ok-axis-in-DimOf.axis (is_some c.known_along.result) _ _ _ c.shape.ensures c.in_ok-shape-in-DimOf.ensures.part c.in_ok-shape-in-DimOf.ensures.least c.rank_of_shape-rank.ensures (c.place.ensures ∙ ap place_of c.deref.ensures) c.in_ok-axis-in-DimOf.ensures.faults (λ none. inr (first_of _ (sym c.known_along.ensures.known ∙ none))))

pub returns-in-None-clause-faults : goal.returns-in-None-clause-faults
returns-in-None-clause-faults c =
    rw c.in-DimOf.is (dim_finds c.args.file.now c.args.locals.now c.args.site c.in-DimOf.place c.in-DimOf.shape c.in-DimOf.written c.args.axis c.shape.result c.in_ok-shape-in-DimOf.shape c.rank_of_shape-rank.result c.place.result c.in_ok-axis-in-DimOf.axis _ _ _ _ c.shape.ensures c.in_ok-shape-in-DimOf.ensures.part c.in_ok-shape-in-DimOf.ensures.least c.rank_of_shape-rank.ensures (c.place.ensures ∙ ap place_of c.deref.ensures) c.in_ok-axis-in-DimOf.ensures.faults (λ none. inl (ap is_some c.in-None.is)))

pub returns-in_ok-axis-in-Pcoord-clause-faults : goal.returns-in_ok-axis-in-Pcoord-clause-faults
returns-in_ok-axis-in-Pcoord-clause-faults c =
    rw c.in-Pcoord.is (pcoord_finds c.args.file.now c.args.locals.now c.args.site c.in-Pcoord.place c.in-Pcoord.written c.args.axis c.rank_of_shape-rank-in-Pcoord.result c.place-in-Pcoord.result c.in_ok-axis-in-Pcoord.axis c.known_along-in-Pcoord.result _ _ c.rank_of_shape-rank-in-Pcoord.ensures (c.place-in-Pcoord.ensures ∙ ap place_of c.deref-in-Pcoord.ensures) c.in_ok-axis-in-Pcoord.ensures.faults c.known_along-in-Pcoord.ensures.known)

pub returns-in_ok-bit-in-Scan-clause-faults : goal.returns-in_ok-bit-in-Scan-clause-faults
returns-in_ok-bit-in-Scan-clause-faults c =
    let at = c.place-in-Scan.ensures ∙ ap place_of c.deref-in-Scan.ensures in
    elim c.in-Scan.is [
      | inl k ↦ rw k.6 (scan_finds c.args.file.now c.args.locals.now c.args.site k.0 k.1 c.in-Scan.written k.2 k.3 k.4 c.in-Scan.bit k.5 c.args.axis c.rank_of_shape-rank-in-Scan.result c.place-in-Scan.result c.in_ok-axis-in-Scan.axis c.segment_bit.result c.in_ok-bit-in-Scan.bit c.known_along-in-Scan.result _ _ _ c.rank_of_shape-rank-in-Scan.ensures at c.in_ok-axis-in-Scan.ensures.faults c.segment_bit.ensures c.in_ok-bit-in-Scan.ensures.part c.in_ok-bit-in-Scan.ensures.least c.known_along-in-Scan.ensures.known)
      | inr k ↦ rw k.4 (enumerate_finds c.args.file.now c.args.locals.now c.args.site k.0 c.in-Scan.written k.1 k.2 k.3 c.in-Scan.bit c.args.axis c.rank_of_shape-rank-in-Scan.result c.place-in-Scan.result c.in_ok-axis-in-Scan.axis c.segment_bit.result c.in_ok-bit-in-Scan.bit c.known_along-in-Scan.result _ _ _ c.rank_of_shape-rank-in-Scan.ensures at c.in_ok-axis-in-Scan.ensures.faults c.segment_bit.ensures c.in_ok-bit-in-Scan.ensures.part c.in_ok-bit-in-Scan.ensures.least c.known_along-in-Scan.ensures.known)
    ]
