use Rattle.std.proofs.Common.{◌≡◌, ◌∙◌, ℕ, ℤ, w64, codes, List, ◌++◌, ◌+◌, flat_map, take, drop, length, ap, sym, subst, refl, append-nil, arith}
use Rattle.std.specs.Fmt.{signed_decimal}
use Rattle.std.specs.List.{range_with_len}
use Rattle.std.proofs.lemmas.Int.{to_z-of_z}
use Rattle.std.proofs.lemmas.List.FromFn.{length-range_with_len}
use Rattle.cstar_io.specs.Output.{Takes, TakesPrefix}
use Rattle.cstar_io.specs.Faults.{RisesBy}
use Rattle.paris_code.specs.Shapes.{shapes_of}
use Rattle.paris_text.proofs.Putting.{put_both, failed_in}
use Rattle.final_values.specs.Finals.{value_text, values_text}
use Rattle.final_values.proofs.Rows.{number_at, text_more, text_split, text_whole, value_is}
use Rattle.final_values.proofs.lines.put_values.Goals as goal

pub positions-init : goal.positions-init
positions-init g c = (λ before is. subst (λ (bytes : List ℕ). g.O.Sink.agrees c.args.out.now bytes) (sym (append-nil before)) is, refl)

pub positions-preserved : goal.positions-preserved
positions-preserved g c =
    let text = value_text (g.P.Phases.memory c.args.phases.now) c.args.last.now in
    let k = c.positions.position in
    let n = c.positions-position-end.result in
    let all = range_with_len 0 n in
    let at = number_at n k c.positions-test.true in
    let value = value_is (g.P.Phases.memory c.args.phases.now) c.args.last.now k c.read.result c.value_of-number.result c.read.ensures c.value_of-number.ensures in
    let shown = ap (λ (n : ℤ). codes " " ++ signed_decimal n) (to_z-of_z w64 c.value_of-number.result (record { sfits = c.value_of-number.type_inv })) in
    let put = subst (λ (bytes : List ℕ). Takes g.O.Sink.agrees c.positions.out c.put_value.new.out bytes × (g.O.Sink.faults c.put_value.new.out ≡ g.O.Sink.faults c.positions.out)) (shown ∙ value) c.in-Ok.ensures in
    let both = put_both g.O.Sink.agrees g.O.Sink.faults c.args.out.now c.positions.out c.put_value.new.out (flat_map text (take k all)) (text k) c.positions.invariant put in
    (subst (λ (bytes : List ℕ). Takes g.O.Sink.agrees c.args.out.now c.put_value.new.out bytes) (sym (text_more text all k k at.0 at.1)) both.0, both.1)

pub returns-in-Err : goal.returns-in-Err
unfolding values_text
returns-in-Err g c =
    let text = value_text (g.P.Phases.memory c.args.phases.now) c.args.last.now in
    let k = c.positions.position in
    let n = c.positions-position-end.result in
    let all = range_with_len 0 n in
    let at = number_at n k c.positions-test.true in
    let value = value_is (g.P.Phases.memory c.args.phases.now) c.args.last.now k c.read.result c.value_of-number.result c.read.ensures c.value_of-number.ensures in
    let shown = ap (λ (n : ℤ). codes " " ++ signed_decimal n) (to_z-of_z w64 c.value_of-number.result (record { sfits = c.value_of-number.type_inv })) in
    let put = subst (λ (bytes : List ℕ). TakesPrefix g.O.Sink.agrees c.positions.out c.put_value.new.out bytes × RisesBy (g.O.Sink.faults c.positions.out) (g.O.Sink.faults c.put_value.new.out)) (shown ∙ value) c.in-Err.ensures in
    let whole = ap (λ (count : ℕ). flat_map text (range_with_len 0 count)) (sym c.positions-position-end.ensures) ∙ text_split text all k k at.0 at.1 in
    failed_in g.O.Sink.agrees g.O.Sink.faults c.args.out.now c.positions.out c.put_value.new.out (values_text (shapes_of c.args.sound.now) (g.P.Phases.memory c.args.phases.now) c.args.last.now) (flat_map text (take k all)) (text k) (flat_map text (drop (k + 1) all)) whole c.positions.invariant put

pub returns : goal.returns
unfolding values_text
returns g c =
    let text = value_text (g.P.Phases.memory c.args.phases.now) c.args.last.now in
    let k = c.positions.position in
    let n = c.positions-position-end.result in
    let all : k ≡ length (range_with_len 0 n) = omega (arith, length-range_with_len 0 n, c.positions-test.false, c.positions.auto.position-end) in
    let whole = text_whole text (range_with_len 0 n) k all ∙ ap (λ (count : ℕ). flat_map text (range_with_len 0 count)) c.positions-position-end.ensures in
    (subst (λ (bytes : List ℕ). Takes g.O.Sink.agrees c.args.out.now c.positions.out bytes) whole c.positions.invariant.0, c.positions.invariant.1)
