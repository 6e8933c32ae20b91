use Rattle.std.proofs.Common.{◌≡◌, [], map, ℕ, ◌+◌, List, ◌∷◌, ◌++◌, length, take, ap, sym, ◌∙◌, arith}
use Rattle.std.proofs.lemmas.List.{length-map, map-append, take_more}
use Rattle.paris_code.specs.declared.program.Unit.{Unit as CodeUnit}
use Rattle.paris_code.specs.declared.program.Virtual.{Virtual}
use Rattle.field_alloc.specs.Places.{entries_from, units_from, items_of}
use Rattle.field_alloc.proofs.Rows.{units_from-snoc, length-units_from}
use Rattle.field_alloc.proofs.places.places_of_units.Goals as goal

pub loop-unit-init : goal.loop-unit-init
unfolding units_from
loop-unit-init c = ap (map items_of) c.new-places.ensures.items

pub loop-unit-preserved : goal.loop-unit-preserved
loop-unit-preserved c =
    let finals = c.args.finals.now in
    let own = map items_of c.args.own.now in
    let us = c.args.units.now in
    let i = c.loop-unit.unit-index in
    let u = c.unit-item.result in
    let front = take i us in
    let more = take_more us i u c.loop-unit-test.true ∙ ap (λ (x : CodeUnit). front ++ x ∷ []) (sym c.unit-item.is) in
    let long : c.len.result ≡ 0 + length front = omega (arith, ap length c.loop-unit.invariant, length-map c.loop-unit.places.items items_of, length-units_from finals own 0 front) in
    let row = c.in_ok-entries.ensures ∙ ap (λ n. entries_from finals own n 0 c.as_slice.result.now) long ∙ ap (λ (l : List Virtual). entries_from finals own (0 + length front) 0 l) c.as_slice.ensures.value in
    ap (map items_of) c.in_ok-push.ensures.items
    ∙ map-append items_of c.loop-unit.places.items (c.in_ok-entries.entries ∷ [])
    ∙ ap (λ (l : List (List ℕ)). l ++ c.in_ok-entries.entries.items ∷ []) c.loop-unit.invariant
    ∙ ap (λ (l : List ℕ). units_from finals own 0 front ++ l ∷ []) row
    ∙ sym (units_from-snoc finals own 0 front u)
    ∙ ap (λ (l : List CodeUnit). units_from finals own 0 l) (sym more)
