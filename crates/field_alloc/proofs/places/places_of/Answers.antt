use Rattle.std.proofs.Common.{◌≡◌, [], map, ℕ, ◌+◌, List, ◌∷◌, ◌++◌, length, get_or, take, ap, sym, ◌∙◌, arith}
use Rattle.std.proofs.lemmas.List.{take_more}
use Rattle.paris_code.specs.declared.program.Owner.TheVariants as O
use Rattle.paris_code.specs.declared.program.Virtual.{Virtual}
use Rattle.field_alloc.specs.Places.{begin_of, entries_from, items_of}
use Rattle.field_alloc.proofs.Rows.{entries_from-snoc, length-entries_from}
use Rattle.field_alloc.proofs.places.places_of.Goals as goal

pub loop-entry-init : goal.loop-entry-init
unfolding entries_from
loop-entry-init c = c.new-places.ensures.items

pub loop-entry-preserved : goal.loop-entry-preserved
loop-entry-preserved c =
    let finals = c.args.finals.now in
    let own = map items_of c.args.own.now in
    let number = c.args.number in
    let vs = c.args.entries.now in
    let i = c.loop-entry.entry-index in
    let none : Virtual = record { set = 0; len = 0; owner = O.File 0 } in
    let v : Virtual = get_or vs i none in
    let front = take i vs in
    let long : c.len.result ≡ 0 + length front = omega (arith, ap length c.loop-entry.invariant, length-entries_from finals own number 0 front) in
    c.in_ok-push.ensures.items
    ∙ ap (λ n. c.loop-entry.places.items ++ n ∷ []) c.place_of-place.ensures
    ∙ ap (λ (l : List ℕ). l ++ begin_of finals own number c.len.result v.owner ∷ []) c.loop-entry.invariant
    ∙ ap (λ n. entries_from finals own number 0 front ++ begin_of finals own number n v.owner ∷ []) long
    ∙ sym (entries_from-snoc finals own number 0 front v)
    ∙ ap (λ (l : List Virtual). entries_from finals own number 0 l) (sym (take_more vs i none c.loop-entry-test.true))
