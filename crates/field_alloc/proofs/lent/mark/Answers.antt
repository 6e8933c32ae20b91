use Rattle.std.proofs.Common.{◌≡◌, ◌<◌, Bool, true, List, [], length, map, set, ap, sym, ◌∙◌, subst, arith}
use Rattle.std.proofs.lemmas.List.{get_or-map, length-map, map-set}
use Rattle.std.specs.List.{slice_index_or}
use Rattle.std.specs.Vec.{with_item}
use Rattle.field_alloc.specs.Lent.{AreMarked, flags_of}
use Rattle.field_alloc.proofs.Marks.{marked_one}
use Rattle.field_alloc.proofs.lent.mark.Goals as goal

pub returns-then-entry-len : goal.returns-then-entry-len
returns-then-entry-len c =
    let rows = c.args.flags.now.items in
    let row = c.index_mut-row.result.now in
    let number = c.args.number in
    let entry = c.args.entry in
    let flags : List (List Bool) = map flags_of rows in
    let in_rows : number < length rows = omega arith in
    let row_is : slice_index_or flags number [] ≡ row.items = get_or-map flags_of rows number row [] in_rows ∙ ap flags_of (sym c.index_mut-row.ensures.value) in
    let in_flags : number < length flags = omega (arith, length-map rows flags_of) in
    let in_row : entry < length (slice_index_or flags number []) = omega (arith, ap length row_is) in
    subst (λ (after : List (List Bool)). AreMarked (λ n e. (n ≡ number) × (e ≡ entry)) flags after)
    (ap (λ (l : List Bool). set flags number (set l entry true)) row_is ∙ sym (map-set flags_of rows number (with_item row entry true)))
    (marked_one flags number entry in_flags in_row)
