use Rattle.std.proofs.Common.{◌≡◌, ◌+◌, ◌<◌, List, [], ◌∷◌, ◌++◌, length, get_or, slice_set, take, drop, sym, ap, ◌∙◌, subst, arith}
use Rattle.std.specs.List.{AllZip}
use Rattle.std.proofs.lemmas.List.{drop-set-lt, get_or-drop, take_more, take_more_set}
use Rattle.std.proofs.lemmas.Grind.{drop_more_same}
use Rattle.std.proofs.lemmas.Slice.Zip.{all_zipped_more}
use Rattle.paris_code.specs.declared.instr.Instr.{Instr}
use Rattle.paris_code.specs.Moving.{IsMoved}
use Rattle.field_alloc.proofs.placing.place_code.Goals as goal

pub loop-instr-preserved : goal.loop-instr-preserved
loop-instr-preserved c =
    let p = c.args.places.now in
    let old = c.args.code.now in
    let code = c.loop-instr.code in
    let k = c.loop-instr.instr-index in
    let d = c.instr-item.result in
    let over = c.move_fields.new.self in
    let behind : drop k code ≡ drop k old = c.loop-instr.invariant.1 in
    let inside : k < length code = omega (arith, c.loop-instr.auto.code, c.loop-instr-test.true) in
    let read : (l : List Instr) → get_or (drop k l) 0 d ≡ get_or l k d = λ l. get_or-drop k l 0 d ∙ ap (λ n. get_or l n d) (omega arith) in
    let same : get_or code k d ≡ get_or old k d = sym (read code) ∙ ap (λ l. get_or l 0 d) behind ∙ read old in
    let moved : IsMoved p (get_or old k d) over = subst (λ (i : Instr). IsMoved p i over) same c.move_fields.ensures in
    let more = all_zipped_more (IsMoved p) (take k old) (take k code) (get_or old k d) over c.loop-instr.invariant.0 moved in (
      subst (λ (l : List Instr). AllZip (IsMoved p) l (take (k + 1) (slice_set code k over))) (sym (take_more old k d c.loop-instr-test.true))
          (subst (λ (l : List Instr). AllZip (IsMoved p) (take k old ++ get_or old k d ∷ []) l) (sym (take_more_set code k over inside)) more),
      drop-set-lt (k + 1) code k over (omega arith) ∙ drop_more_same code old k behind,
    )
