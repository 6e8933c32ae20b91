use Rattle.std.proofs.Common.{◌≡◌, ◌≢◌, ℕ, ◌+◌, ◌<◌, List, [], ◌∷◌, ◌++◌, length, ap, sym, ◌∙◌, subst, refl, arith}
use Rattle.std.proofs.lemmas.Option.{none-some}
use Rattle.std.proofs.lemmas.Slice.Zip.{all_zipped_more}
use Rattle.std.specs.List.{AllZip, slice_index}
use Rattle.paris_code.specs.declared.program.Final.{Final}
use Rattle.field_alloc.specs.Files.{AreFilesStacked, AreFilesUnder}
use Rattle.field_alloc.specs.Placed.{IsPlacedFinal}
use Rattle.field_alloc.proofs.FileBits.{stacked_more, under_more}
use Rattle.field_alloc.proofs.finals.placed_finals.Goals as goal

pub loop-last-init : goal.loop-last-init
loop-last-init c =
    let none = sym {A = List Final} c.new-over.ensures.items in
    record {
      kept = subst (λ (os : List Final). AllZip IsPlacedFinal [] os) none tt;
      long = refl;
      under = subst (λ (os : List Final). AreFilesUnder os c.args.ends.now.items) none (λ file last at in_sets. absurd (none-some last at));
      stacked = subst (λ (os : List Final). AreFilesStacked (length c.args.ends.now.items) os) none (λ one other a b lt at_a at_b same in_sets. absurd (none-some a at_a));
    }

pub loop-last-preserved : goal.loop-last-preserved
loop-last-preserved c =
    let inv = c.loop-last.invariant in
    let last = c.in-Some.last in
    let over = c.moved_final.result in
    let before = c.loop-last.ends.items in
    let ends = c.take_bits.new.ends.items in
    let kept = c.moved_final.ensures.kept in
    let long : length ends ≡ length before = c.in_ok-offset.ensures.length in
    let sets : length c.args.ends.now.items ≡ length before = sym inv.long in
    let pushed = sym {A = List Final} c.in_ok-push.ensures.items in
    let taken = λ (in_sets : over.field.set < length before).
    let in_last : last.field.set < length before = omega (arith, kept.2) in
    let t = c.in_ok-offset.ensures.taken in_last in
    let p = ap (slice_index before) kept.2 in
    let q = ap (slice_index ends) kept.2 in
    let e : over.field.offset ≡ slice_index before over.field.set = omega (arith, t.0, c.moved_final.ensures.offset) in
    let f : slice_index ends over.field.set ≡ over.field.offset + over.field.len = omega (arith, t.1, c.moved_final.ensures.offset, kept.3) in
    let both : (over.field.offset ≡ slice_index before over.field.set) × (slice_index ends over.field.set ≡ over.field.offset + over.field.len) = (e, f) in
    both in
    let others = λ (s : ℕ) (away : s ≢ over.field.set).
    let away_too : s ≢ last.field.set = omega (arith, kept.2) in
    c.in_ok-offset.ensures.others s away_too in
    record {
      kept = subst (λ (os : List Final). AllZip IsPlacedFinal (c.loop-last.yielded ++ last ∷ []) os) pushed
          (all_zipped_more IsPlacedFinal c.loop-last.yielded c.loop-last.over.items last over inv.kept kept);
      long = long ∙ inv.long;
      under = subst (λ (os : List Final). AreFilesUnder os ends) pushed
          (under_more c.loop-last.over.items over before ends long inv.under taken others);
      stacked = subst (λ (os : List Final). AreFilesStacked (length c.args.ends.now.items) os) pushed
          (stacked_more c.loop-last.over.items over before (length c.args.ends.now.items) sets inv.under inv.stacked (λ in_sets. (taken in_sets).0));
    }
