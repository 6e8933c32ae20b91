-- One more field of the file behind the others.
use Rattle.std.proofs.Common.{◌≡◌, ◌≢◌, ◌⊎◌, ℕ, zero, suc, ◌+◌, ◌<◌, ◌≤◌, List, [], ◌∷◌, ◌++◌, Some, length, inl, inr, ⊎_elim, refl, ap, subst, arith}
use Rattle.std.proofs.lemmas.Bool.{cases_eq}
use Rattle.std.proofs.lemmas.Option.{none-some, same_Some, slice_get_within}
use Rattle.std.specs.List.{slice_get, slice_index}
use Rattle.paris_code.specs.declared.program.Final.{Final}
use Rattle.field_alloc.specs.Files.{AreFilesStacked, AreFilesUnder}

get_pushed : (xs : List Final) (x y : Final) (k : ℕ) → slice_get (xs ++ x ∷ []) k ≡ Some y → (slice_get xs k ≡ Some y) ⊎ ((k ≡ length xs) × (x ≡ y))
get_pushed [] x y zero e = inr (refl, same_Some x y e)
get_pushed [] x y (suc k) e = absurd (none-some y e)
get_pushed (z ∷ xs) x y zero e = inl e
get_pushed (z ∷ xs) x y (suc k) e =
    ⊎_elim
    (λ (h : slice_get xs k ≡ Some y). inl h)
    (λ (h : (k ≡ length xs) × (x ≡ y)). inr (ap suc h.0, h.1))
    (get_pushed xs x y k e)

pub under_more : (finals : List Final) (last : Final) (before ends : List ℕ) → length ends ≡ length before → AreFilesUnder finals before → (last.field.set < length before → (last.field.offset ≡ slice_index before last.field.set) × (slice_index ends last.field.set ≡ last.field.offset + last.field.len)) → ((s : ℕ) → s ≢ last.field.set → slice_index ends s ≡ slice_index before s) → AreFilesUnder (finals ++ last ∷ []) ends
under_more finals last before ends long under taken others k f at in_sets =
    let in_before : f.field.set < length before = omega arith in
    ⊎_elim
    (λ (h : slice_get finals k ≡ Some f).
    let u = under k f h in_before in
    ⊎_elim
    (λ (e : f.field.set ≡ last.field.set).
    let in_last : last.field.set < length before = omega arith in
    let t = taken in_last in
    let p = ap (slice_index ends) e in
    let q = ap (slice_index before) e in
    omega (arith, t.0, t.1))
    (λ (e : f.field.set ≡ last.field.set → ⊥). let o = others f.field.set e in omega arith)
    (cases_eq f.field.set last.field.set))
    (λ (h : (k ≡ length finals) × (last ≡ f)).
    subst (λ (g : Final). g.field.offset + g.field.len ≤ slice_index ends g.field.set) h.1
    (let same : last.field.set ≡ f.field.set = ap (λ (g : Final). g.field.set) h.1 in
    let in_last : last.field.set < length before = omega arith in
    let t = taken in_last in
    let r : last.field.offset + last.field.len ≤ slice_index ends last.field.set = omega (arith, t.1) in
    r))
    (get_pushed finals last f k at)

pub stacked_more : (finals : List Final) (last : Final) (before : List ℕ) (sets : ℕ) → sets ≡ length before → AreFilesUnder finals before → AreFilesStacked sets finals → (last.field.set < length before → last.field.offset ≡ slice_index before last.field.set) → AreFilesStacked sets (finals ++ last ∷ [])
stacked_more finals last before sets long under stacked taken one other a b lt at_a at_b same in_sets =
    ⊎_elim
    (λ (h : slice_get finals other ≡ Some b).
    ⊎_elim
    (λ (g : slice_get finals one ≡ Some a). stacked one other a b lt g h same in_sets)
    (λ (g : (one ≡ length finals) × (last ≡ a)).
    let within = slice_get_within finals other b h in
    absurd (omega (arith, g.0)))
    (get_pushed finals last a one at_a))
    (λ (h : (other ≡ length finals) × (last ≡ b)).
    ⊎_elim
    (λ (g : slice_get finals one ≡ Some a).
    let set_is : last.field.set ≡ b.field.set = ap (λ (f : Final). f.field.set) h.1 in
    let offset_is : last.field.offset ≡ b.field.offset = ap (λ (f : Final). f.field.offset) h.1 in
    let in_before : a.field.set < length before = omega arith in
    let in_last : last.field.set < length before = omega arith in
    let u = under one a g in_before in
    let t = taken in_last in
    let e : a.field.set ≡ last.field.set = omega arith in
    let q = ap (slice_index before) e in
    omega arith)
    (λ (g : (one ≡ length finals) × (last ≡ a)). absurd (omega (arith, g.0, h.0)))
    (get_pushed finals last a one at_a))
    (get_pushed finals last b other at_b)
