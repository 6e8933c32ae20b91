-- One more entry or unit behind the others, and what stands at a number.
use Rattle.std.proofs.Common.{◌≡◌, ℕ, zero, suc, ◌+◌, List, [], ◌∷◌, ◌++◌, length, Some, refl, ap, ◌∙◌, subst, arith}
use Rattle.std.specs.List.{slice_get, slice_index, slice_index_or}
use Rattle.paris_code.specs.declared.program.Final.{Final}
use Rattle.paris_code.specs.declared.program.Unit.{Unit as CodeUnit}
use Rattle.paris_code.specs.declared.program.Virtual.{Virtual}
use Rattle.field_alloc.specs.Placed.{IsPlacedUnit, ArePlacedUnits}
use Rattle.field_alloc.specs.Places.{begin_of, entries_from, units_from}

pub entries_from-snoc : (finals : List Final) (own : List (List ℕ)) (number entry : ℕ) (vs : List Virtual) (v : Virtual) → entries_from finals own number entry (vs ++ v ∷ []) ≡ entries_from finals own number entry vs ++ begin_of finals own number (entry + length vs) v.owner ∷ []
unfolding entries_from
entries_from-snoc finals own number entry [] v = ap (λ n. begin_of finals own number n v.owner ∷ []) (let e : entry ≡ entry + 0 = omega arith in e)
entries_from-snoc finals own number entry (w ∷ vs) v =
    let next : (entry + 1) + length vs ≡ entry + length (w ∷ vs) = omega arith in
    ap (λ rest. begin_of finals own number entry w.owner ∷ rest)
    (entries_from-snoc finals own number (entry + 1) vs v ∙ ap (λ n. entries_from finals own number (entry + 1) vs ++ begin_of finals own number n v.owner ∷ []) next)

pub length-entries_from : (finals : List Final) (own : List (List ℕ)) (number entry : ℕ) (vs : List Virtual) → length (entries_from finals own number entry vs) ≡ length vs
unfolding entries_from
length-entries_from finals own number entry [] = refl
length-entries_from finals own number entry (v ∷ vs) = ap suc (length-entries_from finals own number (entry + 1) vs)

pub units_from-snoc : (finals : List Final) (own : List (List ℕ)) (number : ℕ) (us : List CodeUnit) (u : CodeUnit) → units_from finals own number (us ++ u ∷ []) ≡ units_from finals own number us ++ entries_from finals own (number + length us) 0 u.fields.items ∷ []
unfolding units_from
units_from-snoc finals own number [] u = ap (λ n. entries_from finals own n 0 u.fields.items ∷ []) (let e : number ≡ number + 0 = omega arith in e)
units_from-snoc finals own number (w ∷ us) u =
    let next : (number + 1) + length us ≡ number + length (w ∷ us) = omega arith in
    ap (λ rest. entries_from finals own number 0 w.fields.items ∷ rest)
    (units_from-snoc finals own (number + 1) us u ∙ ap (λ n. units_from finals own (number + 1) us ++ entries_from finals own n 0 u.fields.items ∷ []) next)

pub length-units_from : (finals : List Final) (own : List (List ℕ)) (number : ℕ) (us : List CodeUnit) → length (units_from finals own number us) ≡ length us
unfolding units_from
length-units_from finals own number [] = refl
length-units_from finals own number (u ∷ us) = ap suc (length-units_from finals own (number + 1) us)

-- the entry of a number, and the entries of the unit of a number
pub entry_begins : (finals : List Final) (own : List (List ℕ)) (number entry : ℕ) (vs : List Virtual) (k : ℕ) (v : Virtual) → slice_get vs k ≡ Some v → slice_index (entries_from finals own number entry vs) k ≡ begin_of finals own number (entry + k) v.owner
unfolding entries_from
entry_begins finals own number entry [] k v at = absurd (cc)
entry_begins finals own number entry (w ∷ vs) zero v at =
    let same : w ≡ v = cc in
    let e : entry ≡ entry + 0 = omega arith in
    ap (λ (x : Virtual). begin_of finals own number entry x.owner) same ∙ ap (λ n. begin_of finals own number n v.owner) e
entry_begins finals own number entry (w ∷ vs) (suc k) v at =
    let next : (entry + 1) + k ≡ entry + suc k = omega arith in
    entry_begins finals own number (entry + 1) vs k v at ∙ ap (λ n. begin_of finals own number n v.owner) next

pub unit_begins : (finals : List Final) (own : List (List ℕ)) (number : ℕ) (us : List CodeUnit) (k : ℕ) (u : CodeUnit) → slice_get us k ≡ Some u → slice_index_or (units_from finals own number us) k [] ≡ entries_from finals own (number + k) 0 u.fields.items
unfolding units_from
unit_begins finals own number [] k u at = absurd (cc)
unit_begins finals own number (w ∷ us) zero u at =
    let same : w ≡ u = cc in
    let e : number ≡ number + 0 = omega arith in
    ap (λ (x : CodeUnit). entries_from finals own number 0 x.fields.items) same ∙ ap (λ n. entries_from finals own n 0 u.fields.items) e
unit_begins finals own number (w ∷ us) (suc k) u at =
    let next : (number + 1) + k ≡ number + suc k = omega arith in
    unit_begins finals own (number + 1) us k u at ∙ ap (λ n. entries_from finals own n 0 u.fields.items) next

pub ArePlacedUnits-snoc : (places : List (List ℕ)) (number : ℕ) (us os : List CodeUnit) (u o : CodeUnit) → ArePlacedUnits places number us os → IsPlacedUnit (slice_index_or places (number + length os) []) u o → ArePlacedUnits places number (us ++ u ∷ []) (os ++ o ∷ [])
unfolding ArePlacedUnits
ArePlacedUnits-snoc places number [] [] u o h last =
    (subst (λ n. IsPlacedUnit (slice_index_or places n []) u o) (let e : number + 0 ≡ number = omega arith in e) last, tt)
ArePlacedUnits-snoc places number [] (p ∷ os) u o h last = absurd h
ArePlacedUnits-snoc places number (w ∷ us) [] u o h last = absurd h
ArePlacedUnits-snoc places number (w ∷ us) (p ∷ os) u o h last =
    let next : number + length (p ∷ os) ≡ (number + 1) + length os = omega arith in
    (h.0, ArePlacedUnits-snoc places (number + 1) us os u o h.1 (subst (λ n. IsPlacedUnit (slice_index_or places n []) u o) next last))
