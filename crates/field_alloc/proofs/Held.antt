-- Own entries of a unit that are in use at one instruction are apart.
use Rattle.std.proofs.Common.{◌≡◌, ◌≢◌, ℕ, ◌+◌, ◌<◌, ◌≤◌, List, [], ◌∷◌, ◌++◌, Bool, true, false, true≢false, Option, Some, None, Vec, Global, length, map, inl, inr, ⊎_elim, refl, sym, ap, ◌∙◌, subst, arith, length-append}
use Rattle.std.proofs.Math.ListN.{get_or-eq_default}
use Rattle.std.proofs.lemmas.Bool.{cases_lt}
use Rattle.std.proofs.lemmas.List.{get_or_append_left, get_or_push, length-map, map-append}
use Rattle.std.proofs.lemmas.Option.{same_Some, slice_get_within}
use Rattle.std.specs.List.{slice_get, slice_index, slice_index_or}
use Rattle.paris_code.specs.declared.instr.Instr.{Instr}
use Rattle.paris_code.specs.declared.operands.Field.{Field}
use Rattle.paris_code.specs.declared.program.Owner.TheVariants as O
use Rattle.paris_code.specs.declared.program.Unit.{Unit as CodeUnit}
use Rattle.paris_code.specs.declared.program.Virtual.{Virtual}
use Rattle.paris_code.specs.Spans.{IsNamedAt, StandsAt, fields_of}
use Rattle.field_alloc.specs.declared.spans.Span.{Span}
use Rattle.field_alloc.specs.Lasting.{HaveStretches}
use Rattle.field_alloc.specs.Lent.{AreLentFlags, HasFlag, IsLentBy}
use Rattle.field_alloc.specs.Made.{BeginsAt, IsFirstWritten, IsHeldThrough, IsUse}
use Rattle.field_alloc.specs.Named.{AreLifted, AreUnitApart, IsBased, IsUnitAbove, IsUnitUnder, EndedAt, HeldAt, IsInUseAt, IsUsedAt}
use Rattle.field_alloc.specs.Places.{items_of}
use Rattle.field_alloc.specs.Sweep.{HeldBy, AreBelow, AreStacked, Holds, IsInSet, KeepsOthers}
use Rattle.field_alloc.proofs.Closed.{lasts_by, made_at}
use Rattle.field_alloc.proofs.Sweeps.{below_or_at}

pub held_span : (o : Option Span) (at : ℕ) → HeldBy o at → (a : Span) × (o ≡ Some a) × Holds a at
held_span None at h = absurd h
held_span (Some a) at h = (a, refl, h)

own_entry : ℕ → ℕ → Virtual
own_entry set len = record { set = set; len = len; owner = O.Own }

pub stacked_kept : (fields : List Virtual) (spans : List (Option Span)) (size s set number : ℕ) (before starts : List ℕ) → KeepsOthers fields set before starts → s ≢ set → AreStacked fields spans size s number before → AreStacked fields spans size s number starts
unfolding own_entry
stacked_kept fields spans size s set number before starts keeps away old lower upper len over at a b lt up p q in_code held held_too =
    let e = keeps lower (own_entry s len) p.entry_is away in
    let f = keeps upper (own_entry s over) q.entry_is away in
    let u = old lower upper len over at a b lt up p q in_code held held_too in
    omega arith

pub unit_apart : (unit : CodeUnit) (lent : List Bool) (spans : List (Option Span)) (sets : ℕ) (starts : List ℕ) → ((entry at : ℕ) → entry < length unit.fields.items → at < length unit.code.items → IsInUseAt unit lent entry at → HeldAt spans entry at) → ((s : ℕ) → s < sets → AreStacked unit.fields.items spans (length unit.code.items) s (length unit.fields.items) starts) → AreUnitApart unit (IsInUseAt unit lent) sets starts
unfolding own_entry
unit_apart unit lent spans sets starts held stacked one other set len over at differ in_sets is_one is_other in_code used used_too =
    let one_in = slice_get_within unit.fields.items one (own_entry set len) is_one in
    let other_in = slice_get_within unit.fields.items other (own_entry set over) is_other in
    let a = held_span (slice_index_or spans one None) at (held one at one_in in_code used) in
    let b = held_span (slice_index_or spans other None) at (held other at other_in in_code used_too) in
    let p : IsInSet unit.fields.items spans set one len a.0 = record { entry_is = is_one; span_is = a.1 } in
    let q : IsInSet unit.fields.items spans set other over b.0 = record { entry_is = is_other; span_is = b.1 } in
    ⊎_elim
    (λ (x : one < other). inl (stacked set in_sets one other len over at a.0 b.0 x other_in p q in_code a.2 b.2))
    (λ (x : other ≤ one). inr (stacked set in_sets other one over len at b.0 a.0 (omega arith) one_in q p in_code b.2 a.2))
    (cases_lt one other)

-- what the flags say of a unit, its own entries being in use as they say
flagged_use : (units : List CodeUnit) (flags : List (List Bool)) (number : ℕ) (unit : CodeUnit) → AreLentFlags units flags → slice_get units number ≡ Some unit → (entry at : ℕ) → entry < length unit.fields.items → IsUsedAt units number unit entry at → IsInUseAt unit (slice_index_or flags number []) entry at
flagged_use units flags number unit are is entry at within h =
    ⊎_elim
    (λ (l : IsLentBy units number entry). inl (are.lent number entry unit is within l))
    (λ (b : IsHeldThrough unit entry at). inr b)
    h

pub flagged_apart : (units : List CodeUnit) (flags : List (List Bool)) (number : ℕ) (unit : CodeUnit) (sets : ℕ) (starts : List ℕ) → AreLentFlags units flags → slice_get units number ≡ Some unit → AreUnitApart unit (IsInUseAt unit (slice_index_or flags number [])) sets starts → AreUnitApart unit (IsUsedAt units number unit) sets starts
unfolding own_entry
flagged_apart units flags number unit sets starts are is h one other set len over at differ in_sets is_one is_other in_code used used_too =
    let one_in = slice_get_within unit.fields.items one (own_entry set len) is_one in
    let other_in = slice_get_within unit.fields.items other (own_entry set over) is_other in
    h one other set len over at differ in_sets is_one is_other in_code (flagged_use units flags number unit are is one at one_in used) (flagged_use units flags number unit are is other at other_in used_too)

pub flagged_under : (units : List CodeUnit) (flags : List (List Bool)) (number : ℕ) (unit : CodeUnit) (sets : ℕ) (starts ends : List ℕ) → AreLentFlags units flags → slice_get units number ≡ Some unit → IsUnitUnder unit (IsInUseAt unit (slice_index_or flags number [])) sets starts ends → IsUnitUnder unit (IsUsedAt units number unit) sets starts ends
unfolding own_entry
flagged_under units flags number unit sets starts ends are is h entry set len at in_sets is_entry in_code used =
    let within = slice_get_within unit.fields.items entry (own_entry set len) is_entry in
    h entry set len at in_sets is_entry in_code (flagged_use units flags number unit are is entry at within used)

pub lifted_apart : (unit : CodeUnit) (InUse : ℕ → ℕ → Type 0) (sets : ℕ) (base starts places : List ℕ) → AreLifted unit.fields.items base starts places → AreUnitApart unit InUse sets starts → AreUnitApart unit InUse sets places
unfolding own_entry
lifted_apart unit InUse sets base starts places lifted h one other set len over at differ in_sets is_one is_other in_code used used_too =
    let e = lifted one (own_entry set len) is_one in
    let f = lifted other (own_entry set over) is_other in
    ⊎_elim
    (λ (x : slice_index starts one + len ≤ slice_index starts other). inl (omega arith))
    (λ (x : slice_index starts other + over ≤ slice_index starts one). inr (omega arith))
    (h one other set len over at differ in_sets is_one is_other in_code used used_too)

-- one more row
rows_more : (rows : List (Vec ℕ Global)) (v : Vec ℕ Global) (k : ℕ) → k < length rows → slice_index_or (map items_of (rows ++ v ∷ [])) k [] ≡ slice_index_or (map items_of rows) k []
rows_more rows v k lt =
    ap (λ (l : List (List ℕ)). slice_index_or l k []) (map-append items_of rows (v ∷ []))
    ∙ get_or_append_left (map items_of rows) (v.items ∷ []) [] k (omega (arith, length-map rows items_of))

row_last : (rows : List (Vec ℕ Global)) (v : Vec ℕ Global) (k : ℕ) → length rows ≡ k → slice_index_or (map items_of (rows ++ v ∷ [])) k [] ≡ v.items
row_last rows v k long =
    ap (λ (l : List (List ℕ)). slice_index_or l k []) (map-append items_of rows (v ∷ []))
    ∙ get_or_push (map items_of rows) v.items [] k (length-map rows items_of ∙ long)

pub all_rows_more : (P : ℕ → CodeUnit → List ℕ → Type 0) (units : List CodeUnit) (rows : List (Vec ℕ Global)) (v : Vec ℕ Global) (i : ℕ) (u : CodeUnit) → length rows ≡ i → slice_get units i ≡ Some u → ((number : ℕ) (unit : CodeUnit) → number < i → slice_get units number ≡ Some unit → P number unit (slice_index_or (map items_of rows) number [])) → P i u v.items → (number : ℕ) (unit : CodeUnit) → number < i + 1 → slice_get units number ≡ Some unit → P number unit (slice_index_or (map items_of (rows ++ v ∷ [])) number [])
all_rows_more P units rows v i u long is_u old new number unit lt is_unit =
    ⊎_elim
    (λ (x : number < i). subst (λ (l : List ℕ). P number unit l) (sym (rows_more rows v number (omega arith))) (old number unit x is_unit))
    (λ (x : number ≡ i).
    let same : u ≡ unit = same_Some u unit (sym is_u ∙ ap (slice_get units) (sym x) ∙ is_unit) in
    subst (λ (l : List ℕ). P number unit l) (sym (row_last rows v number (long ∙ sym x)))
    (subst (λ k. P k unit v.items) (sym x)
    (subst (λ (w : CodeUnit). P i w v.items) same new)))
    (below_or_at number i lt)

pub lifted_above : (unit : CodeUnit) (ends base starts places : List ℕ) → AreLifted unit.fields.items base starts places → ((set : ℕ) → set < length ends → slice_index ends set ≤ slice_index base set) → IsUnitAbove ends unit places
lifted_above unit ends base starts places lifted above entry v at in_sets =
    let e = lifted entry v at in
    let u = above v.set in_sets in
    omega arith

-- what the fields of an instruction say is said of the entries that it names
pub named_here : (unit : CodeUnit) (instr : Instr) (at : ℕ) (fields : List Field) (spans : List (Option Span)) → StandsAt unit at instr → fields ≡ fields_of instr → ((k entry : ℕ) (field : Field) → k < length fields → slice_index_or fields k field ≡ field → field.offset ≡ entry → entry < length unit.fields.items → HeldAt spans entry at) → (entry : ℕ) → entry < length unit.fields.items → IsNamedAt unit entry at → HeldAt spans entry at
named_here unit instr at fields spans stands are names entry in_fields h =
    let same : instr ≡ h.0 = same_Some instr h.0 (sym stands ∙ h.1) in
    let all : fields_of h.0 ≡ fields = ap fields_of (sym same) ∙ sym are in
    let any = h.2 in
    names any.0 entry any.1
    (subst (λ (fs : List Field). any.0 < length fs) all any.2)
    (subst (λ (fs : List Field). slice_index_or fs any.0 any.1 ≡ any.1) all any.3)
    any.4 in_fields

-- one more span
pub uses_more : (P : ℕ → Option Span → Type 0) (spans : List (Option Span)) (i : ℕ) (span : Option Span) → length spans ≡ i → P i span → ((entry : ℕ) → entry < i → P entry (slice_index_or spans entry None)) → (entry : ℕ) → entry < i + 1 → P entry (slice_index_or (spans ++ span ∷ []) entry None)
uses_more P spans i span long here old entry lt =
    ⊎_elim
    (λ (x : entry < i). subst (λ (o : Option Span). P entry o) (sym (get_or_append_left spans (span ∷ []) None entry (omega arith))) (old entry x))
    (λ (x : entry ≡ i). subst (λ (o : Option Span). P entry o) (sym (get_or_push spans span None entry (long ∙ sym x))) (subst (λ k. P k span) (sym x) here))
    (below_or_at entry i lt)

-- one more flag
pub flags_more : (P : ℕ → Type 0) (flags : List Bool) (i : ℕ) (flag : Bool) → length flags ≡ i → (flag ≡ true → P i) → ((entry : ℕ) → HasFlag flags entry → P entry) → (entry : ℕ) → HasFlag (flags ++ flag ∷ []) entry → P entry
flags_more P flags i flag long here old entry is =
    ⊎_elim
    (λ (x : entry < i). old entry (sym (get_or_append_left flags (flag ∷ []) false entry (omega arith)) ∙ is))
    (λ (y : i ≤ entry).
    ⊎_elim
    (λ (x : i < entry).
    let none : slice_index_or (flags ++ flag ∷ []) entry false ≡ false = get_or-eq_default (flags ++ flag ∷ []) false (omega (arith, length-append flags (flag ∷ []))) in
    absurd (true≢false (sym is ∙ none)))
    (λ (x : entry ≤ i).
    let same : entry ≡ i = omega arith in
    subst P (sym same) (here (sym (get_or_push flags flag false entry (long ∙ sym same)) ∙ is)))
    (cases_lt i entry))
    (cases_lt entry i)

-- the spans hold the instructions at which the entries are in use
pub held_in_use : (unit : CodeUnit) (lent made : List Bool) (named spans : List (Option Span)) (loops : List Span) (whole : Span)
    → ((entry : ℕ) → entry < length named → IsUse lent made whole loops (slice_index_or named entry None) entry (slice_index_or spans entry None))
    → ((entry : ℕ) → HasFlag made entry → IsFirstWritten unit (slice_index_or named entry None) entry)
    → length named ≡ length unit.fields.items → ((entry at : ℕ) → entry < length unit.fields.items → IsNamedAt unit entry at → HeldAt named entry at) → ((entry at : ℕ) → EndedAt named entry at → IsNamedAt unit entry at) → HaveStretches unit loops → ((at : ℕ) → at < length unit.code.items → Holds whole at)
    → (entry at : ℕ) → entry < length unit.fields.items → at < length unit.code.items → IsInUseAt unit lent entry at → HeldAt spans entry at
held_in_use unit lent made named spans loops whole uses first long names ended have in_whole entry at in_fields in_code used =
    let is = uses entry (omega arith) in
    let own = slice_index_or named entry None in
    ⊎_elim
    (λ (e : HasFlag lent entry). subst (λ (o : Option Span). HeldBy o at) (sym (is.is_lent e)) (in_whole at in_code))
    (λ (l : IsHeldThrough unit entry at).
    ⊎_elim
    (λ (h : HeldBy (slice_index_or spans entry None) at). h)
    (λ (b : HasFlag made entry × BeginsAt loops own at). absurd (l.1 (made_at unit entry at loops own (λ place n. names entry place in_fields n) (ended entry) have (first entry b.0) b.1)))
    (is.held at (in_whole at in_code) (lasts_by unit entry at loops own (λ place n. names entry place in_fields n) have l.0)))
    used

pub below_kept : (fields : List Virtual) (spans : List (Option Span)) (s set number : ℕ) (before starts : List ℕ) (top : ℕ) → KeepsOthers fields set before starts → s ≢ set → AreBelow fields spans s number before top → AreBelow fields spans s number starts top
unfolding own_entry
below_kept fields spans s set number before starts top keeps away old entry len a lt p =
    let e = keeps entry (own_entry s len) p.entry_is away in
    let u = old entry len a lt p in
    omega arith

pub unit_under : (unit : CodeUnit) (lent : List Bool) (spans : List (Option Span)) (sets : ℕ) (starts ends : List ℕ) → ((entry at : ℕ) → entry < length unit.fields.items → at < length unit.code.items → IsInUseAt unit lent entry at → HeldAt spans entry at) → ((s : ℕ) → s < sets → AreBelow unit.fields.items spans s (length unit.fields.items) starts (slice_index ends s)) → IsUnitUnder unit (IsInUseAt unit lent) sets starts ends
unfolding own_entry
unit_under unit lent spans sets starts ends held below entry set len at in_sets is_entry in_code used =
    let within = slice_get_within unit.fields.items entry (own_entry set len) is_entry in
    let a = held_span (slice_index_or spans entry None) at (held entry at within in_code used) in
    let p : IsInSet unit.fields.items spans set entry len a.0 = record { entry_is = is_entry; span_is = a.1 } in
    below set in_sets entry len a.0 within p

-- the same for two rows at once
pub all_pairs_more : (P : ℕ → CodeUnit → List ℕ → List ℕ → Type 0) (units : List CodeUnit) (rows others : List (Vec ℕ Global)) (v w : Vec ℕ Global) (i : ℕ) (u : CodeUnit) → length rows ≡ i → length others ≡ i → slice_get units i ≡ Some u → ((number : ℕ) (unit : CodeUnit) → number < i → slice_get units number ≡ Some unit → P number unit (slice_index_or (map items_of rows) number []) (slice_index_or (map items_of others) number [])) → P i u v.items w.items → (number : ℕ) (unit : CodeUnit) → number < i + 1 → slice_get units number ≡ Some unit → P number unit (slice_index_or (map items_of (rows ++ v ∷ [])) number []) (slice_index_or (map items_of (others ++ w ∷ [])) number [])
all_pairs_more P units rows others v w i u long long_too is_u old new number unit lt is_unit =
    ⊎_elim
    (λ (x : number < i).
    subst (λ (l : List ℕ). P number unit l (slice_index_or (map items_of (others ++ w ∷ [])) number [])) (sym (rows_more rows v number (omega arith)))
    (subst (λ (l : List ℕ). P number unit (slice_index_or (map items_of rows) number []) l) (sym (rows_more others w number (omega arith))) (old number unit x is_unit)))
    (λ (x : number ≡ i).
    let same : u ≡ unit = same_Some u unit (sym is_u ∙ ap (slice_get units) (sym x) ∙ is_unit) in
    subst (λ (l : List ℕ). P number unit l (slice_index_or (map items_of (others ++ w ∷ [])) number [])) (sym (row_last rows v number (long ∙ sym x)))
    (subst (λ (l : List ℕ). P number unit v.items l) (sym (row_last others w number (long_too ∙ sym x)))
    (subst (λ k. P k unit v.items w.items) (sym x)
    (subst (λ (z : CodeUnit). P i z v.items w.items) same new))))
    (below_or_at number i lt)

pub lifted_based : (unit : CodeUnit) (InUse : ℕ → ℕ → Type 0) (sets : ℕ) (base starts places tops : List ℕ) → AreLifted unit.fields.items base starts places → IsUnitUnder unit InUse sets starts tops → IsBased unit InUse sets tops places base
unfolding own_entry
lifted_based unit InUse sets base starts places tops lifted under = record {
  under = λ entry set len at in_sets is_entry in_code named.
      let e = lifted entry (own_entry set len) is_entry in
      let u = under entry set len at in_sets is_entry in_code named in
      omega arith;
  above = λ entry set len is_entry.
      let e = lifted entry (own_entry set len) is_entry in
      omega arith;
}
