-- One step of the sweep, with or without a place for the entry.
use Rattle.std.proofs.Common.{◌≡◌, ◌≢◌, ◌⊎◌, ℕ, ◌+◌, ◌<◌, ◌≤◌, List, Option, Some, None, length, get_or, set, inl, inr, ⊎_elim, sym, ap, ◌∙◌, subst, arith, get_or-set_same, get_or-set_other}
use Rattle.std.proofs.lemmas.List.{length-set}
use Rattle.std.proofs.lemmas.Bool.{cases_lt}
use Rattle.std.proofs.lemmas.Option.{get_or_from_slice_get}
use Rattle.std.specs.List.{slice_get, slice_index}
use Rattle.paris_code.specs.declared.program.Owner.TheVariants as O
use Rattle.paris_code.specs.declared.program.Virtual.{Virtual}
use Rattle.field_alloc.specs.declared.spans.Span.{Span}
use Rattle.field_alloc.specs.Sweep.{AreBelow, Holds, IsInSet, IsSwept}

pub below_or_at : (k n : ℕ) → k < n + 1 → (k < n) ⊎ (k ≡ n)
below_or_at k n h =
    ⊎_elim (λ (x : k < n). inl x) (λ (x : n ≤ k). inr (let e : k ≡ n = omega arith in e)) (cases_lt k n)

pub swept_skip : (fields : List Virtual) (spans : List (Option Span)) (size group n : ℕ) (before starts heights : List ℕ) → IsSwept fields spans size group n before starts heights → ((len : ℕ) (a : Span) → IsInSet fields spans group n len a → ⊥) → IsSwept fields spans size group (n + 1) before starts heights
swept_skip fields spans size group n before starts heights h none = record {
  long = h.long;
  heights_are = h.heights_are;
  others = h.others;
  under = λ entry len at a lt p in_code held.
      ⊎_elim
      (λ (x : entry < n). h.under entry len at a x p in_code held)
      (λ (x : entry ≡ n). absurd (none len a (subst (λ k. IsInSet fields spans group k len a) x p)))
      (below_or_at entry n lt);
  stacked = λ lower upper len over at a b lt up p q in_code held held_too.
      ⊎_elim
      (λ (x : upper < n). h.stacked lower upper len over at a b lt x p q in_code held held_too)
      (λ (x : upper ≡ n). absurd (none over b (subst (λ k. IsInSet fields spans group k over b) x q)))
      (below_or_at upper n up);
}

len_in : Option Virtual → ℕ
len_in None = 0
len_in (Some v) = v.len

set_in : Option Virtual → ℕ
set_in None = 0
set_in (Some v) = v.set

same_len : (fields : List Virtual) (spans : List (Option Span)) (group entry len other : ℕ) (a b : Span) → IsInSet fields spans group entry len a → IsInSet fields spans group entry other b → len ≡ other
unfolding len_in
same_len fields spans group entry len other a b p q = ap len_in (sym p.entry_is ∙ q.entry_is)

span_in : Option Span → Span
span_in None = record { first = 0; last = 0 }
span_in (Some span) = span

same_span : (fields : List Virtual) (spans : List (Option Span)) (group entry len other : ℕ) (a b : Span) → IsInSet fields spans group entry len a → IsInSet fields spans group entry other b → a ≡ b
unfolding span_in
same_span fields spans group entry len other a b p q = ap span_in (sym p.span_is ∙ q.span_is)

-- an entry of another set is not this one
another : (fields : List Virtual) (spans : List (Option Span)) (group n len entry : ℕ) (a : Span) (v : Virtual) → IsInSet fields spans group n len a → slice_get fields entry ≡ Some v → v.set ≢ group → entry ≢ n
unfolding set_in
another fields spans group n len entry a v p at away same = away (ap set_in (sym at ∙ ap (slice_get fields) same ∙ p.entry_is))

pub swept_more : (fields : List Virtual) (spans : List (Option Span)) (size group n : ℕ) (before starts heights : List ℕ) → IsSwept fields spans size group n before starts heights → (len start : ℕ) (span : Span) (raised : List ℕ) → IsInSet fields spans group n len span → n < length starts → length raised ≡ size → ((at : ℕ) → at < size → Holds span at → slice_index heights at ≤ start) → ((at : ℕ) → at < size → Holds span at → start + len ≤ slice_index raised at) → ((at : ℕ) → slice_index heights at ≤ slice_index raised at) → IsSwept fields spans size group (n + 1) before (set starts n start) raised
swept_more fields spans size group n before starts heights h len start span raised p in_starts long above top risen =
    let now = set starts n start in
    let here : slice_index now n ≡ start = get_or-set_same starts n start 0 in_starts in
    let kept = λ (k : ℕ) (away : k ≢ n). get_or-set_other starts n k start 0 away in
    record {
      long = length-set starts n start ∙ h.long;
      heights_are = inr long;
      others = λ entry v at away. kept entry (another fields spans group n len entry span v p at away) ∙ h.others entry v at away;
      under = λ entry l at a lt q in_code held.
          ⊎_elim
          (λ (x : entry < n).
          let away : entry ≢ n = omega arith in
          let e = kept entry away in
          let u = h.under entry l at a x q in_code held in
          let r = risen at in
          omega arith)
          (λ (x : entry ≡ n).
          let mine = subst (λ k. IsInSet fields spans group k l a) x q in
          let e = same_len fields spans group n l len a span mine p in
          let t = top at in_code (subst (λ (b : Span). Holds b at) (same_span fields spans group n l len a span mine p) held) in
          let i : slice_index now entry ≡ start = ap (slice_index now) x ∙ here in
          omega arith)
          (below_or_at entry n lt);
      stacked = λ lower upper l over at a b lt up q r in_code held held_too.
          ⊎_elim
          (λ (x : upper < n).
          let away : lower ≢ n = omega arith in
          let away_too : upper ≢ n = omega arith in
          let e = kept lower away in
          let f = kept upper away_too in
          let u = h.stacked lower upper l over at a b lt x q r in_code held held_too in
          omega arith)
          (λ (x : upper ≡ n).
          let mine = subst (λ k. IsInSet fields spans group k over b) x r in
          let before_n : lower < n = omega arith in
          let away : lower ≢ n = omega arith in
          let e = kept lower away in
          let u = h.under lower l at a before_n q in_code held in
          let t = above at in_code (subst (λ (c : Span). Holds c at) (same_span fields spans group n over len b span mine p) held_too) in
          let i : slice_index now upper ≡ start = ap (slice_index now) x ∙ here in
          omega arith)
          (below_or_at upper n up);
    }

pub owner_read : (fields : List Virtual) (spans : List (Option Span)) (group n len : ℕ) (a : Span) → IsInSet fields spans group n len a → (get_or fields n (record { set = 0; len = 0; owner = O.File 0 })).owner ≡ O.Own
owner_read fields spans group n len a p =
    ap (λ (v : Virtual). v.owner) (get_or_from_slice_get fields n (record { set = group; len = len; owner = O.Own }) (record { set = 0; len = 0; owner = O.File 0 }) p.entry_is)

pub set_read : (fields : List Virtual) (spans : List (Option Span)) (group n len : ℕ) (a : Span) → IsInSet fields spans group n len a → (get_or fields n (record { set = 0; len = 0; owner = O.File 0 })).set ≡ group
set_read fields spans group n len a p =
    ap (λ (v : Virtual). v.set) (get_or_from_slice_get fields n (record { set = group; len = len; owner = O.Own }) (record { set = 0; len = 0; owner = O.File 0 }) p.entry_is)

own_is : (v : Virtual) (group : ℕ) → v.set ≡ group → v.owner ≡ O.Own → v ≡ record { set = group; len = v.len; owner = O.Own }
own_is v group e f = λ i. record { set = e i; len = v.len; owner = f i }

pub in_set : (fields : List Virtual) (spans : List (Option Span)) (group n : ℕ) (v : Virtual) (a : Span) → slice_get fields n ≡ Some v → v.set ≡ group → v.owner ≡ O.Own → get_or spans n None ≡ Some a → IsInSet fields spans group n v.len a
in_set fields spans group n v a at e f span = record {
  entry_is = at ∙ ap (λ (w : Virtual). Some w) (own_is v group e f);
  span_is = span;
}

pub below_skip : (fields : List Virtual) (spans : List (Option Span)) (group n : ℕ) (starts : List ℕ) (top : ℕ) → AreBelow fields spans group n starts top → ((len : ℕ) (a : Span) → IsInSet fields spans group n len a → ⊥) → AreBelow fields spans group (n + 1) starts top
below_skip fields spans group n starts top h none entry len a lt p =
    ⊎_elim
    (λ (x : entry < n). h entry len a x p)
    (λ (x : entry ≡ n). absurd (none len a (subst (λ k. IsInSet fields spans group k len a) x p)))
    (below_or_at entry n lt)

pub below_last : (fields : List Virtual) (spans : List (Option Span)) (group n : ℕ) (starts : List ℕ) (top : ℕ) → AreBelow fields spans group n starts top → (len start : ℕ) (span : Span) → IsInSet fields spans group n len span → n < length starts → start + len ≤ top → AreBelow fields spans group (n + 1) (set starts n start) top
below_last fields spans group n starts top h len start span p in_starts ends entry l a lt q =
    ⊎_elim
    (λ (x : entry < n).
    let away : entry ≢ n = omega arith in
    let e = get_or-set_other starts n entry start 0 away in
    let u = h entry l a x q in
    omega arith)
    (λ (x : entry ≡ n).
    let mine = subst (λ k. IsInSet fields spans group k l a) x q in
    let e = same_len fields spans group n l len a span mine p in
    let i : slice_index (set starts n start) entry ≡ start = ap (slice_index (set starts n start)) x ∙ get_or-set_same starts n start 0 in_starts in
    omega arith)
    (below_or_at entry n lt)
