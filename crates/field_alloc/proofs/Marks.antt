-- Flags that are set one after the other.
use Rattle.std.proofs.Common.{◌≡◌, ◌≢◌, ◌⊎◌, ℕ, ◌+◌, ◌<◌, ◌≤◌, List, [], ◌∷◌, ◌++◌, Bool, true, false, length, replicate, set, Some, inl, inr, ⊎_elim, refl, sym, ap, ◌∙◌, subst, arith, get_or-set_same, get_or-set_other}
use Rattle.std.proofs.lemmas.Bool.{cases_eq, cases_lt, false≢true}
use Rattle.std.proofs.lemmas.List.{get_or-replicate, get_or_append_left, get_or_past, get_or_push, length-replicate, length-set, length_push}
use Rattle.std.proofs.lemmas.Option.{same_Some, slice_get_within}
use Rattle.std.specs.List.{slice_get, slice_index_or}
use Rattle.paris_code.specs.declared.program.Owner.TheVariants as O
use Rattle.paris_code.specs.declared.program.Unit.{Unit as CodeUnit}
use Rattle.paris_code.specs.declared.program.Virtual.{Virtual}
use Rattle.field_alloc.specs.Lent.{AreLentFlags, AreMarked, AreUnmarked, IsFlagged, StandFor}
use Rattle.field_alloc.proofs.Sweeps.{below_or_at}

-- one of so many of these entries stands for the entry of a unit, or one of so many of these units
abbrev pub StandBefore : List Virtual → ℕ → ℕ → ℕ → Type 0
StandBefore entries count number entry =
    (index : ℕ) × ((virtual : Virtual) × (index < count) × (slice_get entries index ≡ Some virtual) × (virtual.owner ≡ O.Of number entry))

abbrev pub IsLentBefore : List CodeUnit → ℕ → ℕ → ℕ → Type 0
IsLentBefore units count number entry =
    (other : ℕ) × ((unit : CodeUnit) × (other < count) × (slice_get units other ≡ Some unit) × StandFor unit.fields.items number entry)

-- none are named
pub marks_none : (Named : ℕ → ℕ → Type 0) (flags : List (List Bool)) → ((number entry : ℕ) → Named number entry → ⊥) → AreMarked Named flags flags
marks_none Named flags none = record {
  long = λ number. refl;
  kept = λ number entry h. h;
  marked = λ number entry named lt. absurd (none number entry named);
  only = λ number entry h. inl h;
}

-- those that are named first, and then others
pub marks_then : (First Then Both : ℕ → ℕ → Type 0) (before between after : List (List Bool)) → AreMarked First before between → AreMarked Then between after → ((number entry : ℕ) → Both number entry → First number entry ⊎ Then number entry) → ((number entry : ℕ) → First number entry ⊎ Then number entry → Both number entry) → AreMarked Both before after
marks_then First Then Both before between after h k split join = record {
  long = λ number. k.long number ∙ h.long number;
  kept = λ number entry f. k.kept number entry (h.kept number entry f);
  marked = λ number entry named lt.
      ⊎_elim
      (λ (p : First number entry). k.kept number entry (h.marked number entry p (omega (arith, k.long number))))
      (λ (q : Then number entry). k.marked number entry q lt)
      (split number entry named);
  only = λ number entry f.
      ⊎_elim
      (λ (x : IsFlagged between number entry).
      ⊎_elim
      (λ (y : IsFlagged before number entry). inl y)
      (λ (p : First number entry). inr (join number entry (inl p)))
      (h.only number entry x))
      (λ (q : Then number entry). inr (join number entry (inr q)))
      (k.only number entry f);
}

-- the flag of one entry
pub marked_one : (flags : List (List Bool)) (unit index : ℕ) → unit < length flags → index < length (slice_index_or flags unit []) → AreMarked (λ number entry. (number ≡ unit) × (entry ≡ index)) flags (set flags unit (set (slice_index_or flags unit []) index true))
marked_one flags unit index in_flags in_row =
    let row : List Bool = slice_index_or flags unit [] in
    let over : List Bool = set row index true in
    let after : List (List Bool) = set flags unit over in
    let here = λ (number : ℕ) (x : number ≡ unit). ap (λ k. slice_index_or after k []) x ∙ get_or-set_same flags unit over [] in_flags in
    let away = λ (number : ℕ) (x : number ≢ unit). get_or-set_other flags unit number over [] x in
    let was = λ (number : ℕ) (x : number ≡ unit). ap (λ k. slice_index_or flags k []) x in
    let set_here = λ (entry : ℕ) (y : entry ≡ index). ap (λ k. slice_index_or over k false) y ∙ get_or-set_same row index true false in_row in
    let set_away = λ (entry : ℕ) (y : entry ≢ index). get_or-set_other row index entry true false y in
    record {
      long = λ number.
          ⊎_elim
          (λ (x : number ≡ unit). ap length (here number x) ∙ length-set row index true ∙ sym (ap length (was number x)))
          (λ (x : number ≢ unit). ap length (away number x))
          (cases_eq number unit);
      kept = λ number entry h.
          ⊎_elim
          (λ (x : number ≡ unit).
          ap (λ l. slice_index_or l entry false) (here number x)
          ∙ ⊎_elim
          (λ (y : entry ≡ index). set_here entry y)
          (λ (y : entry ≢ index). set_away entry y ∙ sym (ap (λ l. slice_index_or l entry false) (was number x)) ∙ h)
          (cases_eq entry index))
          (λ (x : number ≢ unit). ap (λ l. slice_index_or l entry false) (away number x) ∙ h)
          (cases_eq number unit);
      marked = λ number entry named lt. ap (λ l. slice_index_or l entry false) (here number named.0) ∙ set_here entry named.1;
      only = λ number entry h.
          ⊎_elim
          (λ (x : number ≡ unit).
          ⊎_elim
          (λ (y : entry ≡ index). inr (x, y))
          (λ (y : entry ≢ index).
          inl (ap (λ l. slice_index_or l entry false) (was number x) ∙ sym (set_away entry y) ∙ sym (ap (λ l. slice_index_or l entry false) (here number x)) ∙ h))
          (cases_eq entry index))
          (λ (x : number ≢ unit). inl (sym (ap (λ l. slice_index_or l entry false) (away number x)) ∙ h))
          (cases_eq number unit);
    }

-- one more entry
pub stand_more : (entries : List Virtual) (count : ℕ) (virtual : Virtual) (before between after : List (List Bool)) → slice_get entries count ≡ Some virtual → AreMarked (StandBefore entries count) before between → AreMarked (λ number entry. virtual.owner ≡ O.Of number entry) between after → AreMarked (StandBefore entries (count + 1)) before after
stand_more entries count virtual before between after is h k =
    marks_then (StandBefore entries count) (λ number entry. virtual.owner ≡ O.Of number entry) (StandBefore entries (count + 1)) before between after h k
    (λ number entry s.
    ⊎_elim
    (λ (x : s.0 < count). inl (s.0, (s.1.0, x, s.1.2, s.1.3)))
    (λ (x : s.0 ≡ count).
    let same : s.1.0 ≡ virtual = same_Some s.1.0 virtual (sym s.1.2 ∙ ap (slice_get entries) x ∙ is) in
    inr (ap (λ (v : Virtual). v.owner) (sym same) ∙ s.1.3))
    (below_or_at s.0 count s.1.1))
    (λ number entry either.
    ⊎_elim
    (λ (s : StandBefore entries count number entry). (s.0, (s.1.0, omega (arith, s.1.1), s.1.2, s.1.3)))
    (λ (e : virtual.owner ≡ O.Of number entry). (count, (virtual, omega arith, is, e)))
    either)

-- all entries
pub stand_all : (entries : List Virtual) (before after : List (List Bool)) → AreMarked (StandBefore entries (length entries)) before after → AreMarked (StandFor entries) before after
stand_all entries before after h = record {
  long = h.long;
  kept = h.kept;
  marked = λ number entry s lt. h.marked number entry (s.0, (s.1.0, slice_get_within entries s.0 s.1.0 s.1.1, s.1.1, s.1.2)) lt;
  only = λ number entry f.
      ⊎_elim
      (λ (x : IsFlagged before number entry). inl x)
      (λ (s : StandBefore entries (length entries) number entry). inr (s.0, (s.1.0, s.1.2, s.1.3)))
      (h.only number entry f);
}

-- the flags of the entries that so many of the units lend
pub record AreLentSo (units : List CodeUnit) (count : ℕ) (flags : List (List Bool)) : Type 0 where
  pub long : (number : ℕ) (unit : CodeUnit) → slice_get units number ≡ Some unit → length (slice_index_or flags number []) ≡ length unit.fields.items
  pub lent : (number entry : ℕ) → IsLentBefore units count number entry → entry < length (slice_index_or flags number []) → IsFlagged flags number entry
  pub only : (number entry : ℕ) → IsFlagged flags number entry → IsLentBefore units count number entry

pub lent_none : (units : List CodeUnit) (flags : List (List Bool)) → AreUnmarked units flags → AreLentSo units 0 flags
lent_none units flags h = record {
  long = h.long;
  lent = λ number entry l lt. absurd (omega (arith, l.1.1));
  only = λ number entry f. absurd (h.none number entry f);
}

-- those of one more unit
pub lent_more : (units : List CodeUnit) (count : ℕ) (unit : CodeUnit) (before after : List (List Bool)) → slice_get units count ≡ Some unit → AreLentSo units count before → AreMarked (StandFor unit.fields.items) before after → AreLentSo units (count + 1) after
lent_more units count unit before after is h k = record {
  long = λ number other at. k.long number ∙ h.long number other at;
  lent = λ number entry l lt.
      ⊎_elim
      (λ (x : l.0 < count). k.kept number entry (h.lent number entry (l.0, (l.1.0, x, l.1.2, l.1.3)) (omega (arith, k.long number))))
      (λ (x : l.0 ≡ count).
      let same : l.1.0 ≡ unit = same_Some l.1.0 unit (sym l.1.2 ∙ ap (slice_get units) x ∙ is) in
      k.marked number entry (subst (λ (u : CodeUnit). StandFor u.fields.items number entry) same l.1.3) lt)
      (below_or_at l.0 count l.1.1);
  only = λ number entry f.
      ⊎_elim
      (λ (x : IsFlagged before number entry). let l = h.only number entry x in (l.0, (l.1.0, omega (arith, l.1.1), l.1.2, l.1.3)))
      (λ (s : StandFor unit.fields.items number entry). (count, (unit, omega arith, is, s)))
      (k.only number entry f);
}

-- those of all units
pub lent_all : (units : List CodeUnit) (flags : List (List Bool)) → AreLentSo units (length units) flags → AreLentFlags units flags
lent_all units flags h = record {
  lent = λ number entry unit is within l.
      let long = h.long number unit is in
      let other_in = slice_get_within units l.0 l.1.0 l.1.1.1.1 in
      h.lent number entry (l.0, (l.1.0, other_in, l.1.1.1.1, (l.1.1.0, (l.1.1.1.0, l.1.1.1.2, l.1.1.1.3)))) (omega arith);
  only = λ number entry f.
      let l = h.only number entry f in
      (l.0, (l.1.0, (l.1.3.0, (l.1.3.1.0, l.1.2, l.1.3.1.1, l.1.3.1.2))));
}

-- one more row of flags, none of which is set
pub unmarked_more : (units : List CodeUnit) (rows : List (List Bool)) (count : ℕ) (unit : CodeUnit) → length rows ≡ count → slice_get units count ≡ Some unit → ((number : ℕ) (other : CodeUnit) → number < count → slice_get units number ≡ Some other → length (slice_index_or rows number []) ≡ length other.fields.items) → (number : ℕ) (other : CodeUnit) → number < count + 1 → slice_get units number ≡ Some other → length (slice_index_or (rows ++ replicate (length unit.fields.items) false ∷ []) number []) ≡ length other.fields.items
unmarked_more units rows count unit long is old number other lt at =
    ⊎_elim
    (λ (x : number < count).
    ap length (get_or_append_left rows (replicate (length unit.fields.items) false ∷ []) [] number (omega arith)) ∙ old number other x at)
    (λ (x : number ≡ count).
    let same : unit ≡ other = same_Some unit other (sym is ∙ ap (slice_get units) (sym x) ∙ at) in
    ap length (get_or_push rows (replicate (length unit.fields.items) false) [] number (long ∙ sym x))
    ∙ length-replicate (length unit.fields.items) false
    ∙ ap (λ (u : CodeUnit). length u.fields.items) same)
    (below_or_at number count lt)

unset : (n entry : ℕ) → slice_index_or (replicate n false) entry false ≡ false
unset n entry =
    ⊎_elim
    (λ (x : entry < n). get_or-replicate n entry false false x)
    (λ (x : n ≤ entry). get_or_past (replicate n false) entry false (omega (arith, length-replicate n false)))
    (cases_lt entry n)

pub unflagged_more : (rows : List (List Bool)) (n : ℕ) → ((number entry : ℕ) → IsFlagged rows number entry → ⊥) → (number entry : ℕ) → IsFlagged (rows ++ replicate n false ∷ []) number entry → ⊥
unflagged_more rows n none number entry f =
    ⊎_elim
    (λ (x : number < length rows).
    none number entry (sym (ap (λ (l : List Bool). slice_index_or l entry false) (get_or_append_left rows (replicate n false ∷ []) [] number x)) ∙ f))
    (λ (x : length rows ≤ number).
    ⊎_elim
    (λ (y : number ≡ length rows).
    false≢true (sym (unset n entry) ∙ sym (ap (λ (l : List Bool). slice_index_or l entry false) (get_or_push rows (replicate n false) [] number (sym y))) ∙ f))
    (λ (y : number ≢ length rows).
    let past = get_or_past (rows ++ replicate n false ∷ []) number [] (omega (arith, length_push rows (replicate n false))) in
    false≢true (sym (ap (λ (l : List Bool). slice_index_or l entry false) past) ∙ f))
    (cases_eq number (length rows)))
    (cases_lt number (length rows))
