-- What an entry at the end of a history changes.
use Rattle.std.proofs.Common.{◌≡◌, ℕ, ◌+◌, ◌<◌, List, [], ◌∷◌, ◌++◌, ◌⊎◌, Some, inl, inr, length, take, get_or, refl, sym, ◌∙◌, ap, subst, arith, length-append}
use Rattle.std.specs.List.{slice_get}
use Rattle.std.proofs.lemmas.Bool.{cases_lt}
use Rattle.std.proofs.lemmas.Option.{slice_get_within, get_or_from_slice_get, slice_get-get_or}
use Rattle.std.proofs.lemmas.List.{take-append-le, get_or_append_left}
use Rattle.std.proofs.Math.Seq.{take-append_seam, get_or-append_seam}
use Rattle.job_board.specs.declared.entry.Entry.{Entry}
use Rattle.job_board.specs.declared.entry.Entry.TheVariants as E
use Rattle.job_board.specs.declared.report.Report.{Report}
use Rattle.job_board.specs.History.{IsLegal, MayFollow, drawn, posted}

pub drawn_behind : (history : List Entry) (number : ℕ) → drawn (history ++ E.Drawn number ∷ []) ≡ drawn history ++ number ∷ []
drawn_behind [] number = refl
drawn_behind (E.Drawn other ∷ rest) number = ap (λ ns. other ∷ ns) (drawn_behind rest number)
drawn_behind (E.Posted other report ∷ rest) number = drawn_behind rest number

pub posted_behind_drawn : (history : List Entry) (number : ℕ) → posted (history ++ E.Drawn number ∷ []) ≡ posted history
posted_behind_drawn [] number = refl
posted_behind_drawn (E.Drawn other ∷ rest) number = posted_behind_drawn rest number
posted_behind_drawn (E.Posted other report ∷ rest) number = ap (λ ns. other ∷ ns) (posted_behind_drawn rest number)

pub drawn_behind_posted : (history : List Entry) (number : ℕ) (report : Report) → drawn (history ++ E.Posted number report ∷ []) ≡ drawn history
drawn_behind_posted [] number report = refl
drawn_behind_posted (E.Drawn other ∷ rest) number report = ap (λ ns. other ∷ ns) (drawn_behind_posted rest number report)
drawn_behind_posted (E.Posted other earlier ∷ rest) number report = drawn_behind_posted rest number report

pub posted_behind : (history : List Entry) (number : ℕ) (report : Report) → posted (history ++ E.Posted number report ∷ []) ≡ posted history ++ number ∷ []
posted_behind [] number report = refl
posted_behind (E.Drawn other ∷ rest) number report = posted_behind rest number report
posted_behind (E.Posted other earlier ∷ rest) number report = ap (λ ns. other ∷ ns) (posted_behind rest number report)

-- each entry draws or posts
pub length_of_history : (history : List Entry) → length history ≡ length (drawn history) + length (posted history)
length_of_history [] = refl
length_of_history (E.Drawn number ∷ rest) = omega (arith, length_of_history rest)
length_of_history (E.Posted number report ∷ rest) = omega (arith, length_of_history rest)

-- an entry of a longer history is one of the shorter, or the last
entry_of : (history : List Entry) (entry : Entry) (place : ℕ) (other : Entry) → slice_get (history ++ entry ∷ []) place ≡ Some other
    → ((place < length history) × (slice_get history place ≡ Some other)) ⊎ ((place ≡ length history) × (other ≡ entry))
entry_of history entry place other is =
    let within : place < length history + 1 = omega (arith, slice_get_within (history ++ entry ∷ []) place other is, length-append history (entry ∷ [])) in
    let got : get_or (history ++ entry ∷ []) place entry ≡ other = get_or_from_slice_get (history ++ entry ∷ []) place other entry is in
    elim (cases_lt place (length history)) [
      | inl before ↦ inl (before, slice_get-get_or history place entry before ∙ ap Some (sym (get_or_append_left history (entry ∷ []) entry place before) ∙ got))
      | inr past ↦ let last : place ≡ length history = omega (arith, within, past) in inr (last, sym (sym (get_or-append_seam history entry [] entry) ∙ (ap (λ n. get_or (history ++ entry ∷ []) n entry) (sym last) ∙ got)))
    ]

-- an entry that may follow leaves a history legal
pub legal_behind : (jobs : ℕ) (answers : ℕ → Report → Type 0) (history : List Entry) (entry : Entry)
    → IsLegal jobs answers history → MayFollow jobs answers history entry → IsLegal jobs answers (history ++ entry ∷ [])
legal_behind jobs answers history entry legal may = record {
  each = λ place other is. elim (entry_of history entry place other is) [
    | inl earlier ↦ let P : List Entry → Type 0 = λ before. MayFollow jobs answers before other in
        subst P (sym (take-append-le place history (entry ∷ []) (omega (arith, earlier.0)))) (legal.each place other earlier.1)
    | inr last ↦ let P : List Entry → Type 0 = λ before. MayFollow jobs answers before other in
        let Q : Entry → Type 0 = λ e. MayFollow jobs answers history e in
        subst P (sym (ap (λ n. take n (history ++ entry ∷ [])) last.0 ∙ take-append_seam history (entry ∷ []))) (subst Q (sym last.1) may)
  ];
}
