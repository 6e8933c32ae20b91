-- A book keeps what it keeps of its fields, and has room for what happens.
use Rattle.std.proofs.Common.{◌≡◌, ℕ, ◌+◌, ◌*◌, ◌<◌, ◌≤◌, Bool, true, false, ◌||◌, List, [], ◌∷◌, ◌++◌, ◌⊎◌, inl, inr, length, eqb, refl, sym, ◌∙◌, ap, subst, arith, length-append}
use Rattle.std.specs.List.{IsDistinct, list_any}
use Rattle.std.proofs.lemmas.Bool.{eqb-true}
use Rattle.std.proofs.lemmas.Cmp.{nat_eq_equiv}
use Rattle.std.proofs.lemmas.Map.Keys.{IsDistinct-push}
use Rattle.std.proofs.lemmas.Map.Steps.{length-le_from_distinct_below}
use Rattle.job_board.specs.declared.entry.Entry.{Entry}
use Rattle.job_board.specs.declared.entry.Entry.TheVariants as E
use Rattle.job_board.specs.declared.report.Report.{Report}
use Rattle.job_board.specs.History.{drawn, draws, is_drawn, is_posted, posted, posts}
use Rattle.job_board.specs.Keeping.{IsKept}
use Rattle.job_board.proofs.Steps.{drawn_behind, drawn_behind_posted, legal_behind, length_of_history, posted_behind, posted_behind_drawn}

-- one that passes is among the earlier, or is the last
last_or_earlier : {X : Type 0} (p : X → Bool) (xs : List X) (x : X) → list_any p (xs ++ x ∷ []) ≡ true → (list_any p xs ≡ true) ⊎ (p x ≡ true)
last_or_earlier p [] x is = elim (p x) as (λ b. (b || false) ≡ true → (false ≡ true) ⊎ (b ≡ true)) [ true ↦ λ _. inr refl | false ↦ λ e. inl e ] is
last_or_earlier p (y ∷ ys) x is =
    elim (p y) as (λ b. (b || list_any p (ys ++ x ∷ [])) ≡ true → ((b || list_any p ys) ≡ true) ⊎ (p x ≡ true))
    [ true ↦ λ _. inl refl | false ↦ λ e. last_or_earlier p ys x e ] is

-- a number is posted where it is one of those posted
pub posted_among : (number : ℕ) (history : List Entry) → list_any (eqb number) (posted history) ≡ is_posted number history
posted_among number [] = refl
posted_among number (E.Drawn other ∷ rest) = posted_among number rest
posted_among number (E.Posted other report ∷ rest) = ap (λ b. eqb number other || b) (posted_among number rest)

-- no more reports were posted than there are jobs
posted_within : (count : ℕ) (history : List Entry) → IsDistinct eqb (posted history) → ((number : ℕ) → is_posted number history ≡ true → number < count) → length (posted history) ≤ count
posted_within count history once below =
    length-le_from_distinct_below (posted history) count once (λ number is. below number (sym (posted_among number history) ∙ is))

module _ (jobs : ℕ) (answers : ℕ → Report → Type 0) (count next room : ℕ) (history : List Entry) where
  pub room_to_draw : IsKept jobs answers count next room history → next < count → length history < room
  room_to_draw kept left =
      omega (arith, left, kept.next_is, kept.roomy, length_of_history history, posted_within count history kept.once kept.posted_below)

  pub keeps_drawn : (more : ℕ) → room ≤ more → IsKept jobs answers count next room history → next < count → IsKept jobs answers count (next + 1) more (history ++ E.Drawn next ∷ [])
  keeps_drawn more larger kept left = record {
    legal = legal_behind jobs answers history (E.Drawn next) kept.legal (kept.next_is, omega (arith, left, kept.all));
    all = kept.all;
    most = kept.most;
    next_is = sym (ap length (drawn_behind history next) ∙ omega (arith, length-append (drawn history) (next ∷ []), kept.next_is));
    within = omega (arith, left);
    roomy = omega (arith, kept.roomy, larger);
    drawn_below = λ number is. elim (last_or_earlier (draws number) history (E.Drawn next) is) [
      | inl earlier ↦ kept.drawn_below number earlier
      | inr last ↦ omega (arith, left, eqb-true number next last)
    ];
    posted_below = λ number is. elim (last_or_earlier (posts number) history (E.Drawn next) is) [
      | inl earlier ↦ kept.posted_below number earlier
      | inr last ↦ absurd (cc last)
    ];
    once = subst (IsDistinct eqb) (sym (posted_behind_drawn history next)) kept.once;
  }

  once_more : (number : ℕ) → IsKept jobs answers count next room history → is_posted number history ≡ false → IsDistinct eqb (posted history ++ number ∷ [])
  once_more number kept is_open =
      IsDistinct-push nat_eq_equiv (posted history) number kept.once (posted_among number history ∙ is_open)

  pub keeps_posted : (more : ℕ) → room ≤ more → (number : ℕ) (report : Report) → IsKept jobs answers count next room history
      → is_drawn number history ≡ true → is_posted number history ≡ false → answers number report
      → IsKept jobs answers count next more (history ++ E.Posted number report ∷ [])
  keeps_posted more larger number report kept is_drawn is_open answered = record {
    legal = legal_behind jobs answers history (E.Posted number report) kept.legal (is_drawn, is_open, answered);
    all = kept.all;
    most = kept.most;
    next_is = kept.next_is ∙ sym (ap length (drawn_behind_posted history number report));
    within = kept.within;
    roomy = omega (arith, kept.roomy, larger);
    drawn_below = λ other is. elim (last_or_earlier (draws other) history (E.Posted number report) is) [
      | inl earlier ↦ kept.drawn_below other earlier
      | inr last ↦ absurd (cc last)
    ];
    posted_below = λ other is. elim (last_or_earlier (posts other) history (E.Posted number report) is) [
      | inl earlier ↦ kept.posted_below other earlier
      | inr last ↦ omega (arith, kept.drawn_below number is_drawn, eqb-true other number last)
    ];
    once = subst (IsDistinct eqb) (sym (posted_behind history number report)) (once_more number kept is_open);
  }

  pub room_to_post : (number : ℕ) (report : Report) → IsKept jobs answers count next room history
      → is_drawn number history ≡ true → is_posted number history ≡ false → answers number report → length history < room
  room_to_post number report kept is_drawn is_open answered =
      let then = keeps_posted room (omega arith) number report kept is_drawn is_open answered in
      let within = posted_within count (history ++ E.Posted number report ∷ []) then.once then.posted_below in
      let one_more : length (posted (history ++ E.Posted number report ∷ [])) ≡ length (posted history) + 1 =
      ap length (posted_behind history number report) ∙ length-append (posted history) (number ∷ []) in
      omega (arith, within, one_more, kept.next_is, kept.within, kept.roomy, length_of_history history)

-- a book of which nothing is drawn
pub keeps_nothing : (jobs : ℕ) (answers : ℕ → Report → Type 0) (count room : ℕ) (history : List Entry) → count ≡ jobs → count ≤ 256 → 2 * count ≤ room → history ≡ []
    → IsKept jobs answers count 0 room history
unfolding IsDistinct
keeps_nothing jobs answers count room history all most roomy none =
    let P : List Entry → Type 0 = λ h. IsKept jobs answers count 0 room h in
    subst P (sym none) record {
      legal = record { each = λ place entry is. absurd (cc is) };
      all = all;
      most = most;
      next_is = refl;
      within = omega arith;
      roomy = roomy;
      drawn_below = λ number is. absurd (cc is);
      posted_below = λ number is. absurd (cc is);
      once = tt;
    }
