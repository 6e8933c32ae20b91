-- Lines: rows of words that are joined by blanks and ended by newlines. What is cut at newlines and then
-- at blanks is those rows, and behind them one without a word.
use Rattle.std.proofs.Common.{◌≡◌, ℕ, ◌≤◌, ◌+◌, ◌^◌, Bool, true, false, cond, ◌==◌, List, [], ◌∷◌, ◌++◌, map, length, append_assoc, append-nil, eq-eqb, refl, sym, ap, ap₂, ◌∙◌, arith}
use Rattle.std.specs.Prelude.{flat_map, filter, All}
use Rattle.std.proofs.lemmas.Bool.Decides.{nat_tests}
use Rattle.paris_code.specs.Listing.{numbered}
use Rattle.plain_listings.specs.Contents.{IsWord}
use Rattle.plain_listings.proofs.Cuts.{only, only_append, only_weaker, lacks, cut, cut_alone, cut_first}
use Rattle.plain_listings.proofs.Numbers.{is_solid}
use Rattle.plain_listings.proofs.OperandTexts.{Solid, AreSolid, first_of_all, others_of_all}

abbrev pub Row : Type 0
Row = List (List ℕ)

-- the line of a row, and the row without its newline
abbrev pub rest_of : Row → List ℕ
rest_of [] = 10 ∷ []
rest_of (w ∷ ws) = 32 ∷ (w ++ rest_of ws)

abbrev pub line_of : Row → List ℕ
line_of [] = 10 ∷ []
line_of (w ∷ ws) = w ++ rest_of ws

abbrev more_of : Row → List ℕ
more_of [] = []
more_of (w ∷ ws) = 32 ∷ (w ++ more_of ws)

abbrev body_of : Row → List ℕ
body_of [] = []
body_of (w ∷ ws) = w ++ more_of ws

joined : (w xs ys text : List ℕ) → xs ++ text ≡ ys ++ 10 ∷ text → (w ++ xs) ++ text ≡ (w ++ ys) ++ 10 ∷ text
joined w xs ys text e = append_assoc w xs text ∙ ap (λ t. w ++ t) e ∙ sym (append_assoc w ys (10 ∷ text))

rest_ends : (ws : Row) (text : List ℕ) → rest_of ws ++ text ≡ more_of ws ++ 10 ∷ text
rest_ends [] text = refl
rest_ends (w ∷ ws) text = ap (λ t. 32 ∷ t) (joined w (rest_of ws) (more_of ws) text (rest_ends ws text))

line_ends : (row : Row) (text : List ℕ) → line_of row ++ text ≡ body_of row ++ 10 ∷ text
line_ends [] text = refl
line_ends (w ∷ ws) text = joined w (rest_of ws) (more_of ws) text (rest_ends ws text)

-- a word has no newline and no blank
no_newline : (b : ℕ) → is_solid b ≡ true → lacks 10 b ≡ true
no_newline b h = grind (arith, nat_tests)

no_blank : (b : ℕ) → is_solid b ≡ true → lacks 32 b ≡ true
no_blank b h = grind (arith, nat_tests)

more_lacks : (ws : Row) → AreSolid ws → only (lacks 10) (more_of ws) ≡ true
more_lacks [] h = refl
more_lacks (w ∷ ws) h = only_append (lacks 10) w (more_of ws) (only_weaker is_solid (lacks 10) no_newline w h.0) (more_lacks ws h.1)

body_lacks : (row : Row) → AreSolid row → only (lacks 10) (body_of row) ≡ true
body_lacks [] h = refl
body_lacks (w ∷ ws) h = only_append (lacks 10) w (more_of ws) (only_weaker is_solid (lacks 10) no_newline w h.0) (more_lacks ws h.1)

-- a row has a word at least
abbrev pub IsRow : Row → Type 0
IsRow [] = ⊥
IsRow (w ∷ ws) = AreSolid (w ∷ ws)

cut_words : (w : List ℕ) (ws : Row) → Solid w → AreSolid ws → cut 32 (w ++ more_of ws) ≡ w ∷ ws
cut_words w [] s h = ap (cut 32) (append-nil w) ∙ cut_alone 32 w (only_weaker is_solid (lacks 32) no_blank w s)
cut_words w (v ∷ vs) s h = cut_first 32 w (v ++ more_of vs) (only_weaker is_solid (lacks 32) no_blank w s) ∙ ap (λ ws. w ∷ ws) (cut_words v vs h.0 h.1)

cut_row : (row : Row) → IsRow row → cut 32 (body_of row) ≡ row
cut_row [] h = elim h [ ]
cut_row (w ∷ ws) h = cut_words w ws h.0 h.1

row_lacks : (row : Row) → IsRow row → only (lacks 10) (body_of row) ≡ true
row_lacks [] h = elim h [ ]
row_lacks (w ∷ ws) h = body_lacks (w ∷ ws) h

-- what holds of each row
abbrev pub Each : (Row → Type 0) → List Row → Type 0
Each P [] = Unit {0}
Each P (row ∷ rows) = P row × Each P rows

pub each_append : (P : Row → Type 0) (xs ys : List Row) → Each P xs → Each P ys → Each P (xs ++ ys)
each_append P [] ys g h = h
each_append P (x ∷ xs) ys g h = (g.0, each_append P xs ys g.1 h)

-- the rows of a text
pub rows_in : List ℕ → List Row
rows_in text = map (cut 32) (cut 10 text)

abbrev pub no_word : List Row
no_word = ([] ∷ []) ∷ []

pub rows_back : (rows : List Row) → Each IsRow rows → rows_in (flat_map line_of rows) ≡ rows ++ no_word
unfolding rows_in
rows_back [] h = refl
rows_back (row ∷ rows) h =
    ap (λ t. map (cut 32) (cut 10 t)) (line_ends row (flat_map line_of rows))
    ∙ ap (map (cut 32)) (cut_first 10 (body_of row) (flat_map line_of rows) (row_lacks row h.0))
    ∙ ap₂ (λ r rs. r ∷ rs) (cut_row row h.0) (rows_back rows h.1)

-- the rows of a list's items, which are numbered from a first number on
abbrev pub numbered_rows : {A : Type 0} → (ℕ → A → Row) → ℕ → List A → List Row
numbered_rows row first [] = []
numbered_rows row first (x ∷ xs) = row first x ∷ numbered_rows row (first + 1) xs

module _ {A : Type 0} (row : ℕ → A → Row) where
  pub numbered_lines : (line : ℕ → A → List ℕ) → ((n : ℕ) (x : A) → line n x ≡ line_of (row n x)) → (n : ℕ) (xs : List A) → numbered line n xs ≡ flat_map line_of (numbered_rows row n xs)
  unfolding numbered
  numbered_lines line same n [] = refl
  numbered_lines line same n (x ∷ xs) = ap₂ (λ t u. t ++ u) (same n x) (numbered_lines line same (n + 1) xs)

  pub numbered_each : (Q : Row → Type 0) (P : A → Type 0) → ((n : ℕ) (x : A) → IsWord n → P x → Q (row n x)) → (n : ℕ) (xs : List A) → All P xs → n + length xs ≤ 2 ^ 32 → Each Q (numbered_rows row n xs)
  numbered_each Q P good n [] h fits = tt
  numbered_each Q P good n (x ∷ xs) h fits = (good n x (omega arith) (first_of_all P x xs h), numbered_each Q P good (n + 1) xs (others_of_all P x xs h) (omega arith))

-- what is read of numbered rows
pub numbered_back : {A B : Type 0} (row : ℕ → A → Row) (read : Row → B) (key : A → B) (P : A → Type 0) → ((n : ℕ) (x : A) → P x → read (row n x) ≡ key x) → (n : ℕ) (xs : List A) → All P xs → map read (numbered_rows row n xs) ≡ map key xs
numbered_back row read key P back n [] h = refl
numbered_back row read key P back n (x ∷ xs) h = ap₂ (λ y ys. y ∷ ys) (back n x (first_of_all P x xs h)) (numbered_back row read key P back (n + 1) xs (others_of_all P x xs h))

-- the rows of a label, where rows have labels
pick_more : (t : Bool) (x : Row) (all xs ys : List Row) → all ≡ xs ++ ys → cond t (x ∷ all) all ≡ cond t (x ∷ xs) xs ++ ys
pick_more true x all xs ys e = ap (λ zs. x ∷ zs) e
pick_more false x all xs ys e = e

module _ (label : Row → ℕ) where
  pub pick : ℕ → List Row → List Row
  pick j rows = filter (λ row. label row == j) rows

  abbrev pub Labelled : ℕ → List Row → Type 0
  Labelled k rows = Each (λ row. label row ≡ k) rows

  pub pick_append : (j : ℕ) (xs ys : List Row) → pick j (xs ++ ys) ≡ pick j xs ++ pick j ys
  unfolding pick
  pick_append j [] ys = refl
  pick_append j (x ∷ xs) ys = pick_more (label x == j) x (filter (λ row. label row == j) (xs ++ ys)) (filter (λ row. label row == j) xs) (filter (λ row. label row == j) ys) (pick_append j xs ys)

  pub pick_same : (j : ℕ) (rows : List Row) → Labelled j rows → pick j rows ≡ rows
  unfolding pick
  pick_same j [] h = refl
  pick_same j (row ∷ rows) h =
      ap (λ t. cond t (row ∷ filter (λ r. label r == j) rows) (filter (λ r. label r == j) rows)) (eq-eqb (label row) j h.0) ∙ ap (λ rs. row ∷ rs) (pick_same j rows h.1)

  pub pick_other : (j k : ℕ) → (k == j) ≡ false → (rows : List Row) → Labelled k rows → pick j rows ≡ []
  unfolding pick
  pick_other j k d [] h = refl
  pick_other j k d (row ∷ rows) h =
      ap (λ t. cond t (row ∷ filter (λ r. label r == j) rows) (filter (λ r. label r == j) rows)) (ap (λ l. l == j) h.0 ∙ d) ∙ pick_other j k d rows h.1
