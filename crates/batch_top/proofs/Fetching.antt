-- The texts fetched so far.
use Rattle.std.proofs.Common.{◌≡◌, ◌<◌, ◌∙◌, ℕ, ◌+◌, Bool, List, [], ◌∷◌, ◌++◌, Option, Some, IsTrue, get_or, length, option_map, take, arith, ap, sym, subst, inl, inr, length-append, Result, IfOk}
use Rattle.std.proofs.lemmas.Bool.{cases_lt}
use Rattle.std.proofs.lemmas.List.{get_or_append_left}
use Rattle.std.proofs.Math.Seq.{get_or-append_seam}
use Rattle.cstar_base.specs.declared.memory.Memory.{Memory}
use Rattle.job_board.specs.declared.report.Report.{Report}
use Rattle.batch_jobs.specs.Answering.{AnswersJob}
use Rattle.batch_top.specs.Batches.{AnswersNumber, fetched}

-- the first texts are what the shelf holds under the first names
pub record Fetched {S : Type 0} (tells : S → Bool) (file : S → List ℕ → Option (List ℕ)) (shelf : S) (names texts : List (List ℕ)) (count : ℕ) : Type 0 where
  pub many : length texts ≡ count
  pub each : (number : ℕ) → number < count → IsTrue (tells shelf) → option_map fetched (file shelf (get_or names number [])) ≡ Some (get_or texts number [])

at_first : (texts more : List (List ℕ)) (number : ℕ) → number < length texts → get_or (texts ++ more) number [] ≡ get_or texts number []
at_first texts more number inside = get_or_append_left texts more [] number inside

at_end : (texts : List (List ℕ)) (text : List ℕ) → get_or (texts ++ text ∷ []) (length texts) [] ≡ text
at_end texts text = get_or-append_seam texts text [] []

-- what a fetch tells of the next name
pub told_of : {S : Type 0} → (tells : S → Bool) (file : S → List ℕ → Option (List ℕ)) (old now : S) (names : List (List ℕ)) (count : ℕ) (name asked text word : List ℕ)
    → get_or names count [] ≡ name → asked ≡ name → word ≡ text → tells now ≡ tells old → ((other : List ℕ) → file now other ≡ file old other)
    → (IsTrue (tells now) → option_map (take 1048577) (file now asked) ≡ Some text)
    → IsTrue (tells old) → option_map fetched (file old (get_or names count [])) ≡ Some word
unfolding fetched
told_of tells file old now names count name asked text word at asks is same files bytes known =
    ap (λ (n : List ℕ). option_map fetched (file old n)) (at ∙ sym asks) ∙ ap (option_map fetched) (sym (files asked))
    ∙ bytes (subst (λ (b : Bool). IsTrue b) (sym same) known) ∙ ap Some (sym is)

-- one more
pub one_more_fetched : {S : Type 0} → (tells : S → Bool) (file : S → List ℕ → Option (List ℕ)) (shelf : S) (names texts : List (List ℕ)) (count : ℕ) (text : List ℕ)
    → (IsTrue (tells shelf) → option_map fetched (file shelf (get_or names count [])) ≡ Some text)
    → Fetched tells file shelf names texts count → Fetched tells file shelf names (texts ++ text ∷ []) (count + 1)
one_more_fetched tells file shelf names texts count text told before = record {
  many = omega (arith, length-append texts (text ∷ []), before.many);
  each = λ number below known. elim (cases_lt number count) [
    | inl less ↦ before.each number less known ∙ ap Some (sym (at_first texts (text ∷ []) number (omega (arith, before.many))))
    | inr last ↦ let same : number ≡ count = omega arith in
        subst (λ (n : ℕ). option_map fetched (file shelf (get_or names n [])) ≡ Some (get_or (texts ++ text ∷ []) n [])) (sym same)
        (told known ∙ ap Some (sym (subst (λ (n : ℕ). get_or (texts ++ text ∷ []) n [] ≡ text) before.many (at_end texts text))))
  ];
}

-- the report on a name and a text answers the job of their number
pub answers_number : (told : Result Report Memory) (names texts : List (List ℕ)) (number : ℕ) (name text : List ℕ) → get_or names number [] ≡ name → get_or texts number [] ≡ text
    → IfOk told (λ report. AnswersJob name text report) → IfOk told (λ report. AnswersNumber names texts number report)
answers_number told names texts number name text named read answers =
    subst (λ (n : List ℕ). IfOk told (λ report. AnswersJob n (get_or texts number []) report)) (sym named)
    (subst (λ (t : List ℕ). IfOk told (λ report. AnswersJob name t report)) (sym read) answers)
