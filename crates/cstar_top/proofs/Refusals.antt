-- What the command says of a file that is too long.
use Rattle.std.proofs.Common.{◌≡◌, ◌≢◌, ◌<◌, ◌∙◌, ℕ, ◌+◌, List, [], length, take, Option, Some, ◌⊎◌, inl, inr, ap, sym, subst, refl, arith, lit≤, true≢false, ◌≤◌, Bool, true, false, None}
use Rattle.std.proofs.lemmas.List.{length-take-le, take_all}
use Rattle.std.proofs.lemmas.Bool.{cases_lt}
use Rattle.std.specs.Prelude.{IsTrue, option_map, unwrap_or}
use Rattle.cstar_base.specs.declared.faults.Fault.TheVariants as F
use Rattle.cstar_io.specs.Output.{Takes}
use Rattle.cstar_top.specs.declared.answer.Answer.{Answer}
use Rattle.cstar_top.specs.declared.answer.Answer.TheVariants as A
use Rattle.cstar_top.specs.Answers.{line_of, status_of}
use Rattle.cstar_top.specs.Modes.{budget, leaves_input, limit_of, runs_image}
use Rattle.cstar_top.specs.Refusals.{RefusesLong, RefusesRun}
use Rattle.cstar_words.specs.declared.options.Mode.{Mode}
use Rattle.cstar_words.specs.declared.options.Mode.TheVariants as M
use Rattle.point_runs.specs.Refusals.{file_start}

-- the report of the answer to a file that is too long, or that could not be read
pub refused_long : {E : Type 0} (agrees : E → List ℕ → Type 0) (s t : E) (file : List ℕ) (r : ℕ) (answer : Answer) → (answer ≡ A.Refused F.TooLong file_start) ⊎ ((status_of answer ≡ 5) ⊎ (status_of answer ≡ 8)) → (r ≡ status_of answer) ⊎ ((r ≡ 6) ⊎ (r ≡ 8)) → (r ≡ status_of answer → r ≢ 6 → r ≢ 8 → Takes agrees s t (line_of file answer)) → RefusesLong agrees s t file r
refused_long agrees s t file r answer is (inr (inl six)) own = inr (inr (inl six))
refused_long agrees s t file r answer is (inr (inr eight)) own = inr (inr (inr eight))
refused_long agrees s t file r answer (inr (inl five)) (inl same) own = inr (inl (same ∙ five))
refused_long agrees s t file r answer (inr (inr eight)) (inl same) own = inr (inr (inr (same ∙ eight)))
refused_long agrees s t file r answer (inl long) (inl same) own =
    let three : r ≡ 3 = same ∙ ap status_of long in
    inl (three, subst (λ (a : Answer). Takes agrees s t (line_of file a)) long (own same (λ six. omega arith) (λ eight. omega arith)))

-- what is fetched of a text that is too long is too long
pub cut_is_long : (limit : ℕ) (held : Option (List ℕ)) (text bytes : List ℕ) → held ≡ Some text → option_map (take (limit + 1)) held ≡ Some bytes → limit < length text → limit < length bytes
cut_is_long limit held text bytes is cut long =
    let told : option_map (take (limit + 1)) (Some text) ≡ Some bytes = subst (λ (h : Option (List ℕ)). option_map (take (limit + 1)) h ≡ Some bytes) is cut in
    let taken : take (limit + 1) text ≡ bytes = ap (λ (o : Option (List ℕ)). unwrap_or o []) told in
    let size : length (take (limit + 1) text) ≡ limit + 1 = length-take-le (limit + 1) text (omega arith) in
    let count : length bytes ≡ limit + 1 = sym (ap (λ (xs : List ℕ). length xs) taken) ∙ size in
    omega arith

-- what is fetched of a text is the text, or both are too long
pub held_or_long : (tells : Bool) (limit : ℕ) (held : Option (List ℕ)) (cut : List ℕ) → (IsTrue tells → option_map (take (limit + 1)) held ≡ Some cut) → (text : List ℕ) × (IsTrue tells → held ≡ Some text) × ((text ≡ cut) ⊎ ((limit < length text) × (limit < length cut)))
held_or_long false limit held cut fetched = (cut, λ told. cc, inl refl)
held_or_long true limit None cut fetched = let none = fetched refl in (cut, λ told. cc, inl refl)
held_or_long true limit (Some text) cut fetched =
    let taken : take (limit + 1) text ≡ cut = ap (λ (o : Option (List ℕ)). unwrap_or o []) (fetched refl) in
    elim (cases_lt limit (length text)) [
      | inl long ↦ let size : length (take (limit + 1) text) ≡ limit + 1 = length-take-le (limit + 1) text (omega arith) in
          let count : length cut ≡ limit + 1 = sym (ap (λ (xs : List ℕ). length xs) taken) ∙ size in
          (text, λ told. refl, inr (long, omega arith))
      | inr short ↦ let short_enough : length text ≤ limit + 1 = omega arith in
          (text, λ told. refl, inl (sym (take_all (limit + 1) text short_enough) ∙ taken))
    ]

-- the turns and the limit of modes that run an image of a file, and of those that do not
pub budget_is : (mode : Mode) (turns : ℕ) → runs_image mode ≡ true → budget mode turns ≡ turns
budget_is M.Run turns runs = refl
budget_is M.Asm turns runs = refl
budget_is M.Resume turns runs = refl
budget_is _ turns runs = cc

pub text_limit : (mode : Mode) → runs_image mode ≡ false → limit_of mode ≡ 1048576
text_limit M.List runs = refl
text_limit M.Check runs = refl
text_limit M.Drill runs = refl
text_limit _ runs = cc

-- a file that is too long is refused for that
pub long_why : (mode : Mode) (text : List ℕ) → runs_image mode ≡ true → limit_of mode < length text → RefusesRun mode text F.TooLong file_start
long_why M.Run text runs long = inr (lit≤ tt, lit≤ tt)
long_why M.Asm text runs long = (long, refl)
long_why M.Resume text runs long = (long, refl)
long_why _ text runs long = cc

-- modes that run an image of a file are none of the others
pub list_not_run : (mode : Mode) → runs_image mode ≡ true → mode ≡ M.List → ⊥
list_not_run mode runs is = true≢false (sym runs ∙ ap runs_image is)

pub check_not_run : (mode : Mode) → runs_image mode ≡ true → mode ≡ M.Check → ⊥
check_not_run mode runs is = true≢false (sym runs ∙ ap runs_image is)

pub left_not_run : (mode : Mode) → runs_image mode ≡ true → leaves_input mode ≡ true → ⊥
left_not_run M.Run runs leaves = true≢false (sym leaves)
left_not_run M.Asm runs leaves = true≢false (sym leaves)
left_not_run M.Resume runs leaves = true≢false (sym leaves)
left_not_run _ runs leaves = true≢false (sym runs)
