-- What the options say of the words that they were read from.
use Rattle.std.proofs.Common.{◌≡◌, ◌∙◌, ◌≤◌, ◌&&◌, ℕ, Bool, true, false, List, [], Option, Some, None, ap, sym, refl, arith, lit≤, if◌then◌else◌, ◌⊎◌, inl, inr}
use Rattle.std.specs.Prelude.{codes, nat_le, unwrap_or}
use Rattle.std.specs.Str.Parse.{digits_value}
use Rattle.std.proofs.lemmas.Bool.{leb-true}
use Rattle.cstar_words.specs.declared.options.Mode.{Mode}
use Rattle.cstar_words.specs.declared.options.Mode.TheVariants as M
use Rattle.cstar_words.specs.declared.options.Options.{Options}
use Rattle.cstar_words.specs.Numbers.{is_number, number_in}
use Rattle.cstar_words.specs.Reading.{Reads, given, read_or, rows_in}
use Rattle.cstar_top.specs.declared.answer.Answer.{Answer}
use Rattle.cstar_top.specs.declared.answer.Answer.TheVariants as A
use Rattle.cstar_base.specs.declared.faults.Fault.TheVariants as F
use Rattle.point_runs.specs.Refusals.{file_start}
use Rattle.cstar_top.specs.Answers.{status_of}
use Rattle.cstar_top.specs.Modes.{AsksFor, budget, budget_in, named}
use Rattle.cstar_top.specs.Reports.{name_in, told_name}

-- the file's name is the one that the words name
pub named_is : (words : List (List ℕ)) (options : Options) → Reads (rows_in words) options → named words ≡ options.file.now
named_is words options reads = ap (λ (o : Option (List ℕ)). unwrap_or o []) reads.file

-- the name that the line of an answer tells is the one that the words have
pub told_named : (words : List (List ℕ)) (options : Options) (answer : Answer) → Reads (rows_in words) options → told_name options answer ≡ name_in words answer
told_named words options A.CannotSave reads = ap (λ (o : Option (List ℕ)). unwrap_or o []) reads.save
told_named words options _ reads = sym (named_is words options reads)

-- a refusal tells the name of the file
pub told_of_refusal : (options : Options) (answer : Answer) → status_of answer ≡ 3 → told_name options answer ≡ options.file.now
told_of_refusal options A.CannotSave three = absurd (omega arith)
told_of_refusal options _ three = refl

pub told_of_long : (options : Options) (answer : Answer) → (answer ≡ A.Refused F.TooLong file_start) ⊎ ((status_of answer ≡ 5) ⊎ (status_of answer ≡ 8)) → told_name options answer ≡ options.file.now
told_of_long options A.CannotSave (inl is) = cc
told_of_long options A.CannotSave (inr (inl five)) = absurd (omega arith)
told_of_long options A.CannotSave (inr (inr eight)) = absurd (omega arith)
told_of_long options _ said = refl

-- the mode is the one that the words ask for
pub mode_is : (words : List (List ℕ)) (options : Options) (mode : Mode) → Reads (rows_in words) options → AsksFor mode words → options.mode ≡ mode
mode_is words options mode reads asks = ap (λ (o : Option Mode). unwrap_or o M.Run) (sym reads.mode ∙ asks)

-- and so are the turns
pub budget_is : (words : List (List ℕ)) (options : Options) → Reads (rows_in words) options → budget_in options.mode words ≡ budget options.mode options.turns
budget_is words options reads = ap (λ (o : Option ℕ). budget options.mode (unwrap_or o 0)) reads.turns

-- a number that is given where it passes three tests passed them
passed : (v n : ℕ) (a b c : Bool) → (if a && (b && c) then Some v else None) ≡ Some n → (b ≡ true) × (c ≡ true) × (v ≡ n)
passed v n true true true is = (refl, refl, ap (λ (o : Option ℕ). unwrap_or o 0) is)
passed v n true true false is = cc
passed v n true false c is = cc
passed v n false b c is = cc

-- a number of the words lies between its bounds, as its default does
between : (low high default n : ℕ) (text : Option (List ℕ)) → low ≤ default → default ≤ high → read_or (number_in low high) default text ≡ Some n → (low ≤ n) × (n ≤ high)
between low high default n None above below read =
    let is : default ≡ n = ap (λ (o : Option ℕ). unwrap_or o 0) read in (omega (arith, is, above), omega (arith, is, below))
between low high default n (Some text) above below read =
    let value = digits_value 10 text in
    let within = passed value n (is_number text) (nat_le low value) (nat_le value high) read in (
      omega (arith, leb-true low value within.0, within.2),
      omega (arith, leb-true value high within.1, within.2),
    )

-- the workers are 1 to 64
pub few_workers : (words : List (List ℕ)) (options : Options) → Reads (rows_in words) options → (1 ≤ options.workers) × (options.workers ≤ 64)
few_workers words options reads = between 1 64 4 options.workers (given (codes "workers") (rows_in words)) (lit≤ tt) (lit≤ tt) reads.workers
