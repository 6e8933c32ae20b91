-- What the words of a job ask for.
use Rattle.std.proofs.Common.{◌≡◌, ◌∙◌, ℕ, List, Option, Some, true, false, codes, refl, sym, ap, unwrap_or}
use Rattle.clap.proofs.OnLiterals.{clap_on_literals}
use Rattle.cstar_base.specs.declared.operators.Winner.TheVariants as W
use Rattle.cstar_words.specs.declared.options.Mode.TheVariants as M
use Rattle.cstar_words.specs.declared.options.Options.{Options}
use Rattle.cstar_words.specs.Line.{command_line}
use Rattle.cstar_words.specs.Reading.{Reads, file_in, has_flag, is_command, mode_in, rows_in, turns_in, winner_in}
use Rattle.batch_jobs.specs.Answering.{words_of_job}

pub is_job_command : (name : List ℕ) → is_command (words_of_job name) ≡ true
unfolding is_command rows_in command_line clap_on_literals
is_job_command name = refl

pub mode_of_job : (name : List ℕ) → mode_in (rows_in (words_of_job name)) ≡ Some M.Run
unfolding rows_in command_line clap_on_literals
mode_of_job name = refl

pub file_of_job : (name : List ℕ) → file_in (rows_in (words_of_job name)) ≡ Some name
unfolding rows_in command_line clap_on_literals
file_of_job name = refl

turns : (name : List ℕ) → turns_in (rows_in (words_of_job name)) ≡ Some 1000000
unfolding rows_in command_line clap_on_literals
turns name = refl

winner : (name : List ℕ) → winner_in (rows_in (words_of_job name)) ≡ Some W.High
unfolding rows_in command_line clap_on_literals
winner name = refl

finals : (name : List ℕ) → has_flag (codes "finals") (rows_in (words_of_job name)) ≡ false
unfolding rows_in command_line clap_on_literals
finals name = refl

listing : (name : List ℕ) → has_flag (codes "listing") (rows_in (words_of_job name)) ≡ false
unfolding rows_in command_line clap_on_literals
listing name = refl

same : {A : Type 0} (x y : A) → Some x ≡ Some y → x ≡ y
same x y is = ap (λ (o : Option _). unwrap_or o x) is

-- the options that these words give: mode run, this file, 1,000,000 turns, the greatest sender, and nothing else is put
pub record IsPlain (name : List ℕ) (options : Options) : Type 0 where
  pub mode : options.mode ≡ M.Run
  pub file : options.file.now ≡ name
  pub turns : options.turns ≡ 1000000
  pub winner : options.winner ≡ W.High
  pub finals : options.finals ≡ false
  pub listing : options.listing ≡ false

pub plain : (name : List ℕ) (options : Options) → Reads (rows_in (words_of_job name)) options → IsPlain name options
plain name options reads = record {
  mode = same _ _ (sym reads.mode ∙ mode_of_job name);
  file = same _ _ (sym reads.file ∙ file_of_job name);
  turns = same _ _ (sym reads.turns ∙ turns name);
  winner = same _ _ (sym reads.winner ∙ winner name);
  finals = reads.finals ∙ finals name;
  listing = reads.listing ∙ listing name;
}
