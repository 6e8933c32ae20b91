-- What the words of the command ask for.
use Rattle.std.specs.Prelude.{ℕ, Bool, true, false, ◌≡◌, ◌&&◌, List, Option, Some, None, is_some, codes, option_map, option_and_then, if◌then◌else◌}
use Rattle.std.specs.Option.{option_map_or}
use Rattle.std.specs.Str.{bytes_eq}
use Rattle.clap.specs.Words.{Row, fault_of, first_of, matches_of}
use Rattle.clap.specs.Walk.{is_empty}
use Rattle.cstar_base.specs.declared.operators.Winner.{Winner}
use Rattle.cstar_base.specs.declared.operators.Winner.TheVariants.{High, Low}
use Rattle.cstar_words.specs.declared.options.Mode.{Mode}
use Rattle.cstar_words.specs.declared.options.Mode.TheVariants.{Run, List as Lists, Check, Drill, Asm, Resume}
use Rattle.cstar_words.specs.declared.options.Options.{Options}
use Rattle.cstar_words.specs.Line.{command_line}
use Rattle.cstar_words.specs.Numbers.{number_in}

-- the mode of this name
abbrev pub mode_named : List ℕ → Option Mode
mode_named text =
    if bytes_eq text (codes "run") then Some Run
    else if bytes_eq text (codes "list") then Some Lists
    else if bytes_eq text (codes "check") then Some Check
    else if bytes_eq text (codes "drill") then Some Drill
    else if bytes_eq text (codes "asm") then Some Asm
    else if bytes_eq text (codes "resume") then Some Resume
    else None

-- the winner of this name
abbrev pub winner_named : List ℕ → Option Winner
winner_named text =
    if bytes_eq text (codes "high") then Some High
    else if bytes_eq text (codes "low") then Some Low
    else None

-- the command line has no fault at the words
abbrev pub fits_line : List (List ℕ) → Bool
fits_line words = is_empty (fault_of command_line words)

-- the value of the option of this name, or of FILE
abbrev pub given : List ℕ → List Row → Option (List ℕ)
given name rows = first_of name rows

-- the option of this name, which takes no value, is there
abbrev pub has_flag : List ℕ → List Row → Bool
has_flag name rows = option_map_or (λ value. bytes_eq value (codes "true")) (given name rows) false

-- what is read of a value, or the default where none is given
abbrev pub read_or : {A : Type 0} → (List ℕ → Option A) → A → Option (List ℕ) → Option A
read_or reads default None = Some default
read_or reads default (Some text) = reads text

abbrev pub mode_in : List Row → Option Mode
mode_in rows = read_or mode_named Run (given (codes "mode") rows)

abbrev pub workers_in : List Row → Option ℕ
workers_in rows = read_or (number_in 1 64) 4 (given (codes "workers") rows)

abbrev pub turns_in : List Row → Option ℕ
turns_in rows = read_or (number_in 0 4294967295) 1000000 (given (codes "turns") rows)

abbrev pub seed_in : List Row → Option ℕ
seed_in rows = read_or (number_in 0 4294967295) 1 (given (codes "seed") rows)

abbrev pub winner_in : List Row → Option Winner
winner_in rows = read_or winner_named High (given (codes "winner") rows)

-- the name of the file that a mode works on: mode drill makes its own text
abbrev pub file_for : Mode → Option (List ℕ) → Option (List ℕ)
file_for Drill file = Some (codes "drill")
file_for mode file = file

abbrev pub file_in : List Row → Option (List ℕ)
file_in rows = option_and_then (λ mode. file_for mode (given (codes "FILE") rows)) (mode_in rows)

-- each option that is given has a value of its own, and there is a file to work on
abbrev pub has_options : List Row → Bool
has_options rows = is_some (mode_in rows) && (is_some (file_in rows) && (is_some (workers_in rows)
    && (is_some (turns_in rows) && (is_some (seed_in rows) && is_some (winner_in rows)))))

-- the options are what the rows say
pub record Reads (rows : List Row) (options : Options) : Type 0 where
  pub mode : mode_in rows ≡ Some options.mode
  pub file : file_in rows ≡ Some options.file.now
  pub workers : workers_in rows ≡ Some options.workers
  pub turns : turns_in rows ≡ Some options.turns
  pub finals : options.finals ≡ has_flag (codes "finals") rows
  pub listing : options.listing ≡ has_flag (codes "listing") rows
  pub seed : seed_in rows ≡ Some options.seed
  pub winner : winner_in rows ≡ Some options.winner
  pub save : option_map (λ name. name.now) options.save ≡ given (codes "save") rows

-- what the words give, option by option
unfoldable pub rows_in : List (List ℕ) → List Row
rows_in words = matches_of command_line words

-- the words are a command: they fit the command line, and what they give is whole
unfoldable pub is_command : List (List ℕ) → Bool
is_command words = fits_line words && has_options (rows_in words)
