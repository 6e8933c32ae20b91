-- When the words are a command, from what was read of them.
use Rattle.std.proofs.Common.{ap, refl, sym, ◌∙◌, true, false, ◌≡◌, ◌&&◌, Bool, ℕ, List, is_some, Option, Some}
use Rattle.clap.specs.Words.{Row}
use Rattle.cstar_words.specs.declared.options.Options.{Options}
use Rattle.cstar_words.specs.Reading.{Reads, file_in, fits_line, has_options, is_command, mode_in, rows_in, seed_in, turns_in, winner_in, workers_in}

-- words that do not fit the command line are none
pub unfit : (words : List (List ℕ)) → fits_line words ≡ false → is_command words ≡ false
unfolding is_command
unfit words misfit = rw misfit refl

some_is : {A : Type 0} (o : Option A) (x : A) → o ≡ Some x → is_some o ≡ true
some_is o x e = rw e refl

all_of : (a b : Bool) → a ≡ true → b ≡ true → (a && b) ≡ true
all_of a b e f = rw (e, f) refl

-- options that are read are whole
read_whole : (rows : List Row) (options : Options) → Reads rows options → has_options rows ≡ true
read_whole rows options reads =
    all_of _ _ (some_is (mode_in rows) _ reads.mode) (all_of _ _ (some_is (file_in rows) _ reads.file)
    (all_of _ _ (some_is (workers_in rows) _ reads.workers) (all_of _ _ (some_is (turns_in rows) _ reads.turns)
    (all_of _ _ (some_is (seed_in rows) _ reads.seed) (some_is (winner_in rows) _ reads.winner)))))

pub whole : (words : List (List ℕ)) (rows : List Row) (options : Options) → fits_line words ≡ true → rows ≡ rows_in words → Reads rows options → is_command words ≡ true
unfolding is_command
whole words rows options fits same reads = rw (fits, ← same, read_whole rows options reads) refl

-- what is not whole is none
pub unwhole : (words : List (List ℕ)) (rows : List Row) → rows ≡ rows_in words → has_options rows ≡ false → is_command words ≡ false
unfolding is_command
unwhole words rows same partial = go (fits_line words)
  where
    go : (fits : Bool) → (fits && has_options (rows_in words)) ≡ false
    go true = rw (← same) partial
    go false = refl
