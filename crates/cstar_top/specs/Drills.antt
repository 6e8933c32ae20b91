-- What a drill puts.
use Rattle.std.specs.Prelude.{◌≡◌, ℕ, ◌-◌, ◌%◌, ◌^◌, ◌⊎◌, List, [], ◌++◌, Option, Some, codes, decimal, length, sum}
use Rattle.cstar_base.specs.declared.operators.Winner.{Winner}
use Rattle.cstar_io.specs.Output.{Takes, TakesNothing, TakesPrefix}
use Rattle.cstar_lexer.specs.Reading.{IsText}
use Rattle.cstar_tree.specs.declared.token.Token.{Token}
use Rattle.cstar_words.specs.declared.options.Options.{Options}
use Rattle.cstar_words.specs.Reading.{Reads as ReadsWords, rows_in}
use Rattle.drill_text.specs.Text.{drill}
use Rattle.paris_code.specs.declared.program.Image.{Image}
use Rattle.paris_code.specs.Sound.{IsSound}
use Rattle.paris_machine.specs.declared.outcome.End.TheVariants as E
use Rattle.point_runs.specs.Courses.{Course, Feeds, IsCourse}
use Rattle.point_runs.specs.Starts.{new_start}
use Rattle.cstar_top.specs.Accepted.{IsImageOf}

-- `tokens T turns K bytes B sum Z`
unfoldable pub drill_line : ℕ → ℕ → ℕ → ℕ → List ℕ
drill_line tokens turns bytes total =
    codes "tokens " ++ decimal tokens ++ codes " turns " ++ decimal turns ++ codes " bytes " ++ decimal bytes
    ++ codes " sum " ++ decimal total ++ codes "\n"

-- The line on a run that came to its end: the code of the image went this course on no input with
-- 1,000,000 turns, of which it spent these, and printed so many bytes of this sum.
abbrev pub IsRunLine : Image → Winner → ℕ → List ℕ → Type 0
IsRunLine image winner tokens line =
    (course : Course) × IsCourse (new_start image winner) 1000000 course × ((rest : Option (List ℕ)) × Feeds (new_start image winner) course (Some []) rest)
    × (course.end ≡ E.Done)
    × (line ≡ drill_line tokens (1000000 - course.left) (length course.printed % 2 ^ 64) (sum course.printed % 2 ^ 32))

-- The line of the drill of a seed: its text is read as some tokens, which it counts, and the image is
-- one that keeps the image rules and that the compiler makes of the text's program.
abbrev pub IsDrillLine : ℕ → Winner → List ℕ → Type 0
IsDrillLine seed winner line =
    (tokens : List Token) × IsText (drill seed) tokens
    × ((image : Image) × IsSound image × IsImageOf (drill seed) image × IsRunLine image winner (length tokens) line)

-- a sink took the line of the drill of a seed
abbrev pub PutsDrill : {O : Type 0} → (O → List ℕ → Type 0) → O → O → ℕ → Winner → Type 0
PutsDrill agrees old new seed winner =
    (line : List ℕ) × IsDrillLine seed winner line × Takes agrees old new line

-- a sink took the first bytes of such a line
abbrev pub PutsPartOfDrill : {O : Type 0} → (O → List ℕ → Type 0) → O → O → ℕ → Winner → Type 0
PutsPartOfDrill agrees old new seed winner =
    (line : List ℕ) × IsDrillLine seed winner line × TakesPrefix agrees old new line

-- a sink took the line of the drill that the words ask for
abbrev pub DrillTaken : {O : Type 0} → (O → List ℕ → Type 0) → O → O → List (List ℕ) → Type 0
DrillTaken agrees old new words =
    (options : Options) × ReadsWords (rows_in words) options × PutsDrill agrees old new options.seed options.winner

-- a sink took nothing, or the first bytes of it
abbrev pub DrillPartTaken : {O : Type 0} → (O → List ℕ → Type 0) → O → O → List (List ℕ) → Type 0
DrillPartTaken agrees old new words =
    TakesNothing agrees old new
    ⊎ ((options : Options) × ReadsWords (rows_in words) options × PutsPartOfDrill agrees old new options.seed options.winner)
