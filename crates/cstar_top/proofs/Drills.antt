-- What a drill put.
use Rattle.std.proofs.Common.{◌≡◌, ◌∙◌, ℕ, ◌-◌, ◌%◌, ◌^◌, List, [], length, Option, Some, ap, subst, sym}
use Rattle.std.specs.Prelude.{sum}
use Rattle.cstar_base.specs.declared.operators.Winner.{Winner}
use Rattle.cstar_lexer.specs.Reading.{IsText}
use Rattle.cstar_tree.specs.declared.token.Token.{Token}
use Rattle.drill_text.specs.Text.{drill}
use Rattle.paris_code.specs.declared.program.Image.{Image}
use Rattle.paris_code.specs.Sound.{IsSound}
use Rattle.paris_machine.specs.declared.outcome.End.{End}
use Rattle.paris_machine.specs.declared.outcome.End.TheVariants as E
use Rattle.cstar_io.specs.declared.sink.SureSink.{SureSink}
use Rattle.point_runs.specs.Courses.{Course, Feeds, IsCourse}
use Rattle.point_runs.specs.Starts.{new_start}
use Rattle.cstar_top.specs.Accepted.{IsImageOf}
use Rattle.cstar_top.specs.Drills.{IsDrillLine, IsRunLine, drill_line}

-- the line on a run of an image of the drill's text is that of the drill
pub of_text : (seed : ℕ) (winner : Winner) (text : List ℕ) (count : ℕ) (line : List ℕ) → text ≡ drill seed → (tokens : List Token) × IsText text tokens × (count ≡ length tokens) → (image : Image) × IsSound image × IsImageOf text image × IsRunLine image winner count line → IsDrillLine seed winner line
of_text seed winner text count line is read ran = (
  read.0,
  subst (λ (bytes : List ℕ). IsText bytes read.0) is read.1,
  (ran.0, ran.1, subst (λ (bytes : List ℕ). IsImageOf bytes ran.0) is ran.2, subst (λ (n : ℕ). IsRunLine ran.0 winner n line) read.2 ran.3),
)

-- the line on a run that came to its end
pub of_run : (image : Image) (winner : Winner) (tokens turns bytes total : ℕ) (course : Course) (rest : Option (List ℕ)) → IsCourse (new_start image winner) 1000000 course → Feeds (new_start image winner) course (Some []) rest → course.end ≡ E.Done → turns ≡ 1000000 - course.left → length course.printed % 2 ^ 64 ≡ bytes → sum course.printed % 2 ^ 32 ≡ total → IsRunLine image winner tokens (drill_line tokens turns bytes total)
of_run image winner tokens turns bytes total course rest is feeds done spent counted summed =
    let line = ap (λ (n : ℕ). drill_line tokens n bytes total) spent
    ∙ ap (λ (n : ℕ). drill_line tokens (1000000 - course.left) n total) (sym counted)
    ∙ ap (λ (n : ℕ). drill_line tokens (1000000 - course.left) (length course.printed % 2 ^ 64) n) (sym summed) in
    (course, is, (rest, feeds), done, line)

-- the bytes that a sink that counts them may have taken
abbrev pub counts : SureSink → List ℕ → Type 0
counts sink bytes = (length bytes % 2 ^ 64 ≡ sink.count) × (sum bytes % 2 ^ 32 ≡ sink.sum)

-- a run that came to its end did not want memory
pub done_not_memory : (end : End) → end ≡ E.Done → end ≡ E.Memory → ⊥
done_not_memory end done memory = cc
