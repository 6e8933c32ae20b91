-- What mark a punctuator of three bytes, of two and of one is.
use Rattle.std.specs.Prelude.{ℕ, ◌==◌, ◌&&◌, if◌then◌else◌, Option, Some, None}
use Rattle.cstar_tree.specs.declared.token.Mark.{Mark}
use Rattle.cstar_tree.specs.declared.token.Mark.TheVariants as M

unfoldable pub mark_of_three : ℕ → ℕ → ℕ → Option Mark
mark_of_three first second third =
    if first == 37 && second == 37 && third == 61 then Some M.PercentPercentEqual else (
    if first == 60 && second == 60 && third == 61 then Some M.ShiftLeftEqual else (
    if first == 62 && second == 62 && third == 61 then Some M.ShiftRightEqual else (
    if first == 60 && second == 63 && third == 61 then Some M.LessQuestionEqual else (
    if first == 62 && second == 63 && third == 61 then Some M.GreaterQuestionEqual else (
    None)))))

unfoldable pub mark_of_two : ℕ → ℕ → Option Mark
mark_of_two first second =
    if first == 37 && second == 37 then Some M.PercentPercent else (
    if first == 60 && second == 61 then Some M.LessEqual else (
    if first == 62 && second == 61 then Some M.GreaterEqual else (
    if first == 61 && second == 61 then Some M.EqualEqual else (
    if first == 33 && second == 61 then Some M.NotEqual else (
    if first == 60 && second == 60 then Some M.ShiftLeft else (
    if first == 62 && second == 62 then Some M.ShiftRight else (
    if first == 60 && second == 63 then Some M.LessQuestion else (
    if first == 62 && second == 63 then Some M.GreaterQuestion else (
    if first == 38 && second == 38 then Some M.AndAnd else (
    if first == 124 && second == 124 then Some M.OrOr else (
    if first == 43 && second == 43 then Some M.PlusPlus else (
    if first == 45 && second == 45 then Some M.MinusMinus else (
    if first == 43 && second == 61 then Some M.PlusEqual else (
    if first == 45 && second == 61 then Some M.MinusEqual else (
    if first == 42 && second == 61 then Some M.StarEqual else (
    if first == 47 && second == 61 then Some M.SlashEqual else (
    if first == 37 && second == 61 then Some M.PercentEqual else (
    if first == 38 && second == 61 then Some M.AmpersandEqual else (
    if first == 124 && second == 61 then Some M.PipeEqual else (
    if first == 94 && second == 61 then Some M.CaretEqual else (
    None)))))))))))))))))))))

unfoldable pub mark_of_one : ℕ → Option Mark
mark_of_one first =
    if first == 123 then Some M.LeftBrace else (
    if first == 125 then Some M.RightBrace else (
    if first == 40 then Some M.LeftParen else (
    if first == 41 then Some M.RightParen else (
    if first == 91 then Some M.LeftBracket else (
    if first == 93 then Some M.RightBracket else (
    if first == 59 then Some M.Semicolon else (
    if first == 44 then Some M.Comma else (
    if first == 58 then Some M.Colon else (
    if first == 63 then Some M.Question else (
    if first == 46 then Some M.Dot else (
    if first == 43 then Some M.Plus else (
    if first == 45 then Some M.Minus else (
    if first == 42 then Some M.Star else (
    if first == 47 then Some M.Slash else (
    if first == 37 then Some M.Percent else (
    if first == 38 then Some M.Ampersand else (
    if first == 124 then Some M.Pipe else (
    if first == 94 then Some M.Caret else (
    if first == 126 then Some M.Tilde else (
    if first == 33 then Some M.Exclamation else (
    if first == 60 then Some M.Less else (
    if first == 62 then Some M.Greater else (
    if first == 61 then Some M.Equal else (
    None))))))))))))))))))))))))
