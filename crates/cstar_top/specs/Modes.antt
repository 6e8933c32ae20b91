-- What the words of the command say of its file and its run.
use Rattle.std.specs.Prelude.{◌≡◌, ℕ, Bool, true, false, List, [], Option, Some, codes, unwrap_or}
use Rattle.cstar_words.specs.declared.options.Mode.{Mode}
use Rattle.cstar_words.specs.declared.options.Mode.TheVariants as M
use Rattle.cstar_words.specs.Reading.{file_in, given, mode_in, rows_in, turns_in}

-- the name that the command's line tells; nothing where the words name none
abbrev pub named : List (List ℕ) → List ℕ
named words = unwrap_or (file_in (rows_in words)) []

-- the name under which a run that stops is saved, where the words have one
abbrev pub saved_name : List (List ℕ) → Option (List ℕ)
saved_name words = given (codes "save") (rows_in words)

-- the words ask for this mode
abbrev pub AsksFor : Mode → List (List ℕ) → Type 0
AsksFor mode words = mode_in (rows_in words) ≡ Some mode

-- modes whose commands leave the input unread
abbrev pub leaves_input : Mode → Bool
leaves_input M.List = true
leaves_input M.Check = true
leaves_input M.Drill = true
leaves_input _ = false

-- the words ask for a mode that leaves the input unread
abbrev pub LeavesInput : List (List ℕ) → Type 0
LeavesInput words = (mode : Mode) × AsksFor mode words × (leaves_input mode ≡ true)

-- modes that run an image of a file: of a program, of a listing, or of a point
abbrev pub runs_image : Mode → Bool
runs_image M.Run = true
runs_image M.Asm = true
runs_image M.Resume = true
runs_image _ = false

-- modes that run an image, of a file or of a drill
abbrev pub runs_code : Mode → Bool
runs_code M.Drill = true
runs_code mode = runs_image mode

-- modes that read a file: a drill makes its own text
abbrev pub reads_file : Mode → Bool
reads_file M.Drill = false
reads_file _ = true

-- the greatest length of a file: 2^30 bytes of a point, 2^20 of a program or a listing
abbrev pub limit_of : Mode → ℕ
limit_of M.Resume = 1073741824
limit_of _ = 1048576

-- the turns of a run: a drill has its own
abbrev pub budget : Mode → ℕ → ℕ
budget M.Drill turns = 1000000
budget mode turns = turns

-- the turns that a run in this mode may spend, as the words have them
abbrev pub budget_in : Mode → List (List ℕ) → ℕ
budget_in mode words = budget mode (unwrap_or (turns_in (rows_in words)) 0)
