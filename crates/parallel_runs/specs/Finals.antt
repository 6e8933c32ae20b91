-- The text of the final values that a text means.
use Rattle.std.specs.Prelude.{ℕ, pos, ◌+◌, ◌||◌, List, [], ◌∷◌, ◌++◌, Some, None, flat_map, codes}
use Rattle.std.specs.Fmt.{signed_decimal}
use Rattle.std.specs.List.{concat, range_with_len}
use Rattle.cstar_base.specs.Numbers.{number_of, residue}
use Rattle.cstar_top.specs.Courses.{closing, steps_line, where_asked}
use Rattle.cstar_tree.specs.declared.typed.Typed.{Typed}
use Rattle.cstar_tree.specs.declared.typed.VarInfo.{VarInfo}
use Rattle.cstar_tree.specs.declared.typed.Variable.TheVariants as V
use Rattle.cstar_words.specs.declared.options.Options.{Options}
use Rattle.lower_base.specs.Layouts.{entries_of}
use Rattle.lower_stmt.specs.Programs.{final_name_of}
use Rattle.paris_code.specs.declared.program.Image.{Image}
use Rattle.paris_code.specs.Listing.{listing}
use Rattle.source_meaning.specs.Programs.{Run}
use Rattle.source_meaning.specs.State.{State}
use Rattle.fields_follow.specs.Fields.{positions_of}
use Rattle.scalar_runs.specs.Laws.{told_end}

-- a space and the number of an element of a variable at a position, read as its type
abbrev pub meant_value : State → ℕ → VarInfo → ℕ → ℕ → List ℕ
meant_value st k info e p = codes " " ++ signed_decimal (number_of info.elem.bits info.elem.signed (residue info.elem.bits (pos (st.parallel (V.File k) e p))))

-- an element's line: `NAME: V V ..`, with the numbers at all positions in order
abbrev pub meant_line : Typed → State → ℕ → VarInfo → ℕ → ℕ → List ℕ
meant_line t st k info set e =
    concat (final_name_of info e ∷ codes ":" ∷ flat_map (meant_value st k info e) (range_with_len 0 (positions_of t set)) ∷ codes "\n" ∷ [])

-- the lines of a variable, which has some where it is parallel
unfoldable pub variable_lines : Typed → State → ℕ → VarInfo → List ℕ
variable_lines t st k info = elim info.shape [ None ↦ [] | Some set ↦ flat_map (meant_line t st k info set) (range_with_len 0 (entries_of info)) ]

-- the lines of the variables of the file from a number on
unfoldable pub lines_from : Typed → State → ℕ → List VarInfo → List ℕ
lines_from t st k [] = []
lines_from t st k (info ∷ infos) = variable_lines t st k info ++ lines_from t st (k + 1) infos

abbrev pub meant_finals : Typed → State → List ℕ
meant_finals t st = lines_from t st 0 t.vars.items

-- The report that the text means: the listing that is asked for, what the run prints, and behind an end, a fault or the
-- last turn a newline, the final values and the number of instructions that are asked for. Of that number the text says
-- nothing.
abbrev pub meant_report : Options → Image → Typed → Run → ℕ → List ℕ
meant_report options image t run steps =
    where_asked options.listing (listing image)
    ++ (run.final.output ++ closing (told_end run.end) (
    where_asked (options.finals || options.listing) (codes "\n")
    ++ (where_asked options.finals (meant_finals t run.final) ++ where_asked options.listing (steps_line steps))))
