-- A run of the machine on a program with parallel variables comes to the end of the code, to which the meaning leads too.
use Rattle.std.proofs.Common.{◌≡◌, ◌∙◌, ℕ, ◌+◌, ◌<◌, ◌≤◌, List, length, sym, subst, arith}
use Rattle.cstar_compile.specs.Compiled.{IsCompiled}
use Rattle.cstar_tree.specs.declared.typed.Typed.{Typed}
use Rattle.paris_code.specs.declared.operands.Field.{Field}
use Rattle.paris_code.specs.declared.program.Image.{Image}
use Rattle.paris_code.specs.Code.{Rest, opening}
use Rattle.paris_code.specs.Memory.{BitMemory, SameBits, field_number, processors}
use Rattle.paris_code.specs.Shapes.{SetShape, bits_at, shapes_of}
use Rattle.paris_code.specs.Sound.{IsSound}
use Rattle.point_runs.specs.Starts.{new_start}
use Rattle.source_meaning.specs.Programs.{Run, meaning}
use Rattle.source_meaning.specs.State.{State}
use Rattle.accepted_code.proofs.EveryUnit.{codable}
use Rattle.code_follows.specs.Agreement.{mark_of}
use Rattle.fields_follow.specs.Fields.{file_field}
use Rattle.fields_follow.specs.Laws.{ComesToAll, HasTheNumbers}
use Rattle.fields_follow.proofs.Bits.{run_number_same}
use Rattle.fields_follow.proofs.FileFields.{IsTranslated, file_ends, file_exists, file_set, processors_of, translated}
use Rattle.fields_follow.proofs.Programs.{means_source}
use Rattle.scalar_runs.proofs.Reports.{WentOn, went_on}
use Rattle.scalar_runs.proofs.Runs.{is_run, same_bits}
use Rattle.parallel_runs.specs.Laws.{IsWholeRunOf, ParallelRunsMeanTheirText}
use Rattle.parallel_runs.specs.Reports.{ParallelReportsMeanTheirText}
use Rattle.parallel_runs.proofs.Finals.{report_same}

-- a field of the set's bits has the same number in the same bits
field_same : (shapes : List SetShape) (m n : BitMemory) (f : Field) (p : ℕ) → SameBits shapes m n → f.set < length shapes → f.offset + f.len ≤ bits_at shapes f.set → p < processors shapes f.set → field_number m f p ≡ field_number n f p
unfolding field_number
field_same shapes m n f p same exists ends below =
    run_number_same (m.bit f.set p) (n.bit f.set p) f.offset f.len (λ j inside. same.bits f.set p (f.offset + j) exists below (omega (arith, ends, inside)))

-- so the same bits have the numbers of the same variables
same_numbers : (typed : Typed) (image : Image) → IsCompiled typed image → IsSound image → (st : State) (m n : BitMemory) → SameBits (shapes_of image) m n → HasTheNumbers typed image st n → HasTheNumbers typed image st m
same_numbers typed image compiled sound st m n same has k e set p info is below =
    let made : IsTranslated typed compiled.lowered.words compiled.before compiled.after image = translated typed image compiled sound in
    let exists : set < length (shapes_of image) = file_exists typed compiled.lowered.words compiled.before compiled.after image made k info set e is in
    let of : (file_field typed image k e).set ≡ set = file_set typed compiled.lowered.words compiled.before compiled.after image made k info set e is in
    field_same (shapes_of image) m n (file_field typed image k e) p same (subst (λ (s : ℕ). s < length (shapes_of image)) (sym of) exists)
    (file_ends typed compiled.lowered.words compiled.before compiled.after image made k info set e is)
    (subst (λ (s : ℕ). p < processors (shapes_of image) s) (sym of) (subst (λ (count : ℕ). p < count) (sym (processors_of typed compiled.lowered.words compiled.before compiled.after image made set exists)) below))
    ∙ has k e set p info is below

pub parallel_runs : ParallelRunsMeanTheirText
parallel_runs text typed image is p compiled sound winner input rest turns course are on =
    let run : Run = meaning typed input rest turns winner in
    let given : Rest = record { bytes = input; mark = mark_of rest } in
    let comes : ComesToAll typed image (opening image on.ran.begun turns given) run = means_source typed image p (codable text typed is) compiled sound on.ran.begun input rest turns winner are on.ran.same in
    record {
      as_meant = is_run (new_start image winner) given turns course on run comes.to;
      numbers = same_numbers typed image compiled sound run.final course.memory comes.to.last.memory (same_bits (new_start image winner) given turns course on run comes.to) comes.numbers;
    }

pub parallel_reports : ParallelReportsMeanTheirText
parallel_reports text typed image is p compiled sound options held left course answer are goes feeds answers whole =
    let input : WentOn image options held left course answer = went_on image options held left course answer are goes feeds answers whole in
    let run : Run = meaning typed input.given input.rest options.turns options.winner in
    let same : IsWholeRunOf typed image run course = parallel_runs text typed image is p compiled sound options.winner input.given input.rest options.turns course input.are input.on in
    let told = input.so run same.as_meant in
    (input.given, (input.rest, (told.0, told.1, report_same typed image compiled sound options run course same.as_meant same.numbers, same.numbers)))
