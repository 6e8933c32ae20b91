-- What one instruction of the machine's phases means: from the memory and the values of the
-- registers that it reads, the next memory and the reply. All reads are of the memory before.
use Rattle.std.specs.Prelude.{◌≡◌, ℕ, Bool, true, false, List, drop, slice_index, Option, Some, None}
use Rattle.paris_code.specs.declared.instr.Instr.{Instr}
use Rattle.paris_code.specs.declared.instr.Instr.TheVariants as I
use Rattle.paris_code.specs.declared.program.Reply.{Reply}
use Rattle.paris_code.specs.declared.program.Reply.TheVariants as R
use Rattle.paris_code.specs.Arguments.{konst_number}
use Rattle.paris_code.specs.Checking.{least_failing}
use Rattle.paris_code.specs.Elementwise.{is_elementwise, elementwise}
use Rattle.paris_code.specs.Fetching.{at_active, at_all, at_one, of_neighbour, of_named, word_of_one, global_fold}
use Rattle.paris_code.specs.Memory.{BitMemory, SameBits}
use Rattle.paris_code.specs.Scanning.{ScanOf, scanned}
use Rattle.paris_code.specs.Sending.{overwriting, combining}
use Rattle.paris_code.specs.Shapes.{SetShape}
use Rattle.paris_code.specs.Writes.{Write, written_if}

-- what an instruction writes, if anything
abbrev pub some_if : Bool → Write → Option Write
some_if true w = Some w
some_if false w = None

abbrev pub write_of : List SetShape → Instr → List ℕ → BitMemory → Option Write
write_of shapes (I.GetFromNews d a axis k) args m = Some (at_active shapes m d (λ p. of_neighbour shapes m a axis (konst_number k args) p))
write_of shapes (I.GetFromNewsAlways d a axis k) args m = Some (at_all d (λ p. of_neighbour shapes m a axis (konst_number k args) p))
write_of shapes (I.Get d address a) args m = Some (at_active shapes m d (λ p. of_named shapes m address a p))
write_of shapes (I.SendWithOverwrite d kind address a) args m = Some (overwriting shapes m d address a)
write_of shapes (I.SendWithCombiner c d kind address a) args m = Some (combining shapes m c d kind address a)
write_of shapes (I.Scan c d a axis direction mode bit inclusion) args m =
    let scan : ScanOf = record { combiner = c; source = a; axis = axis; direction = direction; mode = mode; bit = bit; inclusion = inclusion } in
    Some (at_active shapes m d (λ p. scanned shapes m scan p))
write_of shapes (I.WriteToProcessor d processor k) args m = Some (at_one d (slice_index args 0) (konst_number k (drop 1 args)))
write_of shapes instr args m = some_if (is_elementwise instr) (elementwise shapes instr args m)

abbrev pub bad_or_nothing : Option ℕ → Reply
bad_or_nothing None = R.Nothing
bad_or_nothing (Some position) = R.Bad position

abbrev pub reply_of : List SetShape → Instr → List ℕ → BitMemory → Reply
reply_of shapes (I.Global c r a) args m = R.Value (global_fold shapes m c a)
reply_of shapes (I.ReadFromProcessor signed r processor a) args m = R.Value (word_of_one shapes m signed a (slice_index args 0))
reply_of shapes (I.CheckTarget set place coordinates) args m = bad_or_nothing (least_failing shapes (I.CheckTarget set place coordinates) args m)
reply_of shapes (I.CheckGrid set place steps) args m = bad_or_nothing (least_failing shapes (I.CheckGrid set place steps) args m)
reply_of shapes (I.CheckDivisor place a) args m = bad_or_nothing (least_failing shapes (I.CheckDivisor place a) args m)
reply_of shapes _ args m = R.Nothing

-- the memory behind an instruction
unfoldable pub after : List SetShape → Instr → List ℕ → BitMemory → BitMemory
after shapes instr args m = written_if (write_of shapes instr args m) m

-- A reply and the next memory are the meaning's; want of memory leaves every bit as it was.
abbrev pub Means : List SetShape → Instr → List ℕ → BitMemory → BitMemory → Reply → Type 0
Means shapes instr args old new R.Memory = SameBits shapes new old
Means shapes instr args old new reply =
    (reply ≡ reply_of shapes instr args old) × SameBits shapes new (after shapes instr args old)
