-- Instructions that wait, and what they do one after another.
use Rattle.std.specs.Prelude.{◌≡◌, ℕ, Bool, true, false, ◌+◌, ◌<◌, ◌&&◌, ◌||◌, ◌==◌, nat_lt, nat_le, Option, Some, None, List, [], ◌∷◌, length, All}
use Rattle.cstar_base.specs.Numbers.{number_of}
use Rattle.paris_code.specs.declared.operands.Field.{Field}
use Rattle.paris_code.specs.declared.operands.Konst.TheVariants as K
use Rattle.paris_code.specs.declared.instr.Instr.{Instr}
use Rattle.paris_code.specs.declared.instr.Instr.TheVariants as I
use Rattle.paris_code.specs.declared.program.Reply.TheVariants as R
use Rattle.paris_code.specs.Arguments.{konst_number}
use Rattle.paris_code.specs.Elementwise.{is_elementwise, destination}
use Rattle.paris_code.specs.Fetching.{of_neighbour}
use Rattle.paris_code.specs.Meaning.{after, Means}
use Rattle.paris_code.specs.Memory.{BitMemory}
use Rattle.paris_code.specs.Shapes.{SetShape, extents_at, rank_at}
use Rattle.paris_code.specs.Writes.{written}
use Rattle.phase_meaning.specs.Apply.{CanApply, LiesIn, active_set}
use Rattle.phase_meaning.specs.Gathered.{gathered}
use Rattle.elementwise.specs.Preparing.{IsPrepared}
use Rattle.news_grid.specs.declared.news.News.{News}
use Rattle.news_grid.specs.declared.step.Step.{Step}
use Rattle.news_grid.specs.Steps.{Leads}
use Rattle.instruction_runs.specs.declared.batches.TheConstants.{MOST}
use Rattle.instruction_runs.specs.declared.deferring.Deferred.{Deferred}
use Rattle.instruction_runs.specs.declared.deferring.Work.{Work}
use Rattle.instruction_runs.specs.declared.deferring.Work.TheVariants as W

-- the instructions that can wait: the NEWS shifts, and the elementwise ones, but for the one that owns a list
abbrev pub can_wait : Instr → Bool
can_wait (I.MakeAddress d set coordinates) = false
can_wait (I.GetFromNews d a axis k) = true
can_wait (I.GetFromNewsAlways d a axis k) = true
can_wait instr = is_elementwise instr

-- the instruction that has the values of the registers in their place
abbrev pub with_arguments : Instr → List ℕ → Instr
with_arguments (I.MoveConstant d k) args = I.MoveConstant d (K.Imm (konst_number k args))
with_arguments (I.OperateConstant op d a k) args = I.OperateConstant op d a (K.Imm (konst_number k args))
with_arguments (I.GetFromNews d a axis k) args = I.GetFromNews d a axis (K.Imm (konst_number k args))
with_arguments (I.GetFromNewsAlways d a axis k) args = I.GetFromNewsAlways d a axis (K.Imm (konst_number k args))
with_arguments instr args = instr

-- the memory behind instructions that are done one after another
abbrev pub done_all : List SetShape → List Deferred → BitMemory → BitMemory
done_all shapes [] m = m
done_all shapes (d ∷ rest) m = done_all shapes rest (after shapes d.instr [] m)

-- the set whose positions do an instruction that can wait
abbrev pub working_set : Instr → ℕ
working_set (I.GetFromNews d a axis k) = d.set
working_set (I.GetFromNewsAlways d a axis k) = d.set
working_set instr = active_set instr

-- the NEWS shift that an instruction is that reads no register; none of another
abbrev pub news_of : Instr → Option News
news_of (I.GetFromNews d a axis k) = Some (record { dest = d; source = a; axis = axis; by = konst_number k []; always = false })
news_of (I.GetFromNewsAlways d a axis k) = Some (record { dest = d; source = a; axis = axis; by = konst_number k []; always = true })
news_of _ = None

abbrev pub set_of_work : Work → ℕ
set_of_work (W.Elementwise prepared) = prepared.to.run.set
set_of_work (W.Shift news step) = news.dest.set

abbrev pub set_of : Deferred → ℕ
set_of d = set_of_work d.work

-- the field that an instruction writes that can wait; none where it writes a flag of its set
abbrev pub field_written : Instr → Option Field
field_written (I.GetFromNews d a axis k) = Some d
field_written (I.GetFromNewsAlways d a axis k) = Some d
field_written (I.Compare relation a b) = None
field_written (I.EqZero a) = None
field_written (I.NeZero a) = None
field_written (I.LoadTest a) = None
field_written (I.LoadContext a) = None
field_written (I.SetContext set) = None
field_written (I.LogandContextWithTest set) = None
field_written (I.LogandcContextWithTest set) = None
field_written instr = Some (destination [] instr)

-- the field from which a shift takes; none of another instruction
abbrev pub source_of_work : Work → Option Field
source_of_work (W.Elementwise prepared) = None
source_of_work (W.Shift news step) = Some news.source

abbrev pub source_of : Deferred → Option Field
source_of d = source_of_work d.work

-- the instruction is a shift by a step that leads where it says
pub record IsShiftOf (shapes : List SetShape) (instr : Instr) (news : News) (step : Step) : Type 0 where
  pub dest : LiesIn shapes news.dest
  pub source : LiesIn shapes news.source
  pub together : news.dest.set ≡ news.source.set
  pub lens : news.source.len ≡ news.dest.len
  pub axis : news.axis < rank_at shapes news.dest.set
  pub leads : Leads (extents_at shapes news.dest.set) news.axis (number_of 32 true news.by) step
  pub writes : field_written instr ≡ Some news.dest
  pub set : news.dest.set ≡ working_set instr
  pub means : (m : BitMemory) → after shapes instr [] m ≡ written (gathered shapes m news.dest news.always (of_neighbour shapes m news.source news.axis news.by)) m

-- what was found of an instruction that reads no register
abbrev pub IsWorkOf : List SetShape → Instr → Work → Type 0
IsWorkOf shapes instr (W.Elementwise prepared) = IsPrepared shapes instr [] prepared
IsWorkOf shapes instr (W.Shift news step) = IsShiftOf shapes instr news step

-- an instruction that reads no register, and what was found of it
pub record IsReady (shapes : List SetShape) (d : Deferred) : Type 0 where
  pub can : CanApply shapes d.instr []
  pub work : IsWorkOf shapes d.instr d.work
  pub writes : d.writes ≡ field_written d.instr

-- it is ready, and to do it is to do the instruction with these arguments
pub record IsDeferral (shapes : List SetShape) (instr : Instr) (args : List ℕ) (d : Deferred) : Type 0 where
  pub waits : can_wait instr ≡ true
  pub ready : IsReady shapes d
  pub set : set_of d ≡ working_set instr
  pub means : (m : BitMemory) → Means shapes instr args m (after shapes d.instr [] m) R.Nothing

-- what is written leaves a field as it is
abbrev pub leaves : Option Field → Field → Bool
leaves None source = true
leaves (Some f) source = nat_le (f.offset + f.len) source.offset || nat_le (source.offset + source.len) f.offset

-- and what is taken is this field
abbrev pub shares : Option Field → Field → Bool
shares None source = true
shares (Some f) source = f.offset == source.offset && f.len == source.len

-- a shift can wait behind an instruction that does not write its source, and that is no shift from another field: all shifts
-- that wait take what one field was when the first instruction began. Any other can wait behind each.
abbrev pub lets : Deferred → Option Field → Bool
lets d None = true
lets d (Some source) = leaves d.writes source && shares (source_of d) source

abbrev pub all_let : List Deferred → Option Field → Bool
all_let [] source = true
all_let (d ∷ rest) source = lets d source && all_let rest source

-- each can wait behind those before it
abbrev pub AreInTurn : List Deferred → Type 0
AreInTurn [] = Unit {0}
AreInTurn (d ∷ rest) = All (λ e. lets d (source_of e) ≡ true) rest × AreInTurn rest

-- all are ready, of this set, and in turn
pub record AreReady (shapes : List SetShape) (set : ℕ) (ds : List Deferred) : Type 0 where
  pub each : All (λ d. IsReady shapes d × (set_of d ≡ set)) ds
  pub turns : AreInTurn ds

-- one more can wait behind those of this set: there is room, it is of the set, or the first, and they let it
abbrev pub takes : ℕ → List Deferred → Deferred → Bool
takes set ds d = nat_lt (length ds) MOST && ((length ds == 0 || set == set_of d) && all_let ds (source_of d))

-- the field from which those that wait take, if any does
abbrev pub or_source : Option Field → Option Field → Option Field
or_source None later = later
or_source (Some f) later = Some f

abbrev pub source_of_all : List Deferred → Option Field
source_of_all [] = None
source_of_all (d ∷ rest) = or_source (source_of d) (source_of_all rest)
