-- The points at which runs stop, where runs go on from them, and why others are refused.
use Rattle.std.specs.Prelude.{◌≡◌, ◌<◌, ◌≤◌, ◌+◌, ℕ, List, length}
use Rattle.checkpoint.specs.declared.point.Point.{Point}
use Rattle.checkpoint.specs.Bytes.{IsHeld, LeavesAt, bytes_of}
use Rattle.cstar_base.specs.declared.faults.Fault.{Fault}
use Rattle.cstar_base.specs.declared.faults.Fault.TheVariants as F
use Rattle.cstar_base.specs.declared.operators.Place.{Place}
use Rattle.cstar_base.specs.declared.operators.Winner.{Winner}
use Rattle.front_end.specs.declared.kept.Kept.{Kept}
use Rattle.front_end.specs.Kept.{KeptFits}
use Rattle.listed_images.specs.Meaning.{IsListable}
use Rattle.paris_code.specs.declared.instr.Instr.TheVariants as I
use Rattle.paris_code.specs.declared.program.Image.{Image}
use Rattle.paris_code.specs.Listing.{listing}
use Rattle.paris_code.specs.Memory.{BitMemory}
use Rattle.paris_code.specs.Shapes.{shapes_of}
use Rattle.paris_code.specs.Sound.{IsSound}
use Rattle.paris_code.specs.Units.{IsAt}
use Rattle.point_bits.specs.Strings.{AreBits, bits_bytes, restored}
use Rattle.point_runs.specs.Assembled.{FitsSets, IsListed, RefusesPart}
use Rattle.point_runs.specs.Courses.{Course}
use Rattle.point_runs.specs.Refusals.{file_start}
use Rattle.point_runs.specs.Starts.{Origin}

-- the point of a run of an image in this state, with this winner and these bits
abbrev pub point_with : Image → Kept → Winner → BitMemory → Point
point_with image kept winner memory = record {
  winner = winner;
  ended = kept.ended;
  at = kept.at;
  regs = kept.regs;
  returns = kept.returns;
  listing = listing image;
  bits = bits_bytes (shapes_of image) memory;
}

-- the point at which a run stopped
abbrev pub point_at : Origin → Course → Point
point_at from course = point_with from.image course.stopped from.memory.winner course.memory

-- the state of the scalar code in a point
abbrev pub kept_in : Point → Kept
kept_in point =
    record { at = point.at; regs = point.regs; returns = point.returns; ended = point.ended }

-- where a run of an image goes on from a point
abbrev pub start_at : Image → Point → Origin
start_at image point =
    record { image = image; kept = kept_in point; memory = restored (shapes_of image) point.bits point.winner }

-- a run of the image can have stopped in this state, with these bits: the state fits the image, it stands
-- at a turn, and the bits are those of its sets
pub record CanGoOn (image : Image) (kept : Kept) (bits : List ℕ) : Type 0 where
  pub fits : KeptFits image kept
  pub turn : IsAt image kept.at I.FrontTurn
  pub sets : AreBits (shapes_of image) bits

-- an image that is run on from a point has its listing, which determines what its code means, keeps the image
-- rules, and has room in the machine
abbrev pub IsImageOf : Point → Image → Type 0
IsImageOf point image = IsSound image × IsListable image × IsListed point.listing image × FitsSets image

-- the bytes, at most 2^30, are those of a point
pub record IsPointOf (text : List ℕ) (point : Point) : Type 0 where
  pub within : length text ≤ 1073741824
  pub held : IsHeld point
  pub bytes : bytes_of point ≡ text

-- a run goes on from a point
abbrev pub ResumesPoint : Point → Origin → Type 0
ResumesPoint point from =
    IsImageOf point from.image × CanGoOn from.image from.kept point.bits × (from ≡ start_at from.image point)

-- a run goes on from the point whose bytes these are
abbrev pub Resumes : List ℕ → Origin → Type 0
Resumes text from = (point : Point) × IsPointOf text point × ResumesPoint point from

-- why a point is refused: for its listing, or for a state that is none of the image that it lists
abbrev pub RefusesState : Point → Fault → Place → Type 0
RefusesState point F.State place =
    (place ≡ file_start) × ((image : Image) × IsImageOf point image × (CanGoOn image (kept_in point) point.bits → ⊥))
RefusesState point fault place = RefusesPart point.listing fault place

-- why the bytes of a file are refused as a point
abbrev pub RefusesPoint : List ℕ → Fault → Place → Type 0
RefusesPoint text F.TooLong place = (1073741824 < length text) × (place ≡ file_start)
RefusesPoint text F.Point place = (at : ℕ) × LeavesAt text at × (place ≡ record { line = 1; col = at + 1 })
RefusesPoint text fault place = (point : Point) × IsPointOf text point × RefusesState point fault place
