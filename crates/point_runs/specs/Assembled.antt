-- Listings that are run, and why others are refused.
use Rattle.std.specs.Prelude.{◌≡◌, ◌<◌, ◌≤◌, ◌+◌, ◌*◌, ℕ, ◌⊎◌, List, length, max, min, sum_by, if◌then◌else◌}
use Rattle.cstar_base.specs.declared.faults.Fault.{Fault}
use Rattle.cstar_base.specs.declared.faults.Fault.TheVariants as F
use Rattle.cstar_base.specs.declared.operators.Place.{Place}
use Rattle.cstar_base.specs.Faults.{number_of}
use Rattle.image_check.specs.declared.fault.Rule.{Rule}
use Rattle.image_check.specs.Faults.{IsAnswer, number_of as rule_number}
use Rattle.paris_code.specs.declared.program.Image.{Image}
use Rattle.paris_code.specs.declared.program.ShapeBits.{ShapeBits}
use Rattle.paris_code.specs.Listing.{listing}
use Rattle.vp_sets.specs.Blocks.{block_count, block_size}
use Rattle.vp_sets.specs.Positions.{is_geometry}
use Rattle.point_runs.specs.Refusals.{file_start}

-- the bits that a set takes by whole blocks, two for a position at least; extents that are no grid take none
unfoldable pub bits_of_set : ShapeBits → ℕ
bits_of_set shape =
    if is_geometry shape.extents.items then max shape.bits 2 * block_size * block_count shape.extents.items else 0

-- the bits that all sets of an image take
abbrev pub bits_of_sets : List ShapeBits → ℕ
bits_of_sets shapes = sum_by bits_of_set shapes

-- the sets of an image ask for no more than the 2^30 bits of the machine
abbrev pub FitsSets : Image → Type 0
FitsSets image = bits_of_sets image.shapes.items ≤ 1073741824

-- and the image for no more than 2^26 registers and open calls
pub record FitsMachine (image : Image) : Type 0 where
  pub sets : FitsSets image
  pub slots : image.slots ≤ 67108864
  pub depth : image.depth ≤ 67108864

-- the line of an instruction in the listing of its image, behind the two of its head and those of its parts
abbrev pub line_in : Image → ℕ → ℕ
line_in image at =
    min (at + 3 + length image.shapes.items + length image.finals.items + length image.units.items) 4294967295

-- the first rule that an image breaks is told by its number behind 40, at the line of the instruction that breaks it
abbrev pub BreaksRule : Image → Fault → Place → Type 0
BreaksRule image fault place =
    (rule : Rule) × ((at : ℕ) × (number_of fault ≡ 40 + rule_number rule) × IsAnswer image rule at × (place ≡ record { line = line_in image at; col = 1 }))

-- an image with this listing
abbrev pub IsListed : List ℕ → Image → Type 0
IsListed text image = listing image ≡ text

-- a text is no listing, or lists sets that ask for more than the machine has
abbrev pub RefusesSets : List ℕ → Fault → Place → Type 0
RefusesSets text F.Listing place = place.col ≡ 1
RefusesSets text F.CodeSpace place =
    (place ≡ file_start) × ((image : Image) × IsListed text image × (1073741824 < bits_of_sets image.shapes.items))
RefusesSets text fault place = ⊥

-- why the listing of a point is refused: with this fault, at this place
abbrev pub RefusesPart : List ℕ → Fault → Place → Type 0
RefusesPart text F.Listing place = RefusesSets text F.Listing place
RefusesPart text F.CodeSpace place = RefusesSets text F.CodeSpace place
RefusesPart text fault place = (image : Image) × IsListed text image × FitsSets image × BreaksRule image fault place

-- why a listing is refused
abbrev pub RefusesListing : List ℕ → Fault → Place → Type 0
RefusesListing text F.TooLong place = (1048576 < length text) × (place ≡ file_start)
RefusesListing text F.Listing place = RefusesSets text F.Listing place
RefusesListing text F.CodeSpace place = RefusesSets text F.CodeSpace place
RefusesListing text F.Slots place =
    (place ≡ file_start) × ((image : Image) × IsListed text image × FitsSets image × ((67108864 < image.slots) ⊎ (67108864 < image.depth)))
RefusesListing text fault place = (image : Image) × IsListed text image × FitsMachine image × BreaksRule image fault place
