-- Why a listing is refused.
use Rattle.std.proofs.Common.{◌≡◌, ◌≤◌, ℕ, ◌+◌, List, Result, Ok, Err, IfErr, ap, sym, arith, lit≤}
use Rattle.cstar_base.specs.declared.faults.Fault.{Fault}
use Rattle.cstar_base.specs.declared.faults.Fault.TheVariants as F
use Rattle.cstar_base.specs.declared.operators.Place.{Place}
use Rattle.cstar_base.specs.Faults.{number_of}
use Rattle.image_check.specs.declared.fault.Rule.{Rule}
use Rattle.image_check.specs.declared.fault.Rule.TheVariants as R
use Rattle.image_check.specs.Faults.{number_of as rule_number}
use Rattle.paris_code.specs.declared.program.Image.{Image}
use Rattle.point_runs.specs.declared.refusal.NoImage.{NoImage}
use Rattle.point_runs.specs.declared.refusal.NoImage.TheVariants as N
use Rattle.point_runs.specs.Assembled.{BreaksRule, FitsMachine, FitsSets, IsListed, RefusesListing, RefusesPart, RefusesSets}
use Rattle.point_runs.specs.Refusals.{TellsWhy}

-- the rules have the numbers 1 to 6
pub rule_range : (rule : Rule) → (1 ≤ rule_number rule) × (rule_number rule ≤ 6)
rule_range R.Target = (lit≤ tt, lit≤ tt)
rule_range R.Field = (lit≤ tt, lit≤ tt)
rule_range R.Stack = (lit≤ tt, lit≤ tt)
rule_range R.BackEdge = (lit≤ tt, lit≤ tt)
rule_range R.Set = (lit≤ tt, lit≤ tt)
rule_range R.Operands = (lit≤ tt, lit≤ tt)

-- each has a fault, whose number is 40 more
pub rule_fault : (rule : Rule) (number : ℕ) → number ≡ rule_number rule → (fault : Fault) × (number_of fault ≡ 40 + number)
rule_fault R.Target number is = (F.Target, sym (ap (λ n. 40 + n) is))
rule_fault R.Field number is = (F.Field, sym (ap (λ n. 40 + n) is))
rule_fault R.Stack number is = (F.Stack, sym (ap (λ n. 40 + n) is))
rule_fault R.BackEdge number is = (F.BackEdge, sym (ap (λ n. 40 + n) is))
rule_fault R.Set number is = (F.Set, sym (ap (λ n. 40 + n) is))
rule_fault R.Operands number is = (F.Operands, sym (ap (λ n. 40 + n) is))

-- an image that breaks a rule is why its listing is refused
rule_why : (text : List ℕ) (image : Image) (fault : Fault) (place : Place) → IsListed text image → FitsMachine image → BreaksRule image fault place → RefusesListing text fault place
rule_why text image F.TooLong place listed fits breaks = absurd (omega (arith, breaks.1.1))
rule_why text image F.Listing place listed fits breaks = absurd (omega (arith, breaks.1.1, (rule_range breaks.0).0))
rule_why text image F.CodeSpace place listed fits breaks = absurd (omega (arith, breaks.1.1, (rule_range breaks.0).1))
rule_why text image F.Slots place listed fits breaks = absurd (omega (arith, breaks.1.1, (rule_range breaks.0).1))
rule_why text image _ place listed fits breaks = (image, listed, fits, breaks)

pub rules_why : (text : List ℕ) (image : Image) (r : Result Image NoImage) → IsListed text image → FitsMachine image → IfErr r (TellsWhy (BreaksRule image)) → IfErr r (TellsWhy (RefusesListing text))
rules_why text image (Ok sound) listed fits tells = tt
rules_why text image (Err (N.Refused fault place)) listed fits tells = rule_why text image fault place listed fits tells
rules_why text image (Err N.Memory) listed fits tells = tt

-- and why that of a point is
part_why : (text : List ℕ) (image : Image) (fault : Fault) (place : Place) → IsListed text image → FitsSets image → BreaksRule image fault place → RefusesPart text fault place
part_why text image F.Listing place listed fits breaks = absurd (omega (arith, breaks.1.1, (rule_range breaks.0).0))
part_why text image F.CodeSpace place listed fits breaks = absurd (omega (arith, breaks.1.1, (rule_range breaks.0).1))
part_why text image _ place listed fits breaks = (image, listed, fits, breaks)

pub parts_why : (text : List ℕ) (image : Image) (r : Result Image NoImage) → IsListed text image → FitsSets image → IfErr r (TellsWhy (BreaksRule image)) → IfErr r (TellsWhy (RefusesPart text))
parts_why text image (Ok sound) listed fits tells = tt
parts_why text image (Err (N.Refused fault place)) listed fits tells = part_why text image fault place listed fits tells
parts_why text image (Err N.Memory) listed fits tells = tt

-- a text that is no listing, or whose sets ask for too much, is refused by both
pub sets_why : (text : List ℕ) (no_image : NoImage) → TellsWhy (RefusesSets text) no_image → TellsWhy (RefusesListing text) no_image
sets_why text (N.Refused F.Listing place) tells = tells
sets_why text (N.Refused F.CodeSpace place) tells = tells
sets_why text (N.Refused _ place) tells = absurd tells
sets_why text N.Memory tells = tt

pub sets_why_part : (text : List ℕ) (no_image : NoImage) → TellsWhy (RefusesSets text) no_image → TellsWhy (RefusesPart text) no_image
sets_why_part text (N.Refused F.Listing place) tells = tells
sets_why_part text (N.Refused F.CodeSpace place) tells = tells
sets_why_part text (N.Refused _ place) tells = absurd tells
sets_why_part text N.Memory tells = tt
