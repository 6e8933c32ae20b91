-- The states of points, and why points are refused.
use Rattle.std.proofs.Common.{◌∙◌, ◌<◌, ◌≤◌, ◌+◌, ℕ, suc, List, [], ◌∷◌, length, length-append, ◌++◌, codes, sym, subst, arith, Result, Ok, Err, IfErr}
use Rattle.checkpoint.specs.declared.point.Point.{Point}
use Rattle.checkpoint.specs.Bytes.{bytes_of, counted, flag_byte, four_bytes, measured, winner_byte}
use Rattle.checkpoint.proofs.Reading.{measured_length}
use Rattle.cstar_base.specs.declared.faults.Fault.{Fault}
use Rattle.cstar_base.specs.declared.faults.Fault.TheVariants as F
use Rattle.cstar_base.specs.declared.operators.Place.{Place}
use Rattle.front_end.specs.Fit.{IsChain}
use Rattle.paris_code.specs.declared.instr.Instr.TheVariants as I
use Rattle.paris_code.specs.declared.program.Image.{Image}
use Rattle.paris_code.specs.Sound.{IsSound}
use Rattle.paris_code.specs.Units.{Path, unit_of}
use Rattle.point_runs.specs.declared.refusal.NoImage.{NoImage}
use Rattle.point_runs.specs.declared.refusal.NoImage.TheVariants as N
use Rattle.point_runs.specs.Assembled.{RefusesPart}
use Rattle.point_runs.specs.Points.{IsPointOf, RefusesPoint, RefusesState}
use Rattle.point_runs.specs.Refusals.{TellsWhy}
use Rattle.point_runs.proofs.Refusing.{rule_range}

-- no more calls are open than the image says
pub few_calls : (image : Image) (unit calls : ℕ) (places : List ℕ) (at : ℕ) → IsSound image → calls ≤ image.depth → Path image calls 0 unit → IsChain image unit places at → calls + length places ≤ image.depth
few_calls image unit calls [] at sound few path chain = omega arith
few_calls image unit calls (place ∷ places) at sound few path chain =
    let behind = chain.1.1 in
    let here : Path image calls 0 (unit_of image behind.0) = subst (λ (u : ℕ). Path image calls 0 u) (sym chain.0 ∙ behind.3.1) path in
    let room : calls < image.depth = (sound.each behind.0 (I.FrontCall chain.1.0) behind.2).stack.1 calls here in
    let more : suc calls + length places ≤ image.depth = few_calls image chain.1.0 (suc calls) places at sound (omega arith) (behind.0, behind.2, here) chain.1.2 in
    omega arith

-- the listing of a point is no longer than its bytes
pub listing_within : (point : Point) → length point.listing ≤ length (bytes_of point)
unfolding bytes_of
listing_within point =
    let last = measured point.listing ++ measured point.bits in
    let lists = counted point.regs ++ (counted point.returns ++ last) in
    omega (
      arith,
      length-append (codes "PARISCP1") (winner_byte point.winner ∷ flag_byte point.ended ∷ (four_bytes point.at ++ lists)),
      length-append (four_bytes point.at) lists,
      length-append (counted point.regs) (counted point.returns ++ last),
      length-append (counted point.returns) last,
      length-append (measured point.listing) (measured point.bits),
      measured_length point.listing,
    )

-- what refuses the listing of a point refuses the point
part_state : (point : Point) (fault : Fault) (place : Place) → RefusesPart point.listing fault place → RefusesState point fault place
part_state point F.State place why = absurd (omega (arith, why.3.1.1, (rule_range why.3.0).1))
part_state point _ place why = why

pub part_states : (point : Point) (no_image : NoImage) → TellsWhy (RefusesPart point.listing) no_image → TellsWhy (RefusesState point) no_image
part_states point (N.Refused fault place) tells = part_state point fault place tells
part_states point N.Memory tells = tt

-- and what refuses the state of the point whose bytes these are refuses the bytes
state_point : (text : List ℕ) (point : Point) (fault : Fault) (place : Place) → IsPointOf text point → RefusesState point fault place → RefusesPoint text fault place
state_point text point F.TooLong place is why = absurd (omega (arith, why.3.1.1, (rule_range why.3.0).0))
state_point text point F.Point place is why = absurd (omega (arith, why.3.1.1, (rule_range why.3.0).1))
state_point text point _ place is why = (point, is, why)

pub state_points : (text : List ℕ) (point : Point) (no_image : NoImage) → IsPointOf text point → TellsWhy (RefusesState point) no_image → TellsWhy (RefusesPoint text) no_image
state_points text point (N.Refused fault place) is tells = state_point text point fault place is tells
state_points text point N.Memory is tells = tt

pub state_points_in : {A : Type 0} (text : List ℕ) (point : Point) (r : Result A NoImage) → IsPointOf text point → IfErr r (TellsWhy (RefusesState point)) → IfErr r (TellsWhy (RefusesPoint text))
state_points_in text point (Ok start) is tells = tt
state_points_in text point (Err no_image) is tells = state_points text point no_image is tells
