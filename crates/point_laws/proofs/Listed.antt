-- A run of an image is one of each image whose code means the same.
use Rattle.std.proofs.Common.{◌≡◌, ◌∙◌, ℕ, Bool, true, List, [], Some, sym, subst, ap, refl}
use Rattle.checkpoint.specs.declared.point.Point.{Point}
use Rattle.checkpoint.proofs.Same.{bytes_determine}
use Rattle.front_end.specs.declared.kept.Kept.{Kept}
use Rattle.listed_images.specs.Meaning.{MeansSame}
use Rattle.listed_images.proofs.SameCode.{same_meaning}
use Rattle.lower_base.specs.Drafts.{step as step_of}
use Rattle.lower_base.specs.Drafts.Step.{Plain}
use Rattle.paris_code.specs.declared.instr.Instr.{Instr}
use Rattle.paris_code.specs.declared.instr.Instr.TheVariants as I
use Rattle.paris_code.specs.declared.program.Image.{Image}
use Rattle.paris_code.specs.Code.{CodeState, Done, Ends, Fault, Goes, InputBroken, Next, Rest, Stopped, step}
use Rattle.paris_code.specs.Memory.{BitMemory, SameBits}
use Rattle.paris_code.specs.Shapes.{SetShape, shapes_of}
use Rattle.paris_machine.specs.declared.outcome.End.{End as RunEnd}
use Rattle.paris_machine.specs.declared.outcome.End.TheVariants as E
use Rattle.paris_machine.specs.Runs.{ComesTo, IsAtSend, Runs, SameNext, StaysOver, before, kept_state}
use Rattle.phase_meaning.specs.Apply.{is_send}
use Rattle.point_bits.specs.Strings.{restored}
use Rattle.point_runs.specs.Courses.{Course, IsCourse}
use Rattle.point_runs.specs.Points.{Resumes, kept_in, point_at, start_at}
use Rattle.point_runs.specs.Starts.{Origin}
use Rattle.point_laws.specs.Joined.{Keeps}

-- a send has no list
send_plain : (instr : Instr) → is_send instr ≡ true → step_of instr ≡ Plain instr
unfolding step_of
send_plain (I.SendWithOverwrite d kind address a) is = refl
send_plain (I.SendWithCombiner combiner d kind address a) is = refl
send_plain _ is = cc

module _ (one other : Image) (same : MeansSame one other) where
  next_same : (s : CodeState) (x : Next) → SameNext (shapes_of one) (step one s) x → SameNext (shapes_of other) (step other s) x
  next_same s x leads =
      subst (λ (shapes : List SetShape). SameNext shapes (step other s) x) same.sets (subst (λ (next : Next). SameNext (shapes_of one) next x) (same.step s) leads)

  sends_same : (s : CodeState) → IsAtSend one s → IsAtSend other s
  sends_same s (instr, at, is) = (instr, same.same s.at instr (send_plain instr is) at, is)

  comes_same : (s : CodeState) (end : RunEnd) (t : CodeState) → ComesTo one s (Some end) t → ComesTo other s (Some end) t
  comes_same s E.Done t comes = next_same s (Ends Done t) comes
  comes_same s (E.Fault kind place position) t (fault, is, comes) = (fault, is, next_same s (Ends (Fault fault place position) t) comes)
  comes_same s E.Stopped t comes = next_same s (Ends Stopped t) comes
  comes_same s E.InputBroken t comes = next_same s (Ends InputBroken t) comes
  comes_same s E.OutputBroken t comes = next_same s (Goes t) comes
  comes_same s E.Memory t (at, printed) = (sends_same s at, printed)

  runs_same : (from : Rest → CodeState) (end : RunEnd) (steps : ℕ) (to : Rest → CodeState) (ended : Bool) (taken : List ℕ) → Runs one from end steps to ended taken → Runs other from end steps to ended taken
  runs_same from end steps to ended taken runs later left =
      let run = runs later left in
      (run.0, run.1, (run.2.0, sym (same.code run.0 (from (before taken later))) ∙ run.2.1, comes_same run.2.0 end (to later) run.2.2))

-- a course from where one begins is one from where the other does, with the same state and the same bits
pub course_same : (from to : Origin) (turns : ℕ) (course : Course) → MeansSame from.image to.image → from.kept ≡ to.kept → from.memory ≡ to.memory → IsCourse from turns course → IsCourse to turns course
course_same from to turns course same kept memory ran = record {
  begun = ran.begun;
  same = subst (λ (m : BitMemory). SameBits (shapes_of to.image) ran.begun m) memory (subst (λ (shapes : List SetShape). SameBits shapes ran.begun from.memory) same.sets ran.same);
  ran =
      subst
      (λ (state : Kept). Runs to.image (λ rest. kept_state state turns ran.begun rest []) course.end course.steps (λ rest. kept_state course.stopped course.left course.memory rest course.printed) course.stopped.ended course.taken)
      kept
      (runs_same from.image to.image same (λ rest. kept_state from.kept turns ran.begun rest []) course.end course.steps (λ rest. kept_state course.stopped course.left course.memory rest course.printed) course.stopped.ended course.taken ran.ran);
  over = subst (λ (state : Kept). StaysOver state.ended (Some course.end) course.stopped.ended course.taken) kept ran.over;
}

-- a run that goes on where the bytes say goes on from the point of whatever run they keep
pub from_kept : (bytes : List ℕ) (from : Origin) (turns : ℕ) (first : Course) (to : Origin) (more : ℕ) (second : Course) → Keeps bytes from turns first → Resumes bytes to → IsCourse to more second
    → IsCourse (start_at from.image (point_at from first)) more second
from_kept bytes from turns first to more second keeps (point, is, (image, goes, starts)) ran =
    let same : point ≡ point_at from first = bytes_determine point (point_at from first) is.held keeps.held (is.bytes ∙ sym keeps.are) in
    let means : MeansSame to.image from.image = same_meaning to.image from.image image.1 keeps.origin.listable (image.2 ∙ ap (λ (p : Point). p.listing) same) in
    course_same to (start_at from.image (point_at from first)) more second means
    (ap (λ (o : Origin). o.kept) starts ∙ ap kept_in same)
    (ap (λ (o : Origin). o.memory) starts ∙ ap (λ (shapes : List SetShape). restored shapes point.bits point.winner) means.sets
    ∙ ap (λ (p : Point). restored (shapes_of from.image) p.bits p.winner) same)
    ran
