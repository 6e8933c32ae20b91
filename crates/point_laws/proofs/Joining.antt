-- The run with the sum of the turns.
use Rattle.std.proofs.Common.{◌≡◌, ◌∙◌, ◌≤◌, ◌+◌, ◌-◌, ℕ, Bool, true, false, List, [], ◌++◌, Some, refl, sym, subst, ap, arith}
use Rattle.cstar_base.specs.declared.operators.Winner.{Winner}
use Rattle.paris_code.specs.Code.{CodeState, End, Ends, Goes, Next, Reached, Rest, Stopped, step}
use Rattle.paris_code.specs.Shapes.{SetShape, shapes_of}
use Rattle.paris_code.specs.Sound.{IsSound}
use Rattle.paris_machine.specs.declared.outcome.End.{End as RunEnd}
use Rattle.paris_machine.specs.declared.outcome.End.TheVariants as E
use Rattle.paris_machine.specs.Runs.{IsLeft, Runs, SameNext, before, kept_state}
use Rattle.paris_machine.proofs.CutRuns.{stopped_at_turn, two_runs}
use Rattle.paris_machine.proofs.Same.{bits_after}
use Rattle.point_runs.specs.Courses.{Course, IsCourse, joined}
use Rattle.point_runs.specs.Points.{point_at, start_at}
use Rattle.point_runs.specs.Starts.{Origin}
use Rattle.point_laws.specs.Joined.{HasBits, ResumesWell}
use Rattle.point_laws.proofs.Listed.{from_kept}
use Rattle.point_laws.proofs.Restoring.{restored_same}
use Rattle.point_laws.proofs.Steady.{Steady, Leads, code_steady, steady_same, step_leads}

abbrev over : Rest
over = record { bytes = []; mark = End }

left_nothing : (ended : Bool) → IsLeft ended (Some E.Stopped) over
left_nothing true = refl
left_nothing false = tt

-- the memory where a run stopped
stopped_steady : (shapes : List SetShape) (w : Winner) (t : CodeState) (x : Next) → Leads shapes w x → SameNext shapes x (Ends Stopped t) → Steady shapes w t.memory
stopped_steady shapes w t (Ends end s) leads same = steady_same shapes w s.memory t.memory same.1.bits leads
stopped_steady shapes w t (Goes s) leads same = absurd same

module _ (from : Origin) (sound : IsSound from.image) (bits : HasBits (shapes_of from.image) from.memory) (turns more : ℕ) (first second : Course) (one : IsCourse from turns first) (stop : first.end ≡ E.Stopped)
    (two : IsCourse (start_at from.image (point_at from first)) more second) where
  begin : Rest → CodeState
  begin rest = kept_state from.kept turns one.begun rest []

  ran : Runs from.image (λ rest. kept_state from.kept turns one.begun rest []) E.Stopped first.steps (λ rest. kept_state first.stopped first.left first.memory rest first.printed) first.stopped.ended first.taken
  ran = subst (λ (end : RunEnd). Runs from.image (λ rest. kept_state from.kept turns one.begun rest []) end first.steps (λ rest. kept_state first.stopped first.left first.memory rest first.printed) first.stopped.ended first.taken) stop one.ran

  none : first.left ≡ 0
  none = (stopped_at_turn from.image (λ rest. kept_state from.kept turns one.begun rest []) E.Stopped first.steps first.stopped first.left first.memory first.printed first.taken first.stopped.ended ran refl).0

  steady : Steady (shapes_of from.image) from.memory.winner first.memory
  steady =
      let run = ran over (left_nothing first.stopped.ended) in
      let start : CodeState = kept_state from.kept turns one.begun (before first.taken over) [] in
      let began = steady_same (shapes_of from.image) from.memory.winner from.memory one.begun one.same (record { same = refl; bits = bits }) in
      let mid = code_steady from.image from.memory.winner run.0 start run.2.0 (ap (λ (r : Reached). r.next) run.2.1) began in
      stopped_steady (shapes_of from.image) from.memory.winner (kept_state first.stopped first.left first.memory over first.printed) (step from.image run.2.0) (step_leads from.image from.memory.winner run.2.0 mid) run.2.2

  some : 1 ≤ first.steps
  some = let run = ran over (left_nothing first.stopped.ended) in omega (arith, run.1)

  as_one : IsCourse from (turns + more) (joined first second)
  as_one = record {
    begun = one.begun;
    same = one.same;
    ran =
        two_runs from.image sound from.kept first.stopped second.stopped turns more second.left one.begun first.memory two.begun second.memory first.steps second.steps (first.steps + second.steps - 1) second.end first.printed second.printed first.taken second.taken
        (bits_after (shapes_of from.image) first.memory (start_at from.image (point_at from first)).memory two.begun two.same (restored_same (shapes_of from.image) first.memory from.memory.winner steady.bits (sym steady.same)))
        (subst (λ (left : ℕ). Runs from.image (λ rest. kept_state from.kept turns one.begun rest []) E.Stopped first.steps (λ rest. kept_state first.stopped left first.memory rest first.printed) first.stopped.ended first.taken) none ran)
        two.ran two.over (omega (arith, some));
    over = λ past.
        let ended = one.over past in
        let last = two.over ended.0 in
        (last.0, ap (λ (xs : List ℕ). xs ++ second.taken) ended.1 ∙ last.1, last.2);
  }

-- bytes that keep a run determine where it goes on
pub resumes_well : (bytes : List ℕ) → ResumesWell bytes
resumes_well bytes to more second resumes ran from turns first keeps =
    as_one from keeps.origin.sound keeps.origin.bits turns more first second keeps.ran keeps.stopped (from_kept bytes from turns first to more second keeps resumes ran)
