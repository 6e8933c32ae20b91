-- A run of the machine comes to the end of the code, to which the meaning leads too.
use Rattle.std.proofs.Common.{◌≡◌, ◌∙◌, ℕ, zero, suc, ◌+◌, [], refl, sym, ap, subst}
use Rattle.paris_code.specs.declared.program.Image.{Image}
use Rattle.paris_code.specs.Code as Machine
use Rattle.paris_code.specs.Code.{CodeEnd, CodeState, Ends, Goes, Next, Reached, Rest, code, go_on, step}
use Rattle.paris_code.specs.Memory.{SameBits}
use Rattle.paris_code.specs.Shapes.{shapes_of}
use Rattle.paris_machine.specs.Runs.{kept_state}
use Rattle.paris_machine.proofs.Cut.{Goes_by, code_append}
use Rattle.point_runs.specs.Courses.{Course}
use Rattle.point_runs.specs.Starts.{Origin, new_start}
use Rattle.source_meaning.specs.Programs.{Done, End, EndsEarly, Run, meaning}
use Rattle.source_meaning.specs.State as Source
use Rattle.accepted_code.proofs.EveryUnit.{scalar_means}
use Rattle.code_follows.specs.Agreement.{ComesTo, end_of_run, mark_of}
use Rattle.turn_laws.proofs.Courses.{left_by, run_on}
use Rattle.turn_laws.proofs.Turning.{EndsAt, RunsTo, ends_at, told}
use Rattle.turn_laws.specs.Turns.{RunsOn}
use Rattle.scalar_runs.specs.Laws.{IsRunOf, ScalarRunsMeanTheirText, told_end}

module _ (image : Image) where
  -- code ends once
  ends_once : (k m : ℕ) (s : CodeState) (e f : CodeEnd) (t u : CodeState) → (code image k s).next ≡ Ends e t → (code image m s).next ≡ Ends f u → Ends e t ≡ Ends f u
  unfolding code
  ends_once zero m s e f t u one two = cc
  ends_once (suc k) zero s e f t u one two = cc
  ends_once (suc k) (suc m) s e f t u one two = by (step image s) one two (λ v. ends_once k m v e f t u)
    where
      by : (x : Next) → (go_on (λ v. code image k v) x).next ≡ Ends e t → (go_on (λ v. code image m v) x).next ≡ Ends f u → ((v : CodeState) → (code image k v).next ≡ Ends e t → (code image m v).next ≡ Ends f u → Ends e t ≡ Ends f u) → Ends e t ≡ Ends f u
      by (Goes v) one two again = again v one two
      by (Ends g v) one two again = sym one ∙ two

  ends_behind : (n : ℕ) (s mid t : CodeState) (e : CodeEnd) → Goes_by image n s mid → step image mid ≡ Ends e t → (code image (n + 1) s).next ≡ Ends e t
  unfolding code
  ends_behind n s mid t e goes ends = ap (λ (r : Reached). r.next) (code_append image n 1 s mid goes) ∙ ap (λ (x : Next). (go_on (λ v. code image 0 v) x).next) ends

told_same : (end : End) → told (end_of_run end) ≡ told_end end
told_same Done = refl
told_same (EndsEarly (Source.Fault fault place position)) = refl
told_same (EndsEarly Source.Stopped) = refl
told_same (EndsEarly Source.InputBroken) = refl

end_in : CodeEnd → Next → CodeEnd
end_in d (Ends e t) = e
end_in d (Goes t) = d

state_in : CodeState → Next → CodeState
state_in d (Ends e t) = t
state_in d (Goes t) = t

-- A run of the machine to an end of its code, where from its beginning the code comes to the end of a run of the source
module _ (from : Origin) (given : Rest) (turns : ℕ) (course : Course) (on : RunsOn from given turns course) (run : Run) (comes : ComesTo from.image (kept_state from.kept turns on.ran.begun given []) run) where
  ran : RunsTo from.image (kept_state from.kept turns on.ran.begun given []) course.end course.steps (left_by course on.given.0)
  ran = run_on from given turns course on

  at : EndsAt from.image ran.2.0 course.end (left_by course on.given.0)
  at = ends_at from.image ran.2.0 (left_by course on.given.0) course.end on.whole ran.2.2

  ends_so : Ends at.last at.state ≡ Ends (end_of_run run.end) comes.last
  ends_so =
      ends_once from.image (ran.0 + 1) comes.steps (kept_state from.kept turns on.ran.begun given []) at.last (end_of_run run.end) at.state comes.last
      (ends_behind from.image ran.0 (kept_state from.kept turns on.ran.begun given []) ran.2.0 at.state at.last ran.2.1 at.ends) comes.ends

  state : at.state ≡ comes.last
  unfolding state_in
  state = ap (λ (x : Next). state_in (kept_state from.kept turns on.ran.begun given []) x) ends_so

  -- the run is that of the source
  pub is_run : IsRunOf run course
  unfolding end_in
  is_run = record {
    end = at.is ∙ ap told (ap (λ (x : Next). end_in Machine.Done x) ends_so) ∙ told_same run.end;
    left = ap (λ (x : CodeState). x.turns) at.same.rest ∙ ap (λ (x : CodeState). x.turns) state ∙ comes.turns;
    printed = ap (λ (x : CodeState). x.output) at.same.rest ∙ ap (λ (x : CodeState). x.output) state ∙ comes.output;
  }

  -- and it leaves the bits that the code leaves
  pub same_bits : SameBits (shapes_of from.image) course.memory comes.last.memory
  same_bits = subst (λ (x : CodeState). SameBits (shapes_of from.image) course.memory x.memory) state at.same.bits

pub scalar_runs : ScalarRunsMeanTheirText
scalar_runs text typed image short is none compiled winner input rest turns course are on =
    is_run (new_start image winner) (record { bytes = input; mark = mark_of rest }) turns course on (meaning typed input rest turns winner) (scalar_means text typed image short is none compiled on.ran.begun input rest turns winner are)
