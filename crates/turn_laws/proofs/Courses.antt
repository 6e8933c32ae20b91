-- Runs of the machine with more turns.
use Rattle.std.proofs.Common.{◌≡◌, ◌∙◌, ℕ, ◌+◌, ◌++◌, List, [], refl, sym, ap, subst}
use Rattle.std.proofs.lemmas.List.{append_cancel_right}
use Rattle.paris_code.specs.Code.{CodeState, Rest}
use Rattle.paris_code.specs.Memory.{SameBits}
use Rattle.paris_code.specs.Shapes.{SetShape, shapes_of}
use Rattle.paris_code.specs.Sound.{IsSound}
use Rattle.paris_machine.specs.Cut.{with_more}
use Rattle.paris_machine.specs.Runs.{SameState, before, kept_state}
use Rattle.paris_machine.proofs.Same.{bits_after}
use Rattle.point_runs.specs.Courses.{Course}
use Rattle.point_runs.specs.Starts.{Origin}
use Rattle.turn_laws.specs.Turns.{IsInputOf, IsSameRun, PrintsOn, RunsOn}
use Rattle.turn_laws.proofs.Turning.{RunsTo, more_turns}

-- the state that a course left, with this rest of the input
abbrev pub left_by : Course → Rest → CodeState
left_by course later = kept_state course.stopped course.left course.memory later course.printed

-- the run on the input
pub run_on : (from : Origin) (input : Rest) (turns : ℕ) (course : Course) (on : RunsOn from input turns course) → RunsTo from.image (kept_state from.kept turns on.ran.begun input []) course.end course.steps (left_by course on.given.0)
run_on from input turns course on =
    subst (λ (rest : Rest). RunsTo from.image (kept_state from.kept turns on.ran.begun rest []) course.end course.steps (left_by course on.given.0)) (sym on.given.2) (on.ran.ran on.given.0 on.given.1)

taken_same : (input one two : Rest) (some all : List ℕ) → two ≡ one → input ≡ before some one → input ≡ before all two → all ≡ some
taken_same input one two some all rests was is =
    append_cancel_right all some one.bytes (ap (λ (rest : Rest). all ++ rest.bytes) (sym rests) ∙ sym (ap (λ (rest : Rest). rest.bytes) is) ∙ ap (λ (rest : Rest). rest.bytes) was)

same_run : (from : Origin) (input : Rest) (more : ℕ) (first second : Course) (one : IsInputOf input first) (two : IsInputOf input second)
    → (second.end ≡ first.end) × (second.steps ≡ first.steps) × SameState (shapes_of from.image) (with_more more (left_by first one.0)) (left_by second two.0) → IsSameRun from more first second
same_run from input more first second one two (end, steps, same) = record {
  end = end;
  steps = steps;
  left = ap (λ (s : CodeState). s.turns) same.rest;
  taken = taken_same input one.0 two.0 first.taken second.taken (ap (λ (s : CodeState). s.input) same.rest) one.2 two.2;
  printed = ap (λ (s : CodeState). s.output) same.rest;
  bits = same.bits;
}

-- what a run prints is the beginning of what it prints with more turns
pub prints_on : (from : Origin) → IsSound from.image → PrintsOn from
prints_on from sound input turns more first second one two =
    let shapes : List SetShape = shapes_of from.image in
    let begun : SameBits shapes from.memory one.ran.begun = record { bits = λ set p i a b c. sym (one.ran.same.bits set p i a b c); winner = sym one.ran.same.winner } in
    let start : SameState shapes (kept_state from.kept (turns + more) one.ran.begun input []) (kept_state from.kept (turns + more) two.ran.begun input []) =
    record { bits = bits_after shapes one.ran.begun from.memory two.ran.begun two.ran.same begun; rest = refl } in
    let both = more_turns from.image sound more (kept_state from.kept turns one.ran.begun input []) (kept_state from.kept (turns + more) two.ran.begun input []) (left_by first one.given.0) (left_by second two.given.0) first.end second.end first.steps second.steps start one.whole two.whole (run_on from input turns first one) (run_on from input (turns + more) second two) in
    (both.0, λ none. same_run from input more first second one.given two.given (both.1 none))
