-- A run that is cut in two: it stops, and goes on from there with more turns.
use Rattle.std.specs.Prelude.{◌≡◌, ℕ, ◌+◌, List, [], ◌++◌, Some}
use Rattle.paris_code.specs.declared.program.Image.{Image}
use Rattle.paris_code.specs.Code.{CodeState, Next, Goes, Ends, Stopped, Reached, code}
use Rattle.paris_code.specs.Memory.{BitMemory, SameBits}
use Rattle.paris_code.specs.Shapes.{shapes_of}
use Rattle.front_end.specs.declared.kept.Kept.{Kept}
use Rattle.paris_machine.specs.declared.outcome.End.{End as RunEnd}
use Rattle.paris_machine.specs.declared.outcome.End.TheVariants as E
use Rattle.paris_machine.specs.Runs.{Runs, StaysOver, kept_state}

-- the state with so many turns more
abbrev pub with_more : ℕ → CodeState → CodeState
with_more more s = record s { turns = s.turns + more }

-- the state, what it leads to and what a run of it comes to, where this was printed before, and so
-- many instructions were begun
abbrev pub printed_behind : List ℕ → CodeState → CodeState
printed_behind printed s = record s { output = printed ++ s.output }

abbrev pub next_behind : List ℕ → Next → Next
next_behind printed (Goes s) = Goes (printed_behind printed s)
next_behind printed (Ends end s) = Ends end (printed_behind printed s)

abbrev pub behind : ℕ → List ℕ → Reached → Reached
behind steps printed r = record { next = next_behind printed r.next; steps = steps + r.steps }

-- Code that stopped at its last instruction and goes on from there with new turns comes to the same
-- as with those turns more from the start: the same end, turns, bits and rest of the input, the
-- outputs joined, and one instruction fewer, since the turn that stopped is begun again.
abbrev pub CodeInTwo : Image → Type 0
CodeInTwo image =
    (s t : CodeState) (before turns after : ℕ) → code image (before + 1) s ≡ record { next = Ends Stopped t; steps = before + 1 }
    → code image (before + after) (with_more turns s) ≡ behind before t.output (code image after (record t { turns = turns; output = [] }))

-- The same of runs of the machine, the second from the state that the first left, with bits that are
-- the same but for those that no set has. An input that ended in the first is not read in the second.
abbrev pub RunsInTwo : Image → Type 0
RunsInTwo image =
    (first stopped last : Kept) (turns more left : ℕ) (old between restored new : BitMemory) (one two steps : ℕ) (end : RunEnd) (printed text taken rest : List ℕ)
    → SameBits (shapes_of image) restored between
    → Runs image (λ input. kept_state first turns old input []) E.Stopped one (λ input. kept_state stopped 0 between input printed) stopped.ended taken
    → Runs image (λ input. kept_state stopped more restored input []) end two (λ input. kept_state last left new input text) last.ended rest
    → StaysOver stopped.ended (Some end) last.ended rest
    → steps + 1 ≡ one + two
    → Runs image (λ input. kept_state first (turns + more) old input []) end steps (λ input. kept_state last left new input (printed ++ text)) last.ended (taken ++ rest)
