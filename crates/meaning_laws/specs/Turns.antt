-- The meaning of a program with some turns, and with more.
use Rattle.std.specs.Prelude.{◌≡◌, ◌≤◌, ◌+◌, ℕ, List, ◌++◌}
use Rattle.cstar_base.specs.declared.operators.Winner.{Winner}
use Rattle.cstar_tree.specs.declared.typed.Typed.{Typed}
use Rattle.source_meaning.specs.Programs.{EndsEarly, Run, meaning}
use Rattle.source_meaning.specs.State.{Rest, State, Stopped}

-- the state with so many turns more
abbrev pub with_more : ℕ → State → State
with_more m st = record st { turns = st.turns + m }

-- the bytes are the beginning of all
abbrev pub Begins : List ℕ → List ℕ → Type 0
Begins bytes all = (more : List ℕ) × (all ≡ bytes ++ more)

-- a run leaves no more turns than it was given
abbrev pub TurnsNeverRise : Type 0
TurnsNeverRise = (typed : Typed) (input : List ℕ) (rest : Rest) (turns : ℕ) (winner : Winner) → (meaning typed input rest turns winner).final.turns ≤ turns

-- What a program prints is the beginning of what it prints with more turns on the same input, and a run
-- that did not stop is the same with more turns, which it leaves.
abbrev pub MoreTurnsPrintOn : Type 0
MoreTurnsPrintOn =
    (typed : Typed) (input : List ℕ) (rest : Rest) (turns more : ℕ) (winner : Winner) →
    let first : Run = meaning typed input rest turns winner in
    let second : Run = meaning typed input rest (turns + more) winner in
    Begins first.final.output second.final.output × ((first.end ≡ EndsEarly Stopped → ⊥) → second ≡ record { end = first.end; final = with_more more first.final })
